-- Marks in other sizes show the same set, as long as it is in range of both.
use mathlib.Core.Path.{◌≡◌, refl, sym, ◌∙◌}
use mathlib.Core.Bool.{Bool, true, false, cond}
use mathlib.Core.List.{List}
use Prim.Native.Nat.{ℕ, ◌<◌, ◌≤◌}
use native.Mathlib.Omega.{arith}
use lib.Dec.{ltb}
use lib.ListN.{get_or}
use borrow.Author.Tests.{lt-ltb, ltb-true}
use Rattle.base.specs.Filled.{Filled}
use Rattle.base.proofs.BytesFilled.{filled_bits}
use Rattle.program.specs.declared.sizes.Sizes.{Sizes}
use Rattle.program.specs.Chosen.{numbers}
use Rattle.program.specs.Program.{Program}
use Rattle.reach.specs.Configurations.{Set, Usable, InRange, PartsOf, number, routine_of, node_of, root_of, state_of}
use Rattle.reach.specs.Marks.{Shows, fresh_at}
use Rattle.reach.specs.Ranged.{Ranged}
use Rattle.reach.specs.Reachable.{Reachable}
use Rattle.reach.proofs.Numbers.{routine-of, node-of, root-of, state-of, number_fits, parts_routine, parts_node, parts_root, parts_state}
use Rattle.reach.proofs.MarksShown.{one_list, reachable_shown}
use Rattle.reach.proofs.ProgramInSizes.{reachable_in_range}
use Rattle.resize.specs.Resized.{Alike, renumbered}

-- ---- one byte

-- what is in range of sizes Y, and at a node of sizes Z, is in range of Z
pub alike_range : {Z Y : Sizes} → Alike Z Y → {f n r q : ℕ} → InRange Y f n r q → n < Z.nodes → InRange Z f n r q
alike_range a k h =
    record { routine = rw a.routines k.routine; node = h; root = rw a.states k.root; state = rw a.states k.state }

-- the byte that is written for the parts of a number
pub by_parts : (Z : Sizes) {Y : Sizes} (old : List ℕ) {i f n r q : ℕ} → PartsOf Y i f n r q
    → cond (ltb n Z.nodes) (get_or old (number Z f n r q) 0) 0 ≡ renumbered Z Y old i
by_parts Z old c = rw (parts_routine c, parts_node c, parts_root c, parts_state c)

byte_small : (Z Y : Sizes) (old : List ℕ) → ((i : ℕ) → get_or old i 0 ≤ 1) → (i : ℕ) → renumbered Z Y old i ≤ 1
byte_small Z Y old b i = go (ltb (node_of Y i) Z.nodes)
  where
    go : (t : Bool) → cond t (get_or old (number Z (routine_of Y i) (node_of Y i) (root_of Y i) (state_of Y i)) 0) 0 ≤ 1
    go true = b _
    go false = omega arith

-- ---- all of them

module _ {Z Y : Sizes} {S : Set} {old new : List ℕ} (a : Alike Z Y) (h : Shows Z S old) (w : Filled (renumbered Z Y old) (numbers Y) new)
    (in_range : (f n r q : ℕ) → S f n r q → InRange Z f n r q) where
  at_number : {f n r q : ℕ} → InRange Y f n r q → get_or new (number Y f n r q) 0 ≡ cond (ltb n Z.nodes) (get_or old (number Z f n r q) 0) 0
  at_number {f} {n} {r} {q} k = w.byte _ (number_fits k) ∙ rw (routine-of k, node-of k, root-of k, state-of k)

  pub resized : Shows Y S new
  resized =
      record {
        len = w.len;
        bit = filled_bits w (byte_small Z Y old h.bit);
        shown = λ {f} {n} {r} {q} k. (
          λ e. go f n r q k (ltb n Z.nodes) refl (sym (at_number k) ∙ e),
          λ s. let i = in_range f n r q s in at_number k ∙ rw (lt-ltb n Z.nodes i.node) ((h.shown i).1 s),
        );
      }
    where
      go : (f n r q : ℕ) → InRange Y f n r q → (t : Bool) → ltb n Z.nodes ≡ t → cond t (get_or old (number Z f n r q) 0) 0 ≡ 1 → S f n r q
      go f n r q k true t e = (h.shown (alike_range a k (ltb-true n Z.nodes t))).0 e
      go f n r q k false t e = absurd (omega (arith, e))

-- a program's own marks in sizes Z are its own in sizes Y, where it is within both
pub resized_fresh : {Z Y : Sizes} (U : Usable Z) (U' : Usable Y) (p : Program) → Ranged Z p → Ranged Y p → Alike Z Y → {old new : List ℕ} → old ≡ fresh_at Z p
    → Filled (renumbered Z Y old) (numbers Y) new → new ≡ fresh_at Y p
resized_fresh {Z} {Y} U U' p z y a {old} o w =
    let h : Shows Z (Reachable p) old = rw o (reachable_shown Z U p z) in
    one_list Y U' (resized a h w (λ f n r q d. reachable_in_range Z U p z d)) (reachable_shown Y U' p y)
