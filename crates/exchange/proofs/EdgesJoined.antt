-- New edges of a routine, put all together where its keys begin, are put each before the first that is above it.
use mathlib.Core.Path.{◌≡◌, refl, ap, sym, ◌∙◌}
use mathlib.Core.Bool.{Bool, true, false, not}
use mathlib.Core.List.{List, [], ◌∷◌, ◌++◌, map}
use Prim.Native.Nat.{ℕ, zero, suc, ◌≤◌, ◌<◌}
use native.Mathlib.Omega.{arith}
use lib.Dec.{leb}
use lib.ListN.{length, take, drop, get_or, length-append, take-append-drop, get_or-append}
use lib.Seq.{take_at, drop_at, get_or_at, get_or-take, length-take-le}
use borrow.Author.Tests.{ltb-true, leb-true, leb-false, eqb-true, eqb-false, lt-ltb, not-true}
use Rattle.tables.specs.Keys.{Ascending, inserted_key, FirstFrom}
use Rattle.tables.proofs.TableChanged.{inserted_at}
use Rattle.program.specs.Program.{Edge}
use Rattle.program.specs.Frames.{edge_key}
use Rattle.program.specs.Decoded.{edge_of}
use Rattle.program.specs.WellFormed.{All}
use Rattle.edit.specs.Editing.{inserted}
use Rattle.edit.proofs.KeysOfEdges.{below_word, edges_inserted}
use Rattle.exchange.specs.Changing.{inserted_all}
use Rattle.exchange.proofs.OtherRoutines.{own, Begins}

all_at : (t : Edge → Bool) (ks : List ℕ) (j : ℕ) → All t (map edge_of ks) → j < length ks → t (edge_of (get_or ks j 0)) ≡ true
unfolding All
all_at t [] j a h = absurd (omega arith)
all_at t (k ∷ ks) zero a h = a.0
all_at t (k ∷ ks) (suc j) a h = all_at t ks j a.1 (omega arith)

-- the keys of a routine are below those of the routines above it
below_routine : (m k f : ℕ) → (edge_of m).routine ≡ f → f < (edge_of k).routine → m < k
below_routine m k f o h = omega arith

module _ {low f at : ℕ} {ks : List ℕ} (begins : Begins low f) (first : FirstFrom low ks at) (none : All (λ e. not (own f e)) (map edge_of ks)) where
  from : (m : ℕ) → own f (edge_of m) ≡ true → low ≤ m
  from m o = go (leb low m) refl
    where
      go : (b : Bool) → leb low m ≡ b → low ≤ m
      go true e = leb-true low m e
      go false e =
          let u = (begins m).0 (leb-false low m e) in
          let v = eqb-true (edge_of m).routine f o in
          absurd (omega arith)

  as_many : length (take at ks) ≡ at
  as_many = length-take-le at ks first.within

  -- the table with so many of the new keys
  abbrev with_new : List ℕ → List ℕ
  with_new ms = take at ks ++ (ms ++ drop at ks)

  next_above : (m : ℕ) → own f (edge_of m) ≡ true → at < length ks → m < get_or ks at 0
  next_above m o h =
      let k = get_or ks at 0 in
      let u = (begins k).1 (first.not-below h) in
      let n = eqb-false (edge_of k).routine f (not-true _ (all_at (λ e. not (own f e)) ks at none h)) in
      below_routine m k f (eqb-true (edge_of m).routine f o) (omega (arith, n))

  above : (m : ℕ) (ms : List ℕ) → own f (edge_of m) ≡ true → Ascending (edge_key (edge_of m)) (map edge_key (map edge_of ms))
      → at < length (with_new ms) → m < get_or (with_new ms) at 0
  unfolding Ascending
  above m [] o s h = rw (take-append-drop at ks) (next_above m o (rw (take-append-drop at ks) at h))
  above m (n ∷ ns) o s h =
      rw (get_or_at (take at ks) n (ns ++ drop at ks) 0 at as_many)
      (ltb-true m n (sym (below_word m n) ∙ lt-ltb (edge_key (edge_of m)) (edge_key (edge_of n)) s.0))

  one_joined : (m : ℕ) (ms : List ℕ) → own f (edge_of m) ≡ true → Ascending (edge_key (edge_of m)) (map edge_key (map edge_of ms))
      → with_new (m ∷ ms) ≡ inserted_key m (with_new ms)
  one_joined m ms o s =
      rw (take_at (take at ks) (ms ++ drop at ks) at as_many, drop_at (take at ks) (ms ++ drop at ks) at as_many) at
      (inserted_at m (with_new ms) at (record {
        within = omega (arith, as_many, length-append (take at ks) (ms ++ drop at ks));
        below = λ i h. rw (get_or-append (take at ks) (ms ++ drop at ks) 0 i (omega (arith, as_many)), get_or-take at ks i 0 h) (omega (arith, first.below i h, from m o));
        not-below = λ h. omega (arith, above m ms o s h);
      }))

  pub all_joined : (lo : ℕ) (ms : List ℕ) → All (own f) (map edge_of ms) → Ascending lo (map edge_key (map edge_of ms))
      → map edge_of (with_new ms) ≡ inserted_all (map edge_of ms) (map edge_of ks)
  unfolding All Ascending inserted_all
  all_joined lo [] o s = ap (map edge_of) (take-append-drop at ks)
  all_joined lo (m ∷ ms) o s =
      ap (map edge_of) (one_joined m ms o.0 s.1) ∙ edges_inserted m (with_new ms)
      ∙ ap (inserted (edge_of m)) (all_joined (edge_key (edge_of m)) ms o.1 s.1)
