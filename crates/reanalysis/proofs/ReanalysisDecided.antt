-- The searches that decide whether a component is worked anew.
use mathlib.Core.Path.{◌≡◌, refl, ◌∙◌}
use mathlib.Core.Logic.{◌⊎◌, inl, inr, ◌≢◌}
use mathlib.Core.Bool.{Bool, true, false, not}
use mathlib.Core.List.{List}
use Prim.Native.Nat.{ℕ, ◌≤◌, ◌<◌}
use native.Mathlib.Omega.{arith}
use native.Mathlib.Decide.{ℕ_discrete}
use lib.Dec.{eqb}
use lib.ListN.{length, get_or, take, length-take}
use Rattle.std.proofs.Common.{get_or-take}
use borrow.Author.Tests.{eqb-true, eqb-false, eq-eqb, ne_eqb}
use Rattle.std.specs.Bool.{MatchBool}
use Rattle.std.specs.List.{HoldsAt, AllWithin, range_with_len}
use Rattle.std.proofs.lemmas.List.FromFn.{length-range_with_len, get_or-range_with_len}
use Rattle.program.specs.declared.sizes.Sizes.{Sizes}
use Rattle.program.specs.Program.{Program, called_by}
use Rattle.reach.specs.Configurations.{Usable, InRange, number}
use Rattle.reach.specs.Ranged.{Ranged}
use Rattle.reach.specs.Worklist.{summary}
use Rattle.reach.specs.Marks.{Marked}
use Rattle.callgraph.proofs.CallsByKey.{edge_at, KeysOf, key_step, step_key}
use Rattle.reanalysis.specs.Parts.{Differs, DiffersAt, DiffersWith, CallsDiffering, Says, SomeDiffering}

-- ---- a test that is true or false

pub said_yes : {X : Type 0} → X → Says true X
said_yes x = record { if_yes = λ e. x; if_no = λ e. absurd (let z : ◌≡◌ {A = ℕ} 0 1 = cc in omega arith) }

pub said_no : {X : Type 0} → (¬ X) → Says false X
said_no n = record { if_yes = λ e. absurd (let z : ◌≡◌ {A = ℕ} 0 1 = cc in omega arith); if_no = λ e. n }

pub says_by : {r : Bool} {X Y : Type 0} → (X → Y) → (Y → X) → Says r X → Says r Y
says_by f g s = record { if_yes = λ e. f (s.if_yes e); if_no = λ e y. s.if_no e (g y) }

-- ---- whether one of the numbers below n, or one of the items of a list, is such

pub record SomeOf (P : ℕ → Type 0) (n : ℕ) : Type 0 where
  pub at : ℕ
  pub below : at < n
  pub holds : P at

-- as `any` answers it over a list
abbrev pub AnyOf : (ℕ → Type 0) → List ℕ → Bool → Type 0
AnyOf P xs r =
    MatchBool r ((k : ℕ) × (k < length xs) × HoldsAt P xs k) (AllWithin (λ x. ¬ (P x)) xs 0 (length xs))

pub any_item : (P : ℕ → Type 0) (xs : List ℕ) (r : Bool) → AnyOf P xs r
    → Says r (SomeOf (λ k. P (get_or xs k 0)) (length xs))
any_item P xs true h = said_yes (record { at = h.0; below = h.1; holds = h.2 0 })
any_item P xs false h = said_no (λ d. h d.at 0 (omega arith) d.below d.holds)

pub any_number : (P : ℕ → Type 0) (n : ℕ) (r : Bool) → AnyOf P (range_with_len 0 n) r → Says r (SomeOf P n)
any_number P n r h =
    let numbers = range_with_len 0 n in
    let e : (k : ℕ) → k < n → get_or numbers k 0 ≡ k = λ k b. get_or-range_with_len 0 n k 0 b ∙ omega arith in
    says_by
    (λ d.
    let b : d.at < n = rw length-range_with_len at d.below in
    record { at = d.at; below = b; holds = rw (e d.at b) at d.holds })
    (λ d. record { at = d.at; below = rw length-range_with_len d.below; holds = rw (e d.at d.below) d.holds })
    (any_item P numbers r h)

-- ---- flags that differ

abbrev Apart : ℕ → ℕ → Type 0
Apart b m = ((b ≢ 0) × (m ≡ 0)) ⊎ ((b ≡ 0) × (m ≢ 0))

set_apart : (b m : ℕ) → not (eqb b 0) ≢ not (eqb m 0) → Apart b m
set_apart b m h = go (eqb b 0) refl (eqb m 0) refl h
  where
    go : (x : Bool) → eqb b 0 ≡ x → (y : Bool) → eqb m 0 ≡ y → not x ≢ not y → Apart b m
    go true e true f h = absurd (h refl)
    go true e false f h = inr (eqb-true b 0 e, eqb-false m 0 f)
    go false e true f h = inl (eqb-false b 0 e, eqb-true m 0 f)
    go false e false f h = absurd (h refl)

apart_set : (b m : ℕ) → Apart b m → not (eqb b 0) ≢ not (eqb m 0)
apart_set b m (inl x) e =
    let s : not (eqb b 0) ≡ true = rw (ne_eqb b 0 x.0) in
    let t : not (eqb m 0) ≡ false = rw (eq-eqb m 0 x.1) in
    let z : ◌≡◌ {A = ℕ} 0 1 = cc in
    omega arith
apart_set b m (inr x) e =
    let s : not (eqb b 0) ≡ false = rw (eq-eqb b 0 x.0) in
    let t : not (eqb m 0) ≡ true = rw (ne_eqb m 0 x.1) in
    let z : ◌≡◌ {A = ℕ} 0 1 = cc in
    omega arith

module _ {Z : Sizes} (U : Usable Z) (before marks : List ℕ) (g : ℕ) (hg : g < Z.routines) where
  module _ (r q : ℕ) (hr : r < Z.states) (hq : q < Z.states) where
    exit_range : InRange Z g 1 r q
    exit_range = record { routine = hg; node = omega (arith, U.nodes); root = hr; state = hq }

    apart_differs : DiffersAt Z before marks g r q → Differs Z before marks g
    apart_differs a =
        record {
          root = r;
          state = q;
          root_small = hr;
          state_small = hq;
          differs = elim (set_apart (get_or before (summary Z g r q) 0) (get_or marks (number Z g 1 r q) 0) a) [
            | inl x ↦ inl (x.0, λ m. m.1 x.1)
            | inr x ↦ inr (x.0, (exit_range, x.1))
          ];
        }

    differs_apart : ((get_or before (summary Z g r q) 0 ≢ 0) × (¬ (Marked Z marks g 1 r q)))
        ⊎ ((get_or before (summary Z g r q) 0 ≡ 0) × Marked Z marks g 1 r q)
        → DiffersAt Z before marks g r q
    differs_apart d =
        apart_set (get_or before (summary Z g r q) 0) (get_or marks (number Z g 1 r q) 0)
        (elim d [ inl x ↦ inl (x.0, zero (λ z. x.1 (exit_range, z))) | inr x ↦ inr (x.0, x.1.1) ])
      where
        zero : ¬ (get_or marks (number Z g 1 r q) 0 ≢ 0) → get_or marks (number Z g 1 r q) 0 ≡ 0
        zero h = elim (ℕ_discrete (get_or marks (number Z g 1 r q) 0) 0) [ yes e ↦ e | no e ↦ absurd (h e) ]

  pub found_differs : (r : ℕ) → r < Z.states → DiffersWith Z before marks g r → Differs Z before marks g
  found_differs r h a = apart_differs r a.state h a.small a.differs

  pub differs_with : Differs Z before marks g → SomeOf (λ r. DiffersWith Z before marks g r) Z.states
  differs_with d =
      record {
        at = d.root;
        below = d.root_small;
        holds = record {
          state = d.state;
          small = d.state_small;
          differs = differs_apart d.root d.state d.root_small d.state_small d.differs;
        };
      }

-- ---- the edges that decide, by their keys

module _ {Z : Sizes} {p : Program} {members before marks keys : List ℕ} {count : ℕ} (o : KeysOf p keys count) (k : Ranged Z p) where
  pub differing_call : SomeDiffering Z members before marks keys count → CallsDiffering Z p members before marks
  differing_call s =
      let d = s.differing in
      let e = edge_at keys s.at in
      record {
        member = e.routine;
        called = called_by e.label;
        is_member = d.is_member;
        calls = record { source = e.source; target = e.target; edge = key_step o s.at s.below d.is-call };
        outside = d.outside;
        differing = d.differing;
      }

  pub call_differing : CallsDiffering Z p members before marks → SomeDiffering Z members before marks keys count
  call_differing c =
      let z = step_key o c.calls.edge in
      record {
        at = z.place;
        below = z.within;
        differing = record {
          is_member = rw z.caller at c.is_member;
          is-call = z.is-call;
          small = rw z.called at (k.called c.calls.edge);
          outside = rw z.called at c.outside;
          differing = rw z.called at c.differing;
        };
      }

-- the first keys of a list, and the list up to there
module _ {Z : Sizes} {members before marks keys : List ℕ} {count : ℕ} (h : count ≤ length keys) where
  pub front_differing : SomeDiffering Z members before marks (take count keys) (length (take count keys))
      → SomeDiffering Z members before marks keys count
  front_differing d =
      let b : d.at < count = omega (arith, d.below, length-take count keys) in
      record { at = d.at; below = b; differing = rw (get_or-take count keys d.at 0 b) at d.differing }

  pub differing_front : SomeDiffering Z members before marks keys count
      → SomeDiffering Z members before marks (take count keys) (length (take count keys))
  differing_front d =
      record {
        at = d.at;
        below = omega (arith, d.below, length-take count keys);
        differing = rw (get_or-take count keys d.at 0 d.below) d.differing;
      }
