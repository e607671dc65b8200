-- The violations are the rejecting ones among the configurations that occur.
use mathlib.Core.Path.{◌≡◌, refl, sym}
use mathlib.Core.Logic.{◌↔◌, ◌≢◌, inl, inr}
use mathlib.Core.Bool.{Bool, true, false, cond, ◌&&◌, not}
use mathlib.Core.Option.{Option, some}
use mathlib.Core.List.Memᴰ
use mathlib.Core.List.{List, [], ◌∷◌, Memᴰ}
use Prim.Native.Nat.{ℕ, zero, suc, ◌+◌, ◌≤◌, ◌<◌}
use native.Mathlib.Omega.{arith}
use native.Mathlib.Nat.{le_refl, le_trans}
use lib.ListN.{get_or, length}
use lib.Dec.{eqb, leb}
use borrow.Author.Tests.{eqb-false, ne_eqb, leb-true, leb-false, not-true}
use Rattle.automaton.specs.Automaton.{is_rejecting}
use Rattle.program.specs.Program.{Program}
use Rattle.base.proofs.Bools.{both}
use Rattle.reach.specs.Configurations.{state_of}
use Rattle.reach.specs.Runs.{Occurs}
use Rattle.reach.specs.Marks.{Shows, fresh_at, violates, front_when, violations_from, first_from}
use Rattle.base.specs.Flags.{count_set}
use Rattle.reach.specs.Violations.{Violation, Ascends, all_passed, rises, First, nowhere, at}
use Rattle.reach.proofs.MarksShown.{shown_at, one_of}
use Rattle.program.specs.declared.sizes.Sizes.{Sizes}
use Rattle.program.specs.Chosen.{numbers}
use Rattle.reach.specs.Configurations.{Usable}

-- ---- numbers that ascend

lower : {a b : ℕ} {vs : List ℕ} → a ≤ b → Ascends b vs → Ascends a vs
lower h all_passed = all_passed
lower h (rises k t) = rises (le_trans h k) t

at_least : {a w : ℕ} {vs : List ℕ} → Ascends a vs → Memᴰ w vs → a ≤ w
at_least all_passed m = elim m [ ]
at_least (rises k t) (Memᴰ.head e) = omega arith
at_least (rises k t) (Memᴰ.tail m) = let h = at_least t m in omega arith

first_same : {A B : ℕ → Type 0} {low : ℕ} {o : Option ℕ} → ((w : ℕ) → A w ↔ B w) → First A low o → First B low o
first_same e (nowhere x) = nowhere (λ w y. x w ((e w).1 y))
first_same e (at {v = v} y h x) = at ((e v).0 y) h (λ w z. x w ((e w).1 z))

abbrev pub In : List ℕ → ℕ → Type 0
In vs w = Memᴰ w vs

here : {low v : ℕ} {vs : List ℕ} → low ≤ v → Ascends (v + 1) vs → First (In (v ∷ vs)) low (some v)
here {low} {v} {vs} h t = at (Memᴰ.head refl) h (λ w m g. least m)
  where
    least : {w : ℕ} → In (v ∷ vs) w → v ≤ w
    least (Memᴰ.head e) = omega arith
    least (Memᴰ.tail m) = let k = at_least t m in omega arith

later : {low v : ℕ} {vs : List ℕ} {o : Option ℕ} → v < low → First (In vs) low o → First (In (v ∷ vs)) low o
later h (nowhere x) = nowhere (λ w m. elim (Memᴰ.cases_cons m) [ inl e ↦ omega arith | inr m' ↦ x w m' ])
later h (at m k x) =
    at (Memᴰ.tail m) k (λ w n g. elim (Memᴰ.cases_cons n) [ inl e ↦ absurd (omega arith) | inr n' ↦ x w n' g ])

step : {low v : ℕ} {vs : List ℕ} {o : Option ℕ} (t : Bool) → leb low v ≡ t → Ascends (v + 1) vs → First (In vs) low o
    → First (In (v ∷ vs)) low (cond t (some v) o)
step {low} {v} true e a x = here (leb-true low v e) a
step {low} {v} false e a x = later (leb-false low v e) x

pub first-from : {a : ℕ} {vs : List ℕ} → Ascends a vs → (low : ℕ) → First (In vs) low (first_from low vs)
unfolding first_from
first-from all_passed low = nowhere (λ w m. elim m [ ])
first-from (rises {v = v} k t) low = step (leb low v) refl t (first-from t low)

-- ---- the violations of a list of marks

front_ascends : (b : Bool) {i : ℕ} {vs : List ℕ} → Ascends (i + 1) vs → Ascends i (front_when b i vs)
front_ascends true t = rises (le_refl _) t
front_ascends false t = lower (omega arith) t

in_front : (t : Bool) {i j : ℕ} {vs : List ℕ} {X : Type 0} → (t ≡ true → j ≡ i → X) → (In vs j → X)
    → In (front_when t i vs) j → X
in_front true f g (Memᴰ.head e) = f refl e
in_front true f g (Memᴰ.tail m) = g m
in_front false f g m = g m

at_front : (t : Bool) {i j : ℕ} (vs : List ℕ) → t ≡ true → j ≡ i → In (front_when t i vs) j
at_front true vs h e = Memᴰ.head e
at_front false vs h e = absurd (let z : ◌≡◌ {A = ℕ} 0 1 = cc in omega arith)

behind : (t : Bool) (i : ℕ) {j : ℕ} {vs : List ℕ} → In vs j → In (front_when t i vs) j
behind true i m = Memᴰ.tail m
behind false i m = m

front_fewer : (t r : Bool) (i : ℕ) (vs : List ℕ) {n : ℕ} → length vs ≤ n → length (front_when (not t && r) i vs) ≤ cond t 0 1 + n
front_fewer true r i vs h = omega arith
front_fewer false true i vs h = omega arith
front_fewer false false i vs h = omega arith

module _ (Z : Sizes) (U : Usable Z) where
  pub violations_ascend : (p : Program) (l : List ℕ) (i : ℕ) → Ascends i (violations_from Z p l i)
  unfolding violations_from
  violations_ascend p [] i = all_passed
  violations_ascend p (b ∷ bs) i = front_ascends (violates Z p b i) (violations_ascend p bs (i + 1))

  -- j is the number of a marked configuration, where the list has the bytes of the numbers from i on, and its state is rejecting
  record Found (p : Program) (l : List ℕ) (i j : ℕ) : Type 0 where
    offset : ℕ
    is : j ≡ i + offset
    inside : offset < length l
    marked : get_or l offset 0 ≢ 0
    rejects : is_rejecting p.automaton (state_of Z j) ≡ true

  further : {p : Program} {b : ℕ} {bs : List ℕ} {i j : ℕ} → Found p bs (i + 1) j → Found p (b ∷ bs) i j
  further x =
      record {
        offset = suc x.offset;
        is = omega (arith, x.is);
        inside = omega (arith, x.inside);
        marked = x.marked;
        rejects = x.rejects;
      }

  found : (p : Program) {j : ℕ} (l : List ℕ) (i : ℕ) → In (violations_from Z p l i) j → Found p l i j
  unfolding violations_from
  found p [] i m = elim m [ ]
  found p {j} (b ∷ bs) i m =
      in_front (violates Z p b i)
      (λ t e.
      let h = both (not (eqb b 0)) (is_rejecting p.automaton (state_of Z i)) t in
      record {
        offset = 0;
        is = omega arith;
        inside = omega arith;
        marked = eqb-false b 0 (not-true (eqb b 0) h.0);
        rejects = rw e h.1;
      })
      (λ m'. further (found p bs (i + 1) m'))
      m

  in_list : (p : Program) {j : ℕ} (l : List ℕ) (i k : ℕ) → j ≡ i + k → k < length l → get_or l k 0 ≢ 0
      → is_rejecting p.automaton (state_of Z j) ≡ true → In (violations_from Z p l i) j
  unfolding violations_from
  in_list p [] i k e h m r = absurd (omega arith)
  in_list p {j} (b ∷ bs) i zero e h m r =
      let e' : j ≡ i = omega arith in
      let r' : is_rejecting p.automaton (state_of Z i) ≡ true = rw (sym e') r in
      at_front (violates Z p b i) (violations_from Z p bs (i + 1)) (rw (ne_eqb b 0 m) r') e'
  in_list p (b ∷ bs) i (suc k) e h m r = behind (violates Z p b i) i (in_list p bs (i + 1) k (omega arith) (omega arith) m r)

  pub violations_fewer : (p : Program) (l : List ℕ) (i : ℕ) → length (violations_from Z p l i) ≤ count_set l
  unfolding violations_from count_set
  violations_fewer p [] i = omega arith
  violations_fewer p (b ∷ bs) i =
      front_fewer (eqb b 0) (is_rejecting p.automaton (state_of Z i)) i (violations_from Z p bs (i + 1)) (violations_fewer p bs (i + 1))

  -- ---- marks of what occurs

  module _ {p : Program} {l : List ℕ} (a : Shows Z (Occurs p) l) where
    pub listed_iff : (i : ℕ) → In (violations_from Z p l 0) i ↔ Violation Z p i
    listed_iff i = (to, from)
      where
        to : In (violations_from Z p l 0) i → Violation Z p i
        to m =
            let x = found p l 0 m in
            let e : x.offset ≡ i = omega (arith, x.is) in
            let h : i < numbers Z = omega (arith, x.inside, a.len) in
            let b : get_or l i 0 ≡ 1 = rw (sym e) (one_of (a.bit x.offset) x.marked) in
            record { inside = h; occurs = (shown_at Z U a i h).0 b; rejects = x.rejects }

        from : Violation Z p i → In (violations_from Z p l 0) i
        from v =
            let e = (shown_at Z U a i v.inside).1 v.occurs in
            in_list p l 0 i (omega arith) (omega (arith, v.inside, a.len)) (λ z. omega arith) v.rejects

    pub next_violation : (low : ℕ) → First (Violation Z p) low (first_from low (violations_from Z p l 0))
    next_violation low = first_same listed_iff (first-from (violations_ascend p l 0) low)

  -- there are at most as many violations as bytes that are set
  pub few_violations : (p : Program) → length (violations_from Z p (fresh_at Z p) 0) ≤ count_set (fresh_at Z p)
  few_violations p = violations_fewer p (fresh_at Z p) 0
