-- No configuration is taken more than 1 + R Q Q times, so that many times the count of numbers is enough: once newly marked, and once
-- for each summary that becomes known.
use mathlib.Core.Path.{◌≡◌, refl, sym, ap}
use mathlib.Core.Logic.{◌⊎◌, inl, inr, ◌≢◌}
use mathlib.Core.Option.{Option, none, some}
use mathlib.Core.List.{List, [], ◌∷◌, Memᴰ}
use Prim.Native.Nat.{ℕ, zero, suc, ◌+◌, ◌≤◌, ◌<◌}
use native.Mathlib.Omega.{arith}
use native.Mathlib.Decide.{ℕ_discrete}
use lib.ListN.{length, set}
use borrow.Author.Tests.{eq-eqb, ne_eqb}
use Rattle.program.specs.Program.{Program}
use Rattle.reach.specs.Configurations.{Set, number, routine_of, node_of, root_of, state_of}
use Rattle.reach.specs.Reachable.{Initial}
use Rattle.reach.specs.Worklist.{Worklist, lowest, summary, learn, take_one, work, opened, blank, analysis_at}
use Rattle.reach.specs.Takings.{taken, taken_at, times}
use Rattle.reach.proofs.Numbers.{number-of, root_small, state_small, routine_small, summary_fits}
use Rattle.reach.proofs.ProgramInSizes.{Proper, initial_proper}
use Rattle.base.specs.Flags.{On}
use Rattle.base.proofs.SetFlags.{dec_on, on_lt, set_on, on_set, clear_off, clear_inv}
use Rattle.reach.proofs.LowestPending.{lowest_on}
use Rattle.reach.proofs.ShapeKept.{take_iterations, opened_iterations, work_iterations}
use Rattle.reach.proofs.OneTaking.{Marking, Waking, take_elsewhere, take_exit}
use Rattle.reach.proofs.WorklistInvariant.{Follows, take_follows, opened_follows}
use Rattle.reach.proofs.ExitsSettled.{Settled, take_settled, opened_settled}
use Rattle.reach.proofs.SummariesCounted.{sum_to, sum_most, sum_more, flag, flag_on, flag_off, flag_bit, flag_mono}
use Rattle.reach.proofs.SummariesCounted.{known_count, known_most, known_mono, known_more}
use Rattle.program.specs.declared.sizes.Sizes.{Sizes}
use Rattle.program.specs.Chosen.{numbers}
use Rattle.reach.specs.Sizes.{summaries, enough_iterations}
use Rattle.reach.specs.Configurations.{Usable}
use Rattle.reach.specs.Ranged.{Ranged}

-- ---- how often a number is taken

times_same : (i : ℕ) (is : List ℕ) → times i (i ∷ is) ≡ 1 + times i is
unfolding times
times_same i is = rw (eq-eqb i i refl)

times_other : (j i : ℕ) (is : List ℕ) → j ≢ i → times j (i ∷ is) ≡ times j is
unfolding times
times_other j i is ne = rw (ne_eqb i j (λ e. ne (sym e))) (omega arith)

times_mono : (j i : ℕ) (is : List ℕ) → times j is ≤ times j (i ∷ is)
unfolding times
times_mono j i is = omega arith

length_times : (n : ℕ) (tr : List ℕ) → ((j : ℕ) → Memᴰ j tr → j < n) → length tr ≤ sum_to n (λ j. times j tr)
length_times n [] h = omega arith
length_times n (i ∷ tr) h =
    omega (
      arith,
      length_times n tr (λ j m. h j (Memᴰ.tail m)),
      sum_more n (λ j. times j tr) (λ j. times j (i ∷ tr)) i (λ j. times_mono j i tr) (h i (Memᴰ.head refl)) (omega (arith, times_same i tr)),
    )

module _ (Z : Sizes) (U : Usable Z) where
  -- ---- the bound, while the loop runs

  -- tr has what was taken so far: j was taken or is pending at most once because it was newly marked, and once for each known summary
  abbrev pub Bound : List ℕ → Worklist → ℕ → Type 0
  Bound tr s j = times j tr + flag s.pending j ≤ flag s.marks j + known_count Z U s.known

  pub record Bounded (p : Program) (S : Set) (tr : List ℕ) (s : Worklist) : Type 0 where
    pub follows : Follows Z U p S s
    pub settled : Settled Z U s
    pub bound : (j : ℕ) → Bound tr s j
    pub below : (j : ℕ) → Memᴰ j tr → j < numbers Z

  module _ (p : Program) (S : Set) (z : Ranged Z p) (h : Proper Z p S) (i : ℕ) (tr : List ℕ) (s : Worklist) (v : Bounded p S tr s) (hi : On s.pending i) where
    times_one : (j : ℕ) → times j (i ∷ tr) ≤ times j tr + flag s.pending j
    times_one j =
        elim (ℕ_discrete j i) [
          | yes e ↦ rw e (omega (arith, times_same i tr, flag_on s.pending i hi))
          | no ne ↦ omega (arith, times_other j i tr ne)
        ]

    -- what is pending was so before, or is newly marked, or is woken by one summary more
    abbrev Grows : Worklist → ℕ → Type 0
    Grows t j = On (set s.pending i 0) j ⊎ (flag s.marks j + known_count Z U s.known + 1 ≤ flag t.marks j + known_count Z U t.known)

    grown : (t : Worklist) → ((j : ℕ) → flag s.marks j ≤ flag t.marks j) → known_count Z U s.known ≤ known_count Z U t.known
        → ((j : ℕ) → On t.pending j → Grows t j) → (j : ℕ) → Bound (i ∷ tr) t j
    grown t marks known grows j =
        elim (dec_on t.pending j) [
          | no w ↦ omega (arith, flag_off t.pending j w, times_one j, marks j, known, v.bound j)
          | yes w ↦
              elim (grows j w) [
                | inl x ↦
                    let ne : j ≢ i = λ e. clear_off s.pending i (rw e at x) in
                    let o = clear_inv s.pending i j x in
                    omega (arith, times_other j i tr ne, flag_bit t.pending j, flag_on s.pending j o, marks j, known, v.bound j)
                | inr x ↦ omega (arith, times_one j, flag_bit t.pending j, v.bound j)
              ]
        ]

    elsewhere : (t : Worklist) → Marking Z U p i s t → (j : ℕ) → Bound (i ∷ tr) t j
    elsewhere t k =
        grown t (λ j. flag_mono s.marks t.marks j (λ o. k.keep o)) (omega (arith, same))
        (λ j w.
        elim (k.waits w) [
          | inl x ↦ inl x
          | inr x ↦ inr (omega (arith, same, flag_on t.marks j x.0, flag_off s.marks j x.1))
        ])
      where
        same : known_count Z U t.known ≡ known_count Z U s.known
        same = ap (known_count Z U) k.known

    at_exit : node_of Z i ≡ 1 → (t : Worklist) → Waking Z U p i s t → (j : ℕ) → Bound (i ∷ tr) t j
    unfolding learn
    at_exit is-exit t k =
        grown t (λ j. omega (arith, ap (λ (l : List ℕ). flag l j) k.marks)) (known_mono Z U s.known t.known mono)
        (λ j w. elim (k.waits w) [ inl x ↦ inl x | inr x ↦ inr (omega (arith, ap (λ (l : List ℕ). flag l j) k.marks, more)) ])
      where
        here : ℕ
        here = summary Z (routine_of Z i) (root_of Z i) (state_of Z i)

        mono : (y : ℕ) → On s.known y → On t.known y
        mono y o = rw k.known (on_set s.known here y o)

        small : routine_of Z i < Z.routines
        small = routine_small Z U i (omega (arith, v.follows.shape.pending_length, on_lt s.pending i hi))

        -- an exit that is pending was not taken, so its summary is not known
        not_yet : ¬ (On s.known here)
        not_yet o =
            let e : number Z (routine_of Z i) 1 (root_of Z i) (state_of Z i) ≡ i = rw (← is-exit) (number-of Z i) in
            v.settled.not_pending (routine_of Z i) (root_of Z i) (state_of Z i) small (root_small Z U i) (state_small Z U i) o (rw e hi)

        more : known_count Z U s.known + 1 ≤ known_count Z U t.known
        more =
            let low = summary_fits Z (routine_of Z i) (root_of Z i) (state_of Z i) small (root_small Z U i) (state_small Z U i) in
            known_more Z U s.known t.known mono here low not_yet
            (rw k.known (set_on s.known here (omega (arith, v.follows.shape.known_length))))

    more_below : (j : ℕ) → Memᴰ j (i ∷ tr) → j < numbers Z
    more_below j (Memᴰ.head e) = rw e (omega (arith, v.follows.shape.pending_length, on_lt s.pending i hi))
    more_below j (Memᴰ.tail m) = v.below j m

    pub take_bounded : Bounded p S (i ∷ tr) (take_one Z p i s)
    take_bounded =
        record {
          follows = take_follows Z U p S z h i s v.follows hi;
          settled = take_settled Z U p S z i s v.follows v.settled hi;
          bound = elim (ℕ_discrete (node_of Z i) 1) [
            | yes e ↦ at_exit e (take_one Z p i s) (take_exit Z U p z i s v.follows.shape e)
            | no ne ↦ elsewhere (take_one Z p i s) (take_elsewhere Z U p z i s v.follows.shape ne)
          ];
          below = more_below;
        }

  -- ---- the bounds

  few_times : {p : Program} {S : Set} {tr : List ℕ} {s : Worklist} → Bounded p S tr s → (j : ℕ) → times j tr ≤ 1 + summaries Z
  few_times {p} {S} {tr} {s} v j = omega (arith, v.bound j, flag_bit s.marks j, known_most Z U s.known)

  few_taken : {p : Program} {S : Set} {tr : List ℕ} {s : Worklist} → Bounded p S tr s → length tr ≤ enough_iterations Z
  unfolding enough_iterations
  few_taken {tr = tr} v = omega (arith, length_times (numbers Z) tr v.below, sum_most (numbers Z) (1 + summaries Z) (λ j. times j tr) (few_times v))

  -- nothing was taken yet
  none_taken : (p : Program) (S : Set) (s : Worklist) → Follows Z U p S s → Settled Z U s → Bounded p S [] s
  unfolding times
  none_taken p S s v w =
      record {
        follows = v;
        settled = w;
        bound = λ j. omega (arith, flag_mono s.pending s.marks j (λ o. v.pending o));
        below = λ j m. elim m [ ];
      }

  module _ (p : Program) (S : Set) (z : Ranged Z p) (h : Proper Z p S) where
    ends : (k : ℕ) (o : Option ℕ) (s : Worklist) (tr : List ℕ) → lowest s.pending 0 ≡ o → Bounded p S tr s
        → enough_iterations Z ≤ length tr + k → lowest (work Z k p o s).pending 0 ≡ none
    unfolding work
    ends zero none s tr e v l = e
    ends zero (some i) s tr e v l = absurd (omega (arith, few_taken (take_bounded p S z h i tr s v (lowest_on s.pending i e))))
    ends (suc k) none s tr e v l = e
    ends (suc k) (some i) s tr e v l =
        ends k (lowest (take_one Z p i s).pending 0) (take_one Z p i s) (i ∷ tr) refl (take_bounded p S z h i tr s v (lowest_on s.pending i e)) (omega arith)

    often : (k : ℕ) (o : Option ℕ) (s : Worklist) (tr : List ℕ) → lowest s.pending 0 ≡ o → Bounded p S tr s
        → (j : ℕ) → times j (taken Z k p o s) + times j tr ≤ 1 + summaries Z
    unfolding taken times
    often zero o s tr e v j = omega (arith, few_times v j)
    often (suc k) none s tr e v j = omega (arith, few_times v j)
    often (suc k) (some i) s tr e v j =
        omega (arith, often k (lowest (take_one Z p i s).pending 0) (take_one Z p i s) (i ∷ tr) refl (take_bounded p S z h i tr s v (lowest_on s.pending i e)) j)

    -- from any settled worklist that follows from seeds: so many iterations are enough, and no number is taken more often
    module _ (s : Worklist) (v : Follows Z U p S s) (w : Settled Z U s) where
      pub follow_ends : lowest (work Z (enough_iterations Z) p (lowest s.pending 0) s).pending 0 ≡ none
      follow_ends = ends (enough_iterations Z) (lowest s.pending 0) s [] refl (none_taken p S s v w) (omega arith)

      pub follow_times : (k j : ℕ) → times j (taken Z k p (lowest s.pending 0) s) ≤ 1 + summaries Z
      follow_times k j = omega (arith, often k (lowest s.pending 0) s [] refl (none_taken p S s v w) j)

  -- ---- the full analysis

  -- what is counted is the length of the trace
  taken_count : (k : ℕ) (p : Program) (o : Option ℕ) (s : Worklist) → (work Z k p o s).iterations ≡ s.iterations + length (taken Z k p o s)
  unfolding work taken
  taken_count zero p o s = omega arith
  taken_count (suc k) p none s = omega arith
  taken_count (suc k) p (some i) s = omega (arith, taken_count k p (lowest (take_one Z p i s).pending 0) (take_one Z p i s), take_iterations Z U p i s)

  pub iterations_taken : (p : Program) → (analysis_at Z p).iterations ≡ length (taken_at Z p)
  unfolding analysis_at taken_at
  iterations_taken p =
      let s = opened Z p.automaton.initial (blank Z) in
      omega (arith, taken_count (enough_iterations Z) p (lowest s.pending 0) s, opened_iterations Z U p.automaton.initial)

  pub analysis_ends : (p : Program) → Ranged Z p → lowest (analysis_at Z p).pending 0 ≡ none
  unfolding analysis_at
  analysis_ends p w = let z = w in follow_ends p (Initial p) z (initial_proper Z U p z) (opened Z p.automaton.initial (blank Z)) (opened_follows Z U p z) (opened_settled Z U p z)

  pub most_times : (p : Program) → Ranged Z p → (j : ℕ) → times j (taken_at Z p) ≤ 1 + summaries Z
  unfolding taken_at
  most_times p w j =
      let z = w in
      follow_times p (Initial p) z (initial_proper Z U p z) (opened Z p.automaton.initial (blank Z)) (opened_follows Z U p z) (opened_settled Z U p z) (enough_iterations Z) j

  pub iterations_bound : (p : Program) → (analysis_at Z p).iterations ≤ enough_iterations Z
  unfolding analysis_at
  iterations_bound p =
      let s = opened Z p.automaton.initial (blank Z) in
      omega (arith, work_iterations Z U (enough_iterations Z) p (lowest s.pending 0) s, opened_iterations Z U p.automaton.initial)
