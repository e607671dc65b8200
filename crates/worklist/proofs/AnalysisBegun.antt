-- The start of the analysis.
use Prim.Native.Nat.{ℕ, zero, suc, ◌+◌, ◌*◌, ◌≤◌}
use mathlib.Core.Path.{◌≡◌, refl, sym, ap, subst, ◌∙◌}
use mathlib.Core.List.{List, ◌∷◌}
use native.Mathlib.Omega.{arith}
use lib.ListN.{length, get_or, take, drop, replicate, length-replicate}
use lib.Seq.{drop-cons, take_all}
use Rattle.program.specs.Program.{Program}
use Rattle.reach.specs.Configurations.{number, none_set}
use Rattle.reach.specs.Worklist.{Worklist, Shape, lowest, mark, work, opened, blank}
use Rattle.reach.proofs.ShapeKept.{opened_shape}
use Rattle.words.specs.Words.{flags_of, NoneBelow}
use Rattle.words.proofs.FlagsAsked.{no_flags}
use Rattle.marking.specs.Parts.{pending_words, known_words, working, worklist, Becomes, each}
use Rattle.worklist.specs.Parts.{followed, analysis_within}
use Rattle.program.specs.declared.sizes.Sizes.{Sizes}
use Rattle.program.specs.Chosen.{numbers, Admitted}
use Rattle.reach.specs.Sizes.{summaries}
use Rattle.reach.proofs.ProgramInSizes.{summaries_few}
use Rattle.reach.specs.Configurations.{Usable}

pub none_yet : (w : List ℕ) → NoneBelow (flags_of w) 0
none_yet w = record { none_below = λ j h. absurd (omega arith) }

-- the first of many zeros
take_replicate : (n m : ℕ) → n ≤ m → take {A = ℕ} n (replicate m 0) ≡ replicate n 0
take_replicate zero m h = refl
take_replicate (suc n) zero h = absurd (omega arith)
take_replicate (suc n) (suc m) h = ap (λ (l : List ℕ). 0 ∷ l) (take_replicate n m (omega arith))

module _ (Z : Sizes) where
  opened_is : (list : List ℕ) (k x : ℕ) → k + x ≤ length list → (s : Worklist)
      → each (λ i. mark (number Z 0 0 (get_or list i 0) (get_or list i 0))) k x s ≡ opened Z (take k (drop x list)) s
  unfolding each opened
  opened_is list zero x h s = refl
  opened_is list (suc k) x h s = rw (drop-cons list x 0 (omega arith)) (opened_is list k (suc x) (omega arith) _)

  pub all_opened : (list : List ℕ) {m w m' w' : List ℕ}
      → Becomes (each (λ i. mark (number Z 0 0 (get_or list i 0) (get_or list i 0))) (length list) 0) m w m' w'
      → Becomes (opened Z list) m w m' w'
  all_opened list {m} {w} b =
      let all : take (length list) list ≡ list = take_all (length list) list (omega arith) in
      record { becomes = λ k c. b.becomes k c ∙ rw all at (opened_is list (length list) 0 (omega arith) (working m w k c)) }

  -- nothing is pending in words that are 0, and no summary is known
  module _ (U : Usable Z) (A : Admitted Z) where
    blank_is : worklist Z (none_set Z) (replicate pending_words 0) (replicate known_words 0) 0 ≡ blank Z
    unfolding none_set
    blank_is =
        rw (
          no_flags pending_words,
          no_flags known_words,
          length-replicate {A = ℕ} (numbers Z) 0,
          take_replicate (numbers Z) (pending_words * 64) A.product,
          take_replicate (summaries Z) (known_words * 64) (summaries_few A),
        )

    -- from the opened worklist so many iterations give what they give in the analysis
    module _ (p : Program) (m w : List ℕ) (b : Becomes (opened Z p.automaton.initial) (none_set Z) (replicate pending_words 0) m w) where
      start_is : worklist Z m w (replicate known_words 0) 0 ≡ opened Z p.automaton.initial (blank Z)
      start_is = b.becomes (take (summaries Z) (flags_of (replicate known_words 0))) 0 ∙ ap (opened Z p.automaton.initial) blank_is

      pub start_shape : Shape Z (worklist Z m w (replicate known_words 0) 0)
      start_shape = subst (Shape Z) (sym start_is) (opened_shape Z U p.automaton.initial)

      result_is : (limit : ℕ) → followed Z limit p m w (replicate known_words 0) ≡ analysis_within Z limit p
      unfolding analysis_within
      result_is limit = ap (λ (s : Worklist). work Z limit p (lowest s.pending 0) s) start_is

      pub analyzed : (limit : ℕ) {m' : List ℕ} (w' k' : List ℕ) {n : ℕ} → worklist Z m' w' k' n ≡ followed Z limit p m w (replicate known_words 0)
          → (m' ≡ (analysis_within Z limit p).marks) × (n ≡ (analysis_within Z limit p).iterations) × (take (length m') (flags_of w') ≡ (analysis_within Z limit p).pending)
      analyzed limit w' k' e =
          let f = e ∙ result_is limit in
          (ap (λ (s : Worklist). s.marks) f, ap (λ (s : Worklist). s.iterations) f, ap (λ (s : Worklist). s.pending) f)
