-- The next configuration at which runs are cut off.
use mathlib.Core.Path.{◌≡◌, refl, sym, ap, ◌∙◌}
use mathlib.Core.Bool.{Bool, true, false, cond}
use mathlib.Core.Option.{none, some}
use Prim.Native.Nat.{ℕ, ◌-◌}
use native.Mathlib.Omega.{arith}
use lib.Dec.{ltb}
use borrow.Author.Tests.{ltb-true, ltb-false}
use Rattle.base.specs.Searches.{seek}
use Rattle.program.specs.declared.sizes.Sizes.{Sizes}
use Rattle.program.specs.Chosen.{sizes_of, numbers}
use Rattle.program.specs.Program.{Program}
use Rattle.program.specs.WellFormed.{WellFormed}
use Rattle.program.specs.Verdicts.{Verdict}
use Rattle.program.specs.Verdicts.{Accepted, Refused}
use Rattle.reach.specs.Marks.{fresh_marks}
use Rattle.reach.proofs.ProgramInSizes.{usable, ranged}
use Rattle.reach.proofs.MarksShown.{fresh_shows}
use Rattle.program.specs.Checks.{followed_by}
use Rattle.analysis.specs.Answers.{checked_marks, owned}
use Rattle.analysis.proofs.AnswersByChecks.{by_marks}
use Rattle.blocked.specs.Blocks.{Block, is_blocked, blocked_by, block_from, next_block}
use Rattle.blocked.proofs.RunsCutOff.{block-found, block_nowhere}
use Rattle.block_list.specs.Answers.{block_of, block_by, block_answer, block_refusal, block_found, block_edge}
use Rattle.block_list.specs.BlockAnswers.{BlockAnswer}
use Rattle.desk.specs.Entries.{next_blocked, Lent, Back, program_in, Gives}
use Rattle.demands.specs.Demands.{NextBlocked, least, nothing}
use Rattle.demands.proofs.AnalysisAnswers.{checked_well_formed, not_none}

module _ (p : Program) (w : WellFormed p) (low : ℕ) where
  abbrev Z : Sizes
  Z = sizes_of p

  abbrev first : ℕ
  first = seek (is_blocked Z p (fresh_marks p)) (numbers Z - low) low

  -- what the search in the program's own marks gives
  pub block_next : NextBlocked Z p low (block_found (block_of (next_block p low))) (block_edge (block_of (next_block p low)))
  unfolding block_from
  block_next = go (ltb first (numbers Z)) refl
    where
      there : Block
      there = record { number = first; edge = blocked_by Z p first }

      go : (t : Bool) → ltb first (numbers Z) ≡ t
          → NextBlocked Z p low (block_found (block_of (cond t (some there) none))) (block_edge (block_of (cond t (some there) none)))
      go true e =
          let x = block-found (usable p w) (ranged p w) (fresh_shows Z (usable p w) p (ranged p w)) low (ltb-true first (numbers Z) e) in
          least x.0 x.1 x.2
      go false e = nothing (block_nowhere (usable p w) (ranged p w) (fresh_shows Z (usable p w) p (ranged p w)) low (ltb-false first (numbers Z) e))

pub block_given : (b : Lent) (a : Back) → Gives next_blocked b a → a.refusal ≡ 0
    → NextBlocked (sizes_of (program_in b)) (program_in b) b.from a.values.found a.values.edge
unfolding block_answer
block_given b a g z =
    rw g (go (checked_marks b.file b.marks b.work) refl (sym (ap (λ (x : Back). x.refusal) g) ∙ z))
  where
    p : Program
    p = program_in b

    by : Verdict → BlockAnswer
    by v = block_by v (next_block p b.from)

    -- what is to be shown of an answer
    Given : Verdict → Type 0
    Given v = block_refusal (by v) ≡ 0 → NextBlocked (sizes_of p) p b.from (block_found (by v)) (block_edge (by v))

    go : (v : Verdict) → checked_marks b.file b.marks b.work ≡ v → Given (followed_by v (owned p b.marks))
    go Accepted e = by_marks p b.marks Given (λ t y. block_next p (checked_well_formed b e) b.from) (λ t y. absurd (omega arith))
    go (Refused n line) e = λ y. not_none b e y
