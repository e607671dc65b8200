-- The answer of the list, by what the checks say and what the search finds.
use Prim.Native.Nat.{ℕ}
use mathlib.Core.Path.{◌≡◌, refl, sym, ap, ◌∙◌}
use mathlib.Core.List.{List}
use Rattle.program.specs.declared.sizes.Sizes.{Sizes}
use Rattle.program.specs.Chosen.{sizes_of}
use Rattle.program.specs.Program.{Program}
use Rattle.program.specs.Reading.{read_file}
use Rattle.program.specs.Verdicts.{Verdict}
use Rattle.program.specs.Verdicts.{Accepted}
use Rattle.std.specs.Prelude.{Option, Some, None, Ok}
use Rattle.reach.specs.Configurations.{none_set}
use Rattle.program.specs.Checks.{followed_by}
use Rattle.analysis.specs.Answers.{checked_marks, on_success, work_after, owned}
use Rattle.analysis.proofs.AnswersByChecks.{accepted_own}
use Rattle.blocked.specs.BlockView.{block_view}
use Rattle.blocked.specs.Blocks.{block_from, next_block}
use Rattle.blocked.specs.declared.Blocked.{Blocked}
use Rattle.block_list.specs.BlockAnswers.{block_answer_by}
use Rattle.block_list.specs.Answers.{block_of, block_by, block_answer}

module _ (file marks work : List ℕ) {v : Verdict} {p : Program} (d : v ≡ checked_marks file marks work) (e : p ≡ (read_file file).program) where
  pub block_answered : (low : ℕ)
      → (block_by (followed_by v (owned p marks)) (next_block p low) ≡ block_answer file marks work low)
      × (on_success v (none_set (sizes_of p)) work ≡ work_after file marks work)
  unfolding block_answer work_after
  block_answered low =
      (λ i. block_by (followed_by (d i) (owned (e i) marks)) (next_block (e i) low), λ i. on_success (d i) (none_set (sizes_of (e i))) work)

-- what the search gives
found_is : (b : Option Blocked) → block_answer_by (Ok b) ≡ block_of (block_view b)
found_is None = refl
found_is (Some b) = refl

pub own_block : (p : Program) (marks : List ℕ) {Z : Sizes} (low : ℕ) (b : Option Blocked) → Z ≡ sizes_of p → owned p marks ≡ Accepted
    → block_from Z p marks low ≡ block_view b → block_answer_by (Ok b) ≡ block_by (owned p marks) (next_block p low)
own_block p marks low b e a f = rw a (found_is b ∙ ap block_of (sym (rw (e, accepted_own p marks a) at f)))
