-- The answer of the list of configurations at which runs are cut off: a function of everything lent. The checks and the
-- working buffer afterwards are those of the list of violations.
use Rattle.std.specs.Prelude.{ℕ, List}
use Rattle.std.proofs.Math.Option.{Option, some, none}
use Rattle.program.specs.Reading.{read_file}
use Rattle.program.specs.Verdicts.{Verdict}
use Rattle.program.specs.Verdicts as verdict
use Rattle.analysis.specs.Answers.{checked_own}
use Rattle.blocked.specs.Blocks.{Block, next_block}
use Rattle.block_list.specs.BlockAnswers.{BlockAnswer}
use Rattle.block_list.specs.BlockAnswers as block

abbrev pub block_of : Option Block → BlockAnswer
block_of none = block.Nothing
block_of (some b) = block.Found b.number b.edge

abbrev pub block_by : Verdict → Option Block → BlockAnswer
block_by verdict.Accepted b = block_of b
block_by (verdict.Refused n line) b = block.Refused n line

-- the first configuration not below the number at which runs are cut off is found, or none
unfoldable pub block_answer : List ℕ → List ℕ → List ℕ → ℕ → BlockAnswer
block_answer file marks work low = block_by (checked_own file marks work) (next_block (read_file file).program low)

-- ---- the numbers of the answer; 0 where there is none

abbrev pub block_refusal : BlockAnswer → ℕ
block_refusal (block.Found i k) = 0
block_refusal block.Nothing = 0
block_refusal (block.Refused n line) = n

abbrev pub block_line : BlockAnswer → ℕ
block_line (block.Found i k) = 0
block_line block.Nothing = 0
block_line (block.Refused n line) = line

-- 4294967295 says that there is none
abbrev pub block_found : BlockAnswer → ℕ
block_found (block.Found i k) = i
block_found block.Nothing = 4294967295
block_found (block.Refused n line) = 0

-- the place of the edge, or 4294967295 where it is the return that is not allowed
abbrev pub block_edge : BlockAnswer → ℕ
block_edge (block.Found i k) = k
block_edge block.Nothing = 0
block_edge (block.Refused n line) = 0
