-- What the functions ask that give the numbers of an answer to C: that these fit 32 bits. Nothing here has to be
-- believed.
use Rattle.std.specs.Prelude.{◌<◌, ◌^◌}
use Rattle.program.specs.Reading.{refusal_line}
use Rattle.program.specs.Verdicts.{Verdict}
use Rattle.writer.specs.Answers.{refusal_line as writeLine, written_length}
use Rattle.writer.specs.WriteAnswers.{WriteAnswer}
use Rattle.analysis.specs.Answers.{analyze_line, configuration_count, violation_count, iteration_count, next_line, next_found}
use Rattle.analysis.specs.AnalyzeAnswers.{AnalyzeAnswer}
use Rattle.analysis.specs.NextAnswers.{NextAnswer}
use Rattle.block_list.specs.Answers.{block_line, block_found, block_edge}
use Rattle.block_list.specs.BlockAnswers.{BlockAnswer}
use Rattle.rewrite.specs.Room.{room_line, room_marks, room_work}
use Rattle.rewrite.specs.RoomAnswers.{RoomAnswer}

abbrev pub VerdictFits : Verdict → Type 0
VerdictFits v = refusal_line v < 2 ^ 32

abbrev pub WriteFits : WriteAnswer → Type 0
WriteFits a = (writeLine a < 2 ^ 32) × (written_length a < 2 ^ 32)

abbrev pub AnalyzeFits : AnalyzeAnswer → Type 0
AnalyzeFits a = (analyze_line a < 2 ^ 32) × (configuration_count a < 2 ^ 32) × (violation_count a < 2 ^ 32)
    × (iteration_count a < 2 ^ 32)

abbrev pub NextFits : NextAnswer → Type 0
NextFits a = (next_line a < 2 ^ 32) × (next_found a < 2 ^ 32)

abbrev pub BlockFits : BlockAnswer → Type 0
BlockFits a = (block_line a < 2 ^ 32) × (block_found a < 2 ^ 32) × (block_edge a < 2 ^ 32)

abbrev pub RoomFits : RoomAnswer → Type 0
RoomFits a = (room_line a < 2 ^ 32) × (room_marks a < 2 ^ 32) × (room_work a < 2 ^ 32)
