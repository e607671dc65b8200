-- The paper's sample input and output of `bench`, by the definition.
use mathlib.Core.Path.{◌≡◌, refl}
use mathlib.Core.List.{List, [], ◌∷◌, ◌++◌}
use Prim.Native.String.{String}
use Rattle.text.specs.Hex.{hex}
use Rattle.text.specs.Lines.{lines, numbers_of}
use Rattle.automaton.specs.Automaton.{listed, heard, moves}
use Rattle.tables.specs.Keys.{member}
use Rattle.program.specs.Chosen.{largest}
use Rattle.program.specs.Chosen as chosen
use Rattle.reach.specs.Sizes as sizes
use Rattle.program.specs.Reading.{judge_as, judge, after_as, after, read_from, read_file}
use Rattle.program.specs.Writing.{text}
use Rattle.program.specs.Sample.{bytes, header, edges, transitions}
use Rattle.reach.specs.Configurations.{number, routine_of, node_of, root_of, state_of, none_set}
use Rattle.reach.specs.Worklist.{lowest, mark, wake, mark_when, summary, on_event, event_when, on_returns, root_when, on_a_call, on_label, label_when, on_steps, wake_roots, calls, wake_when, wake_states, caller_when, wake_callers, learn, take_from, take_one, work, opened, analysis_at}
use Rattle.reach.specs.Marks.{violations_from}
use Rattle.base.specs.Flags.{count_set}
use Rattle.edit_line.specs.EditLines.{edit_from, read_edit, wanted_edit}
use Rattle.edit.specs.Editing.{has_edge, without, inserted, edited_program}
use Rattle.input.specs.Input.{file_size}
use Rattle.report.specs.Report.{block_at, edits_text, bench_text}

abbrev input : List String
input = header ++ edges ++ transitions ++ "4900" ∷ "4602" ∷ "45000C" ∷ "2B00000102" ∷ "2D00000102" ∷ "2D00000102" ∷ []

abbrev output : List String
output = "5A00050000" ∷ "5800020002" ∷ "5A00060001" ∷ "5A00050000" ∷ "210E" ∷ []

sample : bench_text (bytes input) ≡ bytes output
unfolding hex lines numbers_of listed heard moves member judge_as judge after_as after read_from read_file text number routine_of node_of root_of state_of none_set lowest mark wake mark_when summary on_event event_when on_returns root_when on_a_call on_label label_when on_steps wake_roots calls wake_when wake_states caller_when wake_callers learn take_from take_one work opened analysis_at largest chosen.numbers sizes.summaries sizes.enough_iterations count_set violations_from edit_from read_edit has_edge without inserted edited_program wanted_edit file_size block_at edits_text bench_text
sample = refl
