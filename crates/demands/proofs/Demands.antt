-- What is proved of the whole, for people: the three demands and the cases. Each proof cites.
use mathlib.Core.Path.{◌≡◌}
use mathlib.Core.Logic.{◌↔◌, ◌≢◌, ◌⊎◌}
use mathlib.Core.Bool.{true, false}
use mathlib.Core.List.{List, [], ◌∷◌, flatten, Memᴰ}
use Prim.Native.Nat.{ℕ, ◌+◌, ◌*◌, ◌≤◌, ◌<◌}
use lib.ListN.{length, take}
use Rattle.base.specs.Flags.{count_set}
use Rattle.automaton.specs.Automaton.{Automaton, moves}
use Rattle.automaton.specs.NextStates.{set_at, Answers}
use Rattle.automaton.specs.declared.Event.{Event}
use Rattle.automaton.specs.declared.Event.TheVariants as event
use Rattle.program.specs.Sizes.{output_size}
use Rattle.program.specs.declared.sizes.Sizes.{Sizes}
use Rattle.program.specs.Chosen.{sizes_of, Admitted}
use Rattle.text.specs.declared.Line.{Line}
use Rattle.program.specs.Frames.{num}
use Rattle.program.specs.Program.{Program}
use Rattle.program.specs.WellFormed.{WellFormed}
use Rattle.program.specs.Reading.{read_file, rows_in}
use Rattle.program.specs.Verdicts.{Accepted}
use Rattle.reach.specs.Sizes.{enough_iterations}
use Rattle.reach.specs.Configurations.{Usable}
use Rattle.reach.specs.Runs.{Occurs}
use Rattle.reach.proofs.RunsReach.{occurs_iff, entry as its-entry}
use Rattle.program.proofs.ChosenSizes.{admitted}
use Rattle.reach.proofs.ProgramInSizes.{usable}
use Rattle.reach.specs.Takings.{taken_in}
use Rattle.reach.specs.Marks.{Marked, Shows, fresh_marks}
use Rattle.prune.specs.Pruning.{Kept}
use Rattle.saved.specs.Saved.{too_large, old_marks, saved_text}
use Rattle.saved.specs.Rules.{Saves}
use Rattle.saved.proofs.FramesByRules.{by_rules}
use Rattle.saved.proofs.FramesWritten.{old_long, text_long}
use Rattle.edit_line.specs.EditLines.{wanted_edit}
use Rattle.edit.specs.declared.Step.{Step}
use Rattle.edit.specs.declared.Edit.TheVariants.{Drop}
use Rattle.edit.specs.EditReads.{Read}
use Rattle.exchange.specs.Changes.{Form, ExchangeText}
use Rattle.repair.specs.Desk.{started}
use Rattle.callgraph.specs.Components.{Member}
use Rattle.passes.specs.Passes.{Passed}
use Rattle.report.specs.Report.{too_long_text, bench_text}
use Rattle.transcript.specs.Transcript.{TurnGives, begun, Turns}
use Rattle.transcript.specs.declared.Turn.{Turn}
use Rattle.transcript.proofs.TurnsHold.{turns_print}
use Rattle.desk.specs.Entries.{Entry, read, sizes, faulty-pair, write, analyze, next_violation, next_blocked, prune, marks_to_frames, frames_to_marks, repair_forward, exchange_sizes, Lent, Back, program_in, Gives}
use Rattle.demands.specs.Refusals.{marks_length}
use Rattle.demands.specs.Lists.{Repair, Call, entry, wrote, Gave}
use Rattle.demands.specs.Inputs.{SameInputs}
use Rattle.demands.specs.Demands.{Demand1, PairTold, Acceptance, Before, compared_by, line_key, KeysOfFrames, with_written, WrittenFile, ChangedFile, Tabulated, SizesTold, Needed, Numbering, Demand2, Safe, Next, NextBlocked, Procedure, no_limit, with_limit, given_up, Heeds, OnActions, moves_before, OneLook, TooLarge, Reaches25, MovedOver, MovedBack, Demand3, pruning_of}
use Rattle.demands.specs.Cases.{Case, Holds, table}
use Rattle.demands.proofs.RefusalsReturned.{gives_demanded}
use Rattle.demands.proofs.OneAnswer.{given_once}
use Rattle.demands.proofs.FaultyPairTold.{pair_told}
use Rattle.demands.proofs.FilesAccepted.{file_acceptance, comes_back, written_accepted, tabulated}
use Rattle.demands.proofs.FramesCompared.{compared_left_to_right, frame_keys}
use Rattle.demands.proofs.ChangesAccepted.{changed_files}
use Rattle.demands.proofs.BenchTooLong.{too_long}
use Rattle.demands.proofs.ConfigurationsNumbered.{numbered}
use Rattle.demands.proofs.RoomTold.{sizes_right, room_exact, room_enough, room_after}
use Rattle.demands.proofs.OldMarksKept.{old_marks_kept}
use Rattle.demands.proofs.AnalysisAnswers.{analyzed_exact, count_safe, next_given, procedure_ends}
use Rattle.demands.proofs.BlockAnswers.{block_given}
use Rattle.demands.proofs.LimitAnswers.{gives_up_when, leaves, larger, enough_never, most_never, never, zero_limit}
use Rattle.demands.proofs.EventsHeeded.{call_heeded, return_heeded, as_before}
use Rattle.demands.proofs.LookAnswers.{look_answers}
use Rattle.demands.proofs.SavedMoved.{large_exactly, over_moved, back_moved, over_and_back, back_and_over, text_once}
use Rattle.demands.proofs.PruneKeeps.{pruned, drop_kept}
use Rattle.demands.proofs.PassDepends.{depends}
use Rattle.demands.proofs.ListsNeverDrift.{list_demanded}
use Rattle.demands.proofs.Cases.{every_row}

-- ---- demand 1

-- for every function that is called from outside, whatever is lent to it
pub demand_1 : (e : Entry) (b : Lent) (a : Back) → Gives e b a → Demand1 e b a
demand_1 = gives_demanded

-- what a function promises fixes its answer: every number and every lent byte afterwards
pub one_answer : (e : Entry) (b : Lent) (a c : Back) → Gives e b a → Gives e b c → a ≡ c
one_answer = given_once

-- the pair that is told of a file whose table is refused (19, 20) is its first faulty one, by state and then by action
pub faulty_pair_told : (b : Lent) (a : Back) → Gives faulty-pair b a → PairTold b a
faulty_pair_told = pair_told

-- which files are accepted, with rows or without, and as which program
pub accepted_files : (b : Lent) (a : Back) → Gives read b a → Acceptance b a
accepted_files = file_acceptance

-- an accepted file comes back as its own bytes exactly when it has no row
pub same_bytes : (b : Lent) (a : Back) → Gives write b a → a.refusal ≡ 0 → (wrote a ≡ b.file) ↔ (rows_in b.file ≡ [])
same_bytes = comes_back

-- what is written of an accepted file, with rows or without, is accepted, has no row and is read as the same program
pub written_file : (b : Lent) (a c : Back) → Gives write b a → a.refusal ≡ 0 → Gives read (with_written b a) c → WrittenFile b a c
written_file = written_accepted

-- what an accepted repair writes, by an edit line or by an exchange, is the file of the changed program, which is well-formed
pub changed_file : (k : Form) (r : Repair) (b : Lent) (a : Back) → Gives (entry k r) b a → a.refusal ≡ 0 → ChangedFile k b a
changed_file = changed_files

-- frames compared by their keys are compared left to right: by the place of their kind in the table of kinds, and then number by number; the first that
-- differs decides
pub left_to_right : (l m : Line) → ((i : ℕ) → num l i < 256) → ((i : ℕ) → num m i < 256) → (line_key l < line_key m) ↔ Before (compared_by l) (compared_by m)
left_to_right = compared_left_to_right

-- and the keys by which edges, transitions, rows, initial and rejecting states ascend are those of their frames
pub keys_of_frames : KeysOfFrames
keys_of_frames = frame_keys

-- the transitions of an accepted file with rows are those of its table
pub table_of_rows : (b : Lent) (a : Back) → Gives read b a → a.refusal ≡ 0 → rows_in b.file ≢ [] → Tabulated (program_in b) (rows_in b.file)
table_of_rows = tabulated

-- what `bench` prints: the texts that the functions of its turns give, the first for the file and then one for each edit line by either repair, are together
-- the text of the input
pub bench-text : {input old new : List ℕ} {t : Turn} {texts : List (List ℕ)} → TurnGives (begun input) old new t → Turns input t texts
    → flatten (take t.size new ∷ texts) ≡ bench_text input
bench-text = turns_print

-- `bench` prints refusal 18 alone exactly for more than 16,384 bytes of input
pub demand_1_bench : (input : List ℕ) → (bench_text input ≡ too_long_text) ↔ (16384 < length input)
demand_1_bench = too_long

-- ---- the sizes that a program chooses: R routines, the largest count P of their nodes (paper: places) and Q states. Its marks have R P Q Q bytes, at most 16,384

-- the numbers of configurations, for all sizes together that have an entry, an exit and a state
pub numbering : (z : Sizes) → Usable z → Numbering z
numbering = numbered

-- every accepted program's are such, and its marks have at most 16,384 bytes
pub own_sizes : (p : Program) → WellFormed p → Usable (sizes_of p) × Admitted (sizes_of p)
own_sizes p w = (usable p w, admitted p w)

-- what is told of an accepted file
pub sizes_told : (b : Lent) (a : Back) → Gives sizes b a → a.refusal ≡ 0 → SizesTold (program_in b) a.values.room
sizes_told = sizes_right

-- what is told of an exchange before it is made: where the old marks and the output have their lengths, it is refused for nothing but foreign marks exactly when
-- the second buffer and the working buffer have the lengths told
pub lengths_told : (b : Lent) (a : Back) → Gives exchange_sizes b a → a.refusal ≡ 0 → output_size ≤ length b.output → (r : Repair) (c : Back)
    → Gives (entry ExchangeText r) b c → length b.marks ≡ marks_length b → ((c.refusal ≡ 0) ⊎ (c.refusal ≡ 17)) ↔ Needed b a
lengths_told = room_exact

-- and with the program's own marks it is then accepted
pub lengths_enough : (b : Lent) (a : Back) → Gives exchange_sizes b a → a.refusal ≡ 0 → output_size ≤ length b.output → (r : Repair) (c : Back)
    → Gives (entry ExchangeText r) b c → b.marks ≡ fresh_marks (program_in b) → Needed b a → c.refusal ≡ 0
lengths_enough = room_enough

-- the same is told of the file that it writes
pub sizes-after : (b : Lent) (a : Back) → Gives exchange_sizes b a → a.refusal ≡ 0 → (r : Repair) (c : Back) → Gives (entry ExchangeText r) b c → c.refusal ≡ 0
    → (d : Back) → Gives sizes (with_written b c) d → (a.values.room.nodes ≡ d.values.room.nodes) × (a.values.room.marks ≡ d.values.room.marks)
sizes-after = room_after

-- an exchange, accepted or refused, never changes the old marks
pub exchange_keeps : (r : Repair) (b : Lent) (a : Back) → Gives (entry ExchangeText r) b a → a.marks ≡ b.marks
exchange_keeps = old_marks_kept

-- ---- demand 2

-- for every full analysis that is not refused
pub demand_2 : (b : Lent) (a : Back) → Gives analyze b a → a.refusal ≡ 0 → Demand2 (sizes_of (program_in b)) (program_in b) a
demand_2 = analyzed_exact

-- a configuration with root r needs that of its routine's entry with this root: some run arrives there too
pub root_needed : (p : Program) (f n r q : ℕ) → Occurs p f n r q → Occurs p f 0 r r
root_needed p f n r q o = occurs_iff.1 (its-entry (occurs_iff.0 o))

-- an analysis counts 0 violations exactly when no run arrives in a rejecting state
pub no_violation : (b : Lent) (a : Back) → Gives analyze b a → a.refusal ≡ 0 → (a.values.violations ≡ 0) ↔ Safe (program_in b)
no_violation = count_safe

-- the list of violations gives the least one not below a number, or says that there is none
pub next_one : (b : Lent) (a : Back) → Gives next_violation b a → a.refusal ≡ 0
    → Next (sizes_of (program_in b)) (program_in b) b.from a.values.found
next_one = next_given

-- the list of configurations at which runs are cut off gives the least one not below a number, with the first of its edges that the automaton does not allow, or
-- with the return that it does not allow; or says that there is none
pub next_cut_off : (b : Lent) (a : Back) → Gives next_blocked b a → a.refusal ≡ 0
    → NextBlocked (sizes_of (program_in b)) (program_in b) b.from a.values.found a.values.edge
next_cut_off = block_given

-- the procedure ends, and no configuration is taken more than 1 + R Q Q times
pub procedure : (b : Lent) (a : Back) → Gives analyze b a → a.refusal ≡ 0 → Procedure (program_in b) a
procedure = procedure_ends

-- an analysis with a limit gives up exactly when the same call without one is accepted and the procedure takes more configurations than the limit says
pub gives_up : (b : Lent) (a c : Back) → Gives analyze b a → Gives analyze (with_limit no_limit b) c
    → (a.refusal ≡ 22) ↔ ((c.refusal ≡ 0) × (b.limit < length (taken_in (program_in b))))
gives_up = gives_up_when

-- what a giving up leaves
pub given-up : (b : Lent) (a : Back) → Gives analyze b a → a.refusal ≡ 22 → a ≡ given_up b
given-up = leaves

-- any other answer at a limit, with every number and every byte, is the answer at each larger one
pub larger_limit : (b : Lent) (limit : ℕ) (a c : Back) → Gives analyze b a → Gives analyze (with_limit limit b) c → b.limit ≤ limit → a.refusal ≢ 22 → c ≡ a
larger_limit = larger

-- a limit of 1 + R Q Q iterations for each of the program's R P Q Q configurations never gives up, and no larger one does
pub enough_limit : (b : Lent) (a : Back) → Gives analyze b a → enough_iterations (sizes_of (program_in b)) ≤ b.limit → a.refusal ≢ 22
enough_limit = enough_never

-- whatever the program, this is at most 4,097 for each of 16,384
pub enough_for_all : (b : Lent) (a : Back) → Gives analyze b a → 67125248 ≤ b.limit → a.refusal ≢ 22
enough_for_all = most_never

-- nor does the largest limit
pub no-limit : (b : Lent) (a : Back) → Gives analyze (with_limit no_limit b) a → a.refusal ≢ 22
no-limit = never

-- a limit of 0 gives up exactly on the accepted programs that have an initial state
pub limit_0 : (b : Lent) (a c : Back) → Gives analyze b a → Gives analyze (with_limit no_limit b) c → b.limit ≡ 0
    → (a.refusal ≡ 22) ↔ ((c.refusal ≡ 0) × ((program_in b).automaton.initial ≢ []))
limit_0 = zero_limit

-- the moves by a call of f, and those by a return from it: without a transition of that label the state stays, else only the listed moves happen
pub calls_heard : (r : Automaton) (f : ℕ) → Heeds r (event.Call f)
calls_heard = call_heeded

pub returns_heard : (r : Automaton) (f : ℕ) → Heeds r (event.Return f)
returns_heard = return_heeded

-- for an automaton without a transition for a call or a return the moves are what they were
pub moves_as_before : (r : Automaton) → OnActions r → (q : ℕ) (e : Event) (s : ℕ) → moves r q e s ≡ moves_before r q e s
moves_as_before = as_before

-- one look at the automaton: what `next_after` gives for every state and label, in the table that `next_states` makes of an accepted program
pub one_look : (p : Program) → WellFormed p → (sets : List ℕ) → Answers p.automaton p.routines sets → OneLook p (set_at sets)
one_look = look_answers

-- ---- saved marks (paper: saved sheets), of before a program chose its sizes, and the frames that they move to

-- which programs are refused by 24
pub too_large_to_save : (p : Program) → (too_large p ≡ true) ↔ TooLarge p
too_large_to_save = large_exactly

-- a text is a program's frames exactly when it meets the rules: lines, kinds, counts of numbers, ascending, the count at the end and nothing after it, and exactly
-- the configurations that occur
pub saved_by_rules : (p : Program) → WellFormed p → too_large p ≡ false → (s : List ℕ) → Saves p s ↔ (s ≡ saved_text p)
saved_by_rules = by_rules

-- old marks have 16,384 bytes, and frames 11 for each configuration and 7
pub saved_lengths : (p : Program) → (length (old_marks p) ≡ 16384) × (length (saved_text p) ≡ 11 * count_set (old_marks p) + 7)
saved_lengths p = (old_long p, text_long (old_marks p))

-- old marks are accepted exactly when they are the program's own, and moved to its frames
pub moved_over : (b : Lent) (a : Back) → Gives marks_to_frames b a → Reaches25 a → MovedOver b a
moved_over = over_moved

-- frames are accepted exactly when they meet the rules, and moved to the program's old marks
pub moved_back : (b : Lent) (a : Back) → Gives frames_to_marks b a → Reaches25 a → MovedBack b a
moved_back = back_moved

-- there and back: what old marks were moved to is accepted, where its buffers have their lengths, and moved back to the same bytes
pub there_and_back : (b : Lent) (a : Back) → Gives marks_to_frames b a → a.refusal ≡ 0 → (c : Lent) (d : Back) → Gives frames_to_marks c d → c.file ≡ b.file
    → c.text ≡ wrote a → length c.work ≡ marks_length c → 16384 ≤ length c.output → (d.refusal ≡ 0) × (wrote d ≡ b.marks)
there_and_back = over_and_back

-- and the other way round: frames, their old marks, and the same frames
pub back_and_there : (b : Lent) (a : Back) → Gives frames_to_marks b a → a.refusal ≡ 0 → (c : Lent) (d : Back) → Gives marks_to_frames c d → c.file ≡ b.file
    → c.marks ≡ wrote a → length c.work ≡ marks_length c → length b.text ≤ length c.output → (d.refusal ≡ 0) × (wrote d ≡ b.text)
back_and_there = back_and_over

-- of one program exactly one text is accepted
pub one_text : (b c : Lent) (a d : Back) → Gives frames_to_marks b a → Gives frames_to_marks c d → program_in b ≡ program_in c → a.refusal ≡ 0 → d.refusal ≡ 0
    → b.text ≡ c.text
one_text = text_once

-- ---- demand 3

-- for every accepted file, every list of calls, edit lines and exchanges mixed, and what they gave back
pub demand_3 : (file : List ℕ) → (read_file file).verdict ≡ Accepted → (cs : List Call) (gs : List Back) → Gave cs gs (started file) → Demand3 file cs gs
demand_3 = list_demanded

-- pruning, of any marks: a 1 at each mark that has support back to a start through marked configurations, and 0 elsewhere
pub prune_keeps : (b : Lent) (a : Back) → Gives prune b a → a.refusal ≡ 0
    → Shows (sizes_of (program_in b)) (Kept (sizes_of (program_in b)) (program_in b) b.marks) a.marks
prune_keeps = pruned

-- what pruning gives for the edited file and the old marks is what a forward drop leaves
pub forward_drop : (b : Lent) (a k : Back) (s : Step) → Gives repair_forward b a → a.refusal ≡ 0 → wanted_edit (program_in b) b.text ≡ Read (Drop s)
    → Gives prune (pruning_of b a) k → (k.refusal ≡ 0) × (k.marks ≡ a.marks)
forward_drop = drop_kept

-- two passes over a component that are given its edges, its old roots, the automaton and the summaries of the routines it calls alike leave its configurations
-- alike, whatever else the programs and the marks hold, and whatever their sizes
pub pass_depends : {Z Z' : Sizes} {members : List ℕ} {p p' : Program} {old old' marks marks' after after' : List ℕ} → Passed Z p members old marks after
    → Passed Z' p' members old' marks' after' → SameInputs Z Z' members p p' old old' marks marks' → (f n r q : ℕ) → Member members f
    → Marked Z after f n r q ↔ Marked Z' after' f n r q
pass_depends = depends

-- ---- the cases P1 to P10, R1 and R2 for edit lines, T1 to T4 for tables, E1 to E5 for exchanges, H1 to H6 for calls and returns that are heard,
-- B1 to B6 for where runs are cut off, L1 to L4 for a limit, and S1 to S8 for sizes, rows of one table
pub cases : (c : Case) → Memᴰ c table → Holds c
cases = every_row
