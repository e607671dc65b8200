-- The functions that are called from outside: what is lent to them, and what they give back.
use Rattle.std.specs.Prelude.{ℕ, ◌≡◌, Bool, true, false, List, eqb}
use Rattle.program.specs.Program.{Program}
use Rattle.program.specs.declared.sizes.Sizes.{Sizes}
use Rattle.program.specs.Chosen.{sizes_of, numbers}
use Rattle.program.specs.Reading.{refusal, refusal_line, read_file}
use Rattle.program.specs.Verdicts.{Verdict}
use Rattle.writer.specs.Answers.{write_answer, output_after, refusal as writeRefusal, refusal_line as writeLine}
use Rattle.writer.specs.Answers.{written_length}
use Rattle.analysis.specs.Answers.{checked_marks, analyze_answer, marks_after, work_after, analyze_refusal, analyze_line}
use Rattle.analysis.specs.Answers.{configuration_count, violation_count, iteration_count, next_answer, next_refusal}
use Rattle.analysis.specs.Answers.{next_line, next_found}
use Rattle.writer.specs.WriteAnswers.{WriteAnswer}
use Rattle.analysis.specs.AnalyzeAnswers.{AnalyzeAnswer}
use Rattle.analysis.specs.NextAnswers.{NextAnswer}
use Rattle.block_list.specs.Answers.{block_answer, block_refusal, block_line, block_found, block_edge}
use Rattle.block_list.specs.BlockAnswers.{BlockAnswer}
use Rattle.prune.specs.Pruning.{Pruned}
use Rattle.saved.specs.Answers.{Way, over, back, move_answer, move_output, move_work}
use Rattle.exchange_text.specs.Wanted.{wanted_change}
use Rattle.exchange.specs.Changes.{Form, EditLine, ExchangeText}
use Rattle.repair.specs.Repairs.{After, repaired, InsideOutNumber}
use Rattle.rewrite.specs.Room.{room_answer, room_refusal, room_line, room_nodes, room_marks, room_work}
use Rattle.rewrite.specs.RoomAnswers.{RoomAnswer}
use Rattle.answers.specs.Told.{told}
use Rattle.rows.specs.Rows.{Pair, no_pair}

pub data Entry : Type 0 where
  read : Entry
  sizes : Entry
  faulty-pair : Entry
  write : Entry
  analyze : Entry
  next_violation : Entry
  next_blocked : Entry
  prune : Entry
  marks_to_frames : Entry
  frames_to_marks : Entry
  repair_forward : Entry
  repair_inside_out : Entry
  exchange_sizes : Entry
  exchange_forward : Entry
  exchange_inside_out : Entry

-- what is lent: of these a function reads those that its head names. `marks` are the program's, or old ones that are to
-- be moved to frames; `text` is an edit line, the text of an exchange, or frames that are to be moved back; `second` is
-- the buffer for the marks after an exchange, `limit` how many iterations a full analysis may make, and `from` where to
-- begin in a list of configurations
pub record Lent : Type 0 where
  pub file : List ℕ
  pub marks : List ℕ
  pub text : List ℕ
  pub output : List ℕ
  pub work : List ℕ
  pub second : List ℕ
  pub limit : ℕ
  pub from : ℕ

-- the sizes of a program, and what has to be lent: the counts of its routines and states, the largest count of nodes
-- (paper: R, Q, P), the length of its marks, and of an exchange that of the working buffer
pub record Room : Type 0 where
  pub routines : ℕ
  pub nodes : ℕ
  pub states : ℕ
  pub marks : ℕ
  pub work : ℕ

-- the numbers of an answer that only some functions have; 0 where the function has none of them, and on a refusal, but
-- for the pair that a table of rows is refused for
pub record Values : Type 0 where
  -- how many bytes were written to the output
  pub written : ℕ
  -- the counts of configurations, of violations and of iterations (paper: standings, findings and takings)
  pub configurations : ℕ
  pub violations : ℕ
  pub iterations : ℕ
  -- the number of a configuration that was sought; 4294967295 says that there is none
  pub found : ℕ
  -- the place of an edge among the file's; 4294967295 says that it is no edge but a return
  pub edge : ℕ
  -- that pair of a state and an action
  pub pair : Pair
  -- the reanalyzed routines (paper: reopened), bit f for routine f
  pub reanalyzed : ℕ
  pub room : Room

-- what is given back: the refusal's number (0: none) and line, the other numbers, and the lent buffers that may change,
-- as they are afterwards
pub record Back : Type 0 where
  pub refusal : ℕ
  pub line : ℕ
  pub values : Values
  pub marks : List ℕ
  pub output : List ℕ
  pub work : List ℕ
  pub second : List ℕ

-- does it have a working buffer?
abbrev pub has_work : Entry → Bool
has_work read = false
has_work sizes = false
has_work faulty-pair = false
has_work write = false
has_work analyze = true
has_work next_violation = true
has_work next_blocked = true
has_work prune = true
has_work marks_to_frames = true
has_work frames_to_marks = true
has_work repair_forward = true
has_work repair_inside_out = true
has_work exchange_sizes = false
has_work exchange_forward = true
has_work exchange_inside_out = true

-- does it tell the pair that a table of rows is refused for (19, 20)? Every other refusal tells its number and its line
-- alone
abbrev pub tells_pair : Entry → Bool
tells_pair read = false
tells_pair sizes = false
tells_pair faulty-pair = true
tells_pair write = false
tells_pair analyze = false
tells_pair next_violation = false
tells_pair next_blocked = false
tells_pair prune = false
tells_pair marks_to_frames = false
tells_pair frames_to_marks = false
tells_pair repair_forward = false
tells_pair repair_inside_out = false
tells_pair exchange_sizes = false
tells_pair exchange_forward = false
tells_pair exchange_inside_out = false

-- ---- the numbers that a function has

abbrev pub no_room : Room
no_room = record { routines = 0; nodes = 0; states = 0; marks = 0; work = 0 }

abbrev pub no_values : Values
no_values = record {
  written = 0;
  configurations = 0;
  violations = 0;
  iterations = 0;
  found = 0;
  edge = 0;
  pair = no_pair;
  reanalyzed = 0;
  room = no_room;
}

abbrev pub counts : ℕ → ℕ → ℕ → Values
counts c v i = record {
  written = 0;
  configurations = c;
  violations = v;
  iterations = i;
  found = 0;
  edge = 0;
  pair = no_pair;
  reanalyzed = 0;
  room = no_room;
}

abbrev pub blocking : ℕ → ℕ → Values
blocking i k = record {
  written = 0;
  configurations = 0;
  violations = 0;
  iterations = 0;
  found = i;
  edge = k;
  pair = no_pair;
  reanalyzed = 0;
  room = no_room;
}

abbrev pub finding : ℕ → Values
finding i = blocking i 0

abbrev pub repairing : ℕ → ℕ → Values
repairing size routines = record {
  written = size;
  configurations = 0;
  violations = 0;
  iterations = 0;
  found = 0;
  edge = 0;
  pair = no_pair;
  reanalyzed = routines;
  room = no_room;
}

abbrev pub sizing : ℕ → ℕ → ℕ → ℕ → ℕ → Values
sizing routines nodes states marks work = record {
  written = 0;
  configurations = 0;
  violations = 0;
  iterations = 0;
  found = 0;
  edge = 0;
  pair = no_pair;
  reanalyzed = 0;
  room = record { routines = routines; nodes = nodes; states = states; marks = marks; work = work };
}

abbrev pub pairing : Pair → Values
pairing x = record {
  written = 0;
  configurations = 0;
  violations = 0;
  iterations = 0;
  found = 0;
  edge = 0;
  pair = x;
  reanalyzed = 0;
  room = no_room;
}

abbrev pub writing : ℕ → Values
writing size = repairing size 0

-- ---- what each function promises: every number and every lent byte; a buffer that it does not have is not changed

abbrev pub read_back : Lent → Verdict → Back
read_back b v = record {
  refusal = refusal v;
  line = refusal_line v;
  values = no_values;
  marks = b.marks;
  output = b.output;
  work = b.work;
  second = b.second;
}

-- the sizes of an accepted file's program
abbrev pub sizes_back : Lent → Verdict → Sizes → Back
sizes_back b v z = record {
  refusal = refusal v;
  line = refusal_line v;
  values = sizing (told v z.routines) (told v z.nodes) (told v z.states) (told v (numbers z)) 0;
  marks = b.marks;
  output = b.output;
  work = b.work;
  second = b.second;
}

-- the pair that the table of a file with rows is refused for
abbrev pub pair_back : Lent → Verdict → Pair → Back
pair_back b v x = record {
  refusal = refusal v;
  line = refusal_line v;
  values = pairing x;
  marks = b.marks;
  output = b.output;
  work = b.work;
  second = b.second;
}

-- what an exchange has to be lent
abbrev pub room_back : Lent → RoomAnswer → Back
room_back b r = record {
  refusal = room_refusal r;
  line = room_line r;
  values = sizing 0 (room_nodes r) 0 (room_marks r) (room_work r);
  marks = b.marks;
  output = b.output;
  work = b.work;
  second = b.second;
}

abbrev pub write_back : Lent → WriteAnswer → List ℕ → Back
write_back b r output = record {
  refusal = writeRefusal r;
  line = writeLine r;
  values = writing (written_length r);
  marks = b.marks;
  output = output;
  work = b.work;
  second = b.second;
}

abbrev pub analyze_back : Lent → AnalyzeAnswer → List ℕ → List ℕ → Back
analyze_back b r marks work =
    record {
      refusal = analyze_refusal r;
      line = analyze_line r;
      values = counts (configuration_count r) (violation_count r) (iteration_count r);
      marks = marks;
      output = b.output;
      work = work;
      second = b.second;
    }

abbrev pub next_back : Lent → NextAnswer → List ℕ → Back
next_back b r work = record {
  refusal = next_refusal r;
  line = next_line r;
  values = finding (next_found r);
  marks = b.marks;
  output = b.output;
  work = work;
  second = b.second;
}

abbrev pub block_back : Lent → BlockAnswer → List ℕ → Back
block_back b r work = record {
  refusal = block_refusal r;
  line = block_line r;
  values = blocking (block_found r) (block_edge r);
  marks = b.marks;
  output = b.output;
  work = work;
  second = b.second;
}

abbrev pub prune_back : Lent → Verdict → List ℕ → List ℕ → Back
prune_back b v marks work = record {
  refusal = refusal v;
  line = refusal_line v;
  values = no_values;
  marks = marks;
  output = b.output;
  work = work;
  second = b.second;
}

abbrev pub move_back : Lent → WriteAnswer → List ℕ → List ℕ → Back
move_back b r output work = record {
  refusal = writeRefusal r;
  line = writeLine r;
  values = writing (written_length r);
  marks = b.marks;
  output = output;
  work = work;
  second = b.second;
}

abbrev pub repair_back : After → ℕ → Back
repair_back a routines =
    record {
      refusal = writeRefusal a.answer;
      line = writeLine a.answer;
      values = repairing (written_length a.answer) routines;
      marks = a.marks;
      output = a.output;
      work = a.work;
      second = a.second;
    }

abbrev pub program_in : Lent → Program
program_in b = (read_file b.file).program

-- either repair, by an edit line or by the text of an exchange
abbrev pub repaired_in : Form → Lent → After
repaired_in k b = repaired k b.file b.marks b.text b.output b.work b.second

-- what is lent to a repair or a move, and what it gives back: its number, the line, the bytes written and the routines
-- told, and the buffers
abbrev pub lent_repair : List ℕ → List ℕ → List ℕ → List ℕ → List ℕ → List ℕ → Lent
lent_repair file marks text output work second = record {
  file = file;
  marks = marks;
  text = text;
  output = output;
  work = work;
  second = second;
  limit = 0;
  from = 0;
}

abbrev pub back_repair : ℕ → ℕ → ℕ → ℕ → List ℕ → List ℕ → List ℕ → List ℕ → Back
back_repair refusal line size routines marks output work second = record {
  refusal = refusal;
  line = line;
  values = repairing size routines;
  marks = marks;
  output = output;
  work = work;
  second = second;
}

-- a move of old marks to frames, or back, by what is given
abbrev pub MoveGives : Way → List ℕ → Lent → Back → Type 0
MoveGives way given b a =
    a ≡ move_back b (move_answer way b.file given b.output b.work)
    (move_output way b.file given b.output b.work) (move_work way b.file given b.work)

-- the forward one tells no routine
abbrev pub RepairGives : Form → Lent → Back → Type 0
RepairGives k b a = a ≡ repair_back (repaired_in k b) 0

-- the inside-out one tells those that were reanalyzed
abbrev pub InsideOutGives : Form → Lent → Back → Type 0
InsideOutGives k b a =
    (a ≡ repair_back (repaired_in k b) a.values.reanalyzed)
    × InsideOutNumber (eqb a.refusal 0) (wanted_change k (program_in b) b.text) (program_in b)
    a.values.reanalyzed

abbrev pub Gives : Entry → Lent → Back → Type 0
Gives read b a = a ≡ read_back b (read_file b.file).verdict
Gives sizes b a = a ≡ sizes_back b (read_file b.file).verdict (sizes_of (program_in b))
Gives faulty-pair b a = a ≡ pair_back b (read_file b.file).verdict (read_file b.file).pair
Gives write b a = a ≡ write_back b (write_answer b.file b.output) (output_after b.file b.output)
Gives analyze b a =
    a ≡ analyze_back b (analyze_answer b.file b.marks b.work b.limit)
    (marks_after b.file b.marks b.work b.limit) (work_after b.file b.marks b.work)
Gives next_violation b a = a ≡ next_back b (next_answer b.file b.marks b.work b.from)
    (work_after b.file b.marks b.work)
Gives next_blocked b a = a ≡ block_back b (block_answer b.file b.marks b.work b.from)
    (work_after b.file b.marks b.work)
Gives prune b a =
    (a ≡ prune_back b (checked_marks b.file b.marks b.work) a.marks
    (work_after b.file b.marks b.work))
    × Pruned (checked_marks b.file b.marks b.work) (program_in b) b.marks a.marks
Gives marks_to_frames b a = MoveGives over b.marks b a
Gives frames_to_marks b a = MoveGives back b.text b a
Gives repair_forward b a = RepairGives EditLine b a
Gives repair_inside_out b a = InsideOutGives EditLine b a
Gives exchange_sizes b a = a ≡ room_back b (room_answer b.file b.text)
Gives exchange_forward b a = RepairGives ExchangeText b a
Gives exchange_inside_out b a = InsideOutGives ExchangeText b a
