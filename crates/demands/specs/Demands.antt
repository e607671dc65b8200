-- What is promised of the whole, in the user's words: of what is lent to the functions that are called from outside,
-- and of what they give back.
use Rattle.std.specs.Prelude.{◌≡◌, ◌↔◌, ◌≢◌, ◌⊎◌, Bool, true, false, ◌&&◌, ℕ, ◌+◌, ◌*◌, ◌≤◌, ◌<◌, ltb, eqb, get_or, length}
use mathlib.Core.List.{List, [], ◌∷◌, Memᴰ}
use Rattle.program.specs.Sizes.{marks_most, output_size}
use Rattle.program.specs.declared.sizes.Sizes.{Sizes}
use Rattle.program.specs.Chosen.{sizes_of, numbers}
use Rattle.automaton.specs.Sizes.{first_call}
use Rattle.automaton.specs.Automaton.{Transition, Automaton, label_of, listed, moves, is_rejecting}
use Rattle.automaton.specs.NextStates.{EventOf}
use Rattle.automaton.specs.declared.Event.{Event}
use Rattle.automaton.specs.declared.Event.TheVariants as event
use Rattle.rows.specs.Rows.{TableRow, Pair, no_pair, meets, times_met}
use Rattle.text.specs.Lines.{line_of}
use Rattle.text.specs.declared.Line.{Line}
use Rattle.program.specs.Program.{Edge, Program}
use Rattle.program.specs.Frames.{num, kind, word, rest, key_of, edge_frame, transition_frame, row_frame, initial_frame}
use Rattle.program.specs.Frames.{rejecting_frame, edge_key, transition_key, row_key, initial_key, rejecting_key}
use Rattle.program.specs.WellFormed.{WellFormed, WellFormedRows}
use Rattle.program.specs.Writing.{written_with}
use Rattle.program.specs.Reading.{read_file, rows_in}
use Rattle.reach.specs.Configurations.{Earlier, InRange, number, routine_of, node_of, root_of, state_of, none_set, PartsOf}
use Rattle.reach.specs.Runs.{Activation, Run, Occurs}
use Rattle.reach.specs.Worklist.{analysis}
use Rattle.reach.specs.Takings.{taken_in, times}
use Rattle.reach.specs.Marks.{Shows, violations}
use Rattle.base.specs.Bits.{bit}
use Rattle.base.specs.Flags.{count_set}
use Rattle.reach.specs.Violations.{Violation, Ascends}
use Rattle.reach.specs.Blocked.{Blocked}
use Rattle.exchange.specs.Changes.{Change, Read, Form}
use Rattle.exchange.specs.Changing.{changed_program}
use Rattle.exchange_text.specs.Wanted.{wanted_change}
use Rattle.desk.specs.Entries.{Entry, read, Lent, Room, Back, has_work, tells_pair, no_values, pairing}
use Rattle.desk.specs.Entries.{program_in, Gives}
use Rattle.demands.specs.Refusals.{FaultyPairOf, Returned, clears}
use Rattle.saved.specs.Saved.{old_sizes}
use Rattle.saved.specs.Rules.{Saves}
use Rattle.repair.specs.Repairs.{zeroed}
use Rattle.demands.specs.Lists.{Call, wrote, seen_of, book_played, BookRoutines, BookLeaves}

-- ---- demand 1: every file, edit line, text of an exchange and lent buffer gets a result or one numbered refusal; a
-- refusal changes nothing but that some clear the working buffer: 17 and 22, and of the moves of saved marks 25 and 10

-- of a call of a function: what was lent to it, and what it gives back
pub record Demand1 (e : Entry) (b : Lent) (a : Back) : Type 0 where
  -- the number is returned in its row's case, in the table's order, with the line of a file's refusal
  pub returned : Returned e b a.refusal a.line
  -- and in no other
  pub no_other : (n line : ℕ) → Returned e b n line → (n ≡ a.refusal) × (line ≡ a.line)
  -- a refusal has no result: every other number is 0, but for the one function that tells the state-action pair of a table
  pub no_result : tells_pair e ≡ false → a.refusal ≢ 0 → a.values ≡ no_values
  -- a refusal leaves the marks, the output and the second buffer unchanged
  pub marks : a.refusal ≢ 0 → a.marks ≡ b.marks
  pub output : a.refusal ≢ 0 → a.output ≡ b.output
  pub second : a.refusal ≢ 0 → a.second ≡ b.second
  -- the working buffer is unchanged after a refusal that does not clear it
  pub work_kept : a.refusal ≢ 0 → clears e a.refusal ≡ false → a.work ≡ b.work
  -- and all zero, over its own length, after one that does, or success
  pub work_cleared : has_work e ≡ true → (a.refusal ≡ 0) ⊎ (clears e a.refusal ≡ true) → a.work ≡ zeroed b.work

-- what is told of a file whose table is refused, and of any other
pub record PairTold (b : Lent) (a : Back) : Type 0 where
  -- the number and its line are those of a reading
  pub as_read : (c : Back) → Gives read b c → (a.refusal ≡ c.refusal) × (a.line ≡ c.line)
  -- where the number is 19 or 20, the pair is the first faulty one
  pub first : (a.refusal ≡ 19) ⊎ (a.refusal ≡ 20) → FaultyPairOf b.file a.refusal a.values.pair
  -- and a file that has a faulty pair has this one and this number
  pub no_other : (n : ℕ) (x : Pair) → FaultyPairOf b.file n x → (n ≡ a.refusal) × (x ≡ a.values.pair)
  -- else no pair is told
  pub no-pair : a.refusal ≢ 19 → a.refusal ≢ 20 → a.values.pair ≡ no_pair
  -- and never another number
  pub only_pair : a.values ≡ pairing a.values.pair

-- a program and rows (paper: frames 55): its transitions are those of their table
pub record Tabulated (p : Program) (rs : List TableRow) : Type 0 where
  -- each state-action pair of the program (paper: pair of a state and an action) is met by exactly one row
  pub met_once : (q a : ℕ) → q < p.automaton.states → a < p.automaton.actions
      → times_met (record { state = q; action = a }) rs ≡ 1
  -- from q to s on a there is a transition (paper: a rule line) exactly when the row that meets q and a says s
  pub by_row : (q a s : ℕ) → (listed q a s p.automaton.transitions ≡ true)
      ↔ ((q < p.automaton.states) × (a < p.automaton.actions) × ((r : TableRow) × Memᴰ r rs
      × (meets (record { state = q; action = a }) r ≡ true) × (r.next ≡ s)))
  -- so there is exactly one for each state and action
  pub one_each : (q a : ℕ) → q < p.automaton.states → a < p.automaton.actions
      → (s : ℕ) × (listed q a s p.automaton.transitions ≡ true)
      × ((s' : ℕ) → listed q a s' p.automaton.transitions ≡ true → s' ≡ s)

-- a file is what is written of a well-formed program and rows, which are in range, ascending and at most 256: the edges, the
-- initial and the rejecting states (paper: start and forbidden states) stand in it frame by frame, and either the
-- transitions, where there is no row, or the rows, where there are some, and then the transitions are those of their table
pub record FileOf (p : Program) (rs : List TableRow) (file : List ℕ) : Type 0 where
  pub well_formed : WellFormed p
  pub rows : WellFormedRows p rs
  pub table : rs ≢ [] → Tabulated p rs
  pub is_written : file ≡ written_with p rs

-- a file is accepted exactly when it is that of some program and rows; these are then its program and its rows, and it
-- has at most 7,712 bytes
pub record Acceptance (b : Lent) (a : Back) : Type 0 where
  pub accepted : (a.refusal ≡ 0) ↔ ((p : Program) × (rs : List TableRow) × FileOf p rs b.file)
  pub its-program : (p : Program) (rs : List TableRow) → FileOf p rs b.file → program_in b ≡ p
  pub its_rows : (p : Program) (rs : List TableRow) → FileOf p rs b.file → rows_in b.file ≡ rs
  pub its_size : (p : Program) (rs : List TableRow) → FileOf p rs b.file → length b.file ≤ output_size

-- ---- the order of the frames of a file (paper: ascending, compared left to right)

-- of two lists of numbers, compared left to right, this is the earlier: the first number that differs decides
abbrev pub Before : List ℕ → List ℕ → Type 0
Before [] ns = ⊥
Before (m ∷ ms) [] = ⊥
Before (m ∷ ms) (n ∷ ns) = (m < n) ⊎ ((m ≡ n) × Before ms ns)

-- the numbers that a line is compared by: the place of its kind in the table of kinds, and those after it, of which a
-- frame has at most seven; 0 for each that lacks
abbrev pub compared_by : Line → List ℕ
compared_by l = kind l ∷ num l 1 ∷ num l 2 ∷ num l 3 ∷ num l 4 ∷ num l 5 ∷ num l 6 ∷ num l 7 ∷ []

-- the key of a line
abbrev pub line_key : Line → ℕ
line_key l = key_of (kind l) (word l) (rest l)

-- the keys by which the parts of a program and its rows ascend are those of their frames
pub record KeysOfFrames : Type 0 where
  pub edge : (e : Edge) → edge_key e ≡ line_key (line_of (edge_frame e))
  pub transition : (t : Transition) → transition_key t ≡ line_key (line_of (transition_frame t))
  pub row : (states : ℕ) (r : TableRow) → row_key states r ≡ line_key (line_of (row_frame states r))
  pub initial : (q : ℕ) → initial_key q ≡ line_key (line_of (initial_frame q))
  pub rejecting : (q : ℕ) → rejecting_key q ≡ line_key (line_of (rejecting_frame q))

-- the sizes that are told of an accepted file (paper: R, P and Q): the counts of its program's routines and states, the
-- largest count of nodes, and how many bytes its marks have (paper: the sheet), at most 16,384
pub record SizesTold (p : Program) (room : Room) : Type 0 where
  pub routines : room.routines ≡ p.routines
  pub states : room.states ≡ p.automaton.states
  -- no routine has more nodes (paper: places), and some routine has as many
  pub at_most : (f : ℕ) → f < p.routines → get_or p.nodes f 0 ≤ room.nodes
  pub attained : (f : ℕ) × (f < p.routines) × (get_or p.nodes f 0 ≡ room.nodes)
  pub marks : room.marks ≡ room.routines * room.nodes * room.states * room.states
  pub limited : room.marks ≤ marks_most

-- what an exchange has to be lent, as asked for beforehand: with these lengths the call is not refused for one, by 9 or 11
-- after its text
pub record Needed (b : Lent) (a : Back) : Type 0 where
  pub second : length b.second ≡ a.values.room.marks
  pub work : length b.work ≡ a.values.room.work

-- what is lent, with what was written in the place of the file
abbrev pub with_written : Lent → Back → Lent
with_written b a = record {
  file = wrote a;
  marks = b.marks;
  text = b.text;
  output = b.output;
  work = b.work;
  second = b.second;
  limit = b.limit;
  from = b.from;
}

-- what is written of a file, and what reading that gives back: it is accepted, has no row, is read as the file's
-- program and has at most 7,712 bytes
pub record WrittenFile (b : Lent) (a c : Back) : Type 0 where
  pub accepted : c.refusal ≡ 0
  pub no_row : rows_in (wrote a) ≡ []
  pub same_program : program_in (with_written b a) ≡ program_in b
  pub its_size : length (wrote a) ≤ output_size

-- what an accepted repair writes, by an edit line or the text of an exchange: the file of the changed program, which is
-- well-formed, without a row
pub record ChangedFile (k : Form) (b : Lent) (a : Back) : Type 0 where
  pub change : Change
  pub wanted : wanted_change k (program_in b) b.text ≡ Read change
  pub file : FileOf (changed_program change (program_in b)) [] (wrote a)

-- ---- the numbers of configurations (paper: standings), for all sizes together

pub record Numbering (z : Sizes) : Type 0 where
  -- each configuration within the sizes has a number below the length of the marks
  pub below : {f n r q : ℕ} → InRange z f n r q → number z f n r q < numbers z
  -- no two have the same
  pub one_to_one : {f n r q g m s t : ℕ} → InRange z f n r q → InRange z g m s t → number z f n r q ≡ number z g m s t
      → (f ≡ g) × (n ≡ m) × (r ≡ s) × (q ≡ t)
  -- and each number below that length is one's: that of these parts
  pub parts : (i : ℕ) → i < numbers z → PartsOf z i (routine_of z i) (node_of z i) (root_of z i) (state_of z i)
  -- the order of the numbers is the order of the parts, compared left to right, whatever the sizes
  pub order : {f n r q g m s t : ℕ} → InRange z f n r q → InRange z g m s t → Earlier f n r q g m s t
      → number z f n r q < number z g m s t

-- ---- demand 2: a configuration is marked exactly when some run, each return going back to its own call, arrives there
-- (paper: the sheet marks a standing)

-- of a program, its sizes, and what a full analysis of its file gives back
pub record Demand2 (z : Sizes) (p : Program) (a : Back) : Type 0 where
  -- there is a byte for each number
  pub bytes : length a.marks ≡ numbers z
  -- at the number of a configuration there is a 1 exactly when some run of the program arrives there
  pub marked : {f n r q : ℕ} → InRange z f n r q → (get_or a.marks (number z f n r q) 0 ≡ 1) ↔ Occurs p f n r q
  -- no run arrives at a configuration that has no number
  pub numbered : {f n r q : ℕ} → Occurs p f n r q → InRange z f n r q
  -- every other byte is 0
  pub others : (i : ℕ) → i < numbers z
      → ((get_or a.marks i 0 ≡ 1) × Occurs p (routine_of z i) (node_of z i) (root_of z i) (state_of z i))
      ⊎ ((get_or a.marks i 0 ≡ 0) × (¬ (Occurs p (routine_of z i) (node_of z i) (root_of z i) (state_of z i))))
  -- so many configurations are marked
  pub configurations : a.values.configurations ≡ count_set a.marks
  -- and so many violations are there: exactly the configurations that occur with a state that is rejecting now,
  -- ascending
  pub violation-count : a.values.violations ≡ length (violations p)
  pub violating : (i : ℕ) → Memᴰ i (violations p) ↔ Violation z p i
  pub ascending : Ascends 0 (violations p)

-- the sentence that the user cares about: no run arrives in a rejecting state (paper: a forbidden state)
abbrev pub Safe : Program → Type 0
Safe p = (f n r q : ℕ) (below : List Activation) → Run p f n r below q → is_rejecting p.automaton q ≡ false

-- the violation that is given for a number: the least one not below it, or 4294967295 where there is none
pub data Next (z : Sizes) (p : Program) (low : ℕ) : ℕ → Type 0 where
  least : {v : ℕ} → Violation z p v → low ≤ v → ((w : ℕ) → Violation z p w → low ≤ w → v ≤ w) → Next z p low v
  nothing : ((w : ℕ) → Violation z p w → w < low) → Next z p low 4294967295

-- where runs are cut off, from a number on: the least configuration that is not below it, with what cuts runs off there;
-- or 4294967295 and 0 where there is none
pub data NextBlocked (z : Sizes) (p : Program) (low : ℕ) : ℕ → ℕ → Type 0 where
  least : {v k : ℕ} → Blocked z p v k → low ≤ v → ((w j : ℕ) → Blocked z p w j → low ≤ w → v ≤ w)
      → NextBlocked z p low v k
  nothing : ((w j : ℕ) → Blocked z p w j → w < low) → NextBlocked z p low 4294967295 0

-- the full analysis ends with nothing pending (paper: waiting), its iterations (paper: takings) are the procedure's, and
-- no configuration is taken more often than 1 + R Q Q times, for R routines and Q states
pub record Procedure (p : Program) (a : Back) : Type 0 where
  pub ends : (analysis p).pending ≡ none_set (sizes_of p)
  pub iterations : a.values.iterations ≡ length (taken_in p)
  pub at_most : (i : ℕ) → times i (taken_in p) ≤ 1 + p.routines * p.automaton.states * p.automaton.states

-- ---- a limit on the iterations (paper: a ceiling on takings)

-- the largest limit
abbrev pub no_limit : ℕ
no_limit = 18446744073709551615

-- the same call with another limit
abbrev pub with_limit : ℕ → Lent → Lent
with_limit limit b = record {
  file = b.file;
  marks = b.marks;
  text = b.text;
  output = b.output;
  work = b.work;
  second = b.second;
  limit = limit;
  from = b.from;
}

-- what a giving up leaves: no line and no counts, the marks as they were, and the working buffer all zero
abbrev pub given_up : Lent → Back
given_up b = record {
  refusal = 22;
  line = 0;
  values = no_values;
  marks = b.marks;
  output = b.output;
  work = zeroed b.work;
  second = b.second;
}

-- ---- the moves of a run, where the automaton (paper: the rule) hears calls and returns

-- of the moves by a call or a return
pub record Heeds (r : Automaton) (e : Event) : Type 0 where
  -- without a transition of such a label (paper: a rule line) the event leaves every state alone
  pub unheard : ((t : Transition) → Memᴰ t r.transitions → t.label ≢ label_of e)
      → (q s : ℕ) → (moves r q e s ≡ true) ↔ ((q < r.states) × (q ≡ s))
  -- with one or more, only the listed moves happen
  pub heard : (t : Transition) → Memᴰ t r.transitions → t.label ≡ label_of e
      → (q s : ℕ) → (moves r q e s ≡ true)
      ↔ Memᴰ (record { before = q; label = label_of e; after = s }) r.transitions

-- every transition is on an action, as in every file from before calls and returns were heard
abbrev pub OnActions : Automaton → Type 0
OnActions r = (t : Transition) → Memᴰ t r.transitions → t.label < first_call

-- the moves by an automaton that sees actions and not calls or returns
abbrev pub moves_before : Automaton → ℕ → Event → ℕ → Bool
moves_before r q (event.Action a) s = listed q a s r.transitions
moves_before r q (event.Call f) s = ltb q r.states && eqb q s
moves_before r q (event.Return f) s = ltb q r.states && eqb q s

-- ---- one look at the automaton: a state and a label (an action, a call or a return) give all next states at once, as
-- bits

-- of a program, and what the look gives for a state and a label
pub record OneLook (p : Program) (look : ℕ → ℕ → ℕ) : Type 0 where
  -- for a state and an event of the program bit s is set exactly when the automaton can then be in state s
  pub bits : (q : ℕ) (e : Event) → q < p.automaton.states → EventOf p.automaton p.routines e
      → (s : ℕ) → (bit s (look q (label_of e)) ≡ true) ↔ (moves p.automaton q e s ≡ true)
  -- a state outside the program's range gives no bit
  pub no_state : (q l s : ℕ) → p.automaton.states ≤ q → bit s (look q l) ≡ false
  -- nor does a label outside it, which no event of the program has
  pub no_label : (q l s : ℕ) → ((e : Event) → EventOf p.automaton p.routines e → label_of e ≢ l)
      → bit s (look q l) ≡ false

-- ---- saved marks (paper: saved sheets): old ones, 16,384 flags in the numbers of before sizes were chosen, and frames

-- a program for which no marks were saved (24): more than 16 nodes in some routine (paper: places), more than 8 states, or
-- more than 256 transitions (paper: rule lines)
pub data TooLarge (p : Program) : Type 0 where
  by_nodes : (f : ℕ) → 16 < get_or p.nodes f 0 → TooLarge p
  by_states : 8 < p.automaton.states → TooLarge p
  by_transitions : 256 < length p.automaton.transitions → TooLarge p

-- a move that none of the checks before 25 refuses
abbrev pub Reaches25 : Back → Type 0
Reaches25 a = (a.refusal ≡ 25) ⊎ ((a.refusal ≡ 10) ⊎ (a.refusal ≡ 0))

-- of a move to frames: 25 says that the old marks are not the program's own, which have a 1 exactly where some run
-- arrives; and what is written meets the rules of frames
pub record MovedOver (b : Lent) (a : Back) : Type 0 where
  pub given : (a.refusal ≢ 25) ↔ Shows old_sizes (Occurs (program_in b)) b.marks
  pub written : a.refusal ≡ 0 → Saves (program_in b) (wrote a)

-- of a move back: 25 says that the frames break the rules; and what is written are the program's own old marks
pub record MovedBack (b : Lent) (a : Back) : Type 0 where
  pub given : (a.refusal ≢ 25) ↔ Saves (program_in b) b.text
  pub written : a.refusal ≡ 0 → Shows old_sizes (Occurs (program_in b)) (wrote a)

-- ---- demand 3: for every list of forward and inside-out repair calls, by edit lines and by exchanges of routines,
-- refused ones among them, the marks are byte for byte those of a full analysis (paper: worked afresh) of the program as
-- a plain reference model (paper: the plain book) has it, and the refusals are the model's; and a change that keeps a
-- routine's summaries (paper: pairs) and calls leaves the other routines alone

-- of a file that the list begins with, the calls, and what they gave back
pub record Demand3 (file : List ℕ) (cs : List Call) (gs : List Back) : Type 0 where
  -- after every call of the list the refusal's number, or that there is none, is the model's; the marks, which an
  -- accepted exchange has in its second buffer, are the fresh ones of the model's program; and an accepted call has that
  -- program, written, at the start of its output and the length in its answer
  pub seen : seen_of cs gs ≡ book_played cs (read_file file).program
  -- the routines that an inside-out call says it has reanalyzed are those that the rules give for this change of the
  -- program that the model had before the call
  pub reanalyzed : BookRoutines cs gs (read_file file).program
  -- where an accepted change leaves the changed routine with the same summaries, calling each other routine in the
  -- same states, no configuration of any other routine differs
  pub others : BookLeaves cs (read_file file).program

-- the call of pruning (paper: the keeping) that does what a forward drop did: for the file that the drop wrote, on the
-- marks that were lent to it
abbrev pub pruning_of : Lent → Back → Lent
pruning_of b a = record {
  file = wrote a;
  marks = b.marks;
  text = [];
  output = [];
  work = b.work;
  second = [];
  limit = 0;
  from = 0;
}
