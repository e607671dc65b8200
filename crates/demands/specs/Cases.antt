-- The paper's cases P1 to P10, R1 and R2 for repairs by edit lines, T1 to T4 for tables, E1 to E5 for
-- exchanges of a routine, H1 to H6 for calls and returns that are heard, B1 to B6 for where runs are cut off, L1 to
-- L4 for a limit, S1 to S8 for the sizes that a program chooses, and M1 and M2 for saved marks, each from the bytes of
-- its file, and of its edit line or text where it has one: one table.
use Rattle.std.specs.Prelude.{◌≡◌, List, [], ◌∷◌, ◌++◌, ℕ, length, drop, set, replicate}
use Rattle.std.proofs.Math.Option.{Option, none, some}
use Prim.Native.String.{String}
use Rattle.program.specs.Sample.{bytes, header, edges, transitions, F}
use Rattle.program.specs.Sizes.{output_size}
use Rattle.rows.specs.Rows.{Pair}
use Rattle.reach.specs.Marks.{violations}
use Rattle.exchange.specs.Changes.{Form, EditLine, ExchangeText}
use Rattle.exchange.specs.Lengths.{longer}
use Rattle.desk.specs.Entries.{Entry, sizes, faulty-pair, analyze, next_blocked, exchange_sizes, Lent, Room, Back, program_in}
use Rattle.desk.specs.Entries.{marks_to_frames, frames_to_marks, Gives}
use Rattle.program.specs.Chosen.{numbers}
use Rattle.saved.specs.Saved.{old_sizes}
use Rattle.demands.specs.Demands.{no_limit}
use Rattle.demands.specs.Lists.{entry}
use Rattle.demands.specs.Lists as repair

-- ---- what a row says

-- a file, by its lines, that is analyzed in full with so many bytes of marks, and what is expected: these
-- configurations and no others are marked, these are the violations, and so many iterations are made; none where the
-- row says nothing of it
pub record Fresh : Type 0 where
  pub file : List String
  pub size : ℕ
  pub configurations : Option (List ℕ)
  pub violating : Option (List ℕ)
  pub iterations : Option ℕ

-- a file, by its lines, so many bytes of marks, the configurations of its own marks, an edit line or the lines of an
-- exchange's text, and the length of an exchange's second buffer; and what is expected: the refusal's number, 0 for
-- none, the configurations that are marked afterwards, those that the second buffer marks, the lines that are written,
-- and the reanalyzed routines, a bit each; none where the second buffer stays, and where the row says nothing of the
-- routines
pub record Changed : Type 0 where
  pub file : List String
  pub size : ℕ
  pub before : List ℕ
  pub form : Form
  pub text : List String
  pub room : ℕ
  pub refused : ℕ
  pub after : List ℕ
  pub second : Option (List ℕ)
  pub wrote : List String
  pub reanalyzed : Option ℕ

-- a file, by its lines, that is analyzed with a limit and so many bytes of marks, and the configurations that are
-- marked before; and what is expected: the refusal's number, 0 for none, the configurations that are marked afterwards,
-- and the iterations told
pub record Limited : Type 0 where
  pub file : List String
  pub size : ℕ
  pub limit : ℕ
  pub before : List ℕ
  pub refused : ℕ
  pub after : List ℕ
  pub iterations : ℕ

-- a file, by its lines, whose sizes are asked for, or with the lines of a text what this exchange has to be lent; and
-- what is expected: the refusal's number, 0 for none, its line, and the sizes and lengths told
pub record Asked : Type 0 where
  pub file : List String
  pub text : Option (List String)
  pub refused : ℕ
  pub line : ℕ
  pub room : Room

-- a file, by its lines, whose faulty pair is asked for; and what is expected: the refusal's number, 0 for none, and the
-- pair told
pub record PairAsked : Type 0 where
  pub file : List String
  pub refused : ℕ
  pub pair : Pair

-- a file, by its lines, so many bytes of marks, the configurations of its own marks, and a number from which on it is
-- asked where runs are cut off; and what is expected: the configuration, and the place of the edge that cuts them off
pub record CutAsked : Type 0 where
  pub file : List String
  pub size : ℕ
  pub own : List ℕ
  pub from : ℕ
  pub found : ℕ
  pub edge : ℕ

-- a file, by its lines, so many bytes of marks, and its old marks, by the configurations of their numbers, and its
-- frames, by their lines: each is moved to the other
pub record Saved : Type 0 where
  pub file : List String
  pub size : ℕ
  pub old : List ℕ
  pub frames : List String

pub data Case : Type 0 where
  fresh : Fresh → Case
  changed : Changed → Case
  limited : Limited → Case
  asked : Asked → Case
  pair_asked : PairAsked → Case
  cut_asked : CutAsked → Case
  saved : Saved → Case

-- ---- what it means

-- so many marks with a 1 at these numbers and 0 elsewhere
abbrev pub marks_at : ℕ → List ℕ → List ℕ
marks_at size [] = replicate size 0
marks_at size (i ∷ is) = set (marks_at size is) i 1

-- a second buffer as it is lent, with anything in it
abbrev pub anything : ℕ → List ℕ
anything room = replicate room 7

-- and as it is afterwards
abbrev pub second_after : ℕ → Option (List ℕ) → List ℕ
second_after room none = anything room
second_after room (some is) = marks_at room is

-- what is expected holds; nothing is asked where nothing is expected
abbrev pub Said : {A : Type 0} → (A → Type 0) → Option A → Type 0
Said P none = Unit {0}
Said P (some x) = P x

-- what is lent: a file by its lines, marks, an edit line or a text, an output of zeros, a working buffer of so many
-- zeros, a second buffer of so many bytes, a limit, and where to begin in a list
abbrev pub lent_from : List String → List ℕ → List ℕ → ℕ → ℕ → ℕ → ℕ → Lent
lent_from file marks text work second limit from = record {
  file = bytes file;
  marks = marks;
  text = text;
  output = replicate output_size 0;
  work = replicate work 0;
  second = anything second;
  limit = limit;
  from = from;
}

-- where there is no list
abbrev pub lent_with : List String → List ℕ → List ℕ → ℕ → ℕ → ℕ → Lent
lent_with file marks text work second limit = lent_from file marks text work second limit 0

abbrev pub lent_fresh : Fresh → Lent
lent_fresh c = lent_with c.file (marks_at c.size []) [] c.size 0 no_limit

-- what a full analysis gives back is as expected: the file is accepted, and so on
pub record Analyzed (c : Fresh) (a : Back) : Type 0 where
  pub accepted : a.refusal ≡ 0
  pub marks : Said (λ is. a.marks ≡ marks_at c.size is) c.configurations
  pub violating : Said (λ is. (violations (program_in (lent_fresh c)) ≡ is)
      × (a.values.violations ≡ length is)) c.violating
  pub iterations : Said (λ n. a.values.iterations ≡ n) c.iterations

-- the working buffer has the longer of the two lengths
abbrev pub lent_change : Changed → Lent
lent_change c =
    lent_with c.file (marks_at c.size c.before) (bytes c.text) (longer c.size c.room) c.room 0

-- what a repair gives back is as expected: the refusal, the marks and the second buffer; the lines that are written
-- stand at the start of the output, whose other bytes stay
pub record Repaired (c : Changed) (a : Back) : Type 0 where
  pub refused : a.refusal ≡ c.refused
  pub marks : a.marks ≡ marks_at c.size c.after
  pub second : a.second ≡ second_after c.room c.second
  pub size : a.values.written ≡ length (bytes c.wrote)
  pub output : a.output ≡ bytes c.wrote ++ drop (length (bytes c.wrote)) (lent_change c).output

-- both repairs, and of the inside-out one the reanalyzed routines too
pub record RepairedBoth (c : Changed) : Type 0 where
  pub forward : (a : Back) → Gives (entry c.form repair.forward) (lent_change c) a → Repaired c a
  pub inside_out : (a : Back) → Gives (entry c.form repair.inside_out) (lent_change c) a → Repaired c a
  pub reanalyzed : (a : Back) → Gives (entry c.form repair.inside_out) (lent_change c) a
      → Said (λ n. a.values.reanalyzed ≡ n) c.reanalyzed

abbrev pub lent_limited : Limited → Lent
lent_limited c = lent_with c.file (marks_at c.size c.before) [] c.size 0 c.limit

-- what an analysis with a limit gives back is as expected
pub record Tried (c : Limited) (a : Back) : Type 0 where
  pub refused : a.refusal ≡ c.refused
  pub marks : a.marks ≡ marks_at c.size c.after
  pub iterations : a.values.iterations ≡ c.iterations

-- no buffer is lent to a call that asks
abbrev pub text_of : Option (List String) → List String
text_of none = []
text_of (some ls) = ls

abbrev pub lent_asked : Asked → Lent
lent_asked c = lent_with c.file [] (bytes (text_of c.text)) 0 0 0

-- what is told is as expected
pub record Told (c : Asked) (a : Back) : Type 0 where
  pub refused : a.refusal ≡ c.refused
  pub line : a.line ≡ c.line
  pub room : a.values.room ≡ c.room

abbrev pub lent_pair_asked : PairAsked → Lent
lent_pair_asked c = lent_with c.file [] [] 0 0 0

pub record PairAnswered (c : PairAsked) (a : Back) : Type 0 where
  pub refused : a.refusal ≡ c.refused
  pub pair : a.values.pair ≡ c.pair

abbrev pub lent_cut_asked : CutAsked → Lent
lent_cut_asked c = lent_from c.file (marks_at c.size c.own) [] c.size 0 0 c.from

pub record CutAnswered (c : CutAsked) (a : Back) : Type 0 where
  pub accepted : a.refusal ≡ 0
  pub found : a.values.found ≡ c.found
  pub edge : a.values.edge ≡ c.edge

-- what is moved, with an output that is just long enough for what is expected
abbrev pub lent_saved : Saved → List ℕ → List ℕ → List ℕ → Lent
lent_saved c marks text expected = record {
  file = bytes c.file;
  marks = marks;
  text = text;
  output = anything (length expected);
  work = anything c.size;
  second = [];
  limit = 0;
  from = 0;
}

abbrev pub old_marks_of : Saved → List ℕ
old_marks_of c = marks_at (numbers old_sizes) c.old

-- a move is accepted and fills the output
pub record MovedTo (expected : List ℕ) (a : Back) : Type 0 where
  pub accepted : a.refusal ≡ 0
  pub size : a.values.written ≡ length expected
  pub output : a.output ≡ expected

-- both ways
pub record SavedBoth (c : Saved) : Type 0 where
  pub over : (a : Back) → Gives marks_to_frames (lent_saved c (old_marks_of c) [] (bytes c.frames)) a
      → MovedTo (bytes c.frames) a
  pub back : (a : Back) → Gives frames_to_marks (lent_saved c [] (bytes c.frames) (old_marks_of c)) a
      → MovedTo (old_marks_of c) a

abbrev pub asking : Option (List String) → Entry
asking none = sizes
asking (some ls) = exchange_sizes

abbrev pub Holds : Case → Type 0
Holds (fresh c) = (a : Back) → Gives analyze (lent_fresh c) a → Analyzed c a
Holds (changed c) = RepairedBoth c
Holds (limited c) = (a : Back) → Gives analyze (lent_limited c) a → Tried c a
Holds (asked c) = (a : Back) → Gives (asking c.text) (lent_asked c) a → Told c a
Holds (pair_asked c) = (a : Back) → Gives faulty-pair (lent_pair_asked c) a → PairAnswered c a
Holds (cut_asked c) = (a : Back) → Gives next_blocked (lent_cut_asked c) a → CutAnswered c a
Holds (saved c) = SavedBoth c

-- ---- the rows

-- F with these edges, and with these lines after its transitions
abbrev with : List String → List String → List String
with steps rest = header ++ steps ++ transitions ++ rest

-- the configurations of F
abbrev pub of_f : List ℕ
of_f = 0 ∷ 10 ∷ 19 ∷ 27 ∷ 37 ∷ []

-- P1: F has configurations 0, 10, 19, 27, 37
abbrev pub P1 : Fresh
P1 = record { file = F; size = 54; configurations = some of_f; violating = some []; iterations = none }

-- P2: it takes 6 iterations
abbrev pub P2 : Fresh
P2 = record { file = F; size = 54; configurations = none; violating = none; iterations = some 6 }

-- P3: F with no initial state: no mark, 0 iterations
abbrev pub P3 : Fresh
P3 = record {
  file = with edges ("4602" ∷ "45000B" ∷ []);
  size = 54;
  configurations = some [];
  violating = some [];
  iterations = some 0;
}

-- P4: F with state 0 rejecting too: the violations are 0 and 27 only
abbrev pub P4 : Fresh
P4 =
    record {
      file = with edges ("4900" ∷ "4600" ∷ "4602" ∷ "45000D" ∷ []);
      size = 54;
      configurations = some of_f;
      violating = some (0 ∷ 27 ∷ []);
      iterations = some 6;
    }

-- P5: dropping 01 00 00 01 from F leaves 0 and 27; reanalyzed are 0 and 1
abbrev pub P5 : Changed
P5 =
    record {
      file = F;
      size = 54;
      before = of_f;
      form = EditLine;
      text = "2D01000001" ∷ [];
      room = 0;
      refused = 0;
      after = 0 ∷ 27 ∷ [];
      second = none;
      wrote = with ("5300004102" ∷ "5300020101" ∷ []) ("4900" ∷ "4602" ∷ "45000B" ∷ []);
      reanalyzed = some 3;
    }

-- P6: dropping 00 00 41 02 from F leaves 0; reanalyzed is 0 only
abbrev pub P6 : Changed
P6 =
    record {
      file = F;
      size = 54;
      before = of_f;
      form = EditLine;
      text = "2D00004102" ∷ [];
      room = 0;
      refused = 0;
      after = 0 ∷ [];
      second = none;
      wrote = with ("5300020101" ∷ "5301000001" ∷ []) ("4900" ∷ "4602" ∷ "45000B" ∷ []);
      reanalyzed = some 1;
    }

-- P7: F with the single edge 00 00 40 01, main calling itself: configuration 0 alone
abbrev pub P7 : Fresh
P7 = record {
  file = with ("5300004001" ∷ []) ("4900" ∷ "4602" ∷ "45000A" ∷ []);
  size = 54;
  configurations = some (0 ∷ []);
  violating = some [];
  iterations = some 1;
}

-- P8: adding 01 00 01 01 to what P6 leaves changes no mark, and no routine is reanalyzed
abbrev pub P8 : Changed
P8 =
    record {
      file = P6.wrote;
      size = 54;
      before = P6.after;
      form = EditLine;
      text = "2B01000101" ∷ [];
      room = 0;
      refused = 0;
      after = P6.after;
      second = none;
      wrote = with ("5300020101" ∷ "5301000001" ∷ "5301000101" ∷ []) ("4900" ∷ "4602" ∷ "45000C" ∷ []);
      reanalyzed = some 0;
    }

-- P9: replacing a label by itself is 15
abbrev pub P9 : Changed
P9 = record {
  file = F;
  size = 54;
  before = of_f;
  form = EditLine;
  text = "3D0000410241" ∷ [];
  room = 0;
  refused = 15;
  after = of_f;
  second = none;
  wrote = [];
  reanalyzed = none;
}

-- P10: the drop of an absent edge is 14
abbrev pub P10 : Changed
P10 = record {
  file = F;
  size = 54;
  before = of_f;
  form = EditLine;
  text = "2D00000102" ∷ [];
  room = 0;
  refused = 14;
  after = of_f;
  second = none;
  wrote = [];
  reanalyzed = none;
}

-- ---- repairs by edit lines

-- R1: F with the single edge 00 00 00 02, which becomes a call of routine 1: the drop reanalyzes 0, and by the add 1
-- gains its entry
abbrev pub R1 : Changed
R1 =
    record {
      file = with ("5300000002" ∷ []) ("4900" ∷ "4602" ∷ "45000A" ∷ []);
      size = 54;
      before = 0 ∷ 19 ∷ [];
      form = EditLine;
      text = "3D0000000241" ∷ [];
      room = 0;
      refused = 0;
      after = 0 ∷ 27 ∷ [];
      second = none;
      wrote = with ("5300004102" ∷ []) ("4900" ∷ "4602" ∷ "45000A" ∷ []);
      reanalyzed = some 3;
    }

-- R2: dropping 00 02 01 01 from what P5 leaves, where the call never returns: the entries of both routines stay;
-- reanalyzed is 0 only
abbrev pub R2 : Changed
R2 =
    record {
      file = P5.wrote;
      size = 54;
      before = P5.after;
      form = EditLine;
      text = "2D00020101" ∷ [];
      room = 0;
      refused = 0;
      after = 0 ∷ 27 ∷ [];
      second = none;
      wrote = with ("5300004102" ∷ []) ("4900" ∷ "4602" ∷ "45000A" ∷ []);
      reanalyzed = some 1;
    }

-- ---- the automaton (paper: the rule) as a table

-- T1: F's automaton in rows, which go on in state 2, and an edge of main by action 1 to its exit: it violates there, in
-- state 2
abbrev pub T1 : Fresh
T1 =
    record {
      file =
          header ++ "5300000101" ∷ "5300004102" ∷ "5300020101" ∷ "5301000001" ∷ "55010000000202" ∷ "55020000000201"
          ∷ "55030000000101" ∷ "55040000000302" ∷ "4900" ∷ "4602" ∷ "45000D" ∷ [];
      size = 54;
      configurations = some (0 ∷ 10 ∷ 11 ∷ 19 ∷ 27 ∷ 37 ∷ []);
      violating = some (11 ∷ []);
      iterations = some 7;
    }

-- T2: no row meets state 1 and action 2: 19, and this pair is told
abbrev pub T2 : PairAsked
T2 =
    record {
      file =
          "50010303" ∷ "520004" ∷ "5300000002" ∷ "5300020203" ∷ "5300030101" ∷ "55010000000402" ∷ "55030000000101"
          ∷ "55030000000200" ∷ "55040000000702" ∷ "4900" ∷ "4602" ∷ "45000B" ∷ [];
      refused = 19;
      pair = record { state = 1; action = 2 };
    }

-- T3: two rows meet state 1 and action 2: 20, and this pair is told
abbrev pub T3 : PairAsked
T3 =
    record {
      file =
          "50010303" ∷ "520004" ∷ "5300000002" ∷ "5300020203" ∷ "5300030101" ∷ "55020000000401" ∷ "55030000000101"
          ∷ "55030000000200" ∷ "55030000000402" ∷ "55040000000702" ∷ "4900" ∷ "4602" ∷ "45000C" ∷ [];
      refused = 20;
      pair = record { state = 1; action = 2 };
    }

-- T4: no row meets state 0 and action 3, and two meet state 1 and action 0: the smaller state decides, not the smaller
-- action
abbrev pub T4 : PairAsked
T4 = record {
  file = "50010204" ∷ "520002" ∷ "55010000000700" ∷ "55020000000101" ∷ "55020000000F00" ∷ "450005" ∷ [];
  refused = 19;
  pair = record { state = 0; action = 3 };
}

-- ---- exchanges of a routine of F

-- E1: routine 1 exchanged for itself gives the same file and, in the second buffer, the same marks; reanalyzed are 0
-- and 1
abbrev pub E1 : Changed
E1 = record {
  file = F;
  size = 54;
  before = of_f;
  form = ExchangeText;
  text = "520102" ∷ "5301000001" ∷ [];
  room = 54;
  refused = 0;
  after = of_f;
  second = some of_f;
  wrote = F;
  reanalyzed = some 3;
}

-- E2: routine 1 with a third node, its action done twice: the configuration at that node comes
abbrev pub E2 : Changed
E2 =
    record {
      file = F;
      size = 54;
      before = of_f;
      form = ExchangeText;
      text = "520103" ∷ "5301000002" ∷ "5301020001" ∷ [];
      room = 54;
      refused = 0;
      after = of_f;
      second = some (0 ∷ 10 ∷ 19 ∷ 27 ∷ 37 ∷ 46 ∷ []);
      wrote =
          "50020302" ∷ "520003" ∷ "520103" ∷ "5300004102" ∷ "5300020101" ∷ "5301000002" ∷ "5301020001"
          ∷ transitions ++ "4900" ∷ "4602" ∷ "45000D" ∷ [];
      reanalyzed = none;
    }

-- E3: routine 0 with two nodes has no node 2, though it had one before: 13
abbrev pub E3 : Changed
E3 = record {
  file = F;
  size = 54;
  before = of_f;
  form = ExchangeText;
  text = "520002" ∷ "5300004102" ∷ [];
  room = 54;
  refused = 13;
  after = of_f;
  second = none;
  wrote = [];
  reanalyzed = none;
}

-- E4: two routines in one text: 21
abbrev pub E4 : Changed
E4 = record {
  file = F;
  size = 54;
  before = of_f;
  form = ExchangeText;
  text = "520003" ∷ "520102" ∷ [];
  room = 54;
  refused = 21;
  after = of_f;
  second = none;
  wrote = [];
  reanalyzed = none;
}

-- E5: in what P6 leaves, main exchanged so that it calls routine 1 again: the drop reanalyzes 0, and by the add 1 gains
abbrev pub E5 : Changed
E5 = record {
  file = P6.wrote;
  size = 54;
  before = P6.after;
  form = ExchangeText;
  text = "520003" ∷ "5300004102" ∷ "5300020101" ∷ [];
  room = 54;
  refused = 0;
  after = P6.after;
  second = some of_f;
  wrote = F;
  reanalyzed = some 3;
}

-- ---- calls and returns that are heard

-- F with these lines in the place of its transitions, and so many frames
abbrev hearing : List String → String → List String
hearing lines end = header ++ edges ++ lines ++ "4900" ∷ "4602" ∷ end ∷ []

-- H1: a call of routine 1 leads from state 0 to 1: the root is the state after the call's move
abbrev pub H1 : Fresh
H1 =
    record {
      file = hearing ("54000001" ∷ "54000102" ∷ "54004101" ∷ "54010001" ∷ "54010101" ∷ []) "45000D";
      size = 54;
      configurations = some (0 ∷ 10 ∷ 19 ∷ 31 ∷ 40 ∷ []);
      violating = some [];
      iterations = some 6;
    }

-- H2: a call of routine 1 is heard, and not from state 0: no call is made
abbrev pub H2 : Fresh
H2 =
    record {
      file = hearing ("54000001" ∷ "54000102" ∷ "54010001" ∷ "54010101" ∷ "54014101" ∷ []) "45000D";
      size = 54;
      configurations = some (0 ∷ []);
      violating = some [];
      iterations = some 1;
    }

-- H3: a return from routine 1 leads from state 1 to 0 and to 2: the summary (0, 1) ends before it
abbrev pub H3 : Fresh
H3 =
    record {
      file = hearing ("54000001" ∷ "54000102" ∷ "54010001" ∷ "54010101" ∷ "54016100" ∷ "54016102" ∷ []) "45000E";
      size = 54;
      configurations = some (0 ∷ 11 ∷ 18 ∷ 20 ∷ 27 ∷ 37 ∷ []);
      violating = some (11 ∷ 20 ∷ []);
      iterations = some 7;
    }

-- H4: a return from routine 1 is heard, and not from state 1: nothing comes back, and yet the caller is taken again
abbrev pub H4 : Fresh
H4 =
    record {
      file = hearing ("54000001" ∷ "54000102" ∷ "54006100" ∷ "54010001" ∷ "54010101" ∷ []) "45000D";
      size = 54;
      configurations = some (0 ∷ 27 ∷ 37 ∷ []);
      violating = some [];
      iterations = some 4;
    }

-- H5: dropping 01 00 00 01 from H1's program leaves the entry with the root that the call's move gives
abbrev pub H5 : Changed
H5 =
    record {
      file = H1.file;
      size = 54;
      before = 0 ∷ 10 ∷ 19 ∷ 31 ∷ 40 ∷ [];
      form = EditLine;
      text = "2D01000001" ∷ [];
      room = 0;
      refused = 0;
      after = 0 ∷ 31 ∷ [];
      second = none;
      wrote =
          header ++ "5300004102" ∷ "5300020101" ∷ "54000001" ∷ "54000102" ∷ "54004101" ∷ "54010001" ∷ "54010101"
          ∷ "4900" ∷ "4602" ∷ "45000C" ∷ [];
      reanalyzed = none;
    }

-- H6: a return's label is no edge's: 13
abbrev pub H6 : Changed
H6 = record {
  file = F;
  size = 54;
  before = of_f;
  form = EditLine;
  text = "2B00026101" ∷ [];
  room = 0;
  refused = 13;
  after = of_f;
  second = none;
  wrote = [];
  reanalyzed = none;
}

-- ---- where runs are cut off: 4294967295 is no configuration, or in the place of an edge a return

-- B1: the action of the only edge has no transition: runs are cut off at main's entry, by edge 0
abbrev pub B1 : CutAsked
B1 = record {
  file = "50010201" ∷ "520002" ∷ "5300000001" ∷ "4900" ∷ "4601" ∷ "450005" ∷ [];
  size = 8;
  own = 0 ∷ [];
  from = 0;
  found = 0;
  edge = 0;
}

-- B2: and nowhere from number 1 on
abbrev pub B2 : CutAsked
B2 = record {
  file = "50010201" ∷ "520002" ∷ "5300000001" ∷ "4900" ∷ "4601" ∷ "450005" ∷ [];
  size = 8;
  own = 0 ∷ [];
  from = 1;
  found = 4294967295;
  edge = 0;
}

-- B3: a call of routine 2 is heard, and has no transition from state 1, in which routine 1 begins anew: runs are cut off
-- there, at its entry with root 1, by edge 4, the first of that node
abbrev pub B3 : CutAsked
B3 = record {
  file =
      "50030304" ∷ "520005" ∷ "520105" ∷ "520202" ∷ "5300000102" ∷ "5300024203" ∷ "5300034104" ∷ "5300040001"
      ∷ "5301004202" ∷ "5301020003" ∷ "5301020301" ∷ "5301030204" ∷ "5301044101" ∷ "5302000301" ∷ "54000001"
      ∷ "54000100" ∷ "54000202" ∷ "54000300" ∷ "54004200" ∷ "54010001" ∷ "54010100" ∷ "54010201" ∷ "54010301"
      ∷ "4901" ∷ "4602" ∷ "450019" ∷ [];
  size = 135;
  own = 4 ∷ 13 ∷ 21 ∷ 30 ∷ 39 ∷ 45 ∷ 49 ∷ 54 ∷ 63 ∷ 73 ∷ 82 ∷ 90 ∷ 99 ∷ [];
  from = 0;
  found = 49;
  edge = 4;
}

-- B4: the return from routine 1 is heard, and has no transition from state 1: runs are cut off at its exit
abbrev pub B4 : CutAsked
B4 = record {
  file =
      "50020201" ∷ "520003" ∷ "520102" ∷ "5300004101" ∷ "5301000001" ∷ "54000001" ∷ "54006100" ∷ "4900" ∷ "450008"
      ∷ [];
  size = 24;
  own = 0 ∷ 12 ∷ 17 ∷ [];
  from = 0;
  found = 17;
  edge = 4294967295;
}

-- B5: the return from main is heard, and has no transition from state 0: nothing called main, so that no run is cut off
abbrev pub B5 : CutAsked
B5 = record {
  file = "50010201" ∷ "520002" ∷ "5300000001" ∷ "54000000" ∷ "54016000" ∷ "4900" ∷ "450006" ∷ [];
  size = 8;
  own = 0 ∷ 4 ∷ [];
  from = 0;
  found = 4294967295;
  edge = 0;
}

-- B6: the same where main calls itself: runs are cut off at its exit
abbrev pub B6 : CutAsked
B6 = record {
  file =
      "50010202" ∷ "520003" ∷ "5300000001" ∷ "5300004002" ∷ "5300020101" ∷ "54000000" ∷ "54000100" ∷ "54016000"
      ∷ "4900" ∷ "450009" ∷ [];
  size = 12;
  own = 0 ∷ 4 ∷ [];
  from = 0;
  found = 4;
  edge = 4294967295;
}

-- ---- a limit

-- L1: F takes 6 iterations, and a limit of 6 is enough
abbrev pub L1 : Limited
L1 = record { file = F; size = 54; limit = 6; before = 7 ∷ []; refused = 0; after = of_f; iterations = 6 }

-- L2: 5 are too few: the marks are as they were, and no count is told
abbrev pub L2 : Limited
L2 = record { file = F; size = 54; limit = 5; before = 7 ∷ []; refused = 22; after = 7 ∷ []; iterations = 0 }

-- L3: with no initial state nothing is taken, and 0 is enough
abbrev pub L3 : Limited
L3 = record { file = P3.file; size = 54; limit = 0; before = 7 ∷ []; refused = 0; after = []; iterations = 0 }

-- L4: P7's one iteration is one too many for 0
abbrev pub L4 : Limited
L4 = record { file = P7.file; size = 54; limit = 0; before = []; refused = 22; after = []; iterations = 0 }

-- ---- sizes

-- S1: routine 1 with four nodes: the new marks are longer, and the old ones stay
abbrev pub S1 : Changed
S1 =
    record {
      file = F;
      size = 54;
      before = of_f;
      form = ExchangeText;
      text = "520104" ∷ "5301000002" ∷ "5301020003" ∷ "5301030001" ∷ [];
      room = 72;
      refused = 0;
      after = of_f;
      second = some (0 ∷ 10 ∷ 19 ∷ 36 ∷ 46 ∷ 55 ∷ 64 ∷ []);
      wrote =
          "50020302" ∷ "520003" ∷ "520104" ∷ "5300004102" ∷ "5300020101" ∷ "5301000002" ∷ "5301020003" ∷ "5301030001"
          ∷ transitions ++ "4900" ∷ "4602" ∷ "45000E" ∷ [];
      reanalyzed = none;
    }

-- S2: routine 0 with two nodes: the new marks are shorter, and the working buffer is as long as the old ones
abbrev pub S2 : Changed
S2 =
    record {
      file = F;
      size = 54;
      before = of_f;
      form = ExchangeText;
      text = "520002" ∷ "5300004101" ∷ [];
      room = 36;
      refused = 0;
      after = of_f;
      second = some (0 ∷ 10 ∷ 18 ∷ 28 ∷ []);
      wrote =
          "50020302" ∷ "520002" ∷ "520102" ∷ "5300004101" ∷ "5301000001" ∷ transitions ++ "4900" ∷ "4602" ∷ "45000B"
          ∷ [];
      reanalyzed = none;
    }

-- two routines of two nodes, and 16 states
abbrev many_states : List String
many_states = "50021001" ∷ "520002" ∷ "520102" ∷ "450003" ∷ []

-- S3: with 33 nodes for routine 1 the product would be 2 times 33 times 16 times 16, above 16,384: 23
abbrev pub S3 : Changed
S3 = record {
  file = many_states;
  size = 1024;
  before = [];
  form = ExchangeText;
  text = "520121" ∷ [];
  room = 0;
  refused = 23;
  after = [];
  second = none;
  wrote = [];
  reanalyzed = none;
}

-- S4: nine states, and a row has two numbers of state bits, high first: from state 0 to 8, from each other to 1
abbrev pub S4 : Fresh
S4 =
    record {
      file =
          "50010901" ∷ "520002" ∷ "5300000001" ∷ "5500010000000108" ∷ "5501FE0000000101" ∷ "4900" ∷ "4608" ∷ "450007"
          ∷ [];
      size = 162;
      configurations = some (0 ∷ 89 ∷ []);
      violating = some (89 ∷ []);
      iterations = some 2;
    }

-- S5: F has 2 routines, at most 3 nodes, 3 states and marks of 54 bytes
abbrev pub S5 : Asked
S5 = record {
  file = F;
  text = none;
  refused = 0;
  line = 0;
  room = record { routines = 2; nodes = 3; states = 3; marks = 54; work = 0 };
}

-- S6: a file with a product above 16,384, as S3's would be: 23 with line 0, and no size is told
abbrev pub S6 : Asked
S6 = record {
  file = "50021001" ∷ "520002" ∷ "520121" ∷ "450003" ∷ [];
  text = none;
  refused = 23;
  line = 0;
  room = record { routines = 0; nodes = 0; states = 0; marks = 0; work = 0 };
}

-- S7: what S2's exchange has to be lent
abbrev pub S7 : Asked
S7 = record {
  file = F;
  text = some S2.text;
  refused = 0;
  line = 0;
  room = record { routines = 0; nodes = 2; states = 0; marks = 36; work = 54 };
}

-- S8: S1's exchange with a second buffer that is a byte short: 9
abbrev pub S8 : Changed
S8 = record {
  file = F;
  size = 54;
  before = of_f;
  form = ExchangeText;
  text = S1.text;
  room = 71;
  refused = 9;
  after = of_f;
  second = none;
  wrote = [];
  reanalyzed = none;
}

-- M1: F's old marks are at 0, 65, 129, 1024 and 1089, and its frames are five and the end
abbrev pub M1 : Saved
M1 = record {
  file = F;
  size = 54;
  old = 0 ∷ 65 ∷ 129 ∷ 1024 ∷ 1089 ∷ [];
  frames = "4D00000000" ∷ "4D00010001" ∷ "4D00020001" ∷ "4D01000000" ∷ "4D01010001" ∷ "450005" ∷ [];
}

-- M2: a program without an initial state has no mark, and the end alone
abbrev pub M2 : Saved
M2 = record { file = P3.file; size = 54; old = []; frames = "450000" ∷ [] }

-- ---- the table

abbrev pub table : List Case
table = fresh P1 ∷ fresh P2 ∷ fresh P3 ∷ fresh P4 ∷ changed P5 ∷ changed P6 ∷ fresh P7 ∷ changed P8
    ∷ changed P9 ∷ changed P10 ∷ changed R1 ∷ changed R2 ∷ fresh T1
    ∷ pair_asked T2 ∷ pair_asked T3 ∷ pair_asked T4
    ∷ changed E1 ∷ changed E2 ∷ changed E3 ∷ changed E4 ∷ changed E5
    ∷ fresh H1 ∷ fresh H2 ∷ fresh H3 ∷ fresh H4 ∷ changed H5 ∷ changed H6
    ∷ cut_asked B1 ∷ cut_asked B2 ∷ cut_asked B3 ∷ cut_asked B4 ∷ cut_asked B5 ∷ cut_asked B6
    ∷ limited L1 ∷ limited L2 ∷ limited L3 ∷ limited L4
    ∷ changed S1 ∷ changed S2 ∷ changed S3 ∷ fresh S4 ∷ asked S5 ∷ asked S6 ∷ asked S7 ∷ changed S8
    ∷ saved M1 ∷ saved M2 ∷ []
