-- Lists of repair calls, by edit lines and by exchanges: what each call is lent and gives back, one after the other,
-- and what the reference model says of the list.
use Rattle.std.specs.Prelude.{ℕ, ◌≡◌, ◌↔◌, ◌≢◌, cond, List, [], ◌∷◌, eqb, length, take}
use Rattle.program.specs.Program.{Program}
use Rattle.program.specs.Writing.{written}
use Rattle.reach.specs.Runs.{Occurs}
use Rattle.reach.specs.Reachable.{Calls}
use Rattle.reach.specs.Marks.{fresh_marks}
use Rattle.exchange.specs.Changes.{ChangeRead, Read, Refused, Form, EditLine, ExchangeText}
use Rattle.exchange.specs.Changing.{changed_routine}
use Rattle.exchange_text.specs.Wanted.{wanted_change}
use Rattle.repair.specs.Desk.{Desk}
use Rattle.repair.specs.Repairs.{InsideOutNumber}
use Rattle.desk.specs.Entries.{Entry, repair_forward, repair_inside_out, exchange_forward, exchange_inside_out}
use Rattle.desk.specs.Entries.{Lent, Back, Gives}
use Rattle.demands.specs.Book.{book_refusal, book_after, book_program}

-- ---- the calls, and what came back

-- the repair that is called
pub data Repair : Type 0 where
  forward : Repair
  inside_out : Repair

-- a call: which repair it is, whether it is handed an edit line or the text of an exchange, and that line or text, the
-- output, the working buffer and, if it is an exchange, the second buffer, which may be anything, of any length
pub record Call : Type 0 where
  pub form : Form
  pub repair : Repair
  pub text : List ℕ
  pub output : List ℕ
  pub work : List ℕ
  pub second : List ℕ

-- the function that a call names
abbrev pub entry : Form → Repair → Entry
entry EditLine forward = repair_forward
entry EditLine inside_out = repair_inside_out
entry ExchangeText forward = exchange_forward
entry ExchangeText inside_out = exchange_inside_out

-- what is lent to a call
abbrev pub lent_to : Desk → Call → Lent
lent_to d c = record {
  file = d.file;
  marks = d.marks;
  text = c.text;
  output = c.output;
  work = c.work;
  second = c.second;
  limit = 0;
  from = 0;
}

-- what a call wrote: so many bytes at the start of its output
abbrev pub wrote : Back → List ℕ
wrote a = take a.values.written a.output

-- the marks from a call on: what the second buffer holds after an accepted exchange, and else the marks as the call left
-- them
abbrev pub marks_from : Form → Back → List ℕ
marks_from EditLine a = a.marks
marks_from ExchangeText a = cond (eqb a.refusal 0) a.second a.marks

-- what is kept for the next call: these marks, and as its file a copy of what an accepted call wrote; a refused one
-- leaves the file
abbrev pub after : Form → Desk → Back → Desk
after k d a = record { file = cond (eqb a.refusal 0) (wrote a) d.file; marks = marks_from k a }

-- this is what the calls of a list gave back: each what its function promises for what was lent to it
unfoldable pub Gave : List Call → List Back → Desk → Type 0
Gave [] [] d = Unit
Gave [] (a ∷ gs) d = ⊥
Gave (c ∷ cs) [] d = ⊥
Gave (c ∷ cs) (a ∷ gs) d =
    Gives (entry c.form c.repair) (lent_to d c) a × Gave cs gs (after c.form d a)

-- ---- what is seen, and what the reference model says is seen

-- after a call: the refusal's number (0: none), the marks from there on, how many bytes were written, and these bytes
pub record Seen : Type 0 where
  pub refused : ℕ
  pub marks : List ℕ
  pub size : ℕ
  pub wrote : List ℕ

abbrev pub seen : Form → Back → Seen
seen k a = record { refused = a.refusal; marks = marks_from k a; size = a.values.written; wrote = wrote a }

-- of each call of a list
unfoldable pub seen_of : List Call → List Back → List Seen
seen_of [] gs = []
seen_of (c ∷ cs) [] = []
seen_of (c ∷ cs) (a ∷ gs) = seen c.form a ∷ seen_of cs gs

-- the model is told which calls are exchanges, and is fed the text and the lengths of output, working buffer and second
-- buffer
abbrev pub book_call : Program → Call → Program
book_call b c = book_after c.form b c.text (length c.output) (length c.work) (length c.second)

abbrev pub book_refuses : Program → Call → ℕ
book_refuses b c = book_refusal c.form b c.text (length c.output) (length c.work) (length c.second)

-- the change that a call says for the program that the model has, or its refusal
abbrev pub book_wanted : Program → Call → ChangeRead
book_wanted b c = wanted_change c.form b c.text

abbrev pub written_when : ℕ → Program → List ℕ
written_when n p = cond (eqb n 0) (written p) []

-- its refusal, the fresh marks of its program after the call, and that program, written
abbrev pub foreseen : ℕ → Program → Seen
foreseen n p = record { refused = n; marks = fresh_marks p; size = length (written_when n p); wrote = written_when n p }

unfoldable pub book_played : List Call → Program → List Seen
book_played [] b = []
book_played (c ∷ cs) b = foreseen (book_refuses b c) (book_program (book_call b c)) ∷ book_played cs (book_call b c)

-- ---- the reanalyzed routines (paper: reopened)

-- by the rules, for this change of the program that the model has; 0 where the call is refused, and for a forward one
abbrev pub RoutinesBy : Repair → ℕ → ChangeRead → Program → ℕ → Type 0
RoutinesBy forward n w b routines = routines ≡ 0
RoutinesBy inside_out n w b routines = InsideOutNumber (eqb n 0) w (book_program b) routines

-- so for each call of a list, in the program that the model had before the call
unfoldable pub BookRoutines : List Call → List Back → Program → Type 0
BookRoutines [] [] b = Unit
BookRoutines [] (a ∷ gs) b = ⊥
BookRoutines (c ∷ cs) [] b = ⊥
BookRoutines (c ∷ cs) (a ∷ gs) b = RoutinesBy c.repair (book_refuses b c) (book_wanted b c) b a.values.reanalyzed
    × BookRoutines cs gs (book_call b c)

-- ---- what changes leave alone

-- the change of a call that is not refused
abbrev pub accepted_change : ℕ → ChangeRead → ChangeRead
accepted_change n w = cond (eqb n 0) w (Refused n)

-- routine f has the same summaries in both programs, and calls each other routine in the same states: those after the
-- calls' moves, which it gives the other as roots
pub record KeepsRoutine (f : ℕ) (p p' : Program) : Type 0 where
  pub summaries : (r q : ℕ) → Occurs p f 1 r q ↔ Occurs p' f 1 r q
  pub calls : (g s : ℕ) → g ≢ f → Calls p (Occurs p) f g s ↔ Calls p' (Occurs p') f g s

-- where this change leaves the changed routine with the same summaries, calling each other routine in the same states, no
-- configuration of another routine differs
abbrev pub LeavesOthers : ChangeRead → Program → Program → Type 0
LeavesOthers (Read c) p p' =
    KeepsRoutine (changed_routine c) p p' → (g n r q : ℕ) → g ≢ changed_routine c → Occurs p g n r q ↔ Occurs p' g n r q
LeavesOthers (Refused n) p p' = Unit

-- so for each call of a list, in the model's program before the call and after it; a refused call is no change
unfoldable pub BookLeaves : List Call → Program → Type 0
BookLeaves [] b = Unit
BookLeaves (c ∷ cs) b =
    LeavesOthers (accepted_change (book_refuses b c) (book_wanted b c)) (book_program b) (book_program (book_call b c))
    × BookLeaves cs (book_call b c)
