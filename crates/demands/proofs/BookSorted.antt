-- The book and the changed program: sorting after a change of the book's set is the change of the sorted edges.
use mathlib.Core.Path.{◌≡◌, refl, sym, ap, ◌∙◌}
use mathlib.Core.Bool.{Bool, true, false, cond}
use mathlib.Core.List.{List, [], ◌∷◌, ◌++◌, map}
use Prim.Native.Nat.{ℕ, suc}
use native.Mathlib.Omega.{arith}
use lib.Dec.{ltb, leb}
use lib.ListN.{length}
use borrow.Author.Tests.{ltb-true, ltb-false, leb-true, lt-ltb, le-leb}
use Rattle.program.specs.Program.{Edge, Program}
use Rattle.program.specs.Frames.{num, edge_key}
use Rattle.program.specs.WellFormed.{All, WellFormed}
use Rattle.tables.specs.Keys.{Ascending}
use Rattle.edit.specs.Edits.{old_edge, new_edge}
use Rattle.edit_line.specs.EditLines.{edit_from, read_edit, wanted_edit}
use Rattle.edit.specs.Editing.{same_edge, has_edge, without, inserted, with_edges, edit_refusal, edited_edges, edited_program, wanted_by}
use Rattle.exchange.proofs.OtherRoutines.{own, others_remaining}
use Rattle.exchange.specs.Changes.{Change, step, whole, Form, EditLine, ExchangeText}
use Rattle.exchange.specs.Changing.{others, inserted_all, with_nodes, exchanged_program, changed_program}
use Rattle.exchange_text.specs.ExchangeText.{text_lines, of_routine, any, outside, out_of_range, exchange_in, exchange_from, wanted_exchange}
use Rattle.exchange.specs.Lengths.{measured_rows}
use Rattle.exchange_text.specs.Wanted.{of_edit, wanted_change}
use Rattle.text.specs.declared.Line.{Line}
use Rattle.demands.specs.Book.{book_edges, book_changed, sorted, book_program}
use Rattle.edit.specs.declared.Edit.{Edit}
use Rattle.edit.specs.declared.Edit.TheVariants.{Add, Drop, Replace}
use Rattle.edit.specs.EditReads.{EditRead}
use Rattle.edit.specs.EditReads.{Read, Refused}
use Rattle.edit.proofs.EdgesRemaining.{remaining, without_remaining, all_remaining}
use Rattle.edit.proofs.EditsWellFormed.{has_inserted, length_inserted, all_inserted}

-- ---- sorting changes nothing but the order

has_sorted : (d : Edge) (es : List Edge) → has_edge d (sorted es) ≡ has_edge d es
unfolding has_edge sorted
has_sorted d [] = refl
has_sorted d (e ∷ es) = has_inserted d e (sorted es) ∙ rw (has_sorted d es)

length_sorted : (es : List Edge) → length (sorted es) ≡ length es
unfolding sorted
length_sorted [] = refl
length_sorted (e ∷ es) = length_inserted e (sorted es) ∙ ap suc (length_sorted es)

refusal_sorted : (e : Edit) (es : List Edge) → edit_refusal e (sorted es) ≡ edit_refusal e es
refusal_sorted (Add s) es = rw (has_sorted (new_edge (Add s)) es, length_sorted es)
refusal_sorted (Drop s) es = rw (has_sorted (old_edge (Drop s)) es)
refusal_sorted (Replace s l) es = rw (has_sorted (old_edge (Replace s l)) es, has_sorted (new_edge (Replace s l)) es)

judged_sorted : (r : EditRead) (es : List Edge) → wanted_by r (sorted es) ≡ wanted_by r es
judged_sorted (Read e) es = rw (refusal_sorted e es)
judged_sorted (Refused n) es = refl

-- a line is read by the ranges alone
read_sorted : (b : Program) (es : List Edge) (line : List ℕ) → read_edit (with_edges b es) line ≡ read_edit b line
unfolding read_edit edit_from
read_sorted b es line = refl

-- ---- ascending edges are sorted

sorted_ascending : (lo : ℕ) (es : List Edge) → Ascending lo (map edge_key es) → sorted es ≡ es
unfolding Ascending inserted sorted
sorted_ascending lo [] s = refl
sorted_ascending lo (e ∷ es) s = rw (sorted_ascending (edge_key e) es s.1) (first es s.1)
  where
    first : (ds : List Edge) → Ascending (edge_key e) (map edge_key ds) → inserted e ds ≡ e ∷ ds
    first [] s = refl
    first (d ∷ ds) s = rw (lt-ltb (edge_key e) (edge_key d) s.0)

pub book_well_formed : (p : Program) → WellFormed p → book_program p ≡ p
book_well_formed p w = ap (with_edges p) (sorted_ascending 0 p.edges w.edges_ascend)

-- ---- without an edge

all_if : {A : Type 0} (t u : A → Bool) → ((x : A) → t x ≡ true → u x ≡ true) → (xs : List A) → All t xs → All u xs
unfolding All
all_if t u h [] a = tt
all_if t u h (x ∷ xs) a = (h x a.0, all_if t u h xs a.1)

abbrev not_below : Edge → Edge → Bool
not_below e d = leb (edge_key e) (edge_key d)

-- no edge is below one before it
unfoldable Sorted : List Edge → Type 0
Sorted [] = Unit
Sorted (e ∷ es) = All (not_below e) es × Sorted es

inserted_sorted : (e : Edge) (es : List Edge) → Sorted es → Sorted (inserted e es)
unfolding All Sorted inserted
inserted_sorted e [] s = (tt, tt)
inserted_sorted e (x ∷ xs) s = go (ltb (edge_key e) (edge_key x)) refl (inserted_sorted e xs s.1)
  where
    go : (b : Bool) → ltb (edge_key e) (edge_key x) ≡ b → Sorted (inserted e xs) → Sorted (cond b (e ∷ x ∷ xs) (x ∷ inserted e xs))
    go true h r =
        let z = ltb-true (edge_key e) (edge_key x) h in
        let more : (d : Edge) → not_below x d ≡ true → not_below e d ≡ true =
        λ d k. le-leb (edge_key e) (edge_key d) (omega (arith, leb-true (edge_key x) (edge_key d) k)) in
        ((le-leb (edge_key e) (edge_key x) (omega arith), all_if (not_below x) (not_below e) more xs s.0), s)
    go false h r = (all_inserted (not_below x) e xs (le-leb (edge_key x) (edge_key e) (ltb-false (edge_key e) (edge_key x) h)) s.0, r)

sorted_sorted : (es : List Edge) → Sorted (sorted es)
unfolding Sorted sorted
sorted_sorted [] = tt
sorted_sorted (e ∷ es) = inserted_sorted e (sorted es) (sorted_sorted es)

-- an edge below all others is put first
inserted_first : (e : Edge) (es : List Edge) → All (λ d. ltb (edge_key e) (edge_key d)) es → inserted e es ≡ e ∷ es
unfolding All inserted
inserted_first e [] a = refl
inserted_first e (x ∷ xs) a = rw a.0

module _ (t : Edge → Bool) where
  -- an edge that is put in goes, or stays where it was put
  remaining_same : (d : Edge) (es : List Edge) → t d ≡ true → remaining t (inserted d es) ≡ remaining t es
  unfolding remaining inserted
  remaining_same d [] h = rw h
  remaining_same d (x ∷ xs) h = go (ltb (edge_key d) (edge_key x)) (remaining_same d xs h)
    where
      go : (b : Bool) → remaining t (inserted d xs) ≡ remaining t xs
          → remaining t (cond b (d ∷ x ∷ xs) (x ∷ inserted d xs)) ≡ cond (t x) (remaining t xs) (x ∷ remaining t xs)
      go true r = rw h
      go false r = rw r

  remaining_other : (d : Edge) (es : List Edge) → t d ≡ false → Sorted es → remaining t (inserted d es) ≡ inserted d (remaining t es)
  unfolding All Sorted remaining inserted
  remaining_other d [] h s = rw h
  remaining_other d (x ∷ xs) h s = go (ltb (edge_key d) (edge_key x)) refl (remaining_other d xs h s.1)
    where
      later : (b : Bool) → ltb (edge_key d) (edge_key x) ≡ false → remaining t (inserted d xs) ≡ inserted d (remaining t xs)
          → cond b (remaining t (inserted d xs)) (x ∷ remaining t (inserted d xs)) ≡ inserted d (cond b (remaining t xs) (x ∷ remaining t xs))
      later true i r = r
      later false i r = rw (i, r)

      go : (b : Bool) → ltb (edge_key d) (edge_key x) ≡ b → remaining t (inserted d xs) ≡ inserted d (remaining t xs)
          → remaining t (cond b (d ∷ x ∷ xs) (x ∷ inserted d xs)) ≡ inserted d (cond (t x) (remaining t xs) (x ∷ remaining t xs))
      go true i r =
          let above : Edge → Bool = λ y. ltb (edge_key d) (edge_key y) in
          let z = ltb-true (edge_key d) (edge_key x) i in
          let more : (y : Edge) → not_below x y ≡ true → above y ≡ true =
          λ y k. lt-ltb (edge_key d) (edge_key y) (omega (arith, leb-true (edge_key x) (edge_key y) k)) in
          let all : All above (x ∷ xs) = (i, all_if (not_below x) above more xs s.0) in
          rw h (sym (inserted_first d (remaining t (x ∷ xs)) (all_remaining t above (x ∷ xs) all)))
      go false i r = later (t x) i r

  sorted_remaining : (es : List Edge) → sorted (remaining t es) ≡ remaining t (sorted es)
  unfolding remaining sorted
  sorted_remaining [] = refl
  sorted_remaining (d ∷ ds) = go (t d) refl (sorted_remaining ds)
    where
      go : (b : Bool) → t d ≡ b → sorted (remaining t ds) ≡ remaining t (sorted ds)
          → sorted (cond b (remaining t ds) (d ∷ remaining t ds)) ≡ remaining t (inserted d (sorted ds))
      go true h r = r ∙ sym (remaining_same d (sorted ds) h)
      go false h r = ap (inserted d) r ∙ sym (remaining_other d (sorted ds) h (sorted_sorted ds))

sorted_without : (e : Edge) (es : List Edge) → sorted (without e es) ≡ without e (sorted es)
sorted_without e es = ap sorted (without_remaining e es) ∙ sorted_remaining (same_edge e) es ∙ sym (without_remaining e (sorted es))

sorted_others : (f : ℕ) (es : List Edge) → sorted (others f es) ≡ others f (sorted es)
sorted_others f es = ap sorted (others_remaining f es) ∙ sorted_remaining (own f) es ∙ sym (others_remaining f (sorted es))

-- the new edges of an exchange
sorted_append : (ds es : List Edge) → sorted (ds ++ es) ≡ inserted_all ds (sorted es)
unfolding sorted inserted_all
sorted_append [] es = refl
sorted_append (d ∷ ds) es = ap (inserted d) (sorted_append ds es)

-- the edges of a book after an edit
sorted_book : (e : Edit) (es : List Edge) → sorted (book_edges e es) ≡ edited_edges e (sorted es)
unfolding sorted
sorted_book (Add s) es = refl
sorted_book (Drop s) es = sorted_without (old_edge (Drop s)) es
sorted_book (Replace s l) es = ap (inserted (new_edge (Replace s l))) (sorted_without (old_edge (Replace s l)) es)

-- ---- the text of an exchange, read by the book

length_others : (f : ℕ) (es : List Edge) → length (others f (sorted es)) ≡ length (others f es)
length_others f es = ap length (sym (sorted_others f es)) ∙ length_sorted (others f es)

-- the ranges do not depend on the edges
bounds_sorted : (b : Program) (es : List Edge) (ls : List Line) → out_of_range (with_edges b es) ls ≡ out_of_range b ls
bounds_sorted b es [] = refl
bounds_sorted b es (l ∷ ls) = go (of_routine l)
  where
    go : (t : Bool) → any (outside (cond t (with_nodes (with_edges b es) (num l 1) (num l 2)) (with_edges b es))) (l ∷ ls)
        ≡ any (outside (cond t (with_nodes b (num l 1) (num l 2)) b)) (l ∷ ls)
    go true = refl
    go false = refl

text_sorted : (b : Program) (text : List ℕ) → wanted_exchange (book_program b) text ≡ wanted_exchange b text
unfolding wanted_exchange exchange_from
text_sorted b text =
    let ls : List Line = text_lines text in
    rw (bounds_sorted b (sorted b.edges) ls, length_others (exchange_in ls).routine b.edges)

-- ---- what is proved of the book

edit_sorted : (b : Program) (line : List ℕ) → wanted_edit (book_program b) line ≡ wanted_edit b line
unfolding wanted_edit
edit_sorted b line = rw (read_sorted b (sorted b.edges) line) (judged_sorted (read_edit b line) b.edges)

-- the book's set of edges, in whatever order, meets the refusals that its program meets
pub wanted_sorted : (k : Form) (b : Program) (text : List ℕ) → wanted_change k (book_program b) text ≡ wanted_change k b text
wanted_sorted EditLine b text = ap of_edit (edit_sorted b text)
wanted_sorted ExchangeText b text = text_sorted b text

-- nor do the lengths that an exchange asks for depend on the edges
pub measured_sorted : (c : Change) (b : Program) (second work : ℕ) → measured_rows c (book_program b) second work ≡ measured_rows c b second work
measured_sorted (step e) b second work = refl
measured_sorted (whole x) b second work = refl

-- the program of the book after a change is the book's program, changed
pub booked : (b : Program) (c : Change) → book_program (book_changed c b) ≡ changed_program c (book_program b)
unfolding edited_program exchanged_program
booked b (step e) = ap (with_edges b) (sorted_book e b.edges)
booked b (whole x) =
    ap (with_edges (with_nodes b x.routine x.nodes))
    (sorted_append x.edges (others x.routine b.edges) ∙ ap (inserted_all x.edges) (sorted_others x.routine b.edges))
