-- The refusals of an edit line and of the text of an exchange are those of the table.
use mathlib.Core.Path.{◌≡◌, refl, ap, subst}
use mathlib.Core.Bool.{Bool, true, false, cond, ◌&&◌, not}
use mathlib.Core.List.{List, [], ◌∷◌, ◌++◌}
use Prim.Native.Nat.{ℕ, ◌≤◌}
use native.Mathlib.Omega.{arith}
use lib.Dec.{leb, eqb}
use lib.ListN.{length}
use Rattle.program.specs.Program.{Edge, Program}
use Rattle.program.specs.Checks.{Row, row, first_met, verdict_of}
use Rattle.program.specs.Chosen.{sizes_of}
use Rattle.program.specs.Verdicts.{Verdict}
use Rattle.program.specs.Verdicts as verdict
use Rattle.edit.specs.Edits.{old_edge, new_edge}
use Rattle.edit_line.specs.EditLines.{only_line, bad_line, out_of_range, edit_in, edit_from, read_edit, wanted_edit}
use Rattle.edit.specs.Editing.{has_edge, wanted_by}
use Rattle.edit.specs.declared.Edit.{Edit}
use Rattle.edit.specs.declared.Edit.TheVariants.{Add, Drop, Replace}
use Rattle.edit.specs.EditReads.{EditRead}
use Rattle.edit.specs.EditReads.{Read, Refused}
use Rattle.text.specs.declared.Line.{Line}
use Rattle.exchange.specs.Changes.{Exchange, Change, step, whole, ChangeRead, Form, EditLine, ExchangeText}
use Rattle.exchange.specs.Changes as change
use Rattle.exchange_text.specs.ExchangeText.{text_lines, bad_text, out_of_range as textOut, disordered, too_many, too_large, exchange_in, exchange_rows, exchange_unless, exchange_from, wanted_exchange}
use Rattle.exchange.specs.Lengths.{sizes_after, lengths_of, measured_rows}
use Rattle.exchange_text.specs.Wanted.{of_edit, wanted_change}
use Rattle.demands.specs.Refusals.{adds, drops, edit_rows, change_rows, later_rows}

-- the refusal of a line or text, or what the rows after it give
abbrev pub number_then : ChangeRead → ℕ → ℕ
number_then (change.Read c) m = m
number_then (change.Refused n) m = n

-- 14, 15 and 16
abbrev by_step : Bool → Bool → Bool → ℕ → ℕ
by_step a b c m = cond a 14 (cond b 15 (cond c 16 m))

judged : (e : Edit) (es : List Edge) (m : ℕ)
    → by_step (not (adds e) && not (has_edge (old_edge e) es)) (not (drops e) && has_edge (new_edge e) es) (adds e && leb 256 (length es)) m
    ≡ number_then (of_edit (wanted_by (Read e) es)) m
judged (Add s) es m = go (has_edge (new_edge (Add s)) es) (leb 256 (length es))
  where
    go : (h f : Bool) → by_step false h f m ≡ number_then (of_edit (cond (eqb (cond h 15 (cond f 16 0)) 0) (Read (Add s)) (Refused (cond h 15 (cond f 16 0))))) m
    go true f = refl
    go false true = refl
    go false false = refl
judged (Drop s) es m = go (has_edge (old_edge (Drop s)) es)
  where
    go : (h : Bool) → by_step (not h) false false m ≡ number_then (of_edit (cond (eqb (cond h 0 14) 0) (Read (Drop s)) (Refused (cond h 0 14)))) m
    go true = refl
    go false = refl
judged (Replace s l) es m = go (has_edge (old_edge (Replace s l)) es) (has_edge (new_edge (Replace s l)) es)
  where
    go : (h k : Bool) → by_step (not h) k false m
        ≡ number_then (of_edit (cond (eqb (cond h (cond k 15 0) 14) 0) (Read (Replace s l)) (Refused (cond h (cond k 15 0) 14)))) m
    go true true = refl
    go true false = refl
    go false k = refl

-- 14 to 16, after 12 and 13
abbrev step_number : Edit → List Edge → ℕ → ℕ
step_number e es m = by_step (not (adds e) && not (has_edge (old_edge e) es)) (not (drops e) && has_edge (new_edge e) es) (adds e && leb 256 (length es)) m

edit_told : (p : Program) (line : List ℕ) (final : List Row)
    → first_met (edit_rows p (only_line line) ++ final) ≡ number_then (of_edit (wanted_edit p line)) (first_met final)
unfolding first_met wanted_edit read_edit edit_from
edit_told p line final = go (edit_in (only_line line)) (first_met final) (bad_line (only_line line)) (out_of_range p (only_line line))
  where
    go : (e : Edit) (m : ℕ) (bad out : Bool)
        → cond bad 12 (cond out 13 (step_number e p.edges m)) ≡ number_then (of_edit (wanted_by (cond bad (Refused 12) (cond out (Refused 13) (Read e))) p.edges)) m
    go e m true out = refl
    go e m false true = refl
    go e m false false = judged e p.edges m

exchange_told : (p : Program) (ls : List Line) (final : List Row) → first_met (exchange_rows p ls ++ final) ≡ number_then (exchange_from p ls) (first_met final)
unfolding first_met exchange_from
exchange_told p ls final = go (bad_text ls) (textOut p ls) (disordered ls) (too_many p (exchange_in ls)) (too_large p (exchange_in ls)) (first_met final)
  where
    go : (a b c d e : Bool) (m : ℕ) → cond a 12 (cond b 13 (cond c 21 (cond d 16 (cond e 23 m))))
        ≡ number_then (exchange_unless (cond a 12 (cond b 13 (cond c 21 (cond d 16 (cond e 23 0))))) (exchange_in ls)) m
    go true b c d e m = refl
    go false true c d e m = refl
    go false false true d e m = refl
    go false false false true e m = refl
    go false false false false true m = refl
    go false false false false false m = refl

-- whatever comes after the line or text
pub change_told : (k : Form) (p : Program) (s : List ℕ) (final : List Row) → first_met (change_rows k p s ++ final) ≡ number_then (wanted_change k p s) (first_met final)
unfolding wanted_exchange
change_told EditLine p s final = edit_told p s final
change_told ExchangeText p s final = exchange_told p (text_lines s) final

-- ---- what is read: of a line an edit, of a text its exchange

pub data OfForm : Form → List ℕ → Change → Type 0 where
  edits : {s : List ℕ} {e : Edit} → OfForm EditLine s (step e)
  exchanges : {s : List ℕ} {x : Exchange} → exchange_in (text_lines s) ≡ x → OfForm ExchangeText s (whole x)

pub form_read : (k : Form) (p : Program) (s : List ℕ) (c : Change) → wanted_change k p s ≡ change.Read c → OfForm k s c
unfolding wanted_exchange exchange_from
form_read EditLine p s c h = go (wanted_edit p s) h
  where
    go : (r : EditRead) → of_edit r ≡ change.Read c → OfForm EditLine s c
    go (Read e) i = let same : step e ≡ c = cc in subst (OfForm EditLine s) same edits
    go (Refused n) i = absurd (let z : ◌≡◌ {A = ℕ} 0 1 = cc in omega arith)
form_read ExchangeText p s c h = go (first_met (exchange_rows p (text_lines s))) (eqb (first_met (exchange_rows p (text_lines s))) 0) h
  where
    go : (n : ℕ) (t : Bool) → cond t (change.Read (whole (exchange_in (text_lines s)))) (change.Refused n) ≡ change.Read c → OfForm ExchangeText s c
    go n true i = let same : whole (exchange_in (text_lines s)) ≡ c = cc in subst (OfForm ExchangeText s) same (exchanges refl)
    go n false i = absurd (let z : ◌≡◌ {A = ℕ} 0 1 = cc in omega arith)

-- ---- the lengths after the line or text: those of the change that was read

pub later_told : {k : Form} {s : List ℕ} {c : Change} → OfForm k s c → (p : Program) (second work : ℕ) → later_rows k p s second work ≡ measured_rows c p second work
later_told edits p second work = refl
later_told (exchanges e) p second work = ap (λ (x : Exchange). measured_rows (whole x) p second work) e

-- what the rows of these lengths say, whatever comes after them
pub data MeasuredAs (rs : List Row) : Verdict → Type 0 where
  fitting : ((final : List Row) → first_met (rs ++ final) ≡ first_met final) → MeasuredAs rs verdict.Accepted
  unfit : {n : ℕ} → 9 ≤ n → n ≤ 11 → ((final : List Row) → first_met (rs ++ final) ≡ n) → MeasuredAs rs (verdict.Refused n 0)

pub measured_told : (c : Change) (p : Program) (second work : ℕ) → MeasuredAs (measured_rows c p second work) (verdict_of (first_met (measured_rows c p second work)))
unfolding first_met
measured_told (step e) p second work = fitting (λ final. refl)
measured_told (whole x) p second work =
    let wanted = lengths_of (sizes_of p) (sizes_after x p) in
    go (not (eqb second wanted.second)) (not (eqb work wanted.work))
  where
    go : (t u : Bool) → MeasuredAs (row 9 t ∷ row 11 u ∷ []) (verdict_of (first_met (row 9 t ∷ row 11 u ∷ [])))
    go true u = unfit {n = 9} (omega arith) (omega arith) (λ final. refl)
    go false true = unfit {n = 11} (omega arith) (omega arith) (λ final. refl)
    go false false = fitting (λ final. refl)
