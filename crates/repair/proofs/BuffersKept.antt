-- What a repair leaves alone: an exchange the old marks, and every refusal the second buffer.
use mathlib.Core.Path.{◌≡◌, refl}
use mathlib.Core.Logic.{◌≢◌}
use mathlib.Core.Bool.{Bool, true, false, cond}
use mathlib.Core.List.{List}
use Prim.Native.Nat.{ℕ}
use lib.Dec.{eqb}
use Rattle.program.specs.Program.{Program}
use Rattle.program.specs.Checks.{first_met}
use Rattle.program.specs.Reading.{read_file}
use Rattle.program.specs.Verdicts.{Verdict}
use Rattle.program.specs.Verdicts as verdict
use Rattle.writer.specs.Answers.{refusal}
use Rattle.analysis.specs.Answers.{owned}
use Rattle.exchange.specs.Changes.{Exchange, Change, step, whole, ChangeRead, Read, Refused, Form, ExchangeText}
use Rattle.exchange.specs.Changing.{changed_program, exchanged_program}
use Rattle.exchange_text.specs.ExchangeText.{text_lines, exchange_rows, exchange_in, exchange_from, wanted_exchange}
use Rattle.exchange_text.specs.Wanted.{wanted_change}
use Rattle.repair.specs.Repairs.{After, checked_repair, owned_by, measured, measured_by, wanted_by, repaired_by, repaired}

module _ (marks output work second : List ℕ) where
  -- ---- the marks, by an exchange

  own_marks : (v : Verdict) (x : Exchange) (p : Program) → (owned_by v (whole x) p marks output work second).marks ≡ marks
  own_marks verdict.Accepted x p = refl
  own_marks (verdict.Refused n line) x p = refl

  measured_marks : (v : Verdict) (x : Exchange) (p : Program) → (measured_by v (whole x) p marks output work second).marks ≡ marks
  measured_marks verdict.Accepted x p = own_marks (owned p marks) x (exchanged_program x p)
  measured_marks (verdict.Refused n line) x p = refl

  text_marks : (t : Bool) (n : ℕ) (x : Exchange) (p : Program) → (wanted_by (cond t (Read (whole x)) (Refused n)) p marks output work second).marks ≡ marks
  text_marks true n x p = measured_marks (measured (whole x) p work second) x p
  text_marks false n x p = refl

  pub exchange_keeps : (file text : List ℕ) → (repaired ExchangeText file marks text output work second).marks ≡ marks
  unfolding repaired wanted_exchange exchange_from
  exchange_keeps file text = go (checked_repair ExchangeText file marks output work)
    where
      p : Program
      p = (read_file file).program

      go : (v : Verdict) → (repaired_by ExchangeText v p marks text output work second).marks ≡ marks
      go verdict.Accepted = text_marks (eqb (first_met (exchange_rows p (text_lines text))) 0) _ (exchange_in (text_lines text)) p
      go (verdict.Refused n line) = refl

  -- ---- the second buffer, on a refusal

  abbrev Keeps : After → Type 0
  Keeps a = refusal a.answer ≢ 0 → a.second ≡ second

  own_second : (v : Verdict) (c : Change) (p : Program) → Keeps (owned_by v c p marks output work second)
  own_second verdict.Accepted (step e) p h = refl
  own_second verdict.Accepted (whole x) p h = absurd (h refl)
  own_second (verdict.Refused n line) c p h = refl

  measured_second : (v : Verdict) (c : Change) (p : Program) → Keeps (measured_by v c p marks output work second)
  measured_second verdict.Accepted c p = own_second (owned p marks) c (changed_program c p)
  measured_second (verdict.Refused n line) c p = λ h. refl

  change_second : (w : ChangeRead) (p : Program) → Keeps (wanted_by w p marks output work second)
  change_second (Read c) p = measured_second (measured c p work second) c p
  change_second (Refused n) p = λ h. refl

  pub refusal_keeps : (k : Form) (file text : List ℕ) → Keeps (repaired k file marks text output work second)
  unfolding repaired
  refusal_keeps k file text = go (checked_repair k file marks output work)
    where
      p : Program
      p = (read_file file).program

      go : (v : Verdict) → Keeps (repaired_by k v p marks text output work second)
      go verdict.Accepted = change_second (wanted_change k p text) p
      go (verdict.Refused n line) = λ h. refl
