-- What is proved of what a call is handed.
use Prim.Native.Nat.{ℕ, ◌≤◌}
use mathlib.Core.Path.{◌≡◌, refl, subst}
use mathlib.Core.Logic.{◌≢◌}
use mathlib.Core.List.{List}
use native.Mathlib.Omega.{arith}
use Rattle.program.specs.Program.{Program}
use Rattle.edit_line.specs.EditLines.{wanted_edit}
use Rattle.edit.specs.EditReads.{EditRead}
use Rattle.edit.specs.EditReads as edit
use Rattle.edit_line.proofs.EditRefusalNumbers.{wanted_number}
use Rattle.edit_line.proofs.Theorems.{wanted_applies}
use Rattle.exchange.specs.Changes.{Change, step, Read, Refused, Form, EditLine, ExchangeText}
use Rattle.exchange.specs.Wanted.{ChangeApplies}
use Rattle.exchange_text.specs.Wanted.{of_edit, wanted_change}
use Rattle.exchange_text.proofs.ExchangesFit.{exchange_applies}
use Rattle.exchange_text.proofs.ExchangeRefusalNumbers.{exchange_number}

-- What is read and not refused applies.
pub wanted_change_applies : (k : Form) (p : Program) (s : List ℕ) (c : Change) → wanted_change k p s ≡ Read c → ChangeApplies c p
wanted_change_applies ExchangeText p s c h = exchange_applies p s c h
wanted_change_applies EditLine p s c h = go (wanted_edit p s) refl h
  where
    go : (r : EditRead) → wanted_edit p s ≡ r → of_edit r ≡ Read c → ChangeApplies c p
    go (edit.Read e) g h = let same : step e ≡ c = cc in subst (λ (d : Change). ChangeApplies d p) same (wanted_applies p s e g)
    go (edit.Refused n) g h = absurd (let z : ◌≡◌ {A = ℕ} 0 1 = cc in omega arith)

-- A refusal has a number from 12 to 23, and never that of marks, 17, or of the limit, 22.
pub change_number : (k : Form) (p : Program) (s : List ℕ) (n : ℕ) → wanted_change k p s ≡ Refused n → (12 ≤ n) × (n ≤ 23) × (n ≢ 17) × (n ≢ 22)
change_number ExchangeText p s n h = exchange_number p s n h
change_number EditLine p s n h = go (wanted_edit p s) refl h
  where
    go : (r : EditRead) → wanted_edit p s ≡ r → of_edit r ≡ Refused n → (12 ≤ n) × (n ≤ 23) × (n ≢ 17) × (n ≢ 22)
    go (edit.Read e) g h = absurd (let z : ◌≡◌ {A = ℕ} 0 1 = cc in omega arith)
    go (edit.Refused m) g h =
        let same : m ≡ n = cc in
        let k = wanted_number p s m g in
        (omega arith, omega arith, λ e. omega arith, λ e. omega arith)
