-- The numbers of an exchange's refusals.
use Prim.Native.Nat.{ℕ, ◌≤◌}
use mathlib.Core.Path.{◌≡◌}
use mathlib.Core.Logic.{◌≢◌}
use mathlib.Core.Bool.{Bool, true, false}
use mathlib.Core.List.{List, [], ◌∷◌}
use native.Mathlib.Omega.{arith}
use Rattle.text.specs.declared.Line.{Line}
use Rattle.program.specs.Program.{Program}
use Rattle.program.specs.Checks.{row, first_met}
use Rattle.exchange.specs.Changes.{Exchange, ChangeRead, Read, Refused}
use Rattle.exchange_text.specs.ExchangeText.{text_lines, bad_text, out_of_range, disordered, exchange_in, too_many, too_large, exchange_unless, exchange_from, wanted_exchange}

-- a refused change has a number from 12 to 23 that is not 17, which is the marks', nor 22, which is the limit's
abbrev pub Numbered : ChangeRead → Type 0
Numbered (Read c) = Unit
Numbered (Refused n) = (12 ≤ n) × (n ≤ 23) × (n ≢ 17) × (n ≢ 22)

text_numbered : (p : Program) (ls : List Line) → Numbered (exchange_from p ls)
unfolding exchange_from first_met
text_numbered p ls = go (bad_text ls) (out_of_range p ls) (disordered ls) (too_many p (exchange_in ls)) (too_large p (exchange_in ls)) (exchange_in ls)
  where
    go : (a b c d g : Bool) (x : Exchange) → Numbered (exchange_unless (first_met (row 12 a ∷ row 13 b ∷ row 21 c ∷ row 16 d ∷ row 23 g ∷ [])) x)
    go true b c d g x = (omega arith, omega arith, λ e. omega arith, λ e. omega arith)
    go false true c d g x = (omega arith, omega arith, λ e. omega arith, λ e. omega arith)
    go false false true d g x = (omega arith, omega arith, λ e. omega arith, λ e. omega arith)
    go false false false true g x = (omega arith, omega arith, λ e. omega arith, λ e. omega arith)
    go false false false false true x = (omega arith, omega arith, λ e. omega arith, λ e. omega arith)
    go false false false false false x = tt

pub exchange_number : (p : Program) (s : List ℕ) (n : ℕ) → wanted_exchange p s ≡ Refused n → (12 ≤ n) × (n ≤ 23) × (n ≢ 17) × (n ≢ 22)
unfolding wanted_exchange
exchange_number p s n h = rw h at (text_numbered p (text_lines s))
