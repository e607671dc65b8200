-- What the private functions promise of each other; nothing here has to be believed.
use Rattle.std.specs.Prelude.{ℕ, ◌≡◌, cond, eqb, Result, MatchResult}
use Rattle.program.specs.declared.refusal.Refusal.{Refusal}
use Rattle.program.specs.declared.refusal.Refusal.TheVariants.{EditLine}
use Rattle.edit_line.specs.declared.line.EditKind.{EditKind}
use Rattle.edit_line.specs.declared.line.EditKind.TheVariants.{Add, Drop, Replace}

-- the number of a kind
abbrev pub kind_number : EditKind → ℕ
kind_number Add = 1
kind_number Drop = 2
kind_number Replace = 3

-- the number of the kind that a line's first number says; 0 for an unknown kind
abbrev pub first_kind : ℕ → ℕ
first_kind n = cond (eqb n 0x2B) 1 (cond (eqb n 0x2D) 2 (cond (eqb n 0x3D) 3 0))

-- the kind that a line's first number says, or 12
abbrev pub Kinded : ℕ → Result EditKind Refusal → Type 0
Kinded n r = MatchResult r (λ k. kind_number k ≡ first_kind n) (λ e. (e ≡ EditLine) × (first_kind n ≡ 0))
