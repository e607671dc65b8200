-- The verdict on a file, or on the checks before a call: nothing is refused, or a number is, at a line.
use Rattle.std.specs.Prelude.{ℕ}

pub data Verdict : Type 0 where
  Accepted : Verdict
  Refused : ℕ → ℕ → Verdict
