-- What was found, by its parts as they are kept.
use Prim.Native.Nat.{ℕ}
use mathlib.Core.Path.{◌≡◌}
use mathlib.Core.Bool.{Bool}
use mathlib.Core.List.{List}
use Rattle.program.specs.Program.{Edge}
use Rattle.exchange_text.specs.Parts.{Found}

pub found_parts : (r : Found) {last : ℕ} {o a c : Bool} {es : List Edge} → last ≡ r.last → o ≡ r.outside → a ≡ r.astray → c ≡ r.crowded → es ≡ r.edges
    → record { last = last; outside = o; astray = a; crowded = c; edges = es } ≡ r
found_parts r p q s t u = λ i. record { last = p i; outside = q i; astray = s i; crowded = t i; edges = u i }
