-- Lines of hexadecimal, and the numbers of a line.
use Rattle.std.specs.Prelude.{ℕ, zero, suc, ◌+◌, ◌*◌, ◌<◌, cond, List, [], ◌∷◌, leb, eqb, length, drop, set}
use Rattle.std.proofs.Math.Option.{Option, some, none}
use Rattle.text.specs.Hex.{two_digits}
use Rattle.text.specs.declared.Line.{Line}
use Rattle.text.specs.declared.ReadLine.{ReadLine}

-- b at the front of the first line
abbrev pub glue : ℕ → List (List ℕ) → List (List ℕ)
glue b [] = (b ∷ []) ∷ []
glue b (l ∷ ls) = (b ∷ l) ∷ ls

-- the lines of a text, each with its 0A; only the last may lack one
unfoldable pub lines : List ℕ → List (List ℕ)
lines [] = []
lines (b ∷ s) = cond (eqb b 10) ((b ∷ []) ∷ lines s) (glue b (lines s))

-- the first line of a text, with its 0A
unfoldable pub first_line : List ℕ → List ℕ
first_line [] = []
first_line (b ∷ s) = b ∷ cond (eqb b 10) [] (first_line s)

-- x before the numbers, if there are any
abbrev pub before : ℕ → Option (List ℕ) → Option (List ℕ)
before x none = none
before x (some xs) = some (x ∷ xs)

-- the numbers of the line that s starts with: pairs of digits and then 0A; none where it starts with anything else
unfoldable pub numbers_of : List ℕ → Option (List ℕ)
numbers_of [] = none
numbers_of (a ∷ []) = cond (eqb a 10) (some []) none
numbers_of (a ∷ b ∷ s) = cond (eqb a 10) (some []) (cond (leb 256 (two_digits a b)) none
    (before (two_digits a b) (numbers_of s)))

-- every number fits a byte
abbrev pub Bytes : List ℕ → Type 0
Bytes [] = Unit
Bytes (x ∷ xs) = (x < 256) × Bytes xs

-- the first n of xs, and 0 for each that lacks
abbrev pub pad : ℕ → List ℕ → List ℕ
pad zero xs = []
pad (suc n) [] = 0 ∷ pad n []
pad (suc n) (x ∷ xs) = x ∷ pad n xs

-- how many numbers of a line are kept; no format has a longer line
abbrev pub max_numbers : ℕ
max_numbers = 8

-- a line as it is kept: how many numbers it has, and the first of them
abbrev pub line_of : List ℕ → Line
line_of xs = record { count = length xs; numbers = pad max_numbers xs }

-- the line of a text's first bytes; a line that is not good is kept as one without a number
abbrev pub line_from : Option (List ℕ) → Line
line_from none = line_of []
line_from (some xs) = line_of xs

-- where the line after one of these numbers starts; 0 after a line that is not good
abbrev pub next_from : ℕ → Option (List ℕ) → ℕ
next_from at none = 0
next_from at (some xs) = at + 2 * length xs + 1

-- the line that starts at a position of s, and where the next one starts
abbrev pub line_at : List ℕ → ℕ → ReadLine
line_at s at = record { line = line_from (numbers_of (drop at s)); next = next_from at (numbers_of (drop at s)) }

-- a line with one number more; a store past those that are kept is none
abbrev pub grown : Line → ℕ → Line
grown l x = record { count = l.count + 1; numbers = set l.numbers l.count x }
