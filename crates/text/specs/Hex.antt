-- Hexadecimal: two digits make a number below 256.
use Rattle.std.specs.Prelude.{ℕ, ◌+◌, ◌-◌, ◌*◌, ◌/◌, ◌%◌, cond, List, [], ◌∷◌, ◌++◌, ltb, leb}

-- the value of a digit 0-9 A-F, and 16 for any other byte
abbrev pub digit : ℕ → ℕ
digit b = cond (ltb b 48) 16 (cond (leb b 57) (b - 48) (cond (ltb b 65) 16 (cond (leb b 70) (b - 55) 16)))

-- the number that two digits' values make, and 256 where one of the two is no digit
abbrev pub joined : ℕ → ℕ → ℕ
joined h l = cond (ltb h 16) (cond (ltb l 16) (h * 16 + l) 256) 256

-- the number that two bytes make, and 256 where they are not two digits
abbrev pub two_digits : ℕ → ℕ → ℕ
two_digits a b = joined (digit a) (digit b)

-- the digit for a number below 16
abbrev pub hex_digit : ℕ → ℕ
hex_digit n = cond (ltb n 10) (48 + n) (55 + n)

-- two digits for each number
unfoldable pub hex : List ℕ → List ℕ
hex [] = []
hex (x ∷ xs) = hex_digit (x / 16) ∷ hex_digit (x % 16) ∷ hex xs

-- a line as it is written: two digits for each number, and then 0A
abbrev pub hex_line : List ℕ → List ℕ
hex_line xs = hex xs ++ (10 ∷ [])
