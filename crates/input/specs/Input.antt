-- The input of `bench`: a file through its first line that starts with 45, and then edits, a line each.
use Rattle.std.specs.Prelude.{ℕ, ◌+◌, Bool, cond, ◌&&◌, List, [], ◌∷◌, eqb, length, get_or}

-- `bench` reads no longer input
abbrev pub input_size : ℕ
input_size = 16384

-- a line that starts with the characters 45
abbrev pub starts_end : List ℕ → Bool
starts_end l = eqb (get_or l 0 0) 0x34 && eqb (get_or l 1 0) 0x35

-- how many bytes the lines have through the first that starts so; all of them if none does
unfoldable pub file_size : List (List ℕ) → ℕ
file_size [] = 0
file_size (l ∷ ls) = length l + cond (starts_end l) 0 (file_size ls)

-- how many bytes the first line has
abbrev pub first_size : List (List ℕ) → ℕ
first_size [] = 0
first_size (l ∷ ls) = length l
