-- Flags kept as bits: flag i is bit i % 64 of word i / 64.
use Rattle.std.specs.Prelude.{ℕ, zero, suc, ◌+◌, ◌/◌, ◌%◌, ◌^◌, ◌≤◌, ◌<◌, ◌≡◌, List, [], ◌∷◌, ◌++◌, length, get_or}
use Rattle.base.specs.Bits.{bit}
use Rattle.base.specs.Flags.{is_set}

abbrev pub word_bits : ℕ
word_bits = 64

-- with at most so many words the number of every flag fits a number of 64 bits
abbrev pub max_words : ℕ
max_words = 2 ^ 32

-- the lowest k bits of a word, as flags
unfoldable pub flags_in : ℕ → ℕ → List ℕ
flags_in zero w = []
flags_in (suc k) w = w % 2 ∷ flags_in k (w / 2)

-- the flags of these words, in turn
unfoldable pub flags_of : List ℕ → List ℕ
flags_of [] = []
flags_of (w ∷ ws) = flags_in word_bits w ++ flags_of ws

-- the bits are the flags from a place on; past the end none is set
pub record BitsFrom (flags : List ℕ) (at bits : ℕ) : Type 0 where
  pub bit_from : (j : ℕ) → j < word_bits → bit j bits ≡ is_set flags (at + j)

-- no flag below this one is set
pub record NoneBelow (flags : List ℕ) (low : ℕ) : Type 0 where
  pub none_below : (j : ℕ) → j < low → get_or flags j 0 ≡ 0

-- the first flag that is set; where there is none, the end
pub record FirstFlag (flags : List ℕ) (at : ℕ) : Type 0 where
  pub within : at ≤ length flags
  pub below : NoneBelow flags at
  pub found : at < length flags → get_or flags at 0 ≡ 1
