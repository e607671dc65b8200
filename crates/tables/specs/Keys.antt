-- Lists of numbers, as tables of keys hold them.
use Rattle.std.specs.Prelude.{ℕ, ◌≤◌, ◌<◌, ◌≡◌, Bool, false, cond, ◌&&◌, ◌||◌, List, [], ◌∷◌, ltb, leb, eqb, length, take, get_or}

unfoldable pub member : ℕ → List ℕ → Bool
member q [] = false
member q (s ∷ ss) = eqb s q || member q ss

-- each number is above the one before it, and the first is above this one
unfoldable pub Ascending : ℕ → List ℕ → Type 0
Ascending low [] = Unit
Ascending low (k ∷ ks) = (low < k) × Ascending k ks

-- with this key too, before the first that is above it
unfoldable pub inserted_key : ℕ → List ℕ → List ℕ
inserted_key key [] = key ∷ []
inserted_key key (k ∷ ks) = cond (ltb key k) (key ∷ k ∷ ks) (k ∷ inserted_key key ks)

-- not below one number, and below the other
abbrev pub between : ℕ → ℕ → ℕ → Bool
between low high k = leb low k && ltb k high

-- without the keys between two numbers
unfoldable pub without_between : ℕ → ℕ → List ℕ → List ℕ
without_between low high [] = []
without_between low high (k ∷ ks) =
    cond (between low high k) (without_between low high ks) (k ∷ without_between low high ks)

-- without this key
unfoldable pub without_key : ℕ → List ℕ → List ℕ
without_key key [] = []
without_key key (k ∷ ks) = cond (eqb key k) (without_key key ks) (k ∷ without_key key ks)

-- the first key that is not below `low`; where there is none, the end
pub record FirstFrom (low : ℕ) (ks : List ℕ) (at : ℕ) : Type 0 where
  pub within : at ≤ length ks
  pub below : (i : ℕ) → i < at → get_or ks i 0 < low
  pub not-below : at < length ks → low ≤ get_or ks at 0

-- so many entries of an array are in use, and they are these
pub record Holds {A : Type 0} (entries : List A) (n : ℕ) (ks : List A) : Type 0 where
  pub are : take n entries ≡ ks
  pub as_many : n ≡ length ks
