-- Text of numbers, stored one number after the other.
use mathlib.Core.Path.{◌≡◌, ◌∙◌}
use mathlib.Core.List.{List, [], ◌∷◌, ◌++◌}
use Prim.Native.Nat.{ℕ, suc, ◌+◌, ◌*◌, ◌<◌, ◌≤◌}
use native.Mathlib.Nat.{add-zero}
use native.Mathlib.Numerals.{add-one}
use native.Mathlib.Omega.{arith}
use lib.ListN.{length, take, get_or}
use lib.Seq.{sets, take-suc, length-take-le}
use Rattle.text.specs.Hex.{hex}
use Rattle.text.proofs.RoundTrip.{hex_append, length_hex}

pub sets_append : (l : List ℕ) (i : ℕ) (xs ys : List ℕ) → sets (sets l i xs) (i + length xs) ys ≡ sets l i (xs ++ ys)
sets_append l i [] ys = rw add-zero
sets_append l i (x ∷ xs) ys =
    let e : i + suc (length xs) ≡ suc i + length xs = omega arith in
    rw e (sets_append _ (suc i) xs ys)

-- after the text of the first k numbers of v, whatever comes next
pub after_hex : (o v : List ℕ) (at k : ℕ) (ys : List ℕ) → k ≤ length v → sets (sets o at (hex (take k v))) (at + 2 * k) ys ≡ sets o at (hex (take k v) ++ ys)
after_hex o v at k ys h =
    let n : length (take k v) ≡ k = length-take-le k v h in
    let e : at + 2 * k ≡ at + length (hex (take k v)) = omega (arith, length_hex (take k v)) in
    rw e (sets_append o at (hex (take k v)) ys)

-- a turn of the loop that writes numbers
pub one_more : (o v : List ℕ) (at k : ℕ) → k < length v → sets (sets o at (hex (take k v))) (at + 2 * k) (hex (get_or v k 0 ∷ [])) ≡ sets o at (hex (take (k + 1) v))
one_more o v at k h =
    after_hex o v at k (hex (get_or v k 0 ∷ [])) (omega arith) ∙ rw (← (hex_append (take k v) (get_or v k 0 ∷ [])), add-one, take-suc v k 0)
