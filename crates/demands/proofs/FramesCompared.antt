-- Keys are compared as the numbers that they are made of: left to right.
use Prim.Native.Nat.{ℕ, ◌+◌, ◌*◌, ◌<◌}
use mathlib.Core.Path.{◌≡◌, refl}
use mathlib.Core.Logic.{◌↔◌, ◌⊎◌, inl, inr, ⊎_elim}
use mathlib.Core.Bool.{Bool, true, false}
use mathlib.Core.List.{List, [], ◌∷◌}
use native.Mathlib.Omega.{arith}
use lib.Dec.{ltb}
use lib.ListN.{length}
use borrow.Author.Tests.{ltb-true, ltb-false}
use Rattle.text.specs.Lines.{Bytes}
use Rattle.text.specs.declared.Line.{Line}
use Rattle.program.specs.Frames.{num, kind, packed, key_of}
use Rattle.demands.specs.Demands.{Before, compared_by, line_key, KeysOfFrames}

-- one number more at the end, in base 256
abbrev next : ℕ → ℕ → ℕ
next a d = a * 256 + d

-- numbers as one, after those that are one already
abbrev value : ℕ → List ℕ → ℕ
value a [] = a
value a (d ∷ ds) = value (next a d) ds

-- the last of two numbers decides where the first does not
carried : (B : Type 0) (a c d e : ℕ) → d < 256 → e < 256
    → ((next a d < next c e) ⊎ ((next a d ≡ next c e) × B)) ↔ ((a < c) ⊎ ((a ≡ c) × ((d < e) ⊎ ((d ≡ e) × B))))
carried B a c d e h k = (
  ⊎_elim (λ l. below (ltb a c) refl l) (λ x. let i = x.0 in inr (omega arith, inr (omega arith, x.1))),
  ⊎_elim (λ l. inl (omega arith)) (λ x. let i = x.0 in ⊎_elim (λ l. inl (omega arith)) (λ y. let j = y.0 in inr (omega arith, y.1)) x.1),
)
  where
    below : (t : Bool) → ltb a c ≡ t → next a d < next c e → (a < c) ⊎ ((a ≡ c) × ((d < e) ⊎ ((d ≡ e) × B)))
    below true t l = inl (ltb-true a c t)
    below false t l = let g = ltb-false a c t in inr (omega arith, inl (omega arith))

compared : (a c : ℕ) (ds es : List ℕ) → length ds ≡ length es → Bytes ds → Bytes es → (value a ds < value c es) ↔ Before (a ∷ ds) (c ∷ es)
compared a c [] [] n h k = (λ l. inl l, ⊎_elim (λ l. l) (λ x. absurd x.1))
compared a c [] (e ∷ es) n h k = absurd (omega arith)
compared a c (d ∷ ds) [] n h k = absurd (omega arith)
compared a c (d ∷ ds) (e ∷ es) n h k =
    let i = compared (next a d) (next c e) ds es (omega arith) h.1 k.1 in
    let j = carried (Before ds es) a c d e h.0 k.0 in
    (λ l. j.0 (i.0 l), λ b. i.1 (j.1 b))

key_value : (k a b c d e f g : ℕ) → key_of k (packed a b c d) (packed 0 e f g) ≡ value k (a ∷ b ∷ c ∷ d ∷ e ∷ f ∷ g ∷ [])
key_value k a b c d e f g = omega arith

-- the numbers after a line's kind
abbrev after : Line → List ℕ
after l = num l 1 ∷ num l 2 ∷ num l 3 ∷ num l 4 ∷ num l 5 ∷ num l 6 ∷ num l 7 ∷ []

abbrev Small : Line → Type 0
Small l = (i : ℕ) → num l i < 256

small_after : (l : Line) → Small l → Bytes (after l)
small_after l h = (h 1, (h 2, (h 3, (h 4, (h 5, (h 6, (h 7, tt)))))))

pub compared_left_to_right : (l m : Line) → Small l → Small m → (line_key l < line_key m) ↔ Before (compared_by l) (compared_by m)
compared_left_to_right l m h k =
    rw (key_value (kind l) (num l 1) (num l 2) (num l 3) (num l 4) (num l 5) (num l 6) (num l 7), key_value (kind m) (num m 1) (num m 2) (num m 3) (num m 4) (num m 5) (num m 6) (num m 7))
    (compared (kind l) (kind m) (after l) (after m) refl (small_after l h) (small_after m k))

-- the numbers that a frame lacks are 0 in its line
pub frame_keys : KeysOfFrames
frame_keys = record { edge = λ e. refl; transition = λ t. refl; row = λ q r. refl; initial = λ q. refl; rejecting = λ q. refl }
