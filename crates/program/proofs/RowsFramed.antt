-- A row and its frame: the one is read as the other, and the numbers of a row that fits are bytes.
use mathlib.Core.Path.{◌≡◌, refl}
use mathlib.Core.Bool.{Bool, true, false, ◌&&◌}
use Prim.Native.Nat.{ℕ, ◌+◌, ◌*◌, ◌/◌, ◌%◌, ◌^◌, ◌≤◌, ◌<◌}
use native.Mathlib.Omega.{arith}
use native.Mathlib.Nat.{one-mul, div-lt_iff_lt-mul, pow-le-pow_right, lt_of_lt_of_le}
use lib.Dec.{ltb}
use lib.Pow.{pow_pos}
use borrow.Author.Tests.{eqb-true, ltb-true, ltb-false}
use Rattle.base.proofs.Bools.{both}
use Rattle.text.specs.Lines.{Bytes, max_numbers, line_of}
use Rattle.text.specs.declared.Line.{Line}
use Rattle.rows.specs.Rows.{TableRow, no_bit_from, row_fits}
use Rattle.program.specs.Program.{Program}
use Rattle.program.specs.Frames.{row_size, num, packed, word, rest, key_of, row_frame, row_key}
use Rattle.program.specs.Reading.{row_in}
use Rattle.program.proofs.LinesJudged.{bytes_small}
use Rattle.program.proofs.ProgramLimits.{Limits}

-- ---- numbers in base 256

two_parts : (n : ℕ) → n / 256 * 256 + n % 256 ≡ n
two_parts n = omega arith

four_parts : (n : ℕ) → packed (n / 0x1000000) (n / 0x10000 % 256) (n / 0x100 % 256) (n % 256) ≡ n
four_parts n = omega arith

-- the keys of a wide row and of a narrow one, by its bits
wide_key : (s₁ s₂ a₁ a₂ a₃ a₄ t₁ t₂ b₁ b₂ b₃ b₄ n : ℕ) → s₁ * 256 + s₂ ≡ t₁ * 256 + t₂ → packed a₁ a₂ a₃ a₄ ≡ packed b₁ b₂ b₃ b₄
    → key_of 5 (packed s₁ s₂ a₁ a₂) (packed 0 a₃ a₄ n) ≡ key_of 5 (packed t₁ t₂ b₁ b₂) (packed 0 b₃ b₄ n)
wide_key s₁ s₂ a₁ a₂ a₃ a₄ t₁ t₂ b₁ b₂ b₃ b₄ n e f = omega arith

narrow_key : (s a₁ a₂ a₃ a₄ b₁ b₂ b₃ b₄ n : ℕ) → packed a₁ a₂ a₃ a₄ ≡ packed b₁ b₂ b₃ b₄
    → key_of 5 (packed s a₁ a₂ a₃) (packed 0 a₄ n 0) ≡ key_of 5 (packed s b₁ b₂ b₃) (packed 0 b₄ n 0)
narrow_key s a₁ a₂ a₃ a₄ b₁ b₂ b₃ b₄ n f = omega arith

-- ---- a row of a line, and a line of a row

-- a row's key is that of the line that it stands in; a narrow row has no eighth number
pub row-key : (q : ℕ) (l : Line) → (row_size q ≤ 7 → num l 7 ≡ 0) → row_key q (row_in q l) ≡ key_of 5 (word l) (rest l)
row-key q l z = go (ltb 8 q) refl
  where
    go : (t : Bool) → ltb 8 q ≡ t → row_key q (row_in q l) ≡ key_of 5 (word l) (rest l)
    go true e = rw e (wide_key _ _ _ _ _ _ (num l 1) (num l 2) (num l 3) (num l 4) (num l 5) (num l 6) (num l 7) (two_parts _) (four_parts _))
    go false e =
        rw (e, z (rw e (omega arith))) (narrow_key (num l 1) _ _ _ _ (num l 2) (num l 3) (num l 4) (num l 5) (num l 6) (four_parts _))

-- a row's frame is read as the row
pub row_read : (q : ℕ) (r : TableRow) → row_in q (line_of (row_frame q r)) ≡ r
row_read q r = go (ltb 8 q) refl
  where
    go : (t : Bool) → ltb 8 q ≡ t → row_in q (line_of (row_frame q r)) ≡ r
    go true e = rw e (λ i. record { states = two_parts r.states i; actions = four_parts r.actions i; next = r.next })
    go false e = rw e (λ i. record { states = r.states; actions = four_parts r.actions i; next = r.next })

-- ---- a row that fits

-- a number without a bit from n on, n at most m, is below 2 ^ m
short : (m n bits : ℕ) → n ≤ m → no_bit_from n bits ≡ true → bits < 2 ^ m
short m n bits h e =
    let z = eqb-true (bits / 2 ^ n) 0 e in
    let l : bits < 1 * 2 ^ n = (div-lt_iff_lt-mul (pow_pos n)).0 (omega arith) in
    lt_of_lt_of_le (rw (one-mul (2 ^ n)) at l) (pow-le-pow_right (omega arith) h)

module _ (p : Program) (limit : Limits p) (r : TableRow) (f : row_fits p.automaton r ≡ true) where
  abbrev states : ℕ
  states = p.automaton.states

  abbrev actions : ℕ
  actions = p.automaton.actions

  parts : (no_bit_from states r.states ≡ true) × (no_bit_from actions r.actions ≡ true) × (r.next < states)
  parts =
      let a = both (no_bit_from states r.states && no_bit_from actions r.actions) (ltb r.next states) f in
      let b = both (no_bit_from states r.states) (no_bit_from actions r.actions) a.0 in
      (b.0, b.1, ltb-true r.next states a.1)

  pub row_bytes : Bytes (row_frame states r)
  row_bytes = go (ltb 8 states) refl
    where
      a : r.actions < 0x100000000
      a = short 32 actions r.actions limit.actions parts.1

      go : (t : Bool) → ltb 8 states ≡ t → Bytes (row_frame states r)
      go true e =
          let s : r.states < 0x10000 = short 16 states r.states limit.states parts.0 in
          rw e (omega (arith, limit, parts.2, s, a))
      go false e =
          let s : r.states < 0x100 = short 8 states r.states (ltb-false 8 states e) parts.0 in
          rw e (omega (arith, limit, parts.2, s, a))

  -- it stands before the initial states
  pub row_below : row_key states r < key_of 6 0 0
  row_below =
      let b : (i : ℕ) → num (line_of (row_frame states r)) i < 256 = λ i. bytes_small max_numbers (row_frame states r) i row_bytes in
      omega (arith, b 1, b 2, b 3, b 4, b 5, b 6, b 7)
