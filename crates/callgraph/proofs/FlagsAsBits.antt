-- The bits of a number that is made flag by flag, the last flag first.
use Prim.Native.Nat.{ℕ, zero, suc, ◌+◌, ◌-◌, ◌*◌, ◌/◌, ◌%◌, ◌^◌, ◌≤◌, ◌<◌}
use mathlib.Core.Path.{◌≡◌, refl, sym, ap, subst, ◌∙◌}
use mathlib.Core.Bool.{Bool, true, false, cond, not}
use mir.Val.{bool_byte}
use mathlib.Core.List.{List}
use native.Mathlib.Omega.{arith}
use native.Mathlib.Nat.{pow-succ', pow-le-pow_right, div-div-eq-div-mul}
use lib.Dec.{eqb}
use lib.ListN.{get_or}
use borrow.Author.Tests.{eqb-false, ne_eqb}
use Rattle.program.specs.Sizes.{max_routines}
use Rattle.callgraph.specs.Components.{Member, Bits}

abbrev pub bit_at : List ℕ → ℕ → ℕ
bit_at flags f = cond (eqb (get_or flags f 0) 0) 0 1

-- the test that a flag is set, as a number
pub bit_from : (t : Bool) → bool_byte (not t) ≡ cond t 0 1
bit_from true = refl
bit_from false = refl

bit_small : (t : Bool) → cond t 0 1 ≤ 1
bit_small true = omega arith
bit_small false = omega arith

bit_on : (t : Bool) → ◌≡◌ {A = ℕ} (cond t 0 1) 1 → t ≡ false
bit_on true e = absurd (omega arith)
bit_on false e = refl

-- the flags from i on are the bits of n
pub record Bitted (flags : List ℕ) (i n : ℕ) : Type 0 where
  pub within : i ≤ max_routines
  pub small : n < 2 ^ (max_routines - i)
  pub bit : (k : ℕ) → i + k < max_routines → n / 2 ^ k % 2 ≡ bit_at flags (i + k)

pub bitted_start : (flags : List ℕ) → Bitted flags max_routines 0
bitted_start flags = record { within = omega arith; small = omega arith; bit = λ k h. absurd (omega arith) }

-- n is never too large
pub bitted_small : {flags : List ℕ} {i n : ℕ} → Bitted flags i n → n < 65536
bitted_small {i = i} b =
    let h : 2 ^ (max_routines - i) ≤ 2 ^ max_routines = pow-le-pow_right {n = 2} (omega arith) {i = max_routines - i} {j = max_routines} (omega arith) in
    let s = b.small in
    let t : 2 ^ max_routines ≡ 65536 = refl in
    omega arith

next_power : (k : ℕ) → 2 ^ suc k ≡ 2 * 2 ^ k
next_power k = pow-succ' 2 k

double_half : (n b : ℕ) → b ≤ 1 → (n * 2 + b) / 2 ≡ n
double_half n b h = omega arith

-- a bit of the longer number is one of n
next_bit : (n b k : ℕ) → b ≤ 1 → (n * 2 + b) / 2 ^ suc k ≡ n / 2 ^ k
next_bit n b k h =
    ap (λ (x : ℕ). (n * 2 + b) / x) (next_power k) ∙ sym (div-div-eq-div-mul (n * 2 + b) 2 (2 ^ k)) ∙ ap (λ (x : ℕ). x / 2 ^ k) (double_half n b h)

pub bitted_turn : {flags : List ℕ} {i n : ℕ} (j b : ℕ) → Bitted flags i n → i ≡ suc j → b ≡ bit_at flags j → Bitted flags j (n * 2 + b)
bitted_turn {flags} {i} {n} j b t e f =
    let one : b ≤ 1 = omega (arith, f, bit_small (eqb (get_or flags j 0) 0)) in
    record {
      within = omega (arith, t.within);
      small =
          let s = t.small in
          let p : max_routines - j ≡ suc (max_routines - i) = omega (arith, t.within) in
          let q : 2 ^ (max_routines - j) ≡ 2 * 2 ^ (max_routines - i) = ap (λ (x : ℕ). 2 ^ x) p ∙ next_power (max_routines - i) in
          omega (arith, s, q, one);
      bit = go t e f one;
    }
  where
    go : Bitted flags i n → i ≡ suc j → b ≡ bit_at flags j → b ≤ 1 → (k : ℕ) → j + k < max_routines → (n * 2 + b) / 2 ^ k % 2 ≡ bit_at flags (j + k)
    go t e f one zero h =
        let p : (n * 2 + b) / 2 ^ 0 % 2 ≡ b = omega (arith, one) in
        let q : j + 0 ≡ j = omega arith in
        p ∙ f ∙ ap (bit_at flags) (sym q)
    go t e f one (suc k) h =
        let q : i + k ≡ j + suc k = omega arith in
        ap (λ (x : ℕ). x % 2) (next_bit n b k one) ∙ t.bit k (omega arith) ∙ ap (bit_at flags) q

pub bitted_end : {flags : List ℕ} {i n : ℕ} → Bitted flags i n → i ≡ 0 → Bits (Member flags) n
bitted_end {flags} {i} {n} x e =
    let t : Bitted flags 0 n = subst (λ (j : ℕ). Bitted flags j n) e x in
    record {
      small = bitted_small t;
      bit = λ f h.
          let z : 0 + f ≡ f = omega arith in
          let b : n / 2 ^ f % 2 ≡ bit_at flags f = t.bit f (omega arith) ∙ ap (bit_at flags) z in (
            λ e. eqb-false (get_or flags f 0) 0 (bit_on (eqb (get_or flags f 0) 0) (sym b ∙ e)),
            λ x. b ∙ rw (ne_eqb (get_or flags f 0) 0 x),
          );
    }
