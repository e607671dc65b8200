-- A product with a reciprocal, cut off, is a quotient: the reciprocal is too large by less than 1, and in small numbers
-- that counts for nothing.
use Prim.Native.Nat.{ℕ, ◌+◌, ◌-◌, ◌*◌, ◌/◌, ◌%◌, ◌^◌, ◌<◌, ◌≤◌}
use mathlib.Core.Path.{◌≡◌, ap, sym, ◌∙◌}
use native.Mathlib.Nat.{div-add-mod', mod-lt, add-mul, mul-add, mul_assoc, mul_comm, mul-le-mul, mul-le-mul_left, mul-le-mul_right, div-div-eq-div-mul}
use native.Mathlib.Omega.{arith}
use lib.Pow.{high}
use Rattle.program.specs.declared.sizes.Sizes.{Sizes}
use Rattle.program.specs.Chosen.{Admitted}
use Rattle.reach.specs.Sizes.{node_span, routine_span}
use Rattle.reach.specs.Configurations.{Usable}
use Rattle.reach.specs.SplitParts.{Reciprocal, Splits}

-- with m * d = 2 ^ 32 + u, the product of k * d + r is k * 2 ^ 32 and this rest
rest_small : (d m u k r : ℕ) → m * d ≡ 2 ^ 32 + u → u ≤ d → d ≤ 2 ^ 15 → 2 ^ 17 ≤ m → k * d < 2 ^ 16 → r < d → k * u + r * m < 2 ^ 32
rest_small d m u k r e a b c h l =
    let x : k * u ≤ k * d = mul-le-mul_left k a in
    let y : (r + 1) * m ≤ d * m = mul-le-mul_right m (omega arith) in
    omega (arith, add-mul r 1 m, mul_comm d m)

product_is : (d m u k r : ℕ) → m * d ≡ 2 ^ 32 + u → (k * d + r) * m ≡ k * 2 ^ 32 + (k * u + r * m)
product_is d m u k r e =
    let x : k * (m * d) ≡ k * (2 ^ 32 + u) = ap (λ (n : ℕ). k * n) e in
    omega (arith, add-mul (k * d) r m, mul_assoc k d m, ap (λ (n : ℕ). k * n) (mul_comm d m), mul-add k (2 ^ 32) u)

module _ (d : ℕ) (pos : 0 < d) (short : d ≤ 2 ^ 15) where
  -- the product of the two is a little more than 2 ^ 32
  over : (2 ^ 32 / d + 1) * d ≡ 2 ^ 32 + (d - 2 ^ 32 % d)
  over = let h = mod-lt (2 ^ 32) pos in omega (arith, div-add-mod' (2 ^ 32) d, add-mul (2 ^ 32 / d) 1 d)

  large : 2 ^ 17 ≤ 2 ^ 32 / d + 1
  large =
      let h = mod-lt (2 ^ 32) pos in
      let x : 2 ^ 32 / d * d ≤ 2 ^ 32 / d * 2 ^ 15 = mul-le-mul_left (2 ^ 32 / d) short in
      omega (arith, div-add-mod' (2 ^ 32) d)

  pub reciprocal : Reciprocal d (2 ^ 32 / d + 1)
  reciprocal =
      let m = 2 ^ 32 / d + 1 in
      let u = d - 2 ^ 32 % d in
      record {
        small = let x : 2 ^ 32 / d * 1 ≤ 2 ^ 32 / d * d = mul-le-mul_left (2 ^ 32 / d) pos in omega (arith, div-add-mod' (2 ^ 32) d);
        divides = λ i h.
            let e = div-add-mod' i d in
            let l = mod-lt i pos in
            let s = rest_small d m u (i / d) (i % d) over (omega arith) short large (omega arith) l in
            ap (λ (n : ℕ). n * m / 2 ^ 32) (sym e) ∙ ap (λ (n : ℕ). n / 2 ^ 32) (product_is d m u (i / d) (i % d) over) ∙ high (i / d) 32 s;
      }

-- the product of a small number fits
pub product_fits : (i m : ℕ) → i < 2 ^ 16 → m ≤ 2 ^ 33 → i * m ≤ 2 ^ 49
product_fits i m h l = mul-le-mul {n₁ = i} {n₂ = 2 ^ 16} (omega arith) l

-- ---- the spans of sizes

module _ (Z : Sizes) (U : Usable Z) (A : Admitted Z) where
  pub node_short : (0 < node_span Z) × (node_span Z ≤ 256)
  node_short =
      (mul-le-mul {n₁ = 1} {m₁ = 1} U.states U.states, mul-le-mul {n₂ = 16} {m₂ = 16} A.states A.states)

  pub routine_short : (0 < routine_span Z) × (routine_span Z ≤ 2 ^ 15)
  routine_short =
      let x : 64 * 256 ≤ 2 ^ 15 = omega arith in
      let y : Z.nodes * node_span Z ≤ 64 * 256 = mul-le-mul A.nodes node_short.1 in
      (mul-le-mul {n₁ = 1} {m₁ = 1} (omega (arith, U.nodes)) node_short.0, omega arith)

module _ (Z : Sizes) {root node routine : ℕ} (s : Splits Z root node routine) (i : ℕ) (h : i < 2 ^ 16) where
  pub split_root : i * root / 2 ^ 32 ≡ i / Z.states
  split_root = s.by_root.divides i h

  pub split_node : i * node / 2 ^ 32 ≡ i / Z.states / Z.states
  split_node = s.by_node.divides i h ∙ sym (div-div-eq-div-mul i Z.states Z.states)

  pub split_routine : i * routine / 2 ^ 32 ≡ i / Z.states / Z.states / Z.nodes
  split_routine =
      let Q = Z.states in
      s.by_routine.divides i h ∙ ap (λ (k : ℕ). i / k) (mul_comm Z.nodes (Q * Q))
      ∙ sym (div-div-eq-div-mul i (Q * Q) Z.nodes) ∙ ap (λ (k : ℕ). k / Z.nodes) (sym (div-div-eq-div-mul i Q Q))
