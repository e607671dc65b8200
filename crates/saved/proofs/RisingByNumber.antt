-- Configurations in range rise where their numbers ascend, and those that rise are determined by which they are.
use mathlib.Core.Path.{◌≡◌, refl, sym}
use mathlib.Core.Logic.{◌↔◌}
use mathlib.Core.List.{List, [], ◌∷◌, map, Memᴰ}
use Prim.Native.Nat.{ℕ, ◌+◌, ◌<◌}
use native.Mathlib.Omega.{arith}
use native.Mathlib.Decide.{dec_lt}
use Rattle.tables.specs.Keys.{Ascending}
use Rattle.program.specs.declared.sizes.Sizes.{Sizes}
use Rattle.program.proofs.SectionsAscend.{same_list}
use Rattle.reach.specs.declared.configuration.Configuration.{Configuration}
use Rattle.reach.specs.Configurations.{InRange, Earlier, by_routine, by_node, by_root, by_state, number}
use Rattle.reach.proofs.Numbers.{number_order}
use Rattle.saved.specs.Rules.{Rising, none, one, more}

-- ---- the lesser of two numbers has the earlier parts

-- of two numbers of which the second is not below the first
decide : {x y : ℕ} {X : Type 0} → ¬ (y < x) → (x < y → X) → (x ≡ y → X) → X
decide {x} {y} h f g = elim (dec_lt x y) [ yes k ↦ f k | no k ↦ g (omega arith) ]

module _ {Z : Sizes} {f n r q g m s t : ℕ} (h : InRange Z g m s t) (lt : number Z f n r q < number Z g m s t) where
  not_after : ¬ (Earlier g m s t f n r q)
  not_after e = omega (arith, number_order h f n r q e)

  earlier_parts : Earlier f n r q g m s t
  earlier_parts =
      decide (λ k. not_after (by_routine k)) by_routine
      (λ a. decide (λ k. not_after (by_node (sym a) k)) (by_node a)
      (λ b. decide (λ k. not_after (by_root (sym a) (sym b) k)) (by_root a b)
      (λ c. decide (λ k. not_after (by_state (sym a) (sym b) (sym c) k)) (by_state a b c)
      (λ d. absurd (let e : number Z f n r q ≡ number Z g m s t = rw (a, b, c, d) in omega arith)))))

-- ---- lists of configurations in range

module _ (Z : Sizes) where
  abbrev pub number_of : Configuration → ℕ
  number_of c = number Z c.routine c.node c.root c.state

  abbrev pub Within : Configuration → Type 0
  Within c = InRange Z c.routine c.node c.root c.state

  -- keys start above 0
  abbrev pub place_of : Configuration → ℕ
  place_of c = number_of c + 1

  abbrev pub AllWithin : List Configuration → Type 0
  AllWithin cs = (c : Configuration) → Memᴰ c cs → Within c

  above : {c : Configuration} {cs : List Configuration} → Rising (c ∷ cs) → AllWithin (c ∷ cs) → Ascending (place_of c) (map place_of cs)
  unfolding Ascending
  above one h = tt
  above (more {c = c} {d = d} b r) h =
      let lt = number_order (h c (Memᴰ.head refl)) _ _ _ _ b in
      (omega arith, above r (λ x m. h x (Memᴰ.tail m)))

  rising_ascends : (cs : List Configuration) → AllWithin cs → Rising cs → Ascending 0 (map place_of cs)
  unfolding Ascending
  rising_ascends [] h r = tt
  rising_ascends (c ∷ cs) h r = (omega arith, above r h)

  pub ascending_rises : (low : ℕ) (cs : List Configuration) → AllWithin cs → Ascending low (map place_of cs) → Rising cs
  unfolding Ascending
  ascending_rises low [] h a = none
  ascending_rises low (c ∷ []) h a = one
  ascending_rises low (c ∷ d ∷ cs) h a =
      let lt : number_of c < number_of d = omega (arith, a.1.0) in
      more (earlier_parts (h d (Memᴰ.tail (Memᴰ.head refl))) lt) (ascending_rises (place_of c) (d ∷ cs) (λ x m. h x (Memᴰ.tail m)) a.1)

  pub rising_once : (S : Configuration → Type 0) (cs ds : List Configuration) → ((c : Configuration) → S c → Within c) → Rising cs → Rising ds
      → ((c : Configuration) → Memᴰ c cs ↔ S c) → ((c : Configuration) → Memᴰ c ds ↔ S c) → cs ≡ ds
  rising_once S cs ds w r t a b =
      same_list place_of 0 0 cs ds
      (rising_ascends cs (λ c m. w c ((a c).0 m)) r)
      (rising_ascends ds (λ c m. w c ((b c).0 m)) t)
      (λ c m. (b c).1 ((a c).0 m))
      (λ c m. (a c).1 ((b c).0 m))
