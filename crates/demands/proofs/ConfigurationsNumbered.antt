-- The numbers of configurations, for all sizes together: below the length of the marks, one to one, each the number of its parts, and in the order of the parts.
use mathlib.Core.Path.{◌≡◌, sym, ap, ◌∙◌}
use Prim.Native.Nat.{ℕ}
use Rattle.program.specs.declared.sizes.Sizes.{Sizes}
use Rattle.reach.specs.Configurations.{Usable, routine_of, node_of, root_of, state_of}
use Rattle.reach.proofs.Numbers.{routine-of, node-of, root-of, state-of, number_fits, number_order, divided_parts}
use Rattle.demands.specs.Demands.{Numbering}

-- a part of two configurations that have the same number
same_part : {i j x y : ℕ} (part : ℕ → ℕ) → part i ≡ x → part j ≡ y → i ≡ j → x ≡ y
same_part part a b e = sym a ∙ ap part e ∙ b

pub numbered : (z : Sizes) → Usable z → Numbering z
numbered z u =
    record {
      below = λ i. number_fits i;
      one_to_one = λ i j e. (
        same_part (routine_of z) (routine-of i) (routine-of j) e,
        same_part (node_of z) (node-of i) (node-of j) e,
        same_part (root_of z) (root-of i) (root-of j) e,
        same_part (state_of z) (state-of i) (state-of j) e,
      );
      parts = divided_parts z u;
      order = λ {f} {n} {r} {q} {g} {m} {s} {t} i j e. number_order i g m s t e;
    }
