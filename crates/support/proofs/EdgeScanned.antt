-- What an edge supports, as the search asks: first as a call, then as an action with the states before in turn.
use mathlib.Core.Path.{◌≡◌, refl}
use mathlib.Core.Bool.{true, false}
use mathlib.Core.List.{List}
use Prim.Native.Nat.{ℕ}
use Rattle.program.specs.Program.{Edge}
use Rattle.reach.specs.Configurations.{number}
use Rattle.base.specs.Searches.{any_from}
use Rattle.kept.specs.Parts.{move_kept}
use Rattle.support.specs.Parts.{call_supports, states_to_try, action_supports, edge_supports}
use Rattle.program.specs.declared.sizes.Sizes.{Sizes}

module _ (Z : Sizes) where
  module _ (next kept : List ℕ) (f n r q : ℕ) (e : Edge) where
    pub edge_calls : call_supports Z next kept e f n r q ≡ true → edge_supports Z next kept f n r q e ≡ true
    unfolding edge_supports
    edge_calls h = rw h refl

    pub edge_is : {end base : ℕ} → call_supports Z next kept e f n r q ≡ false → end ≡ states_to_try Z e f n → base ≡ number Z f e.source r 0
        → any_from (λ x. move_kept next kept base x e.label q) end 0 ≡ edge_supports Z next kept f n r q e
    unfolding edge_supports action_supports
    edge_is h z b = rw (h, z, b) refl
