-- The labels that fit are within the sizes.
use mathlib.Core.Path.{◌≡◌}
use mathlib.Core.Bool.{true}
use Prim.Native.Nat.{ℕ, ◌≤◌, ◌<◌}
use native.Mathlib.Omega.{arith}
use lib.Dec.{ltb, leb}
use borrow.Author.Tests.{ltb-true}
use Rattle.base.proofs.Bools.{both, either}
use Rattle.automaton.specs.Sizes.{first_call, first_return, max_labels}
use Rattle.automaton.specs.Automaton.{call_of, return_of, label_fits, event_fits}

module _ (routines actions : ℕ) (few-actions : actions ≤ first_call) (few-routines : call_of routines ≤ first_return) (l : ℕ) where
  -- no return is the label of an edge
  pub label_small : label_fits routines actions l ≡ true → l < first_return
  label_small f =
      either (ltb l actions) _ f (λ e. omega (arith, ltb-true l actions e))
      (λ e. omega (arith, ltb-true l (call_of routines) (both (leb first_call l) _ e).1))

  pub event_small : event_fits routines actions l ≡ true → l < max_labels
  event_small f =
      either (label_fits routines actions l) _ f (λ e. omega (arith, label_small e))
      (λ e. omega (arith, ltb-true l (return_of routines) (both (leb first_return l) _ e).1))
