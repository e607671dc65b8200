-- What supports a configuration (f, n, r, q), by the kept bytes and the sets of next states; nothing here has to be
-- believed.
use Rattle.std.specs.Prelude.{ℕ, ◌≡◌, ◌≢◌, Bool, false, cond, ◌&&◌, ◌||◌, List, [], ◌∷◌, map, eqb}
use Rattle.program.specs.declared.sizes.Sizes.{Sizes}
use Rattle.program.specs.Program.{Edge, Program, is_call, called_by}
use Rattle.automaton.specs.Automaton.{call_of}
use Rattle.automaton.specs.NextStates.{Answers}
use Rattle.program.specs.WellFormed.{WellFormed}
use Rattle.program.specs.Decoded.{edge_of}
use Rattle.reach.specs.Ranged.{Sized}
use Rattle.reach.specs.Configurations.{number}
use Rattle.base.specs.Searches.{any_from}
use Rattle.kept.specs.Parts.{move_kept, caller_kept, return_kept}

-- one key of a list
unfoldable pub any_key : (ℕ → Bool) → List ℕ → Bool
any_key t [] = false
any_key t (k ∷ ks) = t k || any_key t ks

-- this part of the keys has the edges of routine f: a test that fails for every edge of another routine is met by one
-- of all just where it is met by one of these
pub record PartOf (keys : List ℕ) (f : ℕ) (part : List ℕ) : Type 0 where
  pub decides : (t : ℕ → Bool) → ((key : ℕ) → (edge_of key).routine ≢ f → t key ≡ false)
      → any_key t part ≡ any_key t keys

module _ (Z : Sizes) where
  -- it is an entry, and the edge calls its routine with its root
  unfoldable pub entry_supports : List ℕ → List ℕ → Edge → ℕ → ℕ → ℕ → ℕ → Bool
  entry_supports next kept e f n r q =
      cond (eqb n 0 && eqb r q && eqb e.label (call_of f)) (caller_kept Z next kept e r) false

  -- the edge leads to it by a call that returns
  unfoldable pub return_supports : List ℕ → List ℕ → Edge → ℕ → ℕ → ℕ → ℕ → Bool
  return_supports next kept e f n r q =
      cond (eqb e.routine f && eqb e.target n)
      (cond (is_call e.label) (return_kept Z next kept (number Z f e.source r 0) (called_by e.label) q) false)
      false

  unfoldable pub call_supports : List ℕ → List ℕ → Edge → ℕ → ℕ → ℕ → ℕ → Bool
  call_supports next kept e f n r q = entry_supports next kept e f n r q || return_supports next kept e f n r q

  -- how many states before are to be tried for an edge: all for an action that leads to node n of routine f, else none
  unfoldable pub states_to_try : Edge → ℕ → ℕ → ℕ
  states_to_try e f n = cond (eqb e.routine f && eqb e.target n) (cond (is_call e.label) 0 Z.states) 0

  -- the edge leads to it by an action, from some state in which its source is kept
  unfoldable pub action_supports : List ℕ → List ℕ → ℕ → ℕ → ℕ → ℕ → Edge → Bool
  action_supports next kept f n r q e =
      any_from (λ x. move_kept next kept (number Z f e.source r 0) x e.label q) (states_to_try e f n) 0

  unfoldable pub edge_supports : List ℕ → List ℕ → ℕ → ℕ → ℕ → ℕ → Edge → Bool
  edge_supports next kept f n r q e = call_supports next kept e f n r q || action_supports next kept f n r q e

  -- some edge supports it
  unfoldable pub supports : List ℕ → List ℕ → List ℕ → ℕ → ℕ → ℕ → ℕ → Bool
  supports keys next kept f n r q = any_key (λ key. edge_supports next kept f n r q (edge_of key)) keys

  -- ---- what the tables mean

  -- the edges are those of this program, and the sets of next states those of its automaton
  pub record Tables (p : Program) (keys next : List ℕ) : Type 0 where
    pub well_formed : WellFormed p
    pub sized : Sized Z p
    pub edges : p.edges ≡ map edge_of keys
    pub answers : Answers p.automaton p.routines next
