-- Small tables, computed: two states and two actions.
use Prim.Native.Nat.{ℕ}
use mathlib.Core.Path.{◌≡◌, refl}
use mathlib.Core.List.{List, [], ◌∷◌}
use Rattle.automaton.specs.Automaton.{Transition}
use Rattle.rows.specs.Rows.{TableRow, Pair, no_pair, pairs, pairs_from, times_met, next_state, table_refusal, faulty_pair, table_transitions}

abbrev row : ℕ → ℕ → ℕ → TableRow
row states actions next = record { states = states; actions = actions; next = next }

abbrev go : ℕ → ℕ → ℕ → Transition
go before action after = record { before = before; label = action; after = after }

abbrev pair : ℕ → ℕ → Pair
pair state action = record { state = state; action = action }

-- each state goes to the other, whatever the action
abbrev complete : List TableRow
complete = row 1 3 1 ∷ row 2 3 0 ∷ []

complete_accepted : (table_refusal complete (pairs 2 2) ≡ 0) × (faulty_pair complete (pairs 2 2) ≡ no_pair)
unfolding pairs_from times_met table_refusal faulty_pair
complete_accepted = (refl, refl)

complete_transitions : table_transitions complete (pairs 2 2) ≡ go 0 0 1 ∷ go 0 1 1 ∷ go 1 0 0 ∷ go 1 1 0 ∷ []
unfolding pairs_from next_state
complete_transitions = refl

-- state 1 has no next state on action 1
missing_refused : (table_refusal (row 1 3 1 ∷ row 2 1 0 ∷ []) (pairs 2 2) ≡ 19) × (faulty_pair (row 1 3 1 ∷ row 2 1 0 ∷ []) (pairs 2 2) ≡ pair 1 1)
unfolding pairs_from times_met table_refusal faulty_pair
missing_refused = (refl, refl)

-- state 0 has two on action 0
doubled_refused : (table_refusal (row 1 1 1 ∷ row 3 3 0 ∷ []) (pairs 2 2) ≡ 20) × (faulty_pair (row 1 1 1 ∷ row 3 3 0 ∷ []) (pairs 2 2) ≡ pair 0 0)
unfolding pairs_from times_met table_refusal faulty_pair
doubled_refused = (refl, refl)

-- state 0 has none on action 1, and state 1 has two on action 0: the lower state decides, not the lower action
state_first : (table_refusal (row 2 3 1 ∷ row 3 1 0 ∷ []) (pairs 2 2) ≡ 19) × (faulty_pair (row 2 3 1 ∷ row 3 1 0 ∷ []) (pairs 2 2) ≡ pair 0 1)
unfolding pairs_from times_met table_refusal faulty_pair
state_first = (refl, refl)
