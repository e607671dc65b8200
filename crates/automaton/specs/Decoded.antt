-- The automaton as it is kept by value, and the automaton that it stands for.
use Rattle.std.specs.Prelude.{ℕ, ◌/◌, ◌%◌, List, map, take}
use Rattle.automaton.specs.Automaton.{Transition, Automaton}
use Rattle.automaton.specs.declared.transitions.Transitions.{Transitions}
use Rattle.automaton.specs.declared.States.{States}
use Rattle.automaton.specs.declared.DecodedAutomaton.{DecodedAutomaton}

-- the keys of the table of transitions
abbrev pub transition_keys_of : Transitions → List ℕ
transition_keys_of t = take t.count t.keys

abbrev pub states_of : States → List ℕ
states_of s = take s.count s.list

-- a transition is kept as one number in base 256, its key
abbrev pub transition_of : ℕ → Transition
transition_of k = record { before = k / 0x10000; label = k / 0x100 % 256; after = k % 256 }

abbrev pub automaton_of : DecodedAutomaton → Automaton
automaton_of d =
    record {
      states = d.states;
      actions = d.actions;
      transitions = map transition_of (transition_keys_of d.transitions);
      initial = states_of d.initial;
      rejecting = states_of d.rejecting;
    }
