-- The automaton and the program, by their parts.
use Prim.Native.Nat.{ℕ}
use mathlib.Core.Path.{◌≡◌}
use mathlib.Core.List.{List}
use Rattle.automaton.specs.Automaton.{Transition, Automaton}
use Rattle.program.specs.Program.{Edge, Program}

pub automaton_parts : (r : Automaton) {q a : ℕ} {ts : List Transition} {is js : List ℕ} → q ≡ r.states → a ≡ r.actions
    → ts ≡ r.transitions → is ≡ r.initial → js ≡ r.rejecting
    → record { states = q; actions = a; transitions = ts; initial = is; rejecting = js } ≡ r
automaton_parts r a b c e f = λ i. record { states = a i; actions = b i; transitions = c i; initial = e i; rejecting = f i }

pub program_parts : (p : Program) {n : ℕ} {ns : List ℕ} {es : List Edge} {r : Automaton} → n ≡ p.routines → ns ≡ p.nodes
    → es ≡ p.edges → r ≡ p.automaton → record { routines = n; nodes = ns; edges = es; automaton = r } ≡ p
program_parts p a b c e = λ i. record { routines = a i; nodes = b i; edges = c i; automaton = e i }
