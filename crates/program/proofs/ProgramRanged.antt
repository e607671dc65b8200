-- A well-formed program's automaton is in the program's range.
use native.Mathlib.Omega.{arith}
use borrow.Author.Tests.{lt-ltb}
use Rattle.automaton.specs.NextStates.{Ranged}
use Rattle.program.specs.Program.{Program, transition_fits}
use Rattle.program.specs.WellFormed.{WellFormed}
use Rattle.program.proofs.ProgramLimits.{transition-fits, well_formed_limits}
use Rattle.program.proofs.SectionsAscend.{all_in}

pub ranged : (p : Program) → WellFormed p → Ranged p.automaton p.routines
ranged p w =
    let limit = well_formed_limits p w in
    record {
      states = limit.states;
      actions = omega (arith, limit.actions);
      calls = omega (arith, limit.routines);
      transition = λ t m.
          let f = transition-fits p t (all_in (transition_fits p) p.automaton.transitions w.transitions_fit m) in
          (rw (lt-ltb t.before p.automaton.states f.0, f.1), f.2);
    }
