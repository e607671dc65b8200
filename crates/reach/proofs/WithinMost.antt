-- A well-formed program is within the largest sizes that the code has room for, and so is one that is within smaller sizes.
use Prim.Native.Nat.{◌≤◌}
use native.Mathlib.Omega.{arith}
use Rattle.automaton.specs.Sizes.{max_states}
use Rattle.program.specs.Sizes.{max_routines, max_nodes}
use Rattle.program.specs.declared.sizes.Sizes.{Sizes}
use Rattle.program.specs.Program.{Program}
use Rattle.program.specs.WellFormed.{WellFormed}
use Rattle.program.proofs.ChosenSizes.{admitted}
use Rattle.reach.specs.Ranged.{Ranged}
use Rattle.reach.proofs.ProgramInSizes.{ranged}

pub record Wider (Z Y : Sizes) : Type 0 where
  pub routines : Z.routines ≤ Y.routines
  pub nodes : Z.nodes ≤ Y.nodes
  pub states : Z.states ≤ Y.states

pub wider : {Z Y : Sizes} {p : Program} → Wider Z Y → Ranged Z p → Ranged Y p
wider h r =
    let a = h.routines in
    let b = h.nodes in
    let c = h.states in
    record {
      main = omega (arith, r.main);
      routines = omega (arith, r.routines);
      routine = λ s. omega (arith, r.routine s);
      source = λ s. omega (arith, r.source s);
      target = λ s. omega (arith, r.target s);
      called = λ s. omega (arith, r.called s);
      no_exit = r.no_exit;
      states = omega (arith, r.states);
      after = r.after;
      begun = r.begun;
    }

abbrev pub most : Sizes
most = record { routines = max_routines; nodes = max_nodes; states = max_states }

pub sizes : (p : Program) → WellFormed p → Ranged most p
sizes p w =
    let a = admitted p w in
    wider (record { routines = a.routines; nodes = a.nodes; states = a.states }) (ranged p w)
