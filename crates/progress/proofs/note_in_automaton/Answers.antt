use Rattle.std.proofs.Common.{arith, ◌≡◌, eqb, map}
use Rattle.std.proofs.lemmas.Grind.{common_steps}
use Rattle.automaton.specs.Decoded.{states_of, transition_keys_of, transition_of}
use Rattle.program.specs.Frames.{num}
use Rattle.program.specs.Reading.{transition_in, more}
use Rattle.frames.specs.Kinds.{place_of}
use Rattle.progress.proofs.note_in_automaton.Goals as goal

-- list by list
pub returns : goal.returns
returns c =
    let k = place_of c.args.kind in
    let a = c.args.a.now in
    let transitions : map transition_of (transition_keys_of c.add_transition.new.t) ≡ more (eqb k 4) (transition_in c.args.l) (map transition_of (transition_keys_of a.transitions)) = grind (arith, common_steps) in
    let initial : states_of c.add_state.new.s ≡ more (eqb k 6) (num c.args.l 1) (states_of a.initial) = grind (arith, common_steps) in
    let rejecting : states_of c.add_state-2.new.s ≡ more (eqb k 7) (num c.args.l 1) (states_of a.rejecting) = grind (arith, common_steps) in
    let header : c.eq-in_header.result ≡ eqb k 1 = grind arith in
    cc
