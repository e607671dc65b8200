use Rattle.std.proofs.Common.{sym, ap, map, arith, rules, ◌≡◌, length}
use Rattle.base.proofs.EntriesInUse.{in_use_same}
use Rattle.automaton.specs.Sizes.{max_transitions}
use Rattle.automaton.specs.Decoded.{transition_of}
use Rattle.automaton.proofs.MovesListed.{allowed_none, allowed_more, allowed_all}
use Rattle.automaton.proofs.next.listed_moves.Goals as goal

pub loop-key-init : goal.loop-key-init
loop-key-init c = allowed_none _

pub slice_bounds-add_transition-end : goal.slice_bounds-add_transition-end
slice_bounds-add_transition-end c = sym c.loop-key.invariant.shape.size

pub loop-key-preserved : goal.loop-key-preserved
loop-key-preserved c = rw c.add_transition.ensures (allowed_more c.loop-key.invariant (omega arith))

pub returns : goal.returns
returns c =
    let t = c.args.transitions in
    let room : length t.keys ≡ max_transitions = search rules in
    let used = in_use_same t.count t.keys room c.in_use-count.ensures in
    allowed_all c.loop-key.invariant (omega arith) (ap (map transition_of) (sym used))
