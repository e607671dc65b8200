use Rattle.std.proofs.Common.{sym, ap, map, arith, rules, ◌≡◌, length}
use Rattle.base.proofs.EntriesInUse.{in_use_same}
use Rattle.automaton.specs.Sizes.{max_transitions}
use Rattle.automaton.specs.Decoded.{transition_of}
use Rattle.automaton.proofs.TablesFilled.{hearing_none, hearing_more, hearing_all}
use Rattle.automaton.proofs.next.heard_labels.Goals as goal

pub loop-key-init : goal.loop-key-init
loop-key-init c = hearing_none _

pub slice_bounds-set_flag-end : goal.slice_bounds-set_flag-end
slice_bounds-set_flag-end c = sym c.loop-key.invariant.size

pub loop-key-preserved : goal.loop-key-preserved
loop-key-preserved c =
    rw c.set_flag.ensures (hearing_more c.loop-key.invariant c.label_of.ensures (omega arith))

pub returns : goal.returns
returns c =
    let t = c.args.transitions in
    let room : length t.keys ≡ max_transitions = search rules in
    let used = in_use_same t.count t.keys room c.in_use-count.ensures in
    hearing_all c.loop-key.invariant (omega arith) (ap (map transition_of) (sym used))
