use Rattle.std.proofs.Common.{sym, arith, rules, ◌≡◌, length}
use Rattle.base.proofs.EntriesInUse.{in_use_same}
use Rattle.automaton.specs.Sizes.{max_states}
use Rattle.automaton.proofs.TablesFilled.{members_none, members_more, members_all}
use Rattle.automaton.proofs.flags.flags_of.Goals as goal

pub loop-state-init : goal.loop-state-init
loop-state-init c = members_none _

pub slice_bounds-set_flag-end : goal.slice_bounds-set_flag-end
slice_bounds-set_flag-end c = sym c.loop-state.invariant.size

pub loop-state-preserved : goal.loop-state-preserved
loop-state-preserved c = rw (c.set_flag.ensures, c.from.ensures) (members_more c.loop-state.invariant (omega arith))

pub returns : goal.returns
returns c =
    let s = c.args.states in
    let room : length s.list ≡ max_states = search rules in
    rw (in_use_same s.count s.list room c.in_use-count.ensures) at (members_all c.loop-state.invariant (omega arith))
