use mathlib.Core.Path.{◌≡◌}
use native.Mathlib.Omega.{arith}
use lib.ListN.{length, take}
use borrow.Author.Rules.{rules}
use Rattle.automaton.specs.Sizes.{max_states}
use Rattle.base.proofs.EntriesInUse.{in_use_same}
use Rattle.marking.proofs.StepsMark.{loop_turn, loop_end}
use Rattle.worklist.proofs.AnalysisBegun.{all_opened}
use Rattle.worklist.proofs.run.open_initial.Goals as goal
use Rattle.worklist.proofs.run.open_initial.Goals.{At-loop-q}

room : (p : At-loop-q) → length p.args.initial.list ≡ max_states
room p = search rules

pub loop-q-preserved : goal.loop-q-preserved
loop-q-preserved c =
    let m = c.mark-low in
    loop_turn c.loop-q.invariant (omega arith) (rw c.entry_of.ensures.0 at m.ensures.0) m.ensures.1
    m.auto.marks m.auto.pending

pub returns : goal.returns
returns c =
    let n = c.args.initial.count in
    let list = c.args.initial.list in
    let used : take c.in_use-count.result list ≡ take n list =
    in_use_same n list (room (goal.at.returns c).At-loop-q) c.in_use-count.ensures in
    rw used at (all_opened c.args.z (take c.in_use-count.result list) (loop_end c.loop-q.invariant (omega arith)).0)
