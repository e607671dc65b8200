use Rattle.base.specs.Flags.{is_set}
use Rattle.automaton.specs.Automaton.{return_of}
use Rattle.words.specs.Words.{flags_of}
use Rattle.reach.specs.Worklist.{summary}
use Rattle.reach.proofs.Numbers.{summary_state}
use Rattle.marking.proofs.StepsMark.{loop_start, loop_next, loop_idle}
use Rattle.marking.proofs.StatesTaken.{Answered, leaving_all, leaving_next, found_state, tests_passed, tests_over}
use Rattle.marking.proofs.StepsChosen.{step_taken}
use Rattle.successors.proofs.EdgesFollowed.{move_from}
use mathlib.Core.Path.{sym, ap, ◌∙◌}
use native.Mathlib.Omega.{arith}
use Prim.Native.Nat.{ℕ, ◌+◌, ◌<◌}
use Rattle.successors.proofs.follow_summaries.Goals as goal
use Rattle.successors.proofs.follow_summaries.Goals.{After-lowest_state-k, At-loop-left, Else-states-s}

-- the lowest state of what is left is one of the automaton's
small : (c : Else-states-s) → c.loop-left.s + c.lowest_state-k.result < c.args.z.states
small c = omega (arith, c.if-states-s.false)

-- the bits say of each state whether its summary is known
answered : (p : At-loop-left)
    → let a = p.args in
    Answered a.z.states (λ x. is_set (flags_of a.known.now) (summary a.z a.g a.y x)) p.bits_from-left.result
answered p =
    let a = p.args in
    let at = p.summary_of.ensures.0 in
    record {
      answered = λ x h.
          ap (λ (i : ℕ). is_set (flags_of a.known.now) i)
          (sym (summary_state a.z a.g a.y x) ∙ ap (λ (i : ℕ). i + x) (sym at))
          ∙ sym (p.bits_from-left.ensures.bit_from x (omega (arith, p.requires.2)));
    }

pub loop-left-init : goal.loop-left-init
loop-left-init c = (loop_start _ c.args.z.states _ _ _, leaving_all _)

pub returns-then-states-s : goal.returns-then-states-s
returns-then-states-s c =
    let v = c.loop-left.invariant in
    let asked = answered (goal.at.returns-then-states-s c).At-loop-left in
    loop_idle v.0 (tests_passed asked v.1 _ c.lowest_state-k.ensures (omega arith) c.if-states-s.true)

pub loop-left-preserved : goal.loop-left-preserved
loop-left-preserved c =
    let a = c.args in
    let v = c.loop-left.invariant in
    let low = c.lowest_state-k.ensures in
    let x = c.loop-left.s + c.lowest_state-k.result in
    let h = small (goal.at.loop-left-preserved c).Else-states-s in
    let m = c.mark_each-lowest in
    let asked = answered (goal.at.loop-left-preserved c).At-loop-left in
    let results = c.next_after-results.ensures in
    let moved = move_from a.z.states a.next.now a.base (return_of a.g) results c.narrow-x.ensures m.ensures.0 in (
      loop_next v.0 (omega arith) h (tests_passed asked v.1 _ low (omega arith) (omega arith)) (omega arith)
          (step_taken _ (asked.answered x h ∙ found_state v.1 low c.loop-left-test.true) moved)
          m.ensures.1 m.auto.marks m.auto.pending,
      leaving_next v.1 low,
    )

pub returns : goal.returns
returns c =
    let v = c.loop-left.invariant in
    let asked = answered (goal.at.returns c).At-loop-left in
    loop_idle v.0 (tests_over asked v.1 _ c.loop-left-test.false)
