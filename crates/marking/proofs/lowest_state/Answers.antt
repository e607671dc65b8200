-- `marking::lowest_state` meets its contract.
use native.Mathlib.Omega.{arith}
use borrow.Author.Tests.{eq-eqb}
use Rattle.words.proofs.FirstFlagFound.{trailing_below, trailing_set, trailing_lt}
use Rattle.marking.proofs.lowest_state.Goals as goal

pub returns : goal.returns
returns c =
    let set = c.args.set in
    record {
      below = λ x h. rw (trailing_below 64 set x h);
      found = λ z. let l = trailing_lt 64 set (omega arith) z in (eq-eqb _ _ (trailing_set 64 set l), l);
    }
