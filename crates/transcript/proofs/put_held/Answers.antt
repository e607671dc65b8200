-- `transcript::put_held` meets its contract.
use mathlib.Core.Path.{◌≡◌}
use lib.ListN.{length}
use borrow.Author.Rules.{rules}
use Rattle.transcript.proofs.put_held.Goals as goal

pub returns : goal.returns
returns c =
    let n : length c.args.out.now ≡ 180235 = search rules in
    rw (n, c.within-used.ensures.front, c.within-size.ensures.front) at c.block.ensures
