use mathlib.Core.Path.{sym}
use native.Mathlib.Omega.{arith}
use Rattle.index.proofs.EdgesIndexed.{indexing_none, indexing_more, indexing_all}
use Rattle.index.proofs.index_of.Goals as goal

pub loop-i-init : goal.loop-i-init
loop-i-init c = indexing_none c.args.keys.now c.requires

pub slice_bounds-link_key-end : goal.slice_bounds-link_key-end
slice_bounds-link_key-end c = sym c.loop-i.invariant.size

pub link_key-requires : goal.link_key-requires
link_key-requires c =
    let w = c.loop-i.invariant in
    (w.size, omega (arith, w.few, w.fits))

pub loop-i-preserved : goal.loop-i-preserved
loop-i-preserved c =
    rw c.link_key.ensures (indexing_more c.loop-i.invariant (omega arith))

pub returns : goal.returns
returns c = indexing_all c.loop-i.invariant (omega arith)
