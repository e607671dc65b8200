use native.Mathlib.Omega.{arith}
use Rattle.listing.proofs.ListingPut.{none_listed, room_here, one_listed, all_listed}
use Rattle.listing.proofs.put_listing.Goals as goal

pub put_listed-at-requires : goal.put_listed-at-requires
put_listed-at-requires c =
    let room = room_here c.loop-i.invariant (omega arith) c.requires.4 in
    (c.requires.0, c.requires.1, omega arith, c.requires.2, c.requires.3, room)

pub loop-i-preserved : goal.loop-i-preserved
loop-i-preserved c =
    one_listed c.loop-i.invariant (omega arith) c.put_listed-at.ensures

pub loop-i-init : goal.loop-i-init
loop-i-init c = none_listed _ _ _ _ _

pub returns : goal.returns
returns c = all_listed c.loop-i.invariant c.loop-i-test.false
