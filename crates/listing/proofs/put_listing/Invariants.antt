-- `listing::put_listing` meets its contract. The loop's invariant: what is listed below `i` was put.
use Rattle.listing.proofs.ListingPut.{Listed}
use Rattle.listing.proofs.put_listing.Given as goal

abbrev pub invariant-loop-i : goal.invariant-loop-i
invariant-loop-i l = Listed l.kind l.z l.states l.marks l.initial.out l.out l.at l.i
