-- `listing::put_listed` meets its contract.
use mathlib.Core.Path.{◌≡◌, ap}
use mathlib.Core.Bool.{Bool, true, false}
use native.Mathlib.Omega.{arith}
use lib.ListN.{get_or}
use Rattle.std.proofs.lemmas.Bool.Decides.{nat_tests}
use Rattle.text.specs.declared.Line.{Line}
use Rattle.writer.proofs.FramesPut.{put_one, put_none, long_one}
use Rattle.listing.specs.Listing.{frame_at, is_listed}
use Rattle.listing.proofs.put_listed.Goals as goal
use Rattle.listing.proofs.put_listed.Goals.{After-frame_line, Start}

-- whether it is listed
abbrev asked : Start → Bool
asked z = is_listed z.args.z z.args.states.now (get_or z.args.marks.now z.args.i 0) z.args.i

listed : (l : After-frame_line) → asked (goal.at.After-frame_line l).Start ≡ true
listed l = grind (arith, nat_tests)

pub put_line-requires : goal.put_line-requires
put_line-requires c =
    let n : c.frame_line.result.count ≡ 5 = ap (λ (x : Line). x.count) c.frame_line.ensures in
    let room = rw (listed (goal.at.put_line-requires c).After-frame_line) at c.requires.5 in
    (omega arith, omega (arith, long_one (frame_at c.args.kind c.args.z c.args.i)))

pub returns-then-is_listed : goal.returns-then-is_listed
returns-then-is_listed c =
    let w = c.put_line.ensures in
    rw (listed (goal.at.returns-then-is_listed c).After-frame_line)
    (put_one c.frame_line.result _ c.frame_line.ensures (omega arith) (w.value, w.out_after))

pub returns-else-is_listed : goal.returns-else-is_listed
returns-else-is_listed c =
    let e : asked (goal.at.returns-else-is_listed c).Start ≡ false = grind (arith, nat_tests) in
    rw e put_none
