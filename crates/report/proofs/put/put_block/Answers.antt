-- `report::put::put_block` meets its contract: the counts come after the violations.
use mathlib.Core.Path.{◌≡◌, ap}
use Prim.Native.Nat.{◌*◌, ◌≤◌}
use native.Mathlib.Omega.{arith}
use lib.ListN.{length}
use borrow.Author.Rules.{rules}
use Rattle.text.specs.declared.Line.{Line}
use Rattle.automaton.specs.Sizes.{max_states}
use Rattle.program.specs.Sizes.{marks_most}
use Rattle.program.specs.Writing.{text}
use Rattle.program.specs.Decoded.{program_of}
use Rattle.reach.proofs.MarksShown.{count_small}
use Rattle.writer.proofs.FramesPut.{put_one, same_long}
use Rattle.listing.specs.Listing.{listing, line_size}
use Rattle.report.specs.Report.{count_frame}
use Rattle.report.proofs.Theorems.{violations_limited}
use Rattle.report.proofs.BlocksPut.{listed_violations, violations_short, block_put}
use Rattle.report.proofs.put.put_block.Goals as goal
use Rattle.report.proofs.put.put_block.Goals.{After-count_violations-violations}

pub count_line-l-requires : goal.count_line-l-requires
count_line-l-requires c =
    let p = program_of c.args.p in
    let m = c.count_set-configurations.ensures in
    let f = c.count_violations-violations.ensures p c.rejecting_flags-rejecting.ensures in
    let few = count_small c.args.marks.now in
    let fewer = violations_limited c.args.z c.requires.0 p c.args.marks.now in
    (omega (arith, m, f, few, fewer, c.requires.2, c.requires.1.product), omega (arith, m, f, few, fewer, c.requires.2, c.requires.1.product))

-- after the violations there is room for the counts
short : (v : After-count_violations-violations) → length (text (listing 0x58 v.args.z v.rejecting_flags-rejecting.result.flags v.args.marks.now)) ≤ line_size * marks_most
short v =
    violations_short v.requires.0 v.requires.1 (program_of v.args.p) v.rejecting_flags-rejecting.ensures v.args.marks.now v.requires.2

flags_long : (v : After-count_violations-violations) → length v.rejecting_flags-rejecting.result.flags ≡ max_states
flags_long v = search rules

pub put_listing-at-requires : goal.put_listing-at-requires
put_listing-at-requires c =
    (c.requires.0, c.requires.1, c.requires.2, flags_long (goal.at.put_listing-at-requires c).After-count_violations-violations, omega (arith, short (goal.at.put_listing-at-requires c).After-count_violations-violations, c.requires.3))

pub put_line-requires : goal.put_line-requires
put_line-requires c =
    let n : c.count_line-l.result.count ≡ 5 = ap (λ (l : Line). l.count) c.count_line-l.ensures in
    let put = c.put_listing-at.ensures in
    omega (arith, put.past, same_long put, short (goal.at.put_line-requires c).After-count_violations-violations, c.requires.3)

pub returns : goal.returns
returns c =
    let p = program_of c.args.p in
    let marks = c.args.marks.now in
    let rejects = c.rejecting_flags-rejecting.ensures in
    block_put c.args.z c.requires.0 c.requires.1 p marks c.requires.2 c.requires.3 c.count_set-configurations.ensures (c.count_violations-violations.ensures p rejects)
    (rw (listed_violations c.requires.0 c.requires.1 p rejects marks 0) at c.put_listing-at.ensures)
    (put_one c.count_line-l.result (count_frame c.count_set-configurations.result c.count_violations-violations.result) c.count_line-l.ensures (omega arith)
    (c.put_line.ensures.value, c.put_line.ensures.out_after))
