-- `blocked::cut_of` meets its contract, whichever program has these tables.
use native.Mathlib.Omega.{arith}
use mathlib.Core.Path.{sym, ◌∙◌}
use Rattle.blocked.proofs.KeysSearched.{cut_by_edge, cut_by_return, not_marked}
use Rattle.blocked.proofs.cut_of.Goals as goal

pub bounds-marks-i : goal.bounds-marks-i
bounds-marks-i c = omega (arith, c.requires.2, c.requires.3)

pub returns-then-marks-i-eq0 : goal.returns-then-marks-i-eq0
returns-then-marks-i-eq0 c p t = sym (not_marked _ p _ _ c.if-marks-i-eq0.true)

pub parts_of-c-requires : goal.parts_of-c-requires
parts_of-c-requires c = (c.requires.0, c.requires.2)

pub first_barred-requires : goal.first_barred-requires
first_barred-requires c =
    let r = c.parts_of-c.ensures.in_range in
    (c.requires.4, omega (arith, r.routine, c.requires.1.routines), omega (arith, r.node, c.requires.1.nodes))

pub returns-in-Some : goal.returns-in-Some
returns-in-Some c p t =
    let on = c.if-marks-i-eq0.false in
    let first = c.in-Some.ensures in
    let told = cut_by_edge c.requires.0 t c.parts_of-c.ensures _ on first.0 first.1 in
    (sym told.0, told.1)

pub has_no_return-requires : goal.has_no_return-requires
has_no_return-requires c =
    omega (arith, c.parts_of-c.ensures.in_range.routine, c.requires.1.routines)

pub returns-then-has_no_return : goal.returns-then-has_no_return
returns-then-has_no_return c p t =
    let on = c.if-marks-i-eq0.false in
    let first = c.in_default.ensures in
    let told = cut_by_return c.requires.0 t c.parts_of-c.ensures _ on first c.has_no_return.ensures in
    (sym told.0 ∙ c.if-has_no_return.true, told.1)

pub returns-else-has_no_return : goal.returns-else-has_no_return
returns-else-has_no_return c p t =
    let on = c.if-marks-i-eq0.false in
    let first = c.in_default.ensures in
    let told = cut_by_return c.requires.0 t c.parts_of-c.ensures _ on first c.has_no_return.ensures in
    sym told.0 ∙ c.if-has_no_return.false
