use Rattle.std.proofs.Common.{◌≡◌, ◌≤◌, ◌+◌, ◌∷◌, [], ◌++◌, ℕ, Bool, true, false, List, map, take, get_or, refl, ap, ◌∙◌, arith, cond}
use Rattle.std.proofs.lemmas.List.{take_more}
use mathlib.Core.List.{map-append}
use Rattle.rows.specs.Rows.{TableRow, times_met, next_state}
use Rattle.rows.specs.Decoded.{row_of, pair_of}
use Rattle.rows.proofs.RowsInTurn.{times_more, next_more}
use Rattle.rows.proofs.met_by.Goals as goal
use Rattle.rows.proofs.met_by.Goals.{After-from-times}

pub loop-key-init : goal.loop-key-init
unfolding times_met next_state
loop-key-init c = (omega arith, refl, refl)

-- a test as a number
one_if : (b : Bool) → mir.Val.bool_byte b ≡ cond b 1 0
one_if true = refl
one_if false = refl

one_at_most : (b : Bool) → cond b 1 0 ≤ 1
one_at_most true = omega arith
one_at_most false = omega arith

module _ (c : After-from-times) where
  abbrev before : List TableRow
  before = map row_of (take c.loop-key.key-index c.args.keys.now)

  abbrev key : ℕ
  key = get_or c.args.keys.now c.loop-key.key-index 0

  rows_more : map row_of (take (c.loop-key.key-index + 1) c.args.keys.now) ≡ before ++ row_of key ∷ []
  rows_more = ap (map row_of) (take_more _ _ 0 c.loop-key-test.true) ∙ map-append row_of (take c.loop-key.key-index c.args.keys.now) (key ∷ [])

  -- the row counts where it meets the pair
  counted : c.from-times.result ≡ cond c.meets_pair-meets.result 1 0
  counted = c.from-times.ensures ∙ one_if c.meets_pair-meets.result

pub loop-key-preserved : goal.loop-key-preserved
loop-key-preserved c =
    let p = pair_of c.args.pair in
    let m = c.meets_pair-meets.ensures in
    let i = c.loop-key.invariant in (
      omega (arith, i.0, counted c, one_at_most c.meets_pair-meets.result),
      rw (rows_more c, times_more p (before c) (row_of (key c)), counted c, m, i.1) refl,
      rw (rows_more c, next_more p (before c) (row_of (key c)), c.choose-next.ensures, m, ← i.1, ← i.2) refl,
    )
