-- `rows::met_by` meets its contract. The loop's invariant: `times` and `next` are what the rows before this one say.
use Rattle.std.proofs.Common.{◌≡◌, ◌≤◌, map, take}
use Rattle.rows.specs.Rows.{times_met, next_state}
use Rattle.rows.specs.Decoded.{row_of, pair_of}
use Rattle.rows.proofs.met_by.Given as goal

abbrev pub invariant-loop-key : goal.invariant-loop-key
invariant-loop-key l =
    (l.times ≤ l.key-index)
    × (l.times ≡ times_met (pair_of l.pair) (map row_of (take l.key-index l.keys)))
    × (l.next ≡ next_state (pair_of l.pair) (map row_of (take l.key-index l.keys)))
