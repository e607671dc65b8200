-- `rows::table_of` meets its contract. The loop's invariant: the pairs before the `i`-th have their transitions, and the
-- others decide.
use Rattle.std.proofs.Common.{◌≡◌, map, take}
use Rattle.rows.specs.Decoded.{row_of}
use Rattle.rows.proofs.TableLoop.{Tabling}
use Rattle.rows.proofs.table_of.Given as goal

abbrev pub invariant-loop-i : goal.invariant-loop-i
invariant-loop-i l = Tabling (map row_of (take l.used l.row_keys)) l.states l.actions l.keys l.i × (l.count ≡ l.i)
