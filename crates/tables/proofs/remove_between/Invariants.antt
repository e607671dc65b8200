-- `tables::remove_between` meets its contract. The loop's invariant: what is kept and what is to come are the whole.
use Rattle.tables.proofs.TableChanged.{Keeping}
use Rattle.tables.proofs.remove_between.Given as goal

abbrev pub invariant-loop-i : goal.invariant-loop-i
invariant-loop-i l = Keeping l.low l.high l.count l.initial.keys l.keys l.used l.kept l.i
