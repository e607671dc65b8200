-- `tables::remove_key` meets its contract.
use Rattle.tables.proofs.TableChanged.{without_next}
use Rattle.tables.proofs.remove_key.Goals as goal

pub returns : goal.returns
returns c = rw (without_next, c.from-key.ensures) at c.remove_between.ensures
