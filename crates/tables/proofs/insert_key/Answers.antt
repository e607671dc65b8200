-- `tables::insert_key` meets its contract: the keys from the first that is above it move up by one place.
use Rattle.tables.proofs.TableChanged.{key_put}
use Rattle.tables.proofs.insert_key.Goals as goal

pub returns : goal.returns
returns c = rw c.copy_within.ensures.after (key_put _ _ _ _ c.requires (rw c.from.ensures at c.first_from-at.ensures))
