-- What is asked of the keys in use: whether a key is one of them.
use mathlib.Core.Path.{refl}
use Prim.Native.Nat.{ℕ}
use lib.Dec.{eqb}
use Rattle.base.proofs.EntriesInUse.{Asks}
use Rattle.tables.specs.Keys.{member}

pub asks_member : (q : ℕ) → Asks (member q) (λ s. eqb s q)
unfolding member
asks_member q = record { empty = refl; first = λ x xs. refl }
