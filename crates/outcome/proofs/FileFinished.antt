-- The end of a file whose lines are all good, by what its table says.
use Prim.Native.Nat.{ℕ, ◌<◌}
use mathlib.Core.Path.{◌≡◌, refl}
use mathlib.Core.List.{List, [], ◌∷◌}
use native.Mathlib.Omega.{arith}
use lib.ListN.{length}
use borrow.Author.Tests.{ne_eqb}
use Rattle.automaton.specs.Automaton.{Transition}
use Rattle.rows.specs.Rows.{TableRow, Pair, table_refusal, faulty_pair, table_transitions}
use Rattle.program.specs.Program.{Program}
use Rattle.program.specs.Reading.{sizes_decide, refused_for, pairs_of, with_transitions, finished}

pub without_rows : (rs : List TableRow) (p : Program) → length rs ≡ 0 → sizes_decide p ≡ finished rs p
without_rows [] p h = refl
without_rows (r ∷ rs) p h = absurd (omega arith)

pub table_refused : (rs : List TableRow) (p : Program) {n : ℕ} {x : Pair} → (length rs ≡ 0 → ⊥) → n ≡ table_refusal rs (pairs_of p) → x ≡ faulty_pair rs (pairs_of p) → 0 < n
    → refused_for n x ≡ finished rs p
table_refused [] p h e f k = absurd (h refl)
table_refused (r ∷ rs) p {n} h e f k = rw (← e, ← f, ne_eqb n 0 (λ z. omega arith))

pub table_accepted : (rs : List TableRow) (p : Program) {ts : List Transition} → (length rs ≡ 0 → ⊥) → table_refusal rs (pairs_of p) ≡ 0
    → ts ≡ table_transitions rs (pairs_of p) → sizes_decide (with_transitions p ts) ≡ finished rs p
table_accepted [] p h e k = absurd (h refl)
table_accepted (r ∷ rs) p h e k = rw (e, k)
