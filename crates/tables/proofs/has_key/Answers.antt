-- `tables::has_key` meets its contract: the own membership is that of std.
use Rattle.std.proofs.Common.{rules, ◌≡◌, ℕ, List, ◌||◌, refl}
use Rattle.std.specs.List.{list_any}
use Rattle.std.proofs.lemmas.List.Recursion.{same_from_clauses}
use lib.Dec.{eqb}
use Rattle.tables.specs.Keys.{member}
use Rattle.tables.proofs.has_key.Goals as goal

member_any : (key : ℕ) (keys : List ℕ) → member key keys ≡ list_any (λ y. eqb y key) keys
unfolding member
member_any key =
    same_from_clauses (member key) (list_any (λ y. eqb y key)) (λ y b. eqb y key || b) refl (λ _ _. refl) (λ _ _. refl)

pub returns : goal.returns
returns c = rw member_any (search rules)
