-- `base::flags::count_set` meets its contract: the own count is that of std.
use Rattle.std.proofs.Common.{rules, ◌≡◌, ℕ, ◌+◌, Bool, true, false, not, cond, List, refl, arith}
use Rattle.std.specs.List.{count_by}
use Rattle.std.proofs.lemmas.List.Recursion.{is_count_by}
use lib.Dec.{eqb}
use Rattle.base.specs.Flags.{count_set}
use Rattle.base.proofs.flags.count_set.Goals as goal

counted : (flags : List ℕ) → count_set flags ≡ count_by (λ b. not (eqb b 0)) flags
unfolding count_set
counted = is_count_by count_set (λ b. not (eqb b 0)) refl (λ b bs. one (eqb b 0) (count_set bs))
  where
    one : (e : Bool) (n : ℕ) → cond e 0 1 + n ≡ cond (not e) (1 + n) n
    one true n = omega arith
    one false n = refl

pub returns : goal.returns
returns c = rw (counted c.args.flags.now) (search rules)
