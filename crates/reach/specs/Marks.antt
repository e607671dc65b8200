-- The fresh marks of a program (paper: the sheet), the counts and the violations (paper: findings).
use Rattle.std.specs.Prelude.{ℕ, ◌+◌, ◌≤◌, ◌<◌, ◌≡◌, ◌↔◌, ◌≢◌, Bool, true, false, cond, ◌&&◌, not, List, [], ◌∷◌, eqb, leb, ltb, length, get_or}
use Rattle.std.proofs.Math.Option.{Option, none, some}
use Rattle.program.specs.declared.sizes.Sizes.{Sizes}
use Rattle.program.specs.Chosen.{sizes_of, numbers}
use Rattle.automaton.specs.Automaton.{is_rejecting}
use Rattle.program.specs.Program.{Program}
use Rattle.reach.specs.Configurations.{Set, InRange, number, state_of}
use Rattle.reach.specs.Reachable.{ClosedAt}
use Rattle.reach.specs.Worklist.{analysis_at}

-- ---- sets of configurations as bytes

-- the configurations whose bytes are set: any byte other than 0 is a mark
abbrev pub Marked : Sizes → List ℕ → Set
Marked Z l f n r q = InRange Z f n r q × (get_or l (number Z f n r q) 0 ≢ 0)

-- l has a byte for each number, a 1 at the numbers of the configurations of S, and 0 elsewhere
pub record Shows (Z : Sizes) (S : Set) (l : List ℕ) : Type 0 where
  pub len : length l ≡ numbers Z
  pub bit : (i : ℕ) → get_or l i 0 ≤ 1
  pub shown : {f n r q : ℕ} → InRange Z f n r q → (get_or l (number Z f n r q) 0 ≡ 1) ↔ S f n r q

-- a number from low up to high
abbrev pub Between : ℕ → ℕ → ℕ → Type 0
Between low high i = (low ≤ i) × (i < high)

-- marks in states of the automaton, closed but for the numbers from low up to high: what follows at once from a marked
-- configuration of any other number is marked
pub record ClosedBut (Z : Sizes) (p : Program) (low high : ℕ) (marks : List ℕ) : Type 0 where
  pub marks-length : length marks ≡ numbers Z
  pub marks_bits : (i : ℕ) → get_or marks i 0 ≤ 1
  pub states : {f n r q : ℕ} → Marked Z marks f n r q → q < p.automaton.states
  pub closed : {f n r q : ℕ} → Marked Z marks f n r q → ¬ (Between low high (number Z f n r q))
      → ClosedAt p (Marked Z marks) f n r q

-- ---- the fresh marks

-- in these sizes
abbrev pub fresh_at : Sizes → Program → List ℕ
fresh_at Z p = (analysis_at Z p).marks

-- in a program's own
abbrev pub fresh_marks : Program → List ℕ
fresh_marks p = fresh_at (sizes_of p) p

-- a marked configuration whose present state is rejecting
abbrev pub violates : Sizes → Program → ℕ → ℕ → Bool
violates Z p b i = not (eqb b 0) && is_rejecting p.automaton (state_of Z i)

abbrev pub front_when : Bool → ℕ → List ℕ → List ℕ
front_when true i is = i ∷ is
front_when false i is = is

-- the numbers of the violations, ascending, from i on
unfoldable pub violations_from : Sizes → Program → List ℕ → ℕ → List ℕ
violations_from Z p [] i = []
violations_from Z p (b ∷ bs) i = front_when (violates Z p b i) i (violations_from Z p bs (i + 1))

abbrev pub violations : Program → List ℕ
violations p = violations_from (sizes_of p) p (fresh_marks p) 0

-- the first of some ascending numbers that is not below this one
unfoldable pub first_from : ℕ → List ℕ → Option ℕ
first_from low [] = none
first_from low (v ∷ vs) = cond (leb low v) (some v) (first_from low vs)

-- a search's result: a number past the end says that nothing was found
abbrev pub within : ℕ → ℕ → Option ℕ
within size r = cond (ltb r size) (some r) none
