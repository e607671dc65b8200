-- The pair that a table is refused for is the first faulty one of the file.
use mathlib.Core.Path.{◌≡◌, refl, sym, subst, ap, ◌∙◌}
use mathlib.Core.Logic.{◌≢◌, ◌⊎◌, inl, inr, ⊎_elim}
use mathlib.Core.Bool.{Bool, true, false, cond}
use mathlib.Core.List.{List, [], ◌∷◌}
use Prim.Native.Nat.{ℕ, ◌+◌, ◌≤◌, ◌<◌}
use native.Mathlib.Omega.{arith}
use native.Mathlib.Decide.{ℕ_discrete}
use native.Mathlib.Nat.{eq-or-lt_of_le}
use lib.Dec.{ltb, eqb}
use lib.ListN.{length}
use borrow.Author.Tests.{ltb-true, ltb-false, eqb-false}
use Rattle.rows.specs.Rows.{TableRow, Pair, no_pair, times_met, table_refusal, faulty_pair, table_transitions}
use Rattle.rows.proofs.FirstFaulty.{first_fits, before_first, first-met}
use Rattle.rows.proofs.TableListed.{met_once}
use Rattle.text.specs.Lines.{lines, numbers_of, line_from}
use Rattle.program.specs.Program.{Program}
use Rattle.program.specs.Chosen.{sizes_fit}
use Rattle.program.specs.Checks.{first_met}
use Rattle.program.specs.Reading.{Progress, start, Outcome, accepted, refused, judge_as, judge, after, pairs_of, with_transitions, sizes_decide, table_decides, finished, read_from, read_file, refusal}
use Rattle.program.specs.Verdicts.{Verdict}
use Rattle.program.specs.Verdicts.{Accepted, Refused}
use Rattle.program.proofs.RefusalsSmall.{judge_small}
use Rattle.desk.specs.Entries.{faulty-pair, Lent, Back, pairing, Gives}
use Rattle.demands.specs.Refusals.{line_number, table_number, Faulty, by_table, later, EarlierPair, FirstFaulty, FaultyPair, of_the_table, after_a_line, FaultyPairOf}
use Rattle.demands.specs.Demands.{PairTold}
use Rattle.demands.proofs.FileRefusalsTold.{SaysFile, table_told, file_told, faulty_once}

-- ---- the pair that the definitions give is the first faulty one

table_first : (rs : List TableRow) (p : Program) → table_refusal rs (pairs_of p) ≢ 0
    → FirstFaulty rs p.automaton.states p.automaton.actions (table_refusal rs (pairs_of p)) (faulty_pair rs (pairs_of p))
table_first rs p h =
    let q = p.automaton.states in
    let k = p.automaton.actions in
    record {
      state = (first_fits rs q k h).0;
      action = (first_fits rs q k h).1;
      faulty = first-met rs q k h;
      earlier = λ y i j l. before_first rs q k h y j l;
    }

-- ---- there is one first faulty pair at most

compared : (n m : ℕ) → (n < m) ⊎ ((m < n) ⊎ (n ≡ m))
compared n m = go (ltb n m) refl
  where
    go : (t : Bool) → ltb n m ≡ t → (n < m) ⊎ ((m < n) ⊎ (n ≡ m))
    go true e = inl (ltb-true n m e)
    go false e = inr (⊎_elim (λ h. inr (sym h)) (λ h. inl h) (eq-or-lt_of_le (ltb-false n m e)))

pairs_compared : (x y : Pair) → EarlierPair x y ⊎ (EarlierPair y x ⊎ (x ≡ y))
pairs_compared x y =
    ⊎_elim (λ h. inl (inl h)) (⊎_elim (λ h. inr (inl (inl h))) (λ e. ⊎_elim (λ h. inl (inr (e, h))) (⊎_elim (λ h. inr (inl (inr (sym e, h)))) (λ f. inr (inr (same e f)))) (compared x.action y.action)))
    (compared x.state y.state)
  where
    same : x.state ≡ y.state → x.action ≡ y.action → x ≡ y
    same e f = λ i. record { state = e i; action = f i }

module _ {rs : List TableRow} {states actions n : ℕ} {x : Pair} (f : FirstFaulty rs states actions n x) where
  not_once : times_met x rs ≢ 1
  not_once e = ⊎_elim (λ h. absurd (omega (arith, h.1))) (λ h. absurd (omega (arith, h.1))) f.faulty

  table-number : (n ≡ 19) ⊎ (n ≡ 20)
  table-number = ⊎_elim (λ h. inl h.0) (λ h. inr h.0) f.faulty

  -- a faulty pair has one number
  number_once : {m : ℕ} → FirstFaulty rs states actions m x → n ≡ m
  number_once g =
      ⊎_elim (λ h. ⊎_elim (λ k. h.0 ∙ sym k.0) (λ k. absurd (omega (arith, h.1, k.1))) g.faulty)
      (λ h. ⊎_elim (λ k. absurd (omega (arith, h.1, k.1))) (λ k. h.0 ∙ sym k.0) g.faulty) f.faulty

first_once : {rs : List TableRow} {states actions n m : ℕ} {x y : Pair} → FirstFaulty rs states actions n x → FirstFaulty rs states actions m y → (n ≡ m) × (x ≡ y)
first_once {rs} {states} {actions} {n} {m} {x} {y} f g =
    ⊎_elim (λ l. absurd (not_once f (g.earlier x f.state f.action l)))
    (⊎_elim (λ l. absurd (not_once g (f.earlier y g.state g.action l))) (λ e. (number_once f (subst (FirstFaulty rs states actions m) (sym e) g), e)))
    (pairs_compared x y)

pair_once : {s : Progress} {ls : List (List ℕ)} {n m : ℕ} {x y : Pair} → FaultyPair s ls n x → FaultyPair s ls m y → (n ≡ m) × (x ≡ y)
pair_once (of_the_table e r f) (of_the_table h t g) = first_once f g
pair_once (after_a_line e z f) (after_a_line h y g) = pair_once f g

of_table : {s : Progress} {ls : List (List ℕ)} {n : ℕ} {x : Pair} → FaultyPair s ls n x → (n ≡ 19) ⊎ (n ≡ 20)
of_table (of_the_table e r f) = table-number f
of_table (after_a_line e z f) = of_table f

-- ---- and it refuses the file

-- a table with a first faulty pair is refused by the pair's number
table_is : (rs : List TableRow) (p : Program) {n : ℕ} {x : Pair} → FirstFaulty rs p.automaton.states p.automaton.actions n x → table_refusal rs (pairs_of p) ≡ n
table_is rs p {n} {x} f =
    elim (ℕ_discrete (table_refusal rs (pairs_of p)) 0) [
      | yes z ↦ absurd (not_once f (met_once rs p.automaton.states p.automaton.actions z x.state x.action f.state f.action))
      | no h ↦ (first_once (table_first rs p h) f).0
    ]

-- and its file, at no line
is_faulty : {s : Progress} {ls : List (List ℕ)} {n : ℕ} {x : Pair} → FaultyPair s ls n x → Faulty s ls n 0
is_faulty {s} (of_the_table {n = n} e r f) =
    let told : table_number s ≡ n = table_told s.rows (pairs_of s.program) ∙ table_is s.rows s.program f in
    subst (λ m. Faulty s [] m 0) told (by_table e r (λ z. ⊎_elim (λ h. omega (arith, told, z, h)) (λ h. omega (arith, told, z, h)) (table-number f)))
is_faulty (after_a_line e z f) = later e z (is_faulty f)

-- ---- what an outcome says of a pair: the first faulty one, or none, with a number that is not a table's

abbrev NoPair : Outcome → Type 0
NoPair o = (refusal o.verdict ≢ 19) × (refusal o.verdict ≢ 20) × (o.pair ≡ no_pair)

abbrev SaysPair : Progress → List (List ℕ) → Outcome → Type 0
SaysPair s ls o = FaultyPair s ls (refusal o.verdict) o.pair ⊎ NoPair o

by_sizes : (p : Program) → NoPair (sizes_decide p)
by_sizes p = go (sizes_fit p)
  where
    go : (t : Bool) → NoPair (cond t (accepted p) (refused 23 0))
    go true = (λ z. omega arith, λ z. omega arith, refl)
    go false = (λ z. omega arith, λ z. omega arith, refl)

at_end : (s : Progress) → s.ended ≡ true → (rs : List TableRow) → s.rows ≡ rs → SaysPair s [] (finished rs s.program)
at_end s e [] h = inr (by_sizes s.program)
at_end s e (r ∷ rs) h = go (eqb n 0) refl
  where
    p : Program
    p = s.program

    n : ℕ
    n = table_refusal (r ∷ rs) (pairs_of p)

    some : s.rows ≢ []
    some z = absurd (let y = ap length (sym h ∙ z) in omega arith)

    go : (t : Bool) → eqb n 0 ≡ t → SaysPair s [] (table_decides t n (r ∷ rs) p)
    go true x = inr (by_sizes (with_transitions p (table_transitions (r ∷ rs) (pairs_of p))))
    go false x =
        inl (of_the_table e some (subst (λ (t : List TableRow). FirstFaulty t p.automaton.states p.automaton.actions n (faulty_pair (r ∷ rs) (pairs_of p))) (sym h) (table_first (r ∷ rs) p (eqb-false n 0 x))))

-- a line is refused by none of a table's numbers
by_line : (n line : ℕ) → n ≤ 8 → NoPair (refused n line)
by_line n line h = (λ z. omega arith, λ z. omega arith, refl)

pair_said : (ls : List (List ℕ)) (s : Progress) → SaysPair s ls (read_from s ls)
unfolding read_from judge judge_as first_met
pair_said [] s = go s.ended refl
  where
    go : (t : Bool) → s.ended ≡ t → SaysPair s [] (cond t (finished s.rows s.program) (refused 8 (s.frames + 1)))
    go true e = at_end s e s.rows refl
    go false e = inr (by_line 8 (s.frames + 1) (omega arith))
pair_said (l ∷ ls) s = go s.ended refl (pair_said ls (after s (line_from (numbers_of l)))) (judge_small s (line_from (numbers_of l)))
  where
    rest : Outcome
    rest = read_from (after s (line_from (numbers_of l))) ls

    go : (t : Bool) → s.ended ≡ t → SaysPair (after s (line_from (numbers_of l))) ls rest → line_number s l ≤ 7
        → SaysPair s (l ∷ ls) (cond t (refused 8 (s.frames + 1)) (cond (ltb 0 (line_number s l)) (refused (line_number s l) (s.frames + 1)) rest))
    go true e r k = inr (by_line 8 (s.frames + 1) (omega arith))
    go false e r k = by_fault (ltb 0 (line_number s l)) refl
      where
        by_fault : (t : Bool) → ltb 0 (line_number s l) ≡ t → SaysPair s (l ∷ ls) (cond t (refused (line_number s l) (s.frames + 1)) rest)
        by_fault true h = inr (by_line (line_number s l) (s.frames + 1) (omega arith))
        by_fault false h = ⊎_elim (λ f. inl (after_a_line e (let x = ltb-false 0 (line_number s l) h in omega arith) f)) (λ f. inr f) r

-- ---- the function that tells it

module _ (b : Lent) where
  file_said : SaysPair start (lines b.file) (read_file b.file)
  unfolding read_file
  file_said = pair_said (lines b.file) start

  -- a faulty pair's number is the file's
  number_is : {n : ℕ} {x : Pair} → FaultyPairOf b.file n x → n ≡ refusal (read_file b.file).verdict
  number_is {n} f = go (read_file b.file).verdict (file_told b.file)
    where
      go : (v : Verdict) → SaysFile b.file v → n ≡ refusal v
      go Accepted t = absurd (t n 0 (is_faulty f))
      go (Refused m line) t = (faulty_once (is_faulty f) t).0

  pub pair_told : (a : Back) → Gives faulty-pair b a → PairTold b a
  pair_told a g =
      let o = read_file b.file in
      let e : a.refusal ≡ refusal o.verdict = ap (λ (x : Back). x.refusal) g in
      let p : a.values.pair ≡ o.pair = ap (λ (x : Back). x.values.pair) g in
      record {
        as_read = λ c h. (e ∙ sym (ap (λ (x : Back). x.refusal) h), ap (λ (x : Back). x.line) g ∙ sym (ap (λ (x : Back). x.line) h));
        first = λ t. rw (e, p) (first (rw e at t));
        no_other = λ n x f. (number_is f ∙ sym e, other f ∙ sym p);
        no-pair = λ h k. p ∙ none (λ z. h (e ∙ z)) (λ z. k (e ∙ z));
        only_pair = ap (λ (x : Back). x.values) g ∙ ap pairing (sym p);
      }
    where
      first : (refusal (read_file b.file).verdict ≡ 19) ⊎ (refusal (read_file b.file).verdict ≡ 20)
          → FaultyPairOf b.file (refusal (read_file b.file).verdict) (read_file b.file).pair
      first t = ⊎_elim (λ f. f) (λ f. absurd (⊎_elim f.0 f.1 t)) file_said

      none : refusal (read_file b.file).verdict ≢ 19 → refusal (read_file b.file).verdict ≢ 20 → (read_file b.file).pair ≡ no_pair
      none h k = ⊎_elim (λ f. absurd (⊎_elim h k (of_table f))) (λ f. f.2) file_said

      other : {n : ℕ} {x : Pair} → FaultyPairOf b.file n x → x ≡ (read_file b.file).pair
      other f = (pair_once f (first (subst (λ m. (m ≡ 19) ⊎ (m ≡ 20)) (number_is f) (of_table f)))).1
