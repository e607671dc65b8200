-- The refusals of a file are those of the table.
use mathlib.Core.Path.{◌≡◌, refl, sym, subst, ap, ◌∙◌}
use mathlib.Core.Logic.{◌≢◌}
use mathlib.Core.Bool.{Bool, true, false, cond}
use mathlib.Core.List.{List, [], ◌∷◌}
use Prim.Native.Nat.{ℕ, zero, suc, ◌+◌}
use native.Mathlib.Omega.{arith}
use lib.Dec.{ltb, eqb}
use lib.ListN.{length}
use borrow.Author.Tests.{ltb-true, ltb-false, eqb-true, eqb-false, lt-ltb, ne_eqb}
use Rattle.rows.specs.Rows.{TableRow, Pair, times_met, pair_refusal, table_refusal, table_transitions}
use Rattle.text.specs.Lines.{lines, numbers_of, line_from}
use Rattle.program.specs.Reading.{Progress, start, refused, judge_as, judge, after, pairs_of, with_transitions, accepted, sizes_decide, table_decides, finished, read_from, read_file}
use Rattle.program.specs.Chosen.{sizes_fit}
use Rattle.program.specs.Program.{Program}
use Rattle.program.specs.Checks.{first_met}
use Rattle.program.specs.Verdicts.{Verdict}
use Rattle.program.specs.Verdicts.{Accepted, Refused}
use Rattle.demands.specs.Refusals.{line_number, table_rows, table_number, Faulty, unended, by_table, by_sizes, after_end, here, later}

-- what a verdict says: this refusal, or none
abbrev pub Says : Progress → List (List ℕ) → Verdict → Type 0
Says s ls Accepted = (n line : ℕ) → ¬ (Faulty s ls n line)
Says s ls (Refused n line) = Faulty s ls n line

both : {A : Type 0} {t : Bool} → t ≡ true → t ≡ false → A
both e h = absurd (subst (λ t. cond t ⊥ Unit) (sym h ∙ e) tt)

not_none : (n : ℕ) → ltb 0 n ≡ true → n ≢ 0
not_none n h z = let x = ltb-true 0 n h in absurd (omega arith)

-- ---- lines that refuse nothing

ended_good : {s : Progress} {n line : ℕ} → s.ended ≡ true → (s.rows ≢ [] → table_number s ≡ 0) → sizes_fit s.program ≡ true → ¬ (Faulty s [] n line)
ended_good e t z (unended h) = both e h
ended_good e t z (by_table h r x) = x (t r)
ended_good e t z (by_sizes h r x) = both z x

line_good : {s : Progress} {l : List ℕ} {ls : List (List ℕ)} {n line : ℕ} → s.ended ≡ false → line_number s l ≡ 0
    → ¬ (Faulty (after s (line_from (numbers_of l))) ls n line) → ¬ (Faulty s (l ∷ ls) n line)
line_good e z r (after_end h) = both h e
line_good e z r (here h x) = x z
line_good e z r (later h y f) = r f

-- ---- the table

pair_told : (n rest : ℕ) → cond (eqb n 0) 19 (cond (ltb 1 n) 20 rest) ≡ cond (eqb (pair_refusal n) 0) rest (pair_refusal n)
pair_told zero rest = refl
pair_told (suc zero) rest = refl
pair_told (suc (suc n)) rest = rw (ne_eqb (suc (suc n)) 0 (λ z. omega arith), lt-ltb 1 (suc (suc n)) (omega arith))

pub table_told : (rs : List TableRow) (ps : List Pair) → first_met (table_rows rs ps) ≡ table_refusal rs ps
unfolding first_met table_refusal
table_told rs [] = refl
table_told rs (p ∷ ps) = rw (table_told rs ps) (pair_told (times_met p rs) (table_refusal rs ps))

-- the sizes, where the table refuses nothing; the transitions do not matter for them
sizes_told : (s : Progress) (p : Program) → s.ended ≡ true → (s.rows ≢ [] → table_number s ≡ 0) → sizes_fit p ≡ sizes_fit s.program
    → Says s [] (sizes_decide p).verdict
sizes_told s p e t same = go (sizes_fit p) refl
  where
    go : (u : Bool) → sizes_fit p ≡ u → Says s [] (cond u (accepted p) (refused 23 0)).verdict
    go true x = λ n line. ended_good e t (sym same ∙ x)
    go false x = by_sizes e t (sym same ∙ x)

at_end : (s : Progress) → s.ended ≡ true → (rs : List TableRow) → s.rows ≡ rs → Says s [] (finished rs s.program).verdict
at_end s e [] h = sizes_told s s.program e (λ x. absurd (x h)) refl
at_end s e (r ∷ rs) h = go (eqb (table_refusal (r ∷ rs) (pairs_of s.program)) 0) refl
  where
    told_here : table_number s ≡ table_refusal (r ∷ rs) (pairs_of s.program)
    told_here = table_told s.rows (pairs_of s.program) ∙ ap (λ (t : List TableRow). table_refusal t (pairs_of s.program)) h

    some : s.rows ≢ []
    some z = absurd (let y = ap length (sym h ∙ z) in omega arith)

    go : (t : Bool) → eqb (table_refusal (r ∷ rs) (pairs_of s.program)) 0 ≡ t
        → Says s [] (table_decides t (table_refusal (r ∷ rs) (pairs_of s.program)) (r ∷ rs) s.program).verdict
    go true x =
        sizes_told s (with_transitions s.program (table_transitions (r ∷ rs) (pairs_of s.program))) e (λ y. told_here ∙ eqb-true _ 0 x) refl
    go false x = subst (λ n. Faulty s [] n 0) told_here (by_table e some (λ z. eqb-false _ 0 x (sym told_here ∙ z)))

-- ---- line after line

pub told : (ls : List (List ℕ)) (s : Progress) → Says s ls (read_from s ls).verdict
unfolding read_from judge judge_as first_met
told [] s = go s.ended refl
  where
    go : (t : Bool) → s.ended ≡ t → Says s [] (cond t (finished s.rows s.program) (refused 8 (s.frames + 1))).verdict
    go true e = at_end s e s.rows refl
    go false e = unended e
told (l ∷ ls) s = go s.ended refl (told ls (after s (line_from (numbers_of l))))
  where
    good : s.ended ≡ false → line_number s l ≡ 0 → (v : Verdict) → Says (after s (line_from (numbers_of l))) ls v → Says s (l ∷ ls) v
    good e z Accepted r = λ n line. line_good e z (r n line)
    good e z (Refused n line) r = later e z r

    go : (t : Bool) → s.ended ≡ t → Says (after s (line_from (numbers_of l))) ls (read_from (after s (line_from (numbers_of l))) ls).verdict
        → Says s (l ∷ ls) (cond t (refused 8 (s.frames + 1)) (cond (ltb 0 (line_number s l)) (refused (line_number s l) (s.frames + 1)) (read_from (after s (line_from (numbers_of l))) ls))).verdict
    go true e r = after_end e
    go false e r = by_fault (ltb 0 (line_number s l)) refl
      where
        by_fault : (t : Bool) → ltb 0 (line_number s l) ≡ t
            → Says s (l ∷ ls) (cond t (refused (line_number s l) (s.frames + 1)) (read_from (after s (line_from (numbers_of l))) ls)).verdict
        by_fault true h = here e (not_none (line_number s l) h)
        by_fault false h = good e (let x = ltb-false 0 (line_number s l) h in omega arith) (read_from (after s (line_from (numbers_of l))) ls).verdict r

abbrev pub SaysFile : List ℕ → Verdict → Type 0
SaysFile file v = Says start (lines file) v

pub file_told : (file : List ℕ) → SaysFile file (read_file file).verdict
unfolding read_file
file_told file = told (lines file) start

-- ---- a refusal has a number, and there is one at most

pub faulty_number : {s : Progress} {ls : List (List ℕ)} {n line : ℕ} → Faulty s ls n line → n ≢ 0
faulty_number (unended e) z = absurd (omega arith)
faulty_number (by_table e r x) z = x z
faulty_number (by_sizes e t x) z = absurd (omega arith)
faulty_number (after_end e) z = absurd (omega arith)
faulty_number (here e x) z = x z
faulty_number (later e x f) z = faulty_number f z

pub faulty_once : {s : Progress} {ls : List (List ℕ)} {n line m at : ℕ} → Faulty s ls n line → Faulty s ls m at → (n ≡ m) × (line ≡ at)
faulty_once (unended e) (unended h) = (refl, refl)
faulty_once (unended e) (by_table h r x) = both h e
faulty_once (by_table e r x) (unended h) = both e h
faulty_once (by_table e r x) (by_table h t y) = (refl, refl)
faulty_once (by_table e r x) (by_sizes h t y) = absurd (x (t r))
faulty_once (by_sizes e t x) (by_table h r y) = absurd (y (t r))
faulty_once (by_sizes e t x) (by_sizes h r y) = (refl, refl)
faulty_once (by_sizes e t x) (unended h) = both e h
faulty_once (unended e) (by_sizes h t x) = both h e
faulty_once (after_end e) (after_end h) = (refl, refl)
faulty_once (after_end e) (here h x) = both e h
faulty_once (after_end e) (later h x f) = both e h
faulty_once (here e x) (after_end h) = both h e
faulty_once (here e x) (here h y) = (refl, refl)
faulty_once (here e x) (later h y f) = absurd (x y)
faulty_once (later e x f) (after_end h) = both h e
faulty_once (later e x f) (here h y) = absurd (y x)
faulty_once (later e x f) (later h y g) = faulty_once f g
