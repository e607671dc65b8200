-- What a function gives back, part by part.
use mathlib.Core.Path.{◌≡◌, refl, ap, ◌∙◌}
use mathlib.Core.List.{List}
use Prim.Native.Nat.{ℕ}
use Rattle.std.specs.Prelude.{Result, Ok, Err}
use Rattle.program.specs.Reading.{Outcome, read_file}
use Rattle.program.specs.Refusals.{verdict_by}
use Rattle.program.specs.declared.DecodedProgram.{DecodedProgram}
use Rattle.program.specs.declared.refusal.RefusedAt.{RefusedAt}
use Rattle.outcome.specs.Outcome.{outcome_of}
use Rattle.writer.specs.Answers.{refusal as writeRefusal, refusal_line as writeLine, written_length}
use Rattle.writer.specs.WriteAnswers.{WriteAnswer}
use Rattle.repair.specs.Repairs.{After}
use Rattle.desk.specs.Entries.{Values, Back, counts, sizing, pairing, repairing, repair_back}

pub same_back : {r r' l l' : ℕ} {v v' : Values} {m m' o o' w w' n n' : List ℕ} → r ≡ r' → l ≡ l' → v ≡ v' → m ≡ m' → o ≡ o' → w ≡ w' → n ≡ n'
    → ◌≡◌ {A = Back} (record { refusal = r; line = l; values = v; marks = m; output = o; work = w; second = n })
    (record { refusal = r'; line = l'; values = v'; marks = m'; output = o'; work = w'; second = n' })
same_back e f g h i j k = rw (e, f, g, h, i, j, k) refl

pub same_counts : {c c' v v' i i' : ℕ} → c ≡ c' → v ≡ v' → i ≡ i' → counts c v i ≡ counts c' v' i'
same_counts e f g = rw (e, f, g) refl

pub same_sizing : {r r' n n' s s' m m' w w' : ℕ} → r ≡ r' → n ≡ n' → s ≡ s' → m ≡ m' → w ≡ w' → sizing r n s m w ≡ sizing r' n' s' m' w'
same_sizing e f g h i = rw (e, f, g, h, i) refl

pub same_pairing : {q q' a a' : ℕ} → q ≡ q' → a ≡ a' → pairing (record { state = q; action = a }) ≡ pairing (record { state = q'; action = a' })
same_pairing e f = rw (e, f) refl

pub same_size : {n n' : ℕ} (routines : ℕ) → n ≡ n' → repairing n routines ≡ repairing n' routines
same_size routines e = rw e refl

-- what a repair gives back, by its answer and what it left in the buffers, and the numbers of that answer
pub same_repair : (routines : ℕ) {a : WriteAnswer} {m o w n : List ℕ} {after : After} {r l k : ℕ}
    → ◌≡◌ {A = After} (record { answer = a; marks = m; output = o; work = w; second = n }) after → (r ≡ writeRefusal a) × (l ≡ writeLine a) × (k ≡ written_length a)
    → ◌≡◌ {A = Back} (record { refusal = r; line = l; values = repairing k routines; marks = m; output = o; work = w; second = n }) (repair_back after routines)
same_repair routines x h =
    let e = ap (λ (a : After). a.answer) x in
    let n = rw e at h in
    same_back n.0 n.1 (same_size routines n.2) (ap (λ (a : After). a.marks) x) (ap (λ (a : After). a.output) x) (ap (λ (a : After). a.work) x)
    (ap (λ (a : After). a.second) x)

-- the verdict of an answer is that of the outcome that it stands for
pub outcome_verdict : (a : Result DecodedProgram RefusedAt) → verdict_by a ≡ (outcome_of a).verdict
outcome_verdict (Ok p) = refl
outcome_verdict (Err e) = refl

pub read_verdict : (file : List ℕ) (a : Result DecodedProgram RefusedAt) → outcome_of a ≡ read_file file → verdict_by a ≡ (read_file file).verdict
read_verdict file a e = outcome_verdict a ∙ ap (λ (o : Outcome). o.verdict) e
