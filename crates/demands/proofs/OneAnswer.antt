-- What a function promises leaves nothing open: it allows one answer only.
use Prim.Native.Nat.{ℕ, zero, suc, ◌/◌, ◌%◌, ◌^◌, ◌<◌}
use mathlib.Core.Path.{◌≡◌, refl, sym, ap, subst, ◌∙◌}
use mathlib.Core.Logic.{◌↔◌}
use mathlib.Core.Bool.{Bool, true, false}
use mathlib.Core.List.{List}
use native.Mathlib.Omega.{arith}
use native.Mathlib.Nat.{pow-succ', div-div-eq-div-mul}
use lib.Dec.{eqb}
use lib.ListN.{length}
use Rattle.program.specs.Program.{Program}
use Rattle.program.specs.Chosen.{sizes_of}
use Rattle.program.specs.Verdicts.{Verdict}
use Rattle.program.specs.Verdicts.{Accepted, Refused}
use Rattle.std.specs.Prelude.{None, Some}
use Rattle.program.proofs.ChecksPassed.{passes}
use Rattle.reach.proofs.ProgramInSizes.{usable}
use Rattle.reach.proofs.MarksShown.{one_list}
use Rattle.analysis.specs.Answers.{checked_marks, work_after}
use Rattle.prune.specs.Pruning.{Pruned}
use Rattle.callgraph.specs.Components.{Bits}
use Rattle.exchange.specs.Changes.{ChangeRead, Form, EditLine, ExchangeText}
use Rattle.exchange.specs.Changes as change
use Rattle.exchange_text.specs.Wanted.{wanted_change}
use Rattle.repair.specs.Repairs.{InsideOutNumber}
use Rattle.desk.specs.Entries.{Entry, read as reads, sizes, faulty-pair, write, analyze, next_violation, next_blocked, prune, marks_to_frames, frames_to_marks, repair_forward, repair_inside_out, exchange_sizes, exchange_forward, exchange_inside_out, Lent, Back, prune_back, repair_back, program_in, repaired_in, InsideOutGives, Gives}

-- ---- a set of routines has one number

-- the same bits below w
abbrev SameBits : ℕ → ℕ → ℕ → Type 0
SameBits w n m = (f : ℕ) → f < w → (n / 2 ^ f % 2 ≡ 1) ↔ (m / 2 ^ f % 2 ≡ 1)

-- a bit is 0 or 1
bit_same : (x y : ℕ) → (x % 2 ≡ 1) ↔ (y % 2 ≡ 1) → x % 2 ≡ y % 2
bit_same x y h = go (x % 2) (y % 2) (omega arith) (omega arith) h.0 h.1
  where
    go : (a b : ℕ) → a < 2 → b < 2 → (a ≡ 1 → b ≡ 1) → (b ≡ 1 → a ≡ 1) → a ≡ b
    go zero zero p q f g = refl
    go zero (suc b) p q f g = let e : b ≡ 0 = omega arith in absurd (let z : ◌≡◌ {A = ℕ} 0 1 = g (ap suc e) in omega arith)
    go (suc a) zero p q f g = let e : a ≡ 0 = omega arith in absurd (let z : ◌≡◌ {A = ℕ} 0 1 = f (ap suc e) in omega arith)
    go (suc a) (suc b) p q f g = omega arith

half_bit : (n f : ℕ) → n / 2 / 2 ^ f ≡ n / 2 ^ suc f
half_bit n f = div-div-eq-div-mul n 2 (2 ^ f) ∙ ap (λ (x : ℕ). n / x) (sym (pow-succ' 2 f))

same_number : (w n m : ℕ) → n < 2 ^ w → m < 2 ^ w → SameBits w n m → n ≡ m
same_number zero n m a b h = omega arith
same_number (suc w) n m a b h =
    let e = pow-succ' 2 w in
    let last : n % 2 ≡ m % 2 = bit_same n m (rw (div-one n, div-one m) at (h 0 (omega arith))) in
    let rest : n / 2 ≡ m / 2 = same_number w (n / 2) (m / 2) (omega (arith, e, a)) (omega (arith, e, b)) (λ f l. rw (half_bit n f, half_bit m f) (h (suc f) (omega arith))) in
    omega (arith, last, rest)
  where
    div-one : (k : ℕ) → k / 2 ^ 0 ≡ k
    div-one k = omega arith

pub one_number : {R : ℕ → Type 0} {n m : ℕ} → Bits R n → Bits R m → n ≡ m
one_number {n = n} {m = m} x y =
    same_number 16 n m x.small y.small
    (λ f h. let a = x.bit f h in let b = y.bit f h in (λ e. b.1 (a.0 e), λ e. a.1 (b.0 e)))

routines_once : (t : Bool) (w : ChangeRead) (p : Program) (n m : ℕ) → InsideOutNumber t w p n → InsideOutNumber t w p m → n ≡ m
routines_once true (change.Read c) p n m x y = one_number x y
routines_once true (change.Refused k) p n m x y = x ∙ sym y
routines_once false w p n m x y = x ∙ sym y

-- ---- marks that are pruned are fixed

marks_once : (b : Lent) (v : Verdict) → checked_marks b.file b.marks b.work ≡ v → {l k : List ℕ} → Pruned v (program_in b) b.marks l → Pruned v (program_in b) b.marks k → l ≡ k
marks_once b Accepted e x y =
    let w = (passes b.file (Some (length b.marks)) None (Some (length b.work)) e).well_formed in
    one_list (sizes_of (program_in b)) (usable (program_in b) w) x y
marks_once b (Refused n line) e x y = x ∙ sym y

-- ---- an inside-out repair tells its routines once

inside_out_once : (k : Form) (b : Lent) (a c : Back) → InsideOutGives k b a → InsideOutGives k b c → a ≡ c
inside_out_once k b a c g h =
    let w = wanted_change k (program_in b) b.text in
    let same : a.refusal ≡ c.refusal = ap (λ (x : Back). x.refusal) g.0 ∙ sym (ap (λ (x : Back). x.refusal) h.0) in
    let n = subst (λ (k : ℕ). InsideOutNumber (eqb k 0) w (program_in b) a.values.reanalyzed) same g.1 in
    g.0 ∙ ap (repair_back (repaired_in k b)) (routines_once (eqb c.refusal 0) w (program_in b) a.values.reanalyzed c.values.reanalyzed n h.1) ∙ sym h.0

-- ---- every function

pub given_once : (e : Entry) (b : Lent) (a c : Back) → Gives e b a → Gives e b c → a ≡ c
given_once reads b a c g h = g ∙ sym h
given_once sizes b a c g h = g ∙ sym h
given_once faulty-pair b a c g h = g ∙ sym h
given_once write b a c g h = g ∙ sym h
given_once analyze b a c g h = g ∙ sym h
given_once next_violation b a c g h = g ∙ sym h
given_once next_blocked b a c g h = g ∙ sym h
given_once prune b a c g h =
    let v = checked_marks b.file b.marks b.work in
    g.0 ∙ ap (λ (l : List ℕ). prune_back b v l (work_after b.file b.marks b.work)) (marks_once b v refl g.1 h.1)
    ∙ sym h.0
given_once marks_to_frames b a c g h = g ∙ sym h
given_once frames_to_marks b a c g h = g ∙ sym h
given_once repair_forward b a c g h = g ∙ sym h
given_once repair_inside_out b a c g h = inside_out_once EditLine b a c g h
given_once exchange_sizes b a c g h = g ∙ sym h
given_once exchange_forward b a c g h = g ∙ sym h
given_once exchange_inside_out b a c g h = inside_out_once ExchangeText b a c g h
