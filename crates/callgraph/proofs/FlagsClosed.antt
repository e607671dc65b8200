-- Flags that are set in turn, until nothing more is set.
use Prim.Native.Nat.{ℕ, zero, suc, ◌+◌, ◌-◌, ◌≤◌, ◌<◌}
use mathlib.Core.Path.{◌≡◌, refl, sym, ap, subst, ◌∙◌}
use mathlib.Core.Logic.{◌⊎◌, inl, inr}
use mathlib.Core.Bool.{Bool, true, false, cond, ◌&&◌}
use mathlib.Core.List.{List, [], ◌∷◌}
use native.Mathlib.Omega.{arith}
use native.Mathlib.Decide.{ℕ_discrete}
use native.Mathlib.Nat.{sub-zero}
use native.Mathlib.Numerals.{add-one}
use lib.Dec.{eqb, ltb}
use lib.ListN.{length, get_or, set, length-set}
use borrow.Author.Tests.{ltb-true, ltb-false, not-true}
use Rattle.base.specs.Flags.{is_set, count_set, On}
use Rattle.base.proofs.Bools.{both}
use Rattle.base.proofs.SetFlags.{eqb_on, on_eqb, set_on, on_set, set_inv}
use Rattle.reach.proofs.MarksShown.{count_small}
use Rattle.callgraph.specs.Parts.{in_turn, copy_when}

-- what is set stays set
pub record Grows (l k : List ℕ) : Type 0 where
  pub stays : (i : ℕ) → On l i → On k i

-- ---- a loop that takes a step for each number

-- what holds at its head: what is left to do from here gives the whole
pub record Turning (f : ℕ → List ℕ → List ℕ) (n : ℕ) (l₀ : List ℕ) (j : ℕ) (l : List ℕ) : Type 0 where
  pub size : length l ≡ length l₀
  pub rest : in_turn f (n - j) j l ≡ in_turn f n 0 l₀

pub turning_start : (f : ℕ → List ℕ → List ℕ) (n : ℕ) (l : List ℕ) → Turning f n l 0 l
turning_start f n l = record { size = refl; rest = simp sub-zero }

one_less : (n j : ℕ) → j < n → n - j ≡ suc (n - (j + 1))
one_less n j h = omega arith

none_left : (n j : ℕ) → n ≤ j → n - j ≡ 0
none_left n j h = omega arith

turn_one : (f : ℕ → List ℕ → List ℕ) (n j : ℕ) (l : List ℕ) → j < n → in_turn f (n - j) j l ≡ in_turn f (n - (j + 1)) (j + 1) (f j l)
unfolding in_turn
turn_one f n j l h = rw (one_less n j h, add-one j)

turn_none : (f : ℕ → List ℕ → List ℕ) (n j : ℕ) (l : List ℕ) → n ≤ j → in_turn f (n - j) j l ≡ l
unfolding in_turn
turn_none f n j l h = rw (none_left n j h)

module _ {f : ℕ → List ℕ → List ℕ} {n : ℕ} {l₀ : List ℕ} {j : ℕ} {l : List ℕ} (t : Turning f n l₀ j l) where
  pub turning_turn : {k : List ℕ} → j < n → k ≡ f j l → length k ≡ length l → Turning f n l₀ (j + 1) k
  turning_turn h e s =
      record {
        size = s ∙ t.size;
        rest = ap (in_turn f (n - (j + 1)) (j + 1)) e ∙ sym (turn_one f n j l h) ∙ t.rest;
      }

  pub turning_end : n ≤ j → l ≡ in_turn f n 0 l₀
  turning_end h = sym (turn_none f n j l h) ∙ t.rest

-- ---- steps that obey a rule

-- what is set stays set, the flags that the rule R gives are set, and nothing is set outside of S
pub record Obeys (S : ℕ → Type 0) (R : List ℕ → ℕ → Type 0) (f : List ℕ → List ℕ) : Type 0 where
  pub size : (l : List ℕ) → length (f l) ≡ length l
  pub grows : (l : List ℕ) → Grows l (f l)
  pub sound : (l : List ℕ) → ((i : ℕ) → On l i → S i) → (i : ℕ) → On (f l) i → S i
  pub complete : (l : List ℕ) (j : ℕ) → R l j → j < length l → On (f l) j
  pub mono : (l k : List ℕ) → Grows l k → (j : ℕ) → R l j → R k j

pub obeys_set : {S : ℕ → Type 0} (to : ℕ) → S to → Obeys S (λ l j. j ≡ to) (λ l. set l to 1)
obeys_set {S} to s =
    record {
      size = λ l. length-set l to 1;
      grows = λ l. record { stays = λ i h. on_set l to i h };
      sound = λ l h i x. elim (set_inv l to i x) [ inl e ↦ subst S (sym e) s | inr y ↦ h i y ];
      complete = λ l j e h. subst (λ (k : ℕ). On (set l to 1) k) (sym e) (set_on l to (subst (λ (k : ℕ). k < length l) e h));
      mono = λ l k g j e. e;
    }

module _ (t : Bool) (from to : ℕ) (l : List ℕ) where
  copied : t ≡ true → On l from → copy_when t from to l ≡ set l to 1
  unfolding copy_when
  copied e h = rw (e, on_eqb l from h)

  -- a store, with its reasons, or none
  copy_cases : ((t ≡ true) × On l from × (copy_when t from to l ≡ set l to 1)) ⊎ (copy_when t from to l ≡ l)
  unfolding copy_when
  copy_cases = go (t && is_set l from) refl
    where
      go : (b : Bool) → t && is_set l from ≡ b → ((t ≡ true) × On l from × (cond b (set l to 1) l ≡ set l to 1)) ⊎ (cond b (set l to 1) l ≡ l)
      go true e = let c = both t (is_set l from) e in inl (c.0, eqb_on l from (not-true (eqb (get_or l from 0) 0) c.1), refl)
      go false e = inr refl

-- the rule of a copy
pub record Copy (t : Bool) (from to : ℕ) (l : List ℕ) (j : ℕ) : Type 0 where
  pub passed : t ≡ true
  pub given : On l from
  pub is : j ≡ to

pub obeys_copy : {S : ℕ → Type 0} (t : Bool) (from to : ℕ) → (t ≡ true → S from → S to) → Obeys S (Copy t from to) (copy_when t from to)
obeys_copy {S} t from to s =
    record {
      size = λ l. elim (copy_cases t from to l) [ inl c ↦ ap length c.2 ∙ length-set l to 1 | inr e ↦ ap length e ];
      grows = λ l. record {
        stays = λ i h. elim (copy_cases t from to l) [
          | inl c ↦ subst (λ (k : List ℕ). On k i) (sym c.2) (on_set l to i h)
          | inr e ↦ subst (λ (k : List ℕ). On k i) (sym e) h
        ];
      };
      sound = λ l h i x. elim (copy_cases t from to l) [
        | inl c ↦ elim (set_inv l to i (subst (λ (k : List ℕ). On k i) c.2 x)) [
          | inl e ↦ subst S (sym e) (s c.0 (h from c.1))
          | inr y ↦ h i y
        ]
        | inr e ↦ h i (subst (λ (k : List ℕ). On k i) e x)
      ];
      complete = λ l j c h.
          subst (λ (k : List ℕ). On k j) (sym (copied t from to l c.passed c.given))
          (subst (λ (k : ℕ). On (set l to 1) k) (sym c.is) (set_on l to (subst (λ (k : ℕ). k < length l) c.is h)));
      mono = λ l k g j c. record { passed = c.passed; given = g.stays from c.given; is = c.is };
    }

-- one step, and then another
pub obeys_then : {S : ℕ → Type 0} {R R' : List ℕ → ℕ → Type 0} {f g : List ℕ → List ℕ} → Obeys S R f → Obeys S R' g
    → Obeys S (λ l j. R l j ⊎ R' l j) (λ l. g (f l))
obeys_then {f = f} a b =
    record {
      size = λ l. b.size (f l) ∙ a.size l;
      grows = λ l. record { stays = λ i h. (b.grows (f l)).stays i ((a.grows l).stays i h) };
      sound = λ l h. b.sound (f l) (a.sound l h);
      complete = λ l j r h. elim r [
        | inl x ↦ (b.grows (f l)).stays j (a.complete l j x h)
        | inr x ↦ b.complete (f l) j (b.mono l (f l) (a.grows l) j x) (subst (λ (n : ℕ). j < n) (sym (a.size l)) h)
      ];
      mono = λ l k g j r. elim r [ inl x ↦ inl (a.mono l k g j x) | inr x ↦ inr (b.mono l k g j x) ];
    }

-- a step, if a test is passed
pub obeys_when : {S : ℕ → Type 0} {R : List ℕ → ℕ → Type 0} {f : List ℕ → List ℕ} (t : Bool) → (t ≡ true → Obeys S R f)
    → Obeys S (λ l j. (t ≡ true) × R l j) (λ l. cond t (f l) l)
obeys_when true a =
    let b = a refl in
    record {
      size = b.size;
      grows = b.grows;
      sound = b.sound;
      complete = λ l j r h. b.complete l j r.1 h;
      mono = λ l k g j r. (r.0, b.mono l k g j r.1);
    }
obeys_when false a =
    record {
      size = λ l. refl;
      grows = λ l. record { stays = λ i h. h };
      sound = λ l h. h;
      complete = λ l j r h. let e = r.0 in absurd (let z : ◌≡◌ {A = ℕ} 0 1 = cc in omega arith);
      mono = λ l k g j r. let e = r.0 in absurd (let z : ◌≡◌ {A = ℕ} 0 1 = cc in omega arith);
    }

-- the rule of one of n steps, from x on
pub record One (R : ℕ → List ℕ → ℕ → Type 0) (n x : ℕ) (l : List ℕ) (j : ℕ) : Type 0 where
  pub turn : ℕ
  pub low : x ≤ turn
  pub high : turn < x + n
  pub rule : R turn l j

pub obeys_turns : {S : ℕ → Type 0} {R : ℕ → List ℕ → ℕ → Type 0} {f : ℕ → List ℕ → List ℕ} (n x : ℕ)
    → ((i : ℕ) → x ≤ i → i < x + n → Obeys S (R i) (f i)) → Obeys S (One R n x) (in_turn f n x)
unfolding in_turn
obeys_turns zero x a =
    record {
      size = λ l. refl;
      grows = λ l. record { stays = λ i h. h };
      sound = λ l h. h;
      complete = λ l j r h. absurd (omega (arith, r.low, r.high));
      mono = λ l k g j r. absurd (omega (arith, r.low, r.high));
    }
obeys_turns {R = R} {f = f} (suc n) x a =
    let o = a x (omega arith) (omega arith) in
    let b = obeys_turns {R = R} {f = f} n (suc x) (λ i h k. a i (omega arith) (omega arith)) in
    record {
      size = λ l. b.size (f x l) ∙ o.size l;
      grows = λ l. record { stays = λ i h. (b.grows (f x l)).stays i ((o.grows l).stays i h) };
      sound = λ l h. b.sound (f x l) (o.sound l h);
      complete = λ l j r h. elim (ℕ_discrete r.turn x) [
        | yes e ↦ (b.grows (f x l)).stays j (o.complete l j (subst (λ (i : ℕ). R i l j) e r.rule) h)
        | no e ↦
            b.complete (f x l) j
            (record {
              turn = r.turn;
              low = omega (arith, r.low, e);
              high = omega (arith, r.high);
              rule = (a r.turn r.low r.high).mono l (f x l) (o.grows l) j r.rule;
            })
            (subst (λ (i : ℕ). j < i) (sym (o.size l)) h)
      ];
      mono = λ l k g j r. record { turn = r.turn; low = r.low; high = r.high; rule = (a r.turn r.low r.high).mono l k g j r.rule };
    }

-- ---- counts

bit_mono : (s t : Bool) → (s ≡ false → t ≡ false) → cond s 0 1 ≤ cond t 0 1
bit_mono true t h = omega arith
bit_mono false t h = rw (h refl) (omega arith)

bit_same : (s t : Bool) {x y : ℕ} → x ≤ y → cond t 0 1 + y ≤ cond s 0 1 + x → t ≡ false → s ≡ false
bit_same true true h k e = e
bit_same true false h k e = absurd (omega arith)
bit_same false t h k e = refl

module _ {b c : ℕ} {bs cs : List ℕ} (g : Grows (b ∷ bs) (c ∷ cs)) where
  head_mono : cond (eqb b 0) 0 1 ≤ cond (eqb c 0) 0 1
  head_mono = bit_mono (eqb b 0) (eqb c 0) (λ e. on_eqb (c ∷ cs) 0 (g.stays 0 (eqb_on (b ∷ bs) 0 e)))

  tail_grows : Grows bs cs
  tail_grows = record { stays = λ i x. record { on = (g.stays (suc i) (record { on = x.on })).on } }

pub count_grows : (l k : List ℕ) → length l ≡ length k → Grows l k → count_set l ≤ count_set k
unfolding count_set
count_grows [] k e g = omega arith
count_grows (b ∷ bs) [] e g = absurd (omega arith)
count_grows (b ∷ bs) (c ∷ cs) e g =
    let h = head_mono g in
    let r = count_grows bs cs (omega arith) (tail_grows g) in
    omega arith

-- where no more are set, what is set was set before
pub count_same : (l k : List ℕ) → length l ≡ length k → Grows l k → count_set k ≤ count_set l → (i : ℕ) → On k i → On l i
unfolding count_set
count_same [] [] e g h i x = x
count_same [] (c ∷ cs) e g h i x = absurd (omega arith)
count_same (b ∷ bs) [] e g h i x = absurd (omega arith)
count_same (b ∷ bs) (c ∷ cs) e g h zero x =
    let r = count_grows bs cs (omega arith) (tail_grows g) in
    eqb_on (b ∷ bs) 0 (bit_same (eqb b 0) (eqb c 0) r h (on_eqb (c ∷ cs) 0 x))
count_same (b ∷ bs) (c ∷ cs) e g h (suc i) x =
    let u = head_mono g in
    record { on = (count_same bs cs (omega arith) (tail_grows g) (omega arith) i (record { on = x.on })).on }

-- ---- passes until nothing more is set

pub record Growing (n : ℕ) (S : ℕ → Type 0) (R : List ℕ → ℕ → Type 0) (l₀ l : List ℕ) (more : Bool) : Type 0 where
  pub size : length l ≡ n
  pub kept : Grows l₀ l
  pub sound : (i : ℕ) → On l i → S i
  pub closed : more ≡ false → (j : ℕ) → R l j → j < n → On l j

pub growing_start : {n : ℕ} {S : ℕ → Type 0} {R : List ℕ → ℕ → Type 0} {l : List ℕ} → length l ≡ n → ((i : ℕ) → On l i → S i)
    → Growing n S R l l true
growing_start z s =
    record {
      size = z;
      kept = record { stays = λ i h. h };
      sound = s;
      closed = λ e. absurd (let z : ◌≡◌ {A = ℕ} 0 1 = cc in omega arith);
    }

-- the flags that are not set, and one for a pass to come
abbrev pub left : ℕ → List ℕ → Bool → ℕ
left n l more = cond more 1 0 + (n - count_set l)

module _ {n : ℕ} {S : ℕ → Type 0} {R : List ℕ → ℕ → Type 0} {l₀ l : List ℕ} {more : Bool} {f : List ℕ → List ℕ}
    (g : Growing n S R l₀ l more) (o : Obeys S R f) where
  pub growing_turn : {k : List ℕ} {more' : Bool} → k ≡ f l → more' ≡ ltb (count_set l) (count_set k) → Growing n S R l₀ k more'
  growing_turn {k} {more'} e m =
      let here : Grows l k = subst (Grows l) (sym e) (o.grows l) in
      let same : length l ≡ length k = sym (o.size l) ∙ ap length (sym e) in
      record {
        size = sym same ∙ g.size;
        kept = record { stays = λ i h. here.stays i (g.kept.stays i h) };
        sound = λ i h. o.sound l g.sound i (subst (λ (x : List ℕ). On x i) e h);
        closed = λ z j r h.
            let back : Grows k l = record { stays = count_same l k same here (ltb-false (count_set l) (count_set k) (sym m ∙ z)) } in
            subst (λ (x : List ℕ). On x j) (sym e) (o.complete l j (o.mono k l back j r) (subst (λ (x : ℕ). j < x) (sym g.size) h));
      }

  pub growing_less : {k : List ℕ} {more' : Bool} → more ≡ true → k ≡ f l → more' ≡ ltb (count_set l) (count_set k) → left n k more' < left n l more
  growing_less {k} {more'} t e m =
      let same : length l ≡ length k = sym (o.size l) ∙ ap length (sym e) in
      let up = count_grows l k same (subst (Grows l) (sym e) (o.grows l)) in
      let top : count_set k ≤ n = omega (arith, count_small k, same, g.size) in
      rw (m, t) (go (count_set l) (count_set k) up top (ltb (count_set l) (count_set k)) refl)
    where
      go : (a b : ℕ) → a ≤ b → b ≤ n → (x : Bool) → ltb a b ≡ x → cond x 1 0 + (n - b) < 1 + (n - a)
      go a b u h true e = let s = ltb-true a b e in omega arith
      go a b u h false e = omega arith
