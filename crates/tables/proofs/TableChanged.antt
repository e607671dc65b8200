-- A table that is changed in place, one entry after the other.
use mathlib.Core.Path.{◌≡◌, refl, sym, ap, ◌∙◌}
use mathlib.Core.Bool.{Bool, true, false, ◌&&◌}
use mathlib.Core.List.{List, [], ◌∷◌, ◌++◌, append-nil}
use Prim.Native.Nat.{ℕ, zero, suc, min, ◌+◌, ◌-◌, ◌≤◌, ◌<◌}
use native.Mathlib.Numerals.{add-one}
use native.Mathlib.Omega.{arith}
use lib.Dec.{ltb, leb, eqb}
use lib.ListN.{length, take, drop, get_or, set, length-take, length-drop, length-set, drop_of_length-le}
use lib.Seq.{paste, append_snoc, length-take-le, take-take, take-set-lt, drop-set-lt, take-suc-set}
use Rattle.std.proofs.lemmas.List.{set-append_left, drop-take}
use Rattle.std.proofs.lemmas.List.Edits.{take-paste, length-paste}
use borrow.Author.Tests.{ltb-true, leb-true, eqb-true, eqb-false, lt-ltb, le-ltb, le-leb}
use Rattle.tables.specs.Keys.{inserted_key, between, without_between, without_key, FirstFrom, Holds}
use Rattle.base.proofs.EntriesInUse.{entry, in_use_all}

-- ---- one entry more at the end

one_more : (xs : List ℕ) (n x : ℕ) → n < length xs → take (n + 1) (set xs n x) ≡ take n xs ++ (x ∷ [])
one_more xs n x h = rw (add-one, take-suc-set xs n x)

-- what is in use is as many as the count says, where that is within the array
holds : (xs : List ℕ) (n : ℕ) (ks : List ℕ) → n ≤ length xs → take n xs ≡ ks → Holds xs n ks
holds xs n ks h e = record { are = e; as_many = sym (length-take-le n xs h) ∙ ap length e }

pub holds_more : (xs : List ℕ) (n x : ℕ) → n < length xs → Holds (set xs n x) (n + 1) (take n xs ++ (x ∷ []))
holds_more xs n x h = holds (set xs n x) (n + 1) _ (simp length-set (omega arith)) (one_more xs n x h)

-- ---- one key more: those above it move up

pub inserted_at : (key : ℕ) (ks : List ℕ) (at : ℕ) → FirstFrom (key + 1) ks at → take at ks ++ (key ∷ drop at ks) ≡ inserted_key key ks
unfolding inserted_key
inserted_at key [] at f = let z : at ≡ 0 = omega (arith, f.within) in rw z
inserted_at key (k ∷ ks) zero f = rw (lt-ltb key k (omega (arith, f.not-below (omega arith))))
inserted_at key (k ∷ ks) (suc at) f =
    rw (le-ltb key k (omega (arith, f.below 0 (omega arith))))
    (ap (λ (l : List ℕ). k ∷ l) (inserted_at key ks at (record {
      within = omega (arith, f.within);
      below = λ i h. f.below (suc i) (omega arith);
      not-below = λ h. f.not-below (omega arith);
    })))

-- those from `at` on move up by one place, and the key goes there
pub key_put : (key : ℕ) (xs : List ℕ) (n at : ℕ) → n < length xs → FirstFrom (key + 1) (take n xs) at
    → Holds (set (paste xs (at + 1) (drop at xs) (n - at)) at key) (n + 1) (inserted_key key (take n xs))
key_put key xs n at h f =
    let w : at ≤ n = omega (arith, f.within, length-take n xs) in
    let up : List ℕ = paste xs (at + 1) (drop at xs) (n - at) in
    let rest : List ℕ = take (n - at) (drop at xs) in
    let m : at + 1 + (n - at) ≡ n + 1 = omega arith in
    let k : at + (n - at) ≡ n = omega arith in
    let l : n - at ≤ length (drop at xs) = omega (arith, length-drop at xs) in
    let moved : take (n + 1) up ≡ take (at + 1) xs ++ rest =
    ap (λ (k : ℕ). take k up) (sym m) ∙ take-paste xs (at + 1) (drop at xs) (n - at) (omega arith) l in
    let i : at < length (take (at + 1) xs) = omega (arith, length-take (at + 1) xs) in
    let put : set (take (at + 1) xs) at key ≡ take at xs ++ (key ∷ []) =
    sym (take-set-lt (at + 1) xs at key (omega arith)) ∙ one_more xs at key (omega arith) in
    let e : take (n + 1) (set up at key) ≡ take at (take n xs) ++ (key ∷ drop at (take n xs)) =
    take-set-lt (n + 1) up at key (omega arith)
    ∙ rw (moved, set-append_left (take (at + 1) xs) rest at key i, put, append_snoc, take-take at n xs w)
    (ap (λ (l : List ℕ). take at xs ++ (key ∷ l)) (sym (rw k at (drop-take at (n - at) xs)))) in
    holds (set up at key) (n + 1) _
    (omega (arith, length-set up at key, length-paste xs (at + 1) (drop at xs) (n - at) (omega arith) l))
    (e ∙ inserted_at key (take n xs) at f)

-- ---- all keys but those between two numbers: those after them move down

-- of the m entries in use n are there; at i, so many are kept of those before it
pub record Keeping (low high m : ℕ) (old xs : List ℕ) (n kept i : ℕ) : Type 0 where
  pub long : length xs ≡ length old
  pub fits : n ≤ length xs
  pub few : kept ≤ i
  pub within : i ≤ n
  pub rest : take kept xs ++ without_between low high (drop i (take n xs)) ≡ without_between low high (take m old)

pub keep_start : (low high m : ℕ) (xs : List ℕ) {n : ℕ} → n ≡ min m (length xs) → Keeping low high m xs xs n 0 0
keep_start low high m xs {n} e =
    let w : take n xs ≡ take m xs = rw e (in_use_all m xs) in
    record { long = refl; fits = omega arith; few = omega arith; within = omega arith; rest = rw w }

module _ {low high m : ℕ} {old xs : List ℕ} {n kept i : ℕ} (p : Keeping low high m old xs n kept i) (h : i < n) (k : i < length xs) where
  pub keep_not : between low high (get_or xs i 0) ≡ true → Keeping low high m old xs n kept (i + 1)
  unfolding without_between
  keep_not e =
      record {
        long = p.long;
        fits = p.fits;
        few = omega (arith, p.few);
        within = omega arith;
        rest = rw (entry n xs i h k, e) at p.rest;
      }

  pub keep_one : between low high (get_or xs i 0) ≡ false → Keeping low high m old (set xs kept (get_or xs i 0)) n (kept + 1) (i + 1)
  unfolding without_between
  keep_one e =
      let x : ℕ = get_or xs i 0 in
      let l : kept < length xs = omega (arith, p.few) in
      let j : kept < n = omega (arith, p.few) in
      record {
        long = simp length-set p.long;
        fits = simp length-set p.fits;
        few = omega (arith, p.few);
        within = omega arith;
        rest =
            rw (one_more xs kept x l, take-set-lt n xs kept x j, drop-set-lt (i + 1) (take n xs) kept x (omega (arith, p.few)), append_snoc)
            (rw (entry n xs i h k, e) at p.rest);
      }

pub keep_end : {low high m : ℕ} {old xs : List ℕ} {n kept i : ℕ} → Keeping low high m old xs n kept i → n ≤ i
    → Holds xs kept (without_between low high (take m old))
unfolding without_between
keep_end {xs = xs} {n} {kept} {i} p h =
    let l : length (take n xs) ≤ i = rw (length-take n xs) (omega arith) in
    holds xs kept _ (omega (arith, p.fits, p.few, p.within)) (sym (append-nil (take kept xs)) ∙ rw (drop_of_length-le (take n xs) l) at p.rest)

-- ---- all keys but one

-- between a number and the next there is only the number
pub between_next : (key k : ℕ) → between key (key + 1) k ≡ eqb key k
between_next key k = go (eqb key k) refl
  where
    go : (b : Bool) → eqb key k ≡ b → between key (key + 1) k ≡ b
    go true e = let z = eqb-true key k e in simp (le-leb key k (omega arith), lt-ltb k (key + 1) (omega arith))
    go false e = apart (leb key k) (ltb k (key + 1)) refl refl (eqb-false key k e)
      where
        apart : (a b : Bool) → leb key k ≡ a → ltb k (key + 1) ≡ b → (key ≡ k → ⊥) → a && b ≡ false
        apart true true x y n = absurd (n (omega (arith, leb-true key k x, ltb-true k (key + 1) y)))
        apart true false x y n = refl
        apart false b x y n = refl

pub without_next : (key : ℕ) (ks : List ℕ) → without_between key (key + 1) ks ≡ without_key key ks
unfolding without_between without_key
without_next key [] = refl
without_next key (k ∷ ks) = rw (between_next key k, without_next key ks)
