-- A section of a program: a list whose elements pass a test and whose keys ascend.
use mathlib.Core.Path.{◌≡◌, refl, sym, ap, ◌∙◌}
use mathlib.Core.Logic.{⊎_elim}
use mathlib.Core.Bool.{Bool, true, false, cond}
use mathlib.Core.List.Memᴰ
use mathlib.Core.List.{List, [], ◌∷◌, ◌++◌, map, Memᴰ}
use Prim.Native.Nat.{ℕ, zero, suc, ◌+◌, ◌≤◌, ◌<◌}
use native.Mathlib.Omega.{arith}
use lib.Dec.{ltb}
use lib.ListN.{length, get_or, length-append}
use borrow.Author.Tests.{ltb-true}
use Rattle.program.specs.WellFormed.{All}
use Rattle.tables.specs.Keys.{Ascending}
use Rattle.program.specs.Reading.{more}

-- numbers that ascend, all above lo, and none above hi
unfoldable pub Rising : ℕ → List ℕ → ℕ → Type 0
Rising lo [] hi = lo ≤ hi
Rising lo (k ∷ ks) hi = (lo < k) × Rising k ks hi

pub rising_ascending : (lo : ℕ) (ks : List ℕ) (hi : ℕ) → Rising lo ks hi → Ascending lo ks
unfolding Rising Ascending
rising_ascending lo [] hi r = tt
rising_ascending lo (k ∷ ks) hi r = (r.0, rising_ascending k ks hi r.1)

-- where all keys would be above hi there is no element
pub none_yet : {A : Type 0} (f : A → ℕ) (lo hi : ℕ) (xs : List A) → ((x : A) → hi < f x) → Rising lo (map f xs) hi → xs ≡ []
unfolding Rising
none_yet f lo hi [] h r = refl
none_yet f lo hi (x ∷ xs) h r = absurd (omega (arith, h x, bounded (f x) (map f xs) r.1))
  where
    bounded : (k : ℕ) (ks : List ℕ) → Rising k ks hi → k ≤ hi
    bounded k [] r = r
    bounded k (j ∷ ks) r = omega (arith, r.0, bounded j ks r.1)

-- all elements pass, and their keys ascend up to the last one that was read
pub record Section {A : Type 0} (fits : A → Bool) (key : A → ℕ) (xs : List A) (last : ℕ) : Type 0 where
  pub fit : All fits xs
  pub rise : Rising 0 (map key xs) last

pub no_section : {A : Type 0} (fits : A → Bool) (key : A → ℕ) (last : ℕ) → Section fits key [] last
unfolding All Rising
no_section fits key last = record { fit = tt; rise = omega arith }

-- one more at the end, if the test holds
module _ {A : Type 0} (t : Bool) (x : A) where
  pub length_more : (xs : List A) → length (more t x xs) ≡ cond t (length xs + 1) (length xs)
  length_more xs = go t
    where
      go : (t : Bool) → length (more t x xs) ≡ cond t (length xs + 1) (length xs)
      go true = length-append xs (x ∷ [])
      go false = refl

  pub limited_more : (n : ℕ) (xs : List A) → length xs ≤ n → (t ≡ true → length xs < n) → length (more t x xs) ≤ n
  limited_more n xs h less = rw (length_more xs) (go t less)
    where
      go : (t : Bool) → (t ≡ true → length xs < n) → cond t (length xs + 1) (length xs) ≤ n
      go true less = omega (arith, less refl)
      go false less = h

  pub all_more : (test : A → Bool) (xs : List A) → All test xs → (t ≡ true → test x ≡ true) → All test (more t x xs)
  unfolding All
  all_more test xs a b = go t b
    where
      snoc : (ys : List A) → All test ys → test x ≡ true → All test (ys ++ x ∷ [])
      snoc [] a b = (b, tt)
      snoc (y ∷ ys) a b = (a.0, snoc ys a.1 b)

      go : (t : Bool) → (t ≡ true → test x ≡ true) → All test (more t x xs)
      go true b = snoc xs a (b refl)
      go false b = a

  rising_more : (f : A → ℕ) (lo hi k : ℕ) (xs : List A) → hi < k → (t ≡ true → f x ≡ k) → Rising lo (map f xs) hi → Rising lo (map f (more t x xs)) k
  unfolding Rising
  rising_more f lo hi k xs h e r = go t e
    where
      higher : (lo : ℕ) (ks : List ℕ) → Rising lo ks hi → Rising lo ks k
      higher lo [] r = omega arith
      higher lo (j ∷ ks) r = (r.0, higher j ks r.1)

      snoc : (lo : ℕ) (ys : List A) → f x ≡ k → Rising lo (map f ys) hi → Rising lo (map f (ys ++ x ∷ [])) k
      snoc lo [] e r = omega arith
      snoc lo (y ∷ ys) e r = (r.0, snoc (f y) ys e r.1)

      go : (t : Bool) → (t ≡ true → f x ≡ k) → Rising lo (map f (more t x xs)) k
      go true e = snoc lo xs (e refl) r
      go false e = higher lo (map f xs) r

  pub section_more : (fits : A → Bool) (key : A → ℕ) (last k : ℕ) (xs : List A) → last < k → (t ≡ true → (fits x ≡ true) × (key x ≡ k))
      → Section fits key xs last → Section fits key (more t x xs) k
  section_more fits key last k xs h e s =
      record { fit = all_more fits xs s.fit (λ z. (e z).0); rise = rising_more key 0 last k xs h (λ z. (e z).1) s.rise }

-- an element of a list of which all pass
pub all_in : {A : Type 0} (test : A → Bool) {x : A} (xs : List A) → All test xs → Memᴰ x xs → test x ≡ true
unfolding All
all_in test [] a m = elim m [ ]
all_in test (y ∷ ys) a (Memᴰ.head e) = ap test e ∙ a.0
all_in test (y ∷ ys) a (Memᴰ.tail m) = all_in test ys a.1 m

pub all_at : {A : Type 0} (test : A → Bool) (xs : List A) (i : ℕ) (d : A) → All test xs → i < length xs → test (get_or xs i d) ≡ true
unfolding All
all_at test [] i d a h = absurd (omega arith)
all_at test (x ∷ xs) zero d a h = a.0
all_at test (x ∷ xs) (suc i) d a h = all_at test xs i d a.1 (omega arith)

-- numbers below n whose keys ascend are at most n
module _ (f : ℕ → ℕ) (grows : (a b : ℕ) → f a < f b → a < b) (n : ℕ) where
  above : (q : ℕ) (qs : List ℕ) → q < n → Ascending (f q) (map f qs) → All (λ q. ltb q n) qs → q + length qs < n
  unfolding Ascending All
  above q [] h s a = omega arith
  above q (r ∷ qs) h s a = omega (arith, grows q r s.0, above r qs (ltb-true r n a.0) s.1 a.1)

  pub few : (lo : ℕ) (qs : List ℕ) → Ascending lo (map f qs) → All (λ q. ltb q n) qs → length qs ≤ n
  unfolding Ascending All
  few lo [] s a = omega arith
  few lo (q ∷ qs) s a = omega (arith, above q qs (ltb-true q n a.0) s.1 a.1)

-- two lists whose keys ascend and that have the same elements are one list
module _ {A : Type 0} (key : A → ℕ) where
  key_above : (lo : ℕ) (xs : List A) {x : A} → Ascending lo (map key xs) → Memᴰ x xs → lo < key x
  unfolding Ascending
  key_above lo [] s m = elim m [ ]
  key_above lo (y ∷ xs) s (Memᴰ.head e) = rw e s.0
  key_above lo (y ∷ xs) s (Memᴰ.tail m) = omega (arith, s.0, key_above (key y) xs s.1 m)

  -- what is in the first and not its head is in the second and not its head
  rest_in : (x : A) (xs ys : List A) → Ascending (key x) (map key xs) → ((z : A) → Memᴰ z (x ∷ xs) → Memᴰ z (x ∷ ys)) → (z : A) → Memᴰ z xs → Memᴰ z ys
  rest_in x xs ys s h z m =
      ⊎_elim (λ e. absurd (let k = key_above (key x) xs s m in let i = ap key e in omega arith)) (λ k. k) (Memᴰ.cases_cons (h z (Memᴰ.tail m)))

  pub same_list : (lo hi : ℕ) (xs ys : List A) → Ascending lo (map key xs) → Ascending hi (map key ys) → ((x : A) → Memᴰ x xs → Memᴰ x ys) → ((x : A) → Memᴰ x ys → Memᴰ x xs) → xs ≡ ys
  unfolding Ascending
  same_list lo hi [] [] s t f g = refl
  same_list lo hi [] (y ∷ ys) s t f g = elim (g y (Memᴰ.head refl)) [ ]
  same_list lo hi (x ∷ xs) [] s t f g = elim (f x (Memᴰ.head refl)) [ ]
  same_list lo hi (x ∷ xs) (y ∷ ys) s t f g =
      let e : x ≡ y =
      ⊎_elim (λ e. e)
      (λ m. ⊎_elim (λ e. sym e) (λ n. absurd (let j = key_above (key y) ys t.1 m in let k = key_above (key x) xs s.1 n in omega arith)) (Memᴰ.cases_cons (g y (Memᴰ.head refl))))
      (Memᴰ.cases_cons (f x (Memᴰ.head refl))) in
      let u : Ascending (key x) (map key ys) = rw e t.1 in
      λ i. e i ∷ same_list (key x) (key x) xs ys s.1 u (rest_in x xs ys s.1 (rw (← e) at f)) (rest_in x ys xs u (rw (← e) at g)) i
