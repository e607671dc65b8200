-- Whether one key of a list meets a test.
use mathlib.Core.Path.{◌≡◌, refl, sym, ap}
use mathlib.Core.Bool.{Bool, true, false, or-true}
use mathlib.Core.List.{List, [], ◌∷◌, map, Memᴰ}
use Prim.Native.Nat.{ℕ, ◌<◌}
use lib.ListN.{length, get_or}
use Rattle.std.proofs.lemmas.List.Recursion.{or_at, or_from_places}
use Rattle.base.proofs.Bools.{either, never}
use Rattle.support.specs.Parts.{any_key}

pub key_met : (t : ℕ → Bool) (ks : List ℕ) (i : ℕ) → i < length ks → t (get_or ks i 0) ≡ true → true ≡ any_key t ks
unfolding any_key
key_met t ks i h e = sym (or_at (any_key t) t refl (λ _ _. refl) ks i 0 h e)

pub none_met : (t : ℕ → Bool) (ks : List ℕ) → ((i : ℕ) → i < length ks → t (get_or ks i 0) ≡ false) → false ≡ any_key t ks
unfolding any_key
none_met t ks none = sym (or_from_places (any_key t) t refl (λ _ _. refl) ks 0 none)

pub record FoundKey (t : ℕ → Bool) (ks : List ℕ) : Type 0 where
  pub key : ℕ
  pub member : Memᴰ key ks
  pub test : t key ≡ true

pub found_key : (t : ℕ → Bool) (ks : List ℕ) → any_key t ks ≡ true → FoundKey t ks
unfolding any_key
found_key t [] h = never h refl
found_key t (k ∷ ks) h =
    either (t k) (any_key t ks) h
    (λ e. record { key = k; member = Memᴰ.head refl; test = e })
    (λ e. let z = found_key t ks e in record { key = z.key; member = Memᴰ.tail z.member; test = z.test })

pub any-key : (t : ℕ → Bool) {k : ℕ} (ks : List ℕ) → Memᴰ k ks → t k ≡ true → any_key t ks ≡ true
unfolding any_key
any-key t [] m e = elim m [ ]
any-key t (x ∷ ks) (Memᴰ.head z) e = rw (← z, e)
any-key t (x ∷ ks) (Memᴰ.tail m) e = rw (any-key t ks m e, or-true (t x))

pub in_map : {A B : Type 0} (g : A → B) {x : A} (xs : List A) → Memᴰ x xs → Memᴰ (g x) (map g xs)
in_map g [] m = elim m [ ]
in_map g (y ∷ ys) (Memᴰ.head e) = Memᴰ.head (ap g e)
in_map g (y ∷ ys) (Memᴰ.tail m) = Memᴰ.tail (in_map g ys m)
