-- The keys of a table, and the edges that they stand for.
use mathlib.Core.Path.{◌≡◌, refl, ap, sym, ◌∙◌}
use mathlib.Core.Bool.{Bool, true, false, cond}
use mathlib.Core.List.{List, [], ◌∷◌, map}
use Prim.Native.Nat.{ℕ, ◌+◌}
use native.Mathlib.Omega.{arith}
use lib.Dec.{ltb, eqb}
use borrow.Author.Tests.{ltb-true, ltb-false, eqb-true, eqb-false, lt-ltb, le-ltb, eq-eqb, ne_eqb}
use Rattle.tables.specs.Keys.{member, inserted_key, between, without_between, without_key}
use Rattle.tables.proofs.TableChanged.{between_next, without_next}
use Rattle.program.specs.Program.{Edge}
use Rattle.program.specs.Frames.{packed, edge_key}
use Rattle.program.specs.Decoded.{edge_of}
use Rattle.edit.specs.Editing.{same_edge, has_edge, without, inserted}
use Rattle.edit.proofs.EdgesRemaining.{remaining, without_remaining}
use Rattle.edit.proofs.EditsWellFormed.{same_self, same_equal}

-- ---- two keys

-- the number of an edge's parts, in base 256
abbrev word : Edge → ℕ
word e = packed e.routine e.source e.label e.target

word_edge : (k : ℕ) → word (edge_of k) ≡ k
word_edge k = omega arith

same_word : (a b : ℕ) → same_edge (edge_of a) (edge_of b) ≡ eqb a b
same_word a b = go (eqb a b) refl
  where
    apart : (t : Bool) → same_edge (edge_of a) (edge_of b) ≡ t → (a ≡ b → ⊥) → t ≡ false
    apart true e n = absurd (n (sym (word_edge a) ∙ ap word (same_equal (edge_of a) (edge_of b) e) ∙ word_edge b))
    apart false e n = refl

    go : (t : Bool) → eqb a b ≡ t → same_edge (edge_of a) (edge_of b) ≡ t
    go true e = rw (eqb-true a b e) (same_self (edge_of b))
    go false e = apart (same_edge (edge_of a) (edge_of b)) refl (eqb-false a b e)

pub below_word : (a b : ℕ) → ltb (edge_key (edge_of a)) (edge_key (edge_of b)) ≡ ltb a b
below_word a b = go (ltb a b) refl
  where
    go : (t : Bool) → ltb a b ≡ t → ltb (edge_key (edge_of a)) (edge_key (edge_of b)) ≡ t
    go true e = lt-ltb (edge_key (edge_of a)) (edge_key (edge_of b)) (omega (arith, ltb-true a b e, word_edge a, word_edge b))
    go false e = le-ltb (edge_key (edge_of a)) (edge_key (edge_of b)) (omega (arith, ltb-false a b e, word_edge a, word_edge b))

eqb_swap : (a b : ℕ) → eqb a b ≡ eqb b a
eqb_swap a b = go (eqb b a) refl
  where
    go : (t : Bool) → eqb b a ≡ t → eqb a b ≡ t
    go true e = eq-eqb a b (sym (eqb-true b a e))
    go false e = ne_eqb a b (λ z. eqb-false b a e (sym z))

-- ---- tables

module _ (key : ℕ) where
  pub edges_member : (ks : List ℕ) → member key ks ≡ has_edge (edge_of key) (map edge_of ks)
  unfolding member has_edge
  edges_member [] = refl
  edges_member (k ∷ ks) = rw (same_word key k, eqb_swap key k, edges_member ks)

  pub edges_inserted : (ks : List ℕ) → map edge_of (inserted_key key ks) ≡ inserted (edge_of key) (map edge_of ks)
  unfolding inserted_key inserted
  edges_inserted [] = refl
  edges_inserted (k ∷ ks) = rw (below_word key k) (go (ltb key k) (edges_inserted ks))
    where
      go : (b : Bool) → map edge_of (inserted_key key ks) ≡ inserted (edge_of key) (map edge_of ks)
          → map edge_of (cond b (key ∷ k ∷ ks) (k ∷ inserted_key key ks))
          ≡ cond b (edge_of key ∷ edge_of k ∷ map edge_of ks) (edge_of k ∷ inserted (edge_of key) (map edge_of ks))
      go true h = refl
      go false h = rw h

-- where the keys between two numbers are those of the edges that meet a test
pub edges_between : (low high : ℕ) (t : Edge → Bool) → ((k : ℕ) → between low high k ≡ t (edge_of k))
    → (ks : List ℕ) → map edge_of (without_between low high ks) ≡ remaining t (map edge_of ks)
unfolding without_between remaining
edges_between low high t same [] = refl
edges_between low high t same (k ∷ ks) = rw (← (same k)) (go (between low high k) (edges_between low high t same ks))
  where
    go : (b : Bool) → map edge_of (without_between low high ks) ≡ remaining t (map edge_of ks)
        → map edge_of (cond b (without_between low high ks) (k ∷ without_between low high ks))
        ≡ cond b (remaining t (map edge_of ks)) (edge_of k ∷ remaining t (map edge_of ks))
    go true h = h
    go false h = rw h

pub edges_without : (key : ℕ) (ks : List ℕ) → map edge_of (without_key key ks) ≡ without (edge_of key) (map edge_of ks)
edges_without key ks =
    rw (← (without_next key ks), without_remaining (edge_of key) (map edge_of ks))
    (edges_between key (key + 1) (same_edge (edge_of key)) (λ k. between_next key k ∙ sym (same_word key k)) ks)
