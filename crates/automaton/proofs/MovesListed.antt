-- The sets of the moves that transitions list: a loop takes the transitions in turn and adds the state after each.
use mathlib.Core.Path.{◌≡◌, refl, sym, ◌∙◌}
use mathlib.Core.Bool.{Bool, true, false, ◌&&◌, ◌||◌, or-false, and-false}
use mathlib.Core.List.{List, map}
use Prim.Native.Nat.{ℕ, ◌+◌, ◌*◌, ◌^◌, ◌≤◌, ◌<◌}
use native.Mathlib.Omega.{arith}
use native.Mathlib.Decide.{ℕ_discrete}
use lib.Dec.{eqb, ltb}
use lib.ListN.{length, get_or, set, replicate, length-set, length-replicate, get_or-eq_default}
use lib.Seq.{get_or-set_same, get_or-set_other}
use borrow.Author.Tests.{eqb-true, eqb-false, eq-eqb, ne_eqb, ltb-true, ltb-false}
use Rattle.base.specs.Bits.{bit, with_bit}
use Rattle.base.proofs.SetFlags.{zeros}
use Rattle.base.proofs.BitsSet.{bit_with, with_short, short_bit}
use Rattle.base.proofs.EntriesInUse.{Asks}
use Rattle.base.proofs.FlagsDecided.{Deciding, deciding_none, deciding_more, deciding_all}
use Rattle.automaton.specs.Sizes.{max_states, max_labels, next_states_size}
use Rattle.automaton.specs.Automaton.{Transition, goes, listed}
use Rattle.automaton.specs.Decoded.{transition_of}
use Rattle.automaton.specs.NextStates.{Sets, Listed, with_transition}

-- ---- empty sets

pub empty_sets : Sets (replicate next_states_size 0)
empty_sets = record {
  size = length-replicate {A = ℕ} next_states_size 0;
  small = λ i. rw (zeros next_states_size i) (omega arith);
}

-- ---- one state more in the set at a place

module _ {sets : List ℕ} (w : Sets sets) where
  pub sets_more : (at v : ℕ) → v < 2 ^ max_states → Sets (set sets at v)
  sets_more at v h = record { size = length-set sets at v ∙ w.size; small = small }
    where
      small : (i : ℕ) → get_or (set sets at v) i 0 < 2 ^ max_states
      small i =
          elim (ℕ_discrete i at) [
            | yes e ↦ go i e (ltb i (length sets)) refl
            | no e ↦ rw (get_or-set_other sets at i v 0 e) (w.small i)
          ]
        where
          go : (i : ℕ) → i ≡ at → (b : Bool) → ltb i (length sets) ≡ b → get_or (set sets at v) i 0 < 2 ^ max_states
          go i e true f = rw (← e, get_or-set_same sets i v 0 (ltb-true i (length sets) f)) h
          go i e false f =
              let k = ltb-false i (length sets) f in
              rw (get_or-eq_default (set sets at v) 0 {n = i} (omega (arith, length-set sets at v))) (omega arith)

  pub state_short : (at s : ℕ) → s < max_states → with_bit s (get_or sets at 0) < 2 ^ max_states
  state_short at s h = with_short max_states s (get_or sets at 0) h (w.small at)

-- ---- one transition more

-- the parts of a place
parts : (q a x y : ℕ) → q < max_states → x < max_states → y * max_states + x ≡ a * max_states + q → (x ≡ q) × (y ≡ a)
parts q a x y hq hx e = (omega arith, omega arith)

module _ (t : Transition) {sets : List ℕ} (w : Sets sets) where
  abbrev at : ℕ
  at = t.label * max_states + t.before

  pub transition_sets : Sets (with_transition t sets)
  unfolding with_transition
  transition_sets = go (ltb t.before max_states) (ltb t.after max_states) refl refl
    where
      go : (b c : Bool) → ltb t.before max_states ≡ b → ltb t.after max_states ≡ c → Sets (with_transition t sets)
      go true true e f = rw (e, f) (sets_more w at _ (state_short w at t.after (ltb-true t.after max_states f)))
      go false c e f = rw e w
      go true false e f = rw (e, f) w

  module _ (q a s : ℕ) (hq : q < max_states) (ha : a < max_labels) (hs : s < max_states) where
    abbrev place : ℕ
    place = a * max_states + q

    goes_only : t.before < max_states → (b : Bool) → eqb at place ≡ b → goes q a s t ≡ b && eqb t.after s
    goes_only h true e =
        let p = parts q a t.before t.label hq h (eqb-true at place e) in
        rw (eq-eqb t.before q p.0, eq-eqb t.label a p.1)
    goes_only h false e = go (eqb t.before q) (eqb t.label a) refl refl
      where
        go : (b c : Bool) → eqb t.before q ≡ b → eqb t.label a ≡ c → goes q a s t ≡ false
        go true true f g =
            let x = eqb-true t.before q f in
            let y = eqb-true t.label a g in
            absurd (eqb-false at place e (omega arith))
        go false c f g = rw f
        go true false f g = rw (f, g)

    added : t.before < max_states → (b : Bool) → eqb at place ≡ b
        → bit s (get_or (set sets at (with_bit t.after (get_or sets at 0))) place 0) ≡ bit s (get_or sets place 0) || goes q a s t
    added h true e =
        let d = eqb-true at place e in
        rw (goes_only h true e, d, get_or-set_same sets place (with_bit t.after (get_or sets place 0)) 0 (omega (arith, w.size)))
        (bit_with s t.after (get_or sets place 0))
    added h false e =
        rw (goes_only h false e, get_or-set_other sets at place (with_bit t.after (get_or sets at 0)) 0 (λ d. eqb-false at place e (sym d)), or-false (bit s (get_or sets place 0)))

    pub transition_told : bit s (get_or (with_transition t sets) place 0) ≡ bit s (get_or sets place 0) || goes q a s t
    unfolding with_transition
    transition_told = go (ltb t.before max_states) (ltb t.after max_states) refl refl
      where
        go : (b c : Bool) → ltb t.before max_states ≡ b → ltb t.after max_states ≡ c
            → bit s (get_or (with_transition t sets) place 0) ≡ bit s (get_or sets place 0) || goes q a s t
        go true true e f = rw (e, f) (added (ltb-true t.before max_states e) (eqb at place) refl)
        go false c e f =
            let h = ltb-false t.before max_states e in
            rw (e, ne_eqb t.before q (λ d. omega arith), or-false (bit s (get_or sets place 0)))
        go true false e f =
            let h = ltb-false t.after max_states f in
            rw (e, f, ne_eqb t.after s (λ d. omega arith), and-false (eqb t.before q && eqb t.label a), or-false (bit s (get_or sets place 0)))

-- ---- the sets of a table's transitions, the first i keys taken

asks_listed : (q a s : ℕ) → Asks (λ ks. listed q a s (map transition_of ks)) (λ k. goes q a s (transition_of k))
unfolding listed
asks_listed q a s = record { empty = refl; first = λ x xs. refl }

pub record Allowed (keys : List ℕ) (i : ℕ) (sets : List ℕ) : Type 0 where
  pub shape : Sets sets
  pub told : (q a s : ℕ) → q < max_states → a < max_labels → s < max_states
      → Deciding (λ ks. listed q a s (map transition_of ks)) keys i (bit s (get_or sets (a * max_states + q) 0))

pub allowed_none : (keys : List ℕ) → Allowed keys 0 (replicate next_states_size 0)
allowed_none keys =
    record {
      shape = empty_sets;
      told = λ q a s hq ha hs. deciding_none (λ ks. listed q a s (map transition_of ks)) keys (no_bit (a * max_states + q) s);
    }
  where
    no_bit : (i s : ℕ) → bit s (get_or (replicate next_states_size 0) i 0) ≡ false
    no_bit i s = rw (zeros next_states_size i) (short_bit 0 s 0 (omega arith) (omega arith))

module _ {keys : List ℕ} {i : ℕ} {sets : List ℕ} (t : Allowed keys i sets) where
  pub allowed_more : i < length keys → Allowed keys (i + 1) (with_transition (transition_of (get_or keys i 0)) sets)
  allowed_more h =
      let x = transition_of (get_or keys i 0) in
      record {
        shape = transition_sets x t.shape;
        told = λ q a s hq ha hs. deciding_more (asks_listed q a s) (t.told q a s hq ha hs) h (transition_told x t.shape q a s hq ha hs);
      }

  pub allowed_all : {ts : List Transition} → length keys ≤ i → ts ≡ map transition_of keys → Listed ts sets
  allowed_all h e =
      record { shape = t.shape; listed_at = λ q a s hq ha hs. rw e (deciding_all (asks_listed q a s) (t.told q a s hq ha hs) h) }
