-- The calls and returns that are not heard leave every state alone: place i of the table stands for label i / 16 and
-- state i % 16. With these sets the table has all answers.
use mathlib.Core.Path.{◌≡◌, refl, sym, ap, ◌∙◌}
use mathlib.Core.Bool.{Bool, true, false, cond, not, ◌&&◌, and-false}
use mathlib.Core.List.{List, [], ◌∷◌}
use Prim.Native.Nat.{ℕ, ◌+◌, ◌*◌, ◌/◌, ◌%◌, ◌≤◌, ◌<◌}
use native.Mathlib.Omega.{arith}
use lib.Dec.{ltb, leb, eqb}
use lib.ListN.{get_or, get_or-eq_default}
use borrow.Author.Tests.{ltb-true, ltb-false, le-ltb, le-leb, lt-leb}
use Rattle.base.specs.Bits.{bit, with_bit}
use Rattle.base.specs.Filled.{Filled}
use Rattle.base.proofs.Bools.{neither, both}
use Rattle.base.proofs.BitsSet.{bit_with, short_bit}
use Rattle.base.proofs.BytesFilled.{Filling}
use Rattle.automaton.specs.Sizes.{max_states, first_call, max_labels, next_states_size}
use Rattle.automaton.specs.Automaton.{Transition, Automaton, event_fits, listed, heard, stays, moves_by}
use Rattle.automaton.specs.NextStates.{in_range, moves_on, Answers, Ranged, Sets, Listed, Heard, stayed_at}
use Rattle.automaton.proofs.EventsHeard.{listed_in}
use Rattle.automaton.proofs.LabelsFit.{event_small}

-- ---- the loop: each place from the first call on gets its set

abbrev pub stayed : ℕ → ℕ → ℕ → List ℕ → List ℕ → ℕ → ℕ
stayed routines states actions hs old j =
    cond (leb (first_call * max_states) j) (stayed_at routines states actions hs j (get_or old j 0)) (get_or old j 0)

pub stayed_start : (routines states actions : ℕ) (hs old : List ℕ) → Sets old
    → Filling (stayed routines states actions hs old) next_states_size old old (first_call * max_states)
stayed_start routines states actions hs old w =
    record { len = w.size; written = λ j h. rw (lt-leb (first_call * max_states) j h); left = λ j h. refl }

pub stayed_value : (routines states actions : ℕ) (hs old : List ℕ) (j v : ℕ) → first_call * max_states ≤ j
    → v ≡ stayed_at routines states actions hs j (get_or old j 0) → v ≡ stayed routines states actions hs old j
stayed_value routines states actions hs old j v h e = rw (le-leb (first_call * max_states) j h) e

-- ---- what is in range

not_listed : (q l s : ℕ) (ts : List Transition) → heard l ts ≡ false → listed q l s ts ≡ false
unfolding heard listed
not_listed q l s [] e = refl
not_listed q l s (t ∷ ts) e =
    let k = neither (eqb t.label l) (heard l ts) e in
    rw (k.0, and-false (eqb t.before q), not_listed q l s ts k.1)

module _ (r : Automaton) (routines : ℕ) (ranged : Ranged r routines) where
  abbrev ts : List Transition
  ts = r.transitions

  abbrev within : ℕ → ℕ → Bool
  within q l = in_range routines r.states r.actions q l

  listed_ranged : (q l s : ℕ) → listed q l s ts ≡ true → (within q l ≡ true) × (s < max_states)
  listed_ranged q l s e =
      let k = ranged.transition _ (listed_in q l s ts e) in
      let b = ranged.states in
      (k.0, omega (arith, k.1))

  -- what is listed is in range
  pub in_range_listed : (q l s : ℕ) → listed q l s ts ≡ within q l && listed q l s ts
  in_range_listed q l s = go (listed q l s ts) refl
    where
      go : (b : Bool) → listed q l s ts ≡ b → b ≡ within q l && b
      go true e = rw (listed_ranged q l s e).0
      go false e = sym (and-false (within q l))

  module _ {old : List ℕ} (o : Listed ts old) where
    old_bit : (q l s : ℕ) → q < max_states → l < max_labels → bit s (get_or old (l * max_states + q) 0) ≡ listed q l s ts
    old_bit q l s hq hl = go (ltb s max_states) (listed q l s ts) refl refl
      where
        go : (b c : Bool) → ltb s max_states ≡ b → listed q l s ts ≡ c → bit s (get_or old (l * max_states + q) 0) ≡ listed q l s ts
        go true c e f = o.listed_at q l s hq hl (ltb-true s max_states e)
        go false true e f = let h = ltb-false s max_states e in absurd (omega (arith, (listed_ranged q l s f).1))
        go false false e f =
            short_bit max_states s (get_or old (l * max_states + q) 0) (o.shape.small (l * max_states + q)) (ltb-false s max_states e) ∙ sym f

    module _ {hs sets : List ℕ} (h : Heard ts hs) (w : Filled (stayed routines r.states r.actions hs old) next_states_size sets) where
      -- a call or a return
      by_label : (q l s : ℕ) → q < max_states → first_call ≤ l → l < max_labels
          → bit s (stayed_at routines r.states r.actions hs (l * max_states + q) (get_or old (l * max_states + q) 0)) ≡ within q l && moves_by r q l s
      by_label q l s hq low hl =
          let u : (l * max_states + q) / max_states ≡ l = omega arith in
          let v : (l * max_states + q) % max_states ≡ q = omega arith in
          rw (u, v, h.heard_at l hl) (go (heard l ts) (within q l) refl refl)
        where
          go : (b c : Bool) → heard l ts ≡ b → within q l ≡ c
              → bit s (cond (not b && c) (with_bit q (get_or old (l * max_states + q) 0)) (get_or old (l * max_states + q) 0)) ≡ c && cond b (listed q l s ts) (stays r q s)
          go true c e f = old_bit q l s hq hl ∙ in_range_listed q l s ∙ ap (λ (b : Bool). b && listed q l s ts) f
          go false true e f =
              bit_with s q (get_or old (l * max_states + q) 0)
              ∙ rw (old_bit q l s hq hl, not_listed q l s ts e, (both (ltb q r.states) _ f).0)
          go false false e f = old_bit q l s hq hl ∙ not_listed q l s ts e

      inside : (q l s : ℕ) → q < max_states → l < max_labels → (b : Bool) → ltb l first_call ≡ b
          → bit s (get_or sets (l * max_states + q) 0) ≡ within q l && cond b (listed q l s ts) (moves_by r q l s)
      inside q l s hq hl true e =
          let k = ltb-true l first_call e in
          rw (w.byte (l * max_states + q) (omega arith), lt-leb (first_call * max_states) (l * max_states + q) (omega arith))
          (old_bit q l s hq hl ∙ in_range_listed q l s)
      inside q l s hq hl false e =
          let k = ltb-false l first_call e in
          rw (w.byte (l * max_states + q) (omega arith), le-leb (first_call * max_states) (l * max_states + q) (omega arith))
          (by_label q l s hq k hl)

      -- outside the sizes nothing is in range, and there is no set
      outside : (q l s : ℕ) → max_labels ≤ l → bit s (get_or sets (l * max_states + q) 0) ≡ within q l && moves_on r q l s
      outside q l s hl = rw (get_or-eq_default sets 0 {n = l * max_states + q} (omega (arith, w.len)), short_bit 0 s 0 (omega arith) (omega arith)) (go (event_fits routines r.actions l) refl)
        where
          go : (b : Bool) → event_fits routines r.actions l ≡ b → false ≡ ltb q r.states && b && moves_on r q l s
          go true e = absurd (omega (arith, event_small routines r.actions ranged.actions ranged.calls l e))
          go false e = rw (and-false (ltb q r.states))

      answered : (q l s : ℕ) (b c : Bool) → ltb q max_states ≡ b → ltb l max_labels ≡ c
          → bit s (cond b (get_or sets (l * max_states + q) 0) 0) ≡ within q l && moves_on r q l s
      answered q l s true true e f = inside q l s (ltb-true q max_states e) (ltb-true l max_labels f) (ltb l first_call) refl
      answered q l s true false e f = outside q l s (ltb-false l max_labels f)
      answered q l s false c e f =
          let k = ltb-false q max_states e in
          let t = ranged.states in
          rw (short_bit 0 s 0 (omega arith) (omega arith), le-ltb q r.states (omega arith))

      pub stayed_all : Answers r routines sets
      stayed_all = record { size = w.len; bits = λ q l s. answered q l s (ltb q max_states) (ltb l max_labels) refl refl }
