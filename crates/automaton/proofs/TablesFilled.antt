-- Tables of flags that a loop fills: it takes entries in turn and sets one flag for each.
use mathlib.Core.Path.{◌≡◌, refl}
use mathlib.Core.List.{List, map}
use Prim.Native.Nat.{ℕ, ◌+◌, ◌≤◌, ◌<◌}
use native.Mathlib.Omega.{arith}
use lib.Dec.{eqb}
use lib.ListN.{length, get_or, set, replicate, length-set, length-replicate}
use Rattle.base.specs.Flags.{is_set}
use Rattle.tables.specs.Keys.{member}
use Rattle.base.proofs.EntriesInUse.{Asks}
use Rattle.tables.proofs.KeysAsked.{asks_member}
use Rattle.automaton.specs.Sizes.{max_states, max_labels}
use Rattle.automaton.specs.Automaton.{Transition, heard}
use Rattle.automaton.specs.Decoded.{transition_of}
use Rattle.automaton.specs.Flags.{Lists}
use Rattle.automaton.specs.NextStates.{Heard}
use Rattle.base.proofs.FlagsDecided.{Deciding, deciding_none, deciding_more, deciding_all, set_sets, unset_flag}

-- ---- the flags of the labels that are heard, the first i keys taken

asks_heard : (l : ℕ) → Asks (λ ks. heard l (map transition_of ks)) (λ k. eqb (transition_of k).label l)
unfolding heard
asks_heard l = record { empty = refl; first = λ x xs. refl }

pub record Hearing (keys : List ℕ) (i : ℕ) (flags : List ℕ) : Type 0 where
  pub size : length flags ≡ max_labels
  pub flag : (l : ℕ) → l < max_labels → Deciding (λ ks. heard l (map transition_of ks)) keys i (is_set flags l)

pub hearing_none : (keys : List ℕ) → Hearing keys 0 (replicate max_labels 0)
hearing_none keys =
    record {
      size = length-replicate {A = ℕ} max_labels 0;
      flag = λ l h. deciding_none (λ ks. heard l (map transition_of ks)) keys (unset_flag max_labels l h);
    }

module _ {keys : List ℕ} {i : ℕ} {flags : List ℕ} (t : Hearing keys i flags) where
  pub hearing_more : {l : ℕ} → l ≡ (transition_of (get_or keys i 0)).label → i < length keys → Hearing keys (i + 1) (set flags l 1)
  hearing_more {l} e h =
      record {
        size = simp length-set t.size;
        flag = λ x b. deciding_more (asks_heard x) (t.flag x b) h (rw (← e) (set_sets flags l x (omega (arith, t.size))));
      }

  pub hearing_all : {ts : List Transition} → length keys ≤ i → ts ≡ map transition_of keys → Heard ts flags
  hearing_all h e = record { heard_at = λ l b. rw e (deciding_all (asks_heard l) (t.flag l b) h) }

-- ---- the flags of a list's states, the first i of them taken

pub record Members (list : List ℕ) (i : ℕ) (flags : List ℕ) : Type 0 where
  pub size : length flags ≡ max_states
  pub flag : (q : ℕ) → q < max_states → Deciding (member q) list i (is_set flags q)

pub members_none : (list : List ℕ) → Members list 0 (replicate max_states 0)
members_none list = record { size = refl; flag = λ q h. deciding_none (member q) list (unset_flag max_states q h) }

module _ {list : List ℕ} {i : ℕ} {flags : List ℕ} (m : Members list i flags) where
  pub members_more : i < length list → Members list (i + 1) (set flags (get_or list i 0) 1)
  members_more h =
      record {
        size = simp length-set m.size;
        flag = λ q l. deciding_more (asks_member q) (m.flag q l) h (set_sets flags (get_or list i 0) q (omega (arith, m.size)));
      }

  pub members_all : length list ≤ i → Lists list flags
  members_all h = record { lists = λ q l. deciding_all (asks_member q) (m.flag q l) h }
