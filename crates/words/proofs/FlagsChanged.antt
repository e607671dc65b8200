-- A flag is set or cleared by a change of one word.
use mathlib.Core.Path.{◌≡◌, sym, ◌∙◌}
use mathlib.Core.List.{List}
use Prim.Native.Nat.{ℕ, ◌/◌, ◌%◌, ◌≤◌, ◌<◌}
use native.Mathlib.Omega.{arith}
use native.Mathlib.Decide.{ℕ_discrete}
use lib.ListN.{length, get_or, set, length-set}
use lib.Seq.{get_or-set_same, get_or-set_other, set_out, ext_get_or}
use Rattle.base.specs.Bits.{with_bit, without_bit}
use Rattle.words.specs.Words.{flags_of}
use Rattle.words.proofs.BitsChanged.{Changed, set_changed, clear_changed}
use Rattle.words.proofs.FlagsAsked.{flags_length, flag_at}

-- the one bit of the word is the flag, and the other bits are the other flags
module _ (ws : List ℕ) (i v x : ℕ) (h : i / 64 < length ws) (c : Changed (i % 64) x (get_or ws (i / 64) 0) v) where
  same_length : length (flags_of (set ws (i / 64) v)) ≡ length (set (flags_of ws) i x)
  same_length = omega (arith, flags_length (set ws (i / 64) v), length-set ws (i / 64) v, flags_length ws, length-set (flags_of ws) i x)

  same_flag : (j : ℕ) → get_or (flags_of (set ws (i / 64) v)) j 0 ≡ get_or (set (flags_of ws) i x) j 0
  same_flag j =
      flag_at (set ws (i / 64) v) j ∙
      elim (ℕ_discrete j i) [
        | yes e ↦
            let l : i < length (flags_of ws) = omega (arith, flags_length ws) in
            rw (e, get_or-set_same ws (i / 64) v 0 h, get_or-set_same (flags_of ws) i x 0 l) c.here
        | no e ↦
            rw (get_or-set_other (flags_of ws) i j x 0 e, flag_at ws j)
            (elim (ℕ_discrete (j / 64) (i / 64)) [
              | yes d ↦ rw (d, get_or-set_same ws (i / 64) v 0 h) (c.others (j % 64) (λ m. e (omega arith)))
              | no d ↦ rw (get_or-set_other ws (i / 64) (j / 64) v 0 d)
            ])
      ]

  pub changed_flags : flags_of (set ws (i / 64) v) ≡ set (flags_of ws) i x
  changed_flags = ext_get_or 0 (flags_of (set ws (i / 64) v)) (set (flags_of ws) i x) same_length (λ j k. same_flag j)

module _ (ws : List ℕ) (i : ℕ) (h : i / 64 < length ws) where
  pub set_flags : flags_of (set ws (i / 64) (with_bit (i % 64) (get_or ws (i / 64) 0))) ≡ set (flags_of ws) i 1
  set_flags =
      let w = get_or ws (i / 64) 0 in
      changed_flags ws i (with_bit (i % 64) w) 1 h (set_changed (i % 64) w)

  pub clear_flags : flags_of (set ws (i / 64) (without_bit (i % 64) (get_or ws (i / 64) 0))) ≡ set (flags_of ws) i 0
  clear_flags =
      let w = get_or ws (i / 64) 0 in
      changed_flags ws i (without_bit (i % 64) w) 0 h (clear_changed (i % 64) w)

-- past the end there is no flag to change
pub past_flags : (ws : List ℕ) (i x : ℕ) → length ws ≤ i / 64 → flags_of ws ≡ set (flags_of ws) i x
past_flags ws i x h = sym (set_out (flags_of ws) i x (omega (arith, flags_length ws)))
