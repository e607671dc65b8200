-- What the functions that mark and set pending promise of each other; nothing here has to be believed.
use Rattle.std.specs.Prelude.{ℕ, zero, suc, ◌+◌, ◌*◌, ◌<◌, ◌≡◌, ◌≢◌, true, false, List, length, take}
use Rattle.base.specs.Bits.{bit}
use Rattle.program.specs.declared.sizes.Sizes.{Sizes}
use Rattle.reach.specs.Sizes.{summaries}
use Rattle.reach.specs.Worklist.{Worklist, mark_when, wake}
use Rattle.words.specs.Words.{word_bits, flags_of, NoneBelow}

-- room for a bit for each configuration, and for one for each summary, in any admitted sizes: flag i is bit i % 64 of
-- word i / 64, and has nothing to do with nodes or routines
abbrev pub pending_words : ℕ
pending_words = 256

abbrev pub known_words : ℕ
known_words = 64

-- the worklist of these marks, with a flag for each of them that the words of pending have, and of these summaries
abbrev pub working : List ℕ → List ℕ → List ℕ → ℕ → Worklist
working marks pending known iterations =
    record { marks = marks; pending = take (length marks) (flags_of pending); known = known; iterations = iterations }

-- the summaries as words too
abbrev pub worklist : Sizes → List ℕ → List ℕ → List ℕ → ℕ → Worklist
worklist z marks pending known iterations = working marks pending (take (summaries z) (flags_of known)) iterations

-- marks and pending become those that a step gives, whatever the summaries and the count
pub record Becomes (step : Worklist → Worklist) (marks pending marks' pending' : List ℕ) : Type 0 where
  pub becomes : (known : List ℕ) (n : ℕ) → working marks' pending' known n ≡ step (working marks pending known n)

-- where none below the one was pending, none below the other is now
abbrev pub Lowers : List ℕ → ℕ → List ℕ → ℕ → Type 0
Lowers pending low pending' low' = NoneBelow (flags_of pending) low → NoneBelow (flags_of pending') low'

-- a step for each number, k of them from x on
unfoldable pub each : (ℕ → Worklist → Worklist) → ℕ → ℕ → Worklist → Worklist
each f zero x s = s
each f (suc k) x s = each f k (suc x) (f x s)

-- the lowest state of a set; of the empty one there is none
pub record LowestOf (set s : ℕ) : Type 0 where
  pub below : (x : ℕ) → x < s → bit x set ≡ false
  pub found : set ≢ 0 → (bit s set ≡ true) × (s < word_bits)

-- the number base + x is marked where state x is in the set
abbrev pub mark_state : ℕ → ℕ → ℕ → Worklist → Worklist
mark_state set base x s = mark_when (bit x set) (base + x) s

-- the number of root x is woken, base being that of root 0
abbrev pub wake_at : ℕ → ℕ → ℕ → Worklist → Worklist
wake_at states base x s = wake (base + states * x) s
