-- The loop that follows what is pending: its head, a turn and its end.
use Prim.Native.Nat.{ℕ, ◌+◌, ◌*◌, ◌≤◌, ◌<◌}
use native.Mathlib.Omega.{arith}
use mathlib.Core.Path.{◌≡◌, refl, sym, subst, ◌∙◌}
use mathlib.Core.Logic.{◌⊎◌, inl, inr}
use mathlib.Core.List.{List}
use lib.ListN.{length, take}
use borrow.Author.Tests.{lt-ltb, le-ltb}
use Rattle.program.specs.Program.{Program}
use Rattle.reach.specs.Worklist.{lowest, take_one}
use Rattle.reach.specs.Marks.{within}
use Rattle.reach.proofs.LoopRuns.{Running, running_from, running_end, running_spent, running_turn}
use Rattle.words.specs.Words.{flags_of, FirstFlag}
use Rattle.words.proofs.FlagsAsked.{flags_length}
use Rattle.marking.specs.Parts.{worklist}
use Rattle.iteration.specs.Parts.{Tables}
use Rattle.worklist.specs.Parts.{followed, Begun}
use Rattle.worklist.proofs.LowestFound.{first_lowest}
use Rattle.program.specs.declared.sizes.Sizes.{Sizes}
use Rattle.reach.specs.Configurations.{Usable}

module _ (Z : Sizes) (U : Usable Z) where
  -- ---- its turns

  -- for every program that these bytes are of, they are on the way to what so many iterations give; there is a flag for each mark
  pub record Going (limit : ℕ) (keys index next m₀ w₀ k₀ m w k : List ℕ) (n at : ℕ) : Type 0 where
    pub room : length m₀ ≤ length w₀ * 64
    pub marks-length : length m ≡ length m₀
    pub pending_length : length w ≡ length w₀
    pub known_length : length k ≡ length k₀
    pub first : FirstFlag (flags_of w) at
    pub running : (p : Program) → Begun Z p keys index next m₀ w₀ k₀ → Running Z U p limit (followed Z limit p m₀ w₀ k₀) (worklist Z m w k n)

  pub going_start : (limit : ℕ) {keys index next m w k : List ℕ} {at : ℕ} → length m ≤ length w * 64 → FirstFlag (flags_of w) at
      → Going limit keys index next m w k m w k 0 at
  going_start limit {m = m} {w = w} {k = k} h f =
      record {
        room = h;
        marks-length = refl;
        pending_length = refl;
        known_length = refl;
        first = f;
        running = λ q x. running_from Z U q limit (worklist Z m w k 0) x.shape refl;
      }

  module _ {limit : ℕ} {keys index next m₀ w₀ k₀ m w k : List ℕ} {n at : ℕ} (g : Going limit keys index next m₀ w₀ k₀ m w k n at) where
    found : lowest (take (length m) (flags_of w)) 0 ≡ within (length m) at
    found = first_lowest (flags_of w) (length m) at (omega (arith, flags_length w, g.room, g.marks-length, g.pending_length)) g.first

    pub going_turn : at < length m₀ → n < limit → {m' w' k' : List ℕ} {at' : ℕ}
        → ((p : Program) → Tables Z p keys index next → (c : ℕ) → worklist Z m' w' k' (c + 1) ≡ take_one Z p at (worklist Z m w k c))
        → length m' ≡ length m → length w' ≡ length w → length k' ≡ length k → FirstFlag (flags_of w') at'
        → Going limit keys index next m₀ w₀ k₀ m' w' k' (n + 1) at'
    going_turn h more t a b c f =
        record {
          room = g.room;
          marks-length = a ∙ g.marks-length;
          pending_length = b ∙ g.pending_length;
          known_length = c ∙ g.known_length;
          first = f;
          running = λ p e.
              subst (Running Z U p limit (followed Z limit p m₀ w₀ k₀)) (sym (t p e.tables n))
              (running_turn Z U (g.running p e) at (found ∙ rw (lt-ltb at (length m) (omega (arith, g.marks-length)))) more);
        }

    -- nothing is pending, or the limit is reached
    pub going_end : (length m₀ ≤ at) ⊎ (limit ≤ n) → (p : Program) → Begun Z p keys index next m₀ w₀ k₀ → worklist Z m w k n ≡ followed Z limit p m₀ w₀ k₀
    going_end (inl h) p e = running_end Z U (g.running p e) (found ∙ rw (le-ltb at (length m) (omega (arith, g.marks-length))))
    going_end (inr h) p e = running_spent Z U (g.running p e) h
