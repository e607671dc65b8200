-- A program's frames are the one text that meets their rules.
use mathlib.Core.Path.{◌≡◌, refl, sym, subst, ap, ◌∙◌}
use mathlib.Core.Logic.{◌↔◌}
use mathlib.Core.Bool.{false}
use mathlib.Core.List.Memᴰ
use mathlib.Core.List.{List, map, map-map, Memᴰ}
use Prim.Native.Nat.{ℕ, ◌+◌, ◌<◌}
use native.Mathlib.Omega.{arith}
use lib.ListN.{length, length-map}
use Rattle.text.specs.Lines.{lines, Bytes}
use Rattle.base.specs.Flags.{count_set}
use Rattle.base.proofs.SetFlags.{on_lt}
use Rattle.tables.specs.Keys.{Ascending}
use Rattle.program.specs.Chosen.{numbers}
use Rattle.program.specs.Program.{Program}
use Rattle.program.specs.WellFormed.{WellFormed}
use Rattle.reach.specs.declared.configuration.Configuration.{Configuration}
use Rattle.reach.specs.Configurations.{routine_of, node_of, root_of, state_of}
use Rattle.reach.specs.Ranged.{Ranged}
use Rattle.reach.specs.Runs.{Occurs}
use Rattle.reach.specs.Marks.{Shows}
use Rattle.reach.proofs.Numbers.{number-of, routine-of, node-of, root-of, state-of}
use Rattle.reach.proofs.MarksShown.{one_of, shown_at, fresh_shows, occurs_in_range, few_marks}
use Rattle.saved.specs.Saved.{old_sizes, too_large, old_marks, set_from, text_of, saved_text}
use Rattle.saved.specs.Rules.{FrameLines, Rising, Saves}
use Rattle.saved.proofs.OldSizes.{old_usable, old_numbers, old_sized}
use Rattle.saved.proofs.MarksListed.{length-set, set_ascends, listed_iff}
use Rattle.saved.proofs.LinesAsFrames.{frame_of, text_after, frames_text, text_frames}
use Rattle.saved.proofs.RisingByNumber.{number_of, Within, place_of, ascending_rises, rising_once}

-- the configuration of a number
abbrev parts_at : ℕ → Configuration
parts_at i = record { routine = routine_of old_sizes i; node = node_of old_sizes i; root = root_of old_sizes i; state = state_of old_sizes i }

-- and those of the bytes that are set
abbrev shown_by : List ℕ → List Configuration
shown_by marks = map parts_at (set_from marks 0)

parts_number : {c : Configuration} → Within old_sizes c → c ≡ parts_at (number_of old_sizes c)
parts_number h = λ i. record { routine = sym (routine-of h) i; node = sym (node-of h) i; root = sym (root-of h) i; state = sym (state-of h) i }

shown_ascend : (marks : List ℕ) → Ascending 0 (map (place_of old_sizes) (shown_by marks))
shown_ascend marks = simp (map-map, number-of) (set_ascends marks 0 0 (omega arith))

length_shown : (marks : List ℕ) → length (shown_by marks) ≡ count_set marks
length_shown marks = length-map (set_from marks 0) parts_at ∙ length-set marks 0

text_shown : (marks : List ℕ) → text_after 0 (shown_by marks) ≡ text_of marks
unfolding text_of
text_shown marks =
    let n : 0 + length (shown_by marks) ≡ count_set marks = omega (arith, length_shown marks) in
    rw (n, map-map frame_of parts_at (set_from marks 0))

within_bytes : {c : Configuration} → Within old_sizes c → Bytes (frame_of c)
within_bytes h = omega arith

-- ---- of a program: those that occur

module _ (p : Program) where
  abbrev own : List Configuration
  own = shown_by (old_marks p)

  abbrev Occurring : Configuration → Type 0
  Occurring c = Occurs p c.routine c.node c.root c.state

  module _ (w : WellFormed p) (old : too_large p ≡ false) where
    fits : Ranged old_sizes p
    fits = (old_sized p w old).ranged

    shows : Shows old_sizes (Occurs p) (old_marks p)
    shows = fresh_shows old_sizes old_usable p fits

    within : (c : Configuration) → Occurring c → Within old_sizes c
    within c o = occurs_in_range old_sizes old_usable p fits o

    own_exact : (c : Configuration) → Memᴰ c own ↔ Occurring c
    own_exact c = (to, from)
      where
        to : Memᴰ c own → Occurring c
        to m =
            let x = Memᴰ.of_map parts_at (set_from (old_marks p) 0) m in
            let o = (listed_iff (old_marks p) x.0).0 x.1 in
            let h : x.0 < numbers old_sizes = omega (arith, on_lt (old_marks p) x.0 o, shows.len) in
            subst Occurring x.2 ((shown_at old_sizes old_usable shows x.0 h).0 (one_of (shows.bit x.0) o.on))

        from : Occurring c → Memᴰ c own
        from o =
            let h = within c o in
            let e = (shows.shown h).1 o in
            Memᴰ.cast (parts_number h) (Memᴰ.map parts_at ((listed_iff (old_marks p) _).1 (record { on = λ z. omega arith })))

    own_rising : Rising own
    own_rising = ascending_rises old_sizes 0 own (λ c m. within c ((own_exact c).0 m)) (shown_ascend (old_marks p))

    own_frames : FrameLines 0 (lines (text_after 0 own)) own
    own_frames =
        text_frames own 0 (λ c m. within_bytes (within c ((own_exact c).0 m)))
        (omega (arith, length_shown (old_marks p), few_marks old_sizes old_usable p, old_numbers))

    pub by_rules : (s : List ℕ) → Saves p s ↔ (s ≡ saved_text p)
    by_rules s = (to, from)
      where
        to : Saves p s → s ≡ saved_text p
        to x =
            let e = rising_once old_sizes Occurring x.listed own within x.rising own_rising x.exact own_exact in
            frames_text x.frames s refl ∙ ap (text_after 0) e ∙ text_shown (old_marks p)

        from : s ≡ saved_text p → Saves p s
        from e =
            record {
              listed = own;
              frames = rw (e, ← (text_shown (old_marks p))) own_frames;
              rising = own_rising;
              exact = own_exact;
            }
