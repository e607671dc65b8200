-- The lines of a block and of refusals, put into an output.
use mathlib.Core.Path.{◌≡◌, refl, sym, subst, ◌∙◌}
use mathlib.Core.List.{List, [], ◌∷◌, map}
use Prim.Native.Nat.{ℕ, ◌+◌, ◌*◌, ◌<◌, ◌≤◌}
use native.Mathlib.Nat.{zero-add}
use native.Mathlib.Omega.{arith}
use lib.ListN.{length, take, length-append}
use lib.Seq.{sets, sets-eq}
use borrow.Author.Tests.{lt-ltb, le-ltb}
use Rattle.text.specs.Hex.{hex_line}
use Rattle.text.specs.declared.Line.{Line}
use Rattle.text.proofs.RoundTrip.{length_hex}
use Rattle.automaton.specs.Flags.{Rejects}
use Rattle.program.specs.Sizes.{marks_most}
use Rattle.program.specs.declared.sizes.Sizes.{Sizes}
use Rattle.program.specs.Chosen.{sizes_of, numbers, Admitted}
use Rattle.program.specs.Program.{Program}
use Rattle.program.specs.Writing.{text}
use Rattle.program.specs.Decoded.{program_of}
use Rattle.program.specs.Verdicts as verdict
use Rattle.std.specs.Prelude.{None, Some}
use Rattle.checks.specs.Checked.{Passed}
use Rattle.program.specs.Checks.{checked}
use Rattle.program.specs.declared.DecodedProgram.{DecodedProgram}
use Rattle.reach.specs.Configurations.{Usable, state_of}
use Rattle.reach.proofs.Numbers.{state_small}
use Rattle.reach.specs.Marks.{violations_from}
use Rattle.base.specs.Flags.{count_set}
use Rattle.writer.specs.Parts.{Put}
use Rattle.writer.proofs.FramesPut.{put_both}
use Rattle.listing.specs.Listing.{listed_from, listing, line_size}
use Rattle.listing.proofs.ListingPut.{frames_long}
use Rattle.report.specs.Report.{violation_frame, count_frame, block_at, block_size, block_by, block_text, line_within, Printed}
use Rattle.report.proofs.Theorems.{violations_limited, block_limited}

-- ---- a line of a refusal

pub no_line_printed : (l o : List ℕ) → length o < line_size → Printed (line_within l (length o)) o o 0
no_line_printed l o h = rw (lt-ltb (length o) line_size h) (refl, refl)

-- what `put_line` gives at the output's start
pub line_printed : {out : List ℕ} {r : ℕ} (o : List ℕ) (l : Line) (f : List ℕ) → l.count ≡ length f → take l.count l.numbers ≡ f → length f ≤ 5 → line_size ≤ length o
    → (r ≡ 0 + 2 * l.count + 1) × (out ≡ sets o 0 (hex_line (take l.count l.numbers))) → Printed (line_within (hex_line f) (length o)) o out r
line_printed {out} {r} o l f n w short room p =
    let k : length (hex_line f) ≡ 2 * length f + 1 = simp (length-append, length_hex) in
    let there : out ≡ sets o 0 (hex_line f) = rw w at p.1 in
    let past : r ≡ length (hex_line f) = omega (arith, p.0) in
    rw (le-ltb (length o) line_size room) (past, there ∙ sets-eq (hex_line f) o 0 (omega arith) ∙ rw zero-add)

-- ---- the violations, a line each

module _ {Z : Sizes} (U : Usable Z) (A : Admitted Z) (p : Program) {flags : List ℕ} (r : Rejects p.automaton flags) where
  pub listed_violations : (marks : List ℕ) (i : ℕ) → listed_from Z flags marks i ≡ violations_from Z p marks i
  unfolding listed_from violations_from
  listed_violations [] i = refl
  listed_violations (b ∷ bs) i =
      rw (r.rejects (state_of Z i) (omega (arith, A.states, state_small Z U i)), listed_violations bs (i + 1))

  -- after them a block has room for the counts
  pub violations_short : (marks : List ℕ) → length marks ≡ numbers Z → length (text (listing 0x58 Z flags marks)) ≤ line_size * marks_most
  violations_short marks h =
      rw (listed_violations marks 0) (omega (arith, frames_long 0x58 Z (violations_from Z p marks 0), violations_limited Z U p marks, A.product))

-- ---- the whole block

pub block_put : {o a out : List ℕ} {at r c v : ℕ} (Z : Sizes) (U : Usable Z) (A : Admitted Z) (p : Program) (marks : List ℕ) → length marks ≡ numbers Z → block_size ≤ length o
    → c ≡ count_set marks → v ≡ length (violations_from Z p marks 0)
    → Put (map (violation_frame Z) (violations_from Z p marks 0)) o a 0 at
    → Put (count_frame c v ∷ []) a out at r
    → Printed (block_at Z p marks) o out r
unfolding block_at
block_put {o = o} Z U A p marks h room e f x y =
    let w = put_both x (rw (e, f) at y) in
    (w.past ∙ zero-add _, w.there ∙ sets-eq (block_at Z p marks) o 0 (omega (arith, block_limited Z U A p marks h)) ∙ rw zero-add)

-- ---- the block, or nothing

pub no_block : (p : Program) (marks o : List ℕ) → length o < block_size → Printed (block_by verdict.Accepted p marks (length o)) o o 0
no_block p marks o h = rw (lt-ltb (length o) block_size h) (refl, refl)

pub whole_block : {out : List ℕ} {r : ℕ} {Z : Sizes} (p : Program) (marks o : List ℕ) → Z ≡ sizes_of p → block_size ≤ length o → Printed (block_at Z p marks) o out r
    → Printed (block_by verdict.Accepted p marks (length o)) o out r
whole_block {out} {r} p marks o e h x =
    rw (le-ltb (length o) block_size h) (subst (λ (z : Sizes). Printed (block_at z p marks) o out r) e x)

module _ (file marks : List ℕ) (room : ℕ) where
  pub refused_block : (n line : ℕ) → verdict.Refused n line ≡ checked file (Some (length marks)) None None → block_text file marks room ≡ []
  unfolding block_text
  refused_block n line h = rw (← h) refl

  pub accepted_block : (p : DecodedProgram) → Passed file (Some (length marks)) None None p → verdict.Accepted ≡ checked file (Some (length marks)) None None
      → block_text file marks room ≡ block_by verdict.Accepted (program_of p) marks room
  unfolding block_text
  accepted_block p k h = sym (λ i. block_by (h i) (k.program i) marks room)
