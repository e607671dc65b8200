use Prim.Native.Nat.{ℕ, ◌-◌, ◌≤◌, ◌<◌}
use mathlib.Core.Path.{◌≡◌, refl}
use mathlib.Core.Bool.{true}
use mathlib.Core.List.{List}
use native.Mathlib.Omega.{arith}
use mathlib.Core.Option.{some, none}
use borrow.Author.Tests.{lt-ltb, le-ltb}
use Rattle.program.specs.declared.sizes.Sizes.{Sizes}
use Rattle.program.specs.Chosen.{numbers}
use Rattle.program.specs.Program.{Program}
use Rattle.base.specs.Searches.{seek}
use Rattle.blocked.specs.Blocks.{is_blocked, blocked_by, block_from}
use Rattle.blocked.proofs.EdgesSought.{Seeking, seek_start, seek_next, seek_here, seek_out}
use Rattle.blocked.proofs.search_marks.Goals as goal
use Rattle.blocked.proofs.search_marks.Goals.{In-loop-i}

module _ (Z : Sizes) (p : Program) (marks : List ℕ) {low i : ℕ} (s : Seeking (is_blocked Z p marks) (numbers Z) low i) where
  block_here : {k : ℕ} → i < numbers Z → is_blocked Z p marks i ≡ true → k ≡ blocked_by Z p i
      → block_from Z p marks low ≡ some (record { number = i; edge = k })
  unfolding block_from
  block_here h t e = rw (seek_here s h t, lt-ltb i (numbers Z) h, e) refl

  block_nowhere : numbers Z ≤ i → block_from Z p marks low ≡ none
  unfolding block_from
  block_nowhere h = rw (le-ltb (seek (is_blocked Z p marks) (numbers Z - low) low) (numbers Z) (seek_out s h)) refl

pub loop-i-init : goal.loop-i-init
loop-i-init c p t = seek_start _ _ _

-- a number of the marks is one of a configuration
numbered : (c : In-loop-i) → c.loop-i.i < numbers c.args.z
numbered c = let h = c.loop-i-test in omega (arith, c.requires.2)

pub cut_of-requires : goal.cut_of-requires
cut_of-requires c =
    (c.requires.0, c.requires.1, numbered (goal.at.cut_of-requires c).In-loop-i, c.requires.2, c.requires.3)

pub returns-in-Some : goal.returns-in-Some
returns-in-Some c p t =
    let told = c.in-Some.ensures p t in
    block_here _ p _ (c.loop-i.invariant p t) (numbered (goal.at.returns-in-Some c).In-loop-i) told.0 told.1

pub loop-i-preserved : goal.loop-i-preserved
loop-i-preserved c p t =
    let inside = numbered (goal.at.loop-i-preserved c).In-loop-i in
    seek_next (c.loop-i.invariant p t) inside (c.in_default.ensures p t)

pub returns : goal.returns
returns c p t =
    block_nowhere _ p _ (c.loop-i.invariant p t) (omega (arith, c.requires.2))
