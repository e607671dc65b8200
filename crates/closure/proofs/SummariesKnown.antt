-- The known summaries are those of the marked exits: what their flags say of each other.
use Prim.Native.Nat.{ℕ, ◌<◌}
use mathlib.Core.Path.{◌≡◌, ap, ◌∙◌}
use mathlib.Core.Bool.{cond}
use mathlib.Core.List.{List}
use native.Mathlib.Omega.{arith}
use lib.ListN.{get_or, take}
use borrow.Author.Tests.{ne_eqb, eq-eqb}
use Rattle.reach.specs.Configurations.{number}
use Rattle.reach.specs.Worklist.{summary}
use Rattle.reach.proofs.Numbers.{summary_fits, exit_summary}
use Rattle.base.specs.Flags.{is_set, On}
use Rattle.reach.specs.Sizes.{summaries}
use Rattle.words.specs.Words.{flags_of}
use Rattle.closure.specs.Parts.{Learnt}
use Rattle.program.specs.declared.sizes.Sizes.{Sizes}
use Rattle.reach.specs.Configurations.{Usable}

module _ (Z : Sizes) (U : Usable Z) where
  module _ (marks : List ℕ) {known : List ℕ} (l : Learnt Z marks known) (g r q : ℕ) (hg : g < Z.routines) (hr : r < Z.states) (hq : q < Z.states) where
    exit_flag : get_or (take (summaries Z) (flags_of known)) (summary Z g r q) 0 ≡ cond (is_set marks (number Z g 1 r q)) 1 0
    exit_flag =
        l.flags.byte (summary Z g r q) (summary_fits Z g r q hg hr hq) ∙ ap (λ (i : ℕ). cond (is_set marks i) 1 0) (exit_summary Z U g r q hr hq)

    pub exit_known : On marks (number Z g 1 r q) → On (take (summaries Z) (flags_of known)) (summary Z g r q)
    exit_known o =
        let e : get_or (take (summaries Z) (flags_of known)) (summary Z g r q) 0 ≡ 1 = exit_flag ∙ rw (ne_eqb (get_or marks (number Z g 1 r q) 0) 0 o.on) in
        record { on = λ z. omega (arith, e) }

    pub exit_marked : On (take (summaries Z) (flags_of known)) (summary Z g r q) → On marks (number Z g 1 r q)
    exit_marked o = record { on = λ z. o.on (exit_flag ∙ rw (eq-eqb (get_or marks (number Z g 1 r q) 0) 0 z)) }
