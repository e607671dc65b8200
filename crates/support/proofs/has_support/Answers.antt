-- `support::has_support` meets its contract.
use Rattle.std.proofs.Common.{◌≡◌, ◌∙◌, ◌&&◌, false, inl, inr}
use lib.Dec.{eqb}
use borrow.Author.Tests.{eq-eqb, ne_eqb}
use Rattle.support.proofs.PartSearched.{part_supports}
use Rattle.support.proofs.has_support.Goals as goal

pub returns-else-c-eq0 : goal.returns-else-c-eq0
returns-else-c-eq0 c =
    let k = c.args.c in
    let no-entry : eqb k.node 0 && eqb k.root k.state ≡ false =
    elim c.else-c-eq0.either [ inl w ↦ rw (eq-eqb _ _ w.0, ne_eqb _ _ w.1) | inr w ↦ rw (ne_eqb _ _ w) ] in
    c.supported-else-c-eq0.ensures ∙ part_supports _ _ _ _ _ _ _ no-entry c.requires.1
