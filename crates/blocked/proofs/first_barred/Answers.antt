use Prim.Native.Nat.{◌+◌, ◌-◌}
use mathlib.Core.Path.{◌≡◌, sym, ap, ◌∙◌}
use native.Mathlib.Omega.{arith}
use lib.ListN.{length, get_or}
use borrow.Author.Tests.{eq-eqb, ne_eqb}
use Rattle.automaton.specs.NextStates.{set_at}
use Rattle.program.specs.Program.{Edge}
use Rattle.program.specs.Decoded.{edge_of}
use Rattle.base.specs.Searches.{seek}
use Rattle.index.specs.Index.{leaves}
use Rattle.base.proofs.NumbersSought.{seek_at_least}
use Rattle.blocked.specs.Parts.{first_key_of}
use Rattle.blocked.proofs.EdgesSought.{chain_start, chain_next, chain_here, chain_end}
use Rattle.blocked.proofs.first_barred.Goals as goal
use Rattle.blocked.proofs.first_barred.Goals.{After-next_after, After-next_edge-i}

pub loop-i-init : goal.loop-i-init
loop-i-init c =
    let k = c.args.c in
    chain_start _ _ _ (c.first_edge-i.ensures ∙ c.requires.0.first_edge k.routine k.node c.requires.1 c.requires.2)

-- the label is that of the edge
looked : (c : After-next_after)
    → let a = c.args in
    c.next_after.result ≡ set_at a.next.now a.c.state (edge_of (get_or a.keys.now c.loop-i.i 0)).label
looked c =
    let a = c.args in
    c.next_after.ensures ∙ ap (λ (e : Edge). set_at a.next.now a.c.state e.label) c.edge-e.ensures

pub returns-then-next_after-eq0 : goal.returns-then-next_after-eq0
unfolding first_key_of
returns-then-next_after-eq0 c =
    let h = c.loop-i-test in (
      chain_here _ _ c.loop-i.invariant (omega arith)
          (eq-eqb _ 0 (sym (looked (goal.at.returns-then-next_after-eq0 c).After-next_after) ∙ c.if-next_after-eq0.true)),
      omega arith,
    )

-- the index has the next edge from the node
chained : (c : After-next_edge-i)
    → let a = c.args in
    c.next_edge-i.result ≡ seek (leaves a.keys.now a.c.routine a.c.node) (length a.keys.now - (c.loop-i.i + 1)) (c.loop-i.i + 1)
chained c =
    let k = c.args.c in
    let h = c.loop-i-test in
    c.next_edge-i.ensures ∙ c.requires.0.next_edge k.routine k.node c.loop-i.i c.requires.1 c.requires.2 (omega arith) (c.loop-i.invariant.meets (omega arith))

pub loop-i-smaller : goal.loop-i-smaller
loop-i-smaller c =
    let a = c.args in
    let i = c.loop-i.i in
    omega (arith, c.loop-i-test, chained c, seek_at_least (leaves a.keys.now a.c.routine a.c.node) (length a.keys.now - (i + 1)) (i + 1))

pub loop-i-preserved : goal.loop-i-preserved
loop-i-preserved c =
    let h = c.loop-i-test in
    chain_next _ _ c.loop-i.invariant (omega arith) (ne_eqb _ 0 (λ z. c.if-next_after-eq0.false (looked (goal.at.loop-i-preserved c).After-next_after ∙ z))) (chained c)

pub returns : goal.returns
unfolding first_key_of
returns c = omega (arith, chain_end _ _ c.loop-i.invariant (omega arith))
