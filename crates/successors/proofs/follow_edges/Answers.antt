use Rattle.base.specs.Searches.{seek}
use Rattle.index.specs.Index.{leaves}
use Rattle.base.proofs.NumbersSought.{seek_at_least}
use Rattle.program.specs.Program.{Edge}
use Rattle.program.specs.declared.sizes.Sizes.{Sizes}
use Rattle.program.specs.Decoded.{edge_of}
use Rattle.successors.specs.Parts.{edge_step}
use Rattle.marking.proofs.StepsMark.{loop_end}
use Rattle.marking.proofs.EdgesChased.{Passes, chase_start, chase_turn}
use Rattle.successors.proofs.EdgesFollowed.{edge_here, edge_other}
use mathlib.Core.Path.{◌≡◌, ap, ◌∙◌}
use mathlib.Core.List.{List}
use lib.ListN.{length, get_or}
use native.Mathlib.Omega.{arith}
use Prim.Native.Nat.{ℕ, ◌+◌, ◌-◌}
use Rattle.successors.proofs.follow_edges.Goals as goal
use Rattle.successors.proofs.follow_edges.Goals.{After-next_edge-i}

passed : (z : Sizes) (next known : List ℕ) (f n r q : ℕ) (keys : List ℕ)
    → Passes (leaves keys f n) (λ j. edge_step z next known f n r q (edge_of (get_or keys j 0)))
passed z next known f n r q keys = record { passes = λ x e s. edge_other z next known f n r q keys x e s }

pub loop-i-init : goal.loop-i-init
loop-i-init c =
    let a = c.args in
    let k = a.c in
    chase_start _ _ _ (passed a.z a.next.now a.known.now k.routine k.node k.root k.state a.keys.now)
    (c.first_edge-i.ensures ∙ c.requires.0.first_edge k.routine k.node c.requires.1 c.requires.2)

-- the index has the next edge from the node
chained : (c : After-next_edge-i)
    → let a = c.args in
    let i = c.loop-i.i in
    c.next_edge-i.result ≡ seek (leaves a.keys.now a.c.routine a.c.node) (length a.keys.now - (i + 1)) (i + 1)
chained c =
    let k = c.args.c in
    let h = c.loop-i-test in
    let meets = c.loop-i.invariant.meets (omega arith) in
    c.next_edge-i.ensures
    ∙ c.requires.0.next_edge k.routine k.node c.loop-i.i c.requires.1 c.requires.2 (omega arith) meets

pub loop-i-smaller : goal.loop-i-smaller
loop-i-smaller c =
    let a = c.args in
    let i = c.loop-i.i in
    let past = seek_at_least (leaves a.keys.now a.c.routine a.c.node) (length a.keys.now - (i + 1)) (i + 1) in
    omega (arith, c.loop-i-test, chained c, past)

pub loop-i-preserved : goal.loop-i-preserved
loop-i-preserved c =
    let a = c.args in
    let k = a.c in
    let f = c.follow_label-lowest in
    let h = c.loop-i-test in
    let e = c.edge-e.ensures in
    let next = a.next.now in
    let known = a.known.now in
    let keys = a.keys.now in
    let meets = c.loop-i.invariant.meets (omega arith) in
    chase_turn c.loop-i.invariant (passed a.z next known k.routine k.node k.root k.state keys) (omega arith)
    (edge_here a.z next known k.routine k.node k.root k.state keys c.loop-i.i meets
    (rw (c.number_of-base.ensures.0, ap (λ (d : Edge). d.target) e, ap (λ (d : Edge). d.label) e) at f.ensures.0))
    f.ensures.1 f.auto.marks f.auto.pending (chained c)

pub returns : goal.returns
returns c = loop_end c.loop-i.invariant.looping (omega arith)
