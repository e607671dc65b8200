-- Labels: which event an edge has by its label, and which label by its event.
use mathlib.Core.Path.{◌≡◌, refl, sym, subst}
use mathlib.Core.Bool.{Bool, true, false, cond, ◌&&◌}
use Prim.Native.Nat.{ℕ, ◌≤◌}
use native.Mathlib.Omega.{arith}
use lib.Dec.{ltb, leb}
use lib.ListN.{get_or}
use borrow.Author.Tests.{ltb-true, ltb-false, leb-true, le-leb, le-ltb}
use Rattle.base.proofs.Bools.{both, either}
use Rattle.automaton.specs.Sizes.{first_call}
use Rattle.automaton.specs.Automaton.{Automaton, call_of, label_fits}
use Rattle.automaton.specs.NextStates.{EventOf}
use Rattle.automaton.specs.declared.Event.{Event}
use Rattle.automaton.specs.declared.Event.TheVariants.{Action, Call}
use Rattle.program.specs.Program.{Edge, Program, is_action, is_call, called_by, edge_fits, placed}
use Rattle.program.specs.WellFormed.{WellFormed}
use Rattle.program.proofs.SectionsAscend.{all_in}
use Rattle.program.proofs.ProgramRanged.{ranged}
use Rattle.reach.specs.Runs.{Step, event_of, step_of, HasStep}
use Rattle.reach.proofs.ProgramInSizes.{label_call, map_in}

pub call_label : (a : ℕ) → is_call a ≡ true → event_of a ≡ Call (called_by a)
call_label a e = rw (le-ltb a first_call (leb-true first_call a e))

pub action_label : (a : ℕ) → is_action a ≡ true → event_of a ≡ Action a
action_label a e = rw e

pub label_calls : (a g : ℕ) → event_of a ≡ Call g → (is_call a ≡ true) × (called_by a ≡ g)
label_calls a g e = let c = label_call a g (is_action a) e in (le-leb first_call a (ltb-false a first_call c.0), c.1)

-- ---- the event of an edge is one of the program

-- where its label fits
pub label_event : (r : Automaton) (routines : ℕ) → r.actions ≤ first_call → (a : ℕ) → label_fits routines r.actions a ≡ true
    → EventOf r routines (event_of a)
label_event r routines few a fits = go (is_action a) refl
  where
    go : (t : Bool) → is_action a ≡ t → EventOf r routines (cond t (Action a) (Call (called_by a)))
    go true e =
        either (ltb a r.actions) (leb first_call a && ltb a (call_of routines)) fits (ltb-true a r.actions)
        (λ h. absurd (omega (arith, ltb-true a first_call e, leb-true first_call a (both (leb first_call a) (ltb a (call_of routines)) h).0)))
    go false e =
        either (ltb a r.actions) (leb first_call a && ltb a (call_of routines)) fits
        (λ h. absurd (omega (arith, few, ltb-true a r.actions h, ltb-false a first_call e)))
        (λ h. omega (arith, ltb-false a first_call e, ltb-true a (call_of routines) (both (leb first_call a) (ltb a (call_of routines)) h).1))

edge_label : (p : Program) (e : Edge) → edge_fits p e ≡ true → label_fits p.routines p.automaton.actions e.label ≡ true
edge_label p e h =
    let nodes = get_or p.nodes e.routine 0 in
    (both (ltb e.routine p.routines && placed nodes e.source e.target) (label_fits p.routines p.automaton.actions e.label) h).1

-- so it does in a well-formed program
pub step_event : (p : Program) → WellFormed p → {f n m : ℕ} {l : Event} → HasStep p f n l m → EventOf p.automaton p.routines l
step_event p w h =
    let x = map_in step_of p.edges h in
    let fits = edge_label p x.from (all_in (edge_fits p) p.edges w.edges_fit x.member) in
    subst (λ (s : Step). EventOf p.automaton p.routines s.label) (sym x.is)
    (label_event p.automaton p.routines (ranged p w).actions x.from.label fits)
