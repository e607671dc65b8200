-- What a change of one routine leaves alone.
use mathlib.Core.Path.{◌≡◌, sym, subst}
use mathlib.Core.Bool.{true}
use mathlib.Core.List.{Memᴰ}
use mathlib.Core.Logic.{◌↔◌, ◌≢◌}
use Prim.Native.Nat.{ℕ}
use Rattle.program.specs.Program.{Program}
use Rattle.reach.specs.Runs.{Occurs}
use Rattle.reach.specs.Reachable.{Reachable, Calls}
use Rattle.reach.proofs.LeastSetLaws.{Same, others_iff}
use Rattle.reach.proofs.RunsReach.{occurs_iff}
use Rattle.automaton.specs.Automaton.{Automaton, moves}
use Rattle.exchange.specs.Changes.{Change}
use Rattle.exchange.specs.Changing.{changed_program, changed_routine}
use Rattle.exchange.specs.Wanted.{ChangeApplies}
use Rattle.demands.specs.Lists.{KeepsRoutine}
use Rattle.forward.proofs.ExchangedSteps.{changed_other, other_changed, changed_automaton}

occurring : {p : Program} {f g s : ℕ} → Calls p (Reachable p) f g s → Calls p (Occurs p) f g s
occurring c = record { node = c.node; root = c.root; state = c.state; target = c.target; holds = occurs_iff.1 c.holds; calls = c.calls; moves = c.moves }

reaching : {p : Program} {f g s : ℕ} → Calls p (Occurs p) f g s → Calls p (Reachable p) f g s
reaching c = record { node = c.node; root = c.root; state = c.state; target = c.target; holds = occurs_iff.0 c.holds; calls = c.calls; moves = c.moves }

-- then no configuration of any other routine differs
module _ (c : Change) (p : Program) (applies : ChangeApplies c p) (k : KeepsRoutine (changed_routine c) p (changed_program c p)) where
  abbrev f : ℕ
  f = changed_routine c

  abbrev p' : Program
  p' = changed_program c p

  there : Same f p p'
  there =
      record {
        initials = λ {q} m. subst (λ (a : Automaton). Memᴰ q a.initial) (sym (changed_automaton c p)) m;
        moves = λ q l s m. subst (λ (a : Automaton). moves a q l s ≡ true) (sym (changed_automaton c p)) m;
        steps = λ ne h. changed_other c p ne h;
        summaries = λ {r} {q} d. occurs_iff.0 ((k.summaries r q).0 (occurs_iff.1 d));
        calls = λ {g} {s} ne x. reaching ((k.calls g s ne).0 (occurring x));
      }

  back : Same f p' p
  back =
      record {
        initials = λ {q} m. subst (λ (a : Automaton). Memᴰ q a.initial) (changed_automaton c p) m;
        moves = λ q l s m. subst (λ (a : Automaton). moves a q l s ≡ true) (changed_automaton c p) m;
        steps = λ ne h. other_changed c p applies ne h;
        summaries = λ {r} {q} d. occurs_iff.0 ((k.summaries r q).1 (occurs_iff.1 d));
        calls = λ {g} {s} ne x. reaching ((k.calls g s ne).1 (occurring x));
      }

  pub local_change : {g n r q : ℕ} → g ≢ f → Occurs p g n r q ↔ Occurs p' g n r q
  local_change ne =
      let i = others_iff there back ne in
      (λ o. occurs_iff.1 (i.0 (occurs_iff.0 o)), λ o. occurs_iff.1 (i.1 (occurs_iff.0 o)))
