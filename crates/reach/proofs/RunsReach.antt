-- The configurations that some run arrives at are the reachable ones. Nothing here asks what the automaton does at a call or a
-- return: the root of a called activation is the state after the call's move.
use mathlib.Core.Logic.{◌↔◌}
use mathlib.Core.List.{List, [], ◌∷◌}
use Prim.Native.Nat.{ℕ}
use Rattle.automaton.specs.declared.Event.TheVariants.{Call}
use Rattle.program.specs.Program.{Program}
use Rattle.reach.specs.Runs.{HasStep, Moves, Activation, Run, begin, act, enter, leave, Occurs}
use Rattle.reach.specs.Reachable.{seeded, by_action, by_call, by_return, Initial, initial, Any, Reachable, Calls}
use Rattle.reach.proofs.LeastSetLaws.{Rooted, entry_of}

-- ---- where a run arrives is reachable

-- each waiting activation made its call, of the one above it, from a reachable configuration; s is the root it gave
abbrev Backed : Program → ℕ → ℕ → List Activation → Type 0
Backed p g s [] = Unit {0}
Backed p g s (t ∷ k) =
    (n : ℕ) × (q : ℕ) × Reachable p t.routine n t.root q × HasStep p t.routine n (Call g) t.node × Moves p q (Call g) s
    × Backed p t.routine t.root k

run_reaches : {p : Program} {f n r q : ℕ} {k : List Activation} → Run p f n r k q → Reachable p f n r q × Backed p f r k
run_reaches (begin m) = (seeded (initial m) tt, tt)
run_reaches (act ρ e v) = let h = run_reaches ρ in (by_action h.0 e v tt, h.1)
run_reaches (enter {n = n} {q = q} ρ e v) = let h = run_reaches ρ in (by_call h.0 e v tt, (n, q, h.0, e, v, h.1))
run_reaches (leave ρ v') =
    let h = run_reaches ρ in let b = h.1 in (by_return b.2 b.3 b.4 h.0 v' tt, b.5)

-- ---- some run arrives at what is reachable

-- from the entry of an activation, whatever waits below it, a run leads to each reachable configuration of that root
inside : {p : Program} {f n r q : ℕ} → Reachable p f n r q → (k : List Activation) → Run p f 0 r k r → Run p f n r k q
inside (seeded (initial m) w) k ρ = ρ
inside (by_action d e v w) k ρ = act (inside d k ρ) e v
inside (by_call d e v w) k ρ = ρ
inside (by_return {f = f} {r = r} {m = m} d e v d' v' w) k ρ =
    leave (inside d' (record { routine = f; node = m; root = r } ∷ k) (enter (inside d k ρ) e v)) v'

entered : {p : Program} {f n r q : ℕ} → Reachable p f n r q → Occurs p f 0 r r
entered (seeded (initial m) w) = record { below = []; run = begin m }
entered (by_action d e v w) = entered d
entered (by_call {f = f} {r = r} {m = m} d e v w) =
    let o = entered d in
    record { below = record { routine = f; node = m; root = r } ∷ o.below; run = enter (inside d o.below o.run) e v }
entered (by_return d e v d' v' w) = entered d

pub occurs_iff : {p : Program} {f n r q : ℕ} → Occurs p f n r q ↔ Reachable p f n r q
occurs_iff =
    (λ o. (run_reaches o.run).0, λ d. let o = entered d in record { below = o.below; run = inside d o.below o.run })

-- ---- an activation that another one called

-- some reachable configuration calls g, and r is the root that this gives
pub record CalledWith (p : Program) (g r : ℕ) : Type 0 where
  pub from : ℕ
  pub calls : Calls p (Reachable p) from g r

pub was_called : {p : Program} {g n r q : ℕ} {t : Activation} {k : List Activation} → Run p g n r (t ∷ k) q → CalledWith p g r
was_called {t = t} ρ =
    let b = (run_reaches ρ).1 in
    record {
      from = t.routine;
      calls = record { node = b.0; root = t.root; state = b.1; target = t.node; holds = b.2; calls = b.3; moves = b.4 };
    }

-- a run that has arrived there, over the activation that called
pub record CalledRun (p : Program) (g n r q : ℕ) : Type 0 where
  pub caller : Activation
  pub below : List Activation
  pub run : Run p g n r (caller ∷ below) q

pub run_called : {p : Program} {g n r q : ℕ} → Reachable p g n r q → CalledWith p g r → CalledRun p g n r q
run_called d c =
    let x = c.calls in
    let o = occurs_iff.1 x.holds in
    let t : Activation = record { routine = c.from; node = x.target; root = x.root } in
    record { caller = t; below = o.below; run = inside d (t ∷ o.below) (enter o.run x.calls x.moves) }

-- ---- a configuration with root r has its entry

initial_entry : {p : Program} {f n r q : ℕ} → Initial p f n r q → Initial p f 0 r r
initial_entry (initial m) = initial m

initial_rooted : {p : Program} → Rooted (Initial p) Any
initial_rooted = record { seeds = initial_entry; filter = λ x y. tt }

pub entry : {p : Program} {f n r q : ℕ} → Reachable p f n r q → Reachable p f 0 r r
entry d = entry_of initial_rooted d
