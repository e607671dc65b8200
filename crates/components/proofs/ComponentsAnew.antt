-- Why the inside-out repair is right: a component that need not be reanalyzed has kept its configurations, one that is worked anew has those of the
-- edited program worked from all old roots, and what of these has a root that occurs is what the edited program reaches.
use mathlib.Core.Path.{◌≡◌, refl}
use mathlib.Core.Logic.{◌⊎◌, inl, inr, ◌↔◌}
use Prim.Native.Nat.{ℕ}
use native.Mathlib.Omega.{arith}
use Rattle.automaton.specs.declared.Event.{Event}
use Rattle.automaton.specs.declared.Event.TheVariants.{Call}
use Rattle.program.specs.Program.{Program}
use Rattle.reach.specs.Configurations.{Set, Sub}
use Rattle.reach.specs.Runs.{HasStep, Moves}
use Rattle.reach.specs.Reachable.{Derivable, seeded, by_action, by_call, by_return, Initial, initial, Roots, root, Any, Reachable}
use Rattle.reach.proofs.LeastSetLaws.{Within, Rooted, entry_of, anew}
use Rattle.callgraph.specs.Components.{OldRoot, Anew}
use Rattle.roots.specs.Roots.{Live, begun, called}
use Rattle.passes.specs.Passes.{PassSeeds, entry, summary}

-- p' has no step more than p, and the same automaton
pub record Dropped (p p' : Program) : Type 0 where
  pub within : Within p' p
  pub moves : (q : ℕ) (e : Event) (s : ℕ) → Moves p q e s → Moves p' q e s
  pub initials : Sub (Initial p) (Initial p')
  pub back : Sub (Initial p') (Initial p)

any_rooted : {R : ℕ → ℕ → Type 0} → Rooted (Roots R) Any
any_rooted = record { seeds = go; filter = λ x y. tt }
  where
    go : {R : ℕ → ℕ → Type 0} {f n r q : ℕ} → Roots R f n r q → Roots R f 0 r r
    go (root x) = root x

initial_rooted : {p : Program} → Rooted (Initial p) Any
initial_rooted {p} = record { seeds = go; filter = λ x y. tt }
  where
    go : {p : Program} {f n r q : ℕ} → Initial p f n r q → Initial p f 0 r r
    go (initial m) = initial m

module _ {p p' : Program} (d : Dropped p p') where
  -- ---- between the old program and the new one

  pub root_old : {f n r q : ℕ} → Reachable p f n r q → OldRoot p f r
  root_old x = entry_of initial_rooted x

  -- what is worked anew was there before
  pub anew_old : {f n r q : ℕ} → Anew p p' f n r q → Reachable p f n r q
  anew_old (seeded (root x) y) = x
  anew_old (by_action x e v y) = by_action (anew_old x) (d.within.steps e) (d.within.moves _ _ _ v) tt
  anew_old (by_call x e v y) = by_call (anew_old x) (d.within.steps e) (d.within.moves _ _ _ v) tt
  anew_old (by_return x e v x' v' y) =
      by_return (anew_old x) (d.within.steps e) (d.within.moves _ _ _ v) (anew_old x') (d.within.moves _ _ _ v') tt

  -- what the new program reaches is worked anew
  pub fresh_anew : {f n r q : ℕ} → Reachable p' f n r q → Anew p p' f n r q
  fresh_anew (seeded (initial m) y) = seeded (root (seeded (d.back.at (initial m)) tt)) tt
  fresh_anew (by_action x e v y) = by_action (fresh_anew x) e v tt
  fresh_anew (by_call x e v y) = by_call (fresh_anew x) e v tt
  fresh_anew (by_return x e v x' v' y) = by_return (fresh_anew x) e v (fresh_anew x') v' tt

  -- the entry that a call gives is one of an old root
  pub called_old : {f n r q g m s : ℕ} → Anew p p' f n r q → HasStep p' f n (Call g) m → Moves p' q (Call g) s → OldRoot p g s
  called_old x e v = by_call (anew_old x) (d.within.steps e) (d.within.moves _ _ _ v) tt

  -- ---- a component that need not be reanalyzed

  -- its routines have lost no step, and call each other or routines that have lost no summary
  pub record Untouched (C : ℕ → Type 0) : Type 0 where
    pub steps : {f n m : ℕ} {e : Event} → C f → HasStep p f n e m → HasStep p' f n e m
    pub calls : {f n m g : ℕ} → C f → HasStep p' f n (Call g) m → C g ⊎ ((s x : ℕ) → Reachable p g 1 s x → Anew p p' g 1 s x)

  pub untouched_kept : {C : ℕ → Type 0} → Untouched C → {f n r q : ℕ} → C f → Reachable p f n r q → Anew p p' f n r q
  untouched_kept u c (seeded x y) = seeded (root_seed x) tt
    where
      root_seed : {f n r q : ℕ} → Initial p f n r q → Roots (OldRoot p) f n r q
      root_seed (initial m) = root (seeded (initial m) tt)
  untouched_kept u c (by_action x e v y) = by_action (untouched_kept u c x) (u.steps c e) (d.moves _ _ _ v) tt
  untouched_kept u c (by_call x e v y) = seeded (root (by_call x e v y)) tt
  untouched_kept u c (by_return {s = s} {x = z} x e v x' v' y) =
      let h = u.steps c e in
      by_return {x = z} (untouched_kept u c x) h (d.moves _ _ _ v)
      (elim (u.calls c h) [ inl k ↦ untouched_kept u k x' | inr k ↦ k s z x' ])
      (d.moves _ _ _ v') tt

  -- ---- the pass over a component

  -- its steps are those of p' from its routines; its roots are the old ones; and it is given the summaries, worked anew, of the routines that it calls outside
  pub record Passing (C : ℕ → Type 0) (pc : Program) (K : ℕ → ℕ → ℕ → Type 0) : Type 0 where
    pub member : (f : ℕ) → Dec (C f)
    pub within : Within pc p'
    pub moves : (q : ℕ) (e : Event) (s : ℕ) → Moves p' q e s → Moves pc q e s
    pub steps : {f n m : ℕ} {e : Event} → C f → HasStep p' f n e m → HasStep pc f n e m
    pub only : {f n m : ℕ} {e : Event} → HasStep pc f n e m → C f
    pub given : {f n m g : ℕ} → C f → HasStep p' f n (Call g) m → ¬ (C g) → (s x : ℕ) → K g s x ↔ Anew p p' g 1 s x

  module _ {C : ℕ → Type 0} {pc : Program} {K : ℕ → ℕ → ℕ → Type 0} (k : Passing C pc K) where
    abbrev pub Pass : Set
    Pass = Derivable pc (PassSeeds C (OldRoot p) K) Any

    -- a routine outside has no exit but by its given summaries
    outside_given : {g n s x : ℕ} → ¬ (C g) → n ≡ 1 → Pass g n s x → K g s x
    outside_given nc e (seeded (entry c r) y) = absurd (nc c)
    outside_given nc e (seeded (summary c r) y) = r
    outside_given nc e (by_action z h v y) = absurd (nc (k.only h))
    outside_given nc e (by_call z h v y) = absurd (let q : ◌≡◌ {A = ℕ} 0 1 = e in omega arith)
    outside_given nc e (by_return z h v z' v' y) = absurd (nc (k.only h))

    pub pass_anew : {f n r q : ℕ} → C f → Pass f n r q → Anew p p' f n r q
    pass_anew c (seeded (entry m x) y) = seeded (root x) tt
    pass_anew c (seeded (summary m x) y) = absurd (m c)
    pass_anew c (by_action x e v y) = by_action (pass_anew c x) (k.within.steps e) (k.within.moves _ _ _ v) tt
    pass_anew c (by_call x e v y) = by_call (pass_anew (k.only e) x) (k.within.steps e) (k.within.moves _ _ _ v) tt
    pass_anew c (by_return {g = g} {s = s} {x = z} x e v x' v' y) =
        let h = k.within.steps e in
        by_return {x = z} (pass_anew c x) h (k.within.moves _ _ _ v)
        (elim (k.member g) [ yes m ↦ pass_anew m x' | no m ↦ (k.given c h m s z).0 (outside_given m refl x') ])
        (k.within.moves _ _ _ v') tt

    pub anew_pass : {f n r q : ℕ} → C f → Anew p p' f n r q → Pass f n r q
    anew_pass c (seeded (root x) y) = seeded (entry c x) tt
    anew_pass c (by_action x e v y) = by_action (anew_pass c x) (k.steps c e) (k.moves _ _ _ v) tt
    anew_pass c (by_call x e v y) = seeded (entry c (called_old x e v)) tt
    anew_pass c (by_return {g = g} {s = s} {x = z} x e v x' v' y) =
        by_return {x = z} (anew_pass c x) (k.steps c e) (k.moves _ _ _ v)
        (elim (k.member g) [ yes m ↦ anew_pass m x' | no m ↦ seeded (summary m ((k.given c e m s z).1 x')) tt ])
        (k.moves _ _ _ v') tt

  -- ---- the roots that occur

  live_reached : {f r : ℕ} → Live p' (Anew p p') f r → Reachable p' f 0 r r
  live_reached (begun m) = seeded (initial m) tt
  live_reached (called l x e v) = by_call (anew x (live_reached l)) e v tt

  root_live : {f n r q : ℕ} → Reachable p' f n r q → Live p' (Anew p p') f r
  root_live (seeded (initial m) y) = begun m
  root_live (by_action x e v y) = root_live x
  root_live (by_call x e v y) = called (root_live x) (fresh_anew x) e v
  root_live (by_return x e v x' v' y) = root_live x

  -- what is worked anew and has a root that occurs is what the new program reaches
  pub live_exact : {f n r q : ℕ} → (Live p' (Anew p p') f r × Anew p p' f n r q) ↔ Reachable p' f n r q
  live_exact = (λ x. anew x.1 (live_reached x.0), λ x. (root_live x, fresh_anew x))
