-- Laws of the least set: it grows with its parts, keeping what still has support, working anew from more roots, and what an
-- edit of one routine leaves alone. None of them asks what the automaton does at a call or a return.
use mathlib.Core.Path.{sym, subst}
use mathlib.Core.Logic.{◌≢◌, ◌↔◌}
use mathlib.Core.List.{Memᴰ}
use Prim.Native.Nat.{ℕ}
use native.Mathlib.Decide.{ℕ_discrete}
use Rattle.automaton.specs.declared.Event.{Event}
use Rattle.automaton.specs.declared.Event.TheVariants.{Call}
use Rattle.program.specs.Program.{Program}
use Rattle.reach.specs.Configurations.{Set, Sub}
use Rattle.reach.specs.Runs.{HasStep, Moves}
use Rattle.reach.specs.Reachable.{Derivable, seeded, by_action, by_call, by_return, initial, Roots, root, Any, Reachable, Calls}

-- ---- it grows

-- every step and every move of p is one of p'
pub record Within (p p' : Program) : Type 0 where
  pub steps : {f n m : ℕ} {e : Event} → HasStep p f n e m → HasStep p' f n e m
  pub moves : (q : ℕ) (e : Event) (s : ℕ) → Moves p q e s → Moves p' q e s

-- more steps, moves and seeds and a wider filter derive no less
pub grows : {p p' : Program} {S S' W W' : Set} → Within p p' → Sub S S' → Sub W W' → {f n r q : ℕ} → Derivable p S W f n r q
    → Derivable p' S' W' f n r q
grows i s w (seeded x y) = seeded (s.at x) (w.at y)
grows i s w (by_action d e v y) = by_action (grows i s w d) (i.steps e) (i.moves _ _ _ v) (w.at y)
grows i s w (by_call d e v y) = by_call (grows i s w d) (i.steps e) (i.moves _ _ _ v) (w.at y)
grows i s w (by_return d e v d' v' y) =
    by_return (grows i s w d) (i.steps e) (i.moves _ _ _ v) (grows i s w d') (i.moves _ _ _ v') (w.at y)

-- what follows from what follows, follows
pub flat : {p : Program} {S T : Set} → Sub S (Derivable p T Any) → {f n r q : ℕ} → Derivable p S Any f n r q → Derivable p T Any f n r q
flat i (seeded x y) = i.at x
flat i (by_action d e v y) = by_action (flat i d) e v y
flat i (by_call d e v y) = by_call (flat i d) e v y
flat i (by_return d e v d' v' y) = by_return (flat i d) e v (flat i d') v' y

-- ---- the filter

pub is_within : {p : Program} {S W : Set} {f n r q : ℕ} → Derivable p S W f n r q → W f n r q
is_within (seeded x y) = y
is_within (by_action d e v y) = y
is_within (by_call d e v y) = y
is_within (by_return d e v d' v' y) = y

-- a filter that has all that is derivable without it loses nothing
pub keeping : {p : Program} {S W : Set} → Sub (Derivable p S Any) W → {f n r q : ℕ} → Derivable p S Any f n r q
    → Derivable p S W f n r q
keeping c (seeded x y) = seeded x (c.at (seeded x y))
keeping c (by_action d e v y) = by_action (keeping c d) e v (c.at (by_action d e v y))
keeping c (by_call d e v y) = by_call (keeping c d) e v (c.at (by_call d e v y))
keeping c (by_return d e v d' v' y) = by_return (keeping c d) e v (keeping c d') v' (c.at (by_return d e v d' v' y))

-- ---- entries

-- with a seed of root r, its entry is a seed
pub record Rooted (S W : Set) : Type 0 where
  pub seeds : {f n r q : ℕ} → S f n r q → S f 0 r r
  pub filter : {f n r q : ℕ} → S f n r q → W f n r q → W f 0 r r

-- a configuration of root r needs the entry of its routine with that root
pub entry_of : {p : Program} {S W : Set} → Rooted S W → {f n r q : ℕ} → Derivable p S W f n r q → Derivable p S W f 0 r r
entry_of t (seeded x y) = seeded (t.seeds x) (t.filter x y)
entry_of t (by_action d e v y) = entry_of t d
entry_of t (by_call d e v y) = by_call d e v y
entry_of t (by_return d e v d' v' y) = entry_of t d

-- ---- working anew from more roots

-- what is derived from roots, under a root whose entry is derivable, is derivable itself
pub anew : {p : Program} {R : ℕ → ℕ → Type 0} {S W : Set} {f n r q : ℕ} → Derivable p (Roots R) W f n r q → Derivable p S Any f 0 r r
    → Derivable p S Any f n r q
anew (seeded (root x) y) o = o
anew (by_action d e v y) o = by_action (anew d o) e v tt
anew (by_call d e v y) o = o
anew (by_return d e v d' v' y) o = let h = anew d o in by_return h e v (anew d' (by_call h e v tt)) v' tt

-- ---- an edit of one routine

-- p' has what p has outside f, and of f its summaries and the roots that it gives to others
pub record Same (f : ℕ) (p p' : Program) : Type 0 where
  pub initials : {q : ℕ} → Memᴰ q p.automaton.initial → Memᴰ q p'.automaton.initial
  pub moves : (q : ℕ) (e : Event) (s : ℕ) → Moves p q e s → Moves p' q e s
  pub steps : {g n m : ℕ} {e : Event} → g ≢ f → HasStep p g n e m → HasStep p' g n e m
  pub summaries : {r q : ℕ} → Reachable p f 1 r q → Reachable p' f 1 r q
  pub calls : {g s : ℕ} → g ≢ f → Calls p (Reachable p) f g s → Calls p' (Reachable p') f g s

others : {f : ℕ} {p p' : Program} → Same f p p' → {g n r q : ℕ} → Reachable p g n r q → g ≢ f → Reachable p' g n r q
others {f} {p} {p'} i (seeded (initial m) y) ne = seeded (initial (i.initials m)) tt
others {f} {p} {p'} i (by_action d e v y) ne = by_action (others i d ne) (i.steps ne e) (i.moves _ _ _ v) tt
others {f} {p} {p'} i (by_call {f = h} {n = n} {r = r} {q = q} {g = g} {m = m} d e v y) ne =
    elim (ℕ_discrete h f) [
      | yes z ↦
          let c =
          i.calls ne
          (record {
            node = n;
            root = r;
            state = q;
            target = m;
            holds = subst (λ (x : ℕ). Reachable p x n r q) z d;
            calls = subst (λ (x : ℕ). HasStep p x n (Call g) m) z e;
            moves = v;
          }) in
          by_call c.holds c.calls c.moves tt
      | no z ↦ by_call (others i d z) (i.steps z e) (i.moves _ _ _ v) tt
    ]
others {f} {p} {p'} i (by_return {g = g} {s = s} {x = x} d e v d' v' y) ne =
    let o : Reachable p' g 1 s x =
    elim (ℕ_discrete g f) [
      | yes z ↦ subst (λ (h : ℕ). Reachable p' h 1 s x) (sym z) (i.summaries (subst (λ (h : ℕ). Reachable p h 1 s x) z d'))
      | no z ↦ others i d' z
    ] in
    by_return (others i d ne) (i.steps ne e) (i.moves _ _ _ v) o (i.moves _ _ _ v') tt

-- the configurations of every other routine are the same in both
pub others_iff : {f : ℕ} {p p' : Program} → Same f p p' → Same f p' p → {g n r q : ℕ} → g ≢ f
    → Reachable p g n r q ↔ Reachable p' g n r q
others_iff i j ne = (λ d. others i d ne, λ d. others j d ne)
