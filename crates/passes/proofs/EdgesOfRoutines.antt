-- A program with the edges of some of its routines only.
use Prim.Native.Nat.{ℕ, ◌≤◌}
use mathlib.Core.Path.{◌≡◌, refl, sym, ap, ◌∙◌}
use mathlib.Core.Bool.{Bool, true, false, cond}
use mathlib.Core.List.{List, [], ◌∷◌, map, Memᴰ}
use native.Mathlib.Omega.{arith}
use lib.ListN.{length}
use Rattle.automaton.specs.declared.Event.{Event}
use Rattle.program.specs.declared.sizes.Sizes.{Sizes}
use Rattle.program.specs.Program.{Edge, Program, edge_fits}
use Rattle.program.specs.Frames.{edge_key}
use Rattle.program.specs.WellFormed.{All, WellFormed}
use Rattle.program.proofs.OtherEdges.{other_edges}
use Rattle.tables.specs.Keys.{Ascending}
use Rattle.reach.specs.Runs.{Step, step_of, HasStep}
use Rattle.reach.specs.Ranged.{Ranged, Sized}
use Rattle.reach.proofs.LeastSetLaws.{Within}
use Rattle.passes.specs.Passes.{edges_of, only_of}

-- ---- the edges

-- by whether the first edge passes
edges_by : (P : List Edge → Type 0) (c : ℕ → Bool) (e : Edge) (es : List Edge) → (c e.routine ≡ true → P (e ∷ edges_of c es)) → P (edges_of c es)
    → P (edges_of c (e ∷ es))
unfolding edges_of
edges_by P c e es with_it without = go (c e.routine) refl
  where
    go : (b : Bool) → c e.routine ≡ b → P (cond b (e ∷ edges_of c es) (edges_of c es))
    go true h = with_it h
    go false h = without

edges_all : (t : Edge → Bool) (c : ℕ → Bool) (es : List Edge) → All t es → All t (edges_of c es)
unfolding edges_of All
edges_all t c [] h = h
edges_all t c (e ∷ es) h = let k = edges_all t c es h.1 in edges_by (All t) c e es (λ x. (h.0, k)) k

edges_few : (c : ℕ → Bool) (es : List Edge) → length (edges_of c es) ≤ length es
unfolding edges_of
edges_few c [] = omega arith
edges_few c (e ∷ es) = let k = edges_few c es in edges_by (λ xs. length xs ≤ length (e ∷ es)) c e es (λ x. omega arith) (omega arith)

lower : (low low' : ℕ) (ks : List ℕ) → low' ≤ low → Ascending low ks → Ascending low' ks
unfolding Ascending
lower low low' [] h a = a
lower low low' (k ∷ ks) h a = (omega arith, a.1)

edges_ascend : (c : ℕ → Bool) (low : ℕ) (es : List Edge) → Ascending low (map edge_key es) → Ascending low (map edge_key (edges_of c es))
unfolding edges_of Ascending
edges_ascend c low [] a = a
edges_ascend c low (e ∷ es) a =
    let k = edges_ascend c (edge_key e) es a.1 in
    edges_by (λ xs. Ascending low (map edge_key xs)) c e es (λ x. (a.0, k)) (lower (edge_key e) low (map edge_key (edges_of c es)) (omega (arith, a.0)) k)

pub only_well_formed : (c : ℕ → Bool) (p : Program) → WellFormed p → WellFormed (only_of c p)
only_well_formed c p w =
    other_edges p w (edges_of c p.edges)
    (edges_all (edge_fits p) c p.edges w.edges_fit)
    (edges_ascend c 0 p.edges w.edges_ascend)
    (omega (arith, edges_few c p.edges, w.edges_limited))

-- ---- the steps

-- a step of these edges is one of all edges, and its routine passes
steps_of : (c : ℕ → Bool) (x : Step) (es : List Edge) → Memᴰ x (map step_of (edges_of c es)) → Memᴰ x (map step_of es) × (c x.routine ≡ true)
unfolding edges_of
steps_of c x [] m = elim m [ ]
steps_of c x (e ∷ es) m =
    edges_by (λ xs. Memᴰ x (map step_of xs) → Memᴰ x (map step_of (e ∷ es)) × (c x.routine ≡ true)) c e es
    (λ h k. first (λ y. steps_of c x es y) h k)
    (λ k. let z = steps_of c x es k in (Memᴰ.tail z.0, z.1))
    m
  where
    first : (Memᴰ x (map step_of (edges_of c es)) → Memᴰ x (map step_of es) × (c x.routine ≡ true)) → c e.routine ≡ true
        → Memᴰ x (map step_of (e ∷ edges_of c es)) → Memᴰ x (map step_of (e ∷ es)) × (c x.routine ≡ true)
    first rest h (Memᴰ.head d) = (Memᴰ.head d, ap (λ (s : Step). c s.routine) d ∙ h)
    first rest h (Memᴰ.tail k) = let z = rest k in (Memᴰ.tail z.0, z.1)

of_steps : (c : ℕ → Bool) (x : Step) (es : List Edge) → Memᴰ x (map step_of es) → c x.routine ≡ true → Memᴰ x (map step_of (edges_of c es))
unfolding edges_of
of_steps c x [] m h = elim m [ ]
of_steps c x (e ∷ es) (Memᴰ.head d) h =
    let k : c e.routine ≡ true = sym (ap (λ (s : Step). c s.routine) d) ∙ h in
    rw k (Memᴰ.head d)
of_steps c x (e ∷ es) (Memᴰ.tail m) h =
    let k = of_steps c x es m h in
    edges_by (λ xs. Memᴰ x (map step_of xs)) c e es (λ y. Memᴰ.tail k) k

module _ (c : ℕ → Bool) (p : Program) where
  pub only_step : {f n m : ℕ} {l : Event} → HasStep (only_of c p) f n l m → HasStep p f n l m
  only_step {f} {n} {m} {l} h = (steps_of c (record { routine = f; source = n; label = l; target = m }) p.edges h).0

  pub only_routine : {f n m : ℕ} {l : Event} → HasStep (only_of c p) f n l m → c f ≡ true
  only_routine {f} {n} {m} {l} h = (steps_of c (record { routine = f; source = n; label = l; target = m }) p.edges h).1

  pub step_only : {f n m : ℕ} {l : Event} → c f ≡ true → HasStep p f n l m → HasStep (only_of c p) f n l m
  step_only {f} {n} {m} {l} e h = of_steps c (record { routine = f; source = n; label = l; target = m }) p.edges h e

  -- a wider choice of routines has all its steps
  pub only_within : (c' : ℕ → Bool) → ((f : ℕ) → c f ≡ true → c' f ≡ true) → Within (only_of c p) (only_of c' p)
  only_within c' i =
      record {
        steps = λ {f} {n} {m} {e} h.
            of_steps c' (record { routine = f; source = n; label = e; target = m }) p.edges (only_step h) (i f (only_routine h));
        moves = λ q e s v. v;
      }

-- and within the sizes
pub only_ranged : {Z : Sizes} (c : ℕ → Bool) (p : Program) → Ranged Z p → Ranged Z (only_of c p)
only_ranged c p r =
    record {
      main = r.main;
      routines = r.routines;
      routine = λ s. r.routine (only_step c p s);
      source = λ s. r.source (only_step c p s);
      target = λ s. r.target (only_step c p s);
      called = λ s. r.called (only_step c p s);
      no_exit = λ s. r.no_exit (only_step c p s);
      states = r.states;
      after = r.after;
      begun = r.begun;
    }

pub only_sized : {Z : Sizes} (c : ℕ → Bool) (p : Program) → Sized Z p → Sized Z (only_of c p)
only_sized c p s = record { usable = s.usable; admitted = s.admitted; ranged = only_ranged c p s.ranged }
