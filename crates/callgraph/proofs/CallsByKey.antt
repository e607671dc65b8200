-- The edges that call, by their keys.
use Prim.Native.Nat.{ℕ, zero, suc, min, ◌≤◌, ◌<◌}
use mathlib.Core.Path.{◌≡◌, refl, sym, ap, subst, ◌∙◌}
use mathlib.Core.Bool.{true}
use mathlib.Core.List.{List, [], ◌∷◌, map, Memᴰ}
use native.Mathlib.Omega.{arith}
use lib.ListN.{length, get_or, take, get_or-map, length-map}
use lib.Seq.{get_or-take, length-take-le, take-length}
use Rattle.automaton.specs.declared.Event.TheVariants.{Call}
use Rattle.program.specs.Sizes.{max_edges}
use Rattle.program.specs.Program.{Edge, Program, is_call, called_by}
use Rattle.program.specs.WellFormed.{WellFormed}
use Rattle.program.specs.Decoded.{edge_of, program_of}
use Rattle.program.specs.declared.DecodedProgram.{DecodedProgram}
use Rattle.reach.specs.Runs.{Step, step_of, HasStep}
use Rattle.reach.proofs.Labels.{call_label, label_calls}
use Rattle.base.proofs.EntriesInUse.{in_use_all}

-- ---- members of a list, and their places

pub at_in : {A : Type 0} (d : A) (xs : List A) (i : ℕ) → i < length xs → Memᴰ (get_or xs i d) xs
at_in d [] i h = absurd (omega arith)
at_in d (x ∷ xs) zero h = Memᴰ.head refl
at_in d (x ∷ xs) (suc i) h = Memᴰ.tail (at_in d xs i (omega arith))

pub record Place {A : Type 0} (d : A) (xs : List A) (y : A) : Type 0 where
  pub place : ℕ
  pub within : place < length xs
  pub is : y ≡ get_or xs place d

pub place_of : {A : Type 0} (d : A) {y : A} (xs : List A) → Memᴰ y xs → Place d xs y
place_of d [] m = elim m [ ]
place_of d (x ∷ xs) (Memᴰ.head e) = record { place = 0; within = omega arith; is = e }
place_of d (x ∷ xs) (Memᴰ.tail m) =
    let z = place_of d xs m in
    record { place = suc z.place; within = omega (arith, z.within); is = z.is }

-- ---- the steps of a program's keys

-- the edge of the key at a place
abbrev pub edge_at : List ℕ → ℕ → Edge
edge_at keys i = edge_of (get_or keys i 0)

-- the place of an edge at (f, n) that calls g
pub record CallKey (keys : List ℕ) (count f n g : ℕ) : Type 0 where
  pub place : ℕ
  pub within : place < count
  pub is-call : is_call (edge_at keys place).label ≡ true
  pub caller : f ≡ (edge_at keys place).routine
  pub source : n ≡ (edge_at keys place).source
  pub called : g ≡ called_by (edge_at keys place).label

-- the keys in use are those of this program
pub record KeysOf (p : Program) (keys : List ℕ) (count : ℕ) : Type 0 where
  pub well_formed : WellFormed p
  pub fits : count ≤ length keys
  pub edges : p.edges ≡ map edge_of (take count keys)

pub keys_of : (d : DecodedProgram) → WellFormed (program_of d) → length d.edges.keys ≡ max_edges → {count : ℕ} → count ≡ min d.edges.count max_edges
    → KeysOf (program_of d) d.edges.keys count
keys_of d w room u =
    record {
      well_formed = w;
      fits = omega (arith, room, u);
      edges = rw u (ap (map edge_of) (sym (rw room at (in_use_all d.edges.count d.edges.keys))));
    }

-- the same of the keys in use alone
pub keys_alone : {p : Program} {keys : List ℕ} {count : ℕ} → KeysOf p keys count → KeysOf p (take count keys) (length (take count keys))
keys_alone {p} {keys} {count} o =
    record {
      well_formed = o.well_formed;
      fits = omega arith;
      edges = rw take-length o.edges;
    }

module _ {p : Program} {keys : List ℕ} {count : ℕ} (o : KeysOf p keys count) where
  steps_length : length (map step_of (map edge_of (take count keys))) ≡ count
  steps_length = length-map (map edge_of (take count keys)) step_of ∙ length-map (take count keys) edge_of ∙ length-take-le count keys o.fits

  step_at : (i : ℕ) → i < count → get_or (map step_of (map edge_of (take count keys))) i (step_of (edge_of 0)) ≡ step_of (edge_of (get_or keys i 0))
  step_at i h =
      get_or-map step_of (map edge_of (take count keys)) i (edge_of 0)
      ∙ ap step_of (get_or-map edge_of (take count keys) i 0)
      ∙ ap (λ (k : ℕ). step_of (edge_of k)) (get_or-take count keys i 0 h)

  pub key_step : (i : ℕ) → i < count → is_call (edge_at keys i).label ≡ true
      → HasStep p (edge_at keys i).routine (edge_at keys i).source (Call (called_by (edge_at keys i).label)) (edge_at keys i).target
  key_step i h t =
      let e = edge_at keys i in
      let l = call_label e.label t in
      let s : step_of e ≡ record { routine = e.routine; source = e.source; label = Call (called_by e.label); target = e.target } =
      λ j. record { routine = e.routine; source = e.source; label = l j; target = e.target }
      in
      let m = at_in (step_of (edge_of 0)) (map step_of (map edge_of (take count keys))) i (omega (arith, h, steps_length)) in
      rw o.edges (subst (λ (x : Step). Memᴰ x (map step_of (map edge_of (take count keys)))) (step_at i h ∙ s) m)

  pub step_key : {f n g m : ℕ} → HasStep p f n (Call g) m → CallKey keys count f n g
  step_key {f} {n} {g} {m} h =
      let z = place_of (step_of (edge_of 0)) (map step_of (map edge_of (take count keys))) (rw o.edges at h) in
      let i = z.place in
      let w : i < count = omega (arith, z.within, steps_length) in
      let s = z.is ∙ step_at i w in
      let l = label_calls (edge_at keys i).label g (sym (ap (λ (x : Step). x.label) s)) in
      record {
        place = i;
        within = w;
        is-call = l.0;
        caller = ap (λ (x : Step). x.routine) s;
        source = ap (λ (x : Step). x.source) s;
        called = sym l.1;
      }
