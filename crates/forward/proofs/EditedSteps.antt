-- The steps of an edited program.
use mathlib.Core.Path.{◌≡◌, refl, sym, ap, subst, ◌∙◌}
use mathlib.Core.Logic.{◌⊎◌, inl, inr, ◌≢◌}
use mathlib.Core.Bool.{Bool, true, false, cond}
use mathlib.Core.List.{List, [], ◌∷◌, map, Memᴰ}
use Prim.Native.Nat.{ℕ, ◌<◌}
use lib.Dec.{ltb}
use Rattle.automaton.specs.declared.Event.{Event}
use Rattle.program.specs.declared.sizes.Sizes.{Sizes}
use Rattle.program.specs.Chosen.{sizes_of}
use Rattle.program.specs.Program.{Edge, Program}
use Rattle.program.specs.Frames.{edge_key}
use Rattle.program.specs.WellFormed.{WellFormed}
use Rattle.reach.specs.Runs.{Step, event_of, step_of, HasStep}
use Rattle.reach.specs.Reachable.{Initial, initial}
use Rattle.reach.proofs.LeastSetLaws.{Within}
use Rattle.reach.specs.Configurations.{Sub, Usable}
use Rattle.reach.specs.Ranged.{Ranged}
use Rattle.reach.proofs.ProgramInSizes.{ranged}
use Rattle.reach.proofs.Growing.{Grown, AtNode}
use Rattle.edit.specs.Edits.{edge_of_step, old_edge}
use Rattle.edit.specs.Editing.{same_edge, without, inserted, edited_program, Applies}
use Rattle.edit.specs.declared.Step as edit
use Rattle.edit.specs.declared.Edit.{Edit}
use Rattle.edit.specs.declared.Edit.TheVariants.{Add, Drop, Replace}
use Rattle.edit.proofs.EditsWellFormed.{same_equal}
use Rattle.edit.proofs.EdgesRemaining.{remaining, without_remaining}
use Rattle.edit.proofs.Theorems.{applied_well_formed}

-- the same first element, and then more
behind : {A : Type 0} {x y : A} {xs ys : List A} → (Memᴰ x xs → Memᴰ x ys) → Memᴰ x (y ∷ xs) → Memᴰ x (y ∷ ys)
behind k (Memᴰ.head h) = Memᴰ.head h
behind k (Memᴰ.tail m) = Memᴰ.tail (k m)

-- it is the first element, or one behind it
first : {A X : Type 0} {x y : A} {xs : List A} → (x ≡ y → X) → (Memᴰ x xs → X) → Memᴰ x (y ∷ xs) → X
first k j (Memᴰ.head h) = k h
first k j (Memᴰ.tail m) = j m

module _ {A : Type 0} (f : Edge → A) {x : A} (e : Edge) where
  pub in_inserted : (es : List Edge) → Memᴰ x (map f es) → Memᴰ x (map f (inserted e es))
  unfolding inserted
  in_inserted [] m = Memᴰ.tail m
  in_inserted (d ∷ ds) m = go (ltb (edge_key e) (edge_key d)) (in_inserted ds)
    where
      go : (t : Bool) → (Memᴰ x (map f ds) → Memᴰ x (map f (inserted e ds))) → Memᴰ x (map f (cond t (e ∷ d ∷ ds) (d ∷ inserted e ds)))
      go true k = Memᴰ.tail m
      go false k = behind k m

  pub inserted_in : (es : List Edge) → Memᴰ x (map f (inserted e es)) → (x ≡ f e) ⊎ Memᴰ x (map f es)
  unfolding inserted
  inserted_in [] m = first (λ h. inl h) (λ m. inr m) m
  inserted_in (d ∷ ds) m = go (ltb (edge_key e) (edge_key d)) m (inserted_in ds)
    where
      go : (t : Bool) → Memᴰ x (map f (cond t (e ∷ d ∷ ds) (d ∷ inserted e ds)))
          → (Memᴰ x (map f (inserted e ds)) → (x ≡ f e) ⊎ Memᴰ x (map f ds)) → (x ≡ f e) ⊎ Memᴰ x (map f (d ∷ ds))
      go true m k = first (λ h. inl h) (λ m. inr m) m
      go false m k = first (λ h. inr (Memᴰ.head h)) (λ m. elim (k m) [ inl h ↦ inl h | inr m ↦ inr (Memᴰ.tail m) ]) m

-- where all edges that meet a test are dropped, none is there that was not, and every other one is
module _ {A : Type 0} (f : Edge → A) {x : A} (t : Edge → Bool) where
  pub remaining_in : (es : List Edge) → Memᴰ x (map f (remaining t es)) → Memᴰ x (map f es)
  unfolding remaining
  remaining_in [] m = m
  remaining_in (d ∷ ds) m = go (t d) m (remaining_in ds)
    where
      go : (b : Bool) → Memᴰ x (map f (cond b (remaining t ds) (d ∷ remaining t ds))) → (Memᴰ x (map f (remaining t ds)) → Memᴰ x (map f ds))
          → Memᴰ x (map f (d ∷ ds))
      go true m k = Memᴰ.tail (k m)
      go false m k = behind k m

  pub in_remaining : ((d : Edge) → t d ≡ true → x ≡ f d → ⊥) → (es : List Edge) → Memᴰ x (map f es) → Memᴰ x (map f (remaining t es))
  unfolding remaining
  in_remaining n [] m = m
  in_remaining n (d ∷ ds) m = go (t d) refl (in_remaining n ds)
    where
      go : (b : Bool) → t d ≡ b → (Memᴰ x (map f ds) → Memᴰ x (map f (remaining t ds))) → Memᴰ x (map f (cond b (remaining t ds) (d ∷ remaining t ds)))
      go true s k = first (λ h. absurd (n d s h)) k m
      go false s k = behind k m

module _ {A : Type 0} (f : Edge → A) {x : A} (e : Edge) where
  pub without_in : (es : List Edge) → Memᴰ x (map f (without e es)) → Memᴰ x (map f es)
  without_in es m = remaining_in f (same_edge e) es (rw (without_remaining e es) at m)

  pub in_without : (x ≡ f e → ⊥) → (es : List Edge) → Memᴰ x (map f es) → Memᴰ x (map f (without e es))
  in_without n es m = rw (without_remaining e es) (in_remaining f (same_edge e) (λ d s h. n (h ∙ ap f (sym (same_equal e d s)))) es m)

-- the new one is there
pub new_inserted : {A : Type 0} (f : Edge → A) (e : Edge) (es : List Edge) → Memᴰ (f e) (map f (inserted e es))
unfolding inserted
new_inserted f e [] = Memᴰ.head refl
new_inserted f e (d ∷ ds) = go (ltb (edge_key e) (edge_key d)) (new_inserted f e ds)
  where
    go : (t : Bool) → Memᴰ (f e) (map f (inserted e ds)) → Memᴰ (f e) (map f (cond t (e ∷ d ∷ ds) (d ∷ inserted e ds)))
    go true m = Memᴰ.head refl
    go false m = Memᴰ.tail m

-- an edit of routine f leaves the steps of every other routine
module _ (e : Edit) (p : Program) {g n m : ℕ} {l : Event} (ne : g ≢ (old_edge e).routine) where
  pub other_steps : HasStep p g n l m → HasStep (edited_program e p) g n l m
  unfolding edited_program
  other_steps h = go e ne h
    where
      go : (e : Edit) → g ≢ (old_edge e).routine → HasStep p g n l m → HasStep (edited_program e p) g n l m
      go (Add s) ne h = in_inserted step_of _ p.edges h
      go (Drop s) ne h = in_without step_of _ (λ x. ne (ap (λ (y : Step). y.routine) x)) p.edges h
      go (Replace s a) ne h = in_inserted step_of _ _ (in_without step_of _ (λ x. ne (ap (λ (y : Step). y.routine) x)) p.edges h)

  pub steps_other : HasStep (edited_program e p) g n l m → HasStep p g n l m
  unfolding edited_program
  steps_other h = go e ne h
    where
      go : (e : Edit) → g ≢ (old_edge e).routine → HasStep (edited_program e p) g n l m → HasStep p g n l m
      go (Add s) ne h = elim (inserted_in step_of _ p.edges h) [ inl x ↦ absurd (ne (ap (λ (y : Step). y.routine) x)) | inr m ↦ m ]
      go (Drop s) ne h = without_in step_of _ p.edges h
      go (Replace s a) ne h =
          elim (inserted_in step_of _ _ h) [ inl x ↦ absurd (ne (ap (λ (y : Step). y.routine) x)) | inr m ↦ without_in step_of _ p.edges m ]

-- an add has steps more only from its source, and a drop has no step more
module _ (s : edit.Step) (p : Program) (w : WellFormed p) where
  pub add_grown : {Z : Sizes} (U : Usable Z) → Ranged Z p → Grown Z U p (edited_program (Add s) p) (AtNode s.routine s.source)
  unfolding edited_program
  add_grown U z =
      record {
        automaton = refl;
        ranged = z;
        steps = λ h. in_inserted step_of (edge_of_step s) p.edges h;
        only = λ h.
            elim (inserted_in step_of (edge_of_step s) p.edges h) [
              | inl x ↦ inr (ap (λ (y : Step). y.routine) x, ap (λ (y : Step). y.source) x)
              | inr m ↦ inl m
            ];
      }

  -- a step leads from there, so that it is in range; and so is where it leads to
  pub add_from : {Z : Sizes} → Z ≡ sizes_of p → Applies (Add s) p → (s.routine < Z.routines) × (s.source < Z.nodes) × (s.target < Z.nodes)
  unfolding edited_program
  add_from i a =
      let z = ranged (edited_program (Add s) p) (applied_well_formed (Add s) p w a) in
      let h : HasStep (edited_program (Add s) p) s.routine s.source (event_of (edge_of_step s).label) s.target = new_inserted step_of (edge_of_step s) p.edges in
      subst (λ (y : Sizes). (s.routine < y.routines) × (s.source < y.nodes) × (s.target < y.nodes)) (sym i) (z.routine h, z.source h, z.target h)

  pub drop_within : Within (edited_program (Drop s) p) p
  unfolding edited_program
  drop_within = record { steps = λ h. without_in step_of (edge_of_step s) p.edges h; moves = λ q e x v. v }

  pub drop_initial : Sub (Initial (edited_program (Drop s) p)) (Initial p)
  unfolding edited_program
  drop_initial = record { at = go }
    where
      go : {f n r q : ℕ} → Initial (edited_program (Drop s) p) f n r q → Initial p f n r q
      go (initial m) = initial m
