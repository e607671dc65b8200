-- The invariant of the worklist, from any seeds: what is marked is derivable, and what is marked and not pending has led to all that
-- follows from it by the known summaries. Once nothing is pending, exactly what is derivable is marked.
use mathlib.Core.Path.{◌≡◌, refl, sym, subst}
use mathlib.Core.Logic.{◌⊎◌, inl, inr, ◌↔◌, ◌≢◌}
use mathlib.Core.Option.{none}
use mathlib.Core.List.{Memᴰ}
use Prim.Native.Nat.{ℕ, ◌<◌}
use native.Mathlib.Omega.{arith}
use native.Mathlib.Decide.{ℕ_discrete}
use Rattle.automaton.specs.declared.Event.{Event}
use Rattle.automaton.specs.declared.Event.TheVariants.{Action, Call, Return}
use Rattle.program.specs.Program.{Program}
use Rattle.reach.specs.Configurations.{Set, InRange, number, routine_of, node_of, root_of, state_of, none_set, At}
use Rattle.reach.specs.Runs.{HasStep, Moves}
use Rattle.reach.specs.Reachable.{Derivable, seeded, by_action, by_call, by_return, Initial, initial, Any, Reachable}
use Rattle.reach.specs.Worklist.{Worklist, Shape, lowest, summary, learn, take_one, work, opened, blank}
use Rattle.reach.proofs.Numbers.{number-of, root_small, state_small, routine_small, to_number, from_number}
use Rattle.reach.proofs.Numbers.{summary_fits, summary_apart, exit_number}
use Rattle.reach.proofs.ProgramInSizes.{after_small, Proper, initial_proper, derivable_in_range}
use Rattle.base.specs.Flags.{On}
use Rattle.base.proofs.SetFlags.{dec_on, on_lt, set_on, on_set, set_inv, clear_keep, clear_inv, none_on}
use Rattle.reach.proofs.LowestPending.{lowest_on, lowest_none}
use Rattle.reach.proofs.ShapeKept.{take_shape, work_kept, blank_shape, opened_shape}
use Rattle.reach.proofs.EdgesMark.{Marks, within_at, ByRoot, by_entry, by_summary, ByLabel, Opening, on_opened}
use Rattle.reach.proofs.OneTaking.{Marking, Waking, take_elsewhere, take_exit}
use Rattle.program.specs.declared.sizes.Sizes.{Sizes}
use Rattle.program.specs.Chosen.{numbers}
use Rattle.reach.specs.Sizes.{summaries}
use Rattle.reach.specs.Configurations.{Usable}
use Rattle.reach.specs.Ranged.{Ranged}

module _ (Z : Sizes) (U : Usable Z) where
  -- what follows from a configuration at once, by the known summaries, is marked
  pub record Closed (p : Program) (s : Worklist) (f n r q : ℕ) : Type 0 where
    pub exit : n ≡ 1 → On s.known (summary Z f r q)
    pub acts : {a m : ℕ} (x : ℕ) → HasStep p f n (Action a) m → Moves p q (Action a) x → On s.marks (number Z f m r x)
    pub calls : {g m : ℕ} (y : ℕ) → HasStep p f n (Call g) m → Moves p q (Call g) y → On s.marks (number Z g 0 y y)
    pub returns : {g m : ℕ} (y x t : ℕ) → x < Z.states → HasStep p f n (Call g) m → Moves p q (Call g) y → On s.known (summary Z g y x)
        → Moves p x (Return g) t → On s.marks (number Z f m r t)

  pub record Follows (p : Program) (S : Set) (s : Worklist) : Type 0 where
    pub shape : Shape Z s
    pub sound : {j : ℕ} → On s.marks j → At Z (Derivable p S Any) j
    pub seeds : {f n r q : ℕ} → S f n r q → On s.marks (number Z f n r q)
    pub pending : {j : ℕ} → On s.pending j → On s.marks j
    pub known : (g r q : ℕ) → g < Z.routines → r < Z.states → q < Z.states → On s.known (summary Z g r q) → On s.marks (number Z g 1 r q)
    pub closed : {j : ℕ} → On s.marks j → On s.pending j ⊎ At Z (Closed p s) j

  closed_more : {p : Program} {s t : Worklist} {f n r q : ℕ} → ((j : ℕ) → On s.marks j → On t.marks j) → t.known ≡ s.known
      → Closed p s f n r q → Closed p t f n r q
  closed_more i e z =
      record {
        exit = λ h. rw e (z.exit h);
        acts = λ x y m. i _ (z.acts x y m);
        calls = λ x y m. i _ (z.calls x y m);
        returns = λ y x t h w m o v. i _ (z.returns y x t h w m (rw e at o) v);
      }

  module _ (p : Program) (S : Set) (z : Ranged Z p) (h : Proper Z p S) where
    -- ---- what a step marks is derivable
    at_number : {f n r q : ℕ} → Derivable p S Any f n r q → At Z (Derivable p S Any) (number Z f n r q)
    at_number d = to_number (Derivable p S Any) (derivable_in_range Z U z h d) d

    root_sound : (s : Worklist) → Follows p S s → {f n m r q g y j : ℕ} → Derivable p S Any f n r q → HasStep p f n (Call g) m → Moves p q (Call g) y
        → ByRoot Z U p s.known f m r g y j → At Z (Derivable p S Any) j
    root_sound s v d e k (by_entry c) = rw c (at_number (by_call d e k tt))
    root_sound s v {g = g} {y = y} d e k (by_summary c) =
        let x = c.at in
        let hx : x < Z.states = omega (arith, c.high) in
        let o = v.sound (v.known g y x (z.called e) (after_small z _ _ _ k) hx c.holds.0) in
        let d' : Derivable p S Any g 1 y x =
        from_number (Derivable p S Any) (record { routine = z.called e; node = omega arith; root = after_small z _ _ _ k; state = hx }) o in
        let t = c.holds.1.holds in
        rw t.1 (at_number (by_return d e k d' t.0 tt))

    label_sound : (s : Worklist) → Follows p S s → (f n m r q : ℕ) (l : Event) (j : ℕ) → Derivable p S Any f n r q → HasStep p f n l m
        → ByLabel Z U p s.known f m r q l j → At Z (Derivable p S Any) j
    label_sound s v f n m r q (Action a) j d e c = rw c.holds.1 (at_number (by_action d e c.holds.0 tt))
    label_sound s v f n m r q (Call g) j d e c = root_sound s v d e c.holds.0 c.holds.1
    label_sound s v f n m r q (Return g) j d e c = absurd c

    -- ---- one iteration
    module _ (i : ℕ) (s : Worklist) (v : Follows p S s) (hi : On s.pending i) where
      -- elsewhere than at an exit
      elsewhere : (t : Worklist) → Shape Z t → node_of Z i ≢ 1 → Marking Z U p i s t → Follows p S t
      elsewhere t shape ne k =
          record {
            shape = shape;
            sound = λ {j} o.
                elim (k.new o) [
                  | inl x ↦ v.sound x
                  | inr x ↦
                      label_sound s v (routine_of Z i) (node_of Z i) x.0.target (root_of Z i) (state_of Z i) x.0.label j (v.sound (v.pending hi)) x.0.member
                      x.0.does
                ];
            seeds = λ x. k.keep (v.seeds x);
            pending = λ {j} o. elim (k.waits o) [ inl x ↦ k.keep (v.pending (clear_inv s.pending i j x)) | inr x ↦ x.0 ];
            known = λ g r q hg hr hq o. k.keep (v.known g r q hg hr hq (rw k.known at o));
            closed = λ {j} o. elim (k.new o) [ inl x ↦ old j (v.closed x) | inr x ↦ inl x.1 ];
          }
        where
          done : At Z (Closed p t) i
          done =
              record {
                exit = λ e. absurd (ne e);
                acts = λ {a} {m} x e c.
                    k.all (record { label = Action a; target = m; member = e; does = within_at x (after_small z _ _ _ c) (c, refl) });
                calls = λ {g} {m} y e c. rooted g m y e c (by_entry refl);
                returns = λ {g} {m} y x t hx e c o c'.
                    rooted g m y e c (by_summary (within_at x hx (rw k.known at o, within_at t (after_small z _ _ _ c') (c', refl))));
              }
            where
              rooted : (g m y : ℕ) → HasStep p (routine_of Z i) (node_of Z i) (Call g) m → Moves p (state_of Z i) (Call g) y → {j : ℕ}
                  → ByRoot Z U p s.known (routine_of Z i) m (root_of Z i) g y j → On t.marks j
              rooted g m y e c x = k.all (record { label = Call g; target = m; member = e; does = within_at y (after_small z _ _ _ c) (c, x) })

          old : (j : ℕ) → On s.pending j ⊎ At Z (Closed p s) j → On t.pending j ⊎ At Z (Closed p t) j
          old j (inl x) = elim (clear_keep s.pending i j x) [ inl e ↦ inr (subst (At Z (Closed p t)) (sym e) done) | inr y ↦ inl (k.wait y) ]
          old j (inr c) = inr (closed_more (λ y o. k.keep o) k.known c)

      -- at an exit
      at_exit : (t : Worklist) → Shape Z t → node_of Z i ≡ 1 → Waking Z U p i s t → Follows p S t
      unfolding learn
      at_exit t shape is-exit k =
          record {
            shape = shape;
            sound = λ {j} o. v.sound (of_s j o);
            seeds = λ x. to_t _ (v.seeds x);
            pending = λ {j} o. to_t j (elim (k.waits o) [ inl x ↦ v.pending (clear_inv s.pending i j x) | inr x ↦ x.1 ]);
            known = λ g r q hg hr hq o.
                elim (set_inv s.known here (summary Z g r q) (rw k.known at o)) [
                  | inl e ↦ rw (exit_number Z U i g r q is-exit hr hq e) (to_t i (v.pending hi))
                  | inr x ↦ to_t _ (v.known g r q hg hr hq x)
                ];
            closed = λ {j} o. old j (of_s j o) (v.closed (of_s j o));
          }
        where
          here : ℕ
          here = summary Z (routine_of Z i) (root_of Z i) (state_of Z i)

          of_s : (j : ℕ) → On t.marks j → On s.marks j
          of_s j o = rw k.marks at o

          to_t : (j : ℕ) → On s.marks j → On t.marks j
          to_t j o = rw k.marks o

          known_here : On t.known here
          known_here =
              let low = summary_fits Z (routine_of Z i) (root_of Z i) (state_of Z i)
              (routine_small Z U i (omega (arith, v.shape.pending_length, on_lt s.pending i hi))) (root_small Z U i) (state_small Z U i) in
              rw k.known (set_on s.known here (omega (arith, v.shape.known_length)))

          done : At Z (Closed p t) i
          done =
              record {
                exit = λ e. known_here;
                acts = λ x e y. absurd (z.no_exit e is-exit);
                calls = λ y e c. absurd (z.no_exit e is-exit);
                returns = λ y x t hx e c o c'. absurd (z.no_exit e is-exit);
              }

          -- what the new summary adds to is pending
          new_returns : (j : ℕ) → On s.marks j → ¬ (On t.pending j) → At Z (Closed p s) j → (g m y x a : ℕ) → x < Z.states
              → HasStep p (routine_of Z j) (node_of Z j) (Call g) m → Moves p (state_of Z j) (Call g) y → On t.known (summary Z g y x) → Moves p x (Return g) a
              → On s.marks (number Z (routine_of Z j) m (root_of Z j) a)
          new_returns j o not_pending c g m y x a hx e b l b' =
              elim (set_inv s.known here (summary Z g y x) (rw k.known at l)) [
                | inl w ↦
                    let u = summary_apart Z g y x (routine_of Z i) (root_of Z i) (state_of Z i) (after_small z _ _ _ b) hx (root_small Z U i) (state_small Z U i) w in
                    absurd (not_pending (k.woken (record {
                      routine = routine_of Z j;
                      node = node_of Z j;
                      target = m;
                      member = subst (λ (g : ℕ). HasStep p (routine_of Z j) (node_of Z j) (Call g) m) u.0 e;
                      gives = within_at (state_of Z j) (state_small Z U j)
                          (rw (← u.0, ← u.1) b, within_at (root_of Z j) (root_small Z U j) (sym (number-of Z j)));
                    }) o))
                | inr w ↦ c.returns y x a hx e b w b'
              ]

          still : (j : ℕ) → On s.marks j → At Z (Closed p s) j → On t.pending j ⊎ At Z (Closed p t) j
          still j o c =
              elim (dec_on t.pending j) [
                | yes w ↦ inl w
                | no w ↦ inr (record {
                  exit = λ e. rw k.known (on_set s.known here (summary Z (routine_of Z j) (root_of Z j) (state_of Z j)) (c.exit e));
                  acts = λ x e y. to_t _ (c.acts x e y);
                  calls = λ y e b. to_t _ (c.calls y e b);
                  returns = λ {g} {m} y x a hx e b l b'. to_t _ (new_returns j o w c g m y x a hx e b l b');
                })
              ]

          old : (j : ℕ) → On s.marks j → On s.pending j ⊎ At Z (Closed p s) j → On t.pending j ⊎ At Z (Closed p t) j
          old j o (inl x) = elim (clear_keep s.pending i j x) [ inl e ↦ inr (subst (At Z (Closed p t)) (sym e) done) | inr y ↦ inl (k.wait y) ]
          old j o (inr c) = still j o c

      pub take_follows : Follows p S (take_one Z p i s)
      take_follows =
          let shape = take_shape Z U p i s v.shape in
          elim (ℕ_discrete (node_of Z i) 1) [
            | yes e ↦ at_exit (take_one Z p i s) shape e (take_exit Z U p z i s v.shape e)
            | no ne ↦ elsewhere (take_one Z p i s) shape ne (take_elsewhere Z U p z i s v.shape ne)
          ]

    pub work_follows : (k : ℕ) (s : Worklist) → Follows p S s → Follows p S (work Z k p (lowest s.pending 0) s)
    work_follows k s v = work_kept Z U p (λ i t e v. take_follows i t v (lowest_on t.pending i e)) k (lowest s.pending 0) s refl v

    -- ---- nothing is pending

    module _ (s : Worklist) (v : Follows p S s) (none_pending : lowest s.pending 0 ≡ none) where
      closed_at : {f n r q : ℕ} → InRange Z f n r q → On s.marks (number Z f n r q) → Closed p s f n r q
      closed_at i o = from_number (Closed p s) i (elim (v.closed o) [ inl x ↦ absurd (lowest_none s.pending none_pending _ x) | inr c ↦ c ])

      derivable_marked : {f n r q : ℕ} → Derivable p S Any f n r q → On s.marks (number Z f n r q)
      derivable_marked (seeded x w) = v.seeds x
      derivable_marked (by_action {s = x} d e m w) = (closed_at (derivable_in_range Z U z h d) (derivable_marked d)).acts x e m
      derivable_marked (by_call {s = y} d e m w) = (closed_at (derivable_in_range Z U z h d) (derivable_marked d)).calls y e m
      derivable_marked (by_return {s = y} {x = x} {t = t} d e m d' m' w) =
          let i = derivable_in_range Z U z h d' in
          (closed_at (derivable_in_range Z U z h d) (derivable_marked d)).returns y x t i.state e m ((closed_at i (derivable_marked d')).exit refl) m'

      -- exactly what is derivable is marked
      pub follows_exact : (f n r q : ℕ) → (InRange Z f n r q × On s.marks (number Z f n r q)) ↔ Derivable p S Any f n r q
      follows_exact f n r q = (λ c. from_number (Derivable p S Any) c.0 (v.sound c.1), λ d. (derivable_in_range Z U z h d, derivable_marked d))

      -- exactly the summaries of derivable exits are known
      pub follows_known : (g r q : ℕ) → InRange Z g 1 r q → On s.known (summary Z g r q) ↔ Derivable p S Any g 1 r q
      follows_known g r q i = (
        λ o. from_number (Derivable p S Any) i (v.sound (v.known g r q i.routine i.root i.state o)),
        λ d. (closed_at i (derivable_marked d)).exit refl,
      )

  -- ---- the start

  pub opened_follows : (p : Program) → Ranged Z p → Follows p (Initial p) (opened Z p.automaton.initial (blank Z))
  unfolding none_set
  opened_follows p z =
      record {
        shape = opened_shape Z U p.automaton.initial;
        sound = λ o. elim (k.new o) [ inl x ↦ none_on (numbers Z) x | inr x ↦ rw x.0.is (first x.0.state x.0.member) ];
        seeds = begun;
        pending = λ o. elim (k.waits o) [ inl x ↦ none_on (numbers Z) x | inr x ↦ x.0 ];
        known = λ g r q hg hr hq o. none_on (summaries Z) (rw k.known at o);
        closed = λ o. elim (k.new o) [ inl x ↦ none_on (numbers Z) x | inr x ↦ inl x.1 ];
      }
    where
      k : Marks (Opening Z U p.automaton.initial) (blank Z) (opened Z p.automaton.initial (blank Z))
      k = on_opened Z U p.automaton.initial (blank Z) z.main (λ q m. let b = z.begun m in let c = z.states in omega arith) (blank_shape Z U)

      first : (q : ℕ) → Memᴰ q p.automaton.initial → At Z (Reachable p) (number Z 0 0 q q)
      first q m =
          let d : Reachable p 0 0 q q = seeded (initial m) tt in
          to_number (Reachable p) (derivable_in_range Z U z (initial_proper Z U p z) d) d

      begun : {f n r q : ℕ} → Initial p f n r q → On (opened Z p.automaton.initial (blank Z)).marks (number Z f n r q)
      begun (initial {q} m) = k.all (record { state = q; member = m; is = refl })
