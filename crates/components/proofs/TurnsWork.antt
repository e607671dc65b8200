-- The turns of the inside-out repair.
use mathlib.Core.Path.{◌≡◌, sym, subst, ◌∙◌}
use mathlib.Core.Logic.{◌⊎◌, inl, inr, ◌↔◌}
use mathlib.Core.Bool.{true}
use mathlib.Core.List.{List, Memᴰ}
use Prim.Native.Nat.{ℕ, ◌+◌, ◌≤◌, ◌<◌}
use native.Mathlib.Omega.{arith}
use native.Mathlib.Decide.{ℕ_discrete}
use lib.ListN.{length, get_or}
use Rattle.automaton.specs.Automaton.{Automaton, moves}
use Rattle.program.specs.Sizes.{max_routines}
use Rattle.program.specs.Program.{Program}
use Rattle.reach.specs.Configurations.{InRange, number}
use Rattle.reach.specs.Reachable.{Initial, initial, Reachable}
use Rattle.reach.specs.Marks.{Marked}
use Rattle.reach.proofs.ProgramInSizes.{reachable_in_range}
use Rattle.callgraph.specs.Components.{CallEdge, Together, Anew, Reanalyzed, Member}
use Rattle.callgraph.specs.Parts.{Joined}
use Rattle.components.specs.TurnParts.{DropOf, Ranks, turn_of, Working}
use Rattle.callgraph.proofs.RoutineSets.{member_small, member_dec}
use Rattle.callgraph.proofs.ComponentsFromFlags.{together_sym, together_trans, called_small}
use Rattle.components.proofs.ComponentsAnew.{Dropped, Untouched, root_old, anew_old, untouched_kept}
use Rattle.program.specs.declared.sizes.Sizes.{Sizes}
use Rattle.program.specs.Chosen.{numbers}

-- what one routine of a component is, all are
pub reanalyzed_together : {p p' : Program} {edited f g : ℕ} → Together p' f g → Reanalyzed p p' edited f → Reanalyzed p p' edited g
reanalyzed_together t o =
    record {
      member = o.member;
      together = together_trans (together_sym t) o.together;
      reason = elim o.reason [
        | inl e ↦ inl e
        | inr c ↦ inr (record { called = c.called; calls = c.calls; outside = λ u. c.outside (together_trans t u); changed = c.changed })
      ];
    }

module _ {Z : Sizes} where
  -- whether a configuration is marked
  pub dec_marked : (marks : List ℕ) (f n r q : ℕ) → InRange Z f n r q → Dec (Marked Z marks f n r q)
  dec_marked marks f n r q i = elim (ℕ_discrete (get_or marks (number Z f n r q) 0) 0) [ yes e ↦ no (λ m. m.1 e) | no e ↦ yes (i, e) ]

  -- ---- the program before and the one after

  module _ {p p' : Program} {edited : ℕ} (h : DropOf Z p p' edited) where
    pub dropped : Dropped p p'
    dropped =
        record {
          within = record { steps = h.steps; moves = λ q e s v. subst (λ (a : Automaton). moves a q e s ≡ true) h.automaton v };
          moves = λ q e s v. subst (λ (a : Automaton). moves a q e s ≡ true) (sym h.automaton) v;
          initials = record { at = there };
          back = record { at = back };
        }
      where
        there : {f n r q : ℕ} → Initial p f n r q → Initial p' f n r q
        there (initial {q} m) = initial (subst (λ (a : Automaton). Memᴰ q a.initial) (sym h.automaton) m)

        back : {f n r q : ℕ} → Initial p' f n r q → Initial p f n r q
        back (initial {q} m) = initial (subst (λ (a : Automaton). Memᴰ q a.initial) h.automaton m)

    module _ {rank : ℕ → ℕ} (k : Ranks p' rank) {i : ℕ} {marks done reanalyzed : List ℕ} (w : Working Z p p' edited rank i marks done reanalyzed) where
      -- ---- a turn without work: nobody has it, or who has it is done
      pub skipped : ((f : ℕ) → f < max_routines → turn_of rank f ≡ i → Member done f) → Working Z p p' edited rank (i + 1) marks done reanalyzed
      skipped s =
          record {
            marks-length = w.marks-length;
            marks_bits = w.marks_bits;
            done_length = w.done_length;
            reanalyzed_length = w.reanalyzed_length;
            earlier = λ f hf lt. elim (ℕ_discrete (turn_of rank f) i) [ yes e ↦ s f hf e | no ne ↦ w.earlier f hf (omega arith) ];
            whole = w.whole;
            worked = w.worked;
            old = w.old;
            right = w.right;
            none_yet = w.none_yet;
          }

      -- ---- the turn of a routine f that is not done, with its component
      module _ (f : ℕ) (hf : f < max_routines) (turn : turn_of rank f ≡ i) (not_done : ¬ (Member done f)) (members : List ℕ)
          (members-length : length members ≡ max_routines) (is_member : (g : ℕ) → g < max_routines → Member members g ↔ Together p' f g) where
        -- no routine of the component is done
        pub member_waits : (g : ℕ) → g < max_routines → Member members g → ¬ (Member done g)
        member_waits g hg m x = not_done (w.whole g f hg hf x (together_sym ((is_member g hg).0 m)))

        -- what is called outside is done
        pub called_done : {g c : ℕ} → g < max_routines → Member members g → CallEdge p' g c → ¬ (Member members c) → Member done c
        called_done {g} {c} hg m e x =
            let hc = called_small p' h.well_formed e in
            let t = (is_member g hg).0 m in
            let apart : ¬ (Together p' g c) = λ u. x ((is_member c hc).1 (together_trans t u)) in
            w.earlier c hc (omega (arith, k.lower g c hg hc e apart, k.equal f g hf hg t))

        -- ---- the sets of routines, after the turn
        module _ {done' : List ℕ} (j : Joined done members done') where
          member_of : (g : ℕ) → Member done' g → Member done g ⊎ ((g < max_routines) × Member members g)
          member_of g x = let hg = member_small done' g (j.len ∙ w.done_length) x in elim ((j.joined g hg).0 x) [ inl y ↦ inl y | inr y ↦ inr (hg, y) ]

          stays : (g : ℕ) → Member done g → Member done' g
          stays g x = (j.joined g (member_small done g w.done_length x)).1 (inl x)

          joins : (g : ℕ) → Member members g → Member done' g
          joins g x = (j.joined g (member_small members g members-length x)).1 (inr x)

          earlier : (g : ℕ) → g < max_routines → turn_of rank g < i + 1 → Member done' g
          earlier g hg lt =
              elim (ℕ_discrete (turn_of rank g) i) [
                | yes e ↦ joins g ((is_member g hg).1 (inl (same_turn g hg e)))
                | no ne ↦ stays g (w.earlier g hg (omega arith))
              ]
            where
              same_turn : (g : ℕ) → g < max_routines → turn_of rank g ≡ i → f ≡ g
              same_turn g hg e = omega arith

          whole : (a b : ℕ) → a < max_routines → b < max_routines → Member done' a → Together p' a b → Member done' b
          whole a b ha hb x t =
              elim ((j.joined a ha).0 x) [
                | inl y ↦ stays b (w.whole a b ha hb y t)
                | inr y ↦ joins b ((is_member b hb).1 (together_trans ((is_member a ha).0 y) t))
              ]

        -- ---- the component need not be reanalyzed
        module _ (unless : ¬ (Reanalyzed p p' edited f)) where
          kept : (g n r q : ℕ) → g < max_routines → Member members g → Marked Z marks g n r q ↔ Anew p p' g n r q
          kept g n r q hg m =
              let old = w.old g n r q (member_waits g hg m) in
              (λ x. untouched_kept dropped untouched (hg, m) (old.0 x), λ x. old.1 (anew_old dropped x))
            where
              untouched : Untouched dropped (λ (g : ℕ). (g < max_routines) × Member members g)
              untouched =
                  record {
                    steps = λ {f = g} c e. h.others (λ z. unless (record { member = g; together = (is_member g c.0).0 c.1; reason = inl z })) e;
                    calls = λ {f = g} {n = n} {m = m} {g = y} c e.
                        let call : CallEdge p' g y = record { source = n; target = m; edge = e } in
                        let hy = called_small p' h.well_formed call in
                        elim (k.decides f y hf hy) [
                          | yes t ↦ inl (hy, (is_member y hy).1 t)
                          | no t ↦ inr (λ s x o. unchanged c call hy t s x o)
                        ];
                  }
                where
                  unchanged : {g y : ℕ} → (g < max_routines) × Member members g → CallEdge p' g y → y < max_routines → ¬ (Together p' f y) → (s x : ℕ) → Reachable p y 1 s x
                      → Anew p p' y 1 s x
                  unchanged {g} {y} c e hy t s x o =
                      let m = called_done c.0 c.1 e (λ u. t ((is_member y hy).0 u)) in
                      elim (dec_marked marks y 1 s x (reachable_in_range Z h.sized.usable p h.old_ranged o)) [
                        | yes z ↦ (w.worked y 1 s x m).0 z
                        | no z ↦ absurd (unless (record {
                          member = g;
                          together = (is_member g c.0).0 c.1;
                          reason = inr (record {
                            called = y;
                            calls = e;
                            outside = t;
                            changed = record { root = s; state = x; old = root_old dropped o; differs = inl (o, λ a. z ((w.worked y 1 s x m).1 a)) };
                          });
                        }))
                      ]

          -- its routines are done, as they are
          pub kept_turn : (done' : List ℕ) → Joined done members done' → Working Z p p' edited rank (i + 1) marks done' reanalyzed
          kept_turn done' j =
              record {
                marks-length = w.marks-length;
                marks_bits = w.marks_bits;
                done_length = j.len ∙ w.done_length;
                reanalyzed_length = w.reanalyzed_length;
                earlier = earlier j;
                whole = whole j;
                worked = λ g n r q x. elim (member_of j g x) [ inl y ↦ w.worked g n r q y | inr y ↦ kept g n r q y.0 y.1 ];
                old = λ g n r q x. w.old g n r q (λ y. x (stays j g y));
                right = λ g hg x.
                    elim ((j.joined g hg).0 x) [
                      | inl y ↦ w.right g hg y
                      | inr y ↦ (
                        λ z. absurd (w.none_yet g (member_waits g hg y) z),
                        λ z. absurd (unless (reanalyzed_together (together_sym ((is_member g hg).0 y)) z)),
                      )
                    ];
                none_yet = λ g x. w.none_yet g (λ y. x (stays j g y));
              }

        -- ---- the component is worked anew
        pub worked_turn : Reanalyzed p p' edited f → (marks' done' reanalyzed' : List ℕ) → Joined done members done' → Joined reanalyzed members reanalyzed'
            → length marks' ≡ numbers Z → ((x : ℕ) → get_or marks' x 0 ≤ 1)
            → ((g n r q : ℕ) → Member members g → Marked Z marks' g n r q ↔ Anew p p' g n r q)
            → ((g n r q : ℕ) → ¬ (Member members g) → Marked Z marks' g n r q ↔ Marked Z marks g n r q)
            → Working Z p p' edited rank (i + 1) marks' done' reanalyzed'
        worked_turn o marks' done' reanalyzed' j l len bits inside outside =
            record {
              marks-length = len;
              marks_bits = bits;
              done_length = j.len ∙ w.done_length;
              reanalyzed_length = l.len ∙ w.reanalyzed_length;
              earlier = earlier j;
              whole = whole j;
              worked = λ g n r q x.
                  elim (member_dec members g) [
                    | yes m ↦ inside g n r q m
                    | no m ↦
                        let y : Member done g = elim (member_of j g x) [ inl y ↦ y | inr y ↦ absurd (m y.1) ] in
                        let a = outside g n r q m in
                        let b = w.worked g n r q y in
                        (λ z. b.0 (a.0 z), λ z. a.1 (b.1 z))
                  ];
              old = λ g n r q x.
                  let a = outside g n r q (λ m. x (joins j g m)) in
                  let b = w.old g n r q (λ y. x (stays j g y)) in
                  (λ z. b.0 (a.0 z), λ z. a.1 (b.1 z));
              right = λ g hg x.
                  elim (member_dec members g) [
                    | yes m ↦ (λ z. reanalyzed_together ((is_member g hg).0 m) o, λ z. (l.joined g hg).1 (inr m))
                    | no m ↦
                        let y : Member done g = elim (member_of j g x) [ inl y ↦ y | inr y ↦ absurd (m y.1) ] in
                        let b = w.right g hg y in
                        (λ z. elim ((l.joined g hg).0 z) [ inl u ↦ b.0 u | inr u ↦ absurd (m u) ], λ z. (l.joined g hg).1 (inl (b.1 z)))
                  ];
              none_yet = λ g x z.
                  let hg = member_small reanalyzed' g (l.len ∙ w.reanalyzed_length) z in
                  elim ((l.joined g hg).0 z) [
                    | inl u ↦ w.none_yet g (λ y. x (stays j g y)) u
                    | inr u ↦ x (joins j g u)
                  ];
            }
