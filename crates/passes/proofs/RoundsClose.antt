-- Rounds over the routines of a component: each turn marks what follows by the edges of one routine, and once a round marks nothing, what is marked
-- is exactly what follows by the edges of all of them.
use Prim.Native.Nat.{ℕ, ◌+◌, ◌-◌, ◌<◌}
use mathlib.Core.Path.{◌≡◌, refl, sym, subst, ◌∙◌}
use mathlib.Core.Logic.{◌≢◌}
use mathlib.Core.Bool.{Bool, true, false}
use mathlib.Core.List.{List, map}
use native.Mathlib.Omega.{arith}
use native.Mathlib.Decide.{ℕ_discrete}
use lib.ListN.{length, get_or}
use borrow.Author.Tests.{eqb-true, eq-eqb}
use Rattle.automaton.specs.NextStates.{Answers}
use Rattle.program.specs.Program.{Program}
use Rattle.reach.specs.Ranged.{Ranged}
use Rattle.program.specs.Decoded.{edge_of}
use Rattle.reach.specs.Sizes.{routine_span}
use Rattle.reach.specs.Configurations.{Set, InRange, number, Sub}
use Rattle.reach.specs.Reachable.{Derivable, seeded, by_action, by_call, by_return, Any}
use Rattle.reach.specs.Marks.{Marked, Shows, Between}
use Rattle.base.specs.Flags.{count_set, On}
use Rattle.reach.proofs.LeastSetLaws.{Within, grows, flat}
use Rattle.reach.proofs.Numbers.{number-of, parts_in_range, routine-span, first_number}
use Rattle.reach.proofs.ProgramInSizes.{Proper, derivable_state, derivable_in_range}
use Rattle.base.proofs.SetFlags.{on_lt}
use Rattle.reach.proofs.MarksShown.{one_of, shows_marked, count_small}
use Rattle.closure.specs.Parts.{Followable}
use Rattle.callgraph.specs.Components.{member_of, Member}
use Rattle.callgraph.proofs.FlagsClosed as Flags
use Rattle.callgraph.proofs.FlagsClosed.{count_grows, count_same}
use Rattle.callgraph.proofs.RoutineSets.{member_true, true_member, false_member}
use Rattle.passes.specs.Passes.{only_of, edges_of}
use Rattle.passes.specs.PassParts.{is, Ready, ByRoutine, ByMembers, Grows, Round, Turn}
use Rattle.passes.proofs.EdgesOfRoutines.{only_well_formed, only_ranged, only_sized, only_step, only_routine, step_only, only_within}
use Rattle.program.specs.declared.sizes.Sizes.{Sizes}
use Rattle.program.specs.Chosen.{numbers}

module _ {Z : Sizes} where
  -- ---- marks that show a set

  pub shown_marked : {S : Set} {l : List ℕ} → Shows Z S l → Sub (Marked Z l) S
  shown_marked s = record { at = λ {f} {n} {r} {q} x. (s.shown x.0).0 (one_of (s.bit (number Z f n r q)) x.1) }

  module _ {p : Program} {marks : List ℕ} (h : Ready Z p marks) (c : ℕ → Bool) where
    w : Ranged Z (only_of c p)
    w = only_ranged c p h.sized.ranged

    proper : Proper Z (only_of c p) (Marked Z marks)
    proper = record { in_range = λ x. x.0; state = λ x. h.states x }

    pub only_state : {f n r q : ℕ} → Derivable (only_of c p) (Marked Z marks) Any f n r q → q < p.automaton.states
    only_state d = derivable_state Z h.sized.usable w proper d

    pub marked_shown : {l : List ℕ} → Shows Z (Derivable (only_of c p) (Marked Z marks) Any) l → Sub (Derivable (only_of c p) (Marked Z marks) Any) (Marked Z l)
    marked_shown s =
        record {
          at = λ {f} {n} {r} {q} d.
              let i = derivable_in_range Z h.sized.usable w proper d in
              let e = (s.shown i).1 d in
              (i, λ z. omega arith);
        }

  -- ---- marks that grow

  module _ {p : Program} {members marks : List ℕ} (h : Ready Z p marks) where
    pub grows_none : Grows Z p members marks marks
    grows_none =
        record {
          marks-length = h.marks-length;
          marks_bits = h.marks_bits;
          keeps = record { at = λ x. x };
          sound = record { at = λ x. seeded x tt };
        }

    module _ {marks' : List ℕ} (g : Grows Z p members marks marks') where
      pub grown_ready : Ready Z p marks'
      grown_ready =
          record {
            well_formed = h.well_formed;
            sized = h.sized;
            marks-length = g.marks-length;
            marks_bits = g.marks_bits;
            states = λ x. only_state h (member_of members) (g.sound.at x);
          }

      pub grows_then : {marks'' : List ℕ} → Grows Z p members marks' marks'' → Grows Z p members marks marks''
      grows_then k =
          record {
            marks-length = k.marks-length;
            marks_bits = k.marks_bits;
            keeps = record { at = λ x. k.keeps.at (g.keeps.at x) };
            sound = record { at = λ x. flat g.sound (k.sound.at x) };
          }

  -- ---- a turn

  -- a configuration that has none of the numbers of routine f is another's
  other_routine : {f g n r q low span : ℕ} → low ≡ number Z f 0 0 0 → span ≡ routine_span Z → InRange Z g n r q → ¬ (Between low (low + span) (number Z g n r q)) → g ≢ f
  other_routine {f} e long h ne same = ne (rw (e, long, first_number Z f, ← same) (routine-span h))

  -- no edge of routine f leads from the configurations of another
  pub turn_followable : {p : Program} {steps next marks : List ℕ} {low span : ℕ} (f : ℕ) → low ≡ number Z f 0 0 0 → span ≡ routine_span Z → Ready Z p marks
      → edges_of (is f) p.edges ≡ map edge_of steps → Answers p.automaton p.routines next
      → Followable Z (only_of (is f) p) steps next low (low + span) marks
  turn_followable {p} f first long h e a =
      record {
        well_formed = only_well_formed (is f) p h.well_formed;
        sized = only_sized (is f) p h.sized;
        edges = e;
        answers = a;
        closed = record {
          marks-length = h.marks-length;
          marks_bits = h.marks_bits;
          states = h.states;
          closed = λ {f = g} m ne.
              let x = other_routine first long m.0 ne in
              record {
                acts = λ s v. absurd (x (eqb-true g f (only_routine (is f) p s)));
                calls = λ s v. absurd (x (eqb-true g f (only_routine (is f) p s)));
                returns = λ s v m' v'. absurd (x (eqb-true g f (only_routine (is f) p s)));
              };
        };
      }

  module _ {p : Program} {members marks : List ℕ} (h : Ready Z p marks) (f : ℕ) where
    pub no_turn : member_of members f ≡ false → Turn Z p members f marks marks
    no_turn e = record { grows = grows_none h; closed = λ m. absurd (false_member members f e m) }

    pub turn_shown : {marks' : List ℕ} → Member members f → Shows Z (ByRoutine Z p f marks) marks' → Turn Z p members f marks marks'
    turn_shown m s =
        let to = marked_shown h (is f) s in
        record {
          grows = record {
            marks-length = s.len;
            marks_bits = s.bit;
            keeps = record { at = λ x. to.at (seeded x tt) };
            sound = record { at = λ x. grows mine (record { at = λ y. y }) (record { at = λ y. y }) ((shown_marked s).at x) };
          };
          closed = λ y. to;
        }
      where
        mine : Within (only_of (is f) p) (only_of (member_of members) p)
        mine = only_within (is f) p (member_of members) (λ g e. rw (eqb-true g f e) (member_true members f m))

  -- ---- a round

  pub round_none : {p : Program} {members marks : List ℕ} → Ready Z p marks → Round Z p members 0 marks marks
  round_none h = record { grows = grows_none h; closed = λ x f l. absurd (omega arith) }

  pub round_turn : {p : Program} {members marks marks' marks'' : List ℕ} {n : ℕ} → Ready Z p marks → Round Z p members n marks marks' → Turn Z p members n marks' marks''
      → Round Z p members (n + 1) marks marks''
  round_turn {p} {members} {marks} {marks'} {marks''} {n} h g t =
      record {
        grows = grows_then h g.grows t.grows;
        closed = λ x f l m.
            elim (ℕ_discrete f n) [
              | yes e ↦
                  let m' : Member members n = subst (Member members) e m in
                  subst (λ (k : ℕ). Sub (ByRoutine Z p k marks) (Marked Z marks)) (sym e)
                  (record { at = λ y. x.at ((t.closed m').at (grows (only_within (is n) p (is n) (λ k e. e)) g.grows.keeps (record { at = λ z. z }) y)) })
              | no e ↦ g.closed (record { at = λ y. x.at (t.grows.keeps.at y) }) f (omega arith) m
            ];
      }

  -- ---- how many are marked

  module _ {p : Program} {members marks marks' : List ℕ} (h : Ready Z p marks) (g : Grows Z p members marks marks') where
    grown : Flags.Grows marks marks'
    grown = record { stays = λ j x. record { on = kept_at j x } }
      where
        kept_at : (j : ℕ) → On marks j → get_or marks' j 0 ≢ 0
        kept_at j x =
            let b : j < numbers Z = omega (arith, h.marks-length, on_lt marks j x) in
            let e = number-of Z j in
            let y : Marked Z marks _ _ _ _ = (parts_in_range Z h.sized.usable j b, subst (λ (i : ℕ). get_or marks i 0 ≢ 0) (sym e) x.on) in
            subst (λ (i : ℕ). get_or marks' i 0 ≢ 0) e (g.keeps.at y).1

    same_length : length marks ≡ length marks'
    same_length = h.marks-length ∙ sym g.marks-length

    -- so a round that marks more comes nearer to all
    pub rounds_less : {after before : ℕ} → after ≡ count_set marks' → before ≡ count_set marks → after ≢ before
        → numbers Z - count_set marks' < numbers Z - count_set marks
    rounds_less a b ne =
        elim (ℕ_discrete (count_set marks') (count_set marks)) [
          | yes e ↦ absurd (ne (a ∙ e ∙ sym b))
          | no e ↦ omega (arith, count_grows marks marks' same_length grown, count_small marks', g.marks-length)
        ]

    pub none_new : count_set marks' ≡ count_set marks → Sub (Marked Z marks') (Marked Z marks)
    none_new e =
        record {
          at = λ {f} {n} {r} {q} x.
              (x.0, (count_same marks marks' same_length grown (omega arith) (number Z f n r q) (record { on = x.1 })).on);
        }

  -- ---- the end of the rounds

  module _ {p : Program} {members marks marks' marks'' : List ℕ} (h : Ready Z p marks) (g : Grows Z p members marks marks')
      (r : Round Z p members Z.routines marks' marks'') (e : count_set marks'' ≡ count_set marks') where
    closed : (f : ℕ) → f < Z.routines → Member members f → Sub (ByRoutine Z p f marks') (Marked Z marks')
    closed = r.closed (none_new (grown_ready h g) r.grows e)

    own_step : (f : ℕ) → is f f ≡ true
    own_step f = eq-eqb f f refl

    all_marked : {f n r q : ℕ} → ByMembers Z p members marks f n r q → Marked Z marks' f n r q
    all_marked (seeded x y) = g.keeps.at x
    all_marked (by_action {f = f} d s v y) =
        let x = all_marked d in
        let m = true_member members f (only_routine (member_of members) p s) in
        (closed f x.0.routine m).at (by_action (seeded x tt) (step_only (is f) p (own_step f) (only_step (member_of members) p s)) v tt)
    all_marked (by_call {f = f} d s v y) =
        let x = all_marked d in
        let m = true_member members f (only_routine (member_of members) p s) in
        (closed f x.0.routine m).at (by_call (seeded x tt) (step_only (is f) p (own_step f) (only_step (member_of members) p s)) v tt)
    all_marked (by_return {f = f} {x = z} d s v d' v' y) =
        let x = all_marked d in
        let x' = all_marked d' in
        let m = true_member members f (only_routine (member_of members) p s) in
        (closed f x.0.routine m).at
        (by_return {x = z} (seeded x tt) (step_only (is f) p (own_step f) (only_step (member_of members) p s)) v (seeded x' tt) v' tt)

    pub rounds_end : Shows Z (ByMembers Z p members marks) marks''
    rounds_end =
        let k = grows_then h g r.grows in
        shows_marked Z h.sized.usable k.marks-length k.marks_bits
        (λ f n r' q. (λ x. k.sound.at x, λ d. r.grows.keeps.at (all_marked d)))
