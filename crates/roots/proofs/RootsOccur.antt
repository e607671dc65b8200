-- The roots on a sheet of marks, the roots that occur, and the cut to these.
use Prim.Native.Nat.{ℕ, min, ◌/◌, ◌%◌, ◌≤◌, ◌<◌}
use mathlib.Core.Path.{◌≡◌, refl, sym, ap, subst, ◌∙◌}
use mathlib.Core.Logic.{◌↔◌, ◌≢◌}
use mathlib.Core.Bool.{Bool, true, false, cond, ◌&&◌, not}
use mathlib.Core.List.{List, Memᴰ}
use native.Mathlib.Omega.{arith}
use lib.Dec.{eqb, ltb}
use mir.Val.{bool_byte}
use lib.ListN.{length, get_or, take, replicate, length-replicate}
use lib.Seq.{get_or-take, length-take-le}
use borrow.Author.Tests.{ne_eqb, leb-true, ltb-true, lt-ltb}
use Rattle.automaton.specs.Sizes.{max_states, first_call}
use Rattle.automaton.specs.Automaton.{call_of, moves}
use Rattle.automaton.specs.NextStates.{set_at, Answers}
use Rattle.automaton.specs.Decoded.{automaton_of}
use Rattle.automaton.specs.declared.Event.TheVariants.{Call}
use Rattle.automaton.proofs.MovesAsked.{asked}
use Rattle.base.specs.Bits.{bit}
use Rattle.base.specs.Flags.{is_set, On}
use Rattle.program.specs.Sizes.{max_routines}
use Rattle.program.specs.declared.sizes.Sizes.{Sizes}
use Rattle.program.specs.Chosen.{numbers, Admitted}
use Rattle.program.specs.Program.{Edge, Program, is_call, called_by}
use Rattle.program.specs.WellFormed.{WellFormed}
use Rattle.program.specs.Decoded.{program_of}
use Rattle.program.specs.declared.DecodedProgram.{DecodedProgram}
use Rattle.program.proofs.ProgramRanged.{ranged}
use Rattle.base.proofs.Bools.{both}
use Rattle.reach.specs.Sizes.{roots_size}
use Rattle.reach.specs.Configurations.{Usable, InRange, number, routine_of, root_of, root_place}
use Rattle.reach.specs.Ranged.{Ranged}
use Rattle.reach.specs.Runs.{HasStep, Moves}
use Rattle.reach.specs.Marks.{Marked, Shows}
use Rattle.base.proofs.SetFlags.{set_byte, none_on}
use Rattle.reach.proofs.Numbers.{number_fits, routine-of, root-of, root_place_fits, root_place_apart}
use Rattle.reach.proofs.Labels.{step_event}
use Rattle.reach.proofs.ProgramInSizes.{after_small}
use Rattle.base.specs.Filled.{Filled}
use Rattle.base.proofs.EntriesInUse.{in_use_all}
use Rattle.base.proofs.BytesFilled.{filled_bits}
use Rattle.callgraph.proofs.FlagsClosed.{Obeys, Copy, One, obeys_set, obeys_copy, obeys_when, obeys_turns, Growing, growing_start}
use Rattle.callgraph.proofs.ComponentsFromFlags.{bit_small}
use Rattle.callgraph.proofs.CallsByKey.{edge_at, at_in, place_of, KeysOf, key_step, step_key}
use Rattle.roots.specs.Roots.{Live, begun, called, LiveMarked}
use Rattle.roots.specs.Parts.{RootFlags, roots_after_call, roots_when_marked, roots_by_call, roots_by_edge, roots_by_edges, roots_of_main, kept_byte_of, entry_byte}

-- the table answers by the label of an edge that calls
call_answer : {p : Program} {next : List ℕ} → WellFormed p → Answers p.automaton p.routines next
    → {f n m : ℕ} (q a s : ℕ) → is_call a ≡ true → HasStep p f n (Call (called_by a)) m
    → bit s (set_at next q a) ≡ moves p.automaton q (Call (called_by a)) s
call_answer {p} wf w q a s t h =
    let low = leb-true first_call a t in
    let is : call_of (called_by a) ≡ a = omega arith in
    rw is at (asked p.automaton p.routines (ranged p wf) w q (Call (called_by a)) s (step_event p wf h))

byte_set : (l : List ℕ) (j : ℕ) → get_or l j 0 ≢ 0 → is_set l j ≡ true
byte_set l j h = ap not (ne_eqb (get_or l j 0) 0 h)

-- the flags at the start are those of this program's initial states
pub record Started (p : Program) (keys : List ℕ) (count : ℕ) (next l₀ : List ℕ) : Type 0 where
  pub keyed : KeysOf p keys count
  pub answered : Answers p.automaton p.routines next
  pub list : List ℕ
  pub used : ℕ
  pub fits : used ≤ length list
  pub initial : p.automaton.initial ≡ take used list
  pub start : l₀ ≡ roots_of_main list used (replicate roots_size 0)

pub started : (d : DecodedProgram) {keys : List ℕ} {count : ℕ} {next l₀ : List ℕ} → KeysOf (program_of d) keys count
    → Answers (automaton_of d.automaton) d.routines next
    → length d.automaton.initial.list ≡ max_states
    → l₀ ≡ roots_of_main d.automaton.initial.list (min d.automaton.initial.count max_states) (replicate roots_size 0)
    → Started (program_of d) keys count next l₀
started d k w room z =
    record {
      keyed = k;
      answered = w;
      list = d.automaton.initial.list;
      used = min d.automaton.initial.count max_states;
      fits = omega (arith, room);
      initial = sym (rw room at (in_use_all d.automaton.initial.count d.automaton.initial.list));
      start = z;
    }

-- a test, as a byte
byte_of : (t : Bool) → bool_byte t ≡ cond t 1 0
byte_of true = refl
byte_of false = refl

-- a byte of the cut, by the mark and the flag as they were
pub kept_byte : {a b : ℕ} {t x y : Bool} → t ≡ (not (eqb a 0) && x) → a ≡ b → x ≡ y → bool_byte t ≡ cond (not (eqb b 0) && y) 1 0
kept_byte {b = b} {y = y} u m l = rw (u, m, l) (byte_of (not (eqb b 0) && y))

one_true : (b : Bool) → ◌≡◌ {A = ℕ} (cond b 1 0) 1 → b ≡ true
one_true true x = refl
one_true false x = absurd (omega arith)

module _ (Z : Sizes) where
  -- ---- what the code does for an edge

  module _ {e k : Edge} (same : e ≡ k) (marks next l : List ℕ) where
    pub call_roots : {m : List ℕ} → is_call e.label ≡ true → m ≡ roots_by_call Z marks next e l → m ≡ roots_by_edge Z marks next k l
    unfolding roots_by_edge
    call_roots t roots =
        let whole : roots_by_call Z marks next e l ≡ roots_by_edge Z marks next e l = rw t in
        roots ∙ whole ∙ ap (λ (x : Edge). roots_by_edge Z marks next x l) same

    pub no_call_roots : is_call e.label ≡ false → l ≡ roots_by_edge Z marks next k l
    unfolding roots_by_edge
    no_call_roots t =
        let none : l ≡ roots_by_edge Z marks next e l = rw t in
        none ∙ ap (λ (x : Edge). roots_by_edge Z marks next x l) same

module _ (Z : Sizes) (U : Usable Z) (A : Admitted Z) where
  -- ---- bytes of the marks, as flags

  -- a byte that is a mark's tells of the mark
  byte_tells : (marks : List ℕ) {f n r q v : ℕ} → InRange Z f n r q → v ≡ get_or marks (number Z f n r q) 0 → (v ≢ 0) ↔ Marked Z marks f n r q
  byte_tells marks h e = (λ x. (h, λ z. x (e ∙ z)), λ m z. m.1 (sym e ∙ z))

  at_place : (f x : ℕ) → x < max_states → (root_place f x / max_states ≡ f) × (root_place f x % max_states ≡ x)
  unfolding root_place
  at_place f x h = (omega arith, omega arith)

  pub entries_flagged : (marks : List ℕ) {flags : List ℕ} → Filled (λ i. entry_byte Z marks (i / max_states) (i % max_states)) roots_size flags
      → RootFlags (λ f x. Marked Z marks f 0 x x) flags
  entries_flagged marks {flags} w = record { len = w.len; flagged = λ f x hf hx. tells f x hx (byte f x hf hx) }
    where
      byte : (f x : ℕ) → f < max_routines → x < max_states → get_or flags (root_place f x) 0 ≡ entry_byte Z marks f x
      byte f x hf hx =
          let p = at_place f x hx in
          rw (p.0, p.1) at (w.byte (root_place f x) (root_place_fits f x hf hx))

      tells : (f x : ℕ) → x < max_states → {v : ℕ} → v ≡ entry_byte Z marks f x → (v ≢ 0) ↔ Marked Z marks f 0 x x
      tells f x hx {v} e = (to (ltb f Z.routines) refl (ltb x Z.states) refl e, from)
        where
          to : (t : Bool) → ltb f Z.routines ≡ t → (u : Bool) → ltb x Z.states ≡ u → v ≡ cond (t && u) (get_or marks (number Z f 0 x x) 0) 0 → v ≢ 0 → Marked Z marks f 0 x x
          to true a true b e n =
              let hq = ltb-true x Z.states b in
              (record { routine = ltb-true f Z.routines a; node = omega (arith, U.nodes); root = hq; state = hq }, λ z. n (e ∙ z))
          to true a false b e n = absurd (n e)
          to false a u b e n = absurd (n e)

          from : Marked Z marks f 0 x x → v ≢ 0
          from m z = m.1 (sym (e ∙ rw (lt-ltb f Z.routines m.0.routine, lt-ltb x Z.states m.0.state)) ∙ z)

  -- ---- the roots that occur

  -- the root whose flag has this place occurs
  abbrev pub LiveAt : Program → List ℕ → ℕ → Type 0
  LiveAt p marks i = (f r : ℕ) → r < max_states → i ≡ root_place f r → Live p (Marked Z marks) f r

  module _ (p : Program) (marks : List ℕ) where
    to_place : {f r : ℕ} → r < max_states → Live p (Marked Z marks) f r → LiveAt p marks (root_place f r)
    to_place {f} {r} h x g s k e = let c = root_place_apart f r g s h k e in rw (← c.0, ← c.1) x

    from_place : {f r : ℕ} → r < max_states → LiveAt p marks (root_place f r) → Live p (Marked Z marks) f r
    from_place {f} {r} h x = x f r h refl

  -- the rule of a configuration: where it is marked and its root occurs, the states after the call's move are roots
  abbrev pub MarkedRule : List ℕ → List ℕ → Edge → ℕ → ℕ → List ℕ → ℕ → Type 0
  MarkedRule marks next e r q l j =
      (is_set marks (number Z e.routine e.source r q) ≡ true)
      × One (λ s. Copy (bit s (set_at next q e.label)) (root_place e.routine r) (root_place (called_by e.label) s)) max_states 0 l j

  -- the rule of an edge
  abbrev pub RootsRule : List ℕ → List ℕ → Edge → List ℕ → ℕ → Type 0
  RootsRule marks next e l j = (is_call e.label ≡ true) × One (λ r. One (MarkedRule marks next e r) Z.states 0) Z.states 0 l j

  abbrev pub RootsRules : List ℕ → List ℕ → List ℕ → ℕ → List ℕ → ℕ → Type 0
  RootsRules marks next keys count = One (λ i. RootsRule marks next (edge_at keys i)) count 0

  module _ {p : Program} {keys next : List ℕ} {count : ℕ} (zr : Ranged Z p) (o : KeysOf p keys count) (w : Answers p.automaton p.routines next) (marks : List ℕ) where
    marked_obeys : (i r q : ℕ) → i < count → r < Z.states → q < Z.states → is_call (edge_at keys i).label ≡ true
        → Obeys (LiveAt p marks) (MarkedRule marks next (edge_at keys i) r q) (roots_when_marked Z marks next (edge_at keys i) r q)
    unfolding roots_when_marked
    marked_obeys i r q h hr hq t =
        let f = (edge_at keys i).routine in
        let n = (edge_at keys i).source in
        let a = (edge_at keys i).label in
        let step = key_step o i h t in
        obeys_when {f = roots_after_call next (root_place f r) q a} (is_set marks (number Z f n r q)) (λ y.
        let in_range : InRange Z f n r q = record { routine = zr.routine step; node = zr.source step; root = hr; state = hq } in
        let m : Marked Z marks f n r q = (in_range, set_byte marks (number Z f n r q) y) in
        obeys_turns max_states 0 (λ s low high.
        let hs : s < max_states = omega arith in
        obeys_copy (bit s (set_at next q a)) (root_place f r) (root_place (called_by a) s) (λ v u.
        let move : Moves p q (Call (called_by a)) s = sym (call_answer o.well_formed w q a s t step) ∙ v in
        to_place p marks hs (called (from_place p marks (omega (arith, A.states)) u) m step move))))

    edge_obeys : (i : ℕ) → i < count → Obeys (LiveAt p marks) (RootsRule marks next (edge_at keys i)) (roots_by_edge Z marks next (edge_at keys i))
    unfolding roots_by_edge
    edge_obeys i h =
        obeys_when {f = roots_by_call Z marks next (edge_at keys i)} (is_call (edge_at keys i).label) (λ t.
        obeys_turns Z.states 0 (λ r low high. obeys_turns Z.states 0 (λ q low' high'. marked_obeys i r q h (omega arith) (omega arith) t)))

    pub edges_obey : Obeys (LiveAt p marks) (RootsRules marks next keys count) (roots_by_edges Z marks next keys count)
    edges_obey = obeys_turns count 0 (λ i low high. edge_obeys i (omega arith))

  -- ---- the start: the initial states

  module _ {p : Program} {keys : List ℕ} {count : ℕ} {next l₀ : List ℕ} (zr : Ranged Z p) (b : Started p keys count next l₀) (marks : List ℕ) where
    initial_small : {q : ℕ} → Memᴰ q p.automaton.initial → q < max_states
    initial_small m = omega (arith, zr.begun m, zr.states, A.states)

    main_obeys : Obeys (LiveAt p marks) (One (λ i l j. j ≡ root_place 0 (get_or b.list i 0)) b.used 0) (roots_of_main b.list b.used)
    main_obeys =
        obeys_turns b.used 0 (λ i low high.
        let h : i < b.used = omega arith in
        let m : Memᴰ (get_or b.list i 0) p.automaton.initial =
        rw (b.initial, ← (get_or-take b.used b.list i 0 h)) (at_in 0 (take b.used b.list) i (omega (arith, h, length-take-le b.used b.list b.fits)))
        in
        obeys_set (root_place 0 (get_or b.list i 0)) (to_place p marks (initial_small m) (begun m)))

    pub live_obeys : Obeys (LiveAt p marks) (RootsRules marks next keys count) (roots_by_edges Z marks next keys count)
    live_obeys = edges_obey zr b.keyed b.answered marks

    pub live_start : Growing roots_size (LiveAt p marks) (RootsRules marks next keys count) l₀ l₀ true
    live_start =
        growing_start (ap length b.start ∙ main_obeys.size (replicate roots_size 0) ∙ length-replicate {A = ℕ} roots_size 0)
        (λ i x. main_obeys.sound (replicate roots_size 0) (λ j y. none_on roots_size y) i (subst (λ (y : List ℕ). On y i) b.start x))

    pub live_flagged : {l : List ℕ} {more : Bool} → more ≡ false → Growing roots_size (LiveAt p marks) (RootsRules marks next keys count) l₀ l more
        → RootFlags (Live p (Marked Z marks)) l
    live_flagged {l} e g =
        record {
          len = g.size;
          flagged = λ f x hf hx. (λ v. from_place p marks hx (g.sound (root_place f x) (record { on = v })), λ v. (set_for v).on);
        }
      where
        set_for : {f x : ℕ} → Live p (Marked Z marks) f x → On l (root_place f x)
        set_for (begun {q} m) =
            let y = place_of 0 (take b.used b.list) (rw b.initial at m) in
            let h : y.place < b.used = omega (arith, y.within, length-take-le b.used b.list b.fits) in
            let at : q ≡ get_or b.list y.place 0 = y.is ∙ get_or-take b.used b.list y.place 0 h in
            let fits : root_place 0 q < roots_size = root_place_fits 0 q (omega arith) (initial_small m) in
            let o : On (roots_of_main b.list b.used (replicate roots_size 0)) (root_place 0 q) =
            main_obeys.complete (replicate roots_size 0) (root_place 0 q)
            (record { turn = y.place; low = omega arith; high = omega arith; rule = ap (root_place 0) at })
            (omega (arith, fits, length-replicate {A = ℕ} roots_size 0))
            in
            g.kept.stays (root_place 0 q) (subst (λ (u : List ℕ). On u (root_place 0 q)) (sym b.start) o)
        set_for (called {f = f} {n = n} {r = r} {q = q} {g = g'} {s = s} v m h t) =
            let y = step_key b.keyed h in
            let edge = edge_at keys y.place in
            let hq = m.0.state in
            let hr = m.0.root in
            let hg = zr.called h in
            let hs = after_small zr q (Call g') s t in
            let on : is_set marks (number Z edge.routine edge.source r q) ≡ true = rw (← y.caller, ← y.source) (byte_set marks (number Z f n r q) m.1) in
            let goes : bit s (set_at next q edge.label) ≡ true =
            call_answer b.keyed.well_formed b.answered q edge.label s y.is-call (rw y.called at h) ∙ (rw y.called at t)
            in
            let root : On l (root_place edge.routine r) = rw (← y.caller) (set_for v) in
            let to : root_place g' s ≡ root_place (called_by edge.label) s = ap (λ (u : ℕ). root_place u s) y.called in
            g.closed e (root_place g' s)
            (record {
              turn = y.place;
              low = omega arith;
              high = omega (arith, y.within);
              rule = (
                y.is-call,
                record {
                  turn = r;
                  low = omega arith;
                  high = omega arith;
                  rule = record {
                    turn = q;
                    low = omega arith;
                    high = omega arith;
                    rule = (on, record { turn = s; low = omega arith; high = omega (arith, A.states); rule = record { passed = goes; given = root; is = to } });
                  };
                },
              );
            })
            (root_place_fits g' s (omega (arith, A.routines)) (omega (arith, A.states)))

  -- ---- the cut

  module _ (p : Program) (marks live cut : List ℕ) (l : RootFlags (Live p (Marked Z marks)) live) (w : Filled (kept_byte_of Z live marks) (numbers Z) cut) where
    pub cut_shows : Shows Z (LiveMarked Z p marks) cut
    cut_shows =
        record {
          len = w.len;
          bit = filled_bits w (λ i. bit_small (is_set marks i && is_set live (root_place (routine_of Z i) (root_of Z i))));
          shown = λ {f} {n} {r} {q} h. shown h;
        }
      where
        shown : {f n r q : ℕ} → InRange Z f n r q → (get_or cut (number Z f n r q) 0 ≡ 1) ↔ LiveMarked Z p marks f n r q
        shown {f} {n} {r} {q} h =
            let i = number Z f n r q in
            let a = is_set marks i in
            let b = is_set live (root_place f r) in
            let is : get_or cut i 0 ≡ cond (a && b) 1 0 = rw (routine-of h, root-of h) at (w.byte i (number_fits h)) in
            let flag = l.flagged f r (omega (arith, h.routine, A.routines)) (omega (arith, h.root, A.states)) in (
              λ x.
                  let t = both a b (one_true (a && b) (sym is ∙ x)) in
                  (flag.0 (set_byte live (root_place f r) t.1), (h, set_byte marks i t.0)),
              λ x. is ∙ rw (byte_set marks i x.1.1, byte_set live (root_place f r) (flag.1 x.0)),
            )
