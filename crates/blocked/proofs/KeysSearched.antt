-- What the searches over the keys of a program's edges and its sets of next states find is what its definition says.
use Prim.Native.Nat.{ℕ, zero, suc, ◌/◌, ◌%◌, ◌^◌, ◌≤◌, ◌<◌}
use mathlib.Core.Path.{◌≡◌, refl, sym, ap, subst, ◌∙◌}
use mathlib.Core.Bool.{Bool, true, false, cond, ◌&&◌, not}
use mathlib.Core.Logic.{◌≢◌}
use mathlib.Core.List.{List}
use native.Mathlib.Omega.{arith}
use native.Mathlib.Nat.{zero-div, two-pow-succ}
use native.Mathlib.Decide.{ℕ_discrete}
use lib.Count.{count_trailing_zeros}
use lib.Dec.{eqb}
use lib.ListN.{length, get_or, length-map, get_or-map}
use borrow.Author.Tests.{eqb-true, eq-eqb, ne_eqb, ltb-false, leb-true, lt-ltb, le-ltb}
use Rattle.base.specs.Bits.{bit}
use Rattle.base.proofs.Bools.{both, never, and-false, same_test}
use Rattle.base.proofs.NumbersSought.{seek_same}
use Rattle.base.proofs.SetFlags.{set_byte, byte_set}
use Rattle.words.proofs.FirstFlagFound.{trailing_set, trailing_lt}
use Rattle.automaton.specs.Sizes.{first_call}
use Rattle.automaton.specs.Automaton.{call_of, return_of, label_of, moves}
use Rattle.automaton.specs.NextStates.{set_at, EventOf, Ranged}
use Rattle.automaton.specs.declared.Event.{Event}
use Rattle.automaton.specs.declared.Event.TheVariants.{Action, Call, Return}
use Rattle.automaton.proofs.MovesAsked.{asked}
use Rattle.program.specs.declared.sizes.Sizes.{Sizes}
use Rattle.program.specs.Program.{Edge, Program, is_action, called_by}
use Rattle.program.specs.Decoded.{edge_of}
use Rattle.program.proofs.ProgramRanged.{ranged}
use Rattle.reach.specs.Configurations.{Usable, PartsOf}
use Rattle.reach.specs.Runs.{event_of, HasStep}
use Rattle.reach.specs.Marks.{Marked}
use Rattle.reach.proofs.Numbers.{parts_routine, parts_node, parts_root, parts_state}
use Rattle.reach.proofs.Labels.{label_calls, step_event}
use Rattle.base.specs.Searches.{seek}
use Rattle.kept.specs.Parts.{caller_kept}
use Rattle.base.proofs.SearchesAsk.{found_from, any-from, both_met}
use Rattle.kept.proofs.CallsFound.{CallerAt, caller_found, caller_there}
use Rattle.support.specs.Parts.{Tables}
use Rattle.reach.specs.Blocked.{no_edge, edge_at}
use Rattle.blocked.specs.Blocks.{allows, bars, first_barred, any_barred, is_called, no_return, is_blocked, blocked_by}
use Rattle.blocked.specs.Parts.{no_next, bars_key, first_key_of, calls_with, called_key, no_return_key}
use Rattle.blocked.proofs.EventsAllowed.{call-of, step_at, placed, allows_iff, CallsOne, called_found, called_there}

-- ---- a set is empty exactly where it has no bit

lt_two_pow : (n : ℕ) → n < 2 ^ n
lt_two_pow zero = omega arith
lt_two_pow (suc n) = omega (arith, two-pow-succ n, lt_two_pow n)

record SomeBit (n : ℕ) : Type 0 where
  at : ℕ
  is-set : bit at n ≡ true

some_bit : (n : ℕ) → n ≢ 0 → SomeBit n
some_bit n h =
    let k = count_trailing_zeros n n in
    record { at = k; is-set = eq-eqb (n / 2 ^ k % 2) 1 (trailing_set n n (trailing_lt n n (lt_two_pow n) h)) }

no_bit : (s : ℕ) {n : ℕ} → n ≡ 0 → bit s n ≡ false
no_bit s e = rw (e, zero-div (2 ^ s)) refl

-- ---- labels

label_of_event : (a : ℕ) → label_of (event_of a) ≡ a
label_of_event a = go (is_action a) refl
  where
    go : (t : Bool) → is_action a ≡ t → label_of (cond t (Action a) (Call (called_by a))) ≡ a
    go true e = refl
    go false e = omega (arith, ltb-false a first_call e)

module _ {Z : Sizes} (U : Usable Z) {p : Program} {keys next : List ℕ} (t : Tables Z p keys next) where
  -- ---- the edges

  pub as_many : length p.edges ≡ length keys
  as_many = ap length t.edges ∙ length-map keys edge_of

  pub edge-key : (k : ℕ) → edge_at p k ≡ edge_of (get_or keys k 0)
  edge-key k = rw t.edges (get_or-map edge_of keys k 0)

  -- ---- one look at the automaton

  in_range : Ranged p.automaton p.routines
  in_range = ranged p t.well_formed

  look : (q : ℕ) (e : Event) → EventOf p.automaton p.routines e → no_next next q (label_of e) ≡ not (allows p.automaton q e)
  look q e v = go (allows p.automaton q e) refl
    where
      set : ℕ
      set = set_at next q (label_of e)

      told : (s : ℕ) → bit s set ≡ moves p.automaton q e s
      told s = asked p.automaton p.routines in_range t.answers q e s v

      go : (b : Bool) → allows p.automaton q e ≡ b → eqb set 0 ≡ not b
      go true h =
          let a = (allows_iff t.sized.ranged q e).0 h in
          ne_eqb set 0 (λ z. never (told a.0 ∙ a.1) (no_bit a.0 z))
      go false h =
          elim (ℕ_discrete set 0) [
            | yes z ↦ eq-eqb set 0 z
            | no z ↦ let x = some_bit set z in never ((allows_iff t.sized.ranged q e).1 (x.at, sym (told x.at) ∙ x.is-set)) h
          ]

  -- ---- the first edge that is barred

  bars-key : (f n q k : ℕ) → k < length keys → bars_key keys next f n q k ≡ bars p f n q k
  bars-key f n q k h =
      let v = step_event p t.well_formed (step_at p k (omega (arith, as_many))) in
      let l = subst (λ (a : ℕ). no_next next q a ≡ not (allows p.automaton q (event_of (edge_at p k).label))) (label_of_event (edge_at p k).label)
      (look q (event_of (edge_at p k).label) v) in
      ap (λ (e : Edge). eqb e.routine f && eqb e.source n && no_next next q e.label) (sym (edge-key k))
      ∙ ap (λ (b : Bool). eqb (edge_at p k).routine f && eqb (edge_at p k).source n && b) l

  pub first_key : (f n q : ℕ) → first_key_of keys next f n q ≡ seek (bars p f n q) (length p.edges) 0
  unfolding first_key_of
  first_key f n q = rw as_many (seek_same (length keys) 0 (λ j h. bars-key f n q j (omega arith)))

  -- ---- a call with this root

  module _ (marks : List ℕ) (g s : ℕ) where
    -- what the edge's call gives is asked by its label
    gives_asked : {f n m : ℕ} → HasStep p f n (Call g) m → (q : ℕ) → bit s (set_at next q (call_of g)) ≡ moves p.automaton q (Call g) s
    gives_asked h q = asked p.automaton p.routines in_range t.answers q (Call g) s (step_event p t.well_formed h)

    found_calls : called_key Z keys next marks g s ≡ true → CallsOne t.sized.ranged (Marked Z marks) g s
    unfolding called_key calls_with
    found_calls h =
        let x = found_from (λ i. calls_with Z next marks g s (edge_of (get_or keys i 0))) (length keys) 0 h in
        let e = edge_of (get_or keys x.at 0) in
        let b = both (eqb e.label (call_of g)) (caller_kept Z next marks e s) x.test in
        let label = eqb-true e.label (call_of g) b.0 in
        let c = caller_found Z U next marks e s b.1 in
        let step : HasStep p e.routine e.source (Call g) e.target =
        rw (edge-key x.at, call-of e.label g label) at (step_at p x.at (omega (arith, x.below, as_many))) in
        let w = t.sized.ranged in
        let gives = subst (λ (l : ℕ). bit s (set_at next c.state l) ≡ true) label c.gives in
        record {
          from = e.routine;
          calls = record {
            node = e.source;
            root = c.root;
            state = c.state;
            target = e.target;
            holds = (record { routine = w.routine step; node = w.source step; root = c.root_small; state = c.state_small }, set_byte marks _ c.caller);
            calls = step;
            moves = sym (gives_asked step c.state) ∙ gives;
          };
        }

    calls_found : CallsOne t.sized.ranged (Marked Z marks) g s → called_key Z keys next marks g s ≡ true
    unfolding called_key calls_with
    calls_found c =
        let x = c.calls in
        let y = placed p x.calls in
        let e = edge_of (get_or keys y.place 0) in
        let k = edge-key y.place in
        let l = label_calls e.label g (rw k at y.event) in
        let label : e.label ≡ call_of g = omega (arith, leb-true first_call e.label l.0, l.1) in
        let f : e.routine ≡ c.from = rw k at y.routine in
        let n : e.source ≡ x.node = rw k at y.source in
        let caller : CallerAt Z U next marks e s = record {
          state = x.state;
          state_small = x.holds.0.state;
          gives = rw label (gives_asked x.calls x.state ∙ x.moves);
          root = x.root;
          root_small = x.holds.0.root;
          caller = rw (f, n) (byte_set marks _ x.holds.1);
        } in
        any-from (λ i. calls_with Z next marks g s (edge_of (get_or keys i 0))) (length keys) 0 y.place (omega arith) (omega (arith, y.inside, as_many))
        (both_met (eq-eqb e.label (call_of g) label) (caller_there Z U next marks e s caller))

    pub called-key : called_key Z keys next marks g s ≡ is_called Z p marks g s
    called-key =
        same_test _ _ (λ h. called_there t.sized.ranged marks g s (found_calls h)) (λ h. calls_found (called_found t.sized.ranged marks g s h))

  -- ---- at the configuration of a number

  module _ {i f n r q : ℕ} (x : PartsOf Z i f n r q) where
    pub barred_key : first_key_of keys next f n q ≡ first_barred Z p i
    unfolding first_barred
    barred_key = rw (← (parts_routine x), ← (parts_node x), ← (parts_state x)) (first_key f n q)

    pub no-return-key : (marks : List ℕ) → no_return_key Z keys next marks f n r q ≡ no_return Z p marks i
    unfolding no_return_key no_return
    no-return-key marks =
        rw (← (parts_routine x), ← (parts_node x), ← (parts_root x), ← (parts_state x), called-key marks f r) (go (is_called Z p marks f r) refl)
      where
        go : (b : Bool) → is_called Z p marks f r ≡ b
            → eqb n 1 && no_next next q (return_of f) && b ≡ eqb n 1 && not (allows p.automaton q (Return f)) && b
        go true e =
            let c = called_found t.sized.ranged marks f r e in
            rw (look q (Return f) (step_event p t.well_formed c.calls.calls)) refl
        go false e =
            and-false (eqb n 1 && no_next next q (return_of f)) ∙ sym (and-false (eqb n 1 && not (allows p.automaton q (Return f))))

    -- ---- whether runs are cut off there

    many : length keys ≡ length p.edges
    many = sym as_many

    pub cut_by_edge : (marks : List ℕ) {k : ℕ} → get_or marks i 0 ≢ 0 → k ≡ first_key_of keys next f n q → k < length keys
        → (true ≡ is_blocked Z p marks i) × (k ≡ blocked_by Z p i)
    unfolding is_blocked blocked_by
    cut_by_edge marks {k} on e h =
        let z : k ≡ first_barred Z p i = e ∙ barred_key in
        let any : any_barred Z p i ≡ true = lt-ltb (first_barred Z p i) (length p.edges) (omega (arith, many)) in
        (rw (byte_set marks i on, any) refl, rw any z)

    pub cut_by_return : (marks : List ℕ) {b : Bool} → get_or marks i 0 ≢ 0 → length keys ≤ first_key_of keys next f n q
        → b ≡ no_return_key Z keys next marks f n r q → (b ≡ is_blocked Z p marks i) × (no_edge ≡ blocked_by Z p i)
    unfolding is_blocked blocked_by
    cut_by_return marks on h d =
        let none : any_barred Z p i ≡ false = le-ltb (first_barred Z p i) (length p.edges) (omega (arith, many, barred_key)) in
        (rw (byte_set marks i on, none) (d ∙ no-return-key marks), rw none refl)

pub not_marked : (Z : Sizes) (p : Program) (marks : List ℕ) (i : ℕ) → get_or marks i 0 ≡ 0 → false ≡ is_blocked Z p marks i
unfolding is_blocked
not_marked Z p marks i e = rw (eq-eqb (get_or marks i 0) 0 e) refl
