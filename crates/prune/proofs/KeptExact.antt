-- What the keeping means: what is kept has support back to a start, and when nothing is left to be kept, all that has such
-- support is kept.
use mathlib.Core.Path.{◌≡◌, refl, sym, ap, ◌∙◌}
use mathlib.Core.Logic.{⊎_elim}
use mathlib.Core.Bool.{Bool, true, false, cond, ◌&&◌, or-true}
use mathlib.Core.List.{List, [], ◌∷◌, ◌++◌, map, Memᴰ}
use Prim.Native.Nat.{ℕ, min, ◌+◌, ◌≤◌, ◌<◌}
use native.Mathlib.Omega.{arith}
use native.Mathlib.Nat.{eq-or-lt_of_le}
use lib.Dec.{eqb}
use lib.ListN.{length, get_or, set, take, drop, replicate, length-set, length-replicate, length-take}
use borrow.Author.Tests.{eqb-true, eq-eqb, not-false}
use Rattle.automaton.specs.Automaton.{is_initial}
use Rattle.automaton.specs.NextStates.{Answers}
use Rattle.program.specs.Sizes.{max_edges}
use Rattle.tables.specs.Keys.{member}
use Rattle.base.specs.Flags.{is_set, On}
use Rattle.program.specs.declared.edges.Edges.{Edges}
use Rattle.program.specs.Program.{Program}
use Rattle.program.specs.WellFormed.{WellFormed}
use Rattle.program.specs.Decoded.{edge_keys_of, edge_of}
use Rattle.base.proofs.Bools.{both, either, never}
use Rattle.base.proofs.EntriesInUse.{in_use_same}
use Rattle.reach.specs.Configurations.{Set, InRange, number, routine_of, node_of, root_of, state_of, none_set, At}
use Rattle.reach.specs.Reachable.{seeded, by_action, by_call, by_return, initial}
use Rattle.reach.specs.Marks.{Marked, Shows}
use Rattle.reach.proofs.Numbers.{number-of, number_fits, routine-of, node-of, root-of, state-of, parts_in_range, to_number, from_number}
use Rattle.base.proofs.SetFlags.{set_on, on_set, set_inv, set_bits, zeros, set_byte, byte_set}
use Rattle.reach.proofs.MarksCopied.{cleared_is, copied_is}
use Rattle.reach.proofs.MarksShown.{shows_marked}
use Rattle.prune.specs.Pruning.{Kept}
use Rattle.support.specs.Parts.{supports, Tables}
use Rattle.prune.specs.Parts.{keeps_at, Keeps, same, more, Settled, Sound, Started}
use Rattle.prune.proofs.PassesKeep.{keeps_on}
use Rattle.support.proofs.SupportFound.{Supported, by_edge, as_called, as_returned, supports_sound, supports_found}
use Rattle.program.specs.declared.sizes.Sizes.{Sizes}
use Rattle.reach.specs.Configurations.{Usable}
use Rattle.reach.specs.Ranged.{Sized}
use Rattle.program.specs.Chosen.{numbers}

-- ---- the starts

member_in : (q : ℕ) (l : List ℕ) → member q l ≡ true → Memᴰ q l
unfolding member
member_in q [] e = never e refl
member_in q (s ∷ ss) e =
    either (eqb s q) (member q ss) e (λ x. Memᴰ.head (sym (eqb-true s q x))) (λ x. Memᴰ.tail (member_in q ss x))

in_member : (q : ℕ) (l : List ℕ) → Memᴰ q l → member q l ≡ true
unfolding member
in_member q [] x = elim x [ ]
in_member q (s ∷ ss) (Memᴰ.head e) = rw (eq-eqb s q (sym e)) refl
in_member q (s ∷ ss) (Memᴰ.tail x) = rw (in_member q ss x, or-true (eqb s q)) refl

-- ---- the tables of a program

-- the keys in use are as many as the count says
module _ (n : ℕ) (keys : List ℕ) {size u : ℕ} (room : length keys ≡ size) (used : u ≡ min n size) where
  pub used_fits : u ≤ length keys
  used_fits = omega arith

  pub used_counted : u ≡ length (take u keys)
  used_counted = rw (length-take u keys) (omega arith)

module _ (Z : Sizes) (U : Usable Z) where
  -- ---- what is kept next

  module _ (keys next marks kept : List ℕ) (i : ℕ) where
    record Next : Type 0 where
      marked : is_set marks i ≡ true
      free : is_set kept i ≡ false
      supported : supports Z keys next kept (routine_of Z i) (node_of Z i) (root_of Z i) (state_of Z i) ≡ true

    next_kept : keeps_at Z keys next marks kept i ≡ true → Next
    unfolding keeps_at
    next_kept e = go (is_set marks i) refl (is_set kept i) refl e
      where
        go : (a : Bool) → is_set marks i ≡ a → (b : Bool) → is_set kept i ≡ b
            → cond a (cond b false (supports Z keys next kept (routine_of Z i) (node_of Z i) (root_of Z i) (state_of Z i))) false ≡ true → Next
        go true x true y e = never e refl
        go true x false y e = record { marked = x; free = y; supported = e }
        go false x b y e = never e refl

    keeps_when : is_set marks i ≡ true → is_set kept i ≡ false
        → supports Z keys next kept (routine_of Z i) (node_of Z i) (root_of Z i) (state_of Z i) ≡ true → keeps_at Z keys next marks kept i ≡ true
    unfolding keeps_at
    keeps_when a b c = rw (a, b, c) refl

    pub keeps_free : keeps_at Z keys next marks kept i ≡ true → get_or kept i 0 ≡ 0
    keeps_free e = eqb-true (get_or kept i 0) 0 (not-false (eqb (get_or kept i 0) 0) (next_kept e).free)

  -- ---- what is kept has support

  -- nothing is kept yet
  pub none_kept : (p : Program) (marks : List ℕ) → Sound Z p marks (none_set Z)
  unfolding none_set
  none_kept p marks =
      record {
        len = length-replicate {A = ℕ} (numbers Z) 0;
        bits = λ i. rw (zeros (numbers Z) i) (omega arith);
        supported = λ i o. absurd (o.on (zeros (numbers Z) i));
      }

  -- one more that has support
  sound_more : {p : Program} {marks kept : List ℕ} → Sound Z p marks kept → (i : ℕ) → At Z (Kept Z p marks) i → Sound Z p marks (set kept i 1)
  sound_more {p} {marks} {kept} s i d =
      record {
        len = simp length-set s.len;
        bits = set_bits kept i 1 (omega arith) s.bits;
        supported = λ j o. ⊎_elim (λ e. rw e d) (λ k. s.supported j k) (set_inv kept i j o);
      }

  module _ {p : Program} {marks kept : List ℕ} (s : Sound Z p marks kept) where
    pub kept_is : {f n r q : ℕ} → Marked Z kept f n r q → Kept Z p marks f n r q
    kept_is {f} {n} {r} {q} o = from_number (Kept Z p marks) o.0 (s.supported (number Z f n r q) (record { on = o.1 }))

    -- a marked configuration that has support in kept ones has support back to a start
    supported_kept : {f n r q : ℕ} → Marked Z marks f n r q → Supported p (Marked Z kept) f n r q → Kept Z p marks f n r q
    supported_kept w (by_edge e v o) = by_action (kept_is o) e v w
    supported_kept w (as_called e v o) = by_call (kept_is o) e v w
    supported_kept w (as_returned e o v o' v') = by_return (kept_is o) e v (kept_is o') v' w

  marked_at : (marks : List ℕ) (i : ℕ) → i < numbers Z → is_set marks i ≡ true → At Z (Marked Z marks) i
  marked_at marks i h e = (parts_in_range Z U i h, rw (number-of Z i) (set_byte marks i e))

  module _ {p : Program} {keys next : List ℕ} (t : Tables Z p keys next) {marks : List ℕ} where
    pub keeps_sound : {old new : List ℕ} → Sound Z p marks old → Keeps Z (keeps_at Z keys next marks) old new → Sound Z p marks new
    keeps_sound s same = s
    keeps_sound s (more {kept = kept} l i h e) =
        let s' = keeps_sound s l in
        let x = next_kept keys next marks kept i e in
        let y = supports_sound Z U p keys next t kept (parts_in_range Z U i h) x.supported in
        sound_more s' i (supported_kept s' (marked_at marks i h x.marked) y)

  -- ---- nothing is left to be kept

  module _ {p : Program} {keys next : List ℕ} (t : Tables Z p keys next) (marks new : List ℕ)
      (settled : (j : ℕ) → j < numbers Z → keeps_at Z keys next marks new j ≡ false) where
    -- a marked configuration that has support in kept ones is kept
    closed : {f n r q : ℕ} → Marked Z marks f n r q → Supported p (Marked Z new) f n r q → On new (number Z f n r q)
    closed {f} {n} {r} {q} w s = go (is_set new (number Z f n r q)) refl
      where
        go : (b : Bool) → is_set new (number Z f n r q) ≡ b → On new (number Z f n r q)
        go true e = record { on = set_byte new (number Z f n r q) e }
        go false e =
            let i = number Z f n r q in
            let h = w.0 in
            let x : supports Z keys next new (routine_of Z i) (node_of Z i) (root_of Z i) (state_of Z i) ≡ true =
            rw (routine-of h, node-of h, root-of h, state-of h) (supports_found Z U p keys next t new h s) in
            never (keeps_when keys next marks new i (byte_set marks i w.1) e x) (settled i (number_fits h))

    -- so is all that has support back to a start
    module _ (starts : (q : ℕ) → Memᴰ q p.automaton.initial → Marked Z marks 0 0 q q → On new (number Z 0 0 q q)) where
      all_kept : {f n r q : ℕ} → Kept Z p marks f n r q → Marked Z new f n r q
      all_kept (seeded (initial {q = q} x) w) = (w.0, (starts q x w).on)
      all_kept (by_action d e v w) = (w.0, (closed w (by_edge e v (all_kept d))).on)
      all_kept (by_call d e v w) = (w.0, (closed w (as_called e v (all_kept d))).on)
      all_kept (by_return d e v d' v' w) = (w.0, (closed w (as_returned e (all_kept d) v (all_kept d') v')).on)

  -- from the starts, when nothing is left, exactly what has support back to a start is kept
  pub settled_shows : {p : Program} {keys next : List ℕ} → Tables Z p keys next → (marks : List ℕ) {old new : List ℕ}
      → Started Z p marks old Z.states → Settled Z (keeps_at Z keys next marks) old new → Shows Z (Kept Z p marks) new
  settled_shows {p} t marks {old} {new} a b =
      let s = keeps_sound t a.sound b.keeps in
      let starts : (q : ℕ) → Memᴰ q p.automaton.initial → Marked Z marks 0 0 q q → On new (number Z 0 0 q q) =
      λ q x w. keeps_on Z U b.keeps (number Z 0 0 q q) (a.starts q w.0.state x w) in
      shows_marked Z U s.len s.bits (λ f n r q. (λ o. kept_is s o, λ d. all_kept t marks new b.none_left starts d))

  pub start_none : {p : Program} {marks kept : List ℕ} → Sound Z p marks kept → Started Z p marks kept 0
  start_none s = record { sound = s; starts = λ q h. absurd (omega arith) }

  module _ {p : Program} {marks kept : List ℕ} (q : ℕ) (s : Started Z p marks kept q) (h : q < Z.states) (main : 0 < Z.routines) where
    range : InRange Z 0 0 q q
    range = record { routine = main; node = omega (arith, U.nodes); root = h; state = h }

    -- state q is tried
    start_turn_to : (b : Bool) → is_initial p.automaton q && is_set marks (number Z 0 0 q q) ≡ b
        → Started Z p marks (cond b (set kept (number Z 0 0 q q) 1) kept) (q + 1)
    start_turn_to true e =
        let at = number Z 0 0 q q in
        let c = both (is_initial p.automaton q) (is_set marks at) e in
        let d : Kept Z p marks 0 0 q q = seeded (initial (member_in q p.automaton.initial c.0)) (range, set_byte marks at c.1) in
        let fits : at < length kept = omega (arith, number_fits range, s.sound.len) in
        record {
          sound = sound_more s.sound at (to_number (Kept Z p marks) range d);
          starts = λ j l x w.
              let le : j ≤ q = omega arith in
              ⊎_elim (λ y. rw y (set_on kept at fits)) (λ y. on_set kept at (number Z 0 0 j j) (s.starts j y x w)) (eq-or-lt_of_le le);
        }
    start_turn_to false e =
        record {
          sound = s.sound;
          starts = λ j l x w.
              let le : j ≤ q = omega arith in
              ⊎_elim (λ y. none j y x w) (λ y. s.starts j y x w) (eq-or-lt_of_le le);
        }
      where
        none : (j : ℕ) → j ≡ q → Memᴰ j p.automaton.initial → Marked Z marks 0 0 j j → On kept (number Z 0 0 j j)
        none j y x w =
            let a : is_initial p.automaton q ≡ true = rw y at (in_member j p.automaton.initial x) in
            let b : is_set marks (number Z 0 0 q q) ≡ true = rw y at (byte_set marks (number Z 0 0 j j) w.1) in
            let c : is_initial p.automaton q && is_set marks (number Z 0 0 q q) ≡ true = rw (a, b) refl in
            never c e

    pub start_turn : {yes : Bool} → yes ≡ is_initial p.automaton q → {at : ℕ} → at ≡ number Z 0 0 q q → {kept' : List ℕ}
        → kept' ≡ cond (yes && is_set marks at) (set kept at 1) kept → Started Z p marks kept' (q + 1)
    start_turn y a e = rw (e, a, y) (start_turn_to (is_initial p.automaton q && is_set marks (number Z 0 0 q q)) refl)

  pub its_tables : (p : Program) → WellFormed p → Sized Z p → (edges : Edges) {next : List ℕ} → p.edges ≡ map edge_of (edge_keys_of edges)
      → Answers p.automaton p.routines next → length edges.keys ≡ max_edges → {m : ℕ} → m ≡ min edges.count max_edges
      → Tables Z p (take m edges.keys) next
  its_tables p w z edges e s a u =
      record {
        well_formed = w;
        sized = z;
        edges = e ∙ ap (map edge_of) (sym (in_use_same edges.count edges.keys a u));
        answers = s;
      }

  -- ---- the bytes of a buffer

  -- cleared
  pub cleared_sound : (p : Program) (marks : List ℕ) {l : List ℕ} {n : ℕ} → l ≡ replicate n 0 → n ≡ numbers Z → Sound Z p marks l
  cleared_sound p marks e h = rw (cleared_is Z e h) (none_kept p marks)

  -- copied to one of the same length
  pub copied_shows : {S : Set} {from : List ℕ} → Shows Z S from → (to : List ℕ) {new : List ℕ} → new ≡ take (length from) from ++ drop (length from) to
      → length to ≡ numbers Z → Shows Z S new
  copied_shows {S} {from} s to e h = rw (copied_is from to e (s.len ∙ sym h)) s
