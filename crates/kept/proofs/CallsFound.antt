-- What the searches over states mean: a move from a kept configuration, a caller that gives a root, and a caller with an
-- exit from which it is returned to.
use mathlib.Core.Path.{◌≡◌, refl}
use mathlib.Core.Bool.{Bool, true, ◌&&◌}
use mathlib.Core.List.{List}
use Prim.Native.Nat.{ℕ, ◌+◌, ◌*◌, ◌<◌}
use native.Mathlib.Omega.{arith}
use lib.Dec.{ltb}
use borrow.Author.Tests.{ltb-true, lt-ltb}
use Rattle.base.specs.Bits.{bit}
use Rattle.base.specs.Flags.{is_set}
use Rattle.base.proofs.Bools.{both, cond_true}
use Rattle.automaton.specs.Automaton.{call_of, return_of}
use Rattle.automaton.specs.NextStates.{set_at}
use Rattle.program.specs.Sizes.{max_routines}
use Rattle.program.specs.Program.{Edge}
use Rattle.reach.specs.Configurations.{number}
use Rattle.reach.proofs.Numbers.{number_state, number_root}
use Rattle.base.specs.Searches.{any_from}
use Rattle.kept.specs.Parts.{root_kept, caller_kept, move_kept, exit_kept, root_returns, return_kept}
use Rattle.base.proofs.SearchesAsk.{found_from, any-from}
use Rattle.program.specs.declared.sizes.Sizes.{Sizes}
use Rattle.reach.specs.Configurations.{Usable}

module _ (Z : Sizes) (U : Usable Z) where
  module _ (next kept : List ℕ) where
    -- ---- a move from state x of (f, n, r) to state t by label l

    module _ (f n r x l t : ℕ) where
      pub move_found : move_kept next kept (number Z f n r 0) x l t ≡ true
          → (is_set kept (number Z f n r x) ≡ true) × (bit t (set_at next x l) ≡ true)
      unfolding move_kept
      move_found e = rw (number_state Z f n r x) at (both (is_set kept (number Z f n r 0 + x)) (bit t (set_at next x l)) e)

      pub move_there : is_set kept (number Z f n r x) ≡ true → bit t (set_at next x l) ≡ true → move_kept next kept (number Z f n r 0) x l t ≡ true
      unfolding move_kept
      move_there on e = rw (number_state Z f n r x, on, e) refl

    -- ---- a caller that gives root r

    pub record CallerAt (e : Edge) (r : ℕ) : Type 0 where
      pub state : ℕ
      pub state_small : state < Z.states
      pub gives : bit r (set_at next state e.label) ≡ true
      pub root : ℕ
      pub root_small : root < Z.states
      pub caller : is_set kept (number Z e.routine e.source root state) ≡ true

    module _ (e : Edge) (r : ℕ) where
      abbrev rooted : ℕ → ℕ → Bool
      rooted x y = is_set kept (number Z e.routine e.source 0 x + Z.states * y)

      abbrev calls : ℕ → Bool
      calls x = bit r (set_at next x e.label) && root_kept Z kept (number Z e.routine e.source 0 x)

      pub caller_found : caller_kept Z next kept e r ≡ true → CallerAt e r
      unfolding caller_kept root_kept
      caller_found h =
          let x = found_from calls Z.states 0 h in
          let b = both (bit r (set_at next x.at e.label)) (any_from (rooted x.at) Z.states 0) x.test in
          let y = found_from (rooted x.at) Z.states 0 b.1 in
          record {
            state = x.at;
            state_small = omega (arith, x.below);
            gives = b.0;
            root = y.at;
            root_small = omega (arith, y.below);
            caller = rw (number_root Z e.routine e.source y.at x.at) at y.test;
          }

      pub caller_there : CallerAt e r → caller_kept Z next kept e r ≡ true
      unfolding caller_kept root_kept
      caller_there c =
          let x = c.state in
          let on : rooted x c.root ≡ true = rw (number_root Z e.routine e.source c.root x) c.caller in
          let y = any-from (rooted x) Z.states 0 c.root (omega arith) (omega (arith, c.root_small)) on in
          any-from calls Z.states 0 x (omega arith) (omega (arith, c.state_small)) (rw (c.gives, y) refl)

    -- ---- a caller from (f, n, r) to which a call of g returns in state t

    pub record ReturnAt (f n r g t : ℕ) : Type 0 where
      pub routine : g < max_routines
      pub state : ℕ
      pub state_small : state < Z.states
      pub caller : is_set kept (number Z f n r state) ≡ true
      pub root : ℕ
      pub root_small : root < Z.states
      pub gives : bit root (set_at next state (call_of g)) ≡ true
      pub exit_state : ℕ
      pub exit_small : exit_state < Z.states
      pub exit : is_set kept (number Z g 1 root exit_state) ≡ true
      pub returns : bit t (set_at next exit_state (return_of g)) ≡ true

    module _ (f n r g t : ℕ) where
      abbrev left : ℕ → ℕ → Bool
      left s x = move_kept next kept (number Z g 1 s 0) x (return_of g) t

      abbrev roots : ℕ → ℕ → Bool
      roots y s = bit s (set_at next y (call_of g)) && exit_kept Z next kept (number Z g 1 s 0) (return_of g) t

      abbrev called : ℕ → Bool
      called y = is_set kept (number Z f n r 0 + y) && root_returns Z next kept y g t

      pub return_found : return_kept Z next kept (number Z f n r 0) g t ≡ true → ReturnAt f n r g t
      unfolding return_kept root_returns exit_kept
      return_found h =
          let c = cond_true (ltb g max_routines) (any_from called Z.states 0) h in
          let y = found_from called Z.states 0 c.1 in
          let b = both (is_set kept (number Z f n r 0 + y.at)) (any_from (roots y.at) Z.states 0) y.test in
          let s = found_from (roots y.at) Z.states 0 b.1 in
          let d = both (bit s.at (set_at next y.at (call_of g))) (any_from (left s.at) Z.states 0) s.test in
          let x = found_from (left s.at) Z.states 0 d.1 in
          let a = move_found g 1 s.at x.at (return_of g) t x.test in
          record {
            routine = ltb-true g max_routines c.0;
            state = y.at;
            state_small = omega (arith, y.below);
            caller = rw (number_state Z f n r y.at) at b.0;
            root = s.at;
            root_small = omega (arith, s.below);
            gives = d.0;
            exit_state = x.at;
            exit_small = omega (arith, x.below);
            exit = a.0;
            returns = a.1;
          }

      pub return_there : ReturnAt f n r g t → return_kept Z next kept (number Z f n r 0) g t ≡ true
      unfolding return_kept root_returns exit_kept
      return_there c =
          let y = c.state in
          let s = c.root in
          let x = c.exit_state in
          let leaves = move_there g 1 s x (return_of g) t c.exit c.returns in
          let by-exit = any-from (left s) Z.states 0 x (omega arith) (omega (arith, c.exit_small)) leaves in
          let by_root = any-from (roots y) Z.states 0 s (omega arith) (omega (arith, c.root_small)) (rw (c.gives, by-exit) refl) in
          let caller : is_set kept (number Z f n r 0 + y) ≡ true = rw (number_state Z f n r y) c.caller in
          let by-caller = any-from called Z.states 0 y (omega arith) (omega (arith, c.state_small)) (rw (caller, by_root) refl) in
          rw (lt-ltb g max_routines c.routine) by-caller
