-- The paper's program F in its own sizes: 54 bytes, the standings 0, 10, 19, 27 and 37, and 6 takings.
use mathlib.Core.Path.{◌≡◌, refl}
use mathlib.Core.List.{[], ◌∷◌}
use Prim.Native.Nat.{ℕ}
use lib.ListN.{set, replicate}
use Rattle.automaton.specs.Automaton.{Transition, listed, heard, moves}
use Rattle.program.specs.Program.{Edge, Program}
use Rattle.program.specs.Chosen.{largest, numbers}
use Rattle.reach.specs.Sizes as sizes
use Rattle.reach.specs.Configurations.{number, routine_of, node_of, root_of, state_of, none_set}
use Rattle.reach.specs.Worklist as w
use Rattle.reach.specs.Marks.{fresh_marks}

edge : ℕ → ℕ → ℕ → ℕ → Edge
edge f n a m = record { routine = f; source = n; label = a; target = m }

line : ℕ → ℕ → ℕ → Transition
line q a s = record { before = q; label = a; after = s }

F : Program
F =
    record {
      routines = 2;
      nodes = 3 ∷ 2 ∷ [];
      edges = edge 0 0 0x41 2 ∷ edge 0 2 1 1 ∷ edge 1 0 0 1 ∷ [];
      automaton = record { states = 3; actions = 2; transitions = line 0 0 1 ∷ line 0 1 2 ∷ line 1 0 1 ∷ line 1 1 1 ∷ []; initial = 0 ∷ []; rejecting = 2 ∷ [] };
    }

P1 : fresh_marks F ≡ set (set (set (set (set (replicate 54 0) 0 1) 10 1) 19 1) 27 1) 37 1
unfolding F edge line largest numbers sizes.summaries sizes.enough_iterations number routine_of node_of root_of state_of none_set w.summary w.on_event w.event_when w.on_returns w.root_when w.on_a_call w.on_label w.label_when w.on_steps w.wake_roots w.calls w.wake_when w.wake_states w.caller_when w.wake_callers w.learn w.take_from w.take_one w.work w.opened w.analysis_at w.lowest w.mark w.wake w.mark_when moves listed heard
P1 = refl

P2 : (w.analysis F).iterations ≡ 6
unfolding F edge line largest numbers sizes.summaries sizes.enough_iterations number routine_of node_of root_of state_of none_set w.summary w.on_event w.event_when w.on_returns w.root_when w.on_a_call w.on_label w.label_when w.on_steps w.wake_roots w.calls w.wake_when w.wake_states w.caller_when w.wake_callers w.learn w.take_from w.take_one w.work w.opened w.analysis_at w.lowest w.mark w.wake w.mark_when moves listed heard
P2 = refl
