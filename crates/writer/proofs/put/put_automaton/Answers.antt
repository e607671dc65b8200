-- `writer::put::put_automaton` meets its contract: the three sections stand one after the other.
use mathlib.Core.Path.{◌≡◌}
use mathlib.Core.List.{map}
use Prim.Native.Nat.{◌+◌, ◌<◌, ◌≤◌}
use native.Mathlib.Omega.{arith}
use lib.ListN.{length, take}
use Rattle.base.proofs.EntriesInUse.{in_use_same}
use borrow.Author.Rules.{rules}
use Rattle.automaton.specs.Sizes.{max_states}
use Rattle.automaton.specs.Decoded.{states_of, transition_keys_of, automaton_of}
use Rattle.program.specs.Frames.{transition_frame, initial_frame, rejecting_frame}
use Rattle.program.specs.Writing.{text}
use Rattle.writer.specs.Parts.{key_frame}
use Rattle.writer.proofs.FramesPut.{transition-frames, long_append, put_both}
use Rattle.writer.proofs.put.put_automaton.Goals as goal
use Rattle.writer.proofs.put.put_automaton.Goals.{After-in_use-rejecting, Start}

-- nothing of a transition is lost
whole : (c : Start) → map (key_frame 0x54) (transition_keys_of c.args.r.transitions) ≡ map transition_frame (automaton_of c.args.r).transitions
whole c =
    let b : c.args.r.states < 256 = search rules in
    transition-frames (automaton_of c.args.r) (transition_keys_of c.args.r.transitions) b c.requires.within

-- the room for the three sections, and the sizes of the lists
room : (c : Start)
    → (c.args.at + (length (text (map (key_frame 0x54) (transition_keys_of c.args.r.transitions)))
    + (length (text (map initial_frame (states_of c.args.r.initial))) + length (text (map rejecting_frame (states_of c.args.r.rejecting)))))
    ≤ length c.args.out.now)
    × (length c.args.r.initial.list ≡ max_states) × (length c.args.r.rejecting.list ≡ max_states)
room c =
    let r = automaton_of c.args.r in (
      rw (whole c, ← (long_append (map initial_frame r.initial) (map rejecting_frame r.rejecting)), ← (long_append (map transition_frame r.transitions) _)) c.requires.room,
      search rules,
      search rules,
    )

-- the parts of the lists that are in use
used : (c : After-in_use-rejecting)
    → let r = c.args.r in
    (take c.in_use-transitions.result r.transitions.keys ≡ transition_keys_of r.transitions)
    × (take c.in_use-initial.result r.initial.list ≡ states_of r.initial)
    × (take c.in_use-rejecting.result r.rejecting.list ≡ states_of r.rejecting)
used c =
    let r = c.args.r in
    let e = room (goal.at.After-in_use-rejecting c).Start in (
      in_use_same r.transitions.count r.transitions.keys (search rules) c.in_use-transitions.ensures,
      in_use_same r.initial.count r.initial.list e.1 c.in_use-initial.ensures,
      in_use_same r.rejecting.count r.rejecting.list e.2 c.in_use-rejecting.ensures,
    )

pub put_keys-after_transitions-requires : goal.put_keys-after_transitions-requires
put_keys-after_transitions-requires c =
    let r = room (goal.at.put_keys-after_transitions-requires c).Start in
    let u = used (goal.at.put_keys-after_transitions-requires c).After-in_use-rejecting in
    rw u.0 (omega arith)

pub put_bytes-after_initial-requires : goal.put_bytes-after_initial-requires
put_bytes-after_initial-requires c =
    let r = room (goal.at.put_bytes-after_initial-requires c).Start in
    let u = used (goal.at.put_bytes-after_initial-requires c).After-in_use-rejecting in
    let p = rw u.0 at c.put_keys-after_transitions.ensures.past in
    record { short = omega arith; room = rw u.1 (omega arith) }

pub put_bytes-requires : goal.put_bytes-requires
put_bytes-requires c =
    let r = room (goal.at.put_bytes-requires c).Start in
    let u = used (goal.at.put_bytes-requires c).After-in_use-rejecting in
    let p = rw u.0 at c.put_keys-after_transitions.ensures.past in
    let q = rw u.1 at c.put_bytes-after_initial.ensures.past in
    record { short = omega arith; room = rw u.2 (omega arith) }

pub returns : goal.returns
returns c =
    let u = used (goal.at.returns c).After-in_use-rejecting in
    rw (u.0, u.1, u.2, whole (goal.at.returns c).Start)
    at (put_both c.put_keys-after_transitions.ensures (put_both c.put_bytes-after_initial.ensures c.put_bytes.ensures))
