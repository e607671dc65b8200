-- What the writer's private functions ask and promise of each other; nothing here has to be believed.
use Rattle.std.specs.Prelude.{ℕ, ◌+◌, ◌%◌, ◌≤◌, ◌≡◌, Bool, cond, List, [], ◌∷◌, ◌++◌, map, ltb, eqb, length}
use Rattle.std.proofs.lemmas.List.Edits.{sets}
use Rattle.automaton.specs.Automaton.{Transition, Automaton}
use Rattle.automaton.specs.Decoded.{transition_of}
use Rattle.program.specs.Frames.{nodes_frame, edge_frame, transition_frame, initial_frame, rejecting_frame}
use Rattle.program.specs.Writing.{nodes_frames, text}
use Rattle.program.specs.Decoded.{edge_of}

-- two digits hold the lower byte of a state
abbrev pub lower_byte : Transition → Transition
lower_byte t = record { before = t.before % 256; label = t.label; after = t.after }

-- the state before a transition is one of the automaton's
abbrev pub starts_within : Automaton → Transition → Bool
starts_within r t = ltb t.before r.states

-- the frame of a key: of an edge, kind 53, or of a transition
abbrev pub key_frame : ℕ → ℕ → List ℕ
key_frame kind k = cond (eqb kind 0x53) (edge_frame (edge_of k)) (transition_frame (lower_byte (transition_of k)))

-- the frame of the entry x at i of a list: of a routine, kind 52, or of a state
abbrev pub byte_frame : ℕ → ℕ → ℕ → List ℕ
byte_frame kind i x = cond (eqb kind 0x52) (nodes_frame i x) (kind ∷ x ∷ [])

abbrev pub byte_frames : ℕ → List ℕ → List (List ℕ)
byte_frames kind xs = cond (eqb kind 0x52) (nodes_frames 0 xs) (map (λ x. kind ∷ x ∷ []) xs)

abbrev pub automaton_frames : Automaton → List (List ℕ)
automaton_frames r = map transition_frame r.transitions
    ++ (map initial_frame r.initial ++ map rejecting_frame r.rejecting)

-- there is room for the lines of fs from `at` on
abbrev pub RoomFor : List (List ℕ) → List ℕ → ℕ → Type 0
RoomFor fs out at = at + length (text fs) ≤ length out

-- the lines of fs were written from `at` on, and `next` is past them
pub record Put (fs : List (List ℕ)) (old new : List ℕ) (at next : ℕ) : Type 0 where
  pub there : new ≡ sets old at (text fs)
  pub past : next ≡ at + length (text fs)
