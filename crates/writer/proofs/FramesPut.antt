-- Frames written one after the other.
use mathlib.Core.Path.{◌≡◌, refl, sym, ap, ◌∙◌}
use mathlib.Core.Bool.{Bool, true, false, cond}
use mathlib.Core.List.{List, [], ◌∷◌, ◌++◌, map, map-map, append-nil}
use Prim.Native.Nat.{ℕ, zero, suc, ◌+◌, ◌*◌, ◌%◌, ◌<◌, ◌≤◌}
use native.Mathlib.Nat.{zero-add, add-zero}
use native.Mathlib.Numerals.{add-one}
use native.Mathlib.Omega.{arith}
use lib.Dec.{eqb}
use lib.ListN.{length, take, drop, get_or, length-append, length-map, take-append-drop, get_or-map}
use lib.Seq.{sets, length-sets, sets-eq, take-suc, take_all}
use borrow.Author.Tests.{ltb-true, lt-ltb}
use Rattle.text.specs.Hex.{hex_line}
use Rattle.text.specs.Lines.{pad, max_numbers, line_of}
use Rattle.text.specs.declared.Line.{Line}
use Rattle.text.proofs.RoundTrip.{length_hex}
use Rattle.text.proofs.NumbersStored.{sets_append}
use Rattle.automaton.specs.Automaton.{Transition, Automaton}
use Rattle.automaton.specs.Decoded.{transition_of}
use Rattle.program.specs.Program.{Program, transition_fits}
use Rattle.program.specs.Frames.{header_frame, nodes_frame, edge_frame, transition_frame, end_frame}
use Rattle.program.proofs.ProgramLimits.{transition-fits, text_append}
use Rattle.program.specs.Writing.{nodes_frames, frames_with, frames_of, text, written_with, written}
use Rattle.program.specs.WellFormed.{All}
use Rattle.program.specs.Decoded.{edge_of}
use Rattle.writer.specs.Parts.{lower_byte, starts_within, key_frame, byte_frame, byte_frames, automaton_frames, RoomFor, Put}

-- ---- the text of frames

text_one : (f : List ℕ) → text (f ∷ []) ≡ hex_line f
unfolding text
text_one f = append-nil (hex_line f)

pub long_append : (fs gs : List (List ℕ)) → length (text (fs ++ gs)) ≡ length (text fs) + length (text gs)
long_append fs gs = simp (text_append, length-append)

pub long_one : (f : List ℕ) → length (text (f ∷ [])) ≡ 2 * length f + 1
long_one f = simp (text_one, length-append, length_hex)

-- ---- the frames of lists

pub nodes_long : (f : ℕ) (ns : List ℕ) → length (nodes_frames f ns) ≡ length ns
unfolding nodes_frames
nodes_long f [] = refl
nodes_long f (n ∷ ns) = ap suc (nodes_long (f + 1) ns)

nodes_at : (f : ℕ) (ns : List ℕ) (i : ℕ) → get_or (nodes_frames f ns) i (nodes_frame (f + i) 0) ≡ nodes_frame (f + i) (get_or ns i 0)
unfolding nodes_frames
nodes_at f [] i = refl
nodes_at f (n ∷ ns) zero = rw add-zero
nodes_at f (n ∷ ns) (suc i) =
    let e : f + 1 + i ≡ f + suc i = omega arith in
    rw e at (nodes_at (f + 1) ns i)

pub key_short : (kind k : ℕ) → length (key_frame kind k) ≤ max_numbers
key_short kind k = go (eqb kind 0x53)
  where
    go : (t : Bool) → length (cond t (edge_frame (edge_of k)) (transition_frame (lower_byte (transition_of k)))) ≤ max_numbers
    go true = omega arith
    go false = omega arith

pub edge_frames : (ks : List ℕ) → map (key_frame 0x53) ks ≡ map edge_frame (map edge_of ks)
edge_frames ks = sym (map-map edge_frame edge_of ks)

-- a transition that fits begins in a state of the automaton
pub starts-within : (p : Program) (ts : List Transition) → All (transition_fits p) ts → All (starts_within p.automaton) ts
unfolding All
starts-within p [] fit = tt
starts-within p (t ∷ ts) fit = (lt-ltb t.before p.automaton.states (transition-fits p t fit.0).0, starts-within p ts fit.1)

-- nothing of a transition is lost that begins in a state of the automaton
pub transition-frames : (r : Automaton) (ks : List ℕ) → r.states < 256 → All (starts_within r) (map transition_of ks)
    → map (key_frame 0x54) ks ≡ map transition_frame (map transition_of ks)
unfolding All
transition-frames r [] h within = refl
transition-frames r (k ∷ ks) h within =
    let b = ltb-true (transition_of k).before r.states within.0 in
    let e : (transition_of k).before % 256 ≡ (transition_of k).before = omega arith in
    rw (e, transition-frames r ks h within.1)

-- ---- what was written

pub same_long : {o out : List ℕ} {at pos : ℕ} {fs : List (List ℕ)} → Put fs o out at pos → length out ≡ length o
same_long {o} {out} {at} {pos} {fs} p = ap length p.there ∙ length-sets o at (text fs)

pub put_none : {o : List ℕ} {at : ℕ} → Put [] o o at at
unfolding text
put_none = record { there = refl; past = omega arith }

pub put_both : {o a b : List ℕ} {at p q : ℕ} {fs gs : List (List ℕ)} → Put fs o a at p → Put gs a b p q → Put (fs ++ gs) o b at q
put_both {o} {a} {b} {at} {p} {q} {fs} {gs} x y = record {
  there = y.there ∙ rw (x.there, x.past, text_append) (sets_append o at (text fs) (text gs));
  past = omega (arith, long_append fs gs);
}

take_pad : (n : ℕ) (xs : List ℕ) → length xs ≤ n → take (length xs) (pad n xs) ≡ xs
take_pad n [] h = refl
take_pad zero (x ∷ xs) h = absurd (omega arith)
take_pad (suc n) (x ∷ xs) h = ap (λ (l : List ℕ). x ∷ l) (take_pad n xs (omega arith))

-- what `put_line` gives
pub put_one : {o out : List ℕ} {at pos : ℕ} (l : Line) (f : List ℕ) → l ≡ line_of f → length f ≤ max_numbers
    → (pos ≡ at + 2 * l.count + 1) × (out ≡ sets o at (hex_line (take l.count l.numbers))) → Put (f ∷ []) o out at pos
put_one {o} {out} {at} {pos} l f e short p =
    let n : l.count ≡ length f = ap (λ (x : Line). x.count) e in
    let w : take l.count l.numbers ≡ f = rw e (take_pad max_numbers f short) in
    record { there = rw text_one (rw w at p.1); past = omega (arith, long_one f) }

-- ---- a section: its frames are written in turn

-- the frames of the first n entries of xs: F i x is the frame of the entry x at i
pub record Section (F : ℕ → ℕ → List ℕ) (xs : List ℕ) (n : ℕ) (fs : List (List ℕ)) : Type 0 where
  pub long : length fs ≡ n
  pub frame : (i : ℕ) → i < n → get_or fs i (F i 0) ≡ F i (get_or xs i 0)
  pub short : (i x : ℕ) → length (F i x) ≤ max_numbers

module _ (xs : List ℕ) where
  -- a frame for each entry
  pub mapped : (F : ℕ → List ℕ) → ((x : ℕ) → length (F x) ≤ max_numbers) → Section (λ i x. F x) xs (length xs) (map F xs)
  mapped F short = record { long = length-map xs F; frame = λ i h. get_or-map F xs i 0; short = λ i x. short x }

  -- a frame for each routine
  numbered : Section nodes_frame xs (length xs) (nodes_frames 0 xs)
  numbered = record { long = nodes_long 0 xs; frame = λ i h. rw zero-add at (nodes_at 0 xs i); short = λ i x. omega arith }

  -- one or the other, by the kind
  pub either : (kind : ℕ) → Section (byte_frame kind) xs (length xs) (byte_frames kind xs)
  either kind = go (eqb kind 0x52)
    where
      go : (t : Bool)
          → Section (λ i x. cond t (nodes_frame i x) (kind ∷ x ∷ [])) xs (length xs) (cond t (nodes_frames 0 xs) (map (λ x. kind ∷ x ∷ []) xs))
      go true = numbered
      go false = mapped (λ x. kind ∷ x ∷ []) (λ x. omega arith)

-- the first i frames were written, and there is room for all of them
pub record PutSoFar (F : ℕ → ℕ → List ℕ) (xs : List ℕ) (n : ℕ) (fs : List (List ℕ)) (o out : List ℕ) (at pos i : ℕ) : Type 0 where
  pub section : Section F xs n fs
  pub enough : RoomFor fs o at
  pub put : Put (take i fs) o out at pos

pub none_yet : {F : ℕ → ℕ → List ℕ} {xs : List ℕ} {n : ℕ} {fs : List (List ℕ)} {o : List ℕ} {at : ℕ}
    → Section F xs n fs → RoomFor fs o at → PutSoFar F xs n fs o o at at 0
none_yet s h = record { section = s; enough = h; put = put_none }

module _ {F : ℕ → ℕ → List ℕ} {xs : List ℕ} {n : ℕ} {fs : List (List ℕ)} {o out : List ℕ} {at pos i : ℕ}
    (s : PutSoFar F xs n fs o out at pos i) where
  pub all_put : n ≤ i → Put fs o out at pos
  all_put h =
      let w : take i fs ≡ fs = take_all i fs (omega (arith, s.section.long)) in
      rw w at s.put

  module _ (h : i < n) (l : Line) (e : l ≡ line_of (F i (get_or xs i 0))) where
    next : take (i + 1) fs ≡ take i fs ++ (F i (get_or xs i 0) ∷ [])
    next = rw (add-one, take-suc fs i (F i 0) (omega (arith, s.section.long)), s.section.frame i h)

    -- what `put_line` asks
    pub room : (l.count ≤ max_numbers) × (pos + 2 * l.count < length out)
    room =
        let f : List ℕ = F i (get_or xs i 0) in
        let c : l.count ≡ length f = ap (λ (x : Line). x.count) e in
        let b : length f ≤ max_numbers = s.section.short i (get_or xs i 0) in
        let k = same_long s.put in
        let u = long_append (take (i + 1) fs) (drop (i + 1) fs) in
        let v = long_append (take i fs) (f ∷ []) in
        let w = long_one f in
        let x : length (text (take (i + 1) fs)) ≡ length (text (take i fs ++ (f ∷ []))) = rw next in
        let y : length (text (take (i + 1) fs ++ drop (i + 1) fs)) ≡ length (text fs) = rw take-append-drop in
        (omega arith, omega arith)

    pub more : {out' : List ℕ} {pos' : ℕ} → (pos' ≡ pos + 2 * l.count + 1) × (out' ≡ sets out pos (hex_line (take l.count l.numbers)))
        → PutSoFar F xs n fs o out' at pos' (i + 1)
    more p =
        let w = put_one l (F i (get_or xs i 0)) e (s.section.short i (get_or xs i 0)) p in
        record { section = s.section; enough = s.enough; put = rw next (put_both s.put w) }

-- ---- the whole file

module _ (p : Program) where
  -- the lines of the header and of the end have four and three numbers
  pub file_long : length (written p) ≡ 9 + (length (text (nodes_frames 0 p.nodes)) + (length (text (map edge_frame p.edges)) + length (text (automaton_frames p.automaton)))) + 7
  unfolding written_with frames_with
  file_long =
      let h : List ℕ = header_frame p.routines p.automaton.states p.automaton.actions in
      let n : List (List ℕ) = nodes_frames 0 p.nodes in
      let e : List (List ℕ) = map edge_frame p.edges in
      let r : List (List ℕ) = automaton_frames p.automaton in
      let z : List ℕ = end_frame (length (frames_of p)) in
      omega (arith, long_append (h ∷ []) ((n ++ (e ++ r)) ++ (z ∷ [])), long_append (n ++ (e ++ r)) (z ∷ []), long_append n (e ++ r), long_append e r, long_one h, long_one z)

  pub file_put : {o a b c d out : List ℕ} {i j k l pos : ℕ}
      → Put (header_frame p.routines p.automaton.states p.automaton.actions ∷ []) o a 0 i
      → Put (nodes_frames 0 p.nodes) a b i j
      → Put (map edge_frame p.edges) b c j k
      → Put (automaton_frames p.automaton) c d k l
      → Put (end_frame (length (frames_of p)) ∷ []) d out l pos
      → length (written p) ≤ length o
      → (pos ≡ length (written p)) × (out ≡ written p ++ drop (length (written p)) o)
  unfolding written_with frames_with
  file_put {o = o} h n e r z room =
      let w = put_both h (put_both (put_both n (put_both e r)) z) in
      (w.past ∙ zero-add _, w.there ∙ sets-eq (written p) o 0 (omega arith) ∙ rw zero-add)
