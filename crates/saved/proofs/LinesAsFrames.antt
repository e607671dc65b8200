-- The lines of a text are frames of configurations and an end where the text is that of these frames, both ways.
use mathlib.Core.Path.{◌≡◌, refl, sym, ap, ◌∙◌}
use mathlib.Core.Option.{some}
use mathlib.Core.List.{List, [], ◌∷◌, ◌++◌, map, append_assoc, Memᴰ}
use Prim.Native.Nat.{ℕ, ◌+◌, ◌*◌, ◌/◌, ◌%◌, ◌<◌}
use native.Mathlib.Omega.{arith}
use lib.ListN.{length}
use Rattle.text.specs.Hex.{hex}
use Rattle.text.specs.Lines.{first_line, lines, numbers_of, Bytes}
use Rattle.text.proofs.RoundTrip.{numbers_hex, text_of}
use Rattle.text.proofs.LinesSplit.{after_line, lines_first, lines_hex, numbers_first}
use Rattle.program.specs.Frames.{end_frame}
use Rattle.program.specs.Writing.{text}
use Rattle.reach.specs.declared.configuration.Configuration.{Configuration}
use Rattle.saved.specs.Saved.{saved_kind}
use Rattle.saved.specs.Rules.{FrameLines, saved, ended}

abbrev pub frame_of : Configuration → List ℕ
frame_of c = saved_kind ∷ c.routine ∷ c.node ∷ c.root ∷ c.state ∷ []

-- the text of these configurations' frames, so many frames before them, and of the end
abbrev pub text_after : ℕ → List Configuration → List ℕ
text_after n cs = text (map frame_of cs ++ end_frame (n + length cs) ∷ [])

-- ---- lines that are frames

no_lines : lines [] ≡ []
unfolding lines
no_lines = refl

lines_none : (s : List ℕ) → lines s ≡ [] → s ≡ []
lines_none [] h = refl
lines_none (b ∷ t) h = absurd (let f = lines_first b t in let z : ◌≡◌ {A = ℕ} 0 1 = cc in omega arith)

-- a text whose first line has numbers is their line and what follows it
first_taken : (s : List ℕ) {l xs : List ℕ} {ls : List (List ℕ)} → lines s ≡ l ∷ ls → numbers_of l ≡ some xs
    → (s ≡ hex xs ++ 10 ∷ after_line s) × Bytes xs × (lines (after_line s) ≡ ls)
first_taken [] h e = absurd (let f = no_lines in let z : ◌≡◌ {A = ℕ} 0 1 = cc in omega arith)
first_taken (b ∷ t) {l} {xs} {ls} h e =
    let f : first_line (b ∷ t) ∷ lines (after_line (b ∷ t)) ≡ l ∷ ls = sym (lines_first b t) ∙ h in
    let n : numbers_of (b ∷ t) ≡ some xs = cc (numbers_first (b ∷ t)) in
    let w = text_of (b ∷ t) xs n in
    (w.0, w.1, cc)

pub frames_text : {n : ℕ} {ls : List (List ℕ)} {cs : List Configuration} → FrameLines n ls cs → (s : List ℕ) → lines s ≡ ls → s ≡ text_after n cs
unfolding text
frames_text {n} (saved {c = c} {cs = cs} e r) s h =
    let x = first_taken s h e in
    let i = frames_text r (after_line s) x.2 in
    let m : n + length (c ∷ cs) ≡ n + 1 + length cs = omega arith in
    rw (m, append_assoc (hex (frame_of c)) (10 ∷ []) (text_after (n + 1) cs), ← i) x.0
frames_text {n} (ended {high = high} {low = low} e d) s h =
    let x = first_taken s h e in
    let f : List ℕ = 0x45 ∷ high ∷ low ∷ [] in
    let a : (n + 0) / 256 ≡ high = omega (arith, x.1) in
    let b : (n + 0) % 256 ≡ low = omega (arith, x.1) in
    rw (a, b, append_assoc (hex f) (10 ∷ []) []) (x.0 ∙ ap (λ (u : List ℕ). hex f ++ 10 ∷ u) (lines_none (after_line s) x.2))

-- ---- the text of frames

pub text_frames : (cs : List Configuration) (n : ℕ) → ((c : Configuration) → Memᴰ c cs → Bytes (frame_of c)) → n + length cs < 0x10000
    → FrameLines n (lines (text_after n cs)) cs
unfolding text
text_frames [] n b h =
    let f = end_frame (n + 0) in
    let e : (n + 0) / 256 * 256 + (n + 0) % 256 ≡ n = omega arith in
    rw (append_assoc (hex f) (10 ∷ []) [], lines_hex f [], no_lines) (ended (numbers_hex f [] (omega arith)) e)
text_frames (c ∷ cs) n b h =
    let m : n + length (c ∷ cs) ≡ n + 1 + length cs = omega arith in
    rw (m, append_assoc (hex (frame_of c)) (10 ∷ []) (text_after (n + 1) cs), lines_hex (frame_of c) (text_after (n + 1) cs))
    (saved (numbers_hex (frame_of c) [] (b c (Memᴰ.head refl))) (text_frames cs (n + 1) (λ d k. b d (Memᴰ.tail k)) (omega arith)))
