-- The loop over the lines of an exchange's text: the lines that are left decide.
use Prim.Native.Nat.{ℕ, suc, ◌+◌, ◌*◌, ◌≤◌, ◌<◌}
use mathlib.Core.Path.{◌≡◌, refl, sym, ap, ◌∙◌}
use mathlib.Core.Bool.{Bool, true, false, cond}
use mathlib.Core.Option.{Option, some, none}
use mathlib.Core.List.{List, [], ◌∷◌}
use native.Mathlib.Omega.{arith}
use lib.ListN.{length, drop, get_or, drop_of_length-le}
use lib.Seq.{drop-cons, drop-drop}
use Rattle.base.proofs.Bools.{never}
use Rattle.text.specs.Lines.{lines, numbers_of, line_from, line_at}
use Rattle.text.specs.declared.Line.{Line}
use Rattle.text.specs.declared.ReadLine.{ReadLine}
use Rattle.text.proofs.LinesSplit.{after_line, lines_first, numbers_first, after_numbers}
use Rattle.program.specs.Program.{Program}
use Rattle.program.specs.Frames.{num}
use Rattle.program.specs.Decoded.{program_of}
use Rattle.program.specs.declared.DecodedProgram.{DecodedProgram}
use Rattle.ranges.specs.Limits.{limits, limits_of}
use Rattle.ranges.specs.declared.Limits.{Limits}
use Rattle.exchange.specs.Changes.{Refused}
use Rattle.exchange.specs.Changing.{with_nodes}
use Rattle.exchange_text.specs.ExchangeText.{text_lines, of_routine, any, bad_frame, outside, bounded_by, exchange_from, wanted_exchange}
use Rattle.exchange_text.specs.Parts.{Found, begun, found_after, concluded, rest_from}
use Rattle.exchange_text.proofs.TextScanned.{rest_all, bad_first}

-- a line that is not bad has numbers
has_numbers : (m : Option (List ℕ)) → bad_frame (line_from m) ≡ false → (xs : List ℕ) × (m ≡ some xs)
has_numbers none h = never refl h
has_numbers (some xs) h = (xs, refl)

module _ (text : List ℕ) (at : ℕ) where
  -- the line at a position, and those after it
  split : at < length text → text_lines (drop at text) ≡ (line_at text at).line ∷ text_lines (after_line (drop at text))
  split h = rw (drop-cons text at 0 h) (first (get_or text at 0) (drop (suc at) text))
    where
      first : (b : ℕ) (t : List ℕ) → text_lines (b ∷ t) ≡ line_from (numbers_of (b ∷ t)) ∷ text_lines (after_line (b ∷ t))
      first b t = rw (lines_first b t, numbers_first (b ∷ t))

  -- the next line starts past this one's 0A
  next : bad_frame (line_at text at).line ≡ false → (after_line (drop at text) ≡ drop (line_at text at).next text) × (at < (line_at text at).next)
  next h =
      let w = has_numbers (numbers_of (drop at text)) h in
      let k : at + (2 * length w.0 + 1) ≡ at + 2 * length w.0 + 1 = omega arith in
      rw w.1 (after_numbers (drop at text) w.0 w.1 ∙ drop-drop _ at text ∙ ap (λ (i : ℕ). drop i text) k, omega arith)

  split_good : at < length text → bad_frame (line_at text at).line ≡ false
      → text_lines (drop at text) ≡ (line_at text at).line ∷ text_lines (drop (line_at text at).next text)
  split_good h g = split h ∙ rw (next g).0

  pub moves : bad_frame (line_at text at).line ≡ false → at < (line_at text at).next
  moves h = (next h).1

  -- the lines from here on decide
  pub record Decides (p b : Program) (first : Line) (s : Found) : Type 0 where
    pub decide : wanted_exchange p text ≡ rest_from b p first s (text_lines (drop at text))

-- ---- the first line

module _ (p : Program) (text : List ℕ) where
  pub begins_bad : bad_frame (line_at text 0).line ≡ true → wanted_exchange p text ≡ Refused 12
  unfolding wanted_exchange lines numbers_of any
  begins_bad h = go text h
    where
      go : (t : List ℕ) → bad_frame (line_at t 0).line ≡ true → wanted_exchange p t ≡ Refused 12
      go [] h = bad_first p [] refl
      go (b ∷ t) h = rw (split (b ∷ t) 0 (omega arith)) (bad_first p _ (rw h))

  begins : (b : Program) → ((l : Line) → outside b l ≡ outside (bounded_by ((line_at text 0).line ∷ []) p) l) → bad_frame (line_at text 0).line ≡ false
      → Decides text (line_at text 0).next p b (line_at text 0).line (begun b (line_at text 0).line)
  unfolding wanted_exchange numbers_of
  begins b same h =
      record { decide = ap (exchange_from p) (split_good text 0 (has_some text h) h) ∙ sym (rest_all p b (line_at text 0).line same (text_lines (drop (line_at text 0).next text)) h) }
    where
      has_some : (t : List ℕ) → bad_frame (line_at t 0).line ≡ false → 0 < length t
      has_some [] h = never refl h
      has_some (x ∷ t) h = omega arith

-- what bounds the numbers is known of a program by value
same_bounds : (d : DecodedProgram) (first l : Line) → outside (bounded_by (first ∷ []) (limits_of (limits d))) l ≡ outside (bounded_by (first ∷ []) (program_of d)) l
same_bounds d first l = go (of_routine first)
  where
    go : (t : Bool) → outside (cond t (with_nodes (limits_of (limits d)) (num first 1) (num first 2)) (limits_of (limits d))) l
        ≡ outside (cond t (with_nodes (program_of d) (num first 1) (num first 2)) (program_of d)) l
    go true = refl
    go false = refl

-- the loop is reached
pub reached : (d : DecodedProgram) (text : List ℕ) (r : ReadLine) (h : Limits) (s : Found) → r ≡ line_at text 0 → bad_frame (line_at text 0).line ≡ false
    → limits_of h ≡ bounded_by (r.line ∷ []) (limits_of (limits d)) → s ≡ begun (limits_of h) r.line
    → Decides text r.next (program_of d) (limits_of h) r.line s
reached d text r h s e g b k =
    let same : (l : Line) → outside (limits_of h) l ≡ outside (bounded_by ((line_at text 0).line ∷ []) (program_of d)) l
    = λ l. ap (λ (p : Program). outside p l) b ∙ rw e (same_bounds d (line_at text 0).line l) in
    rw (k, e) (begins (program_of d) text (limits_of h) same g)

-- ---- the others

module _ (p b : Program) (text : List ℕ) (at : ℕ) (first : Line) (s : Found) (d : Decides text at p b first s) where
  pub meets_bad : at < length text → bad_frame (line_at text at).line ≡ true → wanted_exchange p text ≡ Refused 12
  unfolding rest_from
  meets_bad h e = d.decide ∙ rw (split text at h, e)

  pub continues : at < length text → bad_frame (line_at text at).line ≡ false → (s' : Found) (f : ℕ) (r : ReadLine) → f ≡ num first 1 → r ≡ line_at text at
      → s' ≡ found_after b f s r.line → Decides text r.next p b first s'
  unfolding rest_from
  continues h e s' f r g k n = rw (n, g, k) (record { decide = d.decide ∙ rw (split_good text at h e, e) })

  pub ends : length text ≤ at → wanted_exchange p text ≡ concluded p first s
  unfolding rest_from lines
  ends h = d.decide ∙ rw (drop_of_length-le text h)
