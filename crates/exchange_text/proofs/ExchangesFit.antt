-- An exchange that was read fits its program.
use Prim.Native.Nat.{ℕ, ◌+◌, ◌<◌}
use mathlib.Core.Path.{◌≡◌, refl, subst, ◌∙◌}
use mathlib.Core.Bool.{Bool, true, false, ◌&&◌, ◌||◌, not, or-false}
use mathlib.Core.List.{List, [], ◌∷◌, map}
use native.Mathlib.Omega.{arith}
use lib.Dec.{ltb, eqb}
use lib.ListN.{length}
use borrow.Author.Tests.{ltb-true, ltb-false, eqb-true, not-false}
use Rattle.base.proofs.Bools.{both, neither, never}
use Rattle.text.specs.Lines.{lines, numbers_of}
use Rattle.text.specs.declared.Line.{Line}
use Rattle.tables.specs.Keys.{Ascending}
use Rattle.program.specs.Sizes.{max_edges}
use Rattle.program.specs.Program.{Program, nodes_fit, edge_fits}
use Rattle.program.specs.Frames.{size, num, kind, edge_key}
use Rattle.program.specs.Reading.{edge_in, ranged}
use Rattle.program.specs.Checks.{row, first_met}
use Rattle.program.specs.WellFormed.{All}
use Rattle.program.proofs.LinesJudged.{Padded, padded}
use Rattle.exchange.specs.Changes.{Exchange, Change, whole, Read}
use Rattle.exchange.specs.Changing.{others, with_nodes}
use Rattle.exchange_text.specs.ExchangeText.{line_in, text_lines, of_routine, of_edge, any, bad_frame, bad_text, bounded_by, outside, out_of_range, frame_key, astray, any_astray, disordered, exchange_in, too_many, too_large, exchange_unless, exchange_from, wanted_exchange}
use Rattle.exchange.specs.Wanted.{Fits, ChangeApplies}

-- ---- one line

-- a frame 53 of five numbers has its edge's key
edge-frame : (l : Line) → Padded l → bad_frame l ≡ false → kind l ≡ 3 → frame_key l ≡ edge_key (edge_in l)
edge-frame l pad h k =
    let w = neither (eqb l.count 0 || not (of_routine l || of_edge l)) (not (eqb l.count (size 0 (kind l)))) h in
    let c : l.count ≡ 5 = eqb-true l.count (size 0 (kind l)) (not-false _ w.1) ∙ rw k in
    rw (k, pad 5 (omega arith), pad 6 (omega arith), pad 7 (omega arith))

module _ (b : Program) (f : ℕ) where
  -- a line that is good, in range and not astray
  pub record Edged (last : ℕ) (l : Line) : Type 0 where
    pub fits : edge_fits b (edge_in l) ≡ true
    pub own : eqb (num l 1) f ≡ true
    pub above : last < edge_key (edge_in l)
    pub key : frame_key l ≡ edge_key (edge_in l)

  edged : (last : ℕ) (l : Line) → Padded l → bad_frame l ≡ false → outside b l ≡ false → astray f last l ≡ false → Edged last l
  edged last l pad h o a =
      let w = neither (not (of_edge l) || not (eqb (num l 1) f)) (not (ltb last (frame_key l))) a in
      let v = neither (not (of_edge l)) (not (eqb (num l 1) f)) w.0 in
      let k : kind l ≡ 3 = eqb-true (kind l) 3 (not-false _ v.0) in
      let e = edge-frame l pad h k in
      record {
        fits = simp (k, or-false) at (not-false (ranged b (kind l) l) o);
        own = not-false _ v.1;
        above = rw e at (ltb-true last (frame_key l) (not-false _ w.1));
        key = e;
      }

  -- ---- all lines after the first

  pub record AllEdged (last : ℕ) (ls : List Line) : Type 0 where
    pub all_fit : All (edge_fits b) (map edge_in ls)
    pub all_own : All (λ e. eqb e.routine f) (map edge_in ls)
    pub ascend : Ascending last (map edge_key (map edge_in ls))

  all_edged : (last : ℕ) (qs : List (List ℕ)) → any bad_frame (map line_in qs) ≡ false → any (outside b) (map line_in qs) ≡ false
      → any_astray f last (map line_in qs) ≡ false → AllEdged last (map line_in qs)
  unfolding any any_astray All Ascending
  all_edged last [] h o a = record { all_fit = tt; all_own = tt; ascend = tt }
  all_edged last (q ∷ qs) h o a =
      let l = line_in q in
      let x = neither (bad_frame l) (any bad_frame (map line_in qs)) h in
      let y = neither (outside b l) (any (outside b) (map line_in qs)) o in
      let z = neither (astray f last l) (any_astray f (frame_key l) (map line_in qs)) a in
      let e = edged last l (padded (numbers_of q)) x.0 y.0 z.0 in
      let r = all_edged (frame_key l) qs x.1 y.1 z.1 in
      record {
        all_fit = (e.fits, r.all_fit);
        all_own = (e.own, r.all_own);
        ascend = (e.above, subst (λ (k : ℕ). Ascending k (map edge_key (map edge_in (map line_in qs)))) e.key r.ascend);
      }

-- ---- the text

-- nothing is met, and the exchange is this one
not_refused : (a b c d g : Bool) (x : Exchange) (e : Change) → exchange_unless (first_met (row 12 a ∷ row 13 b ∷ row 21 c ∷ row 16 d ∷ row 23 g ∷ [])) x ≡ Read e
    → (a ≡ false) × (b ≡ false) × (c ≡ false) × (d ≡ false) × (g ≡ false) × (whole x ≡ e)
unfolding first_met
not_refused true b c d g x e h = absurd (let z : ◌≡◌ {A = ℕ} 0 1 = cc in omega arith)
not_refused false true c d g x e h = absurd (let z : ◌≡◌ {A = ℕ} 0 1 = cc in omega arith)
not_refused false false true d g x e h = absurd (let z : ◌≡◌ {A = ℕ} 0 1 = cc in omega arith)
not_refused false false false true g x e h = absurd (let z : ◌≡◌ {A = ℕ} 0 1 = cc in omega arith)
not_refused false false false false true x e h = absurd (let z : ◌≡◌ {A = ℕ} 0 1 = cc in omega arith)
not_refused false false false false false x e h = (refl, refl, refl, refl, refl, cc)

-- a leading frame 52 bounds the others
bounds : (p : Program) (l : Line) (ls : List Line) → of_routine l ≡ true → bounded_by (l ∷ ls) p ≡ with_nodes p (num l 1) (num l 2)
bounds p l ls h = rw h

lines_fit : (p : Program) (qs : List (List ℕ)) → bad_text (map line_in qs) ≡ false → out_of_range p (map line_in qs) ≡ false → disordered (map line_in qs) ≡ false
    → too_many p (exchange_in (map line_in qs)) ≡ false → too_large p (exchange_in (map line_in qs)) ≡ false → Fits (exchange_in (map line_in qs)) p
unfolding any
lines_fit p [] h o d t g = never refl h
lines_fit p (q ∷ qs) h o d t g =
    let l = line_in q in
    let f = num l 1 in
    let n = num l 2 in
    let ls = map line_in qs in
    let w = neither (not (of_routine l)) (any_astray f 0 ls) d in
    let r : of_routine l ≡ true = not-false _ w.0 in
    let k : kind l ≡ 2 = eqb-true (kind l) 2 r in
    let o' : any (outside (with_nodes p f n)) (l ∷ ls) ≡ false = subst (λ (b : Program). any (outside b) (l ∷ ls) ≡ false) (bounds p l ls r) o in
    let x = neither (bad_frame l) (any bad_frame ls) h in
    let y = neither (outside (with_nodes p f n) l) (any (outside (with_nodes p f n)) ls) o' in
    let c : ltb f p.routines && nodes_fit n ≡ true = simp (k, or-false) at (not-false (ranged (with_nodes p f n) (kind l) l) y.0) in
    let e = all_edged (with_nodes p f n) f 0 qs x.1 y.1 w.1 in
    record {
      routine_fits = ltb-true f p.routines (both (ltb f p.routines) (nodes_fit n) c).0;
      nodes-fit = (both (ltb f p.routines) (nodes_fit n) c).1;
      edges_fit = e.all_fit;
      edges_own = e.all_own;
      edges_ascend = e.ascend;
      edges_limited = ltb-false max_edges (length (others f p.edges) + length (map edge_in ls)) t;
      sized = not-false _ g;
    }

-- whatever is read is an exchange that fits
pub exchange_applies : (p : Program) (s : List ℕ) (c : Change) → wanted_exchange p s ≡ Read c → ChangeApplies c p
unfolding wanted_exchange exchange_from
exchange_applies p s c h =
    let ls = text_lines s in
    let w = not_refused (bad_text ls) (out_of_range p ls) (disordered ls) (too_many p (exchange_in ls)) (too_large p (exchange_in ls)) (exchange_in ls) c h in
    subst (λ (d : Change). ChangeApplies d p) w.5 (lines_fit p (lines s) w.0 w.1 w.2 w.3 w.4)

pub wanted_fits : (p : Program) (s : List ℕ) (x : Exchange) → wanted_exchange p s ≡ Read (whole x) → Fits x p
wanted_fits p s x h = exchange_applies p s (whole x) h
