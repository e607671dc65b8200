-- The lines of an exchange's text one by one: what is found in them is what the definition asks of them all.
use Prim.Native.Nat.{ℕ, ◌+◌, ◌≤◌, ◌<◌}
use mathlib.Core.Path.{◌≡◌, refl, sym, ◌∙◌}
use mathlib.Core.Bool.{Bool, true, false, cond, ◌||◌, or-true, or-false, or_assoc}
use mathlib.Core.List.{List, [], ◌∷◌, ◌++◌, map, append-nil, append_assoc}
use native.Mathlib.Omega.{arith}
use lib.Dec.{ltb, leb}
use lib.ListN.{length, length-append, length-map}
use borrow.Author.Tests.{ltb-false, ltb-true, leb-true, leb-false, lt-ltb, lt-leb, le-leb}
use Rattle.text.specs.declared.Line.{Line}
use Rattle.program.specs.Sizes.{max_edges}
use Rattle.program.specs.Program.{Program}
use Rattle.program.specs.Frames.{num}
use Rattle.program.specs.Reading.{edge_in}
use Rattle.program.specs.Checks.{row, first_met}
use Rattle.base.proofs.Bools.{never}
use Rattle.exchange.specs.Changes.{Exchange, Refused}
use Rattle.exchange.specs.Changing.{others}
use Rattle.exchange_text.specs.ExchangeText.{any, bad_frame, bad_text, bounded_by, outside, out_of_range, frame_key, any_astray, disordered, exchange_in, too_many, too_large, exchange_unless, exchange_from}
use Rattle.exchange_text.specs.Parts.{Found, begun, found_after, too_many_in, decided_by, concluded, rest_from}

-- what is known after these lines
unfoldable scanned : Program → ℕ → Found → List Line → Found
scanned b f s [] = s
scanned b f s (l ∷ ls) = scanned b f (found_after b f s l) ls

module _ (b : Program) (f : ℕ) where
  outside_found : (s : Found) (ls : List Line) → (scanned b f s ls).outside ≡ s.outside || any (outside b) ls
  unfolding scanned any
  outside_found s [] = sym (or-false s.outside)
  outside_found s (l ∷ ls) = outside_found (found_after b f s l) ls ∙ or_assoc s.outside (outside b l) (any (outside b) ls)

  astray_found : (s : Found) (ls : List Line) → (scanned b f s ls).astray ≡ s.astray || any_astray f s.last ls
  unfolding scanned any_astray
  astray_found s [] = sym (or-false s.astray)
  astray_found s (l ∷ ls) = astray_found (found_after b f s l) ls ∙ or_assoc s.astray _ (any_astray f (frame_key l) ls)

  -- while there is room
  edges_found : (s : Found) (ls : List Line) → length s.edges + length ls ≤ max_edges
      → ((scanned b f s ls).crowded ≡ s.crowded) × ((scanned b f s ls).edges ≡ s.edges ++ map edge_in ls)
  unfolding scanned
  edges_found s [] h = (refl, sym (append-nil s.edges))
  edges_found s (l ∷ ls) h =
      let t = lt-ltb (length s.edges) max_edges (omega arith) in
      let u = lt-leb max_edges (length s.edges) (omega arith) in
      let e : (found_after b f s l).edges ≡ s.edges ++ edge_in l ∷ [] = rw t in
      let n : length (found_after b f s l).edges + length ls ≤ max_edges = rw (e, length-append s.edges (edge_in l ∷ [])) (omega arith) in
      let r = edges_found (found_after b f s l) ls n in
      (r.0 ∙ rw (u, or-false s.crowded), r.1 ∙ rw e (append_assoc s.edges (edge_in l ∷ []) (map edge_in ls)))

  stays_crowded : (s : Found) (ls : List Line) → s.crowded ≡ true → (scanned b f s ls).crowded ≡ true
  unfolding scanned
  stays_crowded s [] h = h
  stays_crowded s (l ∷ ls) h = stays_crowded (found_after b f s l) ls (rw h)

  -- more lines than there is room for
  crowded_found : (s : Found) (ls : List Line) → length s.edges ≤ max_edges → max_edges < length s.edges + length ls
      → (scanned b f s ls).crowded ≡ true
  unfolding scanned
  crowded_found s [] k h = absurd (omega arith)
  crowded_found s (l ∷ ls) k h = go (ltb (length s.edges) max_edges) refl (crowded_found (found_after b f s l) ls)
    where
      go : (t : Bool) → ltb (length s.edges) max_edges ≡ t
          → (length (found_after b f s l).edges ≤ max_edges → max_edges < length (found_after b f s l).edges + length ls → (scanned b f (found_after b f s l) ls).crowded ≡ true)
          → (scanned b f (found_after b f s l) ls).crowded ≡ true
      go true t r =
          let e : (found_after b f s l).edges ≡ s.edges ++ edge_in l ∷ [] = rw t in
          let n : length (found_after b f s l).edges ≡ length s.edges + 1 = rw (e, length-append s.edges (edge_in l ∷ [])) in
          let i : length s.edges < max_edges = ltb-true _ _ t in
          r (rw n (omega arith)) (rw n (omega arith))
      go false t r = stays_crowded (found_after b f s l) ls (rw (le-leb max_edges (length s.edges) (ltb-false _ _ t)) (or-true s.crowded))

-- ---- the whole text

-- what the exchange would be does not matter where 16 is met
decided_same : (a b : Bool) {c d : Bool} (g : Bool) {x y : Exchange} → c ≡ d → (d ≡ false → x ≡ y) → decided_by a b c g x ≡ decided_by a b d g y
unfolding first_met
decided_same a b {c} {d} g {x} {y} e h = rw e (go a b d h)
  where
    go : (a b d : Bool) → (d ≡ false → x ≡ y) → decided_by a b d g x ≡ decided_by a b d g y
    go true b d h = refl
    go false true d h = refl
    go false false true h = refl
    go false false false h = rw (h refl)

-- 12, and then the others
after_bad : (t a b c g : Bool) (x : Exchange)
    → cond t (Refused 12) (decided_by a b c g x) ≡ exchange_unless (first_met (row 12 t ∷ row 13 a ∷ row 21 b ∷ row 16 c ∷ row 23 g ∷ [])) x
unfolding first_met
after_bad true a b c g x = refl
after_bad false a b c g x = refl

module _ (p b : Program) (first : Line) (same : (l : Line) → outside b l ≡ outside (bounded_by (first ∷ []) p) l) where
  abbrev f : ℕ
  f = num first 1

  any_outside : (ls : List Line) → any (outside b) ls ≡ any (outside (bounded_by (first ∷ []) p)) ls
  unfolding any
  any_outside [] = refl
  any_outside (l ∷ ls) = rw (same l, any_outside ls)

  -- a bad line decides; where there is none, what is found does
  rest_scanned : (s : Found) (ls : List Line) → rest_from b p first s ls ≡ cond (any bad_frame ls) (Refused 12) (concluded p first (scanned b f s ls))
  unfolding rest_from any scanned
  rest_scanned s [] = refl
  rest_scanned s (l ∷ ls) = go (bad_frame l) (rest_scanned (found_after b f s l) ls)
    where
      go : (t : Bool) → rest_from b p first (found_after b f s l) ls ≡ cond (any bad_frame ls) (Refused 12) (concluded p first (scanned b f (found_after b f s l) ls))
          → cond t (Refused 12) (rest_from b p first (found_after b f s l) ls)
          ≡ cond (t || any bad_frame ls) (Refused 12) (concluded p first (scanned b f (found_after b f s l) ls))
      go true e = refl
      go false e = e

  -- 16 is met by what is found where it is met by all lines, and the edges are theirs where it is not
  edges_scanned : (ls : List Line)
      → (too_many_in p f (scanned b f (begun b first) ls) ≡ ltb max_edges (length (others f p.edges) + length (map edge_in ls)))
      × (ltb max_edges (length (others f p.edges) + length (map edge_in ls)) ≡ false → (scanned b f (begun b first) ls).edges ≡ map edge_in ls)
  edges_scanned ls = go (leb (length ls) max_edges) refl
    where
      go : (t : Bool) → leb (length ls) max_edges ≡ t
          → (too_many_in p f (scanned b f (begun b first) ls) ≡ ltb max_edges (length (others f p.edges) + length (map edge_in ls)))
          × (ltb max_edges (length (others f p.edges) + length (map edge_in ls)) ≡ false → (scanned b f (begun b first) ls).edges ≡ map edge_in ls)
      go true t = let r = edges_found b f (begun b first) ls (omega (arith, leb-true (length ls) max_edges t)) in (rw (r.0, r.1), λ h. r.1)
      go false t =
          let n : max_edges < length ls = leb-false (length ls) max_edges t in
          let many = lt-ltb max_edges (length (others f p.edges) + length (map edge_in ls)) (omega (arith, length-map ls edge_in)) in
          (rw (crowded_found b f (begun b first) ls (omega arith) (omega arith), many), λ h. never many h)

  concluded_all : (ls : List Line)
      → concluded p first (scanned b f (begun b first) ls)
      ≡ decided_by (out_of_range p (first ∷ ls)) (disordered (first ∷ ls)) (too_many p (exchange_in (first ∷ ls))) (too_large p (exchange_in (first ∷ ls))) (exchange_in (first ∷ ls))
  unfolding any
  concluded_all ls =
      let e = edges_scanned ls in
      let o : (scanned b f (begun b first) ls).outside ≡ out_of_range p (first ∷ ls) = outside_found b f (begun b first) ls ∙ rw (same first, any_outside ls) in
      rw (o, astray_found b f (begun b first) ls)
      (decided_same (out_of_range p (first ∷ ls)) (disordered (first ∷ ls)) (too_large p (exchange_in (first ∷ ls))) e.0 (λ h. rw (e.1 h)))

  -- a first line that is not bad, and then the others: they decide as the definition says
  pub rest_all : (ls : List Line) → bad_frame first ≡ false → rest_from b p first (begun b first) ls ≡ exchange_from p (first ∷ ls)
  unfolding exchange_from any
  rest_all ls h =
      rest_scanned (begun b first) ls
      ∙ rw (h, concluded_all ls) (after_bad (any bad_frame ls) (out_of_range p (first ∷ ls)) (disordered (first ∷ ls)) (too_many p (exchange_in (first ∷ ls))) (too_large p (exchange_in (first ∷ ls))) (exchange_in (first ∷ ls)))

-- a bad line goes before all else
pub bad_first : (p : Program) (ls : List Line) → bad_text ls ≡ true → exchange_from p ls ≡ Refused 12
unfolding exchange_from first_met
bad_first p ls h = rw h
