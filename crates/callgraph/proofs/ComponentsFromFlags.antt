-- What the flags of a call graph tell of components and of their order.
use Prim.Native.Nat.{ℕ, zero, suc, ◌+◌, ◌≤◌, ◌<◌}
use mathlib.Core.Path.{◌≡◌, refl, sym, ap, subst}
use mathlib.Core.Logic.{◌⊎◌, inl, inr, ◌↔◌, ◌≢◌}
use mathlib.Core.Bool.{Bool, true, false, cond, ◌&&◌, ◌||◌, not}
use mathlib.Core.List.{List}
use native.Mathlib.Omega.{arith}
use native.Mathlib.Numerals.{add-one}
use native.Mathlib.Decide.{ℕ_discrete}
use lib.Dec.{eqb}
use lib.ListN.{get_or}
use borrow.Author.Tests.{eqb-true, eqb-false, eq-eqb, ne_eqb, not-true}
use Rattle.base.specs.Flags.{is_set}
use Rattle.program.specs.Sizes.{max_routines}
use Rattle.program.specs.Program.{Program}
use Rattle.program.specs.WellFormed.{WellFormed}
use Rattle.base.proofs.Bools.{both}
use Rattle.base.proofs.SetFlags.{dec_on}
use Rattle.reach.proofs.WithinMost.{sizes}
use Rattle.base.specs.Filled.{Filled}
use Rattle.callgraph.specs.Components.{CallEdge, Leads, directly, through, Together}
use Rattle.callgraph.specs.Parts.{lead_place, LeadFlags, together_flag, rank_flag, rank_below, rank_of}

-- ---- leads and components

pub leads_trans : {p : Program} {f g h : ℕ} → Leads p f g → Leads p g h → Leads p f h
leads_trans (directly e) y = through e y
leads_trans (through e x) y = through e (leads_trans x y)

pub together_sym : {p : Program} {f g : ℕ} → Together p f g → Together p g f
together_sym (inl e) = inl (sym e)
together_sym (inr x) = inr (x.1, x.0)

pub together_trans : {p : Program} {f g h : ℕ} → Together p f g → Together p g h → Together p f h
together_trans {p} {f} {g} {h} (inl e) y = subst (λ (x : ℕ). Together p x h) (sym e) y
together_trans {p} {f} {g} {h} (inr x) (inl e) = subst (λ (y : ℕ). Together p f y) e (inr x)
together_trans (inr x) (inr y) = inr (leads_trans x.0 y.0, leads_trans y.1 x.1)

-- the routines of a call edge are in range
pub caller_small : (p : Program) → WellFormed p → {f g : ℕ} → CallEdge p f g → f < max_routines
caller_small p w e = (sizes p w).routine e.edge

pub called_small : (p : Program) → WellFormed p → {f g : ℕ} → CallEdge p f g → g < max_routines
called_small p w e = (sizes p w).called e.edge

-- ---- the flags of a call graph

module _ {p : Program} {leads : List ℕ} (l : LeadFlags (Leads p) leads) {f g : ℕ} (hf : f < max_routines) (hg : g < max_routines) where
  pub dec_leads : Dec (Leads p f g)
  dec_leads =
      elim (dec_on leads (lead_place f g)) [
        | yes o ↦ yes ((l.flagged f g hf hg).0 o.on)
        | no o ↦ no (λ x. o (record { on = (l.flagged f g hf hg).1 x }))
      ]

  lead_set : Leads p f g → is_set leads (lead_place f g) ≡ true
  lead_set x = ap not (ne_eqb (get_or leads (lead_place f g) 0) 0 ((l.flagged f g hf hg).1 x))

  set_lead : is_set leads (lead_place f g) ≡ true → Leads p f g
  set_lead e = (l.flagged f g hf hg).0 (eqb-false (get_or leads (lead_place f g) 0) 0 (not-true (eqb (get_or leads (lead_place f g) 0) 0) e))

pub dec_together : {p : Program} {leads : List ℕ} → LeadFlags (Leads p) leads → {f g : ℕ} → f < max_routines → g < max_routines → Dec (Together p f g)
dec_together l {f} {g} hf hg =
    elim (ℕ_discrete f g) [
      | yes e ↦ yes (inl e)
      | no e ↦
          elim (dec_leads l hf hg) [
            | yes a ↦ elim (dec_leads l hg hf) [ yes b ↦ yes (inr (a, b)) | no b ↦ no (λ t. elim t [ inl x ↦ e x | inr x ↦ b x.1 ]) ]
            | no a ↦ no (λ t. elim t [ inl x ↦ e x | inr x ↦ a x.0 ])
          ]
    ]

or_left : (a b : Bool) → a ≡ true → a || b ≡ true
or_left a b e = rw e

or_right : (a b : Bool) → b ≡ true → a || b ≡ true
or_right true b e = refl
or_right false b e = e

or_cases : (a b : Bool) → a || b ≡ true → (a ≡ true) ⊎ (b ≡ true)
or_cases true b e = inl refl
or_cases false b e = inr e

-- a byte that is 1 where a test is passed, else 0
one_where : (b : Bool) {v : ℕ} → v ≡ cond b 1 0 → (v ≢ 0) ↔ (b ≡ true)
one_where true e = (λ n. refl, λ t z. omega arith)
one_where false e = (λ n. absurd (n e), λ t z. let u : ◌≡◌ {A = ℕ} 0 1 = cc in omega arith)

component_flag : {p : Program} {leads : List ℕ} → LeadFlags (Leads p) leads → {f g v : ℕ} → f < max_routines → g < max_routines
    → v ≡ together_flag leads f g → (v ≢ 0) ↔ Together p f g
component_flag {p} {leads} l {f} {g} {v} hf hg e =
    let a = is_set leads (lead_place f g) in
    let b = is_set leads (lead_place g f) in
    let x = one_where (eqb f g || (a && b)) e in (
      λ n. elim (or_cases (eqb f g) (a && b) (x.0 n)) [
        | inl y ↦ inl (eqb-true f g y)
        | inr y ↦ let z = both a b y in inr (set_lead l hf hg z.0, set_lead l hg hf z.1)
      ],
      λ t. x.1 (elim t [
        | inl y ↦ or_left (eqb f g) (a && b) (eq-eqb f g y)
        | inr y ↦ or_right (eqb f g) (a && b) (rw (lead_set l hf hg y.0, lead_set l hg hf y.1))
      ]),
    )

-- the flags of a component are set for exactly its routines
pub component_members : {p : Program} {leads : List ℕ} → LeadFlags (Leads p) leads → {f : ℕ} → f < max_routines → {flags : List ℕ}
    → Filled (together_flag leads f) max_routines flags → (g : ℕ) → g < max_routines → (get_or flags g 0 ≢ 0) ↔ Together p f g
component_members l hf w g hg = component_flag l hf hg (w.byte g hg)

-- ---- ranks

-- what is counted for f
abbrev Counted : Program → ℕ → ℕ → Type 0
Counted p f x = (x ≡ f) ⊎ Leads p f x

pub bit_small : (b : Bool) → cond b 1 0 ≤ 1
bit_small true = omega arith
bit_small false = omega arith

pub rank_none : (leads : List ℕ) (f : ℕ) → 0 ≡ rank_below leads f 0
unfolding rank_below
rank_none leads f = refl

pub rank_next : (leads : List ℕ) (f g : ℕ) {n v : ℕ} → n ≡ rank_below leads f g → v ≡ rank_flag leads f g → n + v ≡ rank_below leads f (g + 1)
unfolding rank_below
rank_next leads f g a b = rw (add-one g) (omega (arith, a, b))

below_most : (leads : List ℕ) (f n : ℕ) → rank_below leads f n ≤ n
unfolding rank_below
below_most leads f zero = omega arith
below_most leads f (suc n) = omega (arith, below_most leads f n, bit_small (eqb n f || is_set leads (lead_place f n)))

below_one : (leads : List ℕ) (f n x : ℕ) → x < n → rank_flag leads f x ≡ 1 → 1 ≤ rank_below leads f n
unfolding rank_below
below_one leads f zero x h e = absurd (omega arith)
below_one leads f (suc n) x h e =
    elim (ℕ_discrete x n) [
      | yes z ↦ let u = subst (λ (y : ℕ). rank_flag leads f y ≡ 1) z e in omega (arith, u)
      | no z ↦ omega (arith, below_one leads f n x (omega arith) e)
    ]

module _ (leads : List ℕ) (f g : ℕ) where
  below_mono : (n : ℕ) → ((x : ℕ) → x < n → rank_flag leads g x ≤ rank_flag leads f x) → rank_below leads g n ≤ rank_below leads f n
  unfolding rank_below
  below_mono zero h = omega arith
  below_mono (suc n) h = omega (arith, h n (omega arith), below_mono n (λ x k. h x (omega arith)))

  below_more : (n x : ℕ) → ((x : ℕ) → x < n → rank_flag leads g x ≤ rank_flag leads f x) → x < n → rank_flag leads g x < rank_flag leads f x
      → rank_below leads g n < rank_below leads f n
  unfolding rank_below
  below_more zero x h k e = absurd (omega arith)
  below_more (suc n) x h k e =
      elim (ℕ_discrete x n) [
        | yes z ↦
            let u = subst (λ (y : ℕ). rank_flag leads g y < rank_flag leads f y) z e in
            omega (arith, u, below_mono n (λ x k. h x (omega arith)))
        | no z ↦ omega (arith, h n (omega arith), below_more n x (λ x k. h x (omega arith)) (omega arith) e)
      ]

module _ {p : Program} {leads : List ℕ} (l : LeadFlags (Leads p) leads) where
  counted_one : {f x : ℕ} → f < max_routines → x < max_routines → Counted p f x → rank_flag leads f x ≡ 1
  counted_one {f} {x} hf hx t =
      let b = is_set leads (lead_place f x) in
      let e : eqb x f || b ≡ true = elim t [
        | inl y ↦ or_left (eqb x f) b (eq-eqb x f y)
        | inr y ↦ or_right (eqb x f) b (lead_set l hf hx y)
      ] in
      rw e

  counted_or : {f x : ℕ} → f < max_routines → x < max_routines → Counted p f x ⊎ (rank_flag leads f x ≡ 0)
  counted_or {f} {x} hf hx = go (eqb x f || is_set leads (lead_place f x)) refl
    where
      go : (b : Bool) → eqb x f || is_set leads (lead_place f x) ≡ b → Counted p f x ⊎ (◌≡◌ {A = ℕ} (cond b 1 0) 0)
      go true e = inl (elim (or_cases (eqb x f) (is_set leads (lead_place f x)) e) [ inl y ↦ inl (eqb-true x f y) | inr y ↦ inr (set_lead l hf hx y) ])
      go false e = inr refl

  -- what a called routine counts, its caller counts
  leads_over : {f g : ℕ} → f < max_routines → g < max_routines → Leads p f g → (x : ℕ) → x < max_routines → rank_flag leads g x ≤ rank_flag leads f x
  leads_over {f} {g} hf hg d x hx =
      elim (counted_or hg hx) [
        | inl t ↦
            let over : Counted p f x = elim t [ inl y ↦ inr (subst (λ (z : ℕ). Leads p f z) (sym y) d) | inr y ↦ inr (leads_trans d y) ] in
            omega (arith, counted_one hg hx t, counted_one hf hx over)
        | inr e ↦ omega (arith, e)
      ]

  module _ {f : ℕ} (hf : f < max_routines) where
    pub rank_positive : 1 ≤ rank_of leads f
    rank_positive = below_one leads f max_routines f hf (counted_one hf hf (inl refl))

    pub rank_limited : rank_of leads f ≤ max_routines
    rank_limited = below_most leads f max_routines

  module _ {f g : ℕ} (hf : f < max_routines) (hg : g < max_routines) where
    pub rank_same : Together p f g → rank_of leads f ≡ rank_of leads g
    rank_same (inl e) = ap (rank_of leads) e
    rank_same (inr t) =
        omega (arith, below_mono leads f g max_routines (leads_over hf hg t.0), below_mono leads g f max_routines (leads_over hg hf t.1))

    pub rank_less : CallEdge p f g → ¬ (Together p f g) → rank_of leads g < rank_of leads f
    rank_less d n =
        below_more leads f g max_routines f (leads_over hf hg (directly d)) hf
        (elim (counted_or hg hf) [
          | inl t ↦ absurd (n (elim t [ inl y ↦ inl y | inr y ↦ inr (directly d, y) ]))
          | inr e ↦ omega (arith, e, counted_one hf hf (inl refl))
        ])
