-- The call graph's flags are exactly what leads where.
use Prim.Native.Nat.{ℕ, ◌/◌, ◌%◌, ◌<◌}
use mathlib.Core.Path.{◌≡◌, refl, ap, subst, ◌∙◌}
use mathlib.Core.Logic.{◌⊎◌, inl, inr}
use mathlib.Core.Bool.{Bool, true, false}
use mathlib.Core.List.{List}
use native.Mathlib.Omega.{arith}
use lib.ListN.{set}
use Rattle.program.specs.Sizes.{max_routines}
use Rattle.program.specs.Program.{Edge, Program, is_call, called_by}
use Rattle.base.specs.Flags.{On}
use Rattle.reach.proofs.WithinMost.{sizes}
use Rattle.callgraph.specs.Components.{CallEdge, Leads, directly, through}
use Rattle.callgraph.specs.Parts.{in_turn, leads_size, lead_place, LeadFlags, copy_lead, leads_by_call, leads_by_edge, leads_by_edges}
use Rattle.callgraph.proofs.FlagsClosed.{Obeys, Copy, One, obeys_set, obeys_copy, obeys_then, obeys_when, obeys_turns, Growing}
use Rattle.callgraph.proofs.CallsByKey.{edge_at, KeysOf, key_step, step_key}

-- ---- what the code does for an edge

module _ {e k : Edge} (same : e ≡ k) (l : List ℕ) where
  pub call_leads : {g at : ℕ} {m n : List ℕ} → is_call e.label ≡ true → g ≡ called_by e.label → at ≡ lead_place e.routine g → m ≡ set l at 1
      → n ≡ in_turn (copy_lead e.routine g) max_routines 0 m → n ≡ leads_by_edge k l
  unfolding leads_by_edge
  call_leads t called place first row =
      let whole : leads_by_call e.routine (called_by e.label) l ≡ leads_by_edge e l = rw t in
      row ∙ rw (first, place, called) whole ∙ ap (λ (x : Edge). leads_by_edge x l) same

  pub no_call_leads : is_call e.label ≡ false → l ≡ leads_by_edge k l
  unfolding leads_by_edge
  no_call_leads t =
      let none : l ≡ leads_by_edge e l = rw t in
      none ∙ ap (λ (x : Edge). leads_by_edge x l) same

-- ---- the flags

-- the lead of a flag's place
abbrev pub LeadAt : Program → ℕ → Type 0
LeadAt p i = Leads p (i / max_routines) (i % max_routines)

to_place : (p : Program) {f g : ℕ} → g < max_routines → Leads p f g → LeadAt p (lead_place f g)
to_place p {f} {g} h x =
    let a : lead_place f g / max_routines ≡ f = omega arith in
    let b : lead_place f g % max_routines ≡ g = omega arith in
    rw (a, b) x

from_place : (p : Program) {f g : ℕ} → g < max_routines → LeadAt p (lead_place f g) → Leads p f g
from_place p {f} {g} h x =
    let a : lead_place f g / max_routines ≡ f = omega arith in
    let b : lead_place f g % max_routines ≡ g = omega arith in
    rw (a, b) at x

-- the rule of a call: it leads where it calls, and where that leads
abbrev pub CallRule : ℕ → ℕ → List ℕ → ℕ → Type 0
CallRule f g l j = (j ≡ lead_place f g) ⊎ One (λ h. Copy true (lead_place g h) (lead_place f h)) max_routines 0 l j

-- the rule of an edge
abbrev pub LeadsRule : Edge → List ℕ → ℕ → Type 0
LeadsRule e l j = (is_call e.label ≡ true) × CallRule e.routine (called_by e.label) l j

abbrev pub LeadsRules : List ℕ → ℕ → List ℕ → ℕ → Type 0
LeadsRules keys count = One (λ i. LeadsRule (edge_at keys i)) count 0

module _ {p : Program} {keys : List ℕ} {count : ℕ} (o : KeysOf p keys count) where
  edge_obeys : (i : ℕ) → i < count → Obeys (LeadAt p) (LeadsRule (edge_at keys i)) (leads_by_edge (edge_at keys i))
  unfolding leads_by_edge
  edge_obeys i h =
      let f = (edge_at keys i).routine in
      let g = called_by (edge_at keys i).label in
      obeys_when {f = leads_by_call f g} (is_call (edge_at keys i).label) (λ t.
      let s = key_step o i h t in
      let small : g < max_routines = (sizes p o.well_formed).called s in
      let edge : CallEdge p f g = record { source = _; target = _; edge = s } in
      obeys_then
      (obeys_set (lead_place f g) (to_place p small (directly edge)))
      (obeys_turns max_routines 0 (λ x low high.
      obeys_copy true (lead_place g x) (lead_place f x) (λ y z.
      let k : x < max_routines = omega arith in
      to_place p k (through edge (from_place p k z))))))

  pub edges_obey : Obeys (LeadAt p) (LeadsRules keys count) (leads_by_edges keys count)
  edges_obey = obeys_turns count 0 (λ i low high. edge_obeys i (omega arith))

  pub graph_flagged : {l₀ l : List ℕ} {more : Bool} → more ≡ false → Growing leads_size (LeadAt p) (LeadsRules keys count) l₀ l more → LeadFlags (Leads p) l
  graph_flagged {l₀} {l} m g =
      record {
        len = g.size;
        flagged = λ f x hf hx. (λ n. from_place p hx (g.sound (lead_place f x) (record { on = n })), λ d. (set_for d).on);
      }
    where
      leads_small : {f x : ℕ} → Leads p f x → x < max_routines
      leads_small (directly d) = (sizes p o.well_formed).called d.edge
      leads_small (through d m) = leads_small m

      set_for : {f x : ℕ} → Leads p f x → On l (lead_place f x)
      set_for {f} {x} (directly d) =
          let k = step_key o d.edge in
          let a = k.caller in
          let b = k.called in
          let u = (sizes p o.well_formed).routine d.edge in
          let v = (sizes p o.well_formed).called d.edge in
          g.closed m (lead_place f x)
          (record { turn = k.place; low = omega arith; high = omega (arith, k.within); rule = (k.is-call, inl (omega arith)) }) (omega arith)
      set_for {f} {x} (through d t) =
          let k = step_key o d.edge in
          let a = k.caller in
          let b = k.called in
          let u = (sizes p o.well_formed).routine d.edge in
          let v = leads_small t in
          let y : On l (lead_place (called_by (edge_at keys k.place).label) x) = subst (λ (y : ℕ). On l (lead_place y x)) b (set_for t) in
          g.closed m (lead_place f x)
          (record {
            turn = k.place;
            low = omega arith;
            high = omega (arith, k.within);
            rule = (k.is-call, inr (record { turn = x; low = omega arith; high = omega arith; rule = record { passed = refl; given = y; is = omega arith } }));
          })
          (omega arith)
