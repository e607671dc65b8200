-- What the automaton hears: the moves of calls and returns, by the transitions that it lists.
use mathlib.Core.Path.{◌≡◌, refl, sym}
use mathlib.Core.Logic.{◌≢◌}
use mathlib.Core.Bool.{true, false, ◌&&◌}
use mathlib.Core.List.{List, [], ◌∷◌, Memᴰ}
use Prim.Native.Nat.{ℕ}
use native.Mathlib.Omega.{arith}
use lib.Dec.{eqb}
use borrow.Author.Tests.{eqb-true, eq-eqb, ne_eqb}
use Rattle.base.proofs.Bools.{both, either, or_right}
use Rattle.automaton.specs.Automaton.{Transition, Automaton, goes, listed, heard, stays, moves_by}

-- ---- a transition is listed just where it is in the list

goes_is : (q l s : ℕ) (t : Transition) → goes q l s t ≡ true → record { before = q; label = l; after = s } ≡ t
goes_is q l s t e =
    let c = both (eqb t.before q && eqb t.label l) (eqb t.after s) e in
    let d = both (eqb t.before q) (eqb t.label l) c.0 in
    let x = eqb-true t.before q d.0 in
    let y = eqb-true t.label l d.1 in
    let z = eqb-true t.after s c.1 in
    λ i. record { before = sym x i; label = sym y i; after = sym z i }

pub listed_in : (q l s : ℕ) (ts : List Transition) → listed q l s ts ≡ true → Memᴰ (record { before = q; label = l; after = s }) ts
unfolding listed
listed_in q l s [] e = absurd (let z : ◌≡◌ {A = ℕ} 0 1 = cc in omega arith)
listed_in q l s (t ∷ ts) e =
    either (goes q l s t) (listed q l s ts) e (λ h. Memᴰ.head (goes_is q l s t h)) (λ h. Memᴰ.tail (listed_in q l s ts h))

pub in_listed : (t : Transition) (ts : List Transition) → Memᴰ t ts → listed t.before t.label t.after ts ≡ true
unfolding listed
in_listed t [] x = elim x [ ]
in_listed t (u ∷ ts) (Memᴰ.head e) =
    rw (← e, eq-eqb t.before t.before refl, eq-eqb t.label t.label refl, eq-eqb t.after t.after refl)
in_listed t (u ∷ ts) (Memᴰ.tail m) = or_right (goes t.before t.label t.after u) _ (in_listed t ts m)

-- ---- a label is heard just where a transition has it

pub has_label : (t : Transition) (ts : List Transition) → Memᴰ t ts → heard t.label ts ≡ true
unfolding heard
has_label t [] x = elim x [ ]
has_label t (u ∷ ts) (Memᴰ.head e) = rw (← e, eq-eqb t.label t.label refl)
has_label t (u ∷ ts) (Memᴰ.tail m) = or_right (eqb u.label t.label) _ (has_label t ts m)

pub no_label : (l : ℕ) (ts : List Transition) → ((t : Transition) → Memᴰ t ts → t.label ≢ l) → heard l ts ≡ false
unfolding heard
no_label l [] h = refl
no_label l (t ∷ ts) h = rw (ne_eqb t.label l (h t (Memᴰ.head refl)), no_label l ts (λ u m. h u (Memᴰ.tail m)))

-- ---- the moves of a call or a return

module _ (r : Automaton) (l : ℕ) where
  -- without a transition of its label the state stays
  pub unheard_stays : ((t : Transition) → Memᴰ t r.transitions → t.label ≢ l) → (q s : ℕ) → moves_by r q l s ≡ stays r q s
  unheard_stays h q s = rw (no_label l r.transitions h)

  -- with one or more, the listed moves are made
  pub heard_listed : (t : Transition) → Memᴰ t r.transitions → t.label ≡ l → (q s : ℕ)
      → moves_by r q l s ≡ listed q l s r.transitions
  heard_listed t m e q s = rw (← e, has_label t r.transitions m)
