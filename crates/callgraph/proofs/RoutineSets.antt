-- Sets of routines as flags: who is a member, and the union of two.
use mathlib.Core.Path.{◌≡◌, refl, sym, ap, ◌∙◌}
use mathlib.Core.Logic.{◌⊎◌, inl, inr, ◌↔◌}
use mathlib.Core.Bool.{Bool, true, false, cond, not}
use mathlib.Core.List.{List}
use Prim.Native.Nat.{ℕ, ◌<◌}
use native.Mathlib.Omega.{arith}
use native.Mathlib.Decide.{ℕ_discrete}
use lib.Dec.{eqb}
use lib.ListN.{length, get_or}
use borrow.Author.Tests.{eqb-true, eqb-false, ne_eqb, not-true, not-false}
use Rattle.program.specs.Sizes.{max_routines}
use Rattle.base.proofs.SetFlags.{on_lt}
use Rattle.base.specs.Filled.{Filled}
use Rattle.callgraph.specs.Components.{member_of, Member}
use Rattle.callgraph.specs.Parts.{joined_flag, Joined}

pub member_true : (members : List ℕ) (f : ℕ) → Member members f → member_of members f ≡ true
member_true members f h = ap not (ne_eqb (get_or members f 0) 0 h)

pub true_member : (members : List ℕ) (f : ℕ) → member_of members f ≡ true → Member members f
true_member members f h = eqb-false (get_or members f 0) 0 (not-true (eqb (get_or members f 0) 0) h)

pub false_member : (members : List ℕ) (f : ℕ) → member_of members f ≡ false → ¬ (Member members f)
false_member members f h m = m (eqb-true (get_or members f 0) 0 (not-false (eqb (get_or members f 0) 0) h))

pub member_dec : (members : List ℕ) (f : ℕ) → Dec (Member members f)
member_dec members f = elim (ℕ_discrete (get_or members f 0) 0) [ yes e ↦ no (λ m. m e) | no e ↦ yes e ]

-- a member is below the length
pub member_small : (members : List ℕ) (f : ℕ) → length members ≡ max_routines → Member members f → f < max_routines
member_small members f e m = let z = on_lt members f (record { on = m }) in omega arith

pub joined_member : (a b : List ℕ) {c : List ℕ} → Filled (joined_flag a b) max_routines c → (f : ℕ) → f < max_routines → Member c f ↔ (Member a f ⊎ Member b f)
joined_member a b {c} w f h = go (eqb (get_or b f 0) 0) refl (w.byte f h)
  where
    go : (t : Bool) → eqb (get_or b f 0) 0 ≡ t → get_or c f 0 ≡ cond t (get_or a f 0) 1 → Member c f ↔ (Member a f ⊎ Member b f)
    go true t e = (λ m. inl (rw e at m), λ m. elim m [ inl x ↦ rw e x | inr x ↦ absurd (x (eqb-true (get_or b f 0) 0 t)) ])
    go false t e = (λ m. inr (eqb-false (get_or b f 0) 0 t), λ m z. omega arith)

pub joined_members : {a b c : List ℕ} → length a ≡ max_routines → Filled (joined_flag a b) max_routines c → Joined a b c
joined_members {a} {b} len w = record { len = w.len ∙ sym len; joined = joined_member a b w }
