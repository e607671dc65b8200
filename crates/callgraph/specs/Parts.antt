-- What the functions over the call graph and over sets of routines promise of each other; nothing here has to be
-- believed.
use Rattle.std.specs.Prelude.{ℕ, zero, suc, ◌+◌, ◌*◌, ◌<◌, ◌≡◌, ◌⊎◌, ◌↔◌, ◌≢◌, Bool, true, cond, ◌&&◌, ◌||◌, List, eqb, length, get_or, set}
use Rattle.base.specs.Flags.{is_set}
use Rattle.program.specs.Sizes.{max_routines}
use Rattle.program.specs.Program.{Edge, is_call, called_by}
use Rattle.program.specs.Decoded.{edge_of}
use Rattle.callgraph.specs.Components.{Member}

-- ---- flags

-- a flag for each x below the width of each row, at its place: it is set exactly where the relation holds
pub record Flagged (place : ℕ → ℕ → ℕ) (rows width : ℕ) (R : ℕ → ℕ → Type 0) (flags : List ℕ) : Type 0 where
  pub len : length flags ≡ rows * width
  pub flagged : (f x : ℕ) → f < rows → x < width → (get_or flags (place f x) 0 ≢ 0) ↔ R f x

-- a step for each number, k of them from x on
unfoldable pub in_turn : (ℕ → List ℕ → List ℕ) → ℕ → ℕ → List ℕ → List ℕ
in_turn f zero x l = l
in_turn f (suc k) x l = in_turn f k (suc x) (f x l)

-- where a test is passed and one flag is set, the other is set too
unfoldable pub copy_when : Bool → ℕ → ℕ → List ℕ → List ℕ
copy_when t from to l = cond (t && is_set l from) (set l to 1) l

-- ---- the call graph

-- a flag for each routine and each that it may lead to
abbrev pub leads_size : ℕ
leads_size = max_routines * max_routines

-- the place of the flag that f leads to g
abbrev pub lead_place : ℕ → ℕ → ℕ
lead_place f g = f * max_routines + g

-- the flags of a relation of routines
abbrev pub LeadFlags : (ℕ → ℕ → Type 0) → List ℕ → Type 0
LeadFlags R flags = Flagged lead_place max_routines max_routines R flags

-- what the called routine leads to, its caller leads to
abbrev pub copy_lead : ℕ → ℕ → ℕ → List ℕ → List ℕ
copy_lead f g h l = copy_when true (lead_place g h) (lead_place f h) l

-- what a call of g by f adds to the call graph
abbrev pub leads_by_call : ℕ → ℕ → List ℕ → List ℕ
leads_by_call f g l = in_turn (copy_lead f g) max_routines 0 (set l (lead_place f g) 1)

-- what an edge adds to it
unfoldable pub leads_by_edge : Edge → List ℕ → List ℕ
leads_by_edge e l = cond (is_call e.label) (leads_by_call e.routine (called_by e.label) l) l

abbrev pub leads_by_edges : List ℕ → ℕ → List ℕ → List ℕ
leads_by_edges keys count l = in_turn (λ i. leads_by_edge (edge_of (get_or keys i 0))) count 0 l

-- a flag for a routine of the component of f
abbrev pub together_flag : List ℕ → ℕ → ℕ → ℕ
together_flag leads f g = cond (eqb f g || (is_set leads (lead_place f g) && is_set leads (lead_place g f))) 1 0

-- 1 for f itself and for each routine that it leads to
abbrev pub rank_flag : List ℕ → ℕ → ℕ → ℕ
rank_flag leads f g = cond (eqb g f || is_set leads (lead_place f g)) 1 0

-- how many of the first n routines f leads to, itself among them
unfoldable pub rank_below : List ℕ → ℕ → ℕ → ℕ
rank_below leads f zero = 0
rank_below leads f (suc n) = rank_flag leads f n + rank_below leads f n

-- how many routines f leads to, itself among them
abbrev pub rank_of : List ℕ → ℕ → ℕ
rank_of leads f = rank_below leads f max_routines

-- ---- sets of routines

-- the flag of a routine in the union of two sets
abbrev pub joined_flag : List ℕ → List ℕ → ℕ → ℕ
joined_flag a b f = cond (eqb (get_or b f 0) 0) (get_or a f 0) 1

-- one set of routines is the union of two
pub record Joined (a b c : List ℕ) : Type 0 where
  pub len : length c ≡ length a
  pub joined : (f : ℕ) → f < max_routines → Member c f ↔ (Member a f ⊎ Member b f)
