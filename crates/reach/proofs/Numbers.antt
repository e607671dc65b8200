-- The laws of the numbers of configurations and of the places of summaries, for all sizes together.
use mathlib.Core.Path.{◌≡◌, sym, ap, ◌∙◌}
use Prim.Native.Nat.{ℕ, ◌+◌, ◌*◌, ◌/◌, ◌%◌, ◌<◌, ◌≤◌}
use native.Mathlib.Nat.{div-add-mod', div-lt_iff_lt-mul, mod-lt, add-mul, mul_assoc, mul-le-mul_right}
use native.Mathlib.Omega.{arith}
use lib.Arith.{digits_lt, digits_div, digits_mod}
use Rattle.automaton.specs.Sizes.{max_states}
use Rattle.program.specs.Sizes.{max_routines}
use Rattle.program.specs.declared.sizes.Sizes.{Sizes}
use Rattle.program.specs.Chosen.{numbers}
use Rattle.reach.specs.Sizes.{root_span, node_span, routine_span, roots_size, summaries}
use Rattle.reach.specs.Configurations.{Set, Usable, At, InRange, Earlier, by_routine, by_node, by_root, by_state, PartsOf, exit_at, root_place, entry_at, number, routine_of, node_of, root_of, state_of}
use Rattle.reach.specs.Worklist.{summary}

-- ---- laws of every record of sizes

module _ (Z : Sizes) where
  -- every number is that of a configuration
  pub number-of : (i : ℕ) → number Z (routine_of Z i) (node_of Z i) (root_of Z i) (state_of Z i) ≡ i
  unfolding number routine_of node_of root_of state_of
  number-of i = rw (div-add-mod' (i / Z.states / Z.states) Z.nodes, div-add-mod' (i / Z.states) Z.states) (div-add-mod' i Z.states)

module _ {Z : Sizes} {f n r q : ℕ} (h : InRange Z f n r q) where
  pub routine-of : routine_of Z (number Z f n r q) ≡ f
  unfolding number routine_of
  routine-of = rw (digits_div ((f * Z.nodes + n) * Z.states + r) h.state, digits_div (f * Z.nodes + n) h.root) (digits_div f h.node)

  pub node-of : node_of Z (number Z f n r q) ≡ n
  unfolding number node_of
  node-of = rw (digits_div ((f * Z.nodes + n) * Z.states + r) h.state, digits_div (f * Z.nodes + n) h.root) (digits_mod _ h.node)

  pub root-of : root_of Z (number Z f n r q) ≡ r
  unfolding number root_of
  root-of = rw (digits_div ((f * Z.nodes + n) * Z.states + r) h.state) (digits_mod _ h.root)

  pub state-of : state_of Z (number Z f n r q) ≡ q
  unfolding number state_of
  state-of = digits_mod _ h.state

  pub number_fits : number Z f n r q < numbers Z
  unfolding number numbers
  number_fits = digits_lt (digits_lt (digits_lt h.routine h.node) h.root) h.state

-- the parts that the code computes are the only ones
module _ {Z : Sizes} {i f n r q : ℕ} (c : PartsOf Z i f n r q) where
  pub parts_routine : f ≡ routine_of Z i
  parts_routine = sym (routine-of c.in_range) ∙ ap (routine_of Z) c.is

  pub parts_node : n ≡ node_of Z i
  parts_node = sym (node-of c.in_range) ∙ ap (node_of Z) c.is

  pub parts_root : r ≡ root_of Z i
  parts_root = sym (root-of c.in_range) ∙ ap (root_of Z) c.is

  pub parts_state : q ≡ state_of Z i
  parts_state = sym (state-of c.in_range) ∙ ap (state_of Z) c.is

-- ---- sets by number

pub to_number : {Z : Sizes} (S : Set) {f n r q : ℕ} → InRange Z f n r q → S f n r q → At Z S (number Z f n r q)
to_number S h x = rw (routine-of h, node-of h, root-of h, state-of h) x

pub from_number : {Z : Sizes} (S : Set) {f n r q : ℕ} → InRange Z f n r q → At Z S (number Z f n r q) → S f n r q
from_number S h x = rw (routine-of h, node-of h, root-of h, state-of h) at x

module _ (Z : Sizes) where
  -- ---- summaries

  pub summary_fits : (g q x : ℕ) → g < Z.routines → q < Z.states → x < Z.states → summary Z g q x < summaries Z
  unfolding summary summaries
  summary_fits g q x a b c = digits_lt (digits_lt a b) c

  pub summary_apart : (g q x f r y : ℕ) → q < Z.states → x < Z.states → r < Z.states → y < Z.states → summary Z g q x ≡ summary Z f r y → (g ≡ f) × (q ≡ r) × (x ≡ y)
  unfolding summary
  summary_apart g q x f r y a b c d e =
      let Q = Z.states in
      let h : g * Q + q ≡ f * Q + r = sym (digits_div (g * Q + q) b) ∙ ap (λ (k : ℕ). k / Q) e ∙ digits_div (f * Q + r) d in (
        sym (digits_div g a) ∙ ap (λ (k : ℕ). k / Q) h ∙ digits_div f c,
        sym (digits_mod g a) ∙ ap (λ (k : ℕ). k % Q) h ∙ digits_mod f c,
        sym (digits_mod (g * Q + q) b) ∙ ap (λ (k : ℕ). k % Q) e ∙ digits_mod (f * Q + r) d,
      )

  -- ---- neighbours: the states of one root, the roots of one node, the nodes of one routine

  pub number_state : (f n r x : ℕ) → number Z f n r 0 + x ≡ number Z f n r x
  unfolding number
  number_state f n r x = omega arith

  pub number_root : (f n x q : ℕ) → number Z f n 0 q + root_span Z * x ≡ number Z f n x q
  unfolding number
  number_root f n x q = omega (arith, add-mul ((f * Z.nodes + n) * Z.states) x Z.states)

  pub number_node : (f n : ℕ) → number Z f n 0 0 ≡ number Z f 0 0 0 + n * node_span Z
  unfolding number
  number_node f n =
      let Q = Z.states in
      omega (arith, add-mul (f * Z.nodes) n Q, add-mul (f * Z.nodes * Q) (n * Q) Q, mul_assoc n Q Q)

  pub first_number : (f : ℕ) → number Z f 0 0 0 ≡ f * routine_span Z
  unfolding number
  first_number f =
      let Q = Z.states in
      omega (arith, mul_assoc f Z.nodes (Q * Q), mul_assoc (f * Z.nodes) Q Q)

  -- the place of a routine's first summary, and of those after it
  pub first_summary : (g : ℕ) → summary Z g 0 0 ≡ g * node_span Z
  unfolding summary
  first_summary g = omega (arith, mul_assoc g Z.states Z.states)

  -- the summaries of one root follow one another
  pub summary_state : (g r x : ℕ) → summary Z g r 0 + x ≡ summary Z g r x
  unfolding summary
  summary_state g r x = omega arith

-- ---- laws of sizes with an entry, an exit and a state

module _ (Z : Sizes) (U : Usable Z) where
  -- of any number, the node, the root and the state are in range
  pub node_small : (i : ℕ) → node_of Z i < Z.nodes
  unfolding node_of
  node_small i = mod-lt _ (omega (arith, U.nodes))

  pub root_small : (i : ℕ) → root_of Z i < Z.states
  unfolding root_of
  root_small i = mod-lt _ U.states

  pub state_small : (i : ℕ) → state_of Z i < Z.states
  unfolding state_of
  state_small i = mod-lt _ U.states

  pub routine_small : (i : ℕ) → i < numbers Z → routine_of Z i < Z.routines
  unfolding routine_of numbers
  routine_small i h =
      let two : 0 < Z.nodes = omega (arith, U.nodes) in
      (div-lt_iff_lt-mul {k = Z.nodes} two).1 ((div-lt_iff_lt-mul {k = Z.states} U.states).1 ((div-lt_iff_lt-mul {k = Z.states} U.states).1 h))

  pub parts_in_range : (i : ℕ) → i < numbers Z → InRange Z (routine_of Z i) (node_of Z i) (root_of Z i) (state_of Z i)
  parts_in_range i h = record { routine = routine_small i h; node = node_small i; root = root_small i; state = state_small i }

  -- by division
  pub divided_parts : (i : ℕ) → i < numbers Z → PartsOf Z i (routine_of Z i) (node_of Z i) (root_of Z i) (state_of Z i)
  divided_parts i h = record { in_range = parts_in_range i h; is = number-of Z i }

  -- the exit of a summary, if it is that of number i
  pub exit_number : (i g r q : ℕ) → node_of Z i ≡ 1 → r < Z.states → q < Z.states → summary Z g r q ≡ summary Z (routine_of Z i) (root_of Z i) (state_of Z i) → number Z g 1 r q ≡ i
  exit_number i g r q is-exit hr hq e =
      let c = summary_apart Z g r q (routine_of Z i) (root_of Z i) (state_of Z i) hr hq (root_small i) (state_small i) e in
      rw (c.0, c.1, c.2, ← is-exit) (number-of Z i)

  -- a place below the count of summaries is that of an exit's summary
  pub exit_summary : (f r q : ℕ) → r < Z.states → q < Z.states → exit_at Z (summary Z f r q) ≡ number Z f 1 r q
  unfolding exit_at summary
  exit_summary f r q a b = rw (digits_div (f * Z.states + r) b, digits_div f a, digits_mod f a, digits_mod (f * Z.states + r) b)

  pub exit_range : (place : ℕ) → place < summaries Z → InRange Z (place / Z.states / Z.states) 1 (place / Z.states % Z.states) (place % Z.states)
  unfolding summaries
  exit_range place h =
      record {
        routine = (div-lt_iff_lt-mul {k = Z.states} U.states).1 ((div-lt_iff_lt-mul {k = Z.states} U.states).1 h);
        node = omega (arith, U.nodes);
        root = mod-lt _ U.states;
        state = mod-lt _ U.states;
      }

-- ---- spans: the numbers of a routine and of a node follow one another

module _ {Z : Sizes} {f n r q : ℕ} (h : InRange Z f n r q) where
  pub node-span : (number Z f n 0 0 ≤ number Z f n r q) × (number Z f n r q < number Z f n 0 0 + node_span Z)
  unfolding number
  node-span =
      let Q = Z.states in
      let c : r * Q + q < Q * Q = digits_lt h.root h.state in
      let e = add-mul ((f * Z.nodes + n) * Q) r Q in
      (omega arith, omega arith)

  pub routine-span : (f * routine_span Z ≤ number Z f n r q) × (number Z f n r q < f * routine_span Z + routine_span Z)
  routine-span =
      let a = first_number Z f in
      let b = number_node Z f n in
      let c = node-span in
      let d : (n + 1) * node_span Z ≤ Z.nodes * node_span Z = mul-le-mul_right (node_span Z) (omega (arith, h.node)) in
      let e = add-mul n 1 (node_span Z) in
      (omega (arith, c.0), omega (arith, c.1))

module _ (Z : Sizes) where
  -- the numbers before those of a routine's node n, n of them at most
  nodes_before : (f n : ℕ) → number Z f n 0 0 ≡ (f * Z.nodes + n) * Z.states * Z.states
  unfolding number
  nodes_before f n = omega arith

  pub node_fits : (f n : ℕ) → f < Z.routines → n < Z.nodes → number Z f n 0 0 + node_span Z ≤ numbers Z
  unfolding numbers
  node_fits f n a b =
      let Q = Z.states in
      let x = f * Z.nodes + n in
      let d : x < Z.routines * Z.nodes = digits_lt a b in
      let h : x + 1 ≤ Z.routines * Z.nodes = omega arith in
      let c : (x + 1) * Q * Q ≤ Z.routines * Z.nodes * Q * Q = mul-le-mul_right Q (mul-le-mul_right Q h) in
      omega (arith, nodes_before f n, add-mul x 1 Q, add-mul (x * Q) (1 * Q) Q)

  pub routine_fits : (f : ℕ) → f < Z.routines → f * routine_span Z + routine_span Z ≤ numbers Z
  unfolding numbers
  routine_fits f a =
      let Q = Z.states in
      let P = Z.nodes in
      let h : (f + 1) * (P * (Q * Q)) ≤ Z.routines * (P * (Q * Q)) = mul-le-mul_right (P * (Q * Q)) (omega (arith, a)) in
      omega (arith, add-mul f 1 (P * (Q * Q)), mul_assoc Z.routines P (Q * Q), mul_assoc (Z.routines * P) Q Q)

-- ---- the numbers of a routine follow one another

module _ (Z : Sizes) (U : Usable Z) where
  spans : (f : ℕ) → f * routine_span Z ≡ f * Z.nodes * Z.states * Z.states
  spans f = let Q = Z.states in omega (arith, mul_assoc f Z.nodes (Q * Q), mul_assoc (f * Z.nodes) Q Q)

  pub in_routine : (f i : ℕ) → f * routine_span Z ≤ i → i < f * routine_span Z + routine_span Z → routine_of Z i ≡ f
  unfolding routine_of
  in_routine f i a b =
      let Q = Z.states in
      let P = Z.nodes in
      let two : 0 < P = omega (arith, U.nodes) in
      let h : i < (f + 1) * P * Q * Q = omega (arith, spans (f + 1), add-mul f 1 (routine_span Z)) in
      let up : i / Q / Q / P < f + 1 = (div-lt_iff_lt-mul {k = P} two).1 ((div-lt_iff_lt-mul {k = Q} U.states).1 ((div-lt_iff_lt-mul {k = Q} U.states).1 h)) in
      let down : ¬ (i / Q / Q / P < f) =
      λ x.
      let y : i < f * P * Q * Q = (div-lt_iff_lt-mul {k = Q} U.states).0 ((div-lt_iff_lt-mul {k = Q} U.states).0 ((div-lt_iff_lt-mul {k = P} two).0 x)) in
      omega (arith, spans f) in
      omega (arith, up, down)

  pub all_routines : numbers Z ≡ Z.routines * routine_span Z
  unfolding numbers
  all_routines = let Q = Z.states in let P = Z.nodes in omega (arith, mul_assoc Z.routines P (Q * Q), mul_assoc (Z.routines * P) Q Q)

-- ---- the order of numbers is that of their parts, compared left to right

-- a larger first digit decides
digits_first : (h i l m c : ℕ) → l < c → h < i → h * c + l < i * c + m
digits_first h i l m c a lt = let b : h * c + l < i * c = digits_lt lt a in omega arith

-- and so on digit by digit
module _ {Z : Sizes} {f n r q : ℕ} (h : InRange Z f n r q) (g m s t : ℕ) where
  order_root : f * Z.nodes + n < g * Z.nodes + m → number Z f n r q < number Z g m s t
  unfolding number
  order_root lt =
      digits_first _ _ q t Z.states h.state (digits_first _ _ r s Z.states h.root lt)

  pub number_order : Earlier f n r q g m s t → number Z f n r q < number Z g m s t
  unfolding number
  number_order (by_routine lt) = order_root (digits_first f g n m Z.nodes h.node lt)
  number_order (by_node e lt) = order_root (omega (arith, ap (λ (k : ℕ). k * Z.nodes) e))
  number_order (by_root e d lt) =
      let x : (f * Z.nodes + n) * Z.states ≡ (g * Z.nodes + m) * Z.states = rw (e, d) in
      digits_first _ _ q t Z.states h.state (omega (arith, x))
  number_order (by_state e d c lt) =
      let x : ((f * Z.nodes + n) * Z.states + r) * Z.states ≡ ((g * Z.nodes + m) * Z.states + s) * Z.states = rw (e, d, c) in
      omega (arith, x)

-- the summaries of a routine follow one another
pub summary_span : (Z : Sizes) (g r q : ℕ) → summary Z g 0 0 + (r * Z.states + q) ≡ summary Z g r q
unfolding summary
summary_span Z g r q = omega (arith, add-mul (g * Z.states) r Z.states)

-- ---- the flags of roots

pub root_place_fits : (f r : ℕ) → f < max_routines → r < max_states → root_place f r < roots_size
unfolding root_place
root_place_fits f r a b = omega arith

pub root_place_apart : (f r g s : ℕ) → r < max_states → s < max_states → root_place f r ≡ root_place g s → (f ≡ g) × (r ≡ s)
unfolding root_place
root_place_apart f r g s a b e = (omega arith, omega arith)

pub entry_root : (Z : Sizes) (f r : ℕ) → r < max_states → entry_at Z (root_place f r) ≡ number Z f 0 r r
unfolding entry_at root_place
entry_root Z f r a =
    let d : (f * max_states + r) / max_states ≡ f = omega arith in
    let m : (f * max_states + r) % max_states ≡ r = omega arith in
    rw (d, m)
