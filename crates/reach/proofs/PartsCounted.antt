-- Parts that are found by comparing and subtracting are those of the number, and so are parts that are counted up.
use mathlib.Core.Path.{◌≡◌, ap, subst}
use Prim.Native.Nat.{ℕ, ◌+◌, ◌*◌, ◌^◌, ◌<◌, ◌≤◌}
use native.Mathlib.Nat.{add-mul, mul_assoc, mul_comm, mul-le-mul, mul-pos, lt_of_mul-lt-mul_right}
use native.Mathlib.Omega.{arith}
use Rattle.program.specs.declared.sizes.Sizes.{Sizes}
use Rattle.program.specs.Chosen.{numbers}
use Rattle.reach.specs.declared.configuration.Configuration.{Configuration}
use Rattle.reach.specs.Sizes.{node_span, routine_span}
use Rattle.reach.specs.Configurations.{Usable, InRange, PartsOf, number}
use Rattle.reach.specs.declared.spans.Spans.{Spans}
use Rattle.reach.specs.Parts.{TakenOff, SpansOf, root_start, Beside, Counted}
use Rattle.reach.proofs.Numbers.{number_state, number_root, number_node, first_number, all_routines}

-- a number is the sum of its parts, each times its span
pub by_spans : (Z : Sizes) (f n r q : ℕ) → number Z f n r q ≡ f * routine_span Z + n * node_span Z + r * Z.states + q
by_spans Z f n r q =
    omega (arith, number_state Z f n r q, number_root Z f n r 0, number_node Z f n, first_number Z f, mul_comm r Z.states)

-- one span more
one_more : (h c : ℕ) → (h + 1) * c ≡ h * c + c
one_more h c = omega (arith, add-mul h 1 c)

module _ (Z : Sizes) (U : Usable Z) where
  -- no span is empty
  pub node_span_some : 0 < node_span Z
  node_span_some = mul-pos {m = Z.states} {n = Z.states} U.states U.states

  pub routine_span_some : 0 < routine_span Z
  routine_span_some = let some : 0 < Z.nodes = omega (arith, U.nodes) in mul-pos {m = Z.nodes} {n = node_span Z} some node_span_some

  -- a number of the marks is in a routine
  pub routine_in_range : (f n r q : ℕ) → number Z f n r q < numbers Z → f < Z.routines
  routine_in_range f n r q h =
      lt_of_mul-lt-mul_right (routine_span Z) (omega (arith, h, by_spans Z f n r q, all_routines Z U))

  -- parts that are counted are those of a number of the marks
  pub counted_parts : (i : ℕ) (c : Configuration) → Counted Z i c → Beside Z i c
  counted_parts i c k h =
      record {
        in_range =
            record {
              routine = routine_in_range c.routine c.node c.root c.state (rw k.is h);
              node = k.node;
              root = k.root;
              state = k.state;
            };
        is = k.is;
      }

  -- in a pass the parts of the next number are counted up from those of this one
  pub next_beside : (i : ℕ) (c d : Configuration) → PartsOf Z i c.routine c.node c.root c.state
      → Counted Z (number Z c.routine c.node c.root c.state + 1) d → Beside Z (i + 1) d
  next_beside i c d h k = counted_parts (i + 1) d (subst (λ (j : ℕ). Counted Z (j + 1) d) h.is k)

  -- spans of what lies above are added to the parts, and what is a span again is carried
  pub above : (s : Spans) → SpansOf Z s → (f n r more a x b y d q k r' m n' : ℕ) → TakenOff more s.routine a x → TakenOff x s.node b y
      → TakenOff y Z.states d q → TakenOff (r + d) Z.states k r' → TakenOff (n + b + k) Z.nodes m n'
      → number Z (f + a + m) n' r' q ≡ number Z f n r 0 + more
  above s by f n r more a x b y d q k r' m n' routines nodes roots root node =
      let Q = Z.states in
      let N = node_span Z in
      let S = routine_span Z in
      let e : (k * Q + r') * Q ≡ (r + d) * Q = ap (λ (j : ℕ). j * Q) root.is in
      let g : (m * Z.nodes + n') * N ≡ (n + b + k) * N = ap (λ (j : ℕ). j * N) node.is in
      omega (
        arith,
        by_spans Z (f + a + m) n' r' q,
        by_spans Z f n r 0,
        routines.is,
        ap (λ (j : ℕ). a * j) by.routine,
        nodes.is,
        ap (λ (j : ℕ). b * j) by.node,
        roots.is,
        e,
        g,
        add-mul (k * Q) r' Q,
        mul_assoc k Q Q,
        add-mul r d Q,
        add-mul (m * Z.nodes) n' N,
        mul_assoc m Z.nodes N,
        add-mul (n + b) k N,
        add-mul n b N,
        add-mul (f + a) m S,
        add-mul f a S,
      )

-- numbers in sizes that are bytes are small
pub numbers_fit : (Z : Sizes) → Z.routines < 256 → Z.nodes < 256 → Z.states < 256 → numbers Z < 2 ^ 32
unfolding numbers
numbers_fit Z a b d =
    let e : Z.states ≤ 255 = omega arith in
    let x : Z.routines * Z.nodes ≤ 255 * 255 = mul-le-mul {n₂ = 255} {m₂ = 255} (omega arith) (omega arith) in
    let y : Z.routines * Z.nodes * Z.states ≤ 255 * 255 * 255 = mul-le-mul {n₂ = 255 * 255} {m₂ = 255} x e in
    let w : Z.routines * Z.nodes * Z.states * Z.states ≤ 255 * 255 * 255 * 255 = mul-le-mul {n₂ = 255 * 255 * 255} {m₂ = 255} y e in
    omega (arith, w)

-- number 0 has the first parts, and what lies above it is the number itself
pub first_number_0 : (Z : Sizes) → number Z 0 0 0 0 ≡ 0
first_number_0 Z = omega (arith, by_spans Z 0 0 0 0)

pub from_first : (Z : Sizes) (c : Configuration) → (c.routine ≡ 0) × (c.node ≡ 0) × (c.root ≡ 0) × (c.state ≡ 0) → (i : ℕ) → root_start Z c + i ≡ i
from_first Z c e i =
    let h : root_start Z c ≡ number Z 0 0 0 0 = rw (e.0, e.1, e.2) in
    omega (arith, h, first_number_0 Z)

-- ---- the next number

module _ {Z : Sizes} {f n r q : ℕ} (h : InRange Z f n r q) where
  pub next-state : number Z f n r (q + 1) ≡ number Z f n r q + 1
  next-state = omega (arith, by_spans Z f n r (q + 1), by_spans Z f n r q)

  pub next_root : Z.states ≤ q + 1 → number Z f n (r + 1) 0 ≡ number Z f n r q + 1
  next_root full =
      omega (arith, full, h.state, by_spans Z f n (r + 1) 0, by_spans Z f n r q, one_more r Z.states)

  -- after the last state of the last root a node's span is full
  node_full : Z.states ≤ q + 1 → Z.states ≤ r + 1 → r * Z.states + q + 1 ≡ node_span Z
  node_full full last =
      let e : (r + 1) * Z.states ≡ Z.states * Z.states = ap (λ (j : ℕ). j * Z.states) (omega (arith, last, h.root)) in
      omega (arith, e, full, h.state, one_more r Z.states)

  pub next_node : Z.states ≤ q + 1 → Z.states ≤ r + 1 → number Z f (n + 1) 0 0 ≡ number Z f n r q + 1
  next_node full last =
      omega (arith, node_full full last, by_spans Z f (n + 1) 0 0, by_spans Z f n r q, one_more n (node_span Z))

  pub next_routine : Z.states ≤ q + 1 → Z.states ≤ r + 1 → Z.nodes ≤ n + 1 → number Z (f + 1) 0 0 0 ≡ number Z f n r q + 1
  next_routine full last end =
      let e : (n + 1) * node_span Z ≡ Z.nodes * node_span Z = ap (λ (j : ℕ). j * node_span Z) (omega (arith, end, h.node)) in
      omega (
        arith,
        e,
        node_full full last,
        by_spans Z (f + 1) 0 0 0,
        by_spans Z f n r q,
        one_more n (node_span Z),
        one_more f (routine_span Z),
      )
