-- The index of the edges from i on becomes that of all of them.
use Prim.Native.Nat.{ℕ, ◌+◌, ◌*◌, ◌-◌, ◌≤◌, ◌<◌}
use mathlib.Core.Path.{◌≡◌, refl, sym, ◌∙◌}
use mathlib.Core.Logic.{◌≢◌}
use mathlib.Core.Bool.{Bool, true, false, ◌&&◌}
use mathlib.Core.List.{List}
use native.Mathlib.Omega.{arith}
use lib.Dec.{ltb, eqb}
use lib.ListN.{length, get_or, replicate, length-replicate, get_or-replicate}
use borrow.Author.Tests.{ltb-true, eqb-true, lt-ltb, eq-eqb}
use Rattle.base.proofs.Bools.{never, both}
use Rattle.program.specs.Sizes.{max_routines, max_nodes, max_edges}
use Rattle.program.specs.Program.{is_call, called_by}
use Rattle.program.specs.Decoded.{edge_of}
use Rattle.index.specs.Index.{leaves, calls_one, node_place, routine_place, edge_place, caller_place, index_size, Indexed}
use Rattle.index.specs.Linked.{with_edge, with_caller, with_key}
use Rattle.index.proofs.ListsChained.{length_when, when_other, Chained, chained_none, chained_kept, chained_turn}

-- ---- what the tests of a link say

edge_within : (r s : ℕ) → ltb r max_routines && ltb s max_nodes ≡ true → (r < max_routines) × (s < max_nodes)
edge_within r s u = let w = both (ltb r max_routines) _ u in (ltb-true r max_routines w.0, ltb-true s max_nodes w.1)

caller_within : (a : ℕ) → is_call a && ltb (called_by a) max_routines ≡ true → called_by a < max_routines
caller_within a u = ltb-true (called_by a) max_routines (both (is_call a) _ u).1

-- ---- an index keeps its size

length_edge : (r s k : ℕ) (l : List ℕ) → length (with_edge r s k l) ≡ length l
unfolding with_edge
length_edge r s k l = length_when (ltb r max_routines && ltb s max_nodes) (node_place r s) (edge_place k) k l

length_caller : (a k : ℕ) (l : List ℕ) → length (with_caller a k l) ≡ length l
unfolding with_caller
length_caller a k l = length_when (is_call a && ltb (called_by a) max_routines) (routine_place (called_by a)) (caller_place k) k l

-- ---- the lists that one edge belongs to, by its parts

-- an edge from node s of routine r
module _ {t : ℕ → Bool} {count i f n : ℕ} {l : List ℕ} (c : Chained t count (i + 1) (node_place f n) edge_place l) (h : i < count) (few : count ≤ max_edges)
    (size : length l ≡ index_size) (hf : f < max_routines) (hn : n < max_nodes) where
  edge_turn : (r s : ℕ) → t i ≡ eqb r f && eqb s n → Chained t count i (node_place f n) edge_place (with_edge r s i l)
  unfolding with_edge
  edge_turn r s e =
      chained_turn c h (ltb r max_routines && ltb s max_nodes) (node_place r s) here there (omega arith) (omega arith) (λ j z. omega arith)
      (λ u j z. let w = edge_within r s u in omega arith) (λ z. omega arith) (λ j d z. d (omega arith))
    where
      here : t i ≡ true → (ltb r max_routines && ltb s max_nodes ≡ true) × (node_place r s ≡ node_place f n)
      here u =
          let w = both _ _ (sym e ∙ u) in
          let er = eqb-true r f w.0 in
          let es = eqb-true s n w.1 in
          (rw (er, es, lt-ltb f max_routines hf, lt-ltb n max_nodes hn), rw (er, es))

      there : t i ≡ false → ltb r max_routines && ltb s max_nodes ≡ true → node_place f n ≢ node_place r s
      there u b z =
          let w = edge_within r s b in
          let er : r ≡ f = omega arith in
          let es : s ≡ n = omega arith in
          never (e ∙ rw (eq-eqb r f er, eq-eqb s n es)) u

-- an edge with label a
module _ {t : ℕ → Bool} {count i g : ℕ} {l : List ℕ} (c : Chained t count (i + 1) (routine_place g) caller_place l) (h : i < count) (few : count ≤ max_edges)
    (size : length l ≡ index_size) (hg : g < max_routines) where
  caller_turn : (a : ℕ) → t i ≡ is_call a && eqb (called_by a) g → Chained t count i (routine_place g) caller_place (with_caller a i l)
  unfolding with_caller
  caller_turn a e =
      chained_turn c h (is_call a && ltb (called_by a) max_routines) (routine_place (called_by a)) here there (omega arith) (omega arith) (λ j z. omega arith)
      (λ u j z. let w = caller_within a u in omega arith) (λ z. omega arith) (λ j d z. d (omega arith))
    where
      here : t i ≡ true → (is_call a && ltb (called_by a) max_routines ≡ true) × (routine_place (called_by a) ≡ routine_place g)
      here u =
          let w = both (is_call a) _ (sym e ∙ u) in
          let eg = eqb-true (called_by a) g w.1 in
          (rw (w.0, eg, lt-ltb g max_routines hg), rw eg)

      there : t i ≡ false → is_call a && ltb (called_by a) max_routines ≡ true → routine_place g ≢ routine_place (called_by a)
      there u b z =
          let eg : called_by a ≡ g = omega arith in
          never (e ∙ rw ((both (is_call a) _ b).0, eq-eqb (called_by a) g eg)) u

-- ---- the lists of the other kind are not changed

edge_other : (r s k : ℕ) (l : List ℕ) (x : ℕ) → max_routines * max_nodes ≤ x → x ≢ edge_place k → get_or (with_edge r s k l) x 0 ≡ get_or l x 0
unfolding with_edge
edge_other r s k l x h d =
    when_other (ltb r max_routines && ltb s max_nodes) (node_place r s) (edge_place k) k l x (λ u z. let w = edge_within r s u in omega arith) d

caller_other : (a k : ℕ) (l : List ℕ) (x : ℕ) → (called_by a < max_routines → x ≢ routine_place (called_by a)) → x ≢ caller_place k
    → get_or (with_caller a k l) x 0 ≡ get_or l x 0
unfolding with_caller
caller_other a k l x f d =
    when_other (is_call a && ltb (called_by a) max_routines) (routine_place (called_by a)) (caller_place k) k l x (λ u. f (caller_within a u)) d

edge_apart : {t : ℕ → Bool} {count i g : ℕ} {l : List ℕ} → Chained t count i (routine_place g) caller_place l → g < max_routines → (r s k : ℕ) → k < max_edges
    → Chained t count i (routine_place g) caller_place (with_edge r s k l)
edge_apart {g = g} {l = l} c hg r s k hk =
    chained_kept c (edge_other r s k l (routine_place g) (omega arith) (λ z. omega arith)) (λ j h b. edge_other r s k l (caller_place j) (omega arith) (λ z. omega arith))

caller_apart : {t : ℕ → Bool} {count i f n : ℕ} {l : List ℕ} → Chained t count i (node_place f n) edge_place l → f < max_routines → n < max_nodes → count ≤ max_edges
    → (a k : ℕ) → Chained t count i (node_place f n) edge_place (with_caller a k l)
caller_apart {f = f} {n = n} {l = l} c hf hn few a k =
    chained_kept c (caller_other a k l (node_place f n) (λ w z. omega arith) (λ z. omega arith))
    (λ j h b. caller_other a k l (edge_place j) (λ w z. omega arith) (λ z. omega arith))

-- ---- the loop's invariant: the index is that of the edges from i on

pub record Indexing (keys : List ℕ) (i : ℕ) (index : List ℕ) : Type 0 where
  pub size : length index ≡ index_size
  pub few : length keys ≤ max_edges
  pub fits : i ≤ length keys
  pub from_node : (f n : ℕ) → f < max_routines → n < max_nodes → Chained (leaves keys f n) (length keys) i (node_place f n) edge_place index
  pub callers : (g : ℕ) → g < max_routines → Chained (calls_one keys g) (length keys) i (routine_place g) caller_place index

pub indexing_none : (keys : List ℕ) → length keys ≤ max_edges → Indexing keys (length keys) (replicate index_size (length keys))
indexing_none keys h =
    record {
      size = length-replicate {A = ℕ} index_size (length keys);
      few = h;
      fits = omega arith;
      from_node = λ f n hf hn. chained_none (get_or-replicate {A = ℕ} index_size (node_place f n) (length keys) 0 (omega arith));
      callers = λ g hg. chained_none (get_or-replicate {A = ℕ} index_size (routine_place g) (length keys) 0 (omega arith));
    }

pub indexing_more : {keys : List ℕ} {k i : ℕ} {l : List ℕ} → Indexing keys k l → k ≡ i + 1 → Indexing keys i (with_key (edge_of (get_or keys i 0)) i l)
unfolding with_key
indexing_more {keys} {k} {i} {l} w e =
    let x : Indexing keys (i + 1) l = rw e at w in
    let key = get_or keys i 0 in
    let r = (edge_of key).routine in
    let s = (edge_of key).source in
    let a = (edge_of key).label in
    let same = length_edge r s i l ∙ x.size in
    let h : i < length keys = omega (arith, x.fits) in
    record {
      size = length_caller a i (with_edge r s i l) ∙ same;
      few = x.few;
      fits = omega arith;
      from_node = λ f n hf hn. caller_apart (edge_turn (x.from_node f n hf hn) h x.few x.size hf hn r s refl) hf hn x.few a i;
      callers = λ g hg. caller_turn (edge_apart (x.callers g hg) hg r s i (omega (arith, x.few))) h x.few same hg a refl;
    }

pub indexing_all : {keys : List ℕ} {i : ℕ} {l : List ℕ} → Indexing keys i l → i ≡ 0 → Indexed keys l
indexing_all {keys} {i} {l} w e =
    let x : Indexing keys 0 l = rw e at w in
    let whole : length keys - 0 ≡ length keys = omega arith in
    record {
      size = x.size;
      few = x.few;
      first_edge = λ f n hf hn. rw whole at (x.from_node f n hf hn).head;
      next_edge = λ f n j hf hn h u. (x.from_node f n hf hn).tail j (omega arith) h u;
      first_caller = λ g hg. rw whole at (x.callers g hg).head;
      next_caller = λ g j hg h u. (x.callers g hg).tail j (omega arith) h u;
    }
