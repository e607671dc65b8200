-- The start of following by a part of the table of edges, and its result.
use Prim.Native.Nat.{ℕ, suc, min, ◌-◌, ◌≤◌, ◌<◌}
use mathlib.Core.Path.{◌≡◌, refl, sym, ap, subst, ◌∙◌}
use mathlib.Core.Logic.{◌≢◌}
use mathlib.Core.Bool.{Bool, true, false, cond, not, ◌&&◌}
use mathlib.Core.List.{List}
use native.Mathlib.Omega.{arith}
use native.Mathlib.Decide.{ℕ_discrete}
use lib.Dec.{eqb, ltb, leb}
use lib.ListN.{length, get_or, take, replicate, length-take, length-map, get_or-eq_default}
use lib.Seq.{length-take-le}
use borrow.Author.Tests.{eqb-false, ne_eqb, lt-ltb, le-leb, ltb-true, leb-true}
use Rattle.automaton.specs.NextStates.{Answers}
use Rattle.index.specs.Index.{Indexed}
use Rattle.program.specs.Program.{Program}
use Rattle.program.specs.WellFormed.{WellFormed}
use Rattle.program.specs.Decoded.{edge_of, program_of}
use Rattle.program.specs.declared.DecodedProgram.{DecodedProgram}
use Rattle.program.specs.Sizes.{max_edges, marks_most}
use Rattle.reach.specs.Sizes.{enough_iterations, summaries}
use Rattle.reach.specs.Ranged.{Sized}
use Rattle.reach.specs.Configurations.{node_of}
use Rattle.reach.specs.Reachable.{Derivable, Any}
use Rattle.reach.specs.Worklist.{Worklist}
use Rattle.reach.specs.Marks.{Marked, Shows, Between, ClosedBut}
use Rattle.base.proofs.SetFlags.{on_lt}
use Rattle.reach.proofs.FollowingFromClosed.{Awaits, awaits_shows}
use Rattle.words.specs.Words.{flags_of, NoneBelow}
use Rattle.words.proofs.FlagsAsked.{flag_small}
use Rattle.words.proofs.FlagsOfPart.{take_at}
use Rattle.marking.specs.Parts.{pending_words, worklist}
use Rattle.closure.specs.Parts.{is_first, Awaited, Learnt, Followable}
use Rattle.worklist.specs.Parts.{followed, Begun}
use Rattle.closure.proofs.FlagsSet.{Setting, setting_none, setting_all}
use Rattle.index.proofs.RoutinePart.{table_edges}
use Rattle.closure.proofs.SummariesKnown.{exit_known, exit_marked}
use Rattle.program.specs.declared.sizes.Sizes.{Sizes}
use Rattle.reach.specs.Configurations.{Usable}

take_small : (n : ℕ) (ws : List ℕ) (i : ℕ) → get_or (take n (flags_of ws)) i 0 ≤ 1
take_small n ws i =
    elim (ℕ_discrete (suc i - n) 0) [
      | yes e ↦ rw (take_at n (flags_of ws) i (omega arith)) (flag_small ws i)
      | no e ↦
          let z : get_or (take n (flags_of ws)) i 0 ≡ 0 = get_or-eq_default (take n (flags_of ws)) 0 (omega (arith, length-take n (flags_of ws))) in
          omega (arith, z)
    ]

-- the part has no more edges than a program
pub few_edges : (Z : Sizes) {p : Program} {steps next marks : List ℕ} {low high : ℕ} → Followable Z p steps next low high marks → length steps ≤ max_edges
few_edges Z {steps = steps} r = omega (arith, r.well_formed.edges_limited, ap length r.edges, length-map steps edge_of)

module _ (Z : Sizes) (U : Usable Z) where
  -- ---- the flag of a number

  module _ (low high mark i : ℕ) where
    pub first_inside : low ≤ i → i < high → is_first Z low high mark i ≡ not (eqb (node_of Z i) 1) && not (eqb mark 0)
    first_inside l h = rw (le-leb low i l, lt-ltb i high h)

    first_outside : ¬ (Between low high i) → is_first Z low high mark i ≡ false
    first_outside ne = go (leb low i) refl (ltb i high) refl
      where
        go : (a : Bool) → leb low i ≡ a → (b : Bool) → ltb i high ≡ b → a && b && (not (eqb (node_of Z i) 1) && not (eqb mark 0)) ≡ false
        go true x true y = absurd (ne (leb-true low i x, ltb-true i high y))
        go true x false y = refl
        go false x b y = refl

    -- what is pending is marked, and no exit
    is-first : ◌≢◌ {A = ℕ} (cond (is_first Z low high mark i) 1 0) 0 → (mark ≢ 0) × (node_of Z i ≢ 1)
    is-first h = go (leb low i && ltb i high) (eqb (node_of Z i) 1) (eqb mark 0) refl refl h
      where
        go : (a b c : Bool) → eqb (node_of Z i) 1 ≡ b → eqb mark 0 ≡ c → ◌≢◌ {A = ℕ} (cond (a && (not b && not c)) 1 0) 0 → (mark ≢ 0) × (node_of Z i ≢ 1)
        go true false false x y h = (eqb-false mark 0 y, eqb-false (node_of Z i) 1 x)
        go true false true x y h = absurd (h refl)
        go true true c x y h = absurd (h refl)
        go false b c x y h = absurd (h refl)

  -- ---- the flags, set from low up to high

  module _ (low high : ℕ) (marks : List ℕ) where
    abbrev pub awaits : ℕ → Bool
    awaits i = is_first Z low high (get_or marks i 0) i

    pub await_start : Setting awaits pending_words (replicate pending_words 0) low
    await_start = setting_none awaits pending_words low (λ j h. first_outside low high (get_or marks j 0) j (λ b. omega (arith, b.0)))

    pub await_end : (words : List ℕ) {i : ℕ} → Setting awaits pending_words words i → high ≤ i → Awaited Z low high marks words
    await_end words s h =
        record { flags = setting_all s (λ j k l. first_outside low high (get_or marks j 0) j (λ b. omega (arith, b.1))) }

    -- nothing below is pending
    pub none_under : {pending : List ℕ} → Awaited Z low high marks pending → NoneBelow (flags_of pending) low
    none_under {pending} pe =
        record {
          none_below = λ j h.
              elim (ℕ_discrete (suc j - marks_most) 0) [
                | yes e ↦ pe.flags.byte j (omega arith) ∙ rw (first_outside low high (get_or marks j 0) j (λ b. omega (arith, b.0)))
                | no e ↦ let z : length (flags_of pending) ≤ j = omega (arith, pe.flags.len) in get_or-eq_default (flags_of pending) 0 z
              ];
        }

  -- ---- what is pending at the start

  module _ {p : Program} {steps index next marks pending known : List ℕ} {low high : ℕ} (r : Followable Z p steps next low high marks)
      (ix : Indexed steps index) (kn : Learnt Z marks known) (pe : Awaited Z low high marks pending) where
    abbrev s : Worklist
    s = worklist Z marks pending known 0

    many : length marks ≤ length (flags_of pending)
    many = omega (arith, r.closed.marks-length, r.sized.admitted.product, pe.flags.len)

    starts : Awaits Z U low high s
    starts =
        let c = r.closed in
        record {
          shape = record {
            marks-length = c.marks-length;
            pending_length = length-take-le (length marks) (flags_of pending) many ∙ c.marks-length;
            known_length = kn.flags.len;
            marks_bits = c.marks_bits;
            pending_bits = take_small (length marks) pending;
            known_bits = take_small (summaries Z) known;
          };
          woken = λ {j} o b n.
              let l : j < length marks = on_lt marks j o in
              let e : get_or (take (length marks) (flags_of pending)) j 0 ≡ 1 = take_at (length marks) (flags_of pending) j l ∙ pe.flags.byte j (omega (arith, many, pe.flags.len)) ∙ rw (first_inside low high (get_or marks j 0) j b.0 b.1, ne_eqb (node_of Z j) 1 n, ne_eqb (get_or marks j 0) 0 o.on) in
              record { on = λ z. omega (arith, e) };
          waits = λ {j} o.
              let l : j < length marks = omega (arith, on_lt (take (length marks) (flags_of pending)) j o, length-take (length marks) (flags_of pending)) in
              let x = is-first low high (get_or marks j 0) j (λ z. o.on (take_at (length marks) (flags_of pending) j l ∙ pe.flags.byte j (omega (arith, many, pe.flags.len)) ∙ z)) in
              (record { on = x.0 }, x.1);
          learnt = exit_known Z U marks kn;
          known = exit_marked Z U marks kn;
        }

    -- ---- following comes to its end, with what follows from the marks

    pub part_begun : Begun Z p steps index next marks pending known
    part_begun = record {
      tables = record { well_formed = r.well_formed; ranged = r.sized.ranged; edges = r.edges; indexed = ix; answers = r.answers };
      shape = starts.shape;
    }

    pub part_shows : {marks' : List ℕ} (pending' known' : List ℕ) {n : ℕ} → worklist Z marks' pending' known' n ≡ followed Z (enough_iterations Z) p marks pending known
        → Shows Z (Derivable p (Marked Z marks) Any) marks'
    part_shows pending' known' e =
        subst (Shows Z (Derivable p (Marked Z marks) Any)) (sym (ap (λ (t : Worklist). t.marks) e))
        (awaits_shows Z U p r.sized.ranged low high s r.closed starts)

  -- ---- all edges of a program, as the part of the table that is in use

  pub all_edges : (d : DecodedProgram) → length d.edges.keys ≡ max_edges → {u : ℕ} → u ≡ min d.edges.count max_edges → WellFormed (program_of d) → Sized Z (program_of d)
      → {next : List ℕ} → Answers (program_of d).automaton (program_of d).routines next → {low high : ℕ} {marks : List ℕ} → ClosedBut Z (program_of d) low high marks
      → Followable Z (program_of d) (take u d.edges.keys) next low high marks
  all_edges d room e w z a c =
      record { well_formed = w; sized = z; edges = table_edges d room e; answers = a; closed = c }
