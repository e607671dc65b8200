use mathlib.Core.Path.{◌≡◌, sym, ◌∙◌}
use mathlib.Core.List.{List, map}
use Prim.Native.Nat.{ℕ}
use lib.ListN.{length, take, length-map}
use Rattle.automaton.specs.Decoded.{transition_of}
use Rattle.program.specs.Reading.{judge, judge_as}
use Rattle.program.specs.Decoded.{edge_of}
use Rattle.reader.proofs.fault_of.Goals as goal

-- the entries in use are as many as what they stand for
counted : {A : Type 0} (g : ℕ → A) (n : ℕ) (xs : List ℕ) {u : ℕ} → u ≡ length (take n xs) → u ≡ length (map g (take n xs))
counted g n xs e = e ∙ sym (length-map (take n xs) g)

pub returns : goal.returns
unfolding judge judge_as
returns c = λ before h.
    let p = c.args.s.now.program in
    let t = p.automaton.transitions in
    c.fault_by.ensures
    ∙ rw (
      c.limits_of.ensures,
      c.used.ensures,
      counted edge_of p.edges.count p.edges.keys c.used-2.ensures,
      counted transition_of t.count t.keys c.used-3.ensures,
      h,
    )
