-- `analysis::hand_over` meets its contract: where the limit is enough, the marks are the program's own, and so are their counts.
use Rattle.analysis.specs.AnalyzeAnswers.{Counts}
use Rattle.analysis.proofs.LimitDecides.{gives_up, ended_accepted, ended_marks, ended_count, ended_length, own_sized}
use Rattle.program.specs.declared.sizes.Sizes.{Sizes}
use Rattle.program.specs.Chosen.{sizes_of, numbers}
use Rattle.automaton.specs.Sizes.{max_states}
use Rattle.worklist.specs.Parts.{Analyzed}
use Rattle.reach.specs.Marks.{fresh_marks, violations_from}
use Rattle.reach.proofs.MarksCopied.{copied_is}
use Rattle.base.specs.Flags.{count_set}
use Rattle.program.specs.Decoded.{program_of}
use lib.ListN.{length}
use native.Mathlib.Omega.{arith}
use mathlib.Core.List.{List}
use Prim.Native.Nat.{ℕ}
use mathlib.Core.Path.{◌≡◌, sym, ap, subst, ◌∙◌}
use borrow.Author.Rules.{rules}
use borrow.Author.Tests.{not-true, not-false}
use Rattle.analysis.proofs.hand_over.Goals as goal
use Rattle.analysis.proofs.hand_over.Goals.{After-copy-copied, Start}

-- the sizes are the program's own
own : (z : Start) → Analyzed (sizes_of (program_of z.args.p)) (program_of z.args.p) z.args.limit z.args.worked.now z.args.stop.iterations z.args.stop.ended
own z = subst (λ (y : Sizes). Analyzed y (program_of z.args.p) z.args.limit z.args.worked.now z.args.stop.iterations z.args.stop.ended) z.requires.0 z.requires.2

-- what was worked out is handed over
handed : (c : After-copy-copied) → c.copy-copied.new.to ≡ c.args.worked.now
handed c =
    let n = ended_length _ c.requires.1 _ (own (goal.at.After-copy-copied c).Start) (not-false _ c.if-not-stop.false) in
    copied_is _ _ c.copy-copied.ensures.1 (n ∙ sym c.requires.3)

pub copy-copied-requires : goal.copy-copied-requires
copy-copied-requires c =
    omega (arith, c.requires.3, ended_length _ c.requires.1 _ (own (goal.at.copy-copied-requires c).Start) (not-false _ c.if-not-stop.false))

pub count_violations-requires : goal.count_violations-requires
count_violations-requires c =
    let s = own_sized (program_of c.args.p) c.requires.0 c.requires.1 in
    let n = ended_length _ c.requires.1 _ (own (goal.at.count_violations-requires c).Start) (not-false _ c.if-not-stop.false) in
    let r = c.rejecting_flags-rejecting in
    let o = r.type_inv in
    let f : length r.result.flags ≡ max_states = search (rules, o) in
    (s.usable, s.admitted, ap length (handed (goal.at.count_violations-requires c).After-copy-copied) ∙ n ∙ ap numbers (sym c.requires.0), f)

pub returns : goal.returns
returns c =
    let p = program_of c.args.p in
    let mine = handed (goal.at.returns c).After-copy-copied ∙ ended_marks p c.requires.1 _ (own (goal.at.returns c).Start) (not-false _ c.if-not-stop.false) in
    let v = c.count_violations.ensures p c.rejecting_flags-rejecting.ensures in
    let m = c.count_set.ensures in
    let n = ended_count p c.requires.1 _ (own (goal.at.returns c).Start) (not-false _ c.if-not-stop.false) in
    rw (ended_accepted p c.requires.1 _ (own (goal.at.returns c).Start) (not-false _ c.if-not-stop.false))
    ((λ i. Counts ((m ∙ ap count_set mine) i) ((v ∙ ap (λ (l : List ℕ). length (violations_from c.args.z p l 0)) mine ∙ ap (λ (y : Sizes). length (violations_from y p (fresh_marks p) 0)) c.requires.0) i) (n i)), mine)

pub returns-then-not-stop : goal.returns-then-not-stop
returns-then-not-stop c =
    let u = gives_up (program_of c.args.p) c.requires.1 _ (own (goal.at.returns-then-not-stop c).Start) (not-true _ c.if-not-stop.true) in
    rw u (search rules)
