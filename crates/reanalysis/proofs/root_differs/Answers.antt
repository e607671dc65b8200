-- `reanalysis::root_differs` meets its contract.
use Prim.Native.Nat.{ℕ}
use native.Mathlib.Omega.{arith}
use borrow.Author.Tests.{tests}
use Rattle.std.proofs.Common.{rules}
use Rattle.std.proofs.lemmas.Iterator.{YieldsList-from_range, cases_from_any}
use Rattle.words.specs.Words.{flags_of}
use Rattle.reanalysis.specs.Parts.{DiffersAt}
use Rattle.reanalysis.proofs.ReanalysisDecided.{any_number, says_by}
use Rattle.reanalysis.proofs.root_differs.Goals as goal

pub returns : goal.returns
returns c =
    let a = c.args in
    let P = λ (q : ℕ). DiffersAt a.z (flags_of a.before.now) a.marks.now a.g a.r q in
    says_by
    (λ d. record { state = d.at; small = d.below; differs = d.holds })
    (λ d. record { at = d.state; below = d.small; holds = d.differs })
    (any_number P a.z.states c.any.result
    (cases_from_any _ _ c.any.result P (λ q. ¬ (P q)) c.any.ensures.ran
    (YieldsList-from_range 0 a.z.states a.z.states (search rules) (omega arith))
    (λ x q k. search (rules, tests)) (λ x q k. search (rules, tests))))
