use Prim.Native.Nat.{ℕ, ◌<◌}
use mathlib.Core.Path.{◌≡◌, sym, ap, ◌∙◌}
use mathlib.Core.Bool.{false}
use mathlib.Core.List.{List}
use native.Mathlib.Omega.{arith}
use lib.ListN.{length}
use Rattle.text.specs.Lines.{line_at}
use Rattle.text.specs.declared.ReadLine.{ReadLine}
use Rattle.program.specs.Decoded.{program_of}
use Rattle.exchange_text.specs.ExchangeText.{bad_frame}
use Rattle.exchange_text.proofs.TextLoop.{begins_bad, reached, moves, meets_bad, continues, ends}
use Rattle.exchange_text.proofs.wanted_exchange.Goals as goal
use Rattle.exchange_text.proofs.wanted_exchange.Goals.{After-is_bad, After-is_bad-in-loop-at, At-loop-at, Else-is_bad-2}

-- ---- the first line
first-bad : (c : After-is_bad) → c.is_bad.result ≡ bad_frame (line_at c.args.text.now 0).line
first-bad c = c.is_bad.ensures ∙ ap (λ (x : ReadLine). bad_frame x.line) c.read_line-read.ensures

pub returns-then-is_bad : goal.returns-then-is_bad
returns-then-is_bad c =
    let a = c.args in
    sym (begins_bad (program_of a.p) a.text.now (sym (first-bad (goal.at.returns-then-is_bad c).After-is_bad) ∙ c.if-is_bad.true))

pub loop-at-init : goal.loop-at-init
loop-at-init c =
    let a = c.args in
    reached a.p a.text.now _ c.bounded_by-h.result _ c.read_line-read.ensures (sym (first-bad (goal.at.loop-at-init c).After-is_bad) ∙ c.if-is_bad.false)
    (c.bounded_by-h.ensures ∙ rw c.limits_of.ensures) c.start_scan-s.ensures

abbrev text_of : At-loop-at → List ℕ
text_of q = q.args.text.now

-- what is known of the line that was judged
module _ (c : After-is_bad-in-loop-at) where
  in-text : c.loop-at.at < length (text_of (goal.at.After-is_bad-in-loop-at c).At-loop-at)
  in-text = omega arith

  judged : c.is_bad-in-loop-at.result ≡ bad_frame (line_at (text_of (goal.at.After-is_bad-in-loop-at c).At-loop-at) c.loop-at.at).line
  judged = c.is_bad-in-loop-at.ensures ∙ ap (λ (x : ReadLine). bad_frame x.line) c.read_line-next.ensures

not-bad : (c : Else-is_bad-2) → bad_frame (line_at (text_of (goal.at.Else-is_bad-2 c).At-loop-at) c.loop-at.at).line ≡ false
not-bad c = sym (judged (goal.at.Else-is_bad-2 c).After-is_bad-in-loop-at) ∙ c.if-is_bad-2.false

pub returns-then-is_bad-2 : goal.returns-then-is_bad-2
returns-then-is_bad-2 c =
    sym (meets_bad _ _ _ _ _ _ c.loop-at.invariant (in-text (goal.at.returns-then-is_bad-2 c).After-is_bad-in-loop-at) (sym (judged (goal.at.returns-then-is_bad-2 c).After-is_bad-in-loop-at) ∙ c.if-is_bad-2.true))

pub loop-at-smaller : goal.loop-at-smaller
loop-at-smaller c =
    let m = moves (text_of (goal.at.loop-at-smaller c).At-loop-at) c.loop-at.at (not-bad (goal.at.loop-at-smaller c).Else-is_bad-2) in
    rw c.read_line-next.ensures (omega (arith, in-text (goal.at.loop-at-smaller c).After-is_bad-in-loop-at))

pub loop-at-preserved : goal.loop-at-preserved
loop-at-preserved c =
    continues _ _ _ _ _ _ c.loop-at.invariant (in-text (goal.at.loop-at-preserved c).After-is_bad-in-loop-at) (not-bad (goal.at.loop-at-preserved c).Else-is_bad-2) _ _ _ c.number-f.ensures c.read_line-next.ensures c.after_line-s.ensures

-- ---- the end
pub returns : goal.returns
returns c = c.conclude.ensures ∙ sym (ends _ _ _ _ _ _ c.loop-at.invariant (omega arith))
