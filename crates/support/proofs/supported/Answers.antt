use Rattle.std.proofs.Common.{◌≡◌, sym, ap, ◌∙◌, arith, below_more}
use Rattle.base.proofs.SearchesAsk.{try_all, try_found, try_next, try_none}
use Rattle.program.specs.Program.{Edge}
use Rattle.support.specs.Parts.{edge_supports, supports}
use Rattle.support.proofs.KeysAsked.{key_met, none_met}
use Rattle.support.proofs.EdgeScanned.{edge_calls, edge_is}
use Rattle.support.proofs.supported.Goals as goal

-- what the edge supports, said of its key
by_key : {A : Type 0} (P : Edge → A) {e d : Edge} {x : A} → e ≡ d → P e ≡ x → P d ≡ x
by_key P e h = sym (ap P e) ∙ h

pub returns-then-call_supports : goal.returns-then-call_supports
unfolding supports
returns-then-call_supports c =
    let calls = sym c.call_supports.ensures ∙ c.if-call_supports.true in
    key_met _ _ _ c.scan-test.true
    (by_key (edge_supports _ _ _ _ _ _ _) c.edge-e.ensures (edge_calls _ _ _ _ _ _ _ _ calls))

pub loop-x-init : goal.loop-x-init
loop-x-init c = record { none_yet = c.scan.invariant.none_yet; asked = try_all _ _ }

pub returns-then-move_kept : goal.returns-then-move_kept
unfolding supports
returns-then-move_kept c =
    let no-call = sym c.call_supports.ensures ∙ c.if-call_supports.false in
    let one = sym c.move_kept.ensures ∙ c.if-move_kept.true in
    key_met _ _ _ c.scan-test.true
    (by_key (edge_supports _ _ _ _ _ _ _) c.edge-e.ensures
    (sym (edge_is _ _ _ _ _ _ _ _ no-call c.states_to_try-end.ensures c.number_of-base.ensures.0)
    ∙ sym (try_found c.loop-x.invariant.asked c.loop-x-test.true one)))

pub loop-x-preserved : goal.loop-x-preserved
loop-x-preserved c = record {
  none_yet = c.loop-x.invariant.none_yet;
  asked = try_next c.loop-x.invariant.asked c.loop-x-test.true (sym c.move_kept.ensures ∙ c.if-move_kept.false);
}

pub scan-preserved : goal.scan-preserved
scan-preserved c =
    let no-call = sym c.call_supports.ensures ∙ c.if-call_supports.false in
    record {
      none_yet = c.loop-x.invariant.none_yet;
      asked =
          below_more _ _ c.scan.invariant.asked
          (by_key (edge_supports _ _ _ _ _ _ _) c.edge-e.ensures
          (sym (edge_is _ _ _ _ _ _ _ _ no-call c.states_to_try-end.ensures c.number_of-base.ensures.0)
          ∙ sym (try_none c.loop-x.invariant.asked c.loop-x-test.false)));
    }

pub returns-after-scan : goal.returns-after-scan
unfolding supports
returns-after-scan c =
    c.scan.invariant.none_yet ∙ none_met _ _ (λ k h. c.scan.invariant.asked k (omega arith))
