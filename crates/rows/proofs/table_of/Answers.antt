use Rattle.std.proofs.Common.{◌≡◌, ◌≢◌, ◌<◌, ℕ, sym, ap, ◌∙◌, arith, length, take, map}
use Rattle.std.proofs.lemmas.Result.{err_from_is_err_and}
use lib.ListN.{length-map, length-take}
use Rattle.base.proofs.EntriesInUse.{in_use_all}
use Rattle.rows.specs.Rows.{pair_refusal}
use Rattle.rows.specs.Decoded.{row_of, rows_of, fault_number}
use Rattle.rows.specs.declared.Rows.{Rows}
use Rattle.rows.specs.declared.TableFault.{TableFault}
use Rattle.rows.specs.declared.TableFault.TheVariants.{NotMet, MetTwice}
use Rattle.rows.proofs.TableLoop.{few_pairs, one_more, tabling_faulty, tabling_more, tabling_made, tabling_clean}
use Rattle.rows.proofs.table_of.Goals as goal

-- the rows in use
in_use : (t : Rows) {u : ℕ} → u ≡ length (rows_of t) → map row_of (take u t.keys) ≡ rows_of t
in_use t e = ap (map row_of) (rw (e, length-map, length-take) (in_use_all t.count t.keys))

-- a fault is a refusal
refuses : (e : TableFault) → fault_number e ≢ 0
refuses (NotMet x) z = absurd (omega arith)
refuses (MetTwice x) z = absurd (omega arith)

pub returns-in_err-next : goal.returns-in_err-next
returns-in_err-next c =
    let p = err_from_is_err_and c.from_residual.result c.from_residual.ensures.1 in
    let e = c.in_err-next.ensures in
    let u = in_use c.args.rows c.row_count-used.ensures in
    let r = e.refusal ∙ ap pair_refusal c.met_by.ensures.0 in
    let w = tabling_faulty c.loop-i.invariant.0 (omega arith) (λ z. refuses _ (r ∙ z)) in
    rw (p.1, p.2, ← u) (record { refusal = r ∙ w.0; pair = e.at_pair ∙ w.1; transitions = tt })

pub loop-i-preserved : goal.loop-i-preserved
loop-i-preserved c =
    let t = c.loop-i.invariant.0 in
    let k = c.with_entry-count in
    let room : c.loop-i.i < length c.loop-i.keys = omega (arith, t.size, few_pairs c.requires.0 c.requires.1) in
    let n = one_more _ _ _ _ room k.ensures in (
      rw (← n) (
          tabling_more t c.transition_key.result (omega arith) room (sym (ap pair_refusal c.met_by.ensures.0) ∙ sym c.in_ok-next.ensures.refusal)
          (rw (← c.met_by.ensures.1, ← c.in_ok-next.ensures.next) c.transition_key.ensures) k.auto.list k.ensures
          ),
      n,
    )

pub returns : goal.returns
returns c =
    let t = c.loop-i.invariant.0 in
    let u = in_use c.args.rows c.row_count-used.ensures in
    let w = tabling_clean t (omega arith) in
    rw (← u) (record { refusal = w.0; pair = w.1; transitions = rw c.loop-i.invariant.1 (tabling_made t (omega arith)) })
