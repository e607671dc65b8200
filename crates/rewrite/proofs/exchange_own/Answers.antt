use Rattle.rewrite.proofs.ExchangesAnswer.{exchanges, own_answer, foreign_answer, room}
use Rattle.repair.proofs.InsideOutNumbers.{number_foreign, bits_told}
use Rattle.std.proofs.lemmas.Result.{err_from_is_err_and}
use Rattle.analysis.proofs.AnswersByChecks.{accepted_own}
use Rattle.program.specs.Decoded.{program_of}
use Rattle.program.specs.Chosen.{numbers}
use Rattle.program.specs.declared.sizes.Sizes.{Sizes}
use Rattle.exchange.specs.Changes.{Exchange, whole}
use Rattle.exchange.specs.Decoded.{exchange_of}
use Rattle.reach.specs.Marks.{fresh_at}
use lib.ListN.{length, length-replicate}
use Prim.Native.Nat.{ℕ}
use native.Mathlib.Omega.{arith}
use mathlib.Core.Path.{ap, sym, ◌∙◌}
use Rattle.rewrite.proofs.exchange_own.Goals as goal
use Rattle.rewrite.proofs.exchange_own.Goals.{Start}

-- the exchange, and the program before it
abbrev exchange_in : Start → Exchange
exchange_in z = exchange_of z.args.s.exchange

pub check_own_within-requires : goal.check_own_within-requires
check_own_within-requires c =
    let m = c.requires.measured in
    let e = ap numbers c.requires.well_formed.2 in
    record { well_formed = c.requires.well_formed.0; marks_len = (m.marks-length ∙ e, omega (arith, m.work_before, e)) }

pub mend_exchange-mended-requires : goal.mend_exchange-mended-requires
mend_exchange-mended-requires c =
    let p = program_of c.args.p in
    let q = c.requires.well_formed in
    let m = c.requires.measured in
    let o = c.in_ok-check_own_within.ensures in
    let l = ap length o.1 ∙ length-replicate {A = ℕ} (length c.args.work.now) 0 in
    record {
      exchanges = exchanges (exchange_in (goal.at.mend_exchange-mended-requires c).Start) p q.0 q.1 q.2 q.3;
      buffers = record {
        own = accepted_own p c.args.marks.now (sym o.0) ∙ ap (λ (y : Sizes). fresh_at y p) (sym q.2);
        room = m.second_length;
        before = omega (arith, m.work_before, l);
        after = omega (arith, m.work-after, l);
      };
    }

pub write_program-written-requires : goal.write_program-written-requires
write_program-written-requires c =
    let q = c.requires.well_formed in
    let x = exchange_in (goal.at.write_program-written-requires c).Start in
    let w = room x (program_of c.args.p) c.args.output.now q.0 q.1 c.mend_exchange-mended.ensures.0 c.requires.measured.output_length in
    record { fits = w.0.transitions_fit; room = w.1 }

pub returns-in_err-check_own_within : goal.returns-in_err-check_own_within
returns-in_err-check_own_within c =
    let a = c.args in
    let p = program_of a.p in
    let x = exchange_in (goal.at.returns-in_err-check_own_within c).Start in
    let o = c.in_err-check_own_within.ensures in
    let h = sym o.0 in
    let e = err_from_is_err_and c.from_residual.result c.from_residual.ensures.1 in
    rw (e.1, e.2) (
      foreign_answer x p a.marks.now a.output.now a.work.now a.second.now h o.1,
      λ i. number_foreign p a.marks.now (whole x) h,
    )

pub returns : goal.returns
returns c =
    let a = c.args in
    let p = program_of a.p in
    let x = exchange_in (goal.at.returns c).Start in
    let h = sym c.in_ok-check_own_within.ensures.0 in
    let r = c.mend_exchange-mended.ensures in (
      own_answer x p a.marks.now a.output.now a.work.now a.second.now c.requires.well_formed.3 h r.0 (c.mend_exchange-mended.auto.work ∙ c.check_own_within.auto.work)
          c.write_program-written.ensures,
      λ i. bits_told (whole x) p i r.1 c.bits_of-reanalyzed.ensures,
    )
