use Rattle.reader.proofs.ReadingLoop.{begins, few, over, faulty, complete, cut_short, small, has_room, has_room_for_row, proceeds, continues}
use Rattle.program.specs.Refusals.{number, number_met}
use Rattle.progress.specs.Progress.{progress_of}
use Rattle.program.specs.Reading.{judge, after}
use Rattle.text.specs.declared.ReadLine.{ReadLine}
use Rattle.text.specs.Lines.{line_at}
use lib.ListN.{length}
use native.Mathlib.Omega.{arith}
use mathlib.Core.Path.{◌≡◌, sym, ap, ◌∙◌}
use mathlib.Core.List.{List}
use Prim.Native.Nat.{ℕ, ◌+◌, ◌<◌, ◌≤◌}
use Rattle.program.specs.Sizes.{max_frames}
use Rattle.rows.specs.Rows.{TableRow}
use Rattle.rows.specs.Decoded.{rows_of}
use Rattle.program.proofs.RefusalsSmall.{judge_small}
use Rattle.program.proofs.RefusalNumbers.{line_alone, some_number}
use Rattle.reader.proofs.read.Goals as goal
use Rattle.reader.proofs.read.Goals.{After-fault_of, At-loop-at, In_default}

pub loop-at-init : goal.loop-at-init
loop-at-init c = rw c.no_rows-rows.ensures (begins _ _ c.start_reader-s.ensures)

abbrev file_of : At-loop-at → List ℕ
file_of p = p.args.file.now

abbrev rows_at : At-loop-at → List TableRow
rows_at p = rows_of p.loop-at.rows

some-frames : (p : At-loop-at) → p.loop-at.s.frames ≤ max_frames + 1
some-frames p = few (file_of p) p.loop-at.s (rows_at p) p.loop-at.at p.loop-at.invariant

-- what is known of the line that was judged
module _ (c : After-fault_of) where
  abbrev p : At-loop-at
  p = (goal.at.After-fault_of c).At-loop-at

  in-file : c.loop-at.at < length (file_of p)
  in-file = omega arith

  judged : number_met c.fault_of.result ≡ judge (progress_of c.loop-at.s (rows_at p)) (line_at (file_of p) c.loop-at.at).line
  judged =
      c.fault_of.ensures (rows_at p) c.row_count.ensures
      ∙ ap (λ (x : ReadLine). judge (progress_of c.loop-at.s (rows_at p)) x.line) c.read_line-next.ensures

pub overflow_add-line : goal.overflow_add-line
overflow_add-line c = omega (arith, some-frames (goal.at.overflow_add-line c).At-loop-at)

pub overflow_add-result : goal.overflow_add-result
overflow_add-result c = omega (arith, some-frames (goal.at.overflow_add-result c).At-loop-at)

pub returns-then-s : goal.returns-then-s
returns-then-s c = let p = (goal.at.returns-then-s c).At-loop-at in sym (over (file_of p) c.loop-at.s (rows_at p) c.loop-at.at c.loop-at.invariant (omega arith) c.if-s.true)

pub returns-in-Err : goal.returns-in-Err
returns-in-Err c =
    let a = (goal.at.returns-in-Err c).After-fault_of in
    let p = (goal.at.returns-in-Err c).At-loop-at in
    let line = (line_at (file_of p) c.loop-at.at).line in
    let j : number c.in-Err.refusal ≡ judge (progress_of c.loop-at.s (rows_at p)) line = sym (ap number_met c.in-Err.is) ∙ judged a in
    let small = judge_small (progress_of c.loop-at.s (rows_at p)) line in
    let some = some_number c.in-Err.refusal in
    let alone = line_alone c.in-Err.refusal (omega arith) in
    rw (alone, j) (sym (faulty (file_of p) c.loop-at.s (rows_at p) c.loop-at.at c.loop-at.invariant (in-file a) c.if-s.false (omega arith)))

-- where it is not refused
no_fault : (c : In_default) → judge (progress_of c.loop-at.s (rows_at (goal.at.In_default c).At-loop-at)) (line_at (file_of (goal.at.In_default c).At-loop-at) c.loop-at.at).line ≡ 0
no_fault c =
    let p = (goal.at.In_default c).At-loop-at in
    sym (c.in_default.ensures (rows_at p) c.row_count.ensures
    ∙ ap (λ (x : ReadLine). judge (progress_of c.loop-at.s (rows_at p)) x.line) c.read_line-next.ensures)

pub note_frame-requires : goal.note_frame-requires
note_frame-requires c =
    let p = (goal.at.note_frame-requires c).At-loop-at in (
      rw c.read_line-next.ensures (has_room (file_of p) c.loop-at.s (rows_at p) c.loop-at.at c.loop-at.invariant c.if-s.false (no_fault (goal.at.note_frame-requires c).In_default)),
      omega (arith, some-frames p),
    )

pub note_row-requires : goal.note_row-requires
note_row-requires c =
    let p = (goal.at.note_row-requires c).At-loop-at in
    rw c.read_line-next.ensures (has_room_for_row (file_of p) c.loop-at.s (rows_at p) c.loop-at.at c.loop-at.invariant c.if-s.false (no_fault (goal.at.note_row-requires c).In_default))

pub loop-at-smaller : goal.loop-at-smaller
loop-at-smaller c =
    let p = (goal.at.loop-at-smaller c).At-loop-at in
    let h = in-file (goal.at.loop-at-smaller c).After-fault_of in
    let m = proceeds (file_of p) c.loop-at.s (rows_at p) c.loop-at.at c.loop-at.invariant c.if-s.false (no_fault (goal.at.loop-at-smaller c).In_default) h in
    rw c.read_line-next.ensures (omega (arith, h))

pub loop-at-preserved : goal.loop-at-preserved
loop-at-preserved c =
    let p = (goal.at.loop-at-preserved c).At-loop-at in
    let h = in-file (goal.at.loop-at-preserved c).After-fault_of in
    let l = c.read_line-next.ensures in
    let known = c.note_frame in
    rw l (
    continues (file_of p) c.loop-at.s (rows_at p) c.loop-at.at c.loop-at.invariant c.if-s.false (no_fault (goal.at.loop-at-preserved c).In_default) h _ _
    (ap (progress_of known.new.s) c.note_row.ensures ∙ known.ensures (rows_at p)
    ∙ ap (λ (x : ReadLine). after (progress_of c.loop-at.s (rows_at p)) x.line) l)
    )

pub finish-requires : goal.finish-requires
finish-requires c = let p = (goal.at.finish-requires c).At-loop-at in small (file_of p) c.loop-at.s (rows_at p) c.loop-at.at c.loop-at.invariant c.if-not-s.false

pub returns-then-not-s : goal.returns-then-not-s
returns-then-not-s c =
    let p = (goal.at.returns-then-not-s c).At-loop-at in
    sym (cut_short (file_of p) c.loop-at.s (rows_at p) c.loop-at.at c.loop-at.invariant (omega arith) c.if-not-s.true)

pub returns : goal.returns
returns c =
    let p = (goal.at.returns c).At-loop-at in
    c.finish.ensures ∙ sym (complete (file_of p) c.loop-at.s (rows_at p) c.loop-at.at c.loop-at.invariant (omega arith) c.if-not-s.false)
