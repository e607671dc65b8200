-- `writer::put::put_bytes` meets its contract. The loop's invariant: the frames of the first `i` entries were written.
use lib.ListN.{length}
use Rattle.writer.specs.Parts.{byte_frame, byte_frames}
use Rattle.writer.proofs.FramesPut.{PutSoFar}
use Rattle.writer.proofs.put.put_bytes.Given as goal

abbrev pub invariant-loop-i : goal.invariant-loop-i
invariant-loop-i l =
    PutSoFar (byte_frame l.kind) l.list (length l.list) (byte_frames l.kind l.list)
    l.initial.out l.out l.at l.pos l.i
