-- `writer::put::put_keys` meets its contract. The loop's invariant: the frames of the keys before this one were written.
use mathlib.Core.List.{map}
use lib.ListN.{length}
use Rattle.writer.specs.Parts.{key_frame}
use Rattle.writer.proofs.FramesPut.{PutSoFar}
use Rattle.writer.proofs.put.put_keys.Given as goal

abbrev pub invariant-loop-key : goal.invariant-loop-key
invariant-loop-key l =
    PutSoFar (λ j k. key_frame l.kind k) l.keys (length l.keys) (map (key_frame l.kind) l.keys)
    l.initial.out l.out l.at l.pos l.key-index
