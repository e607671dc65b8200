use Rattle.writer.specs.Parts.{key_frame}
use Rattle.writer.proofs.FramesPut.{mapped, none_yet, room, more, all_put, key_short}
use Rattle.writer.proofs.put.put_keys.Goals as goal

pub loop-key-init : goal.loop-key-init
loop-key-init c =
    let kind = c.args.kind in
    none_yet (mapped c.args.keys.now (key_frame kind) (key_short kind)) c.requires

pub put_line-pos-requires : goal.put_line-pos-requires
put_line-pos-requires c = room c.loop-key.invariant c.loop-key-test.true _ c.key_line.ensures

pub loop-key-preserved : goal.loop-key-preserved
loop-key-preserved c =
    let w = c.put_line-pos.ensures in
    more c.loop-key.invariant c.loop-key-test.true _ c.key_line.ensures (w.value, w.out_after)

pub returns : goal.returns
returns c = all_put c.loop-key.invariant c.loop-key-test.false
