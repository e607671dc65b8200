use Rattle.writer.proofs.FramesPut.{either, none_yet, room, more, all_put}
use Rattle.writer.proofs.put.put_bytes.Goals as goal

pub loop-i-init : goal.loop-i-init
loop-i-init c = none_yet (either c.args.list.now c.args.kind) c.requires.room

pub put_line-pos-requires : goal.put_line-pos-requires
put_line-pos-requires c = room c.loop-i.invariant c.loop-i-test.true _ c.entry_line.ensures

pub loop-i-preserved : goal.loop-i-preserved
loop-i-preserved c =
    let w = c.put_line-pos.ensures in
    more c.loop-i.invariant c.loop-i-test.true _ c.entry_line.ensures (w.value, w.out_after)

pub returns : goal.returns
returns c = all_put c.loop-i.invariant c.loop-i-test.false
