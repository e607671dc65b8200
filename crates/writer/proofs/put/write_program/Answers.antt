-- `writer::put::write_program` meets its contract: the sections stand one after the other, and there is room for each.
use mathlib.Core.Path.{◌≡◌, ap}
use mathlib.Core.List.{map}
use Prim.Native.Nat.{◌+◌, ◌≤◌}
use native.Mathlib.Omega.{arith}
use lib.ListN.{length, take}
use Rattle.base.proofs.EntriesInUse.{in_use_same}
use borrow.Author.Rules.{rules}
use Rattle.text.specs.declared.Line.{Line}
use Rattle.automaton.specs.Decoded.{automaton_of}
use Rattle.program.specs.Sizes.{max_routines}
use Rattle.program.specs.Writing.{nodes_frames, text}
use Rattle.program.specs.Decoded.{nodes_of, edge_keys_of, program_of}
use Rattle.writer.specs.Parts.{key_frame, automaton_frames}
use Rattle.writer.proofs.FramesPut.{edge_frames, starts-within, put_one, file_long, file_put}
use Rattle.writer.proofs.put.write_program.Goals as goal
use Rattle.writer.proofs.put.write_program.Goals.{After-header_line-header, After-in_use-edges, Start}

-- the header has four numbers, so that it takes 9 bytes; the end takes 7; and there is room for them and for the sections between
room : (h : After-header_line-header)
    → (h.header_line-header.result.count ≡ 4)
    × (9 + (length (text (nodes_frames 0 (nodes_of h.args.p.nodes))) + (length (text (map (key_frame 0x53) (edge_keys_of h.args.p.edges)))
    + length (text (automaton_frames (automaton_of h.args.p.automaton))))) + 7 ≤ length h.args.out.now)
room h = (ap (λ (l : Line). l.count) h.header_line-header.ensures, rw (edge_frames, ← (file_long (program_of h.args.p))) h.requires.room)

-- the parts of the lists that are in use
used : (c : After-in_use-edges)
    → let p = c.args.p in
    (take c.in_use-nodes.result p.nodes.list ≡ nodes_of p.nodes) × (take c.in_use-edges.result p.edges.keys ≡ edge_keys_of p.edges)
used c =
    let p = c.args.p in (
      in_use_same p.nodes.count p.nodes.list (search rules) c.in_use-nodes.ensures,
      in_use_same p.edges.count p.edges.keys (search rules) c.in_use-edges.ensures,
    )

routines : (c : Start) → length c.args.p.nodes.list ≡ max_routines
routines c = search rules

pub put_line-after_header-requires : goal.put_line-after_header-requires
put_line-after_header-requires c =
    let r = room (goal.at.put_line-after_header-requires c).After-header_line-header in
    omega arith

pub put_bytes-after_nodes-requires : goal.put_bytes-after_nodes-requires
put_bytes-after_nodes-requires c =
    let r = room (goal.at.put_bytes-after_nodes-requires c).After-header_line-header in
    let u = used (goal.at.put_bytes-after_nodes-requires c).After-in_use-edges in
    let n = routines (goal.at.put_bytes-after_nodes-requires c).Start in
    record { short = omega arith; room = rw u.0 (omega arith) }

pub put_keys-after_edges-requires : goal.put_keys-after_edges-requires
put_keys-after_edges-requires c =
    let r = room (goal.at.put_keys-after_edges-requires c).After-header_line-header in
    let u = used (goal.at.put_keys-after_edges-requires c).After-in_use-edges in
    let a = rw u.0 at c.put_bytes-after_nodes.ensures.past in
    rw u.1 (omega arith)

pub put_automaton-after_automaton-requires : goal.put_automaton-after_automaton-requires
put_automaton-after_automaton-requires c =
    let r = room (goal.at.put_automaton-after_automaton-requires c).After-header_line-header in
    let u = used (goal.at.put_automaton-after_automaton-requires c).After-in_use-edges in
    let a = rw u.0 at c.put_bytes-after_nodes.ensures.past in
    let b = rw u.1 at c.put_keys-after_edges.ensures.past in
    record {
      within = starts-within (program_of c.args.p) _ c.requires.fits;
      room = omega (arith, a, b, c.put_line-after_header.ensures.value);
    }

pub put_line-requires : goal.put_line-requires
put_line-requires c =
    let n : c.end_line-end.result.count ≡ 3 = ap (λ (l : Line). l.count) c.end_line-end.ensures in
    let r = room (goal.at.put_line-requires c).After-header_line-header in
    let u = used (goal.at.put_line-requires c).After-in_use-edges in
    let a = rw u.0 at c.put_bytes-after_nodes.ensures.past in
    let b = rw u.1 at c.put_keys-after_edges.ensures.past in
    omega arith

pub returns : goal.returns
returns c =
    let u = used (goal.at.returns c).After-in_use-edges in
    let header = c.put_line-after_header.ensures in
    let end = c.put_line.ensures in
    file_put (program_of c.args.p)
    (put_one _ _ c.header_line-header.ensures (omega arith) (header.value, header.out_after))
    (rw u.0 at c.put_bytes-after_nodes.ensures)
    (rw (u.1, edge_frames) at c.put_keys-after_edges.ensures)
    c.put_automaton-after_automaton.ensures
    (put_one _ _ (rw c.frame_count.ensures.0 at c.end_line-end.ensures) (omega arith) (end.value, end.out_after))
    c.requires.room
