-- `prune::keep_supported` meets its contract.
use mathlib.Core.Path.{◌≡◌, sym, subst}
use mathlib.Core.List.{List, map}
use Prim.Native.Nat.{ℕ}
use lib.ListN.{length}
use borrow.Author.Rules.{rules}
use Rattle.program.specs.Sizes.{max_edges}
use Rattle.program.specs.Frames.{edge_key}
use Rattle.tables.specs.Keys.{Ascending}
use Rattle.program.specs.Decoded.{edge_of}
use Rattle.base.proofs.EntriesInUse.{in_use_same}
use Rattle.prune.proofs.KeptExact.{used_fits, used_counted, its_tables, settled_shows}
use Rattle.prune.proofs.keep_supported.Goals as goal
use Rattle.prune.proofs.keep_supported.Goals.{Start}

-- the table has room for so many keys
edges_room : (z : Start) → length z.args.edges.keys ≡ max_edges
edges_room z = search rules

pub slice_bounds-keys-end : goal.slice_bounds-keys-end
slice_bounds-keys-end c = used_fits _ c.args.edges.keys (edges_room (goal.at.slice_bounds-keys-end c).Start) c.in_use-m.ensures

pub slice_bounds-keep_all-end : goal.slice_bounds-keep_all-end
slice_bounds-keep_all-end c = used_counted _ _ (edges_room (goal.at.slice_bounds-keep_all-end c).Start) c.in_use-m.ensures

pub keep_all-requires : goal.keep_all-requires
keep_all-requires c =
    let same = in_use_same c.args.edges.count c.args.edges.keys (edges_room (goal.at.keep_all-requires c).Start) c.in_use-m.ensures in
    record { usable = (c.requires.usable.0, c.requires.usable.1, subst (λ (ks : List ℕ). Ascending 0 (map edge_key (map edge_of ks))) (sym same) c.requires.usable.2); marks_len = c.requires.marks_len }

pub returns : goal.returns
returns c p w sz e a s =
    let t = its_tables _ c.requires.usable.0 p w sz c.args.edges e a (edges_room (goal.at.returns c).Start) c.in_use-m.ensures in
    settled_shows _ c.requires.usable.0 t c.args.marks.now s c.keep_all.ensures
