-- `program::chosen::largest_of` meets its contract: the own largest is that of std.
use Rattle.std.proofs.Common.{rules, ◌≡◌, sym, ap, ◌∙◌, length, take, max}
use Rattle.std.specs.List.{reduce}
use Rattle.std.proofs.lemmas.Iterator.{YieldsList-from_slice}
use Rattle.std.proofs.lemmas.Iterator.Adapters.{option_map_id}
use Rattle.std.proofs.lemmas.Iterator.Consumers.{YieldsList-from_copied, max_from_yields_List}
use Rattle.base.proofs.EntriesInUse.{in_use_same}
use Rattle.program.specs.Sizes.{max_routines}
use Rattle.program.specs.Chosen.{largest}
use Rattle.program.proofs.ChosenSizes.{largest_is}
use Rattle.program.proofs.chosen.largest_of.Goals as goal

pub returns : goal.returns
returns c =
    let n = c.args.nodes in
    let room : length n.list ≡ max_routines = search rules in
    let used = take c.in_use-count.result n.list in
    let road = YieldsList-from_copied (YieldsList-from_slice used (cc)) in
    let most : c.max.result ≡ reduce max used =
    sym (option_map_id _) ∙ max_from_yields_List c.copied.result _ c.max.ensures.ran road in
    c.unwrap_or.ensures ∙ rw most (largest_is used)
    ∙ ap largest (in_use_same n.count n.list room c.in_use-count.ensures)
