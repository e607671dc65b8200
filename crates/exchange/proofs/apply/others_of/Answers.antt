use mathlib.Core.Path.{sym, ap, ◌∙◌}
use mathlib.Core.List.{map}
use lib.ListN.{length}
use Rattle.program.specs.Decoded.{edge_keys_of, edge_of}
use Rattle.exchange.proofs.OtherRoutines.{others_keys}
use Rattle.exchange.proofs.apply.others_of.Goals as goal

pub returns : goal.returns
returns c =
    let a = c.args in
    let r = c.remove_between-count.ensures in (
      ap (map edge_of) r.are
          ∙ others_keys c.first_key-low.result c.first_key-high.result a.f c.first_key-low.ensures c.first_key-high.ensures (edge_keys_of a.t),
      r.as_many ∙ ap length (sym r.are),
    )
