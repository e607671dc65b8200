use borrow.Author.Rules.{rules}
use Rattle.exchange.proofs.TablesJoined.{Joining, end_joined}
use Rattle.exchange.proofs.apply.joined.Goals as goal
use Rattle.exchange.proofs.apply.joined.Goals.{Start}

joining : (z : Start) → Joining z.args.t.keys z.args.t.count z.args.at z.args.new.keys z.args.new.count
joining z =
    record {
      counted = z.requires.count_value.0;
      inside = z.requires.count_value.1;
      room = z.requires.len_bound;
      old_size = search rules;
      new_size = search rules;
    }

pub returns : goal.returns
returns c =
    end_joined (joining (goal.at.returns c).Start) c.in_use-used.ensures c.with_keys-middle.ensures c.with_keys-count.ensures
