-- Exchanges as they are kept by value, and the exchanges that they stand for.
use Rattle.std.specs.Prelude.{map}
use Rattle.program.specs.Decoded.{edge_keys_of, edge_of}
use Rattle.exchange.specs.Changes.{Exchange}
use Rattle.exchange.specs.declared.DecodedExchange.{DecodedExchange}

abbrev pub exchange_of : DecodedExchange → Exchange
exchange_of x = record { routine = x.routine; nodes = x.nodes; edges = map edge_of (edge_keys_of x.edges) }
