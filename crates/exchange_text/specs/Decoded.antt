-- What was read, as the code has it, and what it stands for.
use Rattle.std.specs.Prelude.{Result, Ok, Err}
use Rattle.program.specs.Refusals.{number}
use Rattle.program.specs.declared.refusal.Refusal.{Refusal}
use Rattle.exchange.specs.Changes.{whole, ChangeRead, Read, Refused}
use Rattle.exchange.specs.Decoded.{exchange_of}
use Rattle.exchange.specs.declared.DecodedExchange.{DecodedExchange}

abbrev pub read_of : Result DecodedExchange Refusal → ChangeRead
read_of (Ok x) = Read (whole (exchange_of x))
read_of (Err r) = Refused (number r)
