use Rattle.std.proofs.Common.{arith, rules}
use Rattle.std.proofs.lemmas.Nat.{mul-le}
use Rattle.book.proofs.state.Series.rate.Goals as goal

pub returns : goal.returns
returns c = record { value = search rules; bound = mul-le c.from.result c.from-2.result 400000 5000 (omega arith) (omega arith) }
