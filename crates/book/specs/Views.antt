-- A book read as a ledger: its fields as plain lists and whole numbers.
use Rattle.std.specs.Prelude.{List, map, take}
use Rattle.ledger.specs.Numbers.{market_number}
use Rattle.ledger.specs.Ledger.{Net, Row, Ledger}
use Rattle.book.specs.declared.state.Position.{Position}
use Rattle.book.specs.declared.state.Series.{Series}
use Rattle.book.specs.declared.state.Book.{Book}

abbrev pub net_from : Position → Net
net_from p = record { volume = p.volume; cost = p.cost }

abbrev pub row_from : Series → Row
row_from s = record {
  code = s.code;
  market = market_number s.market;
  size = s.size;
  price = s.price;
  risk = s.risk;
  nets = map net_from s.positions;
}

-- the listed series, in listing order
abbrev pub rows_of : Book → List Row
rows_of b = take b.count (map row_from b.series)

abbrev pub ledger_of : Book → Ledger
ledger_of b = record { stage = b.stage; members = b.members; rows = rows_of b }
