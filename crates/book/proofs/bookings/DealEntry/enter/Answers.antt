use Rattle.std.proofs.Common.{◌≡◌, rules}
use Rattle.book.proofs.Places.{deal_entered}
use Rattle.book.proofs.bookings.DealEntry.enter.Goals as goal

pub returns-clause-books : goal.returns-clause-books
returns-clause-books c =
    let d = c.args.fields.now in
    let read : c.deref.result.now ≡ d = c.deref.ensures.0 in
    let seat : c.in_ok-seat.seat ≡ d.seat = search rules in
    deal_entered c.args.book.now d c.in_ok-seat.seat c.in-Some.place c.index-series-place.result c.deal.new.self c.deal.result seat
    (rw read at c.in-Some.ensures.found) c.deal.ensures.deals
