use Rattle.std.proofs.Common.{refl}
use Rattle.book.proofs.Fields.{listing_within}
use Rattle.book.proofs.state.Series.listed.Goals as goal

pub invariant_of-result : goal.invariant_of-result
invariant_of-result c =
    let w = listing_within c.deref.result.now c.deref.ensures.1 in
    record { coded = w.code; sized = w.size; priced = w.price; risky = w.risk; seats = refl }
