use Rattle.std.proofs.Common.{◌^◌, ◌≤◌, cond, eqb, length, ◌∙◌, rules, tests, arith}
use Rattle.std.proofs.lemmas.Iterator.{YieldsList-from_map, YieldsList-from_slice}
use Rattle.std.proofs.lemmas.Iterator.Adapters.{fits_from_length, at_most_from_yields_List}
use Rattle.std.proofs.lemmas.Iterator.Consumers.{sum_by_from_yields_List, YieldsList-at}
use Rattle.rules.proofs.Tests.{times_summed}
use Rattle.rules.proofs.sequence.times_named.Goals as goal

pub sum-requires-clause-fits : goal.sum-requires-clause-fits
sum-requires-clause-fits c =
    let few : length c.args.seats.now ≤ 2 ^ 63 = search rules in
    fits_from_length _ _ (2 ^ 63) (2 ^ 64) (at_most_from_yields_List (YieldsList-from_slice c.args.seats.now cc) few) c.map.ensures.closure (omega arith) (λ x r q k. search (rules, tests))

pub returns : goal.returns
returns c =
    let seats = c.args.seats.now in
    sum_by_from_yields_List (λ s. cond (eqb s c.args.seat) 1 0) seats c.map.result c.sum.result c.sum.ensures.ran
    (YieldsList-from_map _ (λ s. cond (eqb s c.args.seat) 1 0) (YieldsList-at c.map.ensures.source (YieldsList-from_slice seats cc)) c.map.ensures.closure (λ x r q k. search (rules, tests)))
    ∙ times_summed c.args.seat seats
