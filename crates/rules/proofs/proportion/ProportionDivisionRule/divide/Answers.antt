use Rattle.std.proofs.Common.{◌≡◌, length, rules}
use Rattle.rules.specs.ProportionsLemmas.{never_refused, answered}
use Rattle.rules.proofs.proportion.ProportionDivisionRule.divide.Goals as goal

pub returns-in_err-claims : goal.returns-in_err-claims
returns-in_err-claims c =
    let long : length c.args.needs.now ≡ 8 = search rules in
    absurd (never_refused c.args.needs.now c.args.amount _ long c.in_ok-dividable.ensures.may c.claims_of.ensures _ c.in_err-claims.ensures)

pub returns : goal.returns
returns c =
    let long : length c.args.needs.now ≡ 8 = search rules in
    record {
      answers = answered c.args.needs.now c.args.amount _ long c.in_ok-dividable.ensures.may c.claims_of.ensures _ _ c.in_ok-claims.ensures c.shares_of.ensures;
      stays = search rules;
    }
