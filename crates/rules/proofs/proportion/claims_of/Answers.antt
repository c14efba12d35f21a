use Rattle.std.proofs.Common.{◌∙◌, sym, rules}
use Rattle.rules.proofs.Tests.{each_claimed}
use Rattle.rules.proofs.proportion.claims_of.Goals as goal

pub returns : goal.returns
returns c =
    let made = c.from_fn.ensures.items in
    each_claimed 1 c.args.needs.now c.from_fn.result (made.long ∙ sym c.told-needs) (λ k d h. let t = made.at k d (search rules) in search rules)
