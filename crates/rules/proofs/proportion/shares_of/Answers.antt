use Rattle.std.proofs.Common.{◌∙◌, sym, rules}
use Rattle.sharing.proofs.Made.{each_mapped}
use Rattle.rules.proofs.proportion.shares_of.Goals as goal

pub returns : goal.returns
returns c =
    let mapped = c.map.ensures.items in
    each_mapped _ c.args.claims.now c.map.result (mapped.long ∙ sym c.told-claims) (λ k x y h. let t = mapped.at k x y (search rules) in search rules)
