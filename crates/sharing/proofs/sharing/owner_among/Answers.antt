use Rattle.std.proofs.Common.{eqb, ◌∙◌, rules}
use Rattle.std.proofs.lemmas.Iterator.{YieldsList-from_slice}
use Rattle.std.proofs.lemmas.Iterator.Search.{any_from_yields_List}
use borrow.Author.Tests.{tests}
use Rattle.sharing.proofs.Owners.{any_owner}
use Rattle.sharing.proofs.sharing.owner_among.Goals as goal

pub returns : goal.returns
returns g c =
    any_from_yields_List (λ x. eqb (g.T.Owned.holder x) c.args.owner) _ _ c.any.result c.any.ensures.ran (YieldsList-from_slice c.args.claims.now cc) (λ x b q k. search (rules, tests))
    ∙ any_owner g.T.Owned.holder c.args.owner c.args.claims.now
