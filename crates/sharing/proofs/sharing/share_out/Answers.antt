use Rattle.std.proofs.Common.{map, sym}
use Rattle.std.proofs.lemmas.List.{length-map}
use Rattle.sharing.specs.Sharing.{shares}
use Rattle.sharing.proofs.Shares.{same_told, shares_told}
use Rattle.sharing.proofs.Laws.{fair_shares, weighed_ok}
use Rattle.sharing.proofs.sharing.share_out.Goals as goal

pub returns : goal.returns
returns g c =
    let give = g.T.WeighedClaim.given in let holder = g.T.Owned.holder in let f = g.T.Weighed.weighs in let gets = g.T.WeighedClaim.gets in
    let xs = c.args.claims.now in let a = c.args.amount in let ys = c.write_shares.new.claims in
    let ok = weighed_ok (map holder xs) (map f xs) a c.in_ok-whole.whole c.in_ok-whole.ensures in
    let done = c.write_shares.ensures in
    record {
      answers = ok.0;
      settles = done;
      owners = same_told give holder g.met.T.WeighedClaim.keeps_owner xs (shares (map f xs) a) ys done;
      weights = same_told give f g.met.T.WeighedClaim.keeps_weight xs (shares (map f xs) a) ys done;
      fair = fair_shares (map f xs) a (map gets ys) ok.1 (shares_told give gets g.met.T.WeighedClaim.sets_share xs (map f xs) a ys (sym (length-map xs f)) done);
    }
