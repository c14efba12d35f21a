use Rattle.std.proofs.Common.{arith, rules}
use Rattle.sharing.proofs.Made.{array_made, total_is}
use Rattle.checklist.proofs.Divisions.{calls_total, called_is}
use Rattle.checklist.proofs.division.division_from.Goals as goal

pub sum_of-requires : goal.sum_of-requires
sum_of-requires c = omega (arith, total_is c.args.needs.now)

pub sum_of-requires-2 : goal.sum_of-requires-2
sum_of-requires-2 c = omega (arith, total_is c.args.shares.now, calls_total c.args.needs.now c.args.shares.now c.told-needs c.told-shares c.requires.within)

pub called_of-requires : goal.called_of-requires
called_of-requires c =
    let are = array_made _ 8 c.from_fn-parts.result record { need = 0; share = 0; call = 0 } c.from_fn-parts.ensures.items (λ k x q h t. (search rules, search rules)) in
    omega (
      arith,
      called_is c.args.needs.now c.args.shares.now c.from_fn-parts.result are,
      calls_total c.args.needs.now c.args.shares.now c.told-needs c.told-shares c.requires.within,
    )

pub returns : goal.returns
returns c =
    let are = array_made _ 8 c.from_fn-parts.result record { need = 0; share = 0; call = 0 } c.from_fn-parts.ensures.items (λ k x q h t. (search rules, search rules)) in
    let called = called_is c.args.needs.now c.args.shares.now c.from_fn-parts.result are in
    let t = calls_total c.args.needs.now c.args.shares.now c.told-needs c.told-shares c.requires.within in
    let n = total_is c.args.needs.now in let s = total_is c.args.shares.now in
    record { is = cc; adds = omega arith }
