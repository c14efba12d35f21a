use Rattle.std.proofs.Common.{eqb, ◌∙◌, rules, tests}
use Rattle.std.proofs.lemmas.Iterator.{YieldsList-from_slice}
use Rattle.std.proofs.lemmas.Iterator.Search.{all_from_yields_List}
use Rattle.rules.specs.Sequences.{times}
use Rattle.rules.proofs.Tests.{each_tested}
use Rattle.rules.proofs.sequence.each_named_once.Goals as goal

pub returns : goal.returns
returns c =
    all_from_yields_List (λ s. eqb (times s c.args.seats.now) 1) _ _ c.all.result c.all.ensures.ran (YieldsList-from_slice c.args.sought.now cc) (λ x b q k. search (rules, tests))
    ∙ each_tested c.args.sought.now c.args.seats.now
