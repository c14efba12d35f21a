use Rattle.std.proofs.Common.{eqb, ◌∙◌, rules, tests}
use Rattle.std.proofs.lemmas.Iterator.{YieldsList-from_slice}
use Rattle.std.proofs.lemmas.Iterator.Search.{position_from_yields_List}
use Rattle.book.specs.declared.state.Series.{Series}
use Rattle.book.proofs.Places.{found_place}
use Rattle.book.proofs.state.Book.find.Goals as goal

pub returns : goal.returns
returns c =
    let found = position_from_yields_List (λ (s : Series). eqb s.code c.args.code) _ _ c.position.result c.position.ensures.ran
    (YieldsList-from_slice _ (c.iter.ensures.rest ∙ c.listed.ensures)) (λ x b q k. search (rules, tests)) in
    let w = found_place c.args.self.now c.args.code c.position.result found in
    record { listed = w.0; found = w.1 }
