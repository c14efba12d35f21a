use Rattle.std.proofs.Common.{◌&&◌, length, sym, ap, ◌∙◌}
use Rattle.std.proofs.lemmas.Bool.{eq-eqb, ne_eqb}
use Rattle.rules.specs.Sequences.{full_order, each_once, eight_seats}
use Rattle.rules.proofs.sequence.is_full_order.Goals as goal

pub returns-then-seats-eq8 : goal.returns-then-seats-eq8
unfolding full_order
returns-then-seats-eq8 c =
    let seats = c.args.seats.now in
    c.each_named_once.ensures ∙ sym (ap (λ b. b && each_once eight_seats seats) (eq-eqb (length seats) 8 c.if-seats-eq8.true))

pub returns-else-seats-eq8 : goal.returns-else-seats-eq8
unfolding full_order
returns-else-seats-eq8 c =
    let seats = c.args.seats.now in let no = ne_eqb (length seats) 8 c.if-seats-eq8.false in
    no ∙ sym (ap (λ b. b && each_once eight_seats seats) no)
