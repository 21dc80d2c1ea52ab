use Rattle.std.proofs.Common.{map, refl}
use Rattle.handler_table.specs.Shelf.{marks_of}
use Rattle.input_commands.proofs.Summing.{at_start, from_start}
use Rattle.input_commands.proofs.make.summary_of.Goals as goal

pub returns : goal.returns
returns g c =
    from_start (map marks_of c.args.shelves.items) c.args.count c.args.seed c.in-Ok.script.roots.items
    c.in-Ok.script.lines.items c.new-events.result c.sum_up.result c.in-Ok.ensures.roots c.in-Ok.ensures.lines
    (c.new-events.ensures.stands _ c.in-Ok-new.ensures.stands (λ i. refl))
    (c.new-events.ensures.logged (at_start (map marks_of c.args.shelves.items) c.in-Ok.script.roots.items))
    c.sum_up.ensures

pub new-events-requires-clause-none : goal.new-events-requires-clause-none
new-events-requires-clause-none g c = record { run = _; stands = c.in-Ok-new.ensures.stands; none = λ i. refl }
