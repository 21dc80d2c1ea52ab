use Rattle.std.proofs.Common.{map, refl, ◌∙◌}
use Rattle.std.proofs.Math.Path.{subst}
use Rattle.handler_table.specs.Shelf.{marks_of}
use Rattle.event_runs.specs.Playing.{Played}
use Rattle.script_runs.specs.Playing.{page_played}
use Rattle.script_runs.specs.Performing.{Performs}
use Rattle.text_commands.specs.Writing.{written_as}
use Rattle.input_commands.proofs.Summing.{at_start, begun, made_no_fault}
use Rattle.input_commands.proofs.script.play_script.Goals as goal

pub new-events-requires-clause-none : goal.new-events-requires-clause-none
new-events-requires-clause-none g c = record { run = _; stands = c.in-Ok-new.ensures.stands; none = λ i. refl }

pub returns-in-Ok-new-clause-performs : goal.returns-in-Ok-new-clause-performs
returns-in-Ok-new-clause-performs g c =
    let shelves = map marks_of c.args.shelves.items in
    let roots = c.in-Ok.roots.items in
    let before = written_as (g.K.Sink.written c.args.out.now) in
    let after = written_as (g.K.Sink.written c.play_on.new.out) in
    let Ends : Played → Type 0 = λ p. Performs before after p c.play_on.result in
    subst (λ rs. Ends (page_played shelves rs c.args.script.now.lines)) (c.in-Ok.ensures ∙ c.roots.ensures)
    (subst (λ ls. Ends (page_played shelves roots ls)) c.commands.ensures
    (begun shelves roots c.commands.result c.new-events.result Ends
    (λ none. made_no_fault c.new.result c.in-Ok-new.world _ c.in-Ok-new.is (c.new.ensures.none.1 none))
    (c.new-events.ensures.stands _ c.in-Ok-new.ensures.stands (λ i. refl))
    (c.new-events.ensures.logged (at_start shelves roots)) c.play_on.ensures.performs))
