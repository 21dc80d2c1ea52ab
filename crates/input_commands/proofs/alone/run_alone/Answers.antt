use Rattle.std.proofs.Common.{ap, map, sym, ◌∙◌}
use Rattle.std.specs.Prelude.{string_bytes}
use Rattle.std.proofs.Math.Path.{subst}
use Rattle.handler_table.specs.Shelf.{marks_of}
use Rattle.command_ends.specs.Ends.{number}
use Rattle.command_words.specs.Words.{command_of}
use Rattle.script_runs.specs.Outputs.{output_of}
use Rattle.text_commands.specs.Runs.{AnswersWords, IsComplete, ReadsInput, WritesOutput}
use Rattle.text_commands.proofs.Telling.{answers_words, is_complete, reads_input_so, writes_output}
use Rattle.input_commands.proofs.alone.run_alone.Goals as goal

pub returns-clause-words : goal.returns-clause-words
returns-clause-words g c =
    let carried = c.carry_out-ended in
    let told = c.tell_end in
    let command = command_of (map string_bytes c.args.words.now) in
    let a = g.K.Sink.written c.args.out.now in
    let b = g.K.Sink.written carried.new.out in
    let z = g.K.Sink.written told.new.out in
    let before = g.K.Sink.faults c.args.out.now in
    let between = g.K.Sink.faults carried.new.out in
    let now = g.K.Sink.faults told.new.out in
    subst (AnswersWords command a z before now) (sym (c.number.ensures ∙ ap number told.ensures.is))
    (answers_words command a b z before between now carried.result carried.ensures.words carried.ensures.no_command
    (λ e. ap g.K.Sink.written (carried.ensures.silent e)) told.ensures.front told.ensures.whole carried.ensures.later)

pub returns-clause-output : goal.returns-clause-output
returns-clause-output g c =
    let carried = c.carry_out-ended in
    let told = c.tell_end in
    let output = output_of (map marks_of c.args.shelves.items) (map string_bytes c.args.words.now)
    (g.S.Source.left c.args.input.now) in
    let a = g.K.Sink.written c.args.out.now in
    let b = g.K.Sink.written carried.new.out in
    let z = g.K.Sink.written told.new.out in
    let before = g.K.Sink.faults c.args.out.now in
    let between = g.K.Sink.faults carried.new.out in
    let now = g.K.Sink.faults told.new.out in
    subst (WritesOutput output a z before now) (sym (c.number.ensures ∙ ap number told.ensures.is))
    (writes_output output a b z before between now carried.result carried.ensures.done carried.ensures.front
    carried.ensures.stops told.ensures.front told.ensures.whole
    (λ silent. sym (ap g.K.Sink.written (told.ensures.silent silent))) carried.ensures.later)

pub returns-clause-complete : goal.returns-clause-complete
returns-clause-complete g c =
    let carried = c.carry_out-ended in
    let output = output_of (map marks_of c.args.shelves.items) (map string_bytes c.args.words.now)
    (g.S.Source.left c.args.input.now) in
    subst (IsComplete output) (sym (c.number.ensures ∙ ap number c.tell_end.ensures.is))
    (is_complete output (g.K.Sink.written c.args.out.now) (g.K.Sink.written carried.new.out) carried.result
    carried.ensures.done carried.ensures.stops)

pub returns-clause-input : goal.returns-clause-input
returns-clause-input g c =
    let carried = c.carry_out-ended in
    let told = c.tell_end in
    let command = command_of (map string_bytes c.args.words.now) in
    let left = g.S.Source.left carried.new.input in
    let before = g.S.Source.faults c.args.input.now in
    let now = g.S.Source.faults carried.new.input in
    let a = g.K.Sink.written c.args.out.now in
    let b = g.K.Sink.written carried.new.out in
    let z = g.K.Sink.written told.new.out in
    subst (ReadsInput command left before now a z) (sym (c.number.ensures ∙ ap number told.ensures.is))
    (reads_input_so command left before now a b z carried.result carried.ensures.end carried.ensures.unread
    carried.ensures.unread_silent carried.ensures.unread_reads
    (λ silent. sym (ap g.K.Sink.written (told.ensures.silent silent))))
