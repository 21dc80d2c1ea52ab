use Rattle.std.proofs.Common.{map}
use Rattle.handler_table.specs.Shelf.{marks_of}
use Rattle.script_runs.specs.Outputs.{output_of_record}
use Rattle.text_commands.specs.Outputs.{whole}
use Rattle.text_commands.proofs.Answering.{nothing_yet}
use Rattle.input_commands.proofs.record.record.Goals as goal

pub returns-in-Err-clause-front : goal.returns-in-Err-clause-front
returns-in-Err-clause-front g c =
    nothing_yet (g.S.Source.left c.args.input.now)
    (λ bytes. whole (output_of_record (map marks_of c.args.shelves.items) bytes)) (g.K.Sink.written c.args.out.now)
