use Rattle.std.proofs.Common.{map}
use Rattle.std.specs.Prelude.{string_bytes}
use Rattle.handler_table.specs.Shelf.{marks_of}
use Rattle.script_runs.specs.Outputs.{output_of}
use Rattle.text_commands.specs.Outputs.{whole}
use Rattle.text_commands.proofs.Answering.{nothing_yet}
use Rattle.input_commands.proofs.alone.carry_out.Goals as goal

pub returns-in-Err-clause-front : goal.returns-in-Err-clause-front
returns-in-Err-clause-front g c =
    nothing_yet (output_of (map marks_of c.args.shelves.items) (map string_bytes c.args.words.now)
    (g.S.Source.left c.args.input.now)) whole (g.K.Sink.written c.args.out.now)
