use Rattle.std.proofs.Common.{map}
use Rattle.handler_table.specs.Shelf.{marks_of}
use Rattle.play_script.specs.Script.{script_of}
use Rattle.script_runs.proofs.Fronts.{script_front}
use Rattle.text_commands.proofs.Roots.{few_of}
use Rattle.input_commands.proofs.script.play_bytes.Goals as goal

pub play_script-requires-clause-roots : goal.play_script-requires-clause-roots
play_script-requires-clause-roots g c = few_of c.args.bytes.now c.in-Ok.script c.in-Ok.ensures

pub returns-in-Ok-clause-front : goal.returns-in-Ok-clause-front
returns-in-Ok-clause-front g c =
    script_front (map marks_of c.args.shelves.items) (script_of c.args.bytes.now) c.in-Ok.script _ _
    c.in-Ok.ensures c.play_script.ensures.performs.front
