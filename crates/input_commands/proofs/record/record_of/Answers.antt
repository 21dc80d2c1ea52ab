use Rattle.std.proofs.Common.{map}
use Rattle.handler_table.specs.Shelf.{marks_of}
use Rattle.play_script.specs.Script.{script_of}
use Rattle.script_runs.proofs.Logged.{fault_recorded, script_recorded}
use Rattle.text_commands.proofs.Roots.{few_of}
use Rattle.input_commands.proofs.record.record_of.Goals as goal

pub record_script-requires-clause-roots : goal.record_script-requires-clause-roots
record_script-requires-clause-roots g c = few_of c.args.bytes.now c.in-Ok.script c.in-Ok.ensures

pub returns-in-Ok : goal.returns-in-Ok
returns-in-Ok g c =
    script_recorded (map marks_of c.args.shelves.items) (script_of c.args.bytes.now) c.in-Ok.script
    c.record_script.result c.in-Ok.ensures c.record_script.ensures

pub returns-in-Err : goal.returns-in-Err
returns-in-Err g c =
    fault_recorded (map marks_of c.args.shelves.items) (script_of c.args.bytes.now) c.in-Err.refusal
    c.stop_of_fault.result c.in-Err.ensures c.stop_of_fault.ensures
