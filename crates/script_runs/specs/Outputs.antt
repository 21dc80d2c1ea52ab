-- What the program answers and writes for the words and the input that it is given.
use Rattle.std.specs.Prelude.{ℕ, List, [], length, nat_le}
use Rattle.std.specs.Prelude.{Bool, true, false, Option, Some, None, Result, Ok, Err}
use Rattle.std.specs.Option.{option_map}
use Rattle.hmr_types.specs.declared.limits.TheConstants.{SCRIPT_BYTES}
use Rattle.core_model.specs.Core.{Event}
use Rattle.core_model.specs.Names.{Name}
use Rattle.core_model.specs.Sources.{Text}
use Rattle.world_model.specs.Playing.{Stage}
use Rattle.event_runs.specs.Logs.{fits}
use Rattle.event_runs.specs.Playing.{Played}
use Rattle.play_script.specs.declared.fault.ScriptFault.{ScriptFault}
use Rattle.play_script.specs.Script.{Contents, script_of}
use Rattle.command_ends.specs.declared.limit.Limit.TheVariants as limits
use Rattle.command_words.specs.declared.command.Command.{Command}
use Rattle.command_words.specs.declared.command.Command.TheVariants as commands
use Rattle.command_words.specs.Words.{command_of}
use Rattle.made_scripts.specs.Making.{generated}
use Rattle.made_scripts.specs.Summary.{summary}
use Rattle.script_runs.specs.Instances.{first_made}
use Rattle.script_runs.specs.Playing.{script_played, stage_on}
use Rattle.script_runs.specs.Recording.{events_of, events_text}
use Rattle.text_commands.specs.Outputs.{Output, at_fault, at_limit, finished, lines_text, output_of_audit, output_of_check, usage}

-- the output of a run that came to its end, or didn't
abbrev pub ended : Bool → List ℕ → Output
ended false text = finished text
ended true text = at_limit limits.Instances text

abbrev pub output_of_run : Played → Output
output_of_run p = ended p.over (lines_text p.lines)

-- the output of a script, or of its first fault
abbrev pub output_of_script : List (List (Text × ℕ)) → Result Contents ScriptFault → Output
output_of_script shelves (Ok script) = output_of_run (script_played shelves script)
output_of_script shelves (Err fault) = at_fault fault

-- the output of an input of at most so many bytes, or of more
abbrev pub output_within : List (List (Text × ℕ)) → List ℕ → Bool → Output
output_within shelves bytes true = output_of_script shelves (script_of bytes)
output_within shelves bytes false = at_limit limits.Script []

-- the output of `play`: the lines of the script that the input is
abbrev pub output_of_play : List (List (Text × ℕ)) → List ℕ → Output
output_of_play shelves bytes = output_within shelves bytes (nat_le (length bytes) SCRIPT_BYTES)

-- the output of a generated run that came to its end, or didn't: its summary, or the limit alone
abbrev pub summed_up : Bool → List ℕ → Output
summed_up false text = finished text
summed_up true text = at_limit limits.Instances []

abbrev pub summary_of_run : Stage → ℕ → Played → Output
summary_of_run stage count p = summed_up p.over (summary count (first_made stage p) p.lines)

-- the output of `make`: the summary of the run of the script that is generated
abbrev pub output_of_make : List (List (Text × ℕ)) → ℕ → ℕ → Output
output_of_make shelves count seed =
    summary_of_run (stage_on shelves (generated count seed).roots) count
    (script_played shelves (generated count seed))

-- the output of a run whose events have places in a transcript or not, and that came to its end or didn't:
-- their record, or a limit alone
abbrev pub recorded : Bool → Bool → List Name → List Event → Output
recorded true false roots events = finished (events_text roots events)
recorded true true roots events = at_limit limits.Instances []
recorded false over roots events = at_limit limits.Transcript []

abbrev pub record_of_run : Stage → Played → Output
record_of_run stage p =
    let events = events_of stage p in
    recorded (fits events) p.over stage.roots events

-- the record of a script, or its first fault
abbrev pub record_of_script : List (List (Text × ℕ)) → Result Contents ScriptFault → Output
record_of_script shelves (Ok script) =
    record_of_run (stage_on shelves script.roots) (script_played shelves script)
record_of_script shelves (Err fault) = at_fault fault

-- the record of an input of at most so many bytes, or of more
abbrev pub record_within : List (List (Text × ℕ)) → List ℕ → Bool → Output
record_within shelves bytes true = record_of_script shelves (script_of bytes)
record_within shelves bytes false = at_limit limits.Script []

-- the output of `record`: the record of the run of the script that the input is
abbrev pub output_of_record : List (List (Text × ℕ)) → List ℕ → Output
output_of_record shelves bytes = record_within shelves bytes (nat_le (length bytes) SCRIPT_BYTES)

-- the output of a command, or of none, where the input tells the bytes that it reads and each client's
-- embedding program has these closures. What `serve` and `join` write hangs on others: it is told apart.
abbrev pub output_meant : List (List (Text × ℕ)) → Option Command → Option (List ℕ) → Option Output
output_meant shelves None left = Some usage
output_meant shelves (Some commands.Play) left = option_map (output_of_play shelves) left
output_meant shelves (Some (commands.Check name)) left = option_map (output_of_check name) left
output_meant shelves (Some (commands.Make count seed)) left = Some (output_of_make shelves count seed)
output_meant shelves (Some (commands.Serve plan)) left = None
output_meant shelves (Some (commands.Join port roots turns)) left = None
output_meant shelves (Some (commands.Page folder)) left = None
output_meant shelves (Some commands.Record) left = option_map (output_of_record shelves) left
output_meant shelves (Some commands.Audit) left = option_map output_of_audit left

-- the output of these words, where the input tells the bytes that they read
abbrev pub output_of : List (List (Text × ℕ)) → List (List ℕ) → Option (List ℕ) → Option Output
output_of shelves words left = output_meant shelves (command_of words) left
