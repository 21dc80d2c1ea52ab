-- The program's commands, as the definitions have them.
use Rattle.std.specs.Prelude.{⊤}
use Rattle.event_runs.specs.Playing as model
use Rattle.event_runs.specs.Steps.{HasFormat, event_step_of}
use Rattle.script_runs.specs.declared.command.Command.{Command}
use Rattle.script_runs.specs.declared.command.Command.TheVariants as commands

-- a command, as the definitions have it
abbrev pub command_seen : Command → model.Command
command_seen (commands.Step s) = model.step (event_step_of s)
command_seen commands.SettleAll = model.settle_all
command_seen (commands.Turns i k) = model.turns i k

-- a client is opened in format 1 or 2
abbrev pub FitsFormat : Command → Type 0
FitsFormat (commands.Step s) = HasFormat s
FitsFormat commands.SettleAll = ⊤
FitsFormat (commands.Turns i k) = ⊤
