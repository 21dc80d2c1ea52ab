-- Which commands read the input, and which work on it alone.
use Rattle.std.specs.Prelude.{⊤}
use Rattle.std.specs.Prelude.{Bool, true, false, Option, Some, None}
use Prim.{⊥}
use Rattle.command_words.specs.declared.command.Command.{Command}
use Rattle.command_words.specs.declared.command.Command.TheVariants as commands

-- the words are a command that reads its input
abbrev pub reads_input : Option Command → Bool
reads_input None = false
reads_input (Some commands.Play) = true
reads_input (Some (commands.Check name)) = true
reads_input (Some (commands.Make count seed)) = false
reads_input (Some (commands.Serve plan)) = plan.edits
reads_input (Some (commands.Join port roots turns)) = false
reads_input (Some (commands.Page folder)) = false
reads_input (Some commands.Record) = true
reads_input (Some commands.Audit) = true

-- the words are `page`, which reads its input request by request
abbrev pub is_page : Option Command → Bool
is_page None = false
is_page (Some commands.Play) = false
is_page (Some (commands.Check name)) = false
is_page (Some (commands.Make count seed)) = false
is_page (Some (commands.Serve plan)) = false
is_page (Some (commands.Join port roots turns)) = false
is_page (Some (commands.Page folder)) = true
is_page (Some commands.Record) = false
is_page (Some commands.Audit) = false

-- a command that works on its input alone
abbrev pub WorksAlone : Command → Type 0
WorksAlone commands.Play = ⊤
WorksAlone (commands.Check name) = ⊤
WorksAlone (commands.Make count seed) = ⊤
WorksAlone (commands.Serve plan) = ⊥
WorksAlone (commands.Join port roots turns) = ⊥
WorksAlone (commands.Page folder) = ⊥
WorksAlone commands.Record = ⊤
WorksAlone commands.Audit = ⊤
