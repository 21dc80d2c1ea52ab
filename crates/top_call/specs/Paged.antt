-- What `page` answers and writes.
use Rattle.std.specs.Prelude.{◌≡◌, ◌⊎◌, ℕ, ⊤, List, Option, Some, None, Result, Ok, Err}
use Rattle.command_words.specs.declared.command.Command.{Command}
use Rattle.command_words.specs.declared.command.Command.TheVariants as commands
use Rattle.command_ends.specs.Ends.{number}
use Rattle.command_ends.specs.declared.status.Status.TheVariants as statuses
use Rattle.page_command.specs.declared.stop.PageStop.{PageStop}
use Rattle.page_command.specs.declared.stop.PageStop.TheVariants as pages
use Rattle.page_command.specs.Folder.{Files}
use Rattle.page_command.specs.Pages.{Pages}

-- its statuses
abbrev pub IsPageStatus : ℕ → Type 0
IsPageStatus n = (n ≡ 0) ⊎ (n ≡ 4) ⊎ (n ≡ 5) ⊎ (n ≡ 6) ⊎ (n ≡ 8) ⊎ (n ≡ 9)

-- the status of its end
abbrev pub status_of_page : Result ⊤ PageStop → ℕ
status_of_page (Ok done) = number statuses.Done
status_of_page (Err pages.Unread) = number statuses.Unread
status_of_page (Err pages.Unwritten) = number statuses.Unwritten
status_of_page (Err pages.Tree) = number statuses.Tree
status_of_page (Err (pages.Limit limit)) = number statuses.Limit
status_of_page (Err pages.NoMemory) = number statuses.NoMemory

-- The requests of the input were answered by what a scan of the folder serves, or it stopped before. Behind
-- the answers stands the line of a limit where one was met.
pub record IsPaged (coming : Option (List Files)) (left old new : Option (List ℕ)) (before now : ℕ)
    (status : ℕ) : Type 0 where
  pub ended : Result ⊤ PageStop
  pub status_is : status ≡ status_of_page ended
  pub pages : Pages coming left old new before now ended

-- of the folder of `page`, where the words are that command
abbrev pub IfPage : Option Command → (List ℕ → Type 0) → Type 0
IfPage None told = ⊤
IfPage (Some commands.Play) told = ⊤
IfPage (Some (commands.Check name)) told = ⊤
IfPage (Some (commands.Make count seed)) told = ⊤
IfPage (Some (commands.Serve plan)) told = ⊤
IfPage (Some (commands.Join port roots turns)) told = ⊤
IfPage (Some (commands.Page folder)) told = told folder
IfPage (Some commands.Record) told = ⊤
IfPage (Some commands.Audit) told = ⊤
