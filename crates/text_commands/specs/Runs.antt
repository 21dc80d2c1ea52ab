-- What the status of a run says of its words, its input and its output.
use Rattle.std.specs.Prelude.{◌≡◌, ◌⊎◌, ℕ, true, false, List, Option, None, IfSome}
use Rattle.std.specs.Io.KnownBytes.{Appends, IsAtEnd, Keeps}
use Rattle.hmr_base.specs.Causes.{Rose}
use Rattle.hmr_base.specs.Fronts.{WritesFront}
use Rattle.command_words.specs.declared.command.Command.{Command}
use Rattle.command_words.specs.Words.{usage_line}
use Rattle.text_commands.specs.Outputs.{Output, whole}
use Rattle.text_commands.specs.Inputs.{is_page, reads_input}
use Rattle.text_commands.specs.Writing.{WritesBehind}

-- 2 comes exactly where the words are no command, or memory ran out; then the usage line is written, and the
-- whole of it unless the count of the output's faults rose
pub record AnswersWords (command : Option Command) (old new : Option (List ℕ)) (before now : ℕ) (status : ℕ)
    : Type 0 where
  pub words : status ≡ 2 → command ≡ None
  pub no_command : command ≡ None → (status ≡ 2) ⊎ (status ≡ 9)
  pub usage : status ≡ 2 → WritesFront old new usage_line
  pub usage_whole : status ≡ 2 → ¬ Rose before now → Appends old new usage_line

-- What is written is a front of the output that the definitions give, where they give one. It is the whole
-- at 0, and at 3 and 8 unless the count of the output's faults rose; at 8 all lines before the last stand
-- whole.
pub record WritesOutput (output : Option Output) (old new : Option (List ℕ)) (before now : ℕ) (status : ℕ)
    : Type 0 where
  pub front : IfSome output (λ o. WritesFront old new (whole o))
  pub done : status ≡ 0 → IfSome output (λ o. Appends old new (whole o))
  pub played : status ≡ 0 → IfSome output (λ o. o.status ≡ 0)
  pub no_script : status ≡ 3 → IfSome output (λ o. o.status ≡ 3)
  pub fault_whole : status ≡ 3 → ¬ Rose before now → IfSome output (λ o. Appends old new (whole o))
  pub limit : status ≡ 8 → IfSome output (λ o. o.status ≡ 8)
  pub limit_last : status ≡ 8 → IfSome output (λ o. WritesBehind old new o.lines o.last)
  pub limit_whole : status ≡ 8 → ¬ Rose before now → IfSome output (λ o. Appends old new (whole o))

-- the status is that of the output which the definitions give, unless the input or the output failed or
-- memory ran out
pub record IsComplete (output : Option Output) (status : ℕ) : Type 0 where
  pub done : IfSome output (λ o. o.status ≡ 0 → (status ≡ 0) ⊎ (status ≡ 4) ⊎ (status ≡ 5) ⊎ (status ≡ 9))
  pub faults : IfSome output (λ o. o.status ≡ 3 → (status ≡ 3) ⊎ (status ≡ 4) ⊎ (status ≡ 9))
  pub limits : IfSome output (λ o. o.status ≡ 8 → (status ≡ 8) ⊎ (status ≡ 4) ⊎ (status ≡ 5) ⊎ (status ≡ 9))

-- A command that reads its input as a whole reads it to its end where its status is 0. 4 comes only of such
-- a command or of `page`, where the count of the input's faults rose; of such a command nothing is written
-- then.
pub record ReadsInput (command : Option Command) (left : Option (List ℕ)) (before now : ℕ)
    (old new : Option (List ℕ)) (status : ℕ) : Type 0 where
  pub end : status ≡ 0 → reads_input command ≡ true → IsAtEnd left
  pub unread : status ≡ 4 → Rose before now
  pub unread_silent : status ≡ 4 → is_page command ≡ false → Keeps old new
  pub unread_reads : status ≡ 4 → is_page command ≡ false → reads_input command ≡ true
