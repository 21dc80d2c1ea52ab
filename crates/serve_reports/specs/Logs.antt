-- The lines of the program's own clients.
use Rattle.std.specs.Prelude.{ℕ, List, [], ◌∷◌, ◌++◌, Option, Some, None}
use Rattle.std.specs.Global.{Vec}
use Rattle.std.specs.List.Sorted.{IsPermutation, IsSortedByKey, IsStableByKey}
use Rattle.std.specs.Ordering.{nat_cmp}
use Rattle.output_lines.specs.declared.out_line.OutLine.{OutLine}
use Rattle.output_lines.specs.declared.out_line.OutLine.TheVariants as lines
use Rattle.output_lines.specs.declared.words.EndWord.{EndWord}
use Rattle.output_lines.specs.declared.words.EndWord.TheVariants as words
use Rattle.sessions.specs.declared.ended.Ended.{Ended}
use Rattle.sessions.specs.declared.ended.Ended.TheVariants.{Closed, LinkFault, BadMessage, Stopped, NoMemory}
use Rattle.sessions.specs.declared.ended.Ended.TheVariants.{Unexpected, InstancesFull}
use Rattle.sessions.specs.declared.log.Log.{Log}

-- the word for how a session ended, where it wasn't closed
abbrev pub end_word : Ended → Option EndWord
end_word Closed = None
end_word LinkFault = Some words.Link
end_word (BadMessage fault) = Some words.Message
end_word Stopped = Some words.Stopped
end_word NoMemory = Some words.Memory
end_word (Unexpected wanted got) = Some words.Unexpected
end_word InstancesFull = Some words.Instances

-- the line of it
abbrev pub worded : ℕ → Option EndWord → List OutLine
worded client None = []
worded client (Some word) = lines.Ended client word ∷ []

abbrev pub end_line : ℕ → Ended → List OutLine
end_line client ended = worded client (end_word ended)

-- the lines of a session, and behind them how it ended; of a job that was given up there are none
abbrev pub session_lines : ℕ → Option (Ended × Vec OutLine) → List OutLine
session_lines client None = []
session_lines client (Some session) = session.1.items ++ end_line client session.0

abbrev pub log_lines : Log → List OutLine
log_lines log = session_lines log.client log.session

-- the logs by the numbers of their clients; those of one number stand as they were given
pub record AreInOrder (given ordered : List Log) : Type 0 where
  pub same : IsPermutation given ordered
  pub rise : IsSortedByKey (λ (log : Log). log.client) nat_cmp ordered
  pub stable : IsStableByKey (λ (log : Log). log.client) nat_cmp given ordered
