-- What the command writes.
use Rattle.std.specs.Prelude.{◌≡◌, ◌⊎◌, ⊤, ℕ, List, [], Option, Result, Ok, Err, IfSome}
use Rattle.std.specs.Io.KnownBytes.{Appends}
use Rattle.hmr_base.specs.Causes.{Rose}
use Rattle.hmr_base.specs.Fronts.{WritesFront}
use Rattle.command_ends.specs.declared.limit.Limit.TheVariants as limits
use Rattle.http_exchange.specs.declared.exchange.HttpEnd.{HttpEnd}
use Rattle.http_exchange.specs.declared.exchange.HttpEnd.TheVariants as ends
use Rattle.http_exchange.specs.Serving.{Serves}
use Rattle.http_modules.specs.Rewriting.{body_of}
use Rattle.page_command.specs.declared.stop.PageStop.{PageStop}
use Rattle.page_command.specs.declared.stop.PageStop.TheVariants.{Unread, Unwritten, NoMemory}
use Rattle.page_command.specs.declared.stop.PageStop.TheVariants.{Limit as AtLimit}
use Rattle.page_command.specs.Folder.{Files, Opens, StopsEarly}
use Rattle.page_command.specs.Opening.{Edit, page_sources}
use Rattle.page_command.specs.Stops.{last_text}

abbrev pub Bytes : Type 0
Bytes = Option (List ℕ)

-- the end, where the exchange ended so
abbrev pub end_of : HttpEnd → Result ⊤ PageStop
end_of ends.Closed = Ok tt
end_of ends.ReadFault = Err Unread
end_of ends.WriteFault = Err Unwritten
end_of ends.Turns = Err (AtLimit limits.Turns)
end_of ends.NoMemory = Err NoMemory

-- The requests were answered by what the scan serves. Where the input tells its bytes, what was written is
-- the answers to their heads, or a front of them.
pub record Answers (coming : Option (List Files)) (left : Bytes) (old new : Bytes) (ended : Result ⊤ PageStop)
    : Type 0 where
  pub edits : List Edit
  pub opens : Opens coming edits
  pub end : HttpEnd
  pub ended_is : ended ≡ end_of end
  pub serves : IfSome left (λ bytes. Serves (body_of (page_sources edits)) bytes old new end)

-- nothing was written
pub record StoppedEarly (coming : Option (List Files)) (old new : Bytes) (ended : Result ⊤ PageStop)
    : Type 0 where
  pub stop : PageStop
  pub ended_is : ended ≡ Err stop
  pub stops : StopsEarly coming stop
  pub silent : Appends old new []

-- the one or the other
abbrev pub Answered : Option (List Files) → Bytes → Bytes → Bytes → Result ⊤ PageStop → Type 0
Answered coming left old new ended =
    Answers coming left old new ended ⊎ StoppedEarly coming old new ended

-- the same, and then the line of a limit where it ended by one: a front of it, and the whole unless the count
-- of the output's faults rose
pub record Pages (coming : Option (List Files)) (left : Bytes) (old new : Bytes) (before now : ℕ)
    (ended : Result ⊤ PageStop) : Type 0 where
  pub between : Bytes
  pub answered : Answered coming left old between ended
  pub line : WritesFront between new (last_text ended)
  pub line_whole : ¬ Rose before now → Appends between new (last_text ended)
