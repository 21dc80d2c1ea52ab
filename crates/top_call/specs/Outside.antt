-- What is answered, and what `serve` and `join` write.
use Rattle.std.specs.Prelude.{◌≡◌, ◌≢◌, ◌≤◌, ◌⊎◌, ℕ, ⊤, Bool, true, false, List, [], ◌∷◌}
use Rattle.std.specs.Prelude.{Option, Some, None, Result, Ok, Err}
use Rattle.std.specs.Io.KnownBytes.{Appends}
use Rattle.hmr_base.specs.Causes.{Rose}
use Rattle.hmr_base.specs.Fronts.{WritesFront}
use Rattle.core_model.specs.Sources.{Text}
use Rattle.client_model.specs.Runtime.{Opening}
use Rattle.play_script.specs.Edits.{Edit}
use Rattle.command_ends.specs.Ends.{limit_line, number}
use Rattle.command_ends.specs.declared.limit.Limit.TheVariants as limits
use Rattle.command_ends.specs.declared.status.Status.TheVariants as statuses
use Rattle.command_words.specs.declared.command.Command.{Command}
use Rattle.command_words.specs.declared.command.Command.TheVariants as commands
use Rattle.command_words.specs.declared.command.ServePlan.{ServePlan}
use Rattle.edit_input.specs.Inputs.{HasNoScript, HasScript}
use Rattle.folders.specs.Files.{MayOpen}
use Rattle.transport.specs.declared.net.Asked.{Asked}
use Rattle.transport.specs.declared.net.Asked.TheVariants.{Listen, Connect}
use Rattle.hmr_hub.specs.declared.pass.Pass.{Pass}
use Rattle.join_command.specs.declared.stop.JoinStop.{JoinStop}
use Rattle.join_command.specs.declared.stop.JoinStop.TheVariants as joins
use Rattle.join_command.specs.Joining.{JoinsAt}
use Rattle.folder_server.specs.Ends.{Files, ServeStop, Served, StopsEarly, Wrote, WroteEarly}
use Rattle.folder_server.specs.Ends.TheVariants as stops

-- no other status is answered
abbrev pub IsStatus : ℕ → Type 0
IsStatus n = n ≤ 10 × (n ≢ 1)

-- the status of a server's end
abbrev pub status_of_serve : Result (Unit {0}) ServeStop → ℕ
status_of_serve (Ok done) = number statuses.Done
status_of_serve (Err stops.Unwritten) = number statuses.Unwritten
status_of_serve (Err stops.Tree) = number statuses.Tree
status_of_serve (Err stops.Fault) = number statuses.Net
status_of_serve (Err (stops.Limit limit)) = number statuses.Limit
status_of_serve (Err stops.NoMemory) = number statuses.NoMemory

-- The server was begun, with the edits of the input. What it did and wrote is of its one transcript.
pub record IsServed (plan : ServePlan) (left : Option (List ℕ)) (coming : Option (List Files))
    (heard : Option ℕ) (old new : Option (List ℕ)) (before now : ℕ) (status : ℕ) : Type 0 where
  pub script : List Edit
  pub read : HasScript plan.edits left script
  pub ended : Result (Unit {0}) ServeStop
  pub status_is : status ≡ status_of_serve ended
  pub served : ((port : ℕ) × (p : Pass) × (heard ≡ Some port)
      × Served plan.roots coming script plan.rounds ended p × Wrote plan.recorded port p ended old new before now)
      ⊎ (StopsEarly plan.roots coming ended × WroteEarly ended old new before now)

-- the statuses of `serve`, and of `join`
abbrev pub IsServeStatus : ℕ → Type 0
IsServeStatus n = (n ≡ 0) ⊎ ((3 ≤ n) × (n ≤ 9))

abbrev pub IsJoinStatus : ℕ → Type 0
IsJoinStatus n = (n ≡ 0) ⊎ (n ≡ 5) ⊎ ((7 ≤ n) × (n ≤ 10))

-- the status of a client's end
abbrev pub status_of_join : Result ⊤ JoinStop → ℕ
status_of_join (Ok done) = number statuses.Done
status_of_join (Err joins.Unwritten) = number statuses.Unwritten
status_of_join (Err joins.NetFailed) = number statuses.Net
status_of_join (Err joins.InstancesFull) = number statuses.Limit
status_of_join (Err joins.BadAnswer) = number statuses.BadAnswer
status_of_join (Err joins.NoMemory) = number statuses.NoMemory

-- the line behind a client's lines
abbrev pub last_of_join : Result ⊤ JoinStop → List ℕ
last_of_join (Ok done) = []
last_of_join (Err joins.Unwritten) = []
last_of_join (Err joins.NetFailed) = []
last_of_join (Err joins.InstancesFull) = limit_line limits.Instances
last_of_join (Err joins.BadAnswer) = []
last_of_join (Err joins.NoMemory) = []

-- A client spoke with a server in the second format. Its lines are written, and behind them that of the
-- limit where its page would have had too many instances.
pub record IsJoined (opening : Opening) (turns : ℕ) (coming : Option (List (List ℕ)))
    (old new : Option (List ℕ)) (before now : ℕ) (status : ℕ) : Type 0 where
  pub result : Result ⊤ JoinStop
  pub status_is : status ≡ status_of_join result
  pub between : Option (List ℕ)
  pub joins : JoinsAt opening turns coming old between result
  pub last : WritesFront between new (last_of_join result)
  pub whole : ¬ Rose before now → Appends between new (last_of_join result)

-- the closures that the one client gets
abbrev pub first_shelf : List (List (Text × ℕ)) → List (Text × ℕ)
first_shelf [] = []
first_shelf (shelf ∷ shelves) = shelf

abbrev pub opening_of : List (List (Text × ℕ)) → List (List ℕ) → Opening
opening_of shelves roots = record { shelf = first_shelf shelves; roots = roots; format = 2 }

-- what `serve` does
pub data HasServed (plan : ServePlan) (left : Option (List ℕ)) (coming : Option (List Files))
    (heard : Option ℕ) (old new : Option (List ℕ)) (before now : ℕ) (status : ℕ) : Type 0 where
  begun : IsServed plan left coming heard old new before now status
      → HasServed plan left coming heard old new before now status
  unread : plan.edits ≡ true → HasNoScript left old new before now status
      → HasServed plan left coming heard old new before now status

-- of the plan of `serve`, where the words are that command
abbrev pub IfServe : Option Command → (ServePlan → Type 0) → Type 0
IfServe None told = ⊤
IfServe (Some commands.Play) told = ⊤
IfServe (Some (commands.Check name)) told = ⊤
IfServe (Some (commands.Make count seed)) told = ⊤
IfServe (Some (commands.Serve plan)) told = told plan
IfServe (Some (commands.Join port roots turns)) told = ⊤
IfServe (Some (commands.Page folder)) told = ⊤
IfServe (Some commands.Record) told = ⊤
IfServe (Some commands.Audit) told = ⊤

-- of the port, the roots and the turns of `join`, where the words are that command
abbrev pub IfJoin : Option Command → (ℕ → List (List ℕ) → ℕ → Type 0) → Type 0
IfJoin None told = ⊤
IfJoin (Some commands.Play) told = ⊤
IfJoin (Some (commands.Check name)) told = ⊤
IfJoin (Some (commands.Make count seed)) told = ⊤
IfJoin (Some (commands.Serve plan)) told = ⊤
IfJoin (Some (commands.Join port roots turns)) told = told port roots turns
IfJoin (Some (commands.Page folder)) told = ⊤
IfJoin (Some commands.Record) told = ⊤
IfJoin (Some commands.Audit) told = ⊤

abbrev pub is_join : Option Command → Bool
is_join None = false
is_join (Some commands.Play) = false
is_join (Some (commands.Check name)) = false
is_join (Some (commands.Make count seed)) = false
is_join (Some (commands.Serve plan)) = false
is_join (Some (commands.Join port roots turns)) = true
is_join (Some (commands.Page folder)) = false
is_join (Some commands.Record) = false
is_join (Some commands.Audit) = false

-- what the net may have been asked first: nothing, or by `serve` to listen, or by `join` to connect
abbrev pub MayAsk : Option Command → Option Asked → Type 0
MayAsk (Some (commands.Serve plan)) asked = (asked ≡ None) ⊎ (asked ≡ Some (Listen plan.port))
MayAsk (Some (commands.Join port roots turns)) asked = (asked ≡ None) ⊎ (asked ≡ Some (Connect port))
MayAsk other asked = asked ≡ None

-- which folder the tree may have been asked for: none, or by `serve` that of its plan, or by `page` its own
abbrev pub MayHaveOpened : Option Command → Option (List ℕ) → Type 0
MayHaveOpened (Some (commands.Serve plan)) asked = MayOpen asked plan.folder
MayHaveOpened (Some (commands.Page folder)) asked = MayOpen asked folder
MayHaveOpened other asked = asked ≡ None
