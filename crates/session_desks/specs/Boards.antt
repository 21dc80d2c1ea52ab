-- What each call of a board leaves.
use Rattle.std.specs.Prelude.{◌≡◌, ℕ, Bool, true, false, Result, Ok, Err, ⊤}
use Rattle.update_msgs.specs.declared.desk.HubStop.{HubStop}
use Rattle.core_model.specs.Core.{change}
use Rattle.core_model.specs.Sources.{result}
use Rattle.hmr_types.specs.Table.{is_version}
use Rattle.transforms.specs.Transform.{Transform}
use Rattle.events_and_replies.specs.declared.event.Reply.{Reply}
use Rattle.transform_pool.specs.Passes.{role_of}
use Rattle.hmr_hub.specs.Passes.{number_of}
use Rattle.session_desks.specs.declared.board.HubBoard.{HubBoard}
use Rattle.session_desks.specs.Telling.{Told}

-- no job will come any more
abbrev pub has_ended : HubBoard → Bool
has_ended board = (role_of board.jobs).ended

-- the same hub and queue, and a pass of the same number
pub record SameBoard (x y : HubBoard) : Type 0 where
  pub hub : y.hub ≡ x.hub
  pub number : number_of y.pass ≡ number_of x.pass
  pub queue : y.queue ≡ x.queue

-- nothing is told of an answer but that there is one
abbrev pub noted : Result Reply HubStop → Result ⊤ HubStop
noted (Ok reply) = Ok tt
noted (Err stop) = Err stop

-- the result was one event of the hub
pub record Settled (done : Transform) (version : ℕ) (x y : HubBoard)
    (answer : Result ⊤ HubStop) : Type 0 where
  pub reply : Result Reply HubStop
  pub told : Told
      (change (result done.name done.text done.outcome version)) reply x.pass y.pass x.full y.full
  pub answer_is : answer ≡ noted reply
  pub hub : y.hub ≡ x.hub
  pub queue : y.queue ≡ x.queue
  pub jobs : y.jobs ≡ x.jobs

-- a result at a version that no edit can have is late and changes nothing; another was one event
abbrev pub PostedBy : Bool → Transform → ℕ → HubBoard → HubBoard → Result ⊤ HubStop → Type 0
PostedBy true done version x y answer = Settled done version x y answer
PostedBy false done version x y answer = (answer ≡ Ok tt) × (y ≡ x)

-- what a post leaves of a board
abbrev pub Posted : Transform → ℕ → HubBoard → HubBoard → Result ⊤ HubStop → Type 0
Posted done version x y answer = PostedBy (is_version version) done version x y answer
