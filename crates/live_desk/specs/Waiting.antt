-- What an answer to a message leaves of a desk of the hub, where asks wait.
use Rattle.std.specs.Prelude.{◌≢◌, ◌⊎◌, Result, Ok}
use Rattle.update_msgs.specs.declared.desk.HubStop.{HubStop}
use Rattle.update_msgs.specs.declared.message.ClientMsg.{ClientMsg}
use Rattle.update_msgs.specs.declared.message.ClientMsg.TheVariants as told
use Rattle.update_msgs.specs.declared.message.ServerMsg.{ServerMsg}
use Rattle.update_msgs.specs.declared.message.ServerMsg.TheVariants.{Idle}
use Rattle.session_desks.specs.declared.desk.HubDesk.{HubDesk}
use Rattle.session_desks.specs.Desks.{Dealt}

-- an ask to which there is something to say, or no answer
pub record AskedOnce {R : Type 0} (x y : HubDesk R) (result : Result ServerMsg HubStop) : Type 0 where
  pub dealt : Dealt told.Ask x y result
  pub busy : result ≢ Ok Idle

-- an ask that was dealt, with nothing to do, and then dealt again
pub record AskedAgain {R : Type 0} (x y : HubDesk R) (result : Result ServerMsg HubStop) : Type 0 where
  pub middle : HubDesk R
  pub first : Dealt told.Ask x middle (Ok Idle)
  pub again : Dealt told.Ask middle y result

-- what an ask leaves: no idle answer is the first
abbrev pub Asked : {R : Type 0} → HubDesk R → HubDesk R → Result ServerMsg HubStop → Type 0
Asked x y result = AskedOnce x y result ⊎ AskedAgain x y result

-- what a message leaves: each but an ask was dealt just once
abbrev pub Answered : {R : Type 0} → ClientMsg → HubDesk R → HubDesk R → Result ServerMsg HubStop → Type 0
Answered (told.Hello format roots) x y result = Dealt (told.Hello format roots) x y result
Answered told.Ask x y result = Asked x y result
Answered (told.Fetch n) x y result = Dealt (told.Fetch n) x y result
Answered (told.Applied table) x y result = Dealt (told.Applied table) x y result
Answered (told.Aborted cause n from x') x y result = Dealt (told.Aborted cause n from x') x y result
Answered (told.Invalidate n v message) x y result = Dealt (told.Invalidate n v message) x y result
Answered told.Bye x y result = Dealt told.Bye x y result
