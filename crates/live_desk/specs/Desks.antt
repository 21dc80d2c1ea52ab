-- What is kept of a live desk.
use Rattle.std.specs.Prelude.{◌≡◌, Bool, List}
use Rattle.update_msgs.specs.declared.message.ClientMsg.{ClientMsg}
use Rattle.update_msgs.specs.declared.message.ServerMsg.{ServerMsg}
use Rattle.hmr_hub.specs.Passes.{number_of}
use Rattle.session_desks.specs.declared.desk.HubDesk.{HubDesk}
use Rattle.live_desk.specs.declared.desk.LiveDesk.{LiveDesk}
use Rattle.live_desk.specs.Dealings.{deals_of}
use Rattle.live_desk.specs.Sessions.{HasDealt}

-- the messages that the desk has answered, with the answers, in order
abbrev pub told_by : {R S : Type 0} → LiveDesk R S → List (ClientMsg × ServerMsg)
told_by x = deals_of x.dealings.value

-- the same hub, and a pass of the same number; whatever the desk had dealt, it has now dealt that and more
pub record GoesOn {R S : Type 0} (x y : LiveDesk R S) : Type 0 where
  pub hub : y.desk.hub ≡ x.desk.hub
  pub number : number_of y.desk.pass ≡ number_of x.desk.pass
  pub dealt : (a : HubDesk R) (before : List (ClientMsg × ServerMsg)) → HasDealt a x.desk before (told_by x)
      → HasDealt a y.desk before (told_by y)

-- the hub answered that its transcript is full
abbrev pub is_full : {R S : Type 0} → LiveDesk R S → Bool
is_full x = x.desk.full
