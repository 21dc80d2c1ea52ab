-- What is kept of an attendant.
use Rattle.std.specs.Prelude.{◌≡◌, ◌||◌, Bool, List, Option, Some, None, is_some, not}
use Prim.{⊥}
use Rattle.std.specs.Option.{option_map}
use Rattle.hmr_hub.specs.declared.pass.Pass.{Pass}
use Rattle.hmr_hub.specs.Passes.{number_of}
use Rattle.live_desk.specs.Sessions.{Session}
use Rattle.live_crew.specs.Held.{HasHeld}
use Rattle.live_crew.specs.declared.attendant.HubAttendant.{HubAttendant}

-- this is what the pass has become by the sessions that were held with it
abbrev pub HasHeldTo : Pass → Option Pass → Type 0
HasHeldTo p None = ⊥
HasHeldTo p (Some q) = (sessions : List Session) × HasHeld p q sessions

-- the same hub, and a pass of the same number; whatever a pass had become by sessions, it has become by those
-- and more
pub record SameAttendant {R F : Type 0} (x y : HubAttendant R F) : Type 0 where
  pub hub : y.hub ≡ x.hub
  pub number : option_map number_of y.pass ≡ option_map number_of x.pass
  pub held : (p : Pass) → HasHeldTo p x.pass → HasHeldTo p y.pass

-- it serves no more: the hub is full, or the pass is lost
abbrev pub is_done : {R F : Type 0} → HubAttendant R F → Bool
is_done x = x.full || not (is_some x.pass)
