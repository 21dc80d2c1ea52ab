-- What the passes of doors have seen: the sessions that were held with them.
use Rattle.std.specs.Prelude.{◌≡◌, ◌≤◌, ◌++◌, ℕ, List, [], ◌∷◌, All, flat_map, length, map, Option, Err}
use Rattle.std.specs.List.Sorted.{IsPermutation}
use Rattle.core_model.specs.Names.{Name}
use Rattle.turn_lock.specs.Histories.{calls}
use Rattle.hmr_hub.specs.declared.pass.Pass.{Pass}
use Rattle.hmr_hub.specs.Passes.{number_of, roots_of, seen_of}
use Rattle.hmr_hub.specs.Moves.{KnowsOwn, own_of}
use Rattle.sessions.specs.Course.{Comes}
use Rattle.sessions.specs.declared.ended.Ended.{Ended}
use Rattle.live_desk.specs.Calls.{AreCallsAt, HasCalled, entries_of}
use Rattle.live_desk.specs.Sessions.{IsSession, Session, calls_of, deals_in}

-- A session over a link. What was taken of the link reads, in order, as the messages that were answered, and
-- what was sent are the answers, as far as that goes by how it ended.
pub record IsServed (s : Session) : Type 0 where
  pub session : IsSession s
  pub ended : Ended
  pub takes : List (List ℕ)
  pub sends : List (List ℕ)
  pub left : Option (List (List ℕ))
  pub comes : Comes (Err ended) 1 takes sends (deals_in s.exchanges) left

-- a pass has gone on by these sessions, one after another, and by nothing else
pub record HasHeld (p q : Pass) (sessions : List Session) : Type 0 where
  pub called : HasCalled p q (flat_map calls_of sessions)
  pub each : All IsServed sessions

-- nothing was called with the pass
pub record IsUnused (roots : List Name) (p : Pass) : Type 0 where
  pub none : own_of p ≡ []
  pub knows : KnowsOwn p
  pub roots_are : roots_of p ≡ roots

-- the pass of a door, and the sessions that were held with it, in order
pub record Held : Type 0 where
  pub pass : Pass
  pub sessions : List Session

abbrev pub pass_of : Held → Pass
pass_of h = h.pass

-- just these sessions were held with the pass
pub record IsHeld (roots : List Name) (h : Held) : Type 0 where
  pub knows : KnowsOwn h.pass
  pub own : own_of h.pass ≡ entries_of (number_of h.pass) (flat_map calls_of h.sessions)
  pub replied : AreCallsAt roots (seen_of h.pass) (number_of h.pass) [] (flat_map calls_of h.sessions)
  pub each : All IsServed h.sessions

-- In the transcript that a pass has seen, the entries under the number of a door's are just those of the
-- sessions that were held with it, session by session and call by call, and each call was answered so at its
-- own place.
pub record HasSessions (p : Pass) (h : Held) : Type 0 where
  pub own : calls (number_of h.pass ∷ []) (seen_of p)
      ≡ entries_of (number_of h.pass) (flat_map calls_of h.sessions)
  pub replied : AreCallsAt (roots_of p) (seen_of p) (number_of h.pass) [] (flat_map calls_of h.sessions)
  pub each : All IsServed h.sessions

-- a pass was put behind the others: that of a door, where the kind is 1
pub record TakenBack (roots : List Name) (kind : ℕ) (old new : List Pass) : Type 0 where
  pub pass : Pass
  pub items : new ≡ old ++ pass ∷ []
  pub held : kind ≡ 1
      → (sessions : List Session) × IsHeld roots (record { pass = pass; sessions = sessions })

-- of these passes so many at least are of doors
pub record HasDoors (roots : List Name) (count : ℕ) (passes : List Pass) : Type 0 where
  pub doors : List Held
  pub others : List Pass
  pub parted : IsPermutation (map pass_of doors ++ others) passes
  pub many : count ≤ length doors
  pub held : All (IsHeld roots) doors
