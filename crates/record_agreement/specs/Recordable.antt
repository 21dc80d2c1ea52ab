-- Events that a line of a record can have: well formed, and with numbers that a line has.
use Rattle.std.specs.Prelude.{◌≤◌, ⊤}
use Rattle.hmr_types.specs.declared.limits.TheConstants.{LARGEST_CLIENT}
use Rattle.core_model.specs.Core.{Event, change, connect, request, disconnect}
use Rattle.core_model.specs.Requests.{ask, fetch, applied_as, aborted, invalidate}
use Rattle.core_model.specs.Sources.{edit, result}
use Rattle.record_text.specs.Numbers.{largest_count}
use Rattle.event_facts.specs.Tellable.{IsTellable}

-- the client that asks or goes has a number that a client can have
abbrev pub HasClient : Event → Type 0
HasClient (change ch) = ⊤
HasClient (connect names) = ⊤
HasClient (request i r) = i ≤ LARGEST_CLIENT
HasClient (disconnect i) = i ≤ LARGEST_CLIENT

-- the version of a result or of an invalidation has at most 64 bits
abbrev pub HasCount : Event → Type 0
HasCount (change (edit n t)) = ⊤
HasCount (change (result n t o v)) = v ≤ largest_count
HasCount (connect names) = ⊤
HasCount (request i ask) = ⊤
HasCount (request i (fetch n)) = ⊤
HasCount (request i (applied_as table)) = ⊤
HasCount (request i aborted) = ⊤
HasCount (request i (invalidate n v)) = v ≤ largest_count
HasCount (disconnect i) = ⊤

-- a line of a record can have it
pub record IsRecordable (event : Event) : Type 0 where
  pub tellable : IsTellable event
  pub client : HasClient event
  pub counted : HasCount event
