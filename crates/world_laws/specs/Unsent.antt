-- The versions of the invalidations that a client hasn't sent.
use Rattle.std.specs.Prelude.{Contains}
use Rattle.update_msgs.specs.Writable.{IsVersion}
use Rattle.client_model.specs.Runtime.{Runtime, Invalidation}

-- each unsent invalidation has a version as a counted edit has one
abbrev pub AreUnsentVersions : Runtime → Type 0
AreUnsentVersions r = (m : Invalidation) → Contains r.unsent m → IsVersion m.version
