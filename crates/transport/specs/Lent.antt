-- What became of the ends that a net in memory gave.
use Rattle.std.specs.Prelude.{◌≡◌}
use Rattle.transport.specs.declared.port.Port.{Port}
use Rattle.transport.specs.Lending.{HasGiven, HasRefused}

-- no end was given or taken back, and none refused
pub record IsSameLending (old new : Port) : Type 0 where
  pub lent : new.lent ≡ old.lent
  pub refused : new.refused ≡ old.refused
  pub late : new.late ≡ old.late

-- an end was given
abbrev pub Gives : Port → Port → Type 0
Gives old new = HasGiven old.lent new.lent old.refused new.refused old.late new.late

-- an end was refused
abbrev pub Refuses : Port → Port → Type 0
Refuses old new = HasRefused old.lent new.lent new.refused old.late new.late
