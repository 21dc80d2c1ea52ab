-- What comes of a stream before an upgrade.
use Rattle.std.specs.Prelude.{◌≡◌, ⊤, ℕ, IfSome, Option, length}
use Rattle.std.specs.Global.{Vec}
use Rattle.doors.specs.Coming.{IsHead}
use Rattle.doors.specs.declared.visitor.Coming.{Coming}
use Rattle.doors.specs.declared.visitor.Coming.TheVariants as coming

-- what came is one head, where it is a head
abbrev pub IsOneHead : Coming → Type 0
IsOneHead (coming.Head head) = IsHead head.items
IsOneHead coming.TooLong = ⊤
IsOneHead coming.Gone = ⊤

-- what came is so many bytes, where it is any
abbrev pub IsOneBody : ℕ → Option (Vec ℕ) → Type 0
IsOneBody count body = IfSome body (λ bytes. length bytes.items ≡ count)
