-- What comes of a visitor before an upgrade: bytes that are cut into heads.
use Rattle.std.specs.Prelude.{◌≡◌, ◌<◌, ℕ, List, length, None, Option, Some, IfSome}
use Rattle.std.specs.Global.{Vec}
use Rattle.http_heads.specs.Cutting.{Cuts}
use Rattle.http_heads.specs.declared.cutting.Cut.TheVariants as cut
use Rattle.transport.specs.Told.{told_front}
use Rattle.doors.specs.declared.visitor.Coming.{Coming}
use Rattle.doors.specs.declared.visitor.Coming.TheVariants as coming

-- all of the bytes are one head, with the empty line at its end
abbrev pub IsHead : List ℕ → Type 0
IsHead bytes = Cuts bytes (cut.Head (length bytes))

-- The next head was taken from the front of what is unread; or what is unread has no head, and stays: it is
-- too long for one, or no head ends in it.
abbrev pub IsNext : Option (List ℕ) → Option (List ℕ) → Coming → Type 0
IsNext unread unread' (coming.Head head) = IsHead head.items × (unread ≡ told_front head.items unread')
IsNext unread unread' coming.TooLong = (unread' ≡ unread) × IfSome unread (λ bytes. Cuts bytes cut.TooLong)
IsNext unread unread' coming.Gone = (unread' ≡ unread) × IfSome unread (λ bytes. Cuts bytes cut.Partial)

-- So many bytes were taken from the front of what is unread; or there are fewer, and all stay.
abbrev pub IsBody : ℕ → Option (List ℕ) → Option (List ℕ) → Option (Vec ℕ) → Type 0
IsBody count unread unread' (Some body) =
    (length body.items ≡ count) × (unread ≡ told_front body.items unread')
IsBody count unread unread' None = (unread' ≡ unread) × IfSome unread (λ bytes. length bytes < count)
