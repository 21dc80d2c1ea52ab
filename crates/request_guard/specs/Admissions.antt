-- Who is let in.
use Rattle.std.specs.Prelude.{ℕ, Bool, not, ◌&&◌, ◌||◌, if◌then◌else◌, List, codes, Option, Some, None}
use Rattle.std.specs.List.{list_any}
use Rattle.httparse.specs.Grammar.{RequestHead}
use Rattle.http_heads.specs.Head.{Fields, IsHeadOf, fields_of, same_letters}
use Rattle.request_guard.specs.Hosts.{is_own_host, is_own_origin}
use Rattle.request_guard.specs.declared.admission.Admission.{Admission}
use Rattle.request_guard.specs.declared.admission.Admission.TheVariants.{Admitted, ForeignHost, ForeignOrigin}

-- the field names a host
abbrev pub is_host : List ℕ × List ℕ → Bool
is_host f = same_letters f.0 (codes "host")

-- the field names a host that isn't this server's
abbrev pub is_foreign_host : ℕ → List ℕ × List ℕ → Bool
is_foreign_host port f = same_letters f.0 (codes "host") && not (is_own_host port f.1)

-- the field names an origin that isn't this server's
abbrev pub is_foreign_origin : ℕ → List ℕ × List ℕ → Bool
is_foreign_origin port f = same_letters f.0 (codes "origin") && not (is_own_origin port f.1)

-- the field asks for a WebSocket
abbrev pub asks_upgrade : List ℕ × List ℕ → Bool
asks_upgrade f = same_letters f.0 (codes "upgrade") && same_letters f.1 (codes "websocket")

abbrev pub has_host : Fields → Bool
has_host fields = list_any is_host fields

abbrev pub has_foreign_host : ℕ → Fields → Bool
has_foreign_host port fields = list_any (is_foreign_host port) fields

abbrev pub has_foreign_origin : ℕ → Fields → Bool
has_foreign_origin port fields = list_any (is_foreign_origin port) fields

abbrev pub is_upgrade : Fields → Bool
is_upgrade fields = list_any asks_upgrade fields

-- a host is named, and only hosts of this server; an upgrade names no origin, or only origins of this server
abbrev pub admission_at : ℕ → Fields → Admission
admission_at port fields =
    if not (has_host fields) || has_foreign_host port fields then ForeignHost
    else if is_upgrade fields && has_foreign_origin port fields then ForeignOrigin
    else Admitted (is_upgrade fields)

-- who the head is of, at a server at this port
abbrev pub admission_of : ℕ → RequestHead → Admission
admission_of port h = admission_at port (fields_of h)

-- as a whole the bytes are a head, of which that is said; or there is none that they are
pub data Admits (port : ℕ) (bytes : List ℕ) : Option Admission → Type 0 where
  a_head : (h : RequestHead) → IsHeadOf bytes h → Admits port bytes (Some (admission_of port h))
  no_head : ((h : RequestHead) → ¬ (IsHeadOf bytes h)) → Admits port bytes None
