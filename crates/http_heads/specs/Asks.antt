-- What a head asks, in the order of the refusals.
use Rattle.std.specs.Prelude.{ℕ, Bool, false, not, ◌&&◌, ◌||◌, ◌==◌, if◌then◌else◌, nat_lt, List, length, codes, bytes_eq}
use Rattle.httparse.specs.Grammar.{RequestHead}
use Rattle.http_heads.specs.declared.asked.Asked.{Asked}
use Rattle.http_heads.specs.declared.asked.Asked.TheVariants as asked
use Rattle.http_heads.specs.declared.asked.TheConstants.{TARGET_BYTES}
use Rattle.http_heads.specs.Head.{Fields, IsHeadOf, fields_of, has_body, is_closing, path_of}

-- What a head asks. The last flag says whether the connection is closed after the answer, which it always is
-- after a bad request; one before it says whether the answer is to have no body, as one to HEAD.
pub data Ask : Type 0 where
  bad_request : Bool → Ask
  other_method : Bool → Ask
  long_target : Bool → Bool → Ask
  a_module : List ℕ → Bool → Bool → Ask

abbrev pub said : Asked → Ask
said (asked.BadRequest bare) = bad_request bare
said (asked.OtherMethod closes) = other_method closes
said (asked.LongTarget bare closes) = long_target bare closes
said (asked.Module name bare closes) = a_module name.now bare closes

-- the method is HEAD
abbrev pub is_bare : List ℕ → Bool
is_bare method = bytes_eq method (codes "HEAD")

abbrev pub asked_by : List ℕ → List ℕ → Bool → Ask
asked_by method target closes =
    if not (is_bare method) && not (bytes_eq method (codes "GET")) then other_method closes
    else if nat_lt TARGET_BYTES (length target) then long_target (is_bare method) closes
    else a_module (path_of target) (is_bare method) closes

-- a bad request where a body follows or could
abbrev pub asked_at : List ℕ → List ℕ → ℕ → Fields → Ask
asked_at method target minor fields =
    if has_body fields then bad_request (is_bare method)
    else asked_by method target (minor == 0 || is_closing fields)

abbrev pub asked_of : RequestHead → Ask
asked_of h = asked_at h.method h.target h.minor (fields_of h)

-- what the bytes ask: as a whole they are a head, or there is none that they are
pub data Asks (bytes : List ℕ) : Ask → Type 0 where
  a_head : (h : RequestHead) → IsHeadOf bytes h → Asks bytes (asked_of h)
  no_head : ((h : RequestHead) → ¬ (IsHeadOf bytes h)) → Asks bytes (bad_request false)
