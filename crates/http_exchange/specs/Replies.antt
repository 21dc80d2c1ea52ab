-- Answers, and what a head is answered.
use Rattle.std.specs.Prelude.{ℕ, List, [], ◌∷◌, ◌++◌, codes, decimal, length, Bool, true, false, if◌then◌else◌}
use Rattle.std.specs.Prelude.{Option, Some, None}
use Rattle.http_heads.specs.Asks.{Ask, bad_request, other_method, long_target, a_module}
use Rattle.http_exchange.specs.declared.reply.Reply.{Reply}
use Rattle.http_exchange.specs.declared.reply.Status.{Status}
use Rattle.http_exchange.specs.declared.reply.Status.TheVariants as status

-- an answer: bare says that its body is left out, closes that the connection is closed after it
pub record Answer : Type 0 where
  pub status : Status
  pub body : List ℕ
  pub bare : Bool
  pub closes : Bool

abbrev pub answer_of : Reply → Answer
answer_of r = record { status = r.status; body = r.body.items; bare = r.bare; closes = r.closes }

-- the number and the reason
abbrev pub status_text : Status → List ℕ
status_text status.Ok = codes "200 OK"
status_text status.BadRequest = codes "400 Bad Request"
status_text status.NotFound = codes "404 Not Found"
status_text status.MethodNotAllowed = codes "405 Method Not Allowed"
status_text status.UriTooLong = codes "414 URI Too Long"
status_text status.FieldsTooLarge = codes "431 Request Header Fields Too Large"

abbrev pub content_type : Status → List ℕ
content_type status.Ok = codes "text/javascript"
content_type status.BadRequest = codes "text/plain"
content_type status.NotFound = codes "text/plain"
content_type status.MethodNotAllowed = codes "text/plain"
content_type status.UriTooLong = codes "text/plain"
content_type status.FieldsTooLarge = codes "text/plain"

-- the line of the methods that are answered, where another was asked
abbrev pub allowed : Status → List ℕ
allowed status.Ok = []
allowed status.BadRequest = []
allowed status.NotFound = []
allowed status.MethodNotAllowed = codes "Allow: GET, HEAD\r\n"
allowed status.UriTooLong = []
allowed status.FieldsTooLarge = []

abbrev pub connection : Bool → List ℕ
connection true = codes "close"
connection false = codes "keep-alive"

-- the first line, and the line of the methods where it is wanted
unfoldable pub status_lines : Status → List ℕ
status_lines s = codes "HTTP/1.1 " ++ (status_text s ++ (codes "\r\n" ++ allowed s))

unfoldable pub type_line : Status → List ℕ
type_line s = codes "Content-Type: " ++ (content_type s ++ codes "\r\n")

unfoldable pub length_line : ℕ → List ℕ
length_line n = codes "Content-Length: " ++ (decimal n ++ codes "\r\n")

unfoldable pub connection_line : Bool → List ℕ
connection_line closes = codes "Connection: " ++ (connection closes ++ codes "\r\n")

-- the lines before the body, with the empty line at their end
unfoldable pub head_text : Status → ℕ → Bool → List ℕ
head_text s n closes =
    status_lines s ++ (type_line s ++ (length_line n ++ (connection_line closes ++ codes "\r\n")))

-- the bytes of an answer
abbrev pub answer_text : Answer → List ℕ
answer_text a = head_text a.status (length a.body) a.closes ++ (if a.bare then [] else a.body)

-- the answer that refuses a request by a status
abbrev pub refusal : Status → Bool → Bool → Answer
refusal s bare closes =
    record { status = s; body = status_text s ++ 10 ∷ []; bare = bare; closes = closes }

-- the answer with a body, where there is one
abbrev pub found : Option (List ℕ) → Bool → Bool → Answer
found None bare closes = refusal status.NotFound bare closes
found (Some body) bare closes = record { status = status.Ok; body = body; bare = bare; closes = closes }

-- the answer to what is asked, where these are the bodies by name
abbrev pub answer_to : (List ℕ → Option (List ℕ)) → Ask → Answer
answer_to bodies (bad_request bare) = refusal status.BadRequest bare true
answer_to bodies (other_method closes) = refusal status.MethodNotAllowed false closes
answer_to bodies (long_target bare closes) = refusal status.UriTooLong bare closes
answer_to bodies (a_module name bare closes) = found (bodies name) bare closes
