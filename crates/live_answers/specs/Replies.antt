-- Answers as texts.
use Rattle.std.specs.Prelude.{ℕ, List, [], ◌++◌, codes, decimal, length, Bool, true, false, if◌then◌else◌}
use Rattle.live_answers.specs.declared.reply.Reply.{Reply}
use Rattle.live_answers.specs.declared.status.Status.{Status}
use Rattle.live_answers.specs.declared.status.Status.TheVariants as status
use Rattle.live_answers.specs.declared.status.Refusal.{Refusal}
use Rattle.live_answers.specs.declared.status.Refusal.TheVariants as refused

-- bare says that the body is left out, closes that the connection is closed after the answer
pub record Told : Type 0 where
  pub status : Status
  pub media : List ℕ
  pub body : List ℕ
  pub bare : Bool
  pub closes : Bool

abbrev pub told_of : Reply → Told
told_of r = record { status = r.status; media = r.media.now; body = r.body.items; bare = r.bare; closes = r.closes }

-- the number and the reason
abbrev pub status_text : Status → List ℕ
status_text status.Ok = codes "200 OK"
status_text status.NoContent = codes "204 No Content"
status_text status.BadRequest = codes "400 Bad Request"
status_text status.Forbidden = codes "403 Forbidden"
status_text status.NotFound = codes "404 Not Found"
status_text status.MethodNotAllowed = codes "405 Method Not Allowed"
status_text status.LengthRequired = codes "411 Length Required"
status_text status.ContentTooLarge = codes "413 Content Too Large"
status_text status.UriTooLong = codes "414 URI Too Long"
status_text status.FieldsTooLarge = codes "431 Request Header Fields Too Large"
status_text status.ServerError = codes "500 Internal Server Error"

-- the line of the methods that are answered, where another was asked
abbrev pub allowed : Status → List ℕ
allowed status.Ok = []
allowed status.NoContent = []
allowed status.BadRequest = []
allowed status.Forbidden = []
allowed status.NotFound = []
allowed status.MethodNotAllowed = codes "Allow: GET, HEAD, POST\r\n"
allowed status.LengthRequired = []
allowed status.ContentTooLarge = []
allowed status.UriTooLong = []
allowed status.FieldsTooLarge = []
allowed status.ServerError = []

abbrev pub status_of : Refusal → Status
status_of refused.Unreadable = status.BadRequest
status_of refused.UnclearBody = status.BadRequest
status_of refused.CutBody = status.BadRequest
status_of refused.ForeignHost = status.Forbidden
status_of refused.ForeignOrigin = status.Forbidden
status_of refused.ForeignPost = status.Forbidden
status_of refused.Missing = status.NotFound
status_of refused.Hidden = status.NotFound
status_of refused.Folder = status.NotFound
status_of refused.NotTaken = status.NotFound
status_of refused.OtherMethod = status.MethodNotAllowed
status_of refused.NoLength = status.LengthRequired
status_of refused.LongBody = status.ContentTooLarge
status_of refused.LongTarget = status.UriTooLong
status_of refused.LongHead = status.FieldsTooLarge
status_of refused.Unread = status.ServerError

abbrev pub sentence : Refusal → List ℕ
sentence refused.Unreadable = codes "The request is none of HTTP without a body."
sentence refused.UnclearBody = codes "The body's length is to be told by one Content-Length of decimal digits."
sentence refused.CutBody = codes "The body hasn't as many bytes as its Content-Length tells."
sentence refused.ForeignHost = codes "The request names another host than this server on this machine."
sentence refused.ForeignOrigin = codes "Only pages of this server may open a WebSocket here."
sentence refused.ForeignPost = codes "Only pages of this server may post here."
sentence refused.Missing = codes "There is no file at this path."
sentence refused.Hidden = codes "No part of a path may be empty or begin with a dot."
sentence refused.Folder = codes "This path is a folder: its page is at the path with a slash at its end."
sentence refused.NotTaken = codes "Nothing is taken at this path."
sentence refused.OtherMethod = codes "Only GET, HEAD and POST are answered."
sentence refused.NoLength = codes "The body's length isn't told."
sentence refused.LongBody = codes "The body has more than 4,194,304 bytes."
sentence refused.LongTarget = codes "The target has more than 1,024 bytes."
sentence refused.LongHead = codes "The head has more than 8,192 bytes."
sentence refused.Unread = codes "The file at this path can't be read, or is too large."

abbrev pub connection : Bool → List ℕ
connection true = codes "close"
connection false = codes "keep-alive"

-- the first line, and the line of the methods where it is wanted
unfoldable pub status_lines : Status → List ℕ
status_lines s = codes "HTTP/1.1 " ++ (status_text s ++ (codes "\r\n" ++ allowed s))

unfoldable pub type_line : List ℕ → List ℕ
type_line media = codes "Content-Type: " ++ (media ++ codes "\r\n")

unfoldable pub length_line : ℕ → List ℕ
length_line n = codes "Content-Length: " ++ (decimal n ++ codes "\r\n")

-- nothing is kept, guessed, or lent to pages of other servers
unfoldable pub fixed_lines : List ℕ
fixed_lines =
    codes "Cache-Control: no-store\r\nX-Content-Type-Options: nosniff\r\n"
    ++ codes "Cross-Origin-Resource-Policy: same-origin\r\n"

unfoldable pub connection_line : Bool → List ℕ
connection_line closes = codes "Connection: " ++ (connection closes ++ codes "\r\n")

-- the lines that each answer has at the end of its head, with the empty line
unfoldable pub end_lines : Bool → List ℕ
end_lines closes = fixed_lines ++ (connection_line closes ++ codes "\r\n")

-- the lines before the body
unfoldable pub head_text : Status → List ℕ → ℕ → Bool → List ℕ
head_text s media n closes =
    status_lines s ++ (type_line media ++ (length_line n ++ end_lines closes))

-- the bytes of an answer
abbrev pub reply_text : Told → List ℕ
reply_text a = head_text a.status a.media (length a.body) a.closes ++ (if a.bare then [] else a.body)

-- the bytes of the answer that all is done: it has no body, and so neither type nor length
unfoldable pub done_text : Bool → List ℕ
done_text closes = status_lines status.NoContent ++ end_lines closes

-- an answer of a number, its reason, and a sentence
abbrev pub plain : Status → List ℕ → Bool → Bool → Told
plain s words bare closes = record {
  status = s;
  media = codes "text/plain; charset=utf-8";
  body = status_text s ++ (codes "\n" ++ (words ++ codes "\n"));
  bare = bare;
  closes = closes;
}

-- the answer that refuses a request
abbrev pub refusal : Refusal → Bool → Bool → Told
refusal r bare closes = plain (status_of r) (sentence r) bare closes

-- the answer with this body
abbrev pub ok : List ℕ → List ℕ → Bool → Bool → Told
ok media body bare closes =
    record { status = status.Ok; media = media; body = body; bare = bare; closes = closes }
