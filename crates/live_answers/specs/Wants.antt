-- What a head wants of a live server.
use Rattle.std.specs.Prelude.{ℕ, Bool, true, false, ◌||◌, nat_lt, if◌then◌else◌, List, length, codes}
use Rattle.std.specs.Prelude.{Option, Some, None, bytes_eq}
use Rattle.httparse.specs.Grammar.{RequestHead}
use Rattle.http_heads.specs.Head.{IsHeadOf, path_of}
use Rattle.http_heads.specs.Asks.{Ask, asked_of, bad_request, other_method, long_target, a_module}
use Rattle.http_heads.specs.declared.asked.TheConstants.{TARGET_BYTES}
use Rattle.request_guard.specs.Admissions.{admission_of}
use Rattle.request_guard.specs.declared.admission.Admission.{Admission}
use Rattle.request_guard.specs.declared.admission.Admission.TheVariants as admission
use Rattle.request_details.specs.Details.{Detail, details_of, query_of}
use Rattle.request_details.specs.declared.body.Body.{Body}
use Rattle.request_details.specs.declared.body.Body.TheVariants as body
use Rattle.live_answers.specs.Paths.{open_path}
use Rattle.live_answers.specs.declared.status.Refusal.{Refusal}
use Rattle.live_answers.specs.declared.status.Refusal.TheVariants as refused
use Rattle.live_answers.specs.declared.wanted.GetRequest.{GetRequest}
use Rattle.live_answers.specs.declared.wanted.Wanted.{Wanted}
use Rattle.live_answers.specs.declared.wanted.Wanted.TheVariants as wanted

-- An upgrade with the query of its target; what is at a path, which is None where it isn't served, with a
-- query, and whether a page is accepted; to take a body of so many bytes at a path; or an answer that
-- refuses. The last flag says whether the connection is closed after the answer, one before it whether the
-- answer is to have no body.
pub data Want : Type 0 where
  upgrade : List ℕ → Want
  a_get : Option (List ℕ) → List ℕ → Bool → Bool → Bool → Want
  a_post : Option (List ℕ) → ℕ → Bool → Want
  refuse : Refusal → Bool → Bool → Want

abbrev pub get_of : GetRequest → Want
get_of g = a_get (open_path g.target.now) g.query.now g.wants_page g.bare g.closes

abbrev pub want_of : Wanted → Want
want_of (wanted.Upgrade query) = upgrade query.now
want_of (wanted.Get request) = get_of request
want_of (wanted.Post target count closes) = a_post (open_path target.now) count closes
want_of (wanted.Refuse refusal bare closes) = refuse refusal bare closes

-- how many bytes of a body are to be read
abbrev pub length_of : Want → Option ℕ
length_of (upgrade query) = None
length_of (a_get path query wants_page bare closes) = None
length_of (a_post path count closes) = Some count
length_of (refuse refusal bare closes) = None

-- the query with which a WebSocket is asked for
abbrev pub upgrade_of : Want → Option (List ℕ)
upgrade_of (upgrade query) = Some query
upgrade_of (a_get path query wants_page bare closes) = None
upgrade_of (a_post path count closes) = None
upgrade_of (refuse refusal bare closes) = None

-- what a head with a body is refused for: the method, where it is another
abbrev pub bad_by : List ℕ → Refusal
bad_by method =
    if bytes_eq method (codes "GET") || bytes_eq method (codes "HEAD") then refused.Unreadable
    else refused.OtherMethod

-- what a head wants that asks for what is at a path, or for something else that is no post
abbrev pub want_asked : Detail → Ask → Want
want_asked d (bad_request bare) = refuse (bad_by d.method) bare true
want_asked d (other_method closes) = refuse refused.OtherMethod false closes
want_asked d (long_target bare closes) = refuse refused.LongTarget bare closes
want_asked d (a_module target bare closes) =
    a_get (open_path target) (query_of d.target) d.wants_page bare closes

-- what a post wants that has so many bytes
abbrev pub want_counted : Detail → ℕ → Want
want_counted d count =
    if nat_lt TARGET_BYTES (length d.target) then refuse refused.LongTarget false true
    else a_post (open_path (path_of d.target)) count d.closes

abbrev pub want_sized : Detail → Body → Want
want_sized d body.Untold = refuse refused.NoLength false true
want_sized d (body.Bytes count) = want_counted d count
want_sized d body.Long = refuse refused.LongBody false true
want_sized d body.Unclear = refuse refused.UnclearBody false true

-- what a post wants: no page of another server posts here
abbrev pub want_posted : Detail → Want
want_posted d = if d.is_foreign then refuse refused.ForeignPost false true else want_sized d d.body

-- what a head wants that is let in and asks for no WebSocket
abbrev pub want_admitted : Detail → Ask → Want
want_admitted d ask = if bytes_eq d.method (codes "POST") then want_posted d else want_asked d ask

-- the answer is to have no body
abbrev pub bare_of : Ask → Bool
bare_of (bad_request bare) = bare
bare_of (other_method closes) = false
bare_of (long_target bare closes) = bare
bare_of (a_module target bare closes) = bare

-- what a head wants, by who it is of, what it asks and what else it says
abbrev pub want_by : Option Admission → Ask → Detail → Want
want_by None ask d = refuse refused.Unreadable false true
want_by (Some admission.ForeignHost) ask d = refuse refused.ForeignHost (bare_of ask) true
want_by (Some admission.ForeignOrigin) ask d = refuse refused.ForeignOrigin (bare_of ask) true
want_by (Some (admission.Admitted true)) ask d = upgrade (query_of d.target)
want_by (Some (admission.Admitted false)) ask d = want_admitted d ask

-- what the head wants of a server at this port
abbrev pub want_of_head : ℕ → RequestHead → Want
want_of_head port h = want_by (Some (admission_of port h)) (asked_of h) (details_of port h)

-- as a whole the bytes are a head, which wants that; or there is none that they are
pub data Wants (port : ℕ) (bytes : List ℕ) : Want → Type 0 where
  a_head : (h : RequestHead) → IsHeadOf bytes h → Wants port bytes (want_of_head port h)
  no_head : ((h : RequestHead) → ¬ (IsHeadOf bytes h))
      → Wants port bytes (refuse refused.Unreadable false true)
