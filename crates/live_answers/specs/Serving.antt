-- What a head is answered.
use Rattle.std.specs.Prelude.{◌≡◌, ◌≢◌, ◌⊎◌, ℕ, Bool, true, false, List, [], length, Option, Some, None}
use Rattle.request_guard.specs.Media.{media_type}
use Rattle.live_answers.specs.Given.{Given, GivesAt, a_file, a_text, a_folder, nothing, no_text}
use Rattle.live_answers.specs.Media.{media_text}
use Rattle.live_answers.specs.Replies.{Told, done_text, ok, plain, refusal, reply_text}
use Rattle.live_answers.specs.Taken.{Taken, Takes, done, a_reply, bad, not_taken, rings}
use Rattle.live_answers.specs.Wants.{Want, Wants, upgrade, a_get, a_post, refuse}
use Rattle.live_answers.specs.declared.media.Media.TheVariants as media
use Rattle.live_answers.specs.declared.status.Refusal.{Refusal}
use Rattle.live_answers.specs.declared.status.Refusal.TheVariants as refused
use Rattle.live_answers.specs.declared.status.Status.TheVariants as status
use Rattle.live_answers.specs.declared.answer.Answer.{Answer}
use Rattle.live_answers.specs.declared.answer.Next.{Next}
use Rattle.live_answers.specs.declared.answer.Next.TheVariants as next

-- the answer to who wants what is at a path, where that is what is there
abbrev pub given_reply : List ℕ → Bool → Bool → Given → Told
given_reply path bare closes (a_file bytes) = ok (media_type path) bytes bare closes
given_reply path bare closes (a_text type bytes) = ok (media_text type) bytes bare closes
given_reply path bare closes a_folder = refusal refused.Folder bare closes
given_reply path bare closes nothing = refusal refused.Missing bare closes
given_reply path bare closes no_text = refusal refused.Unread bare closes

-- what comes after an answer
abbrev pub next_told : Bool → Next
next_told true = next.Close
next_told false = next.Head

-- what comes after an answer before which the bell is to be rung
abbrev pub next_rung : Bool → Next
next_rung true = next.RingAndClose
next_rung false = next.Ring

-- what comes after an answer that refuses
abbrev pub next_refused : Refusal → Bool → Next
next_refused refused.ForeignHost closes = next.ForeignHost
next_refused refused.ForeignOrigin closes = next.ForeignOrigin
next_refused refused.ForeignPost closes = next.ForeignOrigin
next_refused refused.Unreadable closes = next_told closes
next_refused refused.UnclearBody closes = next_told closes
next_refused refused.CutBody closes = next_told closes
next_refused refused.Missing closes = next_told closes
next_refused refused.Hidden closes = next_told closes
next_refused refused.Folder closes = next_told closes
next_refused refused.NotTaken closes = next_told closes
next_refused refused.OtherMethod closes = next_told closes
next_refused refused.NoLength closes = next_told closes
next_refused refused.LongBody closes = next_told closes
next_refused refused.LongTarget closes = next_told closes
next_refused refused.LongHead closes = next_told closes
next_refused refused.Unread closes = next_told closes

-- the answer has this text, and this comes next
abbrev pub IsText : List ℕ → Next → Answer → Type 0
IsText text following answer = (answer.text.items ≡ text) × (answer.next ≡ following)

abbrev pub IsTold : Told → Next → Answer → Type 0
IsTold told following answer = IsText (reply_text told) following answer

abbrev pub IsRefused : Refusal → Bool → Bool → Answer → Type 0
IsRefused r bare closes answer = IsTold (refusal r bare closes) (next_refused r closes) answer

-- the answer to who wants what is at a path, which is None where it isn't served
abbrev pub AnswersGet : GivesAt → Option (List ℕ) → List ℕ → Bool → Bool → Bool → Answer → Type 0
AnswersGet gives None query wants_page bare closes answer = IsRefused refused.Hidden bare closes answer
AnswersGet gives (Some path) query wants_page bare closes answer =
    (given : Given) × gives path query wants_page given
    × IsTold (given_reply path bare closes given) (next_told closes) answer

-- the answer to who posted, where that became of it
abbrev pub AnswersTaken : Bool → Taken → Answer → Type 0
AnswersTaken closes done answer = IsText (done_text closes) (next_told closes) answer
AnswersTaken closes (a_reply bytes) answer =
    IsTold (ok (media_text media.Json) bytes false closes) (next_told closes) answer
AnswersTaken closes (bad sentence) answer =
    IsTold (plain status.BadRequest sentence false closes) (next_told closes) answer
AnswersTaken closes not_taken answer = IsRefused refused.NotTaken false closes answer
AnswersTaken closes rings answer = IsText (done_text closes) (next_rung closes) answer

-- the answer to who posts at a path, which is None where it isn't served
abbrev pub AnswersWhole : Takes → List ℕ → Option (List ℕ) → Bool → Answer → Type 0
AnswersWhole takes body None closes answer = IsRefused refused.Hidden false closes answer
AnswersWhole takes body (Some path) closes answer =
    (taken : Taken) × takes path body taken × AnswersTaken closes taken answer

-- The body has as many bytes as the head tells; else nothing is taken, and the connection is closed.
abbrev pub AnswersPost : Takes → List ℕ → Option (List ℕ) → ℕ → Bool → Answer → Type 0
AnswersPost takes body path count closes answer =
    ((length body ≡ count) × AnswersWhole takes body path closes answer)
    ⊎ ((length body ≢ count) × IsRefused refused.CutBody false true answer)

-- the answer to what is wanted, by what is at the path that is wanted, or what becomes of the body there
abbrev pub Answers : GivesAt → Takes → List ℕ → Want → Answer → Type 0
Answers gives takes body (upgrade query) answer = IsText [] next.Upgrade answer
Answers gives takes body (a_get path query wants_page bare closes) answer =
    AnswersGet gives path query wants_page bare closes answer
Answers gives takes body (a_post path count closes) answer = AnswersPost takes body path count closes answer
Answers gives takes body (refuse r bare closes) answer = IsRefused r bare closes answer

-- the answer to a head and to the body behind it, of a server at a port
pub record AnswersHead
    (port : ℕ) (gives : GivesAt) (takes : Takes) (head body : List ℕ) (answer : Answer) : Type 0 where
  pub want : Want
  pub wants : Wants port head want
  pub answers : Answers gives takes body want answer

-- so much of what is wanted is told
pub record TellsWant {T : Type 0} (port : ℕ) (head : List ℕ) (part : Want → T) (told : T) : Type 0 where
  pub want : Want
  pub wants : Wants port head want
  pub is : told ≡ part want
