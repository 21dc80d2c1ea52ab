-- What a client does at each answer to its request.
use Rattle.std.specs.Prelude.{ℕ, ◌==◌, if◌then◌else◌, List, [], ◌∷◌, map, Option, Some, None}
use Rattle.hmr_types.specs.declared.analysis.Outcome.{Outcome}
use Rattle.hmr_types.specs.declared.analysis.Outcome.TheVariants.{Good, Bad}
use Rattle.hmr_types.specs.declared.words.PlanKind.{PlanKind}
use Rattle.hmr_types.specs.declared.words.PlanKind.TheVariants.{Load, Reload, Update}
use Rattle.output_lines.specs.declared.words.AbortWord.{AbortWord}
use Rattle.output_lines.specs.declared.words.AbortWord.TheVariants as outcome
use Rattle.output_lines.specs.declared.out_line.OutLine.{OutLine}
use Rattle.output_lines.specs.declared.out_line.OutLine.TheVariants as line
use Rattle.update_msgs.specs.declared.message.ClientMsg.{ClientMsg}
use Rattle.update_msgs.specs.declared.message.ClientMsg.TheVariants as request_is
use Rattle.update_msgs.specs.declared.message.ServerMsg.{ServerMsg}
use Rattle.update_msgs.specs.declared.message.ServerMsg.TheVariants as msg
use Rattle.update_msgs.specs.declared.message.JsUpdate.{JsUpdate}
use Rattle.core_model.specs.Names.{Name, in_order, with_row}
use Rattle.core_model.specs.Sources.{Text}
use Rattle.core_model.specs.Page.{Plan, begun, staged, given_up, forced_too}
use Rattle.client_model.specs.Language.{Language}
use Rattle.client_model.specs.Runtime.{Runtime, Invalidation, Cause, missing, broken, unlinked, Did, nothing}
use Rattle.client_model.specs.Runtime.{and_then, for_each, write}
use Rattle.client_model.specs.Requesting.{cause_by}
use Rattle.client_model.specs.Applying.{apply, prune}

-- a plan begins: nothing is fetched, and no cause is found
abbrev pub begin : PlanKind → List Name → List (Name × Name) → Runtime → Runtime
begin kind replaced pairs r = record r {
  page = begun kind replaced r.page;
  texts = [];
  pairs = pairs;
  cause = None;
}

-- the client has its number and its roots, and the page is to be loaded
abbrev pub connect : ℕ → List Name → Runtime → Did
connect client roots r = nothing (record (begin Load [] [] r) { client = client; roots = roots })

-- the line of a batch, where the message has one
abbrev pub write_batch : ℕ → List Name → Runtime → Did
write_batch batch triggered r =
    if batch == 0 then nothing r else write (line.Batch r.client batch (in_order triggered)) r

-- the line is written, and a reload begins
abbrev pub start_reload : OutLine → Runtime → Did
start_reload l r = and_then (write l r) (λ r. nothing (begin Reload [] [] r))

-- the line of a boundary
abbrev pub accept_line : ℕ → Name × Name → OutLine
accept_line client pair = line.Accept client pair.0 pair.1

-- a boundary, and the module that it is told of
abbrev pub pair_of : JsUpdate → Name × Name
pair_of u = (u.path, u.accepted_path)

-- the lines of the update are written, and it begins
abbrev pub start_update : List Name → List (Name × Name) → Runtime → Did
start_update replaced pairs r =
    and_then (and_then (write (line.Update r.client (in_order replaced)) r)
    (for_each (λ pair r. write (accept_line r.client pair) r) pairs))
    (λ r. nothing (begin Update replaced pairs r))

-- a fetch found that the plan can't be carried out
abbrev pub with_cause : Cause → Runtime → Did
with_cause cause r = nothing (record r { cause = Some cause })

-- a text came: it is staged, or can't be read
abbrev pub stage : Outcome → Plan → Name → ℕ → Text → Runtime → Did
stage (Good a) p n v t r = nothing (record r {
  page = staged p n (record { version = v; analysis = a }) r.page;
  texts = with_row n t r.texts;
})
stage (Bad fault) p n v t r = with_cause (broken n) r

-- a text that came for the plan under way
abbrev pub stage_in : Option Plan → Language → Name → ℕ → Text → Runtime → Did
stage_in None language n v t r = nothing r
stage_in (Some p) language n v t r = stage (language.transformed n t) p n v t r

-- the plan under way is applied
abbrev pub apply_in : Option Plan → Language → Runtime → Did
apply_in None language r = nothing r
apply_in (Some p) language r = apply language p r

-- a cause, as its line tells it
abbrev pub outcome_of : Cause → AbortWord
outcome_of (missing n) = outcome.Missing n
outcome_of (broken n) = outcome.Broken n
outcome_of (unlinked n m x) = outcome.Link n m x

-- the line of a plan that was given up
abbrev pub write_cause : Option Cause → Runtime → Did
write_cause None r = nothing r
write_cause (Some cause) r = write (line.Aborted r.client (outcome_of cause)) r

-- the plan is given up, and nothing else changes
abbrev pub abort_in : Option Plan → Language → Runtime → Did
abort_in None language r = nothing r
abort_in (Some p) language r = and_then (write_cause (cause_by r.cause language p r) r)
    (λ r. nothing (record r { page = given_up r.page; texts = []; pairs = []; cause = None }))

-- the invalidations that are left once the first was answered
abbrev pub without_first : List Invalidation → List Invalidation
without_first [] = []
without_first (i ∷ more) = more

-- an invalidation was taken: its module is forced
abbrev pub invalidated : Name → Text → Runtime → Did
invalidated n message r = and_then (write (line.Invalidated r.client n message) r)
    (λ r. nothing (record r { page = forced_too n r.page; unsent = without_first r.unsent }))

-- an invalidation was ignored
abbrev pub ignored : Name → Runtime → Did
ignored n r =
    and_then (write (line.Ignored r.client n) r)
    (λ r. nothing (record r { unsent = without_first r.unsent }))

-- `done`, by what was told
abbrev pub done : ClientMsg → Language → Runtime → Did
done (request_is.Hello format roots) language r = nothing r
done request_is.Ask language r = nothing r
done (request_is.Fetch n) language r = nothing r
done (request_is.Applied table) language r = apply_in r.page.plan language r
done (request_is.Aborted cause n m x) language r = abort_in r.page.plan language r
done (request_is.Invalidate n v message) language r = invalidated n message r
done request_is.Bye language r = nothing r

-- `refused`, by what was told
abbrev pub took_refusal : ClientMsg → Runtime → Did
took_refusal (request_is.Hello format roots) r = nothing r
took_refusal request_is.Ask r = nothing r
took_refusal (request_is.Fetch n) r = nothing r
took_refusal (request_is.Applied table) r = nothing r
took_refusal (request_is.Aborted cause n m x) r = nothing r
took_refusal (request_is.Invalidate n v message) r = ignored n r
took_refusal request_is.Bye r = nothing r

-- what the answer to a request does
abbrev pub answered : Language → ClientMsg → ServerMsg → Runtime → Did
answered language asked (msg.Connected client roots) r = connect client roots r
answered language asked (msg.Update replaced updates batch triggered) r =
    and_then (write_batch batch triggered r) (start_update replaced (map pair_of updates))
answered language asked (msg.Prune paths) r = prune language paths r
answered language asked (msg.FullReload cause path batch triggered) r =
    and_then (write_batch batch triggered r) (start_reload (line.Reload r.client cause path))
answered language asked (msg.Error n row column word) r = write (line.Error r.client n row column word) r
answered language asked (msg.Broken n row column word) r = with_cause (broken n) r
answered language asked msg.Idle r = nothing r
answered language asked msg.Done r = done asked language r
answered language asked (msg.Text n v t) r = stage_in r.page.plan language n v t r
answered language asked (msg.Missing n) r = with_cause (missing n) r
answered language asked (msg.NotYet n) r = write (line.Wait r.client n) r
answered language asked (msg.Refused code n told kept) r = took_refusal asked r
