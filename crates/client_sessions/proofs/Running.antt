-- A message that is taken leaves a client that isn't stopped running.
use Rattle.std.proofs.Common.{◌≡◌, ℕ, Bool, true, false, List, Option, Some, None, refl, ap, ◌∙◌}
use Rattle.std.specs.Prelude.{map, not, ◌==◌, if◌then◌else◌}
use Rattle.hmr_types.specs.declared.analysis.Outcome.{Outcome}
use Rattle.hmr_types.specs.declared.analysis.Outcome.TheVariants.{Good, Bad}
use Rattle.output_lines.specs.declared.out_line.OutLine.{OutLine}
use Rattle.update_msgs.specs.declared.message.ClientMsg.{ClientMsg}
use Rattle.update_msgs.specs.declared.message.ClientMsg.TheVariants as asks
use Rattle.update_msgs.specs.declared.message.ServerMsg.{ServerMsg}
use Rattle.update_msgs.specs.declared.message.ServerMsg.TheVariants as msg
use Rattle.core_model.specs.Names.{Name, has}
use Rattle.core_model.specs.Page.{Plan}
use Rattle.core_model.specs.Sources.{Text}
use Rattle.client_model.specs.Language.{Language}
use Rattle.client_model.specs.Runtime.{Runtime, Cause, Did, nothing, for_each, write}
use Rattle.client_model.specs.Answering.{accept_line, pair_of, stage, stage_in, start_update, apply_in, write_cause, abort_in, write_batch, answered, done, took_refusal}
use Rattle.client_model.specs.Applying.{live_of, prune_instance}
use Rattle.client_model.specs.Expecting.{is_answer, request_place, answer_place}
use Rattle.client_model.specs.Requesting.{request, cause_by}
use Rattle.client_model.specs.Taking.{Taking, take, took, is_stopped, unexpected, unchanged_by, stop, did_take, is_too_many}
use Rattle.client_model.proofs.Acts.{kept_applying, kept_pruning, kept_lines, before_finish}
use Rattle.client_model.proofs.Staying.{Stays, page_kept}

write_if : (b : Bool) (l : OutLine) (r : Runtime) → (if b then nothing r else write l r).0 ≡ r
write_if true l r = refl
write_if false l r = refl

write_cause_same : (cause : Option Cause) (r : Runtime) → (write_cause cause r).0 ≡ r
write_cause_same None r = refl
write_cause_same (Some cause) r = refl

updating : (language : Language) (replaced : List Name) (pairs : List (Name × Name)) (r : Runtime) → (start_update replaced pairs r).0.stopped ≡ r.stopped
updating language replaced pairs r =
    let k : Stays r (for_each (λ pair s. write (accept_line s.client pair) s) pairs r) = kept_lines Stays page_kept language (λ pair s. accept_line s.client pair) pairs r in k.stopped

staging : (o : Outcome) (p : Plan) (n : Name) (v : ℕ) (t : Text) (r : Runtime) → (stage o p n v t r).0.stopped ≡ r.stopped
staging (Good a) p n v t r = refl
staging (Bad fault) p n v t r = refl

staging_in : (p : Option Plan) (language : Language) (n : Name) (v : ℕ) (t : Text) (r : Runtime) → (stage_in p language n v t r).0.stopped ≡ r.stopped
staging_in None language n v t r = refl
staging_in (Some p) language n v t r = staging (language.transformed n t) p n v t r

applying : (p : Option Plan) (language : Language) (r : Runtime) → (apply_in p language r).0.stopped ≡ r.stopped
applying None language r = refl
applying (Some p) language r = let k : Stays r (before_finish language p r) = kept_applying Stays page_kept language p r in k.stopped

aborting : (p : Option Plan) (language : Language) (r : Runtime) → (abort_in p language r).0.stopped ≡ r.stopped
aborting None language r = refl
aborting (Some p) language r = ap (λ (s : Runtime). s.stopped) (write_cause_same (cause_by r.cause language p r) r)

being_done : (asked : ClientMsg) (language : Language) (r : Runtime) → (done asked language r).0.stopped ≡ r.stopped
being_done (asks.Hello format roots) language r = refl
being_done asks.Ask language r = refl
being_done (asks.Fetch n) language r = refl
being_done (asks.Applied table) language r = applying r.page.plan language r
being_done (asks.Aborted cause n m x) language r = aborting r.page.plan language r
being_done (asks.Invalidate n v message) language r = refl
being_done asks.Bye language r = refl

being_refused : (asked : ClientMsg) (r : Runtime) → (took_refusal asked r).0.stopped ≡ r.stopped
being_refused (asks.Hello format roots) r = refl
being_refused asks.Ask r = refl
being_refused (asks.Fetch n) r = refl
being_refused (asks.Applied table) r = refl
being_refused (asks.Aborted cause n m x) r = refl
being_refused (asks.Invalidate n v message) r = refl
being_refused asks.Bye r = refl

-- every answer leaves it as it was
runs_on : (language : Language) (asked : ClientMsg) (m : ServerMsg) (r : Runtime) → (answered language asked m r).0.stopped ≡ r.stopped
runs_on language asked (msg.Connected client roots) r = refl
runs_on language asked (msg.Update replaced updates batch triggered) r =
    updating language replaced (map pair_of updates) (write_batch batch triggered r).0 ∙ ap (λ (s : Runtime). s.stopped) (write_if (batch == 0) _ r)
runs_on language asked (msg.Prune paths) r =
    let k : Stays r (for_each (prune_instance language) (live_of (has paths) r) r) = kept_pruning Stays page_kept language paths r in k.stopped
runs_on language asked (msg.FullReload cause path batch triggered) r = ap (λ (s : Runtime). s.stopped) (write_if (batch == 0) _ r)
runs_on language asked (msg.Error n row column word) r = refl
runs_on language asked (msg.Broken n row column word) r = refl
runs_on language asked msg.Idle r = refl
runs_on language asked msg.Done r = being_done asked language r
runs_on language asked (msg.Text n v t) r = staging_in r.page.plan language n v t r
runs_on language asked (msg.Missing n) r = refl
runs_on language asked (msg.NotYet n) r = refl
runs_on language asked (msg.Refused code n told kept) r = being_refused asked r

picked : (stopped unfit full : Bool) (r : Runtime) (w g : ℕ) (did : Did) (lines : List OutLine) → r.stopped ≡ stopped → did.0.stopped ≡ r.stopped
    → let chosen : Taking = if stopped then unchanged_by is_stopped r else (if unfit then unchanged_by (unexpected w g) r else (if full then stop r else did_take did)) in chosen.answer ≡ took lines → chosen.after.stopped ≡ false
picked true unfit full r w g did lines e k h = cc
picked false true full r w g did lines e k h = cc
picked false false true r w g did lines e k h = cc
picked false false false r w g did lines e k h = k ∙ e

-- a client that took a message runs
pub took_runs : (language : Language) (r : Runtime) (m : ServerMsg) (lines : List OutLine) → (take language r m).answer ≡ took lines → (take language r m).after.stopped ≡ false
took_runs language r m lines h =
    let asked : ClientMsg = request language r in
    picked r.stopped (not (is_answer r.page.loaded asked m)) (is_too_many asked m r) r (request_place asked) (answer_place m) (answered language asked m r) lines refl (runs_on language asked m r) h
