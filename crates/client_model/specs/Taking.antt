-- A client takes a message: the answer to its request, or one that it can't take.
use Rattle.std.specs.Prelude.{ℕ, ◌+◌, nat_lt, Bool, true, false, not, ◌&&◌, List, [], ◌∷◌, ◌++◌, length}
use Rattle.std.specs.Prelude.{Option, Some, None, if◌then◌else◌}
use Rattle.hmr_types.specs.declared.limits.TheConstants.{INSTANCES}
use Rattle.output_lines.specs.declared.out_line.OutLine.{OutLine}
use Rattle.update_msgs.specs.declared.message.ClientMsg.{ClientMsg}
use Rattle.update_msgs.specs.declared.message.ClientMsg.TheVariants as request_is
use Rattle.update_msgs.specs.declared.message.ServerMsg.{ServerMsg}
use Rattle.update_msgs.specs.declared.message.ServerMsg.TheVariants as msg
use Rattle.core_model.specs.Sources.{Text}
use Rattle.core_model.specs.Page.{Plan}
use Rattle.client_model.specs.Language.{Language}
use Rattle.client_model.specs.Journal.{Journal, lines_of_all}
use Rattle.client_model.specs.Runtime.{Runtime, Did}
use Rattle.client_model.specs.Linking.{new_names}
use Rattle.client_model.specs.Requesting.{request}
use Rattle.client_model.specs.Answering.{answered}
use Rattle.client_model.specs.Expecting.{is_answer, request_place, answer_place}

-- how many instances an answer makes: at `done` after an Applied, those of the plan
abbrev pub made_by_plan : Option Plan → Runtime → ℕ
made_by_plan None r = 0
made_by_plan (Some p) r = length (new_names p r)

-- the answer at which a plan is applied
abbrev pub is_applied : ClientMsg → ServerMsg → Bool
is_applied (request_is.Applied table) msg.Done = true
is_applied asked m = false

-- applying would make more instances than a client may
abbrev pub is_too_many : ClientMsg → ServerMsg → Runtime → Bool
is_too_many asked m r =
    is_applied asked m && nat_lt INSTANCES (length r.instances + made_by_plan r.page.plan r)

-- what taking a message answers
pub data Taken : Type 0 where
  took : List OutLine → Taken
  unexpected : ℕ → ℕ → Taken
  instances_full : Taken
  is_stopped : Taken

-- what a client is after a message, what happened, and what taking it answers
pub record Taking : Type 0 where
  pub after : Runtime
  pub journal : Journal
  pub answer : Taken

-- the message isn't taken, and nothing changes
abbrev pub unchanged_by : Taken → Runtime → Taking
unchanged_by answer r = record { after = r; journal = []; answer = answer }

-- the lines are those of what happened, under the client's number
abbrev pub did_take : Did → Taking
did_take did = record { after = did.0; journal = did.1; answer = took (lines_of_all did.0.client did.1) }

-- nothing is run, and the client takes no message from now on
abbrev pub stop : Runtime → Taking
stop r = record { after = record r { stopped = true }; journal = []; answer = instances_full }

-- a message is taken: a client that stopped takes none, nor is one taken that is no answer to the
-- request that stands, nor one that would make too many instances
abbrev pub take : Language → Runtime → ServerMsg → Taking
take language r m =
    let asked : ClientMsg = request language r in
    let did : Taking = did_take (answered language asked m r) in
    if r.stopped then unchanged_by is_stopped r else (
    if not (is_answer r.page.loaded asked m)
    then unchanged_by (unexpected (request_place asked) (answer_place m)) r
    else (
    if is_too_many asked m r then stop r else did))
