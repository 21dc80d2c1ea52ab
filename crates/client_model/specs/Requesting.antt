-- The request that stands: what a client asks or tells next.
use Rattle.std.specs.Prelude.{◌==◌, List, [], ◌∷◌, Option, Some, None, if◌then◌else◌}
use Rattle.update_msgs.specs.declared.message.ClientMsg.{ClientMsg}
use Rattle.update_msgs.specs.declared.message.ClientMsg.TheVariants as msg
use Rattle.update_msgs.specs.declared.message.AbortCause.TheVariants as abort
use Rattle.core_model.specs.Names.{Name}
use Rattle.core_model.specs.View.{table_of}
use Rattle.core_model.specs.Page.{Plan, new_view}
use Rattle.client_model.specs.Language.{Language}
use Rattle.client_model.specs.Runtime.{Runtime, Cause, missing, broken, unlinked, Invalidation}
use Rattle.client_model.specs.Linking.{next_needed, link_cause}

-- the first invalidation that is unsent, or what is there to do
abbrev pub ask_or_invalidate : List Invalidation → ClientMsg
ask_or_invalidate [] = msg.Ask
ask_or_invalidate (i ∷ more) = msg.Invalidate i.name i.version i.message

-- the plan is given up for this cause
abbrev pub abort_message : Cause → ClientMsg
abort_message (missing n) = msg.Aborted abort.Missing n None None
abort_message (broken n) = msg.Aborted abort.Broken n None None
abort_message (unlinked n m x) = msg.Aborted abort.Link n (Some m) (Some x)

-- all is fetched: the plan is given up where a new instance can't be linked, else it is applied
abbrev pub apply_or_abort : Option Cause → Plan → Runtime → ClientMsg
apply_or_abort None p r = msg.Applied (table_of (new_view r.roots p r.page.view))
apply_or_abort (Some cause) p r = abort_message cause

-- the next fetch; where there is none, the end of the plan
abbrev pub fetch_or_finish : Option Name → Option Cause → Plan → Runtime → ClientMsg
fetch_or_finish (Some n) at_links p r = msg.Fetch n
fetch_or_finish None at_links p r = apply_or_abort at_links p r

-- a cause that a fetch found ends the fetching
abbrev pub carry_on : Option Cause → Language → Plan → Runtime → ClientMsg
carry_on (Some cause) language p r = abort_message cause
carry_on None language p r = fetch_or_finish (next_needed p r) (link_cause language p r) p r

-- with no plan, an invalidation or an ask; with one, what carries it on
abbrev pub request_by : Option Plan → Language → Runtime → ClientMsg
request_by None language r = ask_or_invalidate r.unsent
request_by (Some p) language r = carry_on r.cause language p r

-- the first request: the format that the client speaks, and the roots that it names
abbrev pub hello : Runtime → ClientMsg
hello r = msg.Hello r.format r.named

-- the request that stands
abbrev pub request : Language → Runtime → ClientMsg
request language r = if r.client == 0 then hello r else request_by r.page.plan language r

-- the cause of the plan under way to be given up, where there is one
abbrev pub cause_by : Option Cause → Language → Plan → Runtime → Option Cause
cause_by (Some cause) language p r = Some cause
cause_by None language p r = link_cause language p r
