-- An Out of a job has a pass of the job's hub.
use Rattle.std.proofs.Common.{◌≡◌, ◌≢◌, ℕ, Bool, true, false, refl, ap, sym, ◌∙◌, arith}
use Rattle.std.specs.Prelude.{◌==◌, Some, Result, Ok, Err}
use Rattle.std.specs.Arc.{arc_value}
use Rattle.atomic_table.specs.Seated.{TableId}
use Rattle.hmr_base.specs.Causes.{Rose}
use Rattle.transport.specs.declared.link.Link as Link
use Rattle.sessions.specs.declared.ended.Ended.{Ended}
use Rattle.sessions.specs.declared.ended.Ended.TheVariants.{Stopped}
use Rattle.update_msgs.specs.declared.desk.HubStop.{HubStop}
use Rattle.update_msgs.specs.declared.desk.HubStop.TheVariants.{TranscriptFull, NoMemory}
use Rattle.transform_pool.specs.Boards.{full_after}
use Rattle.hmr_hub.specs.Passes.{hub_mark, mark_of, number_of}
use Rattle.session_desks.specs.declared.board.HubBoard.{HubBoard}
use Rattle.session_desks.specs.declared.desk.HubDesk.{HubDesk}
use Rattle.session_desks.specs.Boards.{SameBoard}
use Rattle.session_desks.specs.Desks.{Left, LeftBy, SameDesk}
pub use Rattle.session_desks.proofs.Fullness.{nearly_full}
use Rattle.serve_crew.specs.declared.job.SessionJob.{SessionJob}
use Rattle.serve_crew.specs.declared.job.ServeJob.{ServeJob}
use Rattle.serve_crew.specs.declared.job.ServeJob.TheVariants.{Worker, Session}
use Rattle.serve_crew.specs.declared.job.ServeOut.{ServeOut}
use Rattle.serve_crew.specs.declared.job.ServeOut.TheVariants.{Worker as WorkerOut, Session as SessionOut}
use Rattle.serve_crew.specs.Outs.{HasLeft, IsServed, IsShut, JobOf, OutIsGood, OutOf, is_unrun}

-- a count that rose isn't 0
pub rose_some : (before now : ℕ) → Rose before now → now ≢ 0
rose_some before now rose zero = omega arith

board_mark : (x y : HubBoard) → SameBoard x y → mark_of y.pass ≡ mark_of x.pass
board_mark x y same = y.of_hub ∙ (ap (λ hub. hub_mark (arc_value hub)) same.hub ∙ sym x.of_hub)

desk_mark : {R : Type 0} (x y : HubDesk R) → SameDesk x y → mark_of y.pass ≡ mark_of x.pass
desk_mark x y same = y.of_hub ∙ (ap (λ hub. hub_mark (arc_value hub)) same.hub ∙ sym x.of_hub)

pub out_is_good : {R L G : Type 0} (g : Link.Ghosts L) (mark : TableId) (job : ServeJob R L G g) (out : ServeOut R L) → OutOf g job out → JobOf g mark job → OutIsGood g mark out
out_is_good g mark (Worker j) (WorkerOut board ended) o of = (board_mark j.board board o.0 ∙ of, o.1)
out_is_good g mark (Worker j) (SessionOut desk link ended) o of = absurd o
out_is_good g mark (Session j) (WorkerOut board ended) o of = absurd o
out_is_good g mark (Session j) (SessionOut desk link ended) o of = (desk_mark j.desk desk o.0 ∙ of, o.1, o.2)

full_stays : {T : Type 0} (full : Bool) (reply : Result T HubStop) → full ≡ true → full_after full reply ≡ true
full_stays full (Ok reply) e = e
full_stays full (Err TranscriptFull) e = refl
full_stays full (Err NoMemory) e = e

-- a desk that was left is of the same hub, and stays full
left_same : {R : Type 0} (b : Bool) (x y : HubDesk R) → LeftBy b x y → SameDesk x y
left_same true x y left = record { hub = ap (λ desk. desk.hub) left; number = ap (λ desk. number_of desk.pass) left }
left_same false x y left = record { hub = left.hub; number = left.told.same.number }

left_full : {R : Type 0} (b : Bool) (x y : HubDesk R) → LeftBy b x y → x.full ≡ true → y.full ≡ true
left_full true x y left e = ap (λ desk. desk.full) left ∙ e
left_full false x y left e = left.told.full_is ∙ full_stays x.full left.reply e

-- what is handed back for a session that was served
pub session_served : {R L : Type 0} (G : Type 0) (g : Link.Ghosts L) (j : SessionJob R L g) (served desk : HubDesk R) (link : L) (ended : Ended)
    → IsServed g j.link j.desk ended link served → Left served desk → IsShut g link (Some ended)
    → OutOf {G = G} g (Session j) (SessionOut desk link (Some ended)) × (is_unrun (SessionOut desk link (Some ended)) ≡ false) × HasLeft {G = G} g (Session j) (SessionOut desk link (Some ended))
session_served G g j served desk link ended how left shut =
    let then : SameDesk served desk = left_same (served.client == 0) served desk left in
    let whole : SameDesk j.desk desk = record { hub = then.hub ∙ how.same.hub; number = then.number ∙ how.same.number } in
    let full : Some ended ≡ Some Stopped → desk.full ≡ true = λ e. left_full (served.client == 0) served desk left (how.stopped.0 cc) in
    ((whole, shut, full), refl, (served, ended, refl, how, left))
