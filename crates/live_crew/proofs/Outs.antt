-- An Out of a job has a pass of the job's hub.
use Rattle.std.proofs.Common.{inl, inr, ℕ, ap, ◌∙◌}
use Rattle.std.specs.Arc.{arc_value}
use Rattle.atomic_table.specs.Seated.{TableId}
use Rattle.doors.specs.declared.door.Door as Door
use Rattle.doors.specs.declared.visitor.Visitor as Visitor
use Rattle.transport.specs.declared.link.Link as Link
use Rattle.jobs.specs.Ends.{Finished}
use Rattle.hmr_hub.specs.Passes.{hub_mark}
use Rattle.live_crew.specs.declared.job.LiveJob.{LiveJob}
use Rattle.live_crew.specs.declared.job.LiveJob.TheVariants.{Worker, Door as AtDoor}
use Rattle.live_crew.specs.declared.job.LiveOut.{LiveOut}
use Rattle.live_crew.specs.declared.job.LiveOut.TheVariants.{Worker as WorkerOut, Door as DoorOut}
use Rattle.live_crew.specs.Outs.{JobOf, OutIsGood, OutOf}
use Rattle.live_crew.proofs.Attendants.{same_has}

module _ {R D F E : Type 0} {v : Visitor.Ghosts E} {l : Link.Ghosts E} (g : Door.Ghosts D E) where
  pub out_is_good : (mark : TableId) (job : LiveJob R D F E g v l) (out : LiveOut R D F) → OutOf g job out → JobOf g mark job → OutIsGood g mark out
  out_is_good mark (Worker j) (WorkerOut board ended) o of = ap (λ hub. hub_mark (arc_value hub)) o.hub ∙ of
  out_is_good mark (Worker j) (DoorOut door attendant ended) o of = absurd o
  out_is_good mark (AtDoor j) (WorkerOut board ended) o of = absurd o
  out_is_good mark (AtDoor j) (DoorOut door attendant ended) o of =
      (ap (λ hub. hub_mark (arc_value hub)) o.0.hub ∙ of, same_has j.attendant attendant o.0 j.ready, o.1)

  -- a job that was waited for
  pub finished_out : (n m : ℕ) (job : LiveJob R D F E g v l) (out : LiveOut R D F) → Finished (OutOf g) (OutOf g) job out n m → OutOf g job out
  finished_out n m job out (inl o) = o
  finished_out n m job out (inr o) = o.0
