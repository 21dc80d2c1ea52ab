-- What is handed back for a client's job, by the session that the client made.
use Rattle.std.specs.Prelude.{◌≡◌, ◌≤◌, ℕ, Bool, List, Option, Some, None}
use Rattle.std.specs.Global.{Vec}
use Rattle.hmr_base.specs.Causes.{Rose}
use Rattle.output_lines.specs.declared.out_line.OutLine.{OutLine}
use Rattle.transport.specs.declared.link.Link as Link
use Rattle.client_model.specs.Runtime.{Opening}
use Rattle.handler_table.specs.Shelf.{marks_of}
use Rattle.sessions.specs.declared.ended.Ended.{Ended}
use Rattle.sessions.specs.declared.ended.Ended.TheVariants.{LinkFault}
use Rattle.client_sessions.specs.Course.{ClientCourse}
use Rattle.client_jobs.specs.ClientEnds.{IsClientEnd}
use Rattle.client_jobs.specs.declared.client.ClientOpening.{ClientOpening}
use Rattle.client_jobs.specs.declared.client.ClientJob.{ClientJob}
use Rattle.client_jobs.specs.declared.client.ClientEnd.{ClientEnd}

-- what the runtime of a client begins with
abbrev pub opening_of : {F : Type 0} → ClientOpening F → Opening
opening_of o = record { shelf = marks_of o.shelf; roots = o.roots.items; format = o.format }

-- What a client's session leaves of its link, and what it tells. The messages that were taken of the link, the
-- requests that were sent, the lines and the ending are those of one session.
pub record HasTalked {L : Type 0} (g : Link.Ghosts L) (opening : Opening) (turns : ℕ) (link link' : L)
    (ended : Ended) (lines : List OutLine) : Type 0 where
  pub course : ClientCourse opening turns opening.format (g.left link) (g.left link') (g.sent link)
      (g.sent link') lines ended
  pub later : g.faults link ≤ g.faults link'
  pub failed : ended ≡ LinkFault → Rose (g.faults link) (g.faults link')

-- nothing went over the link
pub record IsSilent {L : Type 0} (g : Link.Ghosts L) (link link' : L) : Type 0 where
  pub left : g.left link' ≡ g.left link
  pub sent : g.sent link' ≡ g.sent link
  pub faults : g.faults link' ≡ g.faults link

-- the one where the client was worked, the other where it was given up
abbrev pub Tells : {L : Type 0} → Link.Ghosts L → Opening → ℕ → L → L → Option (Ended × Vec OutLine) → Type 0
Tells g opening turns link link' None = IsSilent g link link'
Tells g opening turns link link' (Some told) = HasTalked g opening turns link link' told.0 told.1.items

-- what is handed back for a client's job, worked or given up
pub record IsEndOf {F L : Type 0} {g : Link.Ghosts L} (job : ClientJob F L g) (end : ClientEnd L)
    (worked : Bool) : Type 0 where
  pub ends : IsClientEnd (g.phase end.link) (g.faults end.link) end.told worked
  pub tells : Tells g (opening_of job.opening) job.turns job.link end.link end.told
