-- What a job that ended leaves.
use Rattle.std.specs.Prelude.{ℕ, Bool, true, false, not, ◌||◌, Option, Some, None, is_some}
use Rattle.std.specs.Prelude.{Result, Ok, Err, ⊤}
use Rattle.transport.specs.declared.link.Link as Link
use Rattle.update_msgs.specs.declared.desk.HubStop.{HubStop}
use Rattle.update_msgs.specs.declared.desk.HubStop.TheVariants.{TranscriptFull, NoMemory as NoMemoryStop}
use Rattle.serve_crew.specs.declared.job.ServeOut.{ServeOut}
use Rattle.serve_crew.specs.declared.job.ServeOut.TheVariants.{Worker, Session}
use Rattle.serve_crew.specs.Outs.{IsShut}
use Rattle.crew_plans.specs.Hubs.{Pass}
use Rattle.crew_plans.specs.Endings.{ended_by_link, ended_for_memory, is_faulty_end}

-- a worker stopped since there was no memory
abbrev pub stopped_for_memory : Option (Result ℕ HubStop) → Bool
stopped_for_memory None = false
stopped_for_memory (Some (Ok count)) = false
stopped_for_memory (Some (Err TranscriptFull)) = false
stopped_for_memory (Some (Err NoMemoryStop)) = true

module _ {R L : Type 0} where
  -- the job's pass of the hub
  abbrev pub pass_in : ServeOut R L → Pass
  pass_in (Worker board ended) = board.pass
  pass_in (Session desk link ended) = desk.pass

  -- how many ends of connections the job hands back
  abbrev pub ends_back : ServeOut R L → ℕ
  ends_back (Worker board ended) = 0
  ends_back (Session desk link ended) = 1

  -- there was no memory for the job, or for telling the hub that its client is gone
  abbrev pub lacked_memory : ServeOut R L → Bool
  lacked_memory (Worker board ended) = stopped_for_memory ended
  lacked_memory (Session desk link ended) = desk.no_memory || ended_for_memory ended

  -- the hub answered that its transcript is full
  abbrev pub found_full : ServeOut R L → Bool
  found_full (Worker board ended) = board.full
  found_full (Session desk link ended) = desk.full

  -- the job's link failed
  abbrev pub has_link_fault : ServeOut R L → Bool
  has_link_fault (Worker board ended) = false
  has_link_fault (Session desk link ended) = ended_by_link ended

  -- the job was given up, or its link failed
  abbrev pub is_faulty : ServeOut R L → Bool
  is_faulty (Worker board ended) = not (is_some ended)
  is_faulty (Session desk link ended) = is_faulty_end ended

-- the job's end of a connection is shut, and its count shows where the link failed; a worker has none
abbrev pub IsDone : {R L : Type 0} → Link.Ghosts L → ServeOut R L → Type 0
IsDone g (Worker board ended) = ⊤
IsDone g (Session desk link ended) = IsShut g link ended
