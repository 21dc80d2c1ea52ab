-- How the session of a client can end, and what its ending tells.
use Rattle.std.proofs.Common.{◌⊎◌, inl, inr, ℕ, true, false, List, refl, subst, arith}
use Rattle.std.specs.Prelude.{◌≡◌, ◌≢◌, Option, Some, None, is_some}
use Rattle.hmr_base.specs.Causes.{Rose}
use Rattle.output_lines.specs.declared.out_line.OutLine.{OutLine}
use Rattle.client_model.specs.Runtime.{Opening}
use Rattle.sessions.specs.declared.ended.Ended.{Ended}
use Rattle.sessions.specs.declared.ended.Ended.TheVariants.{Closed, LinkFault, BadMessage, Stopped}
use Rattle.sessions.specs.declared.ended.Ended.TheVariants.{NoMemory, Unexpected, InstancesFull}
use Rattle.client_sessions.specs.Course.{ClientCourse, ComesTo}
use Rattle.crew_plans.specs.Endings.{ended_by_link, is_faulty_end}
use Rattle.client_jobs.specs.ClientEnds.{ending_of}

-- a count that rose isn't 0
pub rose_some : (before now : ℕ) → Rose before now → now ≢ 0
rose_some before now rose zero = omega arith

-- its course in the format of its runtime
pub told_in : (opening : Opening) (turns a b : ℕ) (left left' sent sent' : Option (List (List ℕ))) (lines : List OutLine) (ended : Ended) → a ≡ b
    → ClientCourse opening turns a left left' sent sent' lines ended → ClientCourse opening turns b left left' sent sent' lines ended
told_in opening turns a b left left' sent sent' lines ended e course = subst (λ format. ClientCourse opening turns format left left' sent sent' lines ended) e course

-- it never ends as a server's does whose transcript is full
pub never_stopped : (opening : Opening) (turns format : ℕ) (left left' sent sent' : Option (List (List ℕ))) (lines : List OutLine) (ended : Ended)
    → ClientCourse opening turns format left left' sent sent' lines ended → ended ≢ Stopped
never_stopped opening turns format left left' sent sent' lines ended course e = subst (λ ended. ComesTo ended opening turns format course.answers course.takes course.sends left') e course.comes

-- which ending is one by a fault of the link
link_ended : (ended : Option Ended) → ended_by_link ended ≡ true → ended ≡ Some LinkFault
link_ended None t = absurd (let x : false ≡ true = t in cc)
link_ended (Some Closed) t = absurd (let x : false ≡ true = t in cc)
link_ended (Some LinkFault) t = refl
link_ended (Some (BadMessage fault)) t = absurd (let x : false ≡ true = t in cc)
link_ended (Some Stopped) t = absurd (let x : false ≡ true = t in cc)
link_ended (Some NoMemory) t = absurd (let x : false ≡ true = t in cc)
link_ended (Some (Unexpected wanted got)) t = absurd (let x : false ≡ true = t in cc)
link_ended (Some InstancesFull) t = absurd (let x : false ≡ true = t in cc)

-- why a client is faulty
pub end_cause : {X : Type 0} (told : Option (Ended × X)) (faults n m p q : ℕ) → (ending_of told ≡ Some LinkFault → faults ≢ 0) → (faults ≢ 0 → Rose n m) → (is_some told ≡ false → Rose p q)
    → is_faulty_end (ending_of told) ≡ true → Rose n m ⊎ Rose p q
end_cause None faults n m p q shown rose given_up t = inr (given_up refl)
end_cause (Some session) faults n m p q shown rose given_up t = inl (rose (shown (link_ended (Some session.0) t)))
