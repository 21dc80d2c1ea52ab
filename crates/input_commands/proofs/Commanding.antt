-- Commands of more than one step.
use Rattle.std.proofs.Common.{◌≡◌, ℕ, Bool, true, false, List, [], ◌∷◌, map, fold, reverse, ap, sym, refl, ◌∙◌}
use Rattle.std.specs.Prelude.{Option, Some, None, is_some}
use Rattle.std.proofs.lemmas.Bool.{false≢true}
use Rattle.std.proofs.Math.Path.{subst}
use Rattle.core_model.specs.Core.{client_at}
use Rattle.core_model.specs.Names.{Name}
use Rattle.client_model.specs.Runtime.{Runtime}
use Rattle.world_model.specs.World.{Job, settles, turn}
use Rattle.world_model.specs.Playing.{Stage, is_up_in, settle_of}
use Rattle.world_laws.specs.Runs.{Run, world_of}
use Rattle.world_parts.specs.Jobs.{key_of}
use Rattle.run_promises.specs.RunSteps as run_steps
use Rattle.event_world.specs.Worlds as worlds
use Rattle.event_world.specs.Worlds.{World}
use Rattle.event_runs.specs.Courses.{Course, plain, world_in}
use Rattle.event_runs.specs.Runs.{run_of}
use Rattle.event_runs.specs.Playing.{Played, client_in, is_up_at, play_step, play_turns, play_turns_of, settle_all, turns}
use Rattle.event_world.specs.declared.event_world.EventWorld.{EventWorld}
use Rattle.script_runs.specs.Playing.{commanded, nothing, settled_by}
use Rattle.input_commands.specs.Standing.{IsAt}

steps_of : (jobs : List Job) →
    map (λ (key : Name × ℕ). plain (settles key.0 key.1)) (map key_of jobs) ≡ map (λ j. plain (settle_of j)) jobs
steps_of [] = refl
steps_of (j ∷ jobs) = ap (λ ss. plain (settles j.name j.version) ∷ ss) (steps_of jobs)

-- settling all is settling the jobs under way
pub settles_all : (stage : Stage) (w : Course) (jobs : List (Name × ℕ)) →
    jobs ≡ map key_of (reverse (world_in stage w).issued) → settled_by stage jobs w ≡ commanded stage settle_all w
settles_all stage w jobs e =
    ap (λ js. settled_by stage js w) e
    ∙ ap (fold (play_step stage) (nothing w)) (steps_of (reverse (world_in stage w).issued))

open_by : (stage : Stage) (i k : ℕ) (r : Option Runtime) (p : Played) → is_some r ≡ true →
    play_turns stage i k p ≡ play_turns_of stage i k r p
open_by stage i k None p e = absurd (false≢true e)
open_by stage i k (Some r) p e = refl

closed_by : (stage : Stage) (i k : ℕ) (r : Option Runtime) (p : Played) → is_some r ≡ false →
    play_step stage p (plain (turn i)) ≡ play_turns_of stage i k r p
closed_by stage i k None p e = refl
closed_by stage i k (Some r) p e = absurd (false≢true (sym e))

-- turns of a client that is open, or isn't
pub turns_open : (stage : Stage) (i k : ℕ) (w : Course) → is_some (client_in stage w i) ≡ true →
    play_turns stage i k (nothing w) ≡ commanded stage (turns i k) w
turns_open stage i k w e = open_by stage i k (client_in stage w i) (nothing w) e

pub turns_closed : (stage : Stage) (i k : ℕ) (w : Course) → is_some (client_in stage w i) ≡ false →
    play_step stage (nothing w) (plain (turn i)) ≡ commanded stage (turns i k) w
turns_closed stage i k w e = closed_by stage i k (client_in stage w i) (nothing w) e

module _ {F : Type 0} (stage : Stage) (w : Course) (world : EventWorld F) (h : IsAt stage w world) (seen : World F) (same : seen ≡ world.world) where
  -- the world that is seen stands for the run of the course
  stands_seen : worlds.StandsFor (run_of h.run) seen
  stands_seen = subst (worlds.StandsFor (run_of h.run)) (sym same) h.stands.world_stands

  -- the run's world is the one of the course
  in_course : {X : Type 0} (read : Stage → Course → X) →
      read (run_steps.stage_of (run_of h.run)) (record { steps = (run_of h.run).steps; calls = w.calls })
      ≡ read stage (record { steps = w.steps; calls = w.calls })
  in_course read =
      ap (λ st. read st (record { steps = (run_of h.run).steps; calls = w.calls })) h.stage_is
      ∙ ap (λ (c : Course). read stage (record { steps = c.steps; calls = w.calls })) h.is

  -- what is read of the world is read of the course's world
  pub caught_up_at : (i : ℕ) (up said : Bool) →
      ((run : Run) → worlds.StandsFor run seen →
      up ≡ is_up_in (run_steps.stage_of run) (world_of run) i (client_at (world_of run).clients i)) →
      up ≡ said → is_up_at stage w i ≡ said
  caught_up_at i up said f e = sym (f (run_of h.run) stands_seen ∙ in_course (λ st c. is_up_at st c i)) ∙ e

  pub jobs_at : (jobs : List (Name × ℕ)) →
      ((run : Run) → worlds.StandsFor run seen → jobs ≡ map key_of (reverse (world_of run).issued)) →
      jobs ≡ map key_of (reverse (world_in stage w).issued)
  jobs_at jobs f = f (run_of h.run) stands_seen ∙ in_course (λ st c. map key_of (reverse (world_in st c).issued))

  pub open_at : (i : ℕ) (found : Bool) →
      ((run : Run) → worlds.StandsFor run seen → found ≡ is_some (client_at (world_of run).clients i)) →
      is_some (client_in stage w i) ≡ found
  open_at i found f = sym (f (run_of h.run) stands_seen ∙ in_course (λ st c. is_some (client_in st c i)))
