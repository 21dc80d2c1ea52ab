-- In the run of a script whose lines have names, the steps went on unless it is over, and have names.
use Rattle.std.proofs.Common.{◌≡◌, ℕ, zero, suc, Bool, true, false, List, [], ◌∷◌, map, fold, reverse, refl, ap, sym, ◌∙◌}
use Rattle.std.specs.Prelude.{Option, Some, None, IfSome, is_some, ⊤, if◌then◌else◌}
use Rattle.std.proofs.lemmas.Bool.{false≢true}
use Rattle.output_lines.specs.declared.out_line.OutLine.{OutLine}
use Rattle.core_model.specs.Core.{client_at}
use Rattle.client_model.specs.Firing.{Firing}
use Rattle.client_model.specs.Runtime.{Runtime}
use Rattle.world_model.specs.Playing.{Stage, settle_of}
use Rattle.world_model.specs.Ties.{WentOn}
use Rattle.world_model.specs.Turning as turning
use Rattle.world_model.specs.Turning.{fired_by, heard_at}
use Rattle.world_model.specs.World.{Job, World, turn}
use Rattle.hot_events.specs.Calls.{Event, first}
use Rattle.event_runs.specs.Courses.{Course, EventStep, emits, event_step, fired_at, hear_step, hears, plain, world_in}
use Rattle.event_runs.specs.Playing.{Command, Played, client_in, is_up_at, play_step, play_turns, play_turns_of, settle_all, step, stepped_on, turns}
use Rattle.play_script.specs.declared.script_line.ScriptLine.{ScriptLine}
use Rattle.play_script.specs.declared.script_line.ScriptLine.TheVariants as says
use Rattle.script_runs.specs.Playing.{command_of, commanded, line_played, nothing, perform, quieted, unless}
use Rattle.record_agreement.proofs.Lists.{Each}
use Rattle.played_records.proofs.Lines.{LineNamed}
use Rattle.played_records.proofs.Worlds.{StepNamed}

-- the names of a step, and of a command
abbrev EventNamed : EventStep → Type 0
EventNamed (plain s) = StepNamed s
EventNamed (emits n v) = ⊤
EventNamed (hears i) = ⊤

abbrev CommandNamed : Command → Type 0
CommandNamed (step s) = EventNamed s
CommandNamed settle_all = ⊤
CommandNamed (turns i k) = ⊤

line_named : (l : ScriptLine) → LineNamed l → IfSome (command_of l) CommandNamed
line_named says.Quiet h = tt
line_named (says.Edit n text) h = h
line_named (says.Remove n) h = h
line_named says.SettleAll h = tt
line_named (says.Settle n v) h = tt
line_named (says.Open format roots) h = h
line_named (says.Close i) h = tt
line_named (says.Turn i) h = tt
line_named (says.Turns i k) h = tt
line_named (says.Emit event text) h = tt
line_named (says.Hear i) h = tt
line_named (says.Show i) h = tt
line_named (says.Values i) h = tt
line_named (says.Fates i) h = tt
line_named says.Fresh h = tt
line_named (says.FreshOf i) h = tt

results_named : (jobs : List Job) → Each EventNamed (map (λ j. plain (settle_of j)) jobs)
results_named [] = tt
results_named (j ∷ jobs) = (tt, results_named jobs)

module _ (stage : Stage) where
  -- the steps of the world in the course went on, and have names
  abbrev pub Reached : Course → Type 0
  Reached c = WentOn stage.language stage.roots stage.shelves c.steps × Each StepNamed c.steps

  -- unless the run is over
  abbrev Reaches : Played → Type 0
  Reaches p = p.over ≡ false → Reached p.course

  -- an event that is fired makes no instance
  fire_goes_on : (i : ℕ) (w : World) (lines : Option (List OutLine)) (f : Option Firing) → is_some (fired_by i w lines f).lines ≡ true
  fire_goes_on i w lines None = refl
  fire_goes_on i w lines (Some f) = refl

  fired_reaches : (c : Course) (i : ℕ) (e : Event) (lines : Option (List OutLine)) → Reached c → Reached (fired_at c i e lines).course
  fired_reaches c i e None h = h
  fired_reaches c i e (Some lines) h =
      let w = world_in stage c in
      let r = client_at w.clients i in
      ((fire_goes_on i w (heard_at stage.language e.0 e.1 r) (turning.fired_at stage.language e.0 e.1 r), h.0), (tt, h.1))

  hear_reaches : (c : Course) (i : ℕ) (r : Option Runtime) (e : Option Event) → Reached c → Reached (hear_step stage c i r e).course
  hear_reaches c i None e h = h
  hear_reaches c i (Some r) None h = h
  hear_reaches c i (Some r) (Some e) h = fired_reaches c i e (heard_at stage.language e.0 e.1 (Some r)) h

  moved_reaches : (c : Course) (s : EventStep) (lines : List OutLine) → (event_step stage c s).lines ≡ Some lines → EventNamed s → Reached c → Reached (event_step stage c s).course
  moved_reaches c (plain s) lines e n h = ((ap is_some e, h.0), (n, h.1))
  moved_reaches c (emits n v) lines e named h = h
  moved_reaches c (hears i) lines e n h = hear_reaches c i (client_at (world_in stage c).clients i) (first c.calls i) h

  made_reaches : (c : Course) (s : EventStep) (before : List OutLine) (made : Option (List OutLine)) →
      (event_step stage c s).lines ≡ made → EventNamed s → Reached c →
      Reaches (stepped_on before (event_step stage c s).course made)
  made_reaches c s before None e n h = λ on. absurd (false≢true (sym on))
  made_reaches c s before (Some lines) e n h = λ on. moved_reaches c s lines e n h

  step_reaches : (c : Course) (lines : List OutLine) (over : Bool) (s : EventStep) →
      let p : Played = record { course = c; lines = lines; over = over } in
      EventNamed s → Reaches p → Reaches (play_step stage p s)
  step_reaches c lines true s n h = h
  step_reaches c lines false s n h = made_reaches c s lines (event_step stage c s).lines refl n (h refl)

  steps_reach : (ss : List EventStep) (p : Played) → Each EventNamed ss → Reaches p → Reaches (fold (play_step stage) p ss)
  steps_reach [] p n h = h
  steps_reach (s ∷ ss) p n h = steps_reach ss (play_step stage p s) n.1 (step_reaches p.course p.lines p.over s n.0 h)

  either_reaches : (up : Bool) (p next : Played) → Reaches p → Reaches next → Reaches (if up then p else next)
  either_reaches true p next h k = h
  either_reaches false p next h k = k

  turns_reach : (i k : ℕ) (p : Played) → Reaches p → Reaches (play_turns stage i k p)
  turns_reach i zero p h = h
  turns_reach i (suc k) p h =
      let next = play_step stage p (plain (turn i)) in
      either_reaches (is_up_at stage p.course i) p (play_turns stage i k next) h
      (turns_reach i k next (step_reaches p.course p.lines p.over (plain (turn i)) tt h))

  turns_of_reach : (i k : ℕ) (r : Option Runtime) (p : Played) → Reaches p → Reaches (play_turns_of stage i k r p)
  turns_of_reach i k None p h = step_reaches p.course p.lines p.over (plain (turn i)) tt h
  turns_of_reach i k (Some r) p h = turns_reach i k p h

  command_reaches : (command : Command) (c : Course) → CommandNamed command → Reached c → Reaches (commanded stage command c)
  command_reaches (step s) c n h = step_reaches c [] false s n (λ on. h)
  command_reaches settle_all c n h =
      let jobs = reverse (world_in stage c).issued in
      steps_reach (map (λ j. plain (settle_of j)) jobs) (nothing c) (results_named jobs) (λ on. h)
  command_reaches (turns i k) c n h = turns_of_reach i k (client_in stage c i) (nothing c) (λ on. h)

  then_reaches : (over : Bool) (part : Played) (after : Course → Played) → part.over ≡ over → Reaches part →
      ((c : Course) → Reached c → Reaches (after c)) → Reaches (unless over part after)
  then_reaches true part after e h f = λ on. absurd (false≢true (sym on ∙ e))
  then_reaches false part after e h f = λ on. f part.course (h e) on

  line_reaches : (quiet : Bool) (command : Option Command) (after : Bool → Course → Played) (c : Course) →
      IfSome command CommandNamed → Reached c → ((q : Bool) (v : Course) → Reached v → Reaches (after q v)) →
      Reaches (line_played stage quiet command after c)
  line_reaches quiet None after c n h f = f true c h
  line_reaches quiet (Some command) after c n h f =
      let part = commanded stage command c in
      then_reaches part.over (quieted quiet part) (after quiet) refl (command_reaches command c n h) (f quiet)

  -- the lines of a script that have names
  pub lines_reach : (lines : List ScriptLine) (quiet : Bool) (c : Course) → Each LineNamed lines →
      Reached c → Reaches (perform stage lines quiet c)
  lines_reach [] quiet c n h = λ on. h
  lines_reach (l ∷ more) quiet c n h =
      line_reaches quiet (command_of l) (perform stage more) c (line_named l n.0) h (λ q v k. lines_reach more q v n.1 k)
