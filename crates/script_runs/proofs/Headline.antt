-- At each place of a script the world is one that some list of steps makes, so the laws of such worlds hold
-- of it.
use Rattle.std.proofs.Common.{◌≡◌, ℕ, zero, suc, Bool, true, false, List, [], ◌∷◌, map, fold, reverse, refl, ap, sym, ◌∙◌}
use Rattle.std.specs.Prelude.{Option, Some, None, IfSome, Result, Ok, Err, is_some, if◌then◌else◌}
use Rattle.std.proofs.lemmas.Bool.{false≢true}
use Rattle.output_lines.specs.declared.out_line.OutLine.{OutLine}
use Rattle.output_lines.specs.declared.out_line.OutLine.TheVariants as line
use Rattle.output_lines.specs.declared.words.ClientState.TheVariants.{Up}
use Rattle.core_model.specs.Sources.{Text}
use Rattle.core_model.specs.FreshLoad.{FreshLoad}
use Rattle.core_model.specs.Core.{client_at}
use Rattle.client_model.specs.Runtime.{Runtime}
use Rattle.client_model.specs.Firing.{Firing}
use Rattle.world_model.specs.World.{World, turn, show, fresh_of}
use Rattle.world_model.specs.Turning as turning
use Rattle.world_model.specs.Turning.{fired_by, heard_at, shown}
use Rattle.world_model.specs.Steps.{fresh_of_lines, loaded_anew}
use Rattle.world_model.specs.Ties.{WentOn}
use Rattle.world_model.specs.Playing.{Stage, settle_of}
use Rattle.hot_events.specs.Calls.{Event, first}
use Rattle.event_runs.specs.Courses.{Course, EventStep, emits, event_step, fired_at, hear_step, hears, new_course, plain, world_in}
use Rattle.event_runs.specs.Playing.{Command, step, settle_all, turns, Played, client_in, is_up_at, play_step, play_turns, play_turns_of, stepped_on}
use Rattle.world_laws.specs.Fresh as laws
use Rattle.world_laws.proofs.Freshness.{up_shows}
use Rattle.play_script.specs.declared.fault.ScriptFault.{ScriptFault}
use Rattle.play_script.specs.declared.script_line.ScriptLine.{ScriptLine}
use Rattle.play_script.specs.Script.{Contents, script_of}
use Rattle.script_runs.specs.Headline.{IsFreshWhereUp, ShowsAreFresh, ShowsFresh, lines_at}
use Rattle.script_runs.specs.Playing.{command_of, commanded, line_played, nothing, perform, quieted, stage_on, unless}

module _ (stage : Stage) where
  -- the steps of the world in the course went on
  abbrev pub Reached : Course → Type 0
  Reached c = WentOn stage.language stage.roots stage.shelves c.steps

  -- unless the run is over
  abbrev Reaches : Played → Type 0
  Reaches p = p.over ≡ false → Reached p.course

  -- an event that is fired makes no instance
  fire_goes_on : (i : ℕ) (w : World) (lines : Option (List OutLine)) (f : Option Firing) → is_some (fired_by i w lines f).lines ≡ true
  fire_goes_on i w lines None = refl
  fire_goes_on i w lines (Some f) = refl

  fired_reaches : (c : Course) (i : ℕ) (e : Event) (lines : Option (List OutLine)) → Reached c → Reached (fired_at c i e lines).course
  fired_reaches c i e None h = h
  fired_reaches c i e (Some lines) h =
      let w = world_in stage c in
      let r = client_at w.clients i in
      (fire_goes_on i w (heard_at stage.language e.0 e.1 r) (turning.fired_at stage.language e.0 e.1 r), h)

  hear_reaches : (c : Course) (i : ℕ) (r : Option Runtime) (e : Option Event) → Reached c → Reached (hear_step stage c i r e).course
  hear_reaches c i None e h = h
  hear_reaches c i (Some r) None h = h
  hear_reaches c i (Some r) (Some e) h = fired_reaches c i e (heard_at stage.language e.0 e.1 (Some r)) h

  moved_reaches : (c : Course) (s : EventStep) (lines : List OutLine) → (event_step stage c s).lines ≡ Some lines → Reached c → Reached (event_step stage c s).course
  moved_reaches c (plain s) lines e h = (ap is_some e, h)
  moved_reaches c (emits n v) lines e h = h
  moved_reaches c (hears i) lines e h = hear_reaches c i (client_at (world_in stage c).clients i) (first c.calls i) h

  made_reaches : (c : Course) (s : EventStep) (before : List OutLine) (made : Option (List OutLine)) →
      (event_step stage c s).lines ≡ made → Reached c →
      Reaches (stepped_on before (event_step stage c s).course made)
  made_reaches c s before None e h = λ on. absurd (false≢true (sym on))
  made_reaches c s before (Some lines) e h = λ on. moved_reaches c s lines e h

  step_reaches : (c : Course) (lines : List OutLine) (over : Bool) (s : EventStep) →
      let p : Played = record { course = c; lines = lines; over = over } in
      Reaches p → Reaches (play_step stage p s)
  step_reaches c lines true s h = h
  step_reaches c lines false s h = made_reaches c s lines (event_step stage c s).lines refl (h refl)

  steps_reach : (ss : List EventStep) (p : Played) → Reaches p → Reaches (fold (play_step stage) p ss)
  steps_reach [] p h = h
  steps_reach (s ∷ ss) p h = steps_reach ss (play_step stage p s) (step_reaches p.course p.lines p.over s h)

  either_reaches : (up : Bool) (p next : Played) → Reaches p → Reaches next → Reaches (if up then p else next)
  either_reaches true p next h k = h
  either_reaches false p next h k = k

  turns_reach : (i k : ℕ) (p : Played) → Reaches p → Reaches (play_turns stage i k p)
  turns_reach i zero p h = h
  turns_reach i (suc k) p h =
      let next = play_step stage p (plain (turn i)) in
      either_reaches (is_up_at stage p.course i) p (play_turns stage i k next) h
      (turns_reach i k next (step_reaches p.course p.lines p.over (plain (turn i)) h))

  turns_of_reach : (i k : ℕ) (r : Option Runtime) (p : Played) →
      Reaches p → Reaches (play_turns_of stage i k r p)
  turns_of_reach i k None p h = step_reaches p.course p.lines p.over (plain (turn i)) h
  turns_of_reach i k (Some r) p h = turns_reach i k p h

  command_reaches : (command : Command) (c : Course) → Reached c → Reaches (commanded stage command c)
  command_reaches (step s) c h = step_reaches c [] false s (λ on. h)
  command_reaches settle_all c h = steps_reach (map (λ j. plain (settle_of j)) (reverse (world_in stage c).issued)) (nothing c) (λ on. h)
  command_reaches (turns i k) c h = turns_of_reach i k (client_in stage c i) (nothing c) (λ on. h)

  then_reaches : (over : Bool) (part : Played) (after : Course → Played) → part.over ≡ over → Reaches part →
      ((c : Course) → Reached c → Reaches (after c)) → Reaches (unless over part after)
  then_reaches true part after e h f = λ on. absurd (false≢true (sym on ∙ e))
  then_reaches false part after e h f = λ on. f part.course (h e) on

  line_reaches : (quiet : Bool) (command : Option Command) (after : Bool → Course → Played) (c : Course) →
      Reached c → ((q : Bool) (v : Course) → Reached v → Reaches (after q v)) →
      Reaches (line_played stage quiet command after c)
  line_reaches quiet None after c h f = f true c h
  line_reaches quiet (Some command) after c h f =
      let part = commanded stage command c in
      then_reaches part.over (quieted quiet part) (after quiet) refl (command_reaches command c h) (f quiet)

  lines_reach : (lines : List ScriptLine) (quiet : Bool) (c : Course) →
      Reached c → Reaches (perform stage lines quiet c)
  lines_reach [] quiet c h = λ on. h
  lines_reach (l ∷ more) quiet c h =
      line_reaches quiet (command_of l) (perform stage more) c h (λ q v k. lines_reach more q v k)

  -- what a client shows and what a fresh load of its roots writes
  fresh_by : (w : World) (i : ℕ) (lines : List OutLine) (r : Option Runtime) → client_at w.clients i ≡ r →
      lines_at stage w (show i) ≡ Some (line.Client i Up ∷ lines) →
      laws.ShowsFresh w.core.sources.served lines r →
      ShowsFresh i (lines_at stage w (show i)) (lines_at stage w (fresh_of i))
  fresh_by w i lines None e shows h = absurd h
  fresh_by w i lines (Some r) e shows h =
      let load = loaded_anew stage.language w r.roots in
      let written : FreshLoad → List OutLine = fresh_of_lines i in
      record {
        modules = load.table;
        stale = h.stale;
        unlinked = load.unlinked;
        shows_are = shows ∙ ap (λ l. Some (line.Client i Up ∷ l)) h.lines_are;
        loads_are = ap (λ o. (shown i w (λ x. written (loaded_anew stage.language w x.roots)) o).lines) e
            ∙ ap (λ names. Some (written (record load { missing = names }))) h.nothing_missing;
      }

  fresh_where_up : (c : Course) (i : ℕ) → Reached c → IsFreshWhereUp stage (world_in stage c) i
  fresh_where_up c i h = λ lines shows.
      let w = world_in stage c in
      fresh_by w i lines (client_at w.clients i) refl shows
      (up_shows stage.language stage.roots stage.shelves c.steps i i lines h shows)

  pub fresh_at : (before : List ScriptLine) (i : ℕ) → (perform stage before false new_course).over ≡ false →
      IsFreshWhereUp stage (world_in stage (perform stage before false new_course).course) i
  fresh_at before i on =
      fresh_where_up (perform stage before false new_course).course i
      (lines_reach before false new_course tt on)

pub shows_are_fresh : (shelves : List (List (Text × ℕ))) (script : Result Contents ScriptFault) →
    ShowsAreFresh shelves script
shows_are_fresh shelves (Err fault) = tt
shows_are_fresh shelves (Ok script) = λ before after i is on.
    fresh_at (stage_on shelves script.roots) before i on

-- the same, where the bytes are told
pub shows_at : (shelves : List (List (Text × ℕ))) (told : Option (List ℕ)) →
    IfSome told (λ bytes. ShowsAreFresh shelves (script_of bytes))
shows_at shelves None = tt
shows_at shelves (Some bytes) = shows_are_fresh shelves (script_of bytes)
