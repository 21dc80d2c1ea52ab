-- A world with events goes on.
use Rattle.std.proofs.Common.{◌≡◌, ℕ, Bool, true, false, List, [], ◌∷◌, map, refl, sym, ap, ◌∙◌}
use Rattle.std.specs.Prelude.{Option, Some, None, Result, Ok, Err, OnOk, is_some}
use Rattle.std.specs.Global.{Vec}
use Rattle.std.proofs.Math.Path.{subst}
use Rattle.std.proofs.lemmas.Bool.{false≢true}
use Rattle.hmr_types.specs.declared.value.Value.{Value}
use Rattle.output_lines.specs.declared.out_line.OutLine.{OutLine}
use Rattle.output_lines.specs.declared.out_line.OutLine.TheVariants as line
use Rattle.core_model.specs.Names.{Name}
use Rattle.core_model.specs.Core.{client_at}
use Rattle.client_model.specs.Runtime.{Runtime}
use Rattle.module_language.specs.ModuleLanguage.{module_language}
use Rattle.world_model.specs.Turning.{heard_at}
use Rattle.world_model.specs.World as model
use Rattle.world_laws.specs.Runs.{Run, world_of}
use Rattle.hmr_world.specs.Standing as worlds
use Rattle.run_promises.specs.RunSteps as run_steps
use Rattle.hmr_world.specs.Standing.{Has}
use Rattle.world_parts.specs.Steps.{step_of}
use Rattle.world_parts.specs.Stops.{AreHeard, AreLines}
use Rattle.world_parts.specs.declared.step.Step.{Step}
use Rattle.world_parts.specs.declared.stop.WorldStop.{WorldStop}
use Rattle.world_parts.specs.declared.stop.WorldStop.TheVariants.{InstancesFull, NoMemory}
use Rattle.hot_events.specs.Calls as lists
use Rattle.hot_events.specs.Calls.{Event, first, full}
use Rattle.event_runs.specs.Courses.{Course, EventStep, Moved, calls_of, emits, fired_at, hear_step, hears, only, or_none, passage_of, plain}
use Rattle.event_runs.specs.Runs.{EventRun, KeepsEvents, course_of, run_of, run_on, stage_of, step_in}
use Rattle.event_world.specs.Standing.{IsRunning, IsStepped, StandsFor}
use Rattle.event_runs.specs.declared.event_step.Passage.{Passage}
use Rattle.event_world.specs.declared.event_world.EventWorld.{EventWorld}
use Rattle.event_runs.proofs.Keeping.{emit_keeps, hear_keeps, plain_keeps}
use Rattle.event_runs.proofs.Unheard.{heard_none, heard_some, unheard_world}

pub on_ok : {X E P : Type 0} (result : Result X E) → P → OnOk result P
on_ok (Ok x) p = p
on_ok (Err e) p = tt

pub of_ok : {X E P Q : Type 0} (result : Result X E) → (P → Q) → OnOk result P → OnOk result Q
of_ok (Ok x) f p = f p
of_ok (Err e) f p = tt

pub runs_on : {F X E : Type 0} (run : EventRun) (s : EventStep) (after : EventWorld F) (result : Result X E) → OnOk result (StandsFor (run_on run s) after) → OnOk result (IsRunning after)
runs_on run s after result h = of_ok result (λ stands. record { run = run_on run s; stands = stands }) h

-- what a step makes of a world
module _ {F : Type 0} (run : EventRun) (s : EventStep) (after : EventWorld F) (lines : Vec OutLine) where
  -- the run of the world, with these steps
  abbrev with_steps : List model.Step → Run
  with_steps past = record { roots = run.roots; shelves = run.shelves; steps = past }

  pub stepped_by : (m : Moved) → step_in run s ≡ m → m.lines ≡ Some lines.items → worlds.StandsFor (with_steps m.course.steps) after.world → lists.StandsFor m.course.calls after.waiting → KeepsEvents (run_on run s)
      → IsStepped run s after (Ok lines)
  stepped_by m e l world waiting keeps = record {
    lines = ap (λ (x : Moved). x.lines) e ∙ l;
    stands = record {
      world_stands = subst (λ (x : Moved). worlds.StandsFor (with_steps x.course.steps) after.world) (sym e) world;
      lists_stand = subst (λ (x : Moved). lists.StandsFor x.course.calls after.waiting) (sym e) waiting;
      keeps = keeps;
    };
  }

-- a step of the world
pub plain_stepped : {F : Type 0} (run : EventRun) (s : Step) (old after : EventWorld F) (lines : Vec OutLine) (passage : Passage)
    → StandsFor run old → passage ≡ passage_of (step_of s) → (run_steps.step_in (run_of run) (step_of s)).lines ≡ Some lines.items
    → worlds.StandsFor (run_steps.run_on (run_of run) (step_of s)) after.world → lists.StandsFor (calls_of passage lines.items (course_of run).calls) after.waiting
    → IsStepped run (plain (step_of s)) after (Ok lines)
plain_stepped run s old after lines passage h p l world waiting = record {
  lines = l;
  stands = record {
    world_stands = world;
    lists_stand = subst (λ q. lists.StandsFor (calls_of q (or_none (run_steps.step_in (run_of run) (step_of s)).lines) (course_of run).calls) after.waiting) p
        (subst (λ ls. lists.StandsFor (calls_of passage ls (course_of run).calls) after.waiting) (sym (ap or_none l)) waiting);
    keeps = plain_keeps run s h.keeps;
  };
}

-- a step of the world that stops the run
pub plain_stops : {F : Type 0} (run : EventRun) (s : Step) (after : EventWorld F) (stop : WorldStop) → AreLines (run_steps.step_in (run_of run) (step_of s)).lines (Err stop) → IsStepped run (plain (step_of s)) after (Err stop)
plain_stops run s after stop l = record { lines = l; stands = tt }

-- an event whose firing stops the run
pub fire_stops : {F : Type 0} (run : EventRun) (s : EventStep) (after : EventWorld F) (heard : Option (List OutLine)) (stop : WorldStop) → AreHeard heard (Err stop) → IsStepped run s after (Err stop)
fire_stops run s after heard InstancesFull h = absurd h
fire_stops run s after heard NoMemory h = record { lines = tt; stands = tt }

-- an event is emitted
pub emit_stepped : {F : Type 0} (run : EventRun) (n : Name) (v : Value) (old after : EventWorld F) (lines : Vec OutLine) (clients : List ℕ)
    → StandsFor run old → after.world ≡ old.world → clients ≡ full (course_of run).calls → lines.items ≡ map (λ i. line.Full i n) clients
    → lists.StandsFor (lists.emits n v ∷ (course_of run).calls) after.waiting
    → IsStepped run (emits n v) after (Ok lines)
emit_stepped run n v old after lines clients h same answer l waiting = record {
  lines = ap Some (sym (l ∙ ap (map (λ i. line.Full i n)) answer));
  stands = record {
    world_stands = subst (worlds.StandsFor (run_of run)) (sym same) h.world_stands;
    lists_stand = waiting;
    keeps = emit_keeps run n v h.keeps;
  };
}

-- a client is to hear its first event
module _ {F : Type 0} (run : EventRun) (i : ℕ) (old : EventWorld F) (h : StandsFor run old) where
  abbrev c : Course
  c = course_of run

  abbrev w : model.World
  w = world_of (run_of run)

  keeps : KeepsEvents (run_on run (hears i))
  keeps = hear_keeps run i h.world_stands.went h.keeps

  hear_is : (o : Option Runtime) (e : Option Event) → client_at w.clients i ≡ o → first c.calls i ≡ e → step_in run (hears i) ≡ hear_step (stage_of run) c i o e
  hear_is o e p q = ap (λ x. hear_step (stage_of run) c i x (first c.calls i)) p ∙ ap (hear_step (stage_of run) c i o) q

  -- nothing changes
  stays_by : (lines : Vec OutLine) (l : OutLine) → lines.items ≡ l ∷ [] → step_in run (hears i) ≡ only c (l ∷ []) → IsStepped run (hears i) old (Ok lines)
  stays_by lines l is e = stepped_by run (hears i) old lines (only c (l ∷ [])) e (ap Some (sym is)) h.world_stands h.lists_stand keeps

  unknown_by : (o : Option Runtime) → client_at w.clients i ≡ o → is_some o ≡ false → step_in run (hears i) ≡ only c (line.Unknown i ∷ [])
  unknown_by None p none = hear_is None (first c.calls i) p refl
  unknown_by (Some r) p none = absurd (false≢true (sym none))

  -- it isn't open
  pub hear_unknown : (lines : Vec OutLine) (told : Bool) → told ≡ is_some (client_at w.clients i) → told ≡ false → lines.items ≡ line.Unknown i ∷ [] → IsStepped run (hears i) old (Ok lines)
  hear_unknown lines told e shut is = stays_by lines (line.Unknown i) is (unknown_by (client_at w.clients i) refl (sym e ∙ shut))

  quiet_by : (o : Option Runtime) → client_at w.clients i ≡ o → is_some o ≡ true → first c.calls i ≡ None → step_in run (hears i) ≡ only c (line.Quiet i ∷ [])
  quiet_by None p there none = absurd (false≢true there)
  quiet_by (Some r) p there none = hear_is (Some r) None p none

  -- nothing waits for it
  pub hear_quiet : (lines : Vec OutLine) (told : Bool) → told ≡ is_some (client_at w.clients i) → told ≡ true → first c.calls i ≡ None → lines.items ≡ line.Quiet i ∷ [] → IsStepped run (hears i) old (Ok lines)
  hear_quiet lines told e there none is = stays_by lines (line.Quiet i) is (quiet_by (client_at w.clients i) refl (sym e ∙ there) none)

  -- An event waits for it.

  module _ (told : Bool) (told_is : told ≡ is_some (client_at w.clients i)) (there : told ≡ true) (n : Name) (v : Value) (waits : first c.calls i ≡ Some (n, v)) where
    busy_by : (o : Option Runtime) (after : EventWorld F) (lines : Vec OutLine) → client_at w.clients i ≡ o → is_some o ≡ true → after.waiting ≡ old.waiting
        → worlds.StandsFor (run_steps.run_on (run_of run) (model.fires i n v)) after.world → heard_at module_language n v o ≡ None → lines.items ≡ line.Busy i ∷ []
        → IsStepped run (hears i) after (Ok lines)
    busy_by None after lines p there same world none is = absurd (false≢true there)
    busy_by (Some r) after lines p there same world none is =
        stepped_by run (hears i) after lines (only c (line.Busy i ∷ []))
        (hear_is (Some r) (Some (n, v)) p waits ∙ ap (fired_at c i (n, v)) none) (ap Some (sym is))
        (record {
          went = h.world_stands.went;
          has = subst (λ (x : model.World). Has run.roots run.shelves x after.world) (unheard_world w i n v r p none) world.has;
        })
        (subst (lists.StandsFor c.calls) (sym same) h.lists_stand) keeps

    -- its page isn't loaded, or a plan is under way
    pub hear_busy : (after : EventWorld F) (lines : Vec OutLine) (shown : Option (Vec OutLine)) → after.waiting ≡ old.waiting → worlds.StandsFor (run_steps.run_on (run_of run) (model.fires i n v)) after.world
        → AreHeard (heard_at module_language n v (client_at w.clients i)) (Ok shown) → shown ≡ None → lines.items ≡ line.Busy i ∷ []
        → IsStepped run (hears i) after (Ok lines)
    hear_busy after lines shown = λ same world answer none is.
        busy_by (client_at w.clients i) after lines refl (sym told_is ∙ there) same world (heard_none (heard_at module_language n v (client_at w.clients i)) shown answer none) is

    heard_by : (o : Option Runtime) (after : EventWorld F) (all lines : Vec OutLine) → client_at w.clients i ≡ o → is_some o ≡ true → lists.StandsFor (lists.takes i ∷ c.calls) after.waiting
        → worlds.StandsFor (run_steps.run_on (run_of run) (model.fires i n v)) after.world → heard_at module_language n v o ≡ Some lines.items → all.items ≡ line.Event i n ∷ lines.items
        → IsStepped run (hears i) after (Ok all)
    heard_by None after all lines p there waiting world heard is = absurd (false≢true there)
    heard_by (Some r) after all lines p there waiting world heard is =
        stepped_by run (hears i) after all (fired_at c i (n, v) (Some lines.items))
        (hear_is (Some r) (Some (n, v)) p waits ∙ ap (fired_at c i (n, v)) heard) (ap Some (sym is))
        world waiting keeps

    -- it hears the event
    pub hear_heard : (after : EventWorld F) (all lines : Vec OutLine) (shown : Option (Vec OutLine)) → lists.StandsFor (lists.takes i ∷ c.calls) after.waiting → worlds.StandsFor (run_steps.run_on (run_of run) (model.fires i n v)) after.world
        → AreHeard (heard_at module_language n v (client_at w.clients i)) (Ok shown) → shown ≡ Some lines → all.items ≡ line.Event i n ∷ lines.items
        → IsStepped run (hears i) after (Ok all)
    hear_heard after all lines shown = λ waiting world answer some is.
        heard_by (client_at w.clients i) after all lines refl (sym told_is ∙ there) waiting world (heard_some (heard_at module_language n v (client_at w.clients i)) shown lines answer some) is
