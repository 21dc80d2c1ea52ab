-- An event is fired at a client's page.
use Rattle.std.proofs.Common.{◌≡◌, ℕ, Bool, true, false, [], ◌∷◌, refl, sym, ap, ◌∙◌}
use Rattle.std.specs.Prelude.{Result, Ok, Err, Option, Some, None, is_some, not, ◌||◌, if◌then◌else◌}
use Prim.{⊥}
use Rattle.std.specs.Global.{Vec}
use Rattle.std.proofs.Math.Path.{subst}
use Rattle.std.proofs.lemmas.Bool.{false≢true}
use Rattle.hmr_types.specs.declared.value.Value.{Value}
use Rattle.output_lines.specs.declared.out_line.OutLine.{OutLine}
use Rattle.core_model.specs.Names.{Name}
use Rattle.core_model.specs.Core.{client_at, with_client}
use Rattle.client_model.specs.Firing.{Fired, heard, busy, Firing, unheard, did_hear, hear_all, fire}
use Rattle.client_model.specs.Firing as firing
use Rattle.client_model.specs.Past.{Past, event, runtime_after}
use Rattle.client_model.specs.Runtime.{Runtime, Opening}
use Rattle.module_language.specs.ModuleLanguage.{module_language}
use Rattle.runtime_state.specs.Answers.{IsFired}
use Rattle.runtime_state.specs.Standing as runtimes
use Rattle.runtime_state.specs.declared.fault.RuntimeFault.{RuntimeFault}
use Rattle.runtime_state.specs.declared.fault.RuntimeFault.TheVariants.{Unexpected, InstancesFull, Stopped, NoMemory}
use Rattle.runtime_state.specs.declared.runtime.HotRuntime.{HotRuntime}
use Rattle.server_core.specs.Kept.{Kept}
use Rattle.world_model.specs.World.{Stepped, World, fires, stepped}
use Rattle.world_model.specs.Turning.{fire_of, heard_at, lines_heard, or_no_lines}
use Rattle.world_laws.specs.Runs.{Run, world_of}
use Rattle.hmr_world.specs.Clients.{IsRuntime, AreOpen}
use Rattle.world_parts.specs.Cores.{IsCore}
use Rattle.world_parts.specs.Shelves.{AreShelves}
use Rattle.hmr_world.specs.Standing.{Has, StandsFor}
use Rattle.run_promises.specs.RunSteps.{run_on, step_in}
use Rattle.world_parts.specs.Stops.{AreHeard}
use Rattle.hmr_world.specs.declared.world.World as code
use Rattle.hmr_world.proofs.Looking.{opened, tie}
use Rattle.hmr_world.proofs.Opened.{Opened, closed_at, with_open}

-- What the runtime answers, of the definitions' runtime.

-- it takes the event
abbrev TakesEvent : {F : Type 0} → Name → Value → HotRuntime F → HotRuntime F → Type 0
TakesEvent n value old new = (opening : Opening) (past : Past) → runtimes.StandsFor opening past old
    → runtimes.StandsFor opening (event n value ∷ past) new

-- it answers as the definitions do
abbrev AnswersEvent : {F : Type 0} → Name → Value → HotRuntime F → Result (Option (Vec OutLine)) RuntimeFault
    → Type 0
AnswersEvent n value old result = (opening : Opening) (past : Past) → runtimes.StandsFor opening past old
    → IsFired (fire module_language n value (runtime_after module_language opening past)).answer result

fired_after : {F : Type 0} (old new : HotRuntime F) (n : Name) (value : Value) → TakesEvent n value old new
    → (r : Runtime) → IsRuntime r old → IsRuntime (fire module_language n value r).after new
fired_after old new n value f r h = record {
  opening = h.opening;
  past = event n value ∷ h.past;
  stands = f h.opening h.past h.stands;
  is = ap (λ x. (fire module_language n value x).after) h.is;
}

fired_as : {F : Type 0} (old : HotRuntime F) (n : Name) (value : Value)
    (result : Result (Option (Vec OutLine)) RuntimeFault) → AnswersEvent n value old result
    → (r : Runtime) → IsRuntime r old → IsFired (fire module_language n value r).answer result
fired_as old n value result f r h =
    subst (λ x. IsFired (fire module_language n value x).answer result) h.is (f h.opening h.past h.stands)

heard_lines : (answer : Fired) (lines : Option (Vec OutLine)) → IsFired answer (Ok lines)
    → AreHeard (lines_heard answer) (Ok lines)
heard_lines answer None e = ap lines_heard e
heard_lines answer (Some shown) e = ap lines_heard e

-- A runtime that goes on doesn't answer that it is stopped, and no fault comes but that memory ran out.

says_stopped : Fired → Bool
says_stopped (heard lines) = false
says_stopped busy = false
says_stopped firing.is_stopped = true

-- what an event brings, where the runtime is stopped, can't hear it, or hears it
abbrev firing_of : Bool → Bool → Runtime → Firing → Firing
firing_of stopped unfit r did =
    if stopped then unheard firing.is_stopped r else (if unfit then unheard busy r else did)

goes_on : (stopped unfit : Bool) (r : Runtime) (did : Firing) → says_stopped did.answer ≡ false
    → stopped ≡ false → (firing_of stopped unfit r did).answer ≡ firing.is_stopped → ⊥
unfolding says_stopped
goes_on true unfit r did d e h = false≢true (sym e)
goes_on false true r did d e h = false≢true (ap says_stopped h)
goes_on false false r did d e h = false≢true (sym d ∙ ap says_stopped h)

abbrev pub lacks_memory : RuntimeFault → Bool
lacks_memory (Unexpected wanted got) = false
lacks_memory InstancesFull = false
lacks_memory Stopped = false
lacks_memory NoMemory = true

never : (n : Name) (value : Value) (r : Runtime) (fault : RuntimeFault) → r.stopped ≡ false
    → lacks_memory fault ≡ false → IsFired (fire module_language n value r).answer (Err fault) → ⊥
unfolding says_stopped
never n value r (Unexpected wanted got) e k h = h
never n value r InstancesFull e k h = h
never n value r Stopped e k h =
    let unfit = not r.page.loaded || is_some r.page.plan in
    goes_on r.stopped unfit r (did_hear (hear_all module_language n value r)) refl e h
never n value r NoMemory e k h = false≢true (sym k)

module _ {F : Type 0} (run : Run) (i : ℕ) (n : Name) (value : Value) (old : code.World F)
    (stands : StandsFor run old) where
  -- the world of the definitions
  abbrev w : World
  w = world_of run

  abbrev fired : Runtime → Firing
  fired r = fire module_language n value r

  closed : client_at old.clients.items i ≡ None → client_at w.clients i ≡ None
  closed none = closed_at w.clients old.clients.items i stands.has.clients none

  fired_stands : (after : code.World F) (st : Stepped) → step_in run (fires i n value) ≡ st
      → is_some st.lines ≡ true → Has run.roots run.shelves st.world after
      → StandsFor (run_on run (fires i n value)) after
  fired_stands after st e went has = record {
    went = (ap (λ (x : Stepped). is_some x.lines) e ∙ went, stands.went);
    has = subst (λ (x : Stepped). Has run.roots run.shelves x.world after) (sym e) has;
  }

  -- the client isn't open
  pub unknown_stands : client_at old.clients.items i ≡ None → StandsFor (run_on run (fires i n value)) old
  unknown_stands none =
      fired_stands old (stepped w []) (ap (fire_of module_language i n value w) (closed none)) refl stands.has

  pub unknown_heard : client_at old.clients.items i ≡ None
      → heard_at module_language n value (client_at (world_of run).clients i) ≡ None
  unknown_heard none = ap (heard_at module_language n value) (closed none)

  -- the client is open
  module _ (h : HotRuntime F) (there : client_at old.clients.items i ≡ Some h) where
    abbrev o : Opened w.clients i h
    o = opened run i old stands h there

    pub fire_stands : (h' : HotRuntime F) (new : code.World F)
        → new.clients.items ≡ with_client i h' old.clients.items → new.core ≡ old.core → new.jobs ≡ old.jobs
        → new.shelves.items ≡ old.shelves.items
        → ((opening : Opening) (past : Past) → runtimes.StandsFor opening past h
        → runtimes.StandsFor opening (event n value ∷ past) h')
        → StandsFor (run_on run (fires i n value)) new
    fire_stands h' new clients core jobs shelves f =
        let after = fired o.r in
        let made = record w { clients = with_client i after.after w.clients } in
        let heard = fired_after h h' n value f o.r o.is in
        fired_stands new (stepped made (or_no_lines (lines_heard after.answer)))
        (ap (fire_of module_language i n value w) o.there) refl
        (record {
          roots_are = ap (λ (k : Kept). k.roots) core ∙ stands.has.roots_are;
          core = subst (IsCore w.core) (sym core) stands.has.core;
          clients = subst (AreOpen made.clients) (sym clients)
              (with_open w.clients old.clients.items i after.after h' stands.has.clients heard);
          jobs = jobs ∙ stands.has.jobs;
          shelves_are = subst (AreShelves w.core.given run.shelves) (sym shelves) stands.has.shelves_are;
        })

    pub fire_heard : (lines : Option (Vec OutLine))
        → ((opening : Opening) (past : Past) → runtimes.StandsFor opening past h
        → IsFired (fire module_language n value (runtime_after module_language opening past)).answer (Ok lines))
        → AreHeard (heard_at module_language n value (client_at (world_of run).clients i)) (Ok lines)
    fire_heard lines f =
        let heard = heard_lines (fired o.r).answer lines (fired_as h n value (Ok lines) f o.r o.is) in
        subst (λ r. AreHeard (heard_at module_language n value r) (Ok lines)) (sym o.there) heard

    -- no other fault comes than that memory ran out
    pub fire_never : (fault : RuntimeFault) → lacks_memory fault ≡ false
        → ((opening : Opening) (past : Past) → runtimes.StandsFor opening past h
        → IsFired (fire module_language n value (runtime_after module_language opening past)).answer (Err fault))
        → ⊥
    fire_never fault k f =
        let t = tie run i old stands h there in
        never n value o.r fault t.tied.running k (fired_as h n value (Err fault) f o.r o.is)
