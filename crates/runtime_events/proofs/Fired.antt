-- What firing an event gives.
use Rattle.std.proofs.Common.{◌≡◌, Bool, true, false, ◌∷◌, refl, ap, sym, ◌∙◌}
use Rattle.std.specs.Prelude.{not, ◌||◌, is_some, if◌then◌else◌, Option, Some, None, Result, Ok, Err}
use Rattle.std.specs.Global.{Vec}
use Rattle.std.proofs.Math.Path.{subst}
use Rattle.std.proofs.lemmas.Bool.{false≢true}
use Rattle.hmr_types.specs.declared.value.Value.{Value}
use Rattle.output_lines.specs.declared.out_line.OutLine.{OutLine}
use Rattle.core_model.specs.Names.{Name}
use Rattle.core_model.specs.Page.{Plan}
use Rattle.core_model.proofs.Naming.{or_right}
use Rattle.client_model.specs.Firing.{Firing, fire, heard, hear_all}
use Rattle.client_model.specs.Past.{Past, event, runtime_after}
use Rattle.client_model.specs.Runtime.{Runtime, Opening}
use Rattle.module_language.specs.ModuleLanguage.{module_language}
use Rattle.client_plan.specs.declared.under_way.UnderWay.{UnderWay}
use Rattle.runtime_state.specs.Answers.{IsFired, UnlessNoMemory}
use Rattle.runtime_state.specs.Becoming.{Becomes, Stands}
use Rattle.runtime_state.specs.Standing.{IsPlan, IsSound, Keeps, StandsFor}
use Rattle.runtime_state.specs.declared.fault.RuntimeFault.{RuntimeFault}
use Rattle.runtime_state.specs.declared.fault.RuntimeFault.TheVariants.{Stopped}
use Rattle.runtime_state.specs.declared.runtime.HotRuntime.{HotRuntime}
use Rattle.runtime_state.proofs.Refusals.{unless_map}

-- with a plan under way a page is busy
pub busy_some : {F : Type 0} (r : Runtime) (h : HotRuntime F) (u : UnderWay) → Keeps r h → h.plan ≡ Some u → true ≡ (not r.page.loaded || is_some r.page.plan)
busy_some r h u k is = sym (or_right (not r.page.loaded) (is_some r.page.plan) (by r.page.plan (subst (IsPlan r r.page.plan) is k.plan)))
  where
    by : (o : Option Plan) → IsPlan r o (Some u) → is_some o ≡ true
    by None i = absurd i
    by (Some p) i = refl

-- with none it is where it isn't loaded
pub busy_none : {F : Type 0} (r : Runtime) (h : HotRuntime F) → Keeps r h → h.plan ≡ None → not h.loaded ≡ (not r.page.loaded || is_some r.page.plan)
busy_none r h k is = ap not (sym k.loaded) ∙ by r.page.loaded r.page.plan (subst (IsPlan r r.page.plan) is k.plan)
  where
    by : (b : Bool) (o : Option Plan) → IsPlan r o None → not b ≡ (not b || is_some o)
    by true None i = refl
    by false None i = refl
    by b (Some p) i = absurd i

pick_stopped : (s b : Bool) (x y z : Firing) → s ≡ true → (if s then x else (if b then y else z)) ≡ x
pick_stopped true b x y z e = refl
pick_stopped false b x y z e = absurd (false≢true e)

pick_busy : (s b : Bool) (x y z : Firing) → s ≡ false → b ≡ true → (if s then x else (if b then y else z)) ≡ y
pick_busy true b x y z e g = absurd (false≢true (sym e))
pick_busy false false x y z e g = absurd (false≢true g)
pick_busy false true x y z e g = refl

pick_heard : (s b : Bool) (x y z : Firing) → s ≡ false → b ≡ false → (if s then x else (if b then y else z)) ≡ z
pick_heard true b x y z e g = absurd (false≢true (sym e))
pick_heard false false x y z e g = refl
pick_heard false true x y z e g = absurd (false≢true (sym g))

-- unless memory ran out, the code is what the definitions' client is after the event, and answers as that does
pub record IsFiring {F : Type 0} (did : Firing) (after : HotRuntime F) (result : Result (Option (Vec OutLine)) RuntimeFault) : Type 0 where
  pub stands : UnlessNoMemory (Stands did.after after) result
  pub answer : IsFired did.answer result

-- the runtime stands for the events so far with this one
pub fired_stands : {F : Type 0} (opening : Opening) (past : Past) (name : Name) (value : Value) (after : HotRuntime F) (result : Result (Option (Vec OutLine)) RuntimeFault)
    → IsFiring (fire module_language name value (runtime_after module_language opening past)) after result → UnlessNoMemory (StandsFor opening (event name value ∷ past) after) result
fired_stands opening past name value after result f = unless_map (λ s. record { sound = s.sound; keeps = s.keeps }) result f.stands

module _ {F : Type 0} (name : Name) (value : Value) (r : Runtime) (h : HotRuntime F) (k : Keeps r h) (s : IsSound h) where
  pub stopped_fired : h.stopped ≡ true → IsFiring (fire module_language name value r) h (Err Stopped)
  stopped_fired e = subst (λ f. IsFiring f h (Err Stopped)) (sym (pick_stopped r.stopped (not r.page.loaded || is_some r.page.plan) _ _ _ (k.stopped ∙ e)))
      (record { stands = record { sound = s; keeps = k }; answer = refl })

  pub busy_fired : h.stopped ≡ false → (not r.page.loaded || is_some r.page.plan) ≡ true → IsFiring (fire module_language name value r) h (Ok None)
  busy_fired e b = subst (λ f. IsFiring f h (Ok None)) (sym (pick_busy r.stopped (not r.page.loaded || is_some r.page.plan) _ _ _ (k.stopped ∙ e) b))
      (record { stands = record { sound = s; keeps = k }; answer = refl })

  pub heard_fired : (after : HotRuntime F) (lines : Vec OutLine) → h.stopped ≡ false → (not r.page.loaded || is_some r.page.plan) ≡ false → Becomes (hear_all module_language name value r) after lines.items → IsFiring (fire module_language name value r) after (Ok (Some lines))
  heard_fired after lines e b becomes = subst (λ f. IsFiring f after (Ok (Some lines))) (sym (pick_heard r.stopped (not r.page.loaded || is_some r.page.plan) _ _ _ (k.stopped ∙ e) b))
      (record { stands = record { sound = becomes.sound; keeps = becomes.keeps }; answer = ap heard (sym becomes.lines) })
