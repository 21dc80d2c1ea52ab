-- What taking a message gives.
use Rattle.std.proofs.Common.{◌≡◌, ℕ, Bool, true, false, ◌∷◌, refl, ap, sym, ◌∙◌}
use Rattle.std.specs.Prelude.{not, if◌then◌else◌, Result, Ok, Err}
use Rattle.std.specs.Global.{Vec}
use Rattle.std.proofs.Math.Path.{subst}
use Rattle.std.proofs.lemmas.Bool.{false≢true}
use Rattle.output_lines.specs.declared.out_line.OutLine.{OutLine}
use Rattle.update_msgs.specs.declared.message.ClientMsg.{ClientMsg}
use Rattle.update_msgs.specs.declared.message.ServerMsg.{ServerMsg}
use Rattle.client_model.specs.Answering.{answered}
use Rattle.client_model.specs.Expecting.{answer_place, is_answer, request_place}
use Rattle.client_model.specs.Past.{Past, message, runtime_after}
use Rattle.client_model.specs.Requesting.{request}
use Rattle.client_model.specs.Runtime.{Opening, Runtime}
use Rattle.client_model.specs.Taking.{Taking, did_take, is_stopped, is_too_many, stop, take, took, unchanged_by, unexpected}
use Rattle.module_language.specs.ModuleLanguage.{module_language}
use Rattle.runtime_state.specs.Answers.{UnlessNoMemory}
use Rattle.runtime_state.specs.Becoming.{Becomes, IsTaking}
use Rattle.runtime_state.specs.Standing.{IsSound, Keeps, StandsFor}
use Rattle.client_plan.specs.UnderWay.{untold}
use Rattle.runtime_state.proofs.Moving.{plan_moved}
use Rattle.runtime_state.proofs.Refusals.{unless_map}
use Rattle.runtime_answers.proofs.Untold.{untold_answer, untold_answered, untold_many, untold_place}
use Rattle.runtime_state.specs.declared.fault.RuntimeFault.{RuntimeFault}
use Rattle.runtime_state.specs.declared.fault.RuntimeFault.TheVariants.{Unexpected, InstancesFull, Stopped, NoMemory}
use Rattle.runtime_state.specs.declared.runtime.HotRuntime.{HotRuntime}

-- the runtime stands for the messages so far with this one
pub taken_stands : {F : Type 0} (opening : Opening) (past : Past) (msg : ServerMsg) (after : HotRuntime F) (answer : Result (Vec OutLine) RuntimeFault)
    → IsTaking (take module_language (runtime_after module_language opening past) msg) after answer → UnlessNoMemory (StandsFor opening (message msg ∷ past) after) answer
taken_stands opening past msg after answer t = unless_map (λ s. record { sound = s.sound; keeps = s.keeps }) answer t.stands

pick_stopped : (s b f : Bool) (w x y z : Taking) → s ≡ true → (if s then w else (if not b then x else (if f then y else z))) ≡ w
pick_stopped true b f w x y z e = refl
pick_stopped false b f w x y z e = absurd (false≢true e)

pick : (s b f : Bool) (w x y z : Taking) → s ≡ false → b ≡ false → (if s then w else (if not b then x else (if f then y else z))) ≡ x
pick true b f w x y z e g = absurd (false≢true (sym e))
pick false true f w x y z e g = absurd (false≢true (sym g))
pick false false f w x y z e g = refl

pick_full : (s b f : Bool) (w x y z : Taking) → s ≡ false → b ≡ true → f ≡ true → (if s then w else (if not b then x else (if f then y else z))) ≡ y
pick_full true b f w x y z e g h = absurd (false≢true (sym e))
pick_full false false f w x y z e g h = absurd (false≢true g)
pick_full false true false w x y z e g h = absurd (false≢true h)
pick_full false true true w x y z e g h = refl

pick_did : (s b f : Bool) (w x y z : Taking) → s ≡ false → b ≡ true → f ≡ false → (if s then w else (if not b then x else (if f then y else z))) ≡ z
pick_did true b f w x y z e g h = absurd (false≢true (sym e))
pick_did false false f w x y z e g h = absurd (false≢true g)
pick_did false true true w x y z e g h = absurd (false≢true (sym h))
pick_did false true false w x y z e g h = refl

-- a client that stopped takes none
pub stopped_taken : {F : Type 0} (r : Runtime) (msg : ServerMsg) (h : HotRuntime F) → Keeps r h → IsSound h → h.stopped ≡ true → IsTaking (take module_language r msg) h (Err Stopped)
stopped_taken r msg h k s e =
    subst (λ t. IsTaking t h (Err Stopped))
    (sym (pick_stopped r.stopped (is_answer r.page.loaded (request module_language r) msg) (is_too_many (request module_language r) msg r) (unchanged_by is_stopped r) (unchanged_by (unexpected (request_place (request module_language r)) (answer_place msg)) r) (stop r) (did_take (answered module_language (request module_language r) msg r)) (k.stopped ∙ e)))
    (record { stands = record { sound = s; keeps = k }; answer = refl })

module _ {F : Type 0} (r : Runtime) (msg : ServerMsg) (h : HotRuntime F) (k : Keeps r h) (s : IsSound h) (running : h.stopped ≡ false) where
  going : r.stopped ≡ false
  going = k.stopped ∙ running

  -- it is no answer
  pub unexpected_taken : (asked : ClientMsg) (wanted got : ℕ) → untold (request module_language r) ≡ asked → is_answer h.loaded asked msg ≡ false → wanted ≡ request_place asked → got ≡ answer_place msg
      → IsTaking (take module_language r msg) h (Err (Unexpected wanted got))
  unexpected_taken asked wanted got e unfit w g =
      subst (λ t. IsTaking t h (Err (Unexpected wanted got)))
      (sym (pick r.stopped (is_answer r.page.loaded (request module_language r) msg) (is_too_many (request module_language r) msg r) (unchanged_by is_stopped r) (unchanged_by (unexpected (request_place (request module_language r)) (answer_place msg)) r) (stop r) (did_take (answered module_language (request module_language r) msg r)) going (ap (λ l. is_answer l (request module_language r) msg) k.loaded ∙ untold_answer (request module_language r) h.loaded msg ∙ ap (λ a. is_answer h.loaded a msg) e ∙ unfit)))
      (record { stands = record { sound = s; keeps = k }; answer = ap (λ n. unexpected n (answer_place msg)) (untold_place (request module_language r)) ∙ ap (λ a. unexpected (request_place a) (answer_place msg)) e ∙ ap (λ n. unexpected n (answer_place msg)) (sym w) ∙ ap (λ n. unexpected wanted n) (sym g) })

  -- it would make too many instances
  pub full_taken : (asked : ClientMsg) → untold (request module_language r) ≡ asked → is_answer h.loaded asked msg ≡ true → is_too_many asked msg r ≡ true
      → IsTaking (take module_language r msg) (record h { stopped = true }) (Err InstancesFull)
  full_taken asked e fits full =
      subst (λ t. IsTaking t (record h { stopped = true }) (Err InstancesFull))
      (sym (pick_full r.stopped (is_answer r.page.loaded (request module_language r) msg) (is_too_many (request module_language r) msg r) (unchanged_by is_stopped r) (unchanged_by (unexpected (request_place (request module_language r)) (answer_place msg)) r) (stop r) (did_take (answered module_language (request module_language r) msg r)) going (ap (λ l. is_answer l (request module_language r) msg) k.loaded ∙ untold_answer (request module_language r) h.loaded msg ∙ ap (λ a. is_answer h.loaded a msg) e ∙ fits) (untold_many (request module_language r) msg r ∙ ap (λ a. is_too_many a msg r) e ∙ full)))
      (record {
        stands = record {
          sound = record { format = s.format; versions = s.versions; unsent = s.unsent; view = s.view; plan = s.plan; on_page = s.on_page; unloaded = s.unloaded; unnumbered = s.unnumbered; rises = s.rises; whole = s.whole };
          keeps = record { format = k.format; named = k.named; roots = k.roots; loaded = k.loaded; view = k.view; forced = k.forced; plan = plan_moved r r.page.loaded r.page.forced r.page.plan r.instances r.bags r.unsent r.shelf true r.page.plan h.plan k.plan; page = record { client = k.page.client; instances = k.page.instances; bags = k.page.bags; unsent = k.page.unsent; shelf = k.page.shelf }; stopped = refl };
        };
        answer = refl;
      })

  -- it does what the answer does
  pub did_taken : (asked : ClientMsg) (after : HotRuntime F) (lines : Vec OutLine) → untold (request module_language r) ≡ asked → is_answer h.loaded asked msg ≡ true → is_too_many asked msg r ≡ false
      → Becomes (answered module_language asked msg r) after lines.items → IsTaking (take module_language r msg) after (Ok lines)
  did_taken asked after lines e fits few b =
      let c : Becomes (answered module_language (request module_language r) msg r) after lines.items = subst (λ did. Becomes did after lines.items) (sym (untold_answered (request module_language r) msg r ∙ ap (λ a. answered module_language a msg r) e)) b in
      subst (λ t. IsTaking t after (Ok lines))
      (sym (pick_did r.stopped (is_answer r.page.loaded (request module_language r) msg) (is_too_many (request module_language r) msg r) (unchanged_by is_stopped r) (unchanged_by (unexpected (request_place (request module_language r)) (answer_place msg)) r) (stop r) (did_take (answered module_language (request module_language r) msg r)) going (ap (λ l. is_answer l (request module_language r) msg) k.loaded ∙ untold_answer (request module_language r) h.loaded msg ∙ ap (λ a. is_answer h.loaded a msg) e ∙ fits) (untold_many (request module_language r) msg r ∙ ap (λ a. is_too_many a msg r) e ∙ few)))
      (record { stands = record { sound = c.sound; keeps = c.keeps }; answer = ap took (sym c.lines) })
