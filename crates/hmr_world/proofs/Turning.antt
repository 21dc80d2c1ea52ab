-- A client's request, the core's reply, and what the client makes of it.
use Rattle.std.proofs.Common.{◌≡◌, ℕ, [], ◌∷◌, refl, sym, ap, ◌∙◌}
use Rattle.std.specs.Prelude.{Result, Err, OnOk, Option, Some, None, option_map}
use Prim.{⊥}
use Rattle.std.specs.Global.{Vec}
use Rattle.std.proofs.Math.Path.{subst}
use Rattle.output_lines.specs.declared.out_line.OutLine.{OutLine}
use Rattle.update_msgs.specs.declared.message.ClientMsg.{ClientMsg}
use Rattle.update_msgs.specs.declared.message.ServerMsg.{ServerMsg}
use Rattle.update_msgs.specs.Writable.{IsFormat, IsWritable}
use Rattle.core_model.specs.Core as model
use Rattle.core_model.specs.Core.{step}
use Rattle.core_model.specs.Exchange.{event_of, read_in, message_for}
use Rattle.client_model.specs.Past.{Past, message, runtime_after}
use Rattle.client_model.specs.Requesting.{request}
use Rattle.client_model.specs.Runtime.{Runtime, Opening}
use Rattle.client_model.specs.Taking.{take}
use Rattle.module_language.specs.ModuleLanguage.{module_language}
use Rattle.runtime_state.specs.Answers.{IsTaken}
use Rattle.runtime_state.specs.Standing.{StandsFor}
use Rattle.runtime_state.specs.declared.fault.RuntimeFault.{RuntimeFault}
use Rattle.runtime_state.specs.declared.fault.RuntimeFault.TheVariants.{Unexpected, Stopped}
use Rattle.runtime_state.specs.declared.runtime.HotRuntime.{HotRuntime}
use Rattle.events_and_replies.specs.declared.event.Reply.{Reply}
use Rattle.server_core.specs.Kept.{Kept}
use Rattle.events_and_replies.specs.Said.{said, IsWritten}
use Rattle.client_exchange.specs.Replies.{message_in}
use Rattle.world_model.specs.Ties.{IsUnderstood}
use Rattle.world_model.specs.Turning.{lines_taken, take_some}
use Rattle.hmr_world.specs.Clients.{IsRuntime}
use Rattle.world_parts.specs.Cores.{IsCore}
use Rattle.world_parts.specs.Stops.{AreLines}
use Rattle.hmr_world.specs.Turns.{CanTake, CanTurn, answer_to, taking_of}
use Rattle.world_parts.specs.declared.stop.WorldStop.{WorldStop}
use Rattle.world_parts.proofs.Replying.{can_be_taken, message_is, read_back_writable}

-- What the runtime asks and answers, of the definitions' runtime.

-- it answers the message so
abbrev AnswersMessage : {F : Type 0} → HotRuntime F → ServerMsg → Result (Vec OutLine) RuntimeFault → Type 0
AnswersMessage old m result = (opening : Opening) (past : Past) → StandsFor opening past old
    → IsTaken (take module_language (runtime_after module_language opening past) m).answer result

-- it asks this
abbrev Asks : {F : Type 0} → HotRuntime F → ClientMsg → Type 0
Asks h asked = (opening : Opening) (past : Past) → StandsFor opening past h
    → asked ≡ request module_language (runtime_after module_language opening past)

pub taken_of : {F : Type 0} (old : HotRuntime F) (m : ServerMsg) (result : Result (Vec OutLine) RuntimeFault)
    → AnswersMessage old m result
    → (r : Runtime) → IsRuntime r old → IsTaken (take module_language r m).answer result
taken_of old m result f r h =
    subst (λ x. IsTaken (take module_language x m).answer result) h.is (f h.opening h.past h.stands)

pub after_of : {F : Type 0} (old new : HotRuntime F) (m : ServerMsg) (lines : Vec OutLine)
    → ((opening : Opening) (past : Past) → StandsFor opening past old
    → StandsFor opening (message m ∷ past) new)
    → (r : Runtime) → IsRuntime r old → IsRuntime (take module_language r m).after new
after_of old new m lines f r h = record {
  opening = h.opening;
  past = message m ∷ h.past;
  stands = f h.opening h.past h.stands;
  is = ap (λ x. (take module_language x m).after) h.is;
}

-- a message that the client understands isn't refused
pub never_unexpected : {F : Type 0} (old : HotRuntime F) (m : ServerMsg) (wanted got : ℕ)
    → AnswersMessage old m (Err (Unexpected wanted got)) → CanTake m old → ⊥
never_unexpected old m wanted got f fits =
    subst IsUnderstood (taken_of old m (Err (Unexpected wanted got)) f fits.r fits.is) fits.understood

pub never_stopped : {F : Type 0} (old : HotRuntime F) (m : ServerMsg) → AnswersMessage old m (Err Stopped)
    → CanTake m old → ⊥
never_stopped old m f fits =
    subst IsUnderstood (taken_of old m (Err Stopped) f fits.r fits.is) fits.understood

asked_of : {F : Type 0} (h : HotRuntime F) (asked : ClientMsg) → Asks h asked
    → (r : Runtime) → IsRuntime r h → asked ≡ request module_language r
asked_of h asked f r k = f k.opening k.past k.stands ∙ ap (request module_language) k.is

format_of : {F : Type 0} (h : HotRuntime F) (r : Runtime) → IsRuntime r h → r.format ≡ h.format
format_of h r k = ap (λ (x : Runtime). x.format) (sym k.is) ∙ k.stands.keeps.format

-- The answer that comes to the client's request.

-- this is the message that the core says, if it says one, and what it says can be written
pub record Says {F : Type 0} (i : ℕ) (core : Kept) (h : HotRuntime F) (says : Option ServerMsg)
    : Type 0 where
  pub message : (c : model.Core) (r : Runtime) → IsCore c core → IsRuntime r h
      → option_map (read_in h.format) says ≡ message_for r.format (answer_to core.roots c i r).1
  pub written : (c : model.Core) (r : Runtime) → IsCore c core → IsRuntime r h
      → IsWritten (said (answer_to core.roots c i r).1)

module _ {F : Type 0} (i : ℕ) (core : Kept) (h : HotRuntime F) (made asked : ClientMsg) (event : model.Event)
    (reply : Reply) (ask : Asks h made) (same : asked ≡ made) (event_is : event ≡ event_of i asked)
    (replied : (c : model.Core) → IsCore c core → said (step core.roots c event).1 ≡ reply) where
  same_event : (r : Runtime) → IsRuntime r h → event ≡ event_of i (request module_language r)
  same_event r l = event_is ∙ ap (event_of i) (same ∙ asked_of h made ask r l)

  core_replies : (c : model.Core) (r : Runtime) → IsCore c core → IsRuntime r h
      → said (answer_to core.roots c i r).1 ≡ reply
  core_replies c r k l = ap (λ e. said (step core.roots c e).1) (sym (same_event r l)) ∙ replied c k

  -- it is what the core replies to the event that the request is
  pub says_as : (says : Option ServerMsg) → says ≡ message_in reply
      → ((c : model.Core) → IsCore c core → IsWritten reply) → Says i core h says
  says_as says message_was written = record {
    message = λ c r k l.
        ap (option_map (read_in h.format)) message_was
        ∙ ap (λ f. option_map (read_in f) (message_in reply)) (sym (format_of h r l))
        ∙ message_is r.format (answer_to core.roots c i r).1 reply (core_replies c r k l);
    written = λ c r k l. subst IsWritten (sym (core_replies c r k l)) (written c k);
  }

module _ {F : Type 0} (i : ℕ) (core : Kept) (h : HotRuntime F) (says : Option ServerMsg)
    (answer : Says i core h says) where
  -- nothing comes
  module _ (none : says ≡ None) where
    not_sent : (c : model.Core) (r : Runtime) → IsCore c core → IsRuntime r h
        → None ≡ message_for r.format (answer_to core.roots c i r).1
    not_sent c r k l = sym (ap (option_map (read_in h.format)) none) ∙ answer.message c r k l

    pub nothing_after : (c : model.Core) (r : Runtime) → IsCore c core → IsRuntime r h
        → IsRuntime (taking_of core.roots c i r).after h
    nothing_after c r k l =
        subst (λ m. IsRuntime (take_some module_language r m).after h) (not_sent c r k l) l

    pub nothing_lines : (lines : Vec OutLine) → lines.items ≡ [] → (c : model.Core) (r : Runtime)
        → IsCore c core → IsRuntime r h
        → lines_taken (taking_of core.roots c i r).answer ≡ Some lines.items
    nothing_lines lines e c r k l =
        ap (λ m. lines_taken (take_some module_language r m).answer) (sym (not_sent c r k l))
        ∙ ap Some (sym e)

  -- a message comes, as the client reads it in its format
  module _ (m : ServerMsg) (there : says ≡ Some m) (format : ℕ) (spoken : format ≡ h.format) where
    module _ (read : ServerMsg) (is : read ≡ read_in format m) where
      comes : (c : model.Core) (r : Runtime) → IsCore c core → IsRuntime r h
          → message_for r.format (answer_to core.roots c i r).1 ≡ Some read
      comes c r k l =
          sym (answer.message c r k l)
          ∙ ap (option_map (read_in h.format)) there
          ∙ ap Some (sym (is ∙ ap (λ f. read_in f m) spoken))

      takes_it : (c : model.Core) (r : Runtime) → IsCore c core → IsRuntime r h
          → taking_of core.roots c i r ≡ take module_language r read
      takes_it c r k l = ap (take_some module_language r) (comes c r k l)

      both : CanTurn i core h → IsWritable h.format read × CanTake read h
      both fits =
          let r = fits.r in
          let same = format_of h r fits.is in
          let format_is = subst IsFormat (sym same) fits.is.stands.sound.format in
          let written = answer.written fits.c r fits.core_is fits.is in
          let reply = (answer_to core.roots fits.c i r).1 in
          let can = can_be_taken r.format r reply read format_is written fits.understood
          (comes fits.c r fits.core_is fits.is) in
          (subst (λ f. IsWritable f read) same can.0, record { r = r; is = fits.is; understood = can.1 })

      pub can_write : CanTurn i core h → IsWritable h.format read
      unfolding both
      can_write fits = (both fits).0

      pub can_take : CanTurn i core h → CanTake read h
      unfolding both
      can_take fits = (both fits).1

      module _ (result : Result (Vec OutLine) WorldStop) where
        pub runtime_takes : (after : HotRuntime F)
            → ((r : Runtime) → IsRuntime r h → OnOk result (IsRuntime (take module_language r read).after after))
            → (c : model.Core) (r : Runtime) → IsCore c core → IsRuntime r h
            → OnOk result (IsRuntime (taking_of core.roots c i r).after after)
        runtime_takes after f c r k l =
            subst (λ t. OnOk result (IsRuntime t.after after)) (sym (takes_it c r k l)) (f r l)

        pub lines_take : ((r : Runtime) → IsRuntime r h
            → AreLines (lines_taken (take module_language r read).answer) result)
            → (c : model.Core) (r : Runtime) → IsCore c core → IsRuntime r h
            → AreLines (lines_taken (taking_of core.roots c i r).answer) result
        lines_take f c r k l =
            subst (λ t. AreLines (lines_taken t.answer) result) (sym (takes_it c r k l)) (f r l)

    -- the core's message can be written, since it can as it is read
    pub can_send : CanTurn i core h → IsWritable format m
    can_send fits =
        let writes = can_write (read_in format m) refl fits in
        read_back_writable format m (subst (λ f. IsWritable f (read_in format m)) (sym spoken) writes)
