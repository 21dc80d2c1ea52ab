-- One turn: it was taken, or the session ended.
use Rattle.std.proofs.Common.{◌≡◌, inl, inr, ℕ, List, ◌∷◌, Option, refl, sym, ◌∙◌, subst, false}
use Rattle.std.specs.Prelude.{Result, Ok, Err, IsErrAnd, ⊤}
use Rattle.output_lines.specs.declared.out_line.OutLine.{OutLine}
use Rattle.update_msgs.specs.declared.message.ClientMsg.{ClientMsg}
use Rattle.update_msgs.specs.declared.message.ServerMsg.{ServerMsg}
use Rattle.client_model.specs.Past.{Past, message, runtime_after}
use Rattle.client_model.specs.Runtime.{Opening}
use Rattle.client_model.specs.Taking.{took}
use Rattle.module_language.specs.ModuleLanguage.{module_language}
use Rattle.runtime_state.specs.Answers.{IsTaken}
use Rattle.runtime_state.specs.Standing.{StandsFor}
use Rattle.runtime_state.specs.declared.fault.RuntimeFault.{RuntimeFault}
use Rattle.runtime_state.specs.declared.fault.RuntimeFault.TheVariants as faults
use Rattle.runtime_state.specs.declared.runtime.HotRuntime.{HotRuntime}
use Rattle.sessions.specs.declared.ended.Ended.{Ended}
use Rattle.sessions.specs.declared.ended.Ended.TheVariants.{NoMemory}
use Rattle.client_sessions.specs.Asking.{asked_after, taken_after, ended_by}
use Rattle.client_sessions.specs.Course.{TurnEnded, Turns}
use Rattle.client_sessions.specs.Exchange.{Exchanged, Ends, takes_none, takes_by}
use Rattle.client_sessions.proofs.Exchanges.{no_memory, ended_after, widened}
use Rattle.client_sessions.proofs.Running.{took_runs}

abbrev Words : Type 0
Words = Option (List (List ℕ))

-- the turn ended as it is known to
pub turn_ended : {F : Type 0} (x : Ended) (r : Result ⊤ Ended) (opening : Opening) (past : Past) (format : ℕ) (l l' s s' : Words) (h' : HotRuntime F) (lines lines' : List OutLine) → IsErrAnd r (λ e. e ≡ x) → TurnEnded opening past format l l' s s' lines lines' x → Turns opening past format l l' s s' h' lines lines' r
turn_ended x (Ok done) opening past format l l' s s' h' lines lines' e k = absurd e
turn_ended x (Err y) opening past format l l' s s' h' lines lines' e k = subst (λ z. TurnEnded opening past format l l' s s' lines lines' z) (sym e) k

-- it ended as it is known to
pub ended_so : (x y : Ended) (opening : Opening) (past : Past) (format : ℕ) (l l' s s' : Words) (lines lines' : List OutLine) → y ≡ x → TurnEnded opening past format l l' s s' lines lines' x → TurnEnded opening past format l l' s s' lines lines' y
ended_so x y opening past format l l' s s' lines lines' e k = subst (λ z. TurnEnded opening past format l l' s s' lines lines' z) (sym e) k

-- there was no memory for the request
pub unasked : (opening : Opening) (past : Past) (format : ℕ) (l s : Words) (lines : List OutLine) → TurnEnded opening past format l l s s lines lines NoMemory
unasked opening past format l s lines = record { ends = no_memory format (asked_after opening past) (takes_by opening past) l s; lines_are = refl }

-- the request got no answer
pub unanswered : (opening : Opening) (past : Past) (f format : ℕ) (asked : ClientMsg) (l l' s s' : Words) (lines : List OutLine) (e : Ended) → f ≡ format → asked ≡ asked_after opening past → Ends f asked takes_none l l' s s' e → TurnEnded opening past format l l' s s' lines lines e
unanswered opening past f format asked l l' s s' lines e same is h = record {
  ends = subst (λ x. Ends x (asked_after opening past) (takes_by opening past) l l' s s' e) same (subst (λ x. Ends f x (takes_by opening past) l l' s s' e) is (widened (takes_by opening past) e f asked l l' s s' h));
  lines_are = refl;
}

-- the exchange, of the request that stood
pub exchanged_so : (opening : Opening) (past : Past) (f format : ℕ) (asked : ClientMsg) (l l' s s' : Words) (answer : ServerMsg) → f ≡ format → asked ≡ asked_after opening past → Exchanged f asked l l' s s' answer → Exchanged format (asked_after opening past) l l' s s' answer
exchanged_so opening past f format asked l l' s s' answer same is h = subst (λ x. Exchanged x (asked_after opening past) l l' s s' answer) same (subst (λ x. Exchanged f x l l' s s' answer) is h)

-- the runtime didn't take the answer
pub not_taken : (fault : RuntimeFault) (opening : Opening) (past : Past) (format : ℕ) (l l' s s' : Words) (lines : List OutLine) (answer : ServerMsg) → Exchanged format (asked_after opening past) l l' s s' answer → ¬ (fault ≡ faults.Stopped) → IsTaken (taken_after opening past answer) (Err fault) → TurnEnded opening past format l l' s s' lines lines (ended_by fault)
not_taken (faults.Unexpected wanted got) opening past format l l' s s' lines answer k runs h = record {
  ends = ended_after (takes_by opening past) format (asked_after opening past) l l' s s' answer _ k (refl, (k.bytes, refl, (answer, k.reads, h)));
  lines_are = refl;
}
not_taken faults.InstancesFull opening past format l l' s s' lines answer k runs h = record {
  ends = ended_after (takes_by opening past) format (asked_after opening past) l l' s s' answer _ k (refl, (k.bytes, refl, (answer, k.reads, h)));
  lines_are = refl;
}
not_taken faults.Stopped opening past format l l' s s' lines answer k runs h = absurd (runs refl)
not_taken faults.NoMemory opening past format l l' s s' lines answer k runs h = record {
  ends = ended_after (takes_by opening past) format (asked_after opening past) l l' s s' answer _ k (inl refl, inr (k.bytes, refl, tt));
  lines_are = refl;
}

-- there was no memory for the lines of the answer
pub untold : (opening : Opening) (past : Past) (format : ℕ) (l l' s s' : Words) (lines lines' : List OutLine) (answer : ServerMsg) → lines' ≡ lines → Exchanged format (asked_after opening past) l l' s s' answer → TurnEnded opening past format l l' s s' lines lines' NoMemory
untold opening past format l l' s s' lines lines' answer e k = record {
  ends = ended_after (takes_by opening past) format (asked_after opening past) l l' s s' answer _ k (inl refl, inr (k.bytes, refl, tt));
  lines_are = e;
}

-- a runtime that took an answer runs
pub still_running : {F : Type 0} (opening : Opening) (past : Past) (answer : ServerMsg) (more : List OutLine) (h' : HotRuntime F) → taken_after opening past answer ≡ took more → StandsFor opening (message answer ∷ past) h' → h'.stopped ≡ false
still_running opening past answer more h' e s = sym s.keeps.stopped ∙ took_runs module_language (runtime_after module_language opening past) answer more e
