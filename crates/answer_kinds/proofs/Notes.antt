-- Answers that what was told was taken note of, or refused: what they do.
use Rattle.std.proofs.Common.{◌≡◌, true, false, refl, sym, ap}
use Rattle.std.proofs.lemmas.Bool.{false≢true}
use Rattle.update_msgs.specs.declared.message.ClientMsg.{ClientMsg}
use Rattle.update_msgs.specs.declared.message.ServerMsg.{ServerMsg}
use Rattle.update_msgs.specs.declared.message.ServerMsg.TheVariants as msg
use Rattle.client_model.specs.Answering.{answered, done, took_refusal}
use Rattle.client_model.specs.Expecting.{answers_told}
use Rattle.client_model.specs.Runtime.{Runtime}
use Rattle.module_language.specs.ModuleLanguage.{module_language}

pub is_done_message : (m : ServerMsg) → answers_told (λ code. false) m ≡ true → m ≡ msg.Done
is_done_message msg.Done e = refl
is_done_message (msg.Connected client roots) e = absurd (false≢true e)
is_done_message (msg.Update replaced updates batch triggered) e = absurd (false≢true e)
is_done_message (msg.Prune paths) e = absurd (false≢true e)
is_done_message (msg.FullReload cause path batch triggered) e = absurd (false≢true e)
is_done_message (msg.Error path line column kind) e = absurd (false≢true e)
is_done_message (msg.Broken path line column kind) e = absurd (false≢true e)
is_done_message msg.Idle e = absurd (false≢true e)
is_done_message (msg.Text path version text) e = absurd (false≢true e)
is_done_message (msg.Missing path) e = absurd (false≢true e)
is_done_message (msg.NotYet path) e = absurd (false≢true e)
is_done_message (msg.Refused code path told kept) e = absurd (false≢true e)

pub done_answered : (asked : ClientMsg) (m : ServerMsg) (r : Runtime) → answers_told (λ code. false) m ≡ true → answered module_language asked m r ≡ done asked module_language r
done_answered asked m r e = ap (λ n. answered module_language asked n r) (is_done_message m e)

pub refused_answered : (asked : ClientMsg) (m : ServerMsg) (r : Runtime) → answers_told (λ code. false) m ≡ false → answers_told (λ code. true) m ≡ true → answered module_language asked m r ≡ took_refusal asked r
refused_answered asked msg.Done r e t = absurd (false≢true (sym e))
refused_answered asked (msg.Connected client roots) r e t = absurd (false≢true t)
refused_answered asked (msg.Update replaced updates batch triggered) r e t = absurd (false≢true t)
refused_answered asked (msg.Prune paths) r e t = absurd (false≢true t)
refused_answered asked (msg.FullReload cause path batch triggered) r e t = absurd (false≢true t)
refused_answered asked (msg.Error path line column kind) r e t = absurd (false≢true t)
refused_answered asked (msg.Broken path line column kind) r e t = absurd (false≢true t)
refused_answered asked msg.Idle r e t = absurd (false≢true t)
refused_answered asked (msg.Text path version text) r e t = absurd (false≢true t)
refused_answered asked (msg.Missing path) r e t = absurd (false≢true t)
refused_answered asked (msg.NotYet path) r e t = absurd (false≢true t)
refused_answered asked (msg.Refused code path told kept) r e t = refl
