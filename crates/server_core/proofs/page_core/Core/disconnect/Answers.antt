use Rattle.std.proofs.Common.{◌≡◌, true, false, refl, sym, ◌∙◌, ap}
use Rattle.std.specs.Prelude.{is_some, not, Ok}
use Rattle.std.proofs.Math.Path.{subst}
use Rattle.core_model.specs.Core.{client_at, disconnect}
use Rattle.core_model.specs.declared.refusal.Refusal.TheVariants.{UnknownClient}
use Rattle.events_and_replies.specs.declared.event.Reply.TheVariants as replies
use Rattle.server_core.specs.Inside.{kept_of}
use Rattle.server_core.specs.Kept.{IsStep}
use Rattle.server_core.proofs.Keeping.{taken_sound}
use Rattle.server_core.proofs.Stepping.{gone_step, unknown_step}
use Rattle.server_core.proofs.page_core.Core.disconnect.Goals as goal

pub invariant_of-self : goal.invariant_of-self
invariant_of-self c = taken_sound c.self.inside _ c.args.number refl refl c.take_out.ensures c.self.invariant

pub returns : goal.returns
returns c =
    let old = kept_of c.self.inside in
    let there : is_some (client_at old.clients c.args.number) ≡ true = ap (λ l. is_some (client_at l c.args.number)) (sym c.deref.ensures.value) ∙ sym c.place_of.ensures.known ∙ c.is_none.ensures ∙ ap not c.if-is_none.false in
    subst (λ k. IsStep (disconnect c.args.number) k (record old { clients = c.take_out.new.clients.items }) (Ok replies.Gone)) c.self.view_is
    (subst (λ l. IsStep (disconnect c.args.number) old (record old { clients = l }) (Ok replies.Gone)) (sym c.take_out.ensures) (gone_step old c.args.number there))

pub returns-then-is_none : goal.returns-then-is_none
returns-then-is_none c =
    let old = kept_of c.self.inside in
    let gone : is_some (client_at old.clients c.args.number) ≡ false = ap (λ l. is_some (client_at l c.args.number)) (sym c.deref.ensures.value) ∙ sym c.place_of.ensures.known ∙ c.is_none.ensures ∙ ap not c.if-is_none.true in
    subst (λ k. IsStep (disconnect c.args.number) k k (Ok (replies.Refused UnknownClient))) c.self.view_is (unknown_step old c.args.number gone)
