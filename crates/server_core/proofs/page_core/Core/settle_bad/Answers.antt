use Rattle.std.proofs.Common.{◌≡◌, ap, sym, ◌∙◌}
use Rattle.std.specs.Prelude.{Ok}
use Rattle.std.specs.Vec.{with_items}
use Rattle.std.proofs.Math.Path.{subst}
use Rattle.core_model.specs.Client.{with_notice}
use Rattle.core_model.specs.Core.{change, each_client}
use Rattle.core_model.specs.Sources.{result, sources_after}
use Rattle.events_and_replies.specs.declared.event.Reply.TheVariants as replies
use Rattle.server_core.specs.Clients.{AreClients, numbers_of}
use Rattle.server_core.specs.Inside.{kept_of}
use Rattle.server_core.specs.Kept.{IsStep}
use Rattle.server_core.proofs.Changing.{bad_late, late_step, refused_step}
use Rattle.server_core.proofs.Keeping.{refilled}
use Rattle.server_core.proofs.page_core.Core.settle_bad.Goals as goal
use Rattle.server_core.proofs.page_core.Core.settle_bad.Goals.{in-RefusedText, in_default}

pub returns : goal.returns
returns c =
    let t = c.args.transformed in
    let v = c.args.ver in
    let old = kept_of c.self.inside in
    let new = c.settle-settled.new.self in
    let roomy = with_items c.self.inside.clients c.make_room.new.clients in
    let full : roomy.items ≡ c.make_room.new.clients = refilled c.self.inside.clients c.make_room.new.clients (c.make_room.ensures.numbers ∙ ap numbers_of c.deref_mut.ensures.value) in
    subst (λ k. IsStep (change (result t.name t.text t.outcome v)) k c.match-settled.self (Ok (replies.Settled c.match-settled.settled))) c.self.view_is (elim c.match-settled.branch [
      | in-RefusedText w ↦ subst (λ k. IsStep (change (result t.name t.text t.outcome v)) old k (Ok (replies.Settled c.match-settled.settled))) (sym w.self-is)
          (subst (λ l. IsStep (change (result t.name t.text t.outcome v)) old (record old { sources = new; clients = l }) (Ok (replies.Settled c.match-settled.settled))) (sym (refilled roomy w.give_notices.new.clients (w.give_notices.ensures.numbers ∙ ap numbers_of w.deref_mut-in-RefusedText.ensures.value)))
          (subst (λ r. IsStep (change (result t.name t.text t.outcome v)) old (record old { sources = new; clients = w.give_notices.new.clients }) (Ok (replies.Settled r))) (w.in-RefusedText.is ∙ sym w.settled-is)
          (refused_step old t.name t.text t.outcome v new c.settle-settled.result c.settle-settled.ensures.stands c.settle-settled.ensures.answer w.give_notices.new.clients w.in-RefusedText.fault w.in-RefusedText.is
          (λ s rows h. subst (λ m. AreClients s (each_client (with_notice m w.in-RefusedText.fault) rows) w.give_notices.new.clients) c.requires.name
          (w.give_notices.ensures.stands s rows (subst (AreClients s rows) (sym (w.deref_mut-in-RefusedText.ensures.value ∙ full)) (c.make_room.ensures.stands s rows (subst (AreClients s rows) (sym c.deref_mut.ensures.value) h))))))))
      | in_default w ↦ subst (λ k. IsStep (change (result t.name t.text t.outcome v)) old k (Ok (replies.Settled c.match-settled.settled))) (sym w.self-is)
          (subst (λ l. IsStep (change (result t.name t.text t.outcome v)) old (record old { sources = new; clients = l }) (Ok (replies.Settled c.match-settled.settled))) (sym full)
          (subst (λ r. IsStep (change (result t.name t.text t.outcome v)) old (record old { sources = new; clients = c.make_room.new.clients }) (Ok (replies.Settled r))) (sym w.settled-is)
          (late_step old t.name t.text t.outcome v new c.settle-settled.result c.settle-settled.ensures.stands c.settle-settled.ensures.answer c.make_room.new.clients
          (λ past h. bad_late t.name t.text v (sources_after past) t.outcome c.requires.bad (λ f e. w.in_default.not-RefusedText f (c.settle-settled.ensures.answer past h ∙ e)))
          (λ s rows h. c.make_room.ensures.stands s rows (subst (AreClients s rows) (sym c.deref_mut.ensures.value) h)))))
    ])
