use Rattle.std.proofs.Common.{◌≡◌, ap, sym, ◌∙◌}
use Rattle.std.specs.Prelude.{Ok}
use Rattle.std.proofs.Math.Path.{subst}
use Rattle.core_model.specs.Client.{without_notice}
use Rattle.core_model.specs.Core.{change, each_client}
use Rattle.core_model.specs.Sources.{result, sources_after}
use Rattle.client_records.specs.Record.{SameBut}
use Rattle.events_and_replies.specs.declared.event.Reply.TheVariants as replies
use Rattle.server_core.specs.Clients.{AreClients, numbers_of}
use Rattle.server_core.specs.Inside.{kept_of}
use Rattle.server_core.specs.Kept.{IsStep}
use Rattle.server_core.proofs.Changing.{good_late, late_step, served_step}
use Rattle.server_core.proofs.Keeping.{refilled}
use Rattle.server_core.proofs.page_core.Core.settle_good.Goals as goal
use Rattle.server_core.proofs.page_core.Core.settle_good.Goals.{in-Served, in_default}

pub returns : goal.returns
returns c =
    let t = c.args.transformed in
    let v = c.args.ver in
    let old = kept_of c.self.inside in
    let new = c.settle-settled.new.self in
    let reply = replies.Settled c.settle-settled.result in
    subst (λ k. IsStep (change (result t.name t.text t.outcome v)) k c.match-settled.self (Ok reply)) c.self.view_is (elim c.match-settled.branch [
      | in-Served w ↦ subst (λ k. IsStep (change (result t.name t.text t.outcome v)) old k (Ok reply)) (sym w.self-is)
          (subst (λ l. IsStep (change (result t.name t.text t.outcome v)) old (record old { sources = new; clients = l }) (Ok reply)) (sym (refilled c.self.inside.clients w.tell_changed.new.clients (w.tell_changed.ensures.numbers ∙ ap numbers_of w.deref_mut.ensures.value)))
          (served_step old t.name t.text t.outcome v new c.settle-settled.result c.settle-settled.ensures.stands c.settle-settled.ensures.answer w.tell_changed.new.clients w.in-Served.is
          (λ s rows h e. subst (λ m. AreClients new (each_client (without_notice m) rows) w.tell_changed.new.clients) c.requires.name
          (w.tell_changed.ensures.stands s rows (subst (AreClients s rows) (sym w.deref_mut.ensures.value) h) (subst (λ m. SameBut m s new) (sym c.requires.name) e)))))
      | in_default w ↦ subst (λ k. IsStep (change (result t.name t.text t.outcome v)) old k (Ok reply)) (sym w.self-is)
          (late_step old t.name t.text t.outcome v new c.settle-settled.result c.settle-settled.ensures.stands c.settle-settled.ensures.answer old.clients
          (λ past h. good_late t.name t.text v (sources_after past) t.outcome c.requires.good (λ e. w.in_default.not-Served (c.settle-settled.ensures.answer past h ∙ e))) (λ s rows h. h))
    ])
