use Rattle.std.proofs.Common.{◌≡◌, ◌+◌, List, [], ◌∷◌, ◌++◌, false, refl, sym, ◌∙◌, ap}
use Rattle.std.specs.Prelude.{◌||◌, nat_le, length, Ok}
use Rattle.std.proofs.Math.Path.{subst}
use Rattle.hmr_types.specs.declared.limits.TheConstants.{CLIENTS, LARGEST_CLIENT}
use Rattle.update_msgs.specs.declared.message.ServerMsg.TheVariants as msg
use Rattle.core_model.specs.Client.{new_client}
use Rattle.core_model.specs.Core.{connect}
use Rattle.core_model.specs.Names.{Name}
use Rattle.core_model.specs.Roots.{are_bad, roots_or}
use Rattle.client_records.specs.Record.{IsRecord}
use Rattle.events_and_replies.specs.declared.event.Reply.TheVariants as replies
use Rattle.server_core.specs.Clients.{numbers_of}
use Rattle.server_core.specs.Inside.{kept_of}
use Rattle.server_core.specs.Kept.{Kept, IsStep}
use Rattle.server_core.proofs.Keeping.{added_sound, no_more_given}
use Rattle.server_core.proofs.Stepping.{admitted_step, unadmitted_step}
use Rattle.server_core.proofs.page_core.Core.admit.Goals as goal

pub invariant_of-self-2 : goal.invariant_of-self-2
invariant_of-self-2 c = added_sound c.self.inside _ c.new-record.result refl refl c.in_ok-push.ensures.items (subst (λ (k : Kept). (nat_le CLIENTS (length (numbers_of k.clients)) || nat_le LARGEST_CLIENT k.given) ≡ false) (sym c.self.view_is) c.requires) c.self.invariant

pub returns : goal.returns
returns c = λ names b e.
    let old = kept_of c.self.inside in
    let roots = c.args.roots.items in
    let room : (nat_le CLIENTS (length (numbers_of old.clients)) || nat_le LARGEST_CLIENT old.given) ≡ false = subst (λ (k : Kept). (nat_le CLIENTS (length (numbers_of k.clients)) || nat_le LARGEST_CLIENT k.given) ≡ false) (sym c.self.view_is) c.requires in
    let named : roots ≡ roots_or names old.roots = e ∙ ap (λ (k : Kept). roots_or names k.roots) (sym c.self.view_is) in
    let told : c.from_vec-roots.result ≡ roots = c.from_vec-roots.ensures ∙ c.in_ok-copy.ensures ∙ c.deref.ensures.value in
    subst (λ l. IsStep (connect names) c.args.self.now (record old { clients = c.push.new.self.items; given = old.given + 1 }) (Ok (replies.To (msg.Connected (old.given + 1) l)))) (sym told)
    (subst (λ k. IsStep (connect names) k (record old { clients = c.push.new.self.items; given = old.given + 1 }) (Ok (replies.To (msg.Connected (old.given + 1) roots)))) c.self.view_is
    (subst (λ l. IsStep (connect names) old (record old { clients = l; given = old.given + 1 }) (Ok (replies.To (msg.Connected (old.given + 1) roots)))) (sym c.in_ok-push.ensures.items)
    (admitted_step old names roots c.new-record.result c.self.invariant.numbers room (no_more_given c.self.inside room) (λ s. subst (λ v. IsRecord s (new_client roots v) c.new-record.result) c.served_no.ensures (subst (λ l. IsRecord s (new_client l c.served_no.result) c.new-record.result) c.from_vec.ensures (c.new-record.ensures s))) b named)))

pub returns-in_err-copy : goal.returns-in_err-copy
returns-in_err-copy c = λ names b e. unadmitted_step c.args.self.now names b c.requires c.from_residual.result c.from_residual.ensures.0

pub returns-in_err-push : goal.returns-in_err-push
returns-in_err-push c = λ names b e.
    let old = kept_of c.self.inside in
    let room : (nat_le CLIENTS (length (numbers_of old.clients)) || nat_le LARGEST_CLIENT old.given) ≡ false = subst (λ (k : Kept). (nat_le CLIENTS (length (numbers_of k.clients)) || nat_le LARGEST_CLIENT k.given) ≡ false) (sym c.self.view_is) c.requires in
    subst (λ k. IsStep (connect names) k (record old { clients = c.push.new.self.items }) c.from_residual-in_err-push.result) c.self.view_is
    (subst (λ l. IsStep (connect names) old (record old { clients = l }) c.from_residual-in_err-push.result) (sym c.in_err-push.ensures.items)
    (unadmitted_step old names b room c.from_residual-in_err-push.result c.from_residual-in_err-push.ensures.0))
