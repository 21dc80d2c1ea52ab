use Rattle.std.proofs.Common.{ap, ◌∙◌}
use Rattle.std.specs.Prelude.{None, Some}
use Rattle.std.specs.Option.{option_map}
use Rattle.core_model.specs.Client.{Client}
use Rattle.core_model.specs.Core.{client_at}
use Rattle.client_records.specs.Record as client
use Rattle.server_core.specs.Inside.{kept_of}
use Rattle.server_core.proofs.Looking.{read_is}
use Rattle.server_core.proofs.page_core.Core.roots_of.Goals as goal

pub returns-clause-kept : goal.returns-clause-kept
returns-clause-kept c = rw (← c.self.view_is) (ap Some c.roots.ensures ∙ ap (option_map (λ (k : client.Kept). k.roots)) (c.in-Some.ensures ∙ ap (λ l. client_at l c.args.client) c.deref.ensures.value))

pub returns-in_default-clause-kept : goal.returns-in_default-clause-kept
returns-in_default-clause-kept c = rw (← c.self.view_is) (ap (option_map (λ (k : client.Kept). k.roots)) (c.in_default.ensures ∙ ap (λ l. client_at l c.args.client) c.deref.ensures.value))

pub returns-clause-stands : goal.returns-clause-stands
returns-clause-stands c = rw (← c.self.view_is) (λ past h. ap Some c.roots.ensures ∙ read_is past (kept_of c.self.inside) h c.args.client (λ (x : Client). x.roots) (λ (k : client.Kept). k.roots) (λ s x k r. r.roots) (Some c.in-Some.known.now) (c.in-Some.ensures ∙ ap (λ l. client_at l c.args.client) c.deref.ensures.value))

pub returns-in_default-clause-stands : goal.returns-in_default-clause-stands
returns-in_default-clause-stands c = rw (← c.self.view_is) (λ past h. read_is past (kept_of c.self.inside) h c.args.client (λ (x : Client). x.roots) (λ (k : client.Kept). k.roots) (λ s x k r. r.roots) None (c.in_default.ensures ∙ ap (λ l. client_at l c.args.client) c.deref.ensures.value))
