use Rattle.std.proofs.Common.{ap, sym, ◌∙◌}
use Rattle.std.specs.Prelude.{None, Some}
use Rattle.core_model.specs.Client.{Client}
use Rattle.core_model.specs.Core.{client_at}
use Rattle.core_model.specs.View.{table_of}
use Rattle.client_records.specs.Record as client
use Rattle.server_core.specs.Inside.{kept_of}
use Rattle.server_core.proofs.Looking.{read_is}
use Rattle.server_core.proofs.page_core.Core.table.Goals as goal

pub returns-clause-stands : goal.returns-clause-stands
returns-clause-stands c = rw (← c.self.view_is) (λ past h. ap Some c.in_ok-table.ensures ∙ read_is past (kept_of c.self.inside) h c.args.client (λ (x : Client). table_of x.page.view) (λ (k : client.Kept). table_of k.view) (λ s x k r. ap table_of r.view) (Some c.in-Some.known.now) (c.in-Some.ensures ∙ ap (λ l. client_at l c.args.client) c.deref.ensures.value))

pub returns-in_default-clause-stands : goal.returns-in_default-clause-stands
returns-in_default-clause-stands c = rw (← c.self.view_is) (λ past h. read_is past (kept_of c.self.inside) h c.args.client (λ (x : Client). table_of x.page.view) (λ (k : client.Kept). table_of k.view) (λ s x k r. ap table_of r.view) None (c.in_default.ensures ∙ ap (λ l. client_at l c.args.client) c.deref.ensures.value))
