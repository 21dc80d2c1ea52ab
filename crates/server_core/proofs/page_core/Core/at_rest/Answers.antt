use Rattle.std.proofs.Common.{ap, sym, ◌∙◌}
use Rattle.std.proofs.Math.Path.{subst}
use Rattle.core_model.specs.Core.{client_at}
use Rattle.server_core.specs.Inside.{kept_of}
use Rattle.server_core.specs.Kept.{StandsFor}
use Rattle.server_core.proofs.Looking.{rests_is, rests_not}
use Rattle.server_core.proofs.page_core.Core.at_rest.Goals as goal

pub returns : goal.returns
returns c = rw (← c.self.view_is) (λ past h. rests_is past (kept_of c.self.inside) h c.args.client c.in-Some.known.now c.at_rest.result c.at_rest.ensures (c.in-Some.ensures ∙ ap (λ l. client_at l c.args.client) c.deref.ensures.value))

pub returns-in_default : goal.returns-in_default
returns-in_default c = rw (← c.self.view_is) (λ past h. rests_not past (kept_of c.self.inside) h c.args.client (c.in_default.ensures ∙ ap (λ l. client_at l c.args.client) c.deref.ensures.value))
