use Rattle.std.proofs.Common.{ap, sym, ◌∙◌}
use Rattle.core_model.specs.Names.{at}
use Rattle.core_model.proofs.Replaying.{sources_are}
use Rattle.version_map.specs.Standing.{outstanding_in}
use Rattle.server_core.specs.Kept.{StandsFor}
use Rattle.std.proofs.Math.Path.{subst}
use Rattle.server_core.proofs.page_core.Core.outstanding.Goals as goal

pub returns : goal.returns
returns c = λ past h.
    let k = subst (StandsFor past) (sym c.self.view_is) h in
    c.outstanding.ensures ∙ ap outstanding_in (k.sources.source c.args.name.now ∙ ap (λ s. at s.current c.args.name.now) (sym (sources_are _ past)))
