use Rattle.std.proofs.Common.{◌≡◌, ap, sym, ◌∙◌}
use Rattle.std.proofs.lemmas.Result.{IfOk-weaker}
use Rattle.core_model.specs.Core.{core_after}
use Rattle.core_model.specs.FreshLoad.{fresh_load}
use Rattle.import_links.specs.Links.{links}
use Rattle.server_core.proofs.Looking.{served_alike}
use Rattle.fresh_loads.specs.Fresh.{load_of}
use Rattle.fresh_loads.specs.declared.loading.Fresh.{Fresh}
use Rattle.fresh_loads.proofs.Same.{same_load}
use Rattle.server_core.proofs.loads.fresh.Goals as goal

pub returns-clause-stands : goal.returns-clause-stands
returns-clause-stands c = λ past h.
    let core = c.args.core.now in
    let s = core.sources.served in
    let t = (core_after core.roots past).sources.served in
    IfOk-weaker c.fresh_load.result (λ (fresh : Fresh). load_of fresh ≡ fresh_load links c.sources.result.now.served c.roots.result.now) (λ (fresh : Fresh). load_of fresh ≡ fresh_load links t core.roots)
    (λ fresh e. e ∙ ap (fresh_load links c.sources.result.now.served) c.roots.ensures ∙ ap (λ v. fresh_load links v.served core.roots) c.sources.ensures ∙ same_load links s t (λ n. sym (served_alike past core h n)) core.roots) c.fresh_load.ensures
