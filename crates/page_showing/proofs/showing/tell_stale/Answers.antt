use Rattle.std.proofs.Common.{◌++◌, ap, sym, ◌∙◌}
use Rattle.page_showing.proofs.Shown.{stale_are}
use Rattle.page_showing.proofs.showing.tell_stale.Goals as goal

pub returns : goal.returns
returns g c = λ r s. c.in_ok-tell_apart.ensures
    ∙ ap (λ es. c.args.edges.now.items ++ es) (sym (stale_are r c.args.page.now s c.args.importer.now c.in_ok-links.links c.in_ok-links.ensures c.args.imports.now))
