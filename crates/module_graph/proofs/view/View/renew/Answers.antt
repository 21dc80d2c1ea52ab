use Rattle.std.proofs.Common.{ap, ◌∙◌}
use Rattle.core_model.specs.Names.{at}
use Rattle.core_model.specs.View.{Entry, View}
use Rattle.module_graph.specs.Entries.{lists_alike, put_entry}
use Rattle.module_graph.proofs.Renewing.{renewed_indexed, renewed_view}
use Rattle.module_graph.proofs.view.View.renew.Goals as goal

pub invariant_of-self : goal.invariant_of-self
invariant_of-self c =
    let inside = c.self.inside in
    let entry : Entry = record { version = c.args.ver; analysis = c.args.analysis } in
    renewed_indexed c.args.name.now entry inside.rows.entries c.renew.new.rows.entries inside.indexes.importers.sets.entries inside.indexes.acceptors.sets.entries c.renew.ensures
    (ap (λ (v : View). lists_alike (at v c.args.name.now) c.args.analysis) c.self.view_is ∙ c.requires) c.self.invariant

pub returns : goal.returns
returns c =
    let inside = c.self.inside in
    let entry : Entry = record { version = c.args.ver; analysis = c.args.analysis } in
    renewed_view c.args.name.now entry inside.rows.entries c.renew.new.rows.entries inside.indexes.importers.sets.entries inside.indexes.acceptors.sets.entries c.renew.ensures
    (ap (λ (v : View). lists_alike (at v c.args.name.now) c.args.analysis) c.self.view_is ∙ c.requires) c.self.invariant
    ∙ ap (put_entry c.args.name.now entry) c.self.view_is
