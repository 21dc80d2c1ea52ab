use Rattle.std.proofs.Common.{◌≡◌, ◌↔◌, true, Contains}
use Rattle.std.proofs.Math.Path.{subst}
use Rattle.core_model.specs.Names.{Name}
use Rattle.core_model.specs.View.{View, imports_of, imports}
use Rattle.module_graph.specs.Rows.{view_of}
use Rattle.module_graph.proofs.Turning.{listers_are}
use Rattle.module_graph.proofs.view.View.importers.Goals as goal

pub returns-clause-exact : goal.returns-clause-exact
returns-clause-exact c =
    let n = c.args.name.now in
    let names = c.in_ok-names.names.items in
    let inside = c.self.inside in
    subst (λ (v : View). (m : Name) → Contains names m ↔ (imports v m n ≡ true)) c.self.view_is
    (listers_are imports_of n (view_of inside.rows.entries) inside.indexes.importers.sets.entries names c.self.invariant.imports c.in_ok-names.ensures.these)
