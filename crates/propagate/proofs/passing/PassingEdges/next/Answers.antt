use Rattle.std.proofs.Common.{ap, ◌∙◌}
use Rattle.std.specs.Prelude.{filter}
use Rattle.core_model.proofs.Spreading.{passes_named}
use Rattle.propagate.specs.Passing.{lets_pass}
use Rattle.propagate.proofs.Onward.{passed_is}
use Rattle.propagate.proofs.passing.PassingEdges.next.Goals as goal

pub returns-clause-over : goal.returns-clause-over
returns-clause-over c = passes_named c.args.self.now.view.now c.args.self.now.forced

pub returns-clause-exact : goal.returns-clause-exact
returns-clause-exact c =
    let view = c.args.self.now.view.now in
    let forced = c.args.self.now.forced in
    passed_is view forced c.args.name.now c.in_ok-importers.importers.items c.in_ok-names.names.items c.in_ok-importers.ensures.exact
    (c.in_ok-names.ensures ∙ ap (filter (lets_pass view forced c.args.name.now)) c.deref.ensures.value)
