use Rattle.std.proofs.Common.{false, Some, ap, ◌∙◌}
use Rattle.std.specs.Prelude.{if◌then◌else◌}
use Rattle.core_model.specs.Names.{has, same_name}
use Rattle.module_graph.specs.ReverseIndex.{names_in}
use Rattle.module_graph.proofs.Turning.{placed, written}
use Rattle.module_graph.proofs.reverse_index.take_out.Goals as goal

pub returns-in-Some-clause-places : goal.returns-in-Some-clause-places
returns-in-Some-clause-places c =
    let name = c.args.name.now in
    let lister = c.args.lister.now in
    let w = c.remove.new.set in
    let old = c.args.sets.now in
    let new = c.get_mut.follows.lender w in
    placed name lister false (Some w) old.entries new.entries
    (written name c.in-Some.set.now w old new c.in-Some.ensures.value (c.get_mut.follows.holds w))
    (λ m. c.remove.ensures m ∙ ap (λ o. if same_name lister m then false else has (names_in o) m) c.in-Some.ensures.value)
