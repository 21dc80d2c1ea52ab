use Rattle.std.proofs.Common.{ap, ◌∙◌}
use Rattle.std.specs.Prelude.{flat_map}
use Rattle.core_model.specs.Names.{sorted}
use Rattle.propagate.specs.Pairs.{told}
use Rattle.propagate.proofs.Telling.{marks_told, among_told}
use Rattle.propagate.proofs.pairs.pairs.Goals as goal

pub returns : goal.returns
returns c =
    let view = c.args.change.now.view.now in
    let replaced = c.args.replaced.now in
    let forced = c.args.change.now.forced.now in
    let marks = c.in_ok-replaced.replaced in
    let others = c.in_ok-forced.forced in
    let found = c.in_ok-found.found.items in
    c.in_ok-pairs.ensures ∙ ap (flat_map (told view marks others)) (c.deref.ensures.value ∙ c.in_ok-names.ensures)
    ∙ marks_told view replaced forced marks others c.in_ok-replaced.ensures c.in_ok-forced.ensures (sorted found)
    ∙ among_told view c.args.change.now.changed.now forced replaced c.requires.changed c.requires.forced c.requires.replaced found c.in_ok-found.ensures
