use Rattle.std.proofs.Common.{sym, ap, ◌∙◌, ◌++◌, ◌∷◌, []}
use Rattle.std.specs.Prelude.{◌||◌}
use Rattle.core_model.specs.Names.{same_name, has}
use Rattle.module_graph.proofs.Distinct.{marked_more}
use Rattle.module_graph.proofs.known.add_marked.Goals as goal

pub returns-in-Ok-clause-marked : goal.returns-in-Ok-clause-marked
returns-in-Ok-clause-marked c = marked_more c.args.marks.now c.args.names.now.items c.args.name.now _ _ c.requires.marked (sym c.has.ensures ∙ c.if-has.false)
    (λ k. c.in-Ok.ensures.ok k ∙ ap (λ n. same_name n k || has c.args.marks.now k) c.in_ok-mark.ensures)
    (c.in_ok-push.ensures.items ∙ ap (λ n. c.args.names.now.items ++ n ∷ []) c.in_ok-copy.ensures)
