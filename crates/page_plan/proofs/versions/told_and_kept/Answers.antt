use Rattle.std.proofs.Common.{◌∙◌, ◌++◌, ap, sym}
use Rattle.core_model.specs.Names.{names_of, sorted}
use Rattle.page_plan.proofs.Comparing.{table_names}
use Rattle.page_plan.proofs.versions.told_and_kept.Goals as goal

pub returns : goal.returns
returns c = c.in_ok-names-2.ensures ∙ ap sorted (c.in_ok-append.ensures.items ∙ ap (λ l. l ++ c.in_ok-more.more.items) c.in_ok-names.ensures ∙ ap (λ l. names_of c.args.told.now ++ l) (c.in_ok-more.ensures.names ∙ sym (table_names c.args.kept.now)))
