use Rattle.std.proofs.Common.{ap, sym, ◌∙◌}
use Rattle.core_model.specs.View.{imports_of}
use Rattle.client_plan.proofs.Staged.{same_lists}
use Rattle.client_plan.proofs.fetching.keeps_imports.Goals as goal

pub returns-in-Some : goal.returns-in-Some
returns-in-Some c = λ h. sym (same_lists c.in-Some.kept.now.imports c.args.analysis.now.imports (sym c.eq.ensures ∙ h)) ∙ ap imports_of c.in-Some.ensures
