use Rattle.std.proofs.Common.{◌++◌, ◌∷◌, [], ap, ◌∙◌}
use Rattle.output_lines.specs.declared.out_line.OutLine.TheVariants.{Values}
use Rattle.page_showing.proofs.Shown.{values_told}
use Rattle.page_showing.proofs.showing.value_lines.Goals as goal

pub returns : goal.returns
returns g c = λ r s. values_told r c.args.page.now s c.push.new.self.items c.tell_all_live.new.lines.items c.args.names.now
    (c.in_ok-push.ensures.items ∙ ap (λ ls. ls ++ Values c.args.page.now.client ∷ []) c.new-lines.ensures.items) c.in_ok-tell_all_live.ensures
