use Rattle.std.proofs.Common.{◌++◌, ◌∷◌, [], ap, ◌∙◌}
use Rattle.output_lines.specs.declared.out_line.OutLine.TheVariants.{Fates}
use Rattle.page_showing.proofs.Shown.{fates_told}
use Rattle.page_showing.proofs.showing.fate_lines.Goals as goal

pub returns : goal.returns
returns g c = λ r s. fates_told r c.args.page.now s c.push.new.self.items c.tell_fates.new.lines.items
    (c.in_ok-push.ensures.items ∙ ap (λ ls. ls ++ Fates c.args.page.now.client ∷ []) c.new-lines.ensures.items) c.in_ok-tell_fates.ensures
