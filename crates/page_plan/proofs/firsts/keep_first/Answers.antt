use Rattle.std.proofs.Common.{◌∙◌, ap, sym}
use Rattle.std.specs.Prelude.{is_some}
use Rattle.page_plan.proofs.Numbering.{found, number_kept, number_put}
use Rattle.page_plan.proofs.firsts.keep_first.Goals as goal

pub returns-then-contains_key : goal.returns-then-contains_key
returns-then-contains_key g c = number_kept c.args.values.now.entries c.args.name.now c.args.value (ap is_some (sym (found c.args.name.now c.args.values.now.entries)) ∙ sym c.contains_key.ensures ∙ c.if-contains_key.true)

pub returns : goal.returns
returns g c = number_put c.args.name.now c.in_ok-copy_name.field-0 c.args.value c.args.values.now c.insert.new.self c.in_ok-copy_name.ensures (ap is_some (sym (found c.args.name.now c.args.values.now.entries)) ∙ sym c.contains_key.ensures ∙ c.if-contains_key.false) c.in_ok-insert.ensures.updates
