use Rattle.std.proofs.Common.{sym, ◌∙◌}
use Rattle.plan_steps.proofs.Fetched.{text_came}
use Rattle.plan_steps.proofs.fetching.stage.Goals as goal

pub returns-clause-becomes : goal.returns-clause-becomes
returns-clause-becomes g c = λ r k s counted answers.
    text_came c.args.name c.args.version c.args.text c.as_slice-roots.result.now r c.args.runtime.now _ _ k s counted answers (k.roots ∙ sym c.as_slice-roots.ensures)
    c.in_ok-stage_for.ensures.none c.in_ok-stage_for.ensures.staged c.new.ensures.items
