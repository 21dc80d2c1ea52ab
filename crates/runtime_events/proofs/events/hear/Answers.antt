use Rattle.std.proofs.Math.Path.{subst}
use Rattle.client_model.specs.Firing.{hear_all}
use Rattle.module_language.specs.ModuleLanguage.{module_language}
use Rattle.page_state.specs.Standing.{Follows}
use Rattle.runtime_events.proofs.Deeds.{all_heard}
use Rattle.runtime_events.proofs.events.hear.Goals as goal

pub returns-clause-becomes : goal.returns-clause-becomes
returns-clause-becomes g c = λ r k s.
    all_heard c.args.name.now c.args.value.now r c.args.runtime.now c.hear_all.new.page c.hear_all.new.lines.items k s
    (subst (λ told. Follows (hear_all module_language c.args.name.now c.args.value.now) c.args.runtime.now.page c.hear_all.new.page told c.hear_all.new.lines.items) c.new-lines.ensures.items c.in_ok-hear_all.ensures.follows)
