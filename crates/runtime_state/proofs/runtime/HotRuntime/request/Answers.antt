use Rattle.std.proofs.Common.{ap, sym, ◌∙◌}
use Rattle.core_model.specs.Names.{names_of, rising}
use Rattle.core_model.specs.View.{View}
use Rattle.client_model.specs.Past.{runtime_after}
use Rattle.module_language.specs.ModuleLanguage.{module_language}
use Rattle.runtime_state.proofs.Requests.{plan_request}
use Rattle.runtime_state.proofs.Rising.{view_rises}
use Rattle.runtime_state.proofs.runtime.HotRuntime.request.Goals as goal

pub returns-in-Some-clause-request : goal.returns-in-Some-clause-request
returns-in-Some-clause-request g c = λ opening past s.
    let r = runtime_after module_language opening past in
    plan_request (λ m. m) r c.args.self.now c.in-Some.plan c.request.result s.keeps c.in-Some.is c.if-self-eq0.false (λ p i. c.request.ensures.request r p i s.keeps.view (ap (λ (view : View). rising (names_of view)) (sym s.keeps.view) ∙ view_rises module_language opening past))
