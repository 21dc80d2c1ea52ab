use Rattle.std.proofs.Common.{◌≡◌}
use Rattle.std.specs.Global.{Vec}
use Rattle.std.specs.Option.{option_map}
use Rattle.std.proofs.lemmas.Result.{IfOk-weaker}
use Rattle.output_lines.specs.declared.out_line.OutLine.{OutLine}
use Rattle.client_model.specs.Answering.{abort_in}
use Rattle.module_language.specs.ModuleLanguage.{module_language}
use Rattle.client_plan.specs.Telling.{cause_lines}
use Rattle.client_plan.specs.UnderWay.{cause_of}
use Rattle.runtime_state.specs.Becoming.{Becomes}
use Rattle.runtime_answers.proofs.Changed.{all_given_up}
use Rattle.runtime_state.proofs.Keeping.{with_under_way}
use Rattle.runtime_answers.proofs.answering.abort.Goals as goal

pub returns-clause-becomes : goal.returns-clause-becomes
returns-clause-becomes g c = λ r k s t.
    IfOk-weaker c.cause_lines.result (λ (lines : Vec OutLine). lines.items ≡ cause_lines c.args.runtime.now.page.client (option_map cause_of c.given_up-cause.result))
    (λ (lines : Vec OutLine). Becomes (abort_in r.page.plan module_language r) (with_under_way c.args.runtime.now c.given_up-cause.new.plan) lines.items)
    (λ lines told. all_given_up r c.args.runtime.now c.given_up-cause.new.plan c.given_up-cause.result lines.items k s c.given_up-cause.ensures.gone t
    c.given_up-cause.ensures.none (λ u is p i e. c.given_up-cause.ensures.some u is r p i e) told)
    c.cause_lines.ensures
