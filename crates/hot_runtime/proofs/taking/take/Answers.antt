use Rattle.std.proofs.Common.{sym}
use Rattle.client_model.specs.Past.{runtime_after}
use Rattle.module_language.specs.ModuleLanguage.{module_language}
use Rattle.runtime_answers.proofs.Taken.{stopped_taken, taken_stands}
use Rattle.hot_runtime.proofs.taking.take.Goals as goal

pub returns-then-runtime-clause-stands : goal.returns-then-runtime-clause-stands
returns-then-runtime-clause-stands g c = λ opening past s.
    taken_stands opening past c.args.msg c.args.runtime.now _ (stopped_taken (runtime_after module_language opening past) c.args.msg c.args.runtime.now s.keeps s.sound c.if-runtime.true)

pub returns-then-runtime-clause-answer : goal.returns-then-runtime-clause-answer
returns-then-runtime-clause-answer g c = λ opening past s.
    (stopped_taken (runtime_after module_language opening past) c.args.msg c.args.runtime.now s.keeps s.sound c.if-runtime.true).answer

pub returns-in-Ok-clause-stands : goal.returns-in-Ok-clause-stands
returns-in-Ok-clause-stands g c = λ opening past s. taken_stands opening past c.args.msg c.take_answer.new.runtime c.take_answer.result
    (c.take_answer.ensures.takes (runtime_after module_language opening past) s.keeps s.sound (sym (c.in-Ok.ensures (runtime_after module_language opening past) s.keeps)))

pub returns-in-Ok-clause-answer : goal.returns-in-Ok-clause-answer
returns-in-Ok-clause-answer g c = λ opening past s. (c.take_answer.ensures.takes (runtime_after module_language opening past) s.keeps s.sound (sym (c.in-Ok.ensures (runtime_after module_language opening past) s.keeps))).answer
