use Rattle.std.proofs.Common.{sym, ◌∙◌}
use Rattle.client_model.specs.Past.{runtime_after}
use Rattle.module_language.specs.ModuleLanguage.{module_language}
use Rattle.runtime_events.proofs.Fired.{busy_fired, fired_stands, heard_fired, stopped_fired}
use Rattle.runtime_events.proofs.events.fire.Goals as goal

pub returns-then-runtime-clause-stands : goal.returns-then-runtime-clause-stands
returns-then-runtime-clause-stands g c = λ opening past s.
    let r = runtime_after module_language opening past in
    fired_stands opening past c.args.name.now c.args.value.now c.args.runtime.now _ (stopped_fired c.args.name.now c.args.value.now r c.args.runtime.now s.keeps s.sound c.if-runtime.true)

pub returns-then-runtime-clause-answer : goal.returns-then-runtime-clause-answer
returns-then-runtime-clause-answer g c = λ opening past s.
    (stopped_fired c.args.name.now c.args.value.now (runtime_after module_language opening past) c.args.runtime.now s.keeps s.sound c.if-runtime.true).answer

pub returns-then-is_busy-clause-stands : goal.returns-then-is_busy-clause-stands
returns-then-is_busy-clause-stands g c = λ opening past s.
    let r = runtime_after module_language opening past in
    fired_stands opening past c.args.name.now c.args.value.now c.args.runtime.now _ (busy_fired c.args.name.now c.args.value.now r c.args.runtime.now s.keeps s.sound c.if-runtime.false (sym (c.is_busy.ensures r s.keeps) ∙ c.if-is_busy.true))

pub returns-then-is_busy-clause-answer : goal.returns-then-is_busy-clause-answer
returns-then-is_busy-clause-answer g c = λ opening past s.
    let r = runtime_after module_language opening past in
    (busy_fired c.args.name.now c.args.value.now r c.args.runtime.now s.keeps s.sound c.if-runtime.false (sym (c.is_busy.ensures r s.keeps) ∙ c.if-is_busy.true)).answer

pub returns-in-Ok-clause-stands : goal.returns-in-Ok-clause-stands
returns-in-Ok-clause-stands g c = λ opening past s.
    let r = runtime_after module_language opening past in
    fired_stands opening past c.args.name.now c.args.value.now c.hear.new.runtime _
    (heard_fired c.args.name.now c.args.value.now r c.args.runtime.now s.keeps s.sound c.hear.new.runtime c.in-Ok.lines c.if-runtime.false (sym (c.is_busy.ensures r s.keeps) ∙ c.if-is_busy.false) (c.in-Ok.ensures.becomes r s.keeps s.sound))

pub returns-in-Ok-clause-answer : goal.returns-in-Ok-clause-answer
returns-in-Ok-clause-answer g c = λ opening past s.
    let r = runtime_after module_language opening past in
    (heard_fired c.args.name.now c.args.value.now r c.args.runtime.now s.keeps s.sound c.hear.new.runtime c.in-Ok.lines c.if-runtime.false (sym (c.is_busy.ensures r s.keeps) ∙ c.if-is_busy.false) (c.in-Ok.ensures.becomes r s.keeps s.sound)).answer
