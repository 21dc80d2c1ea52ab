use Rattle.std.proofs.Common.{◌≡◌, true, ap, refl, sym, ◌∙◌}
use Rattle.std.specs.Prelude.{IfOk}
use Rattle.std.proofs.Math.Path.{subst}
use Rattle.std.proofs.lemmas.Bool.{false≢true}
use Rattle.output_lines.specs.declared.out_line.OutLine.TheVariants as line
use Rattle.update_msgs.specs.declared.message.ServerMsg.TheVariants as msg
use Rattle.update_msgs.specs.Writable.{IsWritable}
use Rattle.client_model.specs.Answering.{answered}
use Rattle.client_model.specs.Expecting.{answers_told, is_answer}
use Rattle.client_model.specs.Runtime.{write}
use Rattle.module_language.specs.ModuleLanguage.{module_language}
use Rattle.runtime_state.specs.Becoming.{Becomes}
use Rattle.runtime_events.proofs.Asked.{connect_asked, prune_asked}
use Rattle.client_model.specs.Requesting.{request}
use Rattle.runtime_answers.proofs.Rest.{on_ok, rest_format, rest_stopped, rest_words}
use Rattle.runtime_answers.proofs.Untold.{untold_answer, untold_ask}
use Rattle.hot_runtime.proofs.answering.take_news.Goals as goal

pub returns-in-Connected-clause-becomes : goal.returns-in-Connected-clause-becomes
returns-in-Connected-clause-becomes g c = λ r asked k s e fits news.
    subst (λ m. IfOk c.connect.result (λ lines. Becomes (answered module_language asked m r) c.connect.new.runtime lines.items)) (sym c.in-Connected.is)
    (c.connect.ensures.becomes r k s (connect_asked r c.args.runtime.now asked c.in-Connected.client c.in-Connected.roots k s e (subst (λ m. is_answer c.args.runtime.now.loaded asked m ≡ true) c.in-Connected.is fits)))

pub returns-in-Update-clause-becomes : goal.returns-in-Update-clause-becomes
returns-in-Update-clause-becomes g c = λ r asked k s e fits news.
    subst (λ m. IfOk c.start_update.result (λ lines. Becomes (answered module_language asked m r) c.start_update.new.runtime lines.items)) (sym c.in-Update.is)
    (c.start_update.ensures.becomes r k s)

pub returns-in-Prune-clause-becomes : goal.returns-in-Prune-clause-becomes
returns-in-Prune-clause-becomes g c = λ r asked k s e fits news.
    subst (λ m. IfOk c.prune.result (λ lines. Becomes (answered module_language asked m r) c.prune.new.runtime lines.items)) (sym c.in-Prune.is)
    (c.prune.ensures.becomes r k s (untold_ask (request module_language r) (e ∙ prune_asked c.args.runtime.now.loaded asked c.in-Prune.paths (subst (λ m. is_answer c.args.runtime.now.loaded asked m ≡ true) c.in-Prune.is fits))))

pub returns-in-FullReload-clause-becomes : goal.returns-in-FullReload-clause-becomes
returns-in-FullReload-clause-becomes g c = λ r asked k s e fits news.
    subst (λ m. IfOk c.start_reload.result (λ lines. Becomes (answered module_language asked m r) c.start_reload.new.runtime lines.items)) (sym c.in-FullReload.is)
    (c.start_reload.ensures.becomes r k s)

pub returns-in-Broken-clause-becomes : goal.returns-in-Broken-clause-becomes
returns-in-Broken-clause-becomes g c = λ r asked k s e fits news.
    subst (λ m. IfOk c.give_cause.result (λ lines. Becomes (answered module_language asked m r) c.give_cause.new.runtime lines.items)) (sym c.in-Broken.is)
    (c.give_cause.ensures.becomes r k s)

pub returns-in-Idle-clause-becomes : goal.returns-in-Idle-clause-becomes
returns-in-Idle-clause-becomes g c = λ r asked k s e fits news.
    subst (λ m. IfOk c.idle.result (λ lines. Becomes (answered module_language asked m r) c.args.runtime.now lines.items)) (sym c.in-Idle.is)
    (c.idle.ensures r k s)

pub returns-in-Text-clause-becomes : goal.returns-in-Text-clause-becomes
returns-in-Text-clause-becomes g c = λ r asked k s e fits news.
    subst (λ m. IfOk c.stage.result (λ lines. Becomes (answered module_language asked m r) c.stage.new.runtime lines.items)) (sym c.in-Text.is)
    (c.stage.ensures.becomes r k s (subst (IsWritable c.args.runtime.now.format) c.in-Text.is c.requires.writable).counted (untold_answer (request module_language r) c.args.runtime.now.loaded (msg.Text c.in-Text.path c.in-Text.version c.in-Text.text) ∙ subst (λ a. is_answer c.args.runtime.now.loaded a (msg.Text c.in-Text.path c.in-Text.version c.in-Text.text) ≡ true) (sym e) (subst (λ m. is_answer c.args.runtime.now.loaded asked m ≡ true) c.in-Text.is fits)))

pub returns-in-Missing-clause-becomes : goal.returns-in-Missing-clause-becomes
returns-in-Missing-clause-becomes g c = λ r asked k s e fits news.
    subst (λ m. IfOk c.give_cause-in-Missing.result (λ lines. Becomes (answered module_language asked m r) c.give_cause-in-Missing.new.runtime lines.items)) (sym c.in-Missing.is)
    (c.give_cause-in-Missing.ensures.becomes r k s)

pub stage-requires : goal.stage-requires
stage-requires g c = record { short = (subst (IsWritable c.args.runtime.now.format) c.in-Text.is c.requires.writable).few }

pub returns-in-Update-clause-words : goal.returns-in-Update-clause-words
returns-in-Update-clause-words g c = on_ok c.start_update.result (rest_words c.args.runtime.now c.start_update.new.runtime c.start_update.new.runtime.plan c.start_update.ensures.rest (goal.F-post g) c.requires.words)

pub returns-in-Update-clause-format : goal.returns-in-Update-clause-format
returns-in-Update-clause-format g c = rest_format c.args.runtime.now c.start_update.new.runtime c.start_update.new.runtime.plan c.start_update.ensures.rest

pub returns-in-Update-clause-stopped : goal.returns-in-Update-clause-stopped
returns-in-Update-clause-stopped g c = rest_stopped c.args.runtime.now c.start_update.new.runtime c.start_update.new.runtime.plan c.start_update.ensures.rest

pub returns-in-FullReload-clause-words : goal.returns-in-FullReload-clause-words
returns-in-FullReload-clause-words g c = on_ok c.start_reload.result (rest_words c.args.runtime.now c.start_reload.new.runtime c.start_reload.new.runtime.plan c.start_reload.ensures.rest (goal.F-post g) c.requires.words)

pub returns-in-FullReload-clause-format : goal.returns-in-FullReload-clause-format
returns-in-FullReload-clause-format g c = rest_format c.args.runtime.now c.start_reload.new.runtime c.start_reload.new.runtime.plan c.start_reload.ensures.rest

pub returns-in-FullReload-clause-stopped : goal.returns-in-FullReload-clause-stopped
returns-in-FullReload-clause-stopped g c = rest_stopped c.args.runtime.now c.start_reload.new.runtime c.start_reload.new.runtime.plan c.start_reload.ensures.rest

pub returns-in-Broken-clause-words : goal.returns-in-Broken-clause-words
returns-in-Broken-clause-words g c = on_ok c.give_cause.result (rest_words c.args.runtime.now c.give_cause.new.runtime c.give_cause.new.runtime.plan c.give_cause.ensures.rest (goal.F-post g) c.requires.words)

pub returns-in-Broken-clause-format : goal.returns-in-Broken-clause-format
returns-in-Broken-clause-format g c = rest_format c.args.runtime.now c.give_cause.new.runtime c.give_cause.new.runtime.plan c.give_cause.ensures.rest

pub returns-in-Broken-clause-stopped : goal.returns-in-Broken-clause-stopped
returns-in-Broken-clause-stopped g c = rest_stopped c.args.runtime.now c.give_cause.new.runtime c.give_cause.new.runtime.plan c.give_cause.ensures.rest

pub returns-in-Text-clause-words : goal.returns-in-Text-clause-words
returns-in-Text-clause-words g c = on_ok c.stage.result (rest_words c.args.runtime.now c.stage.new.runtime c.stage.new.runtime.plan c.stage.ensures.rest (goal.F-post g) c.requires.words)

pub returns-in-Text-clause-format : goal.returns-in-Text-clause-format
returns-in-Text-clause-format g c = rest_format c.args.runtime.now c.stage.new.runtime c.stage.new.runtime.plan c.stage.ensures.rest

pub returns-in-Text-clause-stopped : goal.returns-in-Text-clause-stopped
returns-in-Text-clause-stopped g c = rest_stopped c.args.runtime.now c.stage.new.runtime c.stage.new.runtime.plan c.stage.ensures.rest

pub returns-in-Missing-clause-words : goal.returns-in-Missing-clause-words
returns-in-Missing-clause-words g c = on_ok c.give_cause-in-Missing.result (rest_words c.args.runtime.now c.give_cause-in-Missing.new.runtime c.give_cause-in-Missing.new.runtime.plan c.give_cause-in-Missing.ensures.rest (goal.F-post g) c.requires.words)

pub returns-in-Missing-clause-format : goal.returns-in-Missing-clause-format
returns-in-Missing-clause-format g c = rest_format c.args.runtime.now c.give_cause-in-Missing.new.runtime c.give_cause-in-Missing.new.runtime.plan c.give_cause-in-Missing.ensures.rest

pub returns-in-Missing-clause-stopped : goal.returns-in-Missing-clause-stopped
returns-in-Missing-clause-stopped g c = rest_stopped c.args.runtime.now c.give_cause-in-Missing.new.runtime c.give_cause-in-Missing.new.runtime.plan c.give_cause-in-Missing.ensures.rest

pub returns-in-Error-clause-becomes : goal.returns-in-Error-clause-becomes
returns-in-Error-clause-becomes g c = λ r asked k s e fits news.
    subst (λ m. IfOk c.tell.result (λ lines. Becomes (answered module_language asked m r) c.args.runtime.now lines.items)) (sym c.in-Error.is)
    (subst (λ i. IfOk c.tell.result (λ lines. Becomes (write (line.Error i c.in-Error.path c.in-Error.line c.in-Error.column c.in-Error.kind) r) c.args.runtime.now lines.items)) (sym k.page.client) (c.tell.ensures r k s))

pub returns-in-NotYet-clause-becomes : goal.returns-in-NotYet-clause-becomes
returns-in-NotYet-clause-becomes g c = λ r asked k s e fits news.
    subst (λ m. IfOk c.tell-in-NotYet.result (λ lines. Becomes (answered module_language asked m r) c.args.runtime.now lines.items)) (sym c.in-NotYet.is)
    (subst (λ i. IfOk c.tell-in-NotYet.result (λ lines. Becomes (write (line.Wait i c.in-NotYet.path) r) c.args.runtime.now lines.items)) (sym k.page.client) (c.tell-in-NotYet.ensures r k s))

pub returns-in-Connected-clause-words : goal.returns-in-Connected-clause-words
returns-in-Connected-clause-words g c = on_ok c.connect.result (c.connect.ensures.words c.requires.words)

pub returns-in-Connected-clause-format : goal.returns-in-Connected-clause-format
returns-in-Connected-clause-format g c = c.connect.ensures.format

pub returns-in-Connected-clause-stopped : goal.returns-in-Connected-clause-stopped
returns-in-Connected-clause-stopped g c = c.connect.ensures.stopped

pub returns-in-Prune-clause-words : goal.returns-in-Prune-clause-words
returns-in-Prune-clause-words g c = c.prune.ensures.words

pub returns-in-Prune-clause-format : goal.returns-in-Prune-clause-format
returns-in-Prune-clause-format g c = c.prune.ensures.format

pub returns-in-Prune-clause-stopped : goal.returns-in-Prune-clause-stopped
returns-in-Prune-clause-stopped g c = c.prune.ensures.stopped

pub returns-in-Idle-clause-words : goal.returns-in-Idle-clause-words
returns-in-Idle-clause-words g c = on_ok c.idle.result c.requires.words

pub returns-in-Idle-clause-format : goal.returns-in-Idle-clause-format
returns-in-Idle-clause-format g c = refl

pub returns-in-Idle-clause-stopped : goal.returns-in-Idle-clause-stopped
returns-in-Idle-clause-stopped g c = refl

pub returns-in-Error-clause-words : goal.returns-in-Error-clause-words
returns-in-Error-clause-words g c = on_ok c.tell.result c.requires.words

pub returns-in-Error-clause-format : goal.returns-in-Error-clause-format
returns-in-Error-clause-format g c = refl

pub returns-in-Error-clause-stopped : goal.returns-in-Error-clause-stopped
returns-in-Error-clause-stopped g c = refl

pub returns-in-NotYet-clause-words : goal.returns-in-NotYet-clause-words
returns-in-NotYet-clause-words g c = on_ok c.tell-in-NotYet.result c.requires.words

pub returns-in-NotYet-clause-format : goal.returns-in-NotYet-clause-format
returns-in-NotYet-clause-format g c = refl

pub returns-in-NotYet-clause-stopped : goal.returns-in-NotYet-clause-stopped
returns-in-NotYet-clause-stopped g c = refl

pub returns-in-Done-clause-becomes : goal.returns-in-Done-clause-becomes
returns-in-Done-clause-becomes g c = λ r asked k s e fits news. absurd (false≢true (sym news ∙ ap (answers_told (λ code. true)) c.in-Done.is))

pub returns-in-Done-clause-words : goal.returns-in-Done-clause-words
returns-in-Done-clause-words g c = on_ok c.idle-in-Done.result c.requires.words

pub returns-in-Done-clause-format : goal.returns-in-Done-clause-format
returns-in-Done-clause-format g c = refl

pub returns-in-Done-clause-stopped : goal.returns-in-Done-clause-stopped
returns-in-Done-clause-stopped g c = refl

pub returns-clause-becomes : goal.returns-clause-becomes
returns-clause-becomes g c = λ r asked k s e fits news. absurd (false≢true (sym news ∙ ap (answers_told (λ code. true)) c.in-Refused.is))

pub returns-clause-words : goal.returns-clause-words
returns-clause-words g c = on_ok c.idle-in-Refused.result c.requires.words

pub returns-clause-format : goal.returns-clause-format
returns-clause-format g c = refl

pub returns-clause-stopped : goal.returns-clause-stopped
returns-clause-stopped g c = refl
