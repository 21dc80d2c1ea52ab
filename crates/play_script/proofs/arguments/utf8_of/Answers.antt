use Rattle.play_script.proofs.Utf8.{text_absent, text_there}
use Rattle.play_script.proofs.arguments.utf8_of.Goals as goal

pub returns-in-Ok : goal.returns-in-Ok
returns-in-Ok c = text_there c.args.word.now c.in-Ok.text.now c.in-Ok.ensures.cases

pub returns-in-Err : goal.returns-in-Err
returns-in-Err c = text_absent c.args.word.now c.in-Err.ensures.cases.0
