use Rattle.play_script.proofs.SpelledScripts.{spelling_is_read}
use Rattle.play_script.proofs.spelling.spelling_is_read.Goals as goal

pub returns : goal.returns
returns c = spelling_is_read
