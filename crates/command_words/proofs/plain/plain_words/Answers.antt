use Rattle.command_words.proofs.PlainWords.{check_alone, check_is, play_is}
use Rattle.command_words.proofs.plain.plain_words.Goals as goal

pub returns-clause-play : goal.returns-clause-play
returns-clause-play c = play_is

pub returns-clause-check : goal.returns-clause-check
returns-clause-check c = check_is

pub returns-clause-alone : goal.returns-clause-alone
returns-clause-alone c = check_alone
