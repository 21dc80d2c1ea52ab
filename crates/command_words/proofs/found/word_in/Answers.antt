-- What is read of the matches is read of their rows.
use Rattle.std.proofs.Common.{◌∙◌}
use Rattle.clap.specs.Words.{found_of}
use Rattle.clap.proofs.WalkLemmas.{first_value-rows}
use Rattle.command_words.specs.Words.{word_of}
use Rattle.command_words.proofs.found.word_in.Goals as goal

pub returns : goal.returns
unfolding word_of
returns c = c.get_str.ensures ∙ first_value-rows (found_of c.args.matches.now) c.args.id.now
