-- What is read of the matches is read of their rows.
use Rattle.std.proofs.Common.{◌∙◌}
use Rattle.clap.specs.Words.{found_of}
use Rattle.clap.proofs.WalkLemmas.{raw_values-rows}
use Rattle.command_words.specs.Words.{words_of}
use Rattle.command_words.proofs.found.words_in.Goals as goal

pub returns : goal.returns
unfolding words_of
returns c = c.get_strs.ensures ∙ raw_values-rows (found_of c.args.matches.now) c.args.id.now
