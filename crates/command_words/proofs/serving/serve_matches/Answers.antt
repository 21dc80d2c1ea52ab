-- What was built is the command of the definition, so what `clap` tells of the one it tells of the other.
use Rattle.std.proofs.lemmas.Result.{IfOk-weaker}
use Rattle.command_words.proofs.Numbers.{serve_numbers}
use Rattle.command_words.proofs.serving.serve_matches.Goals as goal

pub returns-clause-numbers : goal.returns-clause-numbers
returns-clause-numbers c =
    IfOk-weaker c.taken.result _ _ (λ m h. serve_numbers _ m h c.in_ok-command.ensures) c.taken.ensures.parsed
