-- The number is the one that its text writes, and lies in its range.
use Rattle.std.specs.Str.Parse.{ParsesUnsigned, ExplainsUnsignedError, HasUnsignedDigitsIfOk}
use Rattle.clap.specs.Words.{found_of}
use Rattle.command_words.proofs.Numbers.{number_read}
use Rattle.command_words.proofs.found.port_in.Goals as goal

pub returns : goal.returns
returns c =
    let both = number_read _
    (λ bs r. ParsesUnsigned 16 10 bs r × ExplainsUnsignedError 10 bs r × HasUnsignedDigitsIfOk bs r)
    16 (found_of c.args.matches.now) c.args.id.now c.get_one.result
    (record { only = λ u x g. g.0; none = c.get_one.ensures.none; some = c.get_one.ensures.value })
    c.requires in
    record { value = both.0; within = both.1 }
