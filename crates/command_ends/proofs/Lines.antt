-- The line of each limit says what it bounds, and the most that it allows.
use Rattle.std.proofs.Common.{◌≡◌, ◌++◌, refl}
use Rattle.std.specs.Prelude.{codes, decimal}
use Rattle.std.specs.Fmt.{digits}
use Rattle.command_ends.specs.Ends.{bounded, limit_line, most}
use Rattle.command_ends.specs.declared.limit.Limit.{Limit}
use Rattle.command_ends.specs.declared.limit.Limit.TheVariants.{Instances, Names, Passes, Record, Script, Sources, Text, Transcript, Turns}

pub lines_say_the_most : (limit : Limit)
    → limit_line limit ≡ codes "limit " ++ bounded limit ++ codes " " ++ decimal (most limit) ++ codes "\n"
unfolding digits
lines_say_the_most Script = refl
lines_say_the_most Record = refl
lines_say_the_most Text = refl
lines_say_the_most Names = refl
lines_say_the_most Sources = refl
lines_say_the_most Instances = refl
lines_say_the_most Transcript = refl
lines_say_the_most Passes = refl
lines_say_the_most Turns = refl
