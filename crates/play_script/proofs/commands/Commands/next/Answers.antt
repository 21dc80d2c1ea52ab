use Rattle.std.proofs.Common.{rules, ◌≡◌, [], ◌∷◌}
use Rattle.play_script.specs.Script.{commands, lines_from}
use Rattle.play_script.proofs.Formats.{first_fits}
use Rattle.play_script.proofs.commands.Commands.next.Goals as goal

pub returns-in-Some-clause-format : goal.returns-in-Some-clause-format
returns-in-Some-clause-format c =
    let ls = lines_from [] c.self.inside.left.now in
    let below = commands (lines_from [] c.in-Some.field-0.below.now) in
    let read : commands ls ≡ c.in-Some.field-0.command ∷ below = search (rules, c.in_ok-command.ensures, c.in-Some.is) in
    first_fits ls c.in-Some.field-0.command below read
