use Rattle.std.proofs.Common.{◌∙◌}
use Rattle.std.proofs.Math.Path.{subst}
use Rattle.script_runs.specs.Playing.{quieted}
use Rattle.input_commands.specs.Standing.{Plays}
use Rattle.input_commands.proofs.Commanding.{open_at, turns_closed, turns_open}
use Rattle.input_commands.proofs.play.turn_client.Goals as goal

pub returns-then-is_open-clause-plays : goal.returns-then-is_open-clause-plays
returns-then-is_open-clause-plays g c = λ stage w h.
    let found = open_at stage w c.args.world.now h c.world.result.now c.world.ensures c.args.client c.is_open.result c.is_open.ensures
    ∙ c.if-is_open.true in
    let taken = g.K.LineSink.taken in
    let call = c.take_turns in
    let part = quieted c.args.quiet in
    subst (λ p. Plays stage (taken c.args.out.now) (taken call.new.out) (part p) call.new.world call.result)
    (turns_open stage c.args.client c.args.most w found) (call.ensures.plays stage w h)

pub returns-else-is_open-clause-plays : goal.returns-else-is_open-clause-plays
returns-else-is_open-clause-plays g c = λ stage w h.
    let found = open_at stage w c.args.world.now h c.world.result.now c.world.ensures c.args.client c.is_open.result c.is_open.ensures
    ∙ c.if-is_open.false in
    let taken = g.K.LineSink.taken in
    let call = c.play_step in
    let part = quieted c.args.quiet in
    subst (λ p. Plays stage (taken c.args.out.now) (taken call.new.out) (part p) call.new.world call.result)
    (turns_closed stage c.args.client c.args.most w found) (call.ensures.plays stage w h)
