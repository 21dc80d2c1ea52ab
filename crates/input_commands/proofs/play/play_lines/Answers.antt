use Rattle.std.proofs.Common.{◌∙◌, ◌≡◌, ◌∷◌, true, false, arith, rules}
use Rattle.std.specs.Prelude.{is_err}
use Rattle.std.proofs.Math.Path.{subst}
use Rattle.play_script.specs.Asked.{IsNext}
use Rattle.script_runs.specs.Commands.{command_seen}
use Rattle.script_runs.specs.Playing.{commanded, perform, quieted}
use Rattle.script_runs.proofs.Playing.{next_command}
use Rattle.input_commands.proofs.Stepping.{from_ok}
use Rattle.input_commands.proofs.Writing.{more, stops}
use Rattle.input_commands.proofs.play.play_lines.Goals as goal

pub returns-then-is_err-clause-plays : goal.returns-then-is_err-clause-plays
returns-then-is_err-clause-plays g c = λ stage w h.
    let q = c.lines.quiet in
    let line = c.in-Some.line in
    let command = command_seen c.in-Some-command_of.command in
    let left = c.lines.commands in
    let behind = c.next.new.self in
    let call = c.play_command-played in
    let e : is_err call.result ≡ true = search rules in
    let first : left ≡ line ∷ behind =
    subst (λ next. IsNext next left behind) c.in-Some.is c.in-Ok.ensures.next in
    stops stage _ _ _ (perform stage left q) (λ v. quieted q (commanded stage command v))
    (perform stage behind q) _ c.lines.world call.new.world
    (λ v at. next_command stage left behind line q command v first c.in-Some-command_of.ensures.command)
    call.result e (λ v at. call.ensures.plays stage v at) (c.lines.invariant.so_far stage w h)

pub lines-preserved-else-is_err-3 : goal.lines-preserved-else-is_err-3
lines-preserved-else-is_err-3 g c =
    let q = c.lines.quiet in
    let line = c.in-Some.line in
    let command = command_seen c.in-Some-command_of.command in
    let left = c.lines.commands in
    let behind = c.next.new.self in
    let call = c.play_command-played in
    let e : is_err call.result ≡ false = search rules in
    let first : left ≡ line ∷ behind =
    subst (λ next. IsNext next left behind) c.in-Some.is c.in-Ok.ensures.next in
    record {
      so_far = λ stage w h.
          more stage _ _ _ (perform stage left q) (λ v. quieted q (commanded stage command v))
          (perform stage behind q) _ c.lines.world call.new.world
          (λ v at. next_command stage left behind line q command v first c.in-Some-command_of.ensures.command)
          call.result e (λ v at. call.ensures.plays stage v at) (c.lines.invariant.so_far stage w h);
      words = call.ensures.words;
      running = from_ok call.result e call.ensures.running;
      on = call.ensures.on ∙ c.lines.invariant.on;
      later = omega (arith, call.ensures.faults.later);
    }
