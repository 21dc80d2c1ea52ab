use Rattle.std.proofs.Common.{rules, ◌≡◌, subst}
use Rattle.hmr_types.specs.Event.{event_module}
use Rattle.play_script.specs.Script.{Gives}
use Rattle.play_script.proofs.Utf8.{event_named_is}
use Rattle.play_script.proofs.arguments.read_event.Goals as goal

pub returns : goal.returns
returns c =
    let name : c.as_bytes.result.now ≡ event_module c.in-Some.event.now = search (rules, c.as_bytes.ensures.value, c.as_str.ensures, c.in_ok-module.ensures) in
    subst (Gives (λ n. n) c.read_name.result) (event_named_is c.args.word.now c.in-Some.event.now c.as_bytes.result.now c.in-Some.ensures name) c.read_name.ensures
