use Rattle.std.proofs.Common.{option_map, sym, ◌∙◌}
use Rattle.play_script.proofs.Utf8.{event_there}
use Rattle.play_script.proofs.arguments.event_of.Goals as goal

pub returns-then-is_event : goal.returns-then-is_event
returns-then-is_event c = event_there c.args.word.now (option_map (λ text. text.now) c.utf8_of.result) (sym c.is_event.ensures ∙ c.if-is_event.true) c.utf8_of.ensures
