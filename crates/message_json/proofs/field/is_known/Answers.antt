use Rattle.std.proofs.Common.{◌∙◌}
use Rattle.message_json.proofs.Loops.{any_map}
use Rattle.message_json.proofs.field.is_known.Goals as goal

pub returns : goal.returns
returns c = c.is_any.ensures ∙ any_map c.args.known.now c.args.key.now
