use Rattle.std.proofs.Common.{refl, rules}
use Rattle.message_json.proofs.update.js_update_of.Goals as goal

pub returns-in_err-only : goal.returns-in_err-only
returns-in_err-only c = rw (c.in_ok-path.ensures, c.in_ok-accepted_path.ensures, c.in_ok-timestamp.ensures.value) (search rules)

pub returns : goal.returns
returns c = rw (c.in_ok-path.ensures, c.in_ok-accepted_path.ensures, c.in_ok-timestamp.ensures.value, c.in_ok-only.ensures) refl
