use Rattle.std.proofs.Common.{refl, rules}
use Rattle.message_json.proofs.server.update_of.Goals as goal

pub returns-in_err-only_by : goal.returns-in_err-only_by
returns-in_err-only_by c = rw (c.in_ok-names_field.ensures, c.in_ok-updates_field.ensures, c.in_ok-batch.ensures) (search rules)

pub returns : goal.returns
returns c = rw (c.from_vec-replaced.ensures, c.from_vec-updates.ensures, c.in_ok-names_field.ensures, c.in_ok-updates_field.ensures, c.in_ok-batch.ensures, c.in_ok-only_by.ensures) refl
