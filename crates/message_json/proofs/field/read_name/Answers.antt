use Rattle.hmr_types.specs.ModName.{is_name}
use Rattle.message_json.proofs.TableText.{is_read, read_is_name}
use Rattle.message_json.proofs.field.read_name.Goals as goal

pub returns-in-Ok-clause-value : goal.returns-in-Ok-clause-value
returns-in-Ok-clause-value c = read_is_name c.args.bytes.now c.in-Ok.name c.in-Ok.ensures.ok (is_read c.in-Ok.name (is_name c.args.bytes.now) c.in-Ok.ensures.not_a_name)

pub returns-in-Ok-clause-name : goal.returns-in-Ok-clause-name
returns-in-Ok-clause-name c = (c.in-Ok.ensures.ok, is_read c.in-Ok.name (is_name c.args.bytes.now) c.in-Ok.ensures.not_a_name)
