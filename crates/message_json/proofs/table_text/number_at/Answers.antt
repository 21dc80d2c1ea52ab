use Rattle.std.proofs.Common.{arith}
use Rattle.message_json.proofs.TableText.{one_digit}
use Rattle.message_json.proofs.table_text.number_at.Goals as goal

pub loop-digit-preserved : goal.loop-digit-preserved
loop-digit-preserved c = (
  one_digit c.loop-digit.number c.in-Some.digit c.args.text.now c.loop-digit.left.now c.in-Some.rest.now c.loop-digit.invariant.1 (omega arith) c.in-Some.ensures.1 c.loop-digit.invariant.0 c.in-Some.ensures.0,
  omega arith,
)
