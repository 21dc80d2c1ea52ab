use Rattle.std.proofs.Common.{◌≡◌, ◌≤◌, length, arith, rules}
use Rattle.skeletons.specs.Refusing.{place_in}
use Rattle.skeletons.proofs.Columns.{column_is, line_is, refusal_is}
use Rattle.skeletons.proofs.refusal.refusal.Goals as goal

pub returns : goal.returns
returns c =
    let text = c.args.text.now in
    let at = c.min.result in
    let place = c.place_of-place.result in
    let is_at : at ≡ place_in text c.args.fault.now = search rules in
    let within : at ≤ length text = omega (arith, is_at) in
    let told = c.place_of-place.ensures in
    refusal_is text c.args.fault.now at place.line place.column c.min-2.result c.min-3.result c.fault_word.result is_at (line_is text at place.line told.line)
    (column_is text at place.column within told.column.0 told.column.1 told.begins told.one_line) c.min-2.ensures c.min-3.ensures c.fault_word.ensures
