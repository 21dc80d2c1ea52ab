use Rattle.client_model.specs.Runtime.{Opening, new_runtime}
use Rattle.handler_table.specs.Shelf.{marks_of}
use Rattle.hmr_world.proofs.Opening.{never_full, new_is}
use Rattle.hmr_world.proofs.opens.welcome.Goals as goal

-- a new runtime is that of the definitions, which takes its number
pub take_answer-requires-clause-fits : goal.take_answer-requires-clause-fits
take_answer-requires-clause-fits g c =
    let names = c.args.names.items in
    let opening : Opening = record { shelf = marks_of c.args.shelf; roots = names; format = c.args.format } in
    let is = new_is opening c.new-runtime.result c.new-runtime.ensures.stands in
    record { r = new_runtime opening; is = is; understood = tt }

pub take_answer-requires-clause-writable : goal.take_answer-requires-clause-writable
take_answer-requires-clause-writable g c = c.requires.number

pub returns-in-Ok-clause-runtime : goal.returns-in-Ok-clause-runtime
returns-in-Ok-clause-runtime g c =
    let names = c.args.names.items in
    let opening : Opening = record { shelf = marks_of c.args.shelf; roots = names; format = c.args.format } in
    let is = new_is opening c.new-runtime.result c.new-runtime.ensures.stands in
    c.in-Ok.ensures.runtime (new_runtime opening) is

-- it has room
pub unreachable-requires : goal.unreachable-requires
unreachable-requires g c =
    let names = c.args.names.items in
    let opening : Opening = record { shelf = marks_of c.args.shelf; roots = names; format = c.args.format } in
    let is = new_is opening c.new-runtime.result c.new-runtime.ensures.stands in
    let lines = c.in-Err-InstancesFull.ensures.lines (new_runtime opening) is in
    never_full opening c.args.client c.args.roots (rw c.in-Err-InstancesFull.field-0-is at lines)
