use Rattle.std.proofs.Common.{ap}
use Rattle.std.specs.Prelude.{Err, Ok}
use Rattle.runtime_state.specs.declared.fault.RuntimeFault.TheVariants.{InstancesFull}
use Rattle.world_model.specs.Turning.{lines_taken}
use Rattle.hmr_world.proofs.Turning.{after_of, taken_of, never_stopped, never_unexpected}
use Rattle.hmr_world.proofs.turns.take_answer.Goals as goal

pub returns-in-Ok-clause-runtime : goal.returns-in-Ok-clause-runtime
returns-in-Ok-clause-runtime g c = λ r h. after_of c.args.runtime.now c.take.new.runtime c.args.msg c.in-Ok.lines c.in-Ok.ensures.stands r h

pub returns-in-Ok-clause-lines : goal.returns-in-Ok-clause-lines
returns-in-Ok-clause-lines g c = λ r h. ap lines_taken (taken_of c.args.runtime.now c.args.msg (Ok c.in-Ok.lines) c.in-Ok.ensures.answer r h)

pub returns-in-Err-InstancesFull-clause-lines : goal.returns-in-Err-InstancesFull-clause-lines
returns-in-Err-InstancesFull-clause-lines g c = λ r h. ap lines_taken (taken_of c.args.runtime.now c.args.msg (Err InstancesFull) (rw c.in-Err-InstancesFull.field-0-is at c.in-Err-InstancesFull.ensures.answer) r h)

pub unreachable-requires : goal.unreachable-requires
unreachable-requires g c = never_unexpected c.args.runtime.now c.args.msg _ _ (rw c.in-Err-Unexpected.field-0-is at c.in-Err-Unexpected.ensures.answer) c.requires.fits

pub unreachable-requires-in-Err-Stopped : goal.unreachable-requires-in-Err-Stopped
unreachable-requires-in-Err-Stopped g c = never_stopped c.args.runtime.now c.args.msg (rw c.in-Err-Stopped.field-0-is at c.in-Err-Stopped.ensures.answer) c.requires.fits
