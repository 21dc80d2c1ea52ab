use Rattle.std.proofs.Common.{◌+◌, [], arith}
use Rattle.std.proofs.lemmas.Result.{err_from_is_err_and}
use Rattle.play_script.specs.Script.{lines_from}
use Rattle.record_laws.specs.Course.{verdict_of}
use Rattle.transcript_check.proofs.Passing.{halted, on_way}
use Rattle.transcript_check.proofs.auditing.judge.Goals as goal

pub returns-in_err-course : goal.returns-in_err-course
returns-in_err-course c =
    let p = err_from_is_err_and c.from_residual.result c.from_residual.ensures.1 in
    rw (p.1, p.2) (halted c.loop-first.course (c.loop-first.passed + 1) (record { bytes = c.in-Some.first.bytes.now; ended = c.in-Some.first.ended }) (lines_from [] c.loop-first.left.now) (lines_from [] c.in-Some.first.below.now)
    c.in_err-course.field-0.0 (verdict_of c.args.bytes.now) c.in-Some.ensures.line c.loop-first.invariant.on c.in_err-course.ensures)

pub loop-first-preserved : goal.loop-first-preserved
loop-first-preserved c =
    let shorter = c.in-Some.ensures.shorter in
    let few = c.loop-first.invariant.few in
    record {
      on = on_way c.loop-first.course c.in_ok-course.course (c.loop-first.passed + 1) (record { bytes = c.in-Some.first.bytes.now; ended = c.in-Some.first.ended }) (lines_from [] c.loop-first.left.now) (lines_from [] c.in-Some.first.below.now)
          (verdict_of c.args.bytes.now) c.in-Some.ensures.line c.loop-first.invariant.on c.in_ok-course.ensures;
      few = omega (arith, shorter, few);
    }
