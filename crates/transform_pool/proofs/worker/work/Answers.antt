use Rattle.std.proofs.Common.{◌∙◌, rules}
use Rattle.std.proofs.lemmas.Result.{err_from_is_err_and}
use Rattle.transform_pool.proofs.Turns.{gated_more, gated_same, one_more, stopped}
use Rattle.transform_pool.proofs.worker.work.Goals as goal

pub returns-in_err-done-clause-worked : goal.returns-in_err-done-clause-worked
returns-in_err-done-clause-worked g c =
    let took = c.in-Some-take_job.ensures in
    let told = err_from_is_err_and c.from_residual.result c.from_residual.ensures.1 in
    stopped _ _ _ _ _ _ _ _ _ _ told.1 c.loop.invariant.4 took.taken took.posted

pub returns-in_err-post_passed-clause-worked : goal.returns-in_err-post_passed-clause-worked
returns-in_err-post_passed-clause-worked g c =
    let took = c.in-Some-take_job.ensures in
    let refused = c.in_err-post_passed.ensures in
    let exit = c.from_residual-in_err-post_passed in
    let told = err_from_is_err_and exit.result exit.ensures.1 in
    stopped _ _ _ _ _ _ _ _ _ _ told.1 c.loop.invariant.4
    (refused.taken ∙ took.taken) (refused.unposted ∙ took.posted)

pub returns-in_err-done-clause-gated : goal.returns-in_err-done-clause-gated
returns-in_err-done-clause-gated g c =
    gated_same _ _ _ _ c.loop.invariant.6 c.in-Some-take_job.ensures.posted

pub returns-in_err-post_passed-clause-gated : goal.returns-in_err-post_passed-clause-gated
returns-in_err-post_passed-clause-gated g c =
    gated_same _ _ _ _ c.loop.invariant.6
    (c.in_err-post_passed.ensures.unposted ∙ c.in-Some-take_job.ensures.posted)

pub loop-preserved : goal.loop-preserved
loop-preserved g c =
    let took = c.in-Some-take_job.ensures in
    let posted = c.in_ok-post_passed.ensures in (
      search rules,
      search rules,
      posted.ended ∙ took.ended,
      posted.full ∙ (took.full ∙ c.loop.invariant.3),
      one_more _ _ _ _ _ _ _ _ _ c.loop.invariant.4 (posted.taken ∙ took.taken)
          (cc (posted.posted, took.posted, c.in_ok-done.ensures.result)) c.saturating_add-count.ensures,
      g.met.B.Board.longer _ _ _ c.loop.invariant.5 (g.met.B.Board.longer _ _ _ took.stays posted.stays),
      gated_more _ _ _ _ _ _ c.loop.invariant.6 took.posted posted.posted c.pass.ensures,
    )
