use Rattle.std.proofs.Common.{◌∙◌, arith}
use Rattle.crew_plans.proofs.Counts.{begun_in_all}
use Rattle.crew_plans.proofs.Faults.{unfaulted}
use Rattle.crew_plans.proofs.Passes.{given_ok, on_ok}
use Rattle.serve_crew.proofs.Begins.{all_as, all_then, begins_then}
use Rattle.serve_crew.proofs.beginning.begin_all.Goals as goal

pub returns-in_err-begin_pairs-clause-begins : goal.returns-in_err-begin_pairs-clause-begins
returns-in_err-begin_pairs-clause-begins g c = begins_then c.begin_workers.ensures.begins c.in_ok-begin_workers.ensures.all.goes c.begin_pairs.ensures.begins

pub returns-clause-begins : goal.returns-clause-begins
returns-clause-begins g c =
    let w = c.begin_workers.ensures.begins in
    let p = c.begin_pairs.ensures.begins in
    let before = c.in_ok-begin_workers.ensures.all in
    begins_then (begins_then w before.goes p) (c.in_ok-begin_pairs.ensures.all.goes ∙ before.goes) c.begin_sessions.ensures.begins

pub returns-clause-all : goal.returns-clause-all
returns-clause-all g c =
    on_ok c.begin_sessions.result
    (λ all. all_as (omega arith) (omega arith) (omega arith)
    (all_then (all_then c.in_ok-begin_workers.ensures.all c.begin_pairs.ensures.begins c.in_ok-begin_pairs.ensures.all) c.begin_sessions.ensures.begins all))
    c.begin_sessions.ensures.all

pub returns-clause-begun : goal.returns-clause-begun
returns-clause-begun g c =
    on_ok c.begin_sessions.result
    (λ all well.
    let before = unfaulted _ _ _ _ _ _ c.begin_sessions.ensures.begins.gathers well in
    begun_in_all _ _ _ _ _ _ _ c.requires.none
    (c.in_ok-begin_workers.ensures.all.begun (unfaulted _ _ _ _ _ _ c.begin_pairs.ensures.begins.gathers before)) (c.in_ok-begin_pairs.ensures.all.begun before) (all.begun well))
    c.begin_sessions.ensures.all

pub returns-clause-spent : goal.returns-clause-spent
returns-clause-spent g c =
    λ h. c.begin_sessions.ensures.spent (given_ok _ _ _ c.in_ok-begin_pairs.ensures.spent (given_ok _ _ _ c.in_ok-begin_workers.ensures.spent h))
