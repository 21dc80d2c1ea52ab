use Rattle.crew_plans.proofs.Passes.{given_ok}
use Rattle.serve_crew.proofs.Begins.{all_none, all_then, begins_none, begins_then}
use Rattle.serve_crew.proofs.starting.begin_sessions.Goals as goal

pub loop-init : goal.loop-init
loop-init g c = record { begins = begins_none _ _ _ _ c.requires.crew c.requires.of; all = all_none _ _ _; given = λ h. h }

pub loop-preserved : goal.loop-preserved
loop-preserved g c =
    let i = c.loop.invariant in
    let b = c.begin_outside.ensures in
    let ok = c.in_ok-begin_outside.ensures in
    record {
      begins = begins_then i.begins i.all.goes b.begins;
      all = all_then i.all b.begins ok.all;
      given = λ h. given_ok _ _ _ ok.spent (i.given h);
    }

pub returns-in_err-begin_outside-clause-begins : goal.returns-in_err-begin_outside-clause-begins
returns-in_err-begin_outside-clause-begins g c = begins_then c.loop.invariant.begins c.loop.invariant.all.goes c.begin_outside.ensures.begins
