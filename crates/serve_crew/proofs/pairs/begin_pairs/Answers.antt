use Rattle.std.proofs.Common.{subst, sym}
use Rattle.client_jobs.specs.Clients.{IsReady}
use Rattle.crew_plans.proofs.Passes.{given_ok}
use Rattle.serve_crew.proofs.Begins.{all_none, all_then, begins_none, begins_then}
use Rattle.serve_crew.proofs.pairs.begin_pairs.Goals as goal

pub loop-place-init : goal.loop-place-init
loop-place-init g c = record {
  begins = begins_none _ _ _ _ c.requires.crew c.requires.of;
  all = all_none _ _ _;
  given = λ h. h;
  hosts = c.requires.hosts;
}

pub loop-place-preserved : goal.loop-place-preserved
loop-place-preserved g c =
    let i = c.loop-place.invariant in
    let b = c.begin_pair.ensures in
    let ok = c.in_ok-begin_pair.ensures in
    record {
      begins = begins_then i.begins i.all.goes b.begins;
      all = all_then i.all b.begins ok.all;
      given = λ h. given_ok _ _ _ ok.spent (i.given h);
      hosts = c.take_shelf-shelf.ensures.left i.hosts;
    }

pub begin_pair-requires-clause-ready : goal.begin_pair-requires-clause-ready
begin_pair-requires-clause-ready g c κs within =
    subst (λ shelf. IsReady {F = g.row.F.Denot} _ _ shelf) (sym c.new-opening.ensures.shelf) (record { hosts = c.take_shelf-shelf.ensures.taken c.loop-place.invariant.hosts; call = c.requires.callable })

pub returns-in_err-begin_pair-clause-begins : goal.returns-in_err-begin_pair-clause-begins
returns-in_err-begin_pair-clause-begins g c = begins_then c.loop-place.invariant.begins c.loop-place.invariant.all.goes c.begin_pair.ensures.begins
