use Rattle.client_jobs.proofs.Clients.{end_cause}
use Rattle.crew_plans.proofs.Faults.{gathers_taken}
use Rattle.client_jobs.proofs.finishing.finish_one_client.Goals as goal

pub returns-clause-gathers : goal.returns-clause-gathers
returns-clause-gathers g c =
    let end = c.finish_client-end in
    gathers_taken _ _ _ _ _ _ _ _ _ _ _ c.take_client.ensures.taken c.take_client.ensures.later end.ensures.later
    (end_cause end.result.told _ _ _ _ _ end.ensures.ended.1.faulty c.take_client.ensures.rose end.ensures.failed)
