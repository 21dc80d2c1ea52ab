use Rattle.std.proofs.Common.{refl}
use Rattle.client_jobs.proofs.client.ClientJob.give_up.Goals as goal

pub returns : goal.returns
returns g c =
    let e = c.close.ensures in
    record {
      ends = record { shut = e.shut; faulty = λ e. cc; unstopped = λ e. cc; worked_is = refl };
      tells = record { left = e.left; sent = e.sent; faults = e.faults };
    }
