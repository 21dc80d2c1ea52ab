use Rattle.std.proofs.Common.{◌≡◌, refl}
use Rattle.sessions.specs.declared.ended.Ended.TheVariants.{LinkFault, Stopped}
use Rattle.client_jobs.specs.ClientSessions.{opening_of}
use Rattle.client_jobs.proofs.Clients.{never_stopped, rose_some, told_in}
use Rattle.client_jobs.proofs.client.ClientJob.work.Goals as goal

pub client_session-told-requires-clause-untaken : goal.client_session-told-requires-clause-untaken
client_session-told-requires-clause-untaken g c = (opening_of c.args.self.opening, c.runtime-runtime.ensures.stands)

pub returns : goal.returns
returns g c =
    let told = c.client_session-told.result in
    let e = c.client_session-told.ensures in
    let opening = opening_of c.args.self.opening in
    let course = e.course opening c.runtime-runtime.ensures.stands in
    record {
      ends = record {
        shut = e.shut;
        faulty = λ f. let ended : told.0 ≡ LinkFault = cc in rose_some _ _ (e.failed ended);
        unstopped = λ f. let ended : told.0 ≡ Stopped = cc in never_stopped opening _ _ _ _ _ _ _ _ course ended;
        worked_is = refl;
      };
      tells = record {
        course = told_in opening _ _ _ _ _ _ _ _ _ c.runtime-runtime.ensures.format course;
        later = e.later;
        failed = e.failed;
      };
    }
