use Rattle.std.proofs.Common.{sym}
use Rattle.std.proofs.Math.Path.{subst}
use Rattle.client_records.specs.Inside.{kept_of}
use Rattle.client_records.specs.Record.{IsRecord}
use Rattle.client_records.proofs.Fetching.{fetch_stands}
use Rattle.client_records.proofs.client_record.ClientRecord.fetch.Goals as goal

pub returns-clause-stands : goal.returns-clause-stands
returns-clause-stands c = λ i d h. fetch_stands i c.args.sources.now d (kept_of c.self.inside) c.args.name c.in-Some.plan c.fetch_for.new.plan c.fetch_for.result (subst (IsRecord c.args.sources.now d) (sym c.self.view_is) h) c.in-Some.is c.fetch_for.ensures.plan
