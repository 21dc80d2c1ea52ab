use Rattle.std.proofs.Common.{sym}
use Rattle.std.proofs.Math.Path.{subst}
use Rattle.client_records.specs.Inside.{kept_of}
use Rattle.client_records.specs.Record.{IsRecord}
use Rattle.client_records.proofs.Aborting.{aborted_stands}
use Rattle.client_records.proofs.client_record.ClientRecord.aborted.Goals as goal

pub returns-clause-stands : goal.returns-clause-stands
returns-clause-stands c = λ i d h.
    let r = subst (IsRecord c.args._sources.now d) (sym c.self.view_is) h in
    aborted_stands d.page.plan c.args._sources.now d (kept_of c.self.inside) c.hold.new.self r.plan
    c.if-is_none.ensures r c.hold.ensures
