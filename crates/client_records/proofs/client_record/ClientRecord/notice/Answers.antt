use Rattle.std.proofs.Common.{◌≤◌, sym}
use Rattle.std.proofs.Math.Path.{subst}
use Rattle.client_records.specs.Inside.{kept_of}
use Rattle.client_records.specs.Record.{Kept, IsRecord}
use Rattle.client_records.proofs.Noticing.{notice_stands, on_ok}
use Rattle.client_records.proofs.client_record.ClientRecord.notice.Goals as goal

pub returns : goal.returns
returns c = λ s d h. notice_stands s d (kept_of c.self.inside) c.args.name c.args.fault c.notice.new.self (subst (IsRecord s d) (sym c.self.view_is) h)
    (on_ok c.notice.result (c.notice.ensures.room (subst (λ (k : Kept). 1 ≤ k.queue.spare) (sym c.self.view_is) c.requires)) c.notice.ensures.ok)
