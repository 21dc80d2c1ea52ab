use Rattle.std.proofs.Common.{sym}
use Rattle.std.proofs.Math.Path.{subst}
use Rattle.core_model.specs.Names.{at}
use Rattle.client_queue.specs.Queue.{MarkIs, mark_where_known}
use Rattle.client_records.specs.Inside.{kept_of}
use Rattle.client_records.specs.Record.{IsRecord}
use Rattle.client_records.proofs.Noticing.{change_stands}
use Rattle.client_records.proofs.client_record.ClientRecord.source_changed.Goals as goal

pub returns : goal.returns
returns c = λ s d h but. change_stands s c.args.sources.now d (kept_of c.self.inside) c.args.name.now c.set_mark.new.queue c.drop_notice.new.self (subst (IsRecord s d) (sym c.self.view_is) h)
    c.self.invariant.known but (subst (λ b. MarkIs c.args.name.now (mark_where_known b (at c.self.inside.queue.known c.args.name.now)) c.self.inside.queue c.set_mark.new.queue) c.differs-differs.ensures c.set_mark.ensures.mark) c.set_mark.ensures.kept c.drop_notice.ensures
