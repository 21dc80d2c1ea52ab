use Rattle.std.proofs.Common.{sym}
use Rattle.std.proofs.Math.Path.{subst}
use Rattle.client_records.specs.Inside.{kept_of}
use Rattle.client_records.specs.Record.{IsRecord}
use Rattle.client_records.proofs.Changes.{rests_so}
use Rattle.client_records.proofs.client_record.ClientRecord.at_rest.Goals as goal

pub returns : goal.returns
returns c = λ s d h. rests_so s d (kept_of c.self.inside) c.all_of.result c.is_idle.result c.none_left.result c.is_clear-clear.result (subst (IsRecord s d) (sym c.self.view_is) h)
    c.is_clear-clear.ensures.marked c.all_of.ensures c.is_idle.ensures c.none_left.ensures c.is_clear-clear.ensures.clear
