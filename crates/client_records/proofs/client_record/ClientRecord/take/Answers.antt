use Rattle.std.proofs.Common.{◌≡◌, List, true, ap, sym, ◌∙◌}
use Rattle.std.specs.Prelude.{None}
use Rattle.std.proofs.Math.Path.{subst}
use Rattle.core_model.specs.Names.{Name, has}
use Rattle.core_model.specs.View.{dropped_of}
use Rattle.page_plan.specs.Renewals.{IsClosed}
use Rattle.client_queue.specs.Queue.{knows}
use Rattle.page_marks.specs.Marks.{AreRenewed}
use Rattle.page_marks.proofs.Renewing.{marked_made}
use Rattle.client_records.specs.Inside.{kept_of}
use Rattle.client_records.specs.Made.{HasMade}
use Rattle.client_records.specs.Record.{Kept}
use Rattle.client_records.proofs.Applying.{IsTaken, taken, none_forced}
use Rattle.client_records.proofs.client_record.ClientRecord.take.Goals as goal

pub returns-clause-made : goal.returns-clause-made
returns-clause-made c =
    let k : Kept = kept_of c.self.inside in
    let taken : IsTaken c.args.sources.now k c.args.made c.from_vec.result c.release.new.self = taken c.args.sources.now k c.args.made c.in_ok-names.names.items c.from_vec.result c.enter_all.new.queue c.renew_all.new.queue c.unforce_all.new.self c.release.new.self
    c.in_ok-names.ensures (c.from_vec.ensures ∙ c.in_ok-dropped.ensures.computed ∙ ap (dropped_of c.args.made) c.as_slice.ensures)
    c.self.invariant.marked c.enter_all.ensures.grown
    (subst (λ (l : List Name). (n : Name) → has l n ≡ true → knows c.enter_all.new.queue n ≡ true) c.deref.ensures.value c.in_ok-enter_all.ensures.known)
    (subst (λ (l : List Name). AreRenewed l c.args.made c.args.sources.now c.enter_all.new.queue c.renew_all.new.queue) c.deref-2.ensures.value c.renew_all.ensures)
    c.unforce_all.ensures c.release.ensures in
    subst (λ (x : Kept). HasMade c.args.sources.now c.args.made x (record k { loaded = true; view = c.args.made; queue = c.release.new.self; plan = None; dropped = c.from_vec.result })) c.self.view_is taken.page

pub invariant_of-self-2 : goal.invariant_of-self-2
invariant_of-self-2 c =
    let k : Kept = kept_of c.self.inside in
    let taken : IsTaken c.args.sources.now k c.args.made c.from_vec.result c.release.new.self = taken c.args.sources.now k c.args.made c.in_ok-names.names.items c.from_vec.result c.enter_all.new.queue c.renew_all.new.queue c.unforce_all.new.self c.release.new.self
    c.in_ok-names.ensures (c.from_vec.ensures ∙ c.in_ok-dropped.ensures.computed ∙ ap (dropped_of c.args.made) c.as_slice.ensures)
    c.self.invariant.marked c.enter_all.ensures.grown
    (subst (λ (l : List Name). (n : Name) → has l n ≡ true → knows c.enter_all.new.queue n ≡ true) c.deref.ensures.value c.in_ok-enter_all.ensures.known)
    (subst (λ (l : List Name). AreRenewed l c.args.made c.args.sources.now c.enter_all.new.queue c.renew_all.new.queue) c.deref-2.ensures.value c.renew_all.ensures)
    c.unforce_all.ensures c.release.ensures in
    record {
      rising = c.requires.rising;
      counted = c.requires.counted;
      staged = tt;
      batches = c.self.invariant.batches;
      forced = none_forced c.args.sources.now c.args.made k _ taken.page;
      known = taken.known;
      marked = marked_made c.args.made c.args.sources.now c.release.new.self taken.page.marks;
      closed = λ loaded. subst (λ (x : Kept). IsClosed x.roots c.args.made) (sym c.self.view_is) c.requires.closed;
      dropped = c.from_vec.ensures ∙ c.in_ok-dropped.ensures.computed ∙ ap (dropped_of c.args.made) c.as_slice.ensures;
    }
