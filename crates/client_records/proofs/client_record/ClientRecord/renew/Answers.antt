use Rattle.std.proofs.Common.{◌≡◌, List, [], true, ap, sym, ◌∙◌}
use Rattle.std.specs.Prelude.{None}
use Rattle.std.specs.Cmp.Lexicographic.{slice_cmp}
use Rattle.std.specs.List.Sorted.{IsStrictlySortedBy}
use Rattle.std.specs.Ordering.{nat_cmp}
use Rattle.std.proofs.Math.Path.{subst}
use Rattle.core_model.specs.Names.{Name, names_of}
use Rattle.core_model.specs.View.{View, dropped_of, is_in}
use Rattle.page_plan.specs.Renewals.{IsClosed, put_all}
use Rattle.client_queue.specs.Queue.{Queue, is_marked, knows}
use Rattle.page_marks.specs.Marks.{AreRenewed}
use Rattle.client_records.specs.InPlace.{IsInPlace}
use Rattle.client_records.specs.Inside.{AreCounted, kept_of}
use Rattle.client_records.specs.Made.{HasMade}
use Rattle.client_records.specs.Record.{IsRecord, Kept}
use Rattle.client_records.proofs.InPlace.{closed_in_place, counted_in_place, dropped_in_place, first_alike, first_same, has_made, known_in_place, marked_in_place, none_in_queue, queue_is, rising_in_place}
use Rattle.client_records.proofs.client_record.ClientRecord.renew.Goals as goal

pub put_in_place-requires : goal.put_in_place-requires
put_in_place-requires c =
    let k : Kept = kept_of c.self.inside in
    let names = c.args.renewal.names.items in
    let rows = c.args.renewal.rows.items in
    let w : IsInPlace k names rows = subst (λ (x : Kept). IsInPlace x names rows) (sym c.self.view_is) c.requires in
    first_alike k names rows w c.deref.result.now c.put_first.new.view c.deref.ensures.value c.in_ok-put_first.ensures.ok

pub returns-clause-made : goal.returns-clause-made
returns-clause-made c = λ d h.
    let k : Kept = kept_of c.self.inside in
    let s = c.args.sources.now in
    let names = c.args.renewal.names.items in
    let rows = c.args.renewal.rows.items in
    let w : IsInPlace k names rows = subst (λ (x : Kept). IsInPlace x names rows) (sym c.self.view_is) c.requires in
    let placed : c.put_in_place.new.view ≡ put_all rows k.view = first_same k names rows w c.deref.result.now c.put_first.new.view c.put_in_place.new.view c.deref.ensures.value c.in_ok-put_first.ensures.ok c.put_in_place.ensures in
    let f : AreRenewed names (put_all rows k.view) s k.queue c.renew_all.new.queue =
    subst (λ (l : List Name). AreRenewed l (put_all rows k.view) s k.queue c.renew_all.new.queue) c.deref-2.ensures.value
    (subst (λ (v : View). AreRenewed c.deref-2.result.now v s k.queue c.renew_all.new.queue) placed c.renew_all.ensures) in
    subst (λ (x : Kept). HasMade s (put_all rows x.view) x (record k { view = c.put_in_place.new.view; queue = c.release.new.self; plan = None })) c.self.view_is
    (subst (λ (v : View). HasMade s (put_all rows k.view) k (record k { view = v; queue = c.release.new.self; plan = None })) (sym placed)
    (has_made k names rows w s c.renew_all.new.queue f c.self.invariant.known c.unforce_all.new.self c.release.new.self c.unforce_all.ensures c.release.ensures d (subst (IsRecord s d) (sym c.self.view_is) h) c.self.invariant.dropped))

pub invariant_of-self-2 : goal.invariant_of-self-2
invariant_of-self-2 c =
    let k : Kept = kept_of c.self.inside in
    let s = c.args.sources.now in
    let names = c.args.renewal.names.items in
    let rows = c.args.renewal.rows.items in
    let i = c.self.invariant in
    let w : IsInPlace k names rows = subst (λ (x : Kept). IsInPlace x names rows) (sym c.self.view_is) c.requires in
    let placed : c.put_in_place.new.view ≡ put_all rows k.view = first_same k names rows w c.deref.result.now c.put_first.new.view c.put_in_place.new.view c.deref.ensures.value c.in_ok-put_first.ensures.ok c.put_in_place.ensures in
    let f : AreRenewed names (put_all rows k.view) s k.queue c.renew_all.new.queue =
    subst (λ (l : List Name). AreRenewed l (put_all rows k.view) s k.queue c.renew_all.new.queue) c.deref-2.ensures.value
    (subst (λ (v : View). AreRenewed c.deref-2.result.now v s k.queue c.renew_all.new.queue) placed c.renew_all.ensures) in
    let queue : c.release.new.self ≡ record k.queue { known = c.renew_all.new.queue.known; forced = []; held = None } =
    queue_is k names rows w s c.renew_all.new.queue f i.known c.unforce_all.new.self c.release.new.self c.unforce_all.ensures c.release.ensures in
    let view = sym placed in
    record {
      rising = subst (λ (v : View). IsStrictlySortedBy (slice_cmp nat_cmp) (names_of v)) view (rising_in_place k names rows w i.rising i.closed i.dropped);
      counted = subst AreCounted view (counted_in_place k names rows w i.rising i.closed i.dropped i.counted i.staged);
      staged = tt;
      batches = i.batches;
      forced = none_in_queue c.put_in_place.new.view c.release.new.self (ap (λ (q : Queue). q.forced) queue);
      known = subst (λ (v : View). (n : Name) → is_in v n ≡ true → knows c.release.new.self n ≡ true) view
          (λ n t. ap (λ (q : Queue). knows q n) queue ∙ known_in_place k names rows w s c.renew_all.new.queue f i.known n t);
      marked = subst (λ (v : View). (n : Name) → is_marked c.release.new.self n ≡ true → is_in v n ≡ true) view
          (λ n t. marked_in_place k names rows w s c.renew_all.new.queue f i.known i.marked n (sym (ap (λ (q : Queue). is_marked q n) queue) ∙ t));
      closed = λ loaded. subst (IsClosed k.roots) view (closed_in_place k names rows w i.rising i.closed i.dropped);
      dropped = dropped_in_place k names rows w i.rising i.closed i.dropped ∙ ap (λ (v : View). dropped_of v k.roots) view;
    }
