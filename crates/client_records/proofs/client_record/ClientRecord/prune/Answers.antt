use Rattle.std.proofs.Common.{◌≡◌, ap, sym, ◌∙◌}
use Rattle.std.specs.Prelude.{true}
use Rattle.std.specs.Cmp.Lexicographic.{slice_cmp}
use Rattle.std.specs.List.Sorted.{IsStrictlySortedBy}
use Rattle.std.specs.Ordering.{nat_cmp}
use Rattle.core_model.specs.Names.{Name, names_of, without_all}
use Rattle.core_model.specs.Spread.{AreIn}
use Rattle.core_model.specs.View.{View, dropped_of, is_in}
use Rattle.page_plan.specs.Renewals.{IsClosed}
use Rattle.client_queue.specs.Queue.{is_marked, knows}
use Rattle.std.proofs.Math.Path.{subst}
use Rattle.client_records.specs.Forgotten.{Forgotten}
use Rattle.client_records.specs.Inside.{AreCounted, kept_of}
use Rattle.client_records.specs.Record.{IsRecord}
use Rattle.client_records.proofs.Pruning.{none_dropped, left_closed, prune_so, left_rises, left_counted, left_known, left_marked, left_forced}
use Rattle.client_records.proofs.client_record.ClientRecord.prune.Goals as goal

pub returns-clause-stands : goal.returns-clause-stands
returns-clause-stands c = λ s d h. prune_so s d (kept_of c.self.inside) c.args.self.now c.as_slice.result.now c.replace-names.new.dest c.drop_names.new.self c.forget.new.queue (subst (IsRecord s d) (sym c.self.view_is) h) c.self.view_is
    (c.as_slice.ensures ∙ c.replace-names.ensures.value) c.drop_names.ensures (subst (λ l. Forgotten l c.self.inside.queue c.forget.new.queue) (c.as_slice-2.ensures ∙ sym c.as_slice.ensures) c.forget.ensures) (c.replace-names.ensures.after ∙ c.new.ensures)

pub invariant_of-self : goal.invariant_of-self
invariant_of-self c =
    let names = c.as_slice.result.now in
    let view = c.self.inside.view in
    let roots = c.self.inside.roots in
    let left : c.drop_names.new.self ≡ without_all (dropped_of view roots) view =
    c.drop_names.ensures ∙ ap (λ l. without_all l view) (c.as_slice.ensures ∙ c.replace-names.ensures.value ∙ c.self.invariant.dropped) in
    let gone : Forgotten names c.self.inside.queue c.forget.new.queue = subst (λ l. Forgotten l c.self.inside.queue c.forget.new.queue) (c.as_slice-2.ensures ∙ sym c.as_slice.ensures) c.forget.ensures in
    record {
      rising = subst (λ (v : View). IsStrictlySortedBy (slice_cmp nat_cmp) (names_of v)) (sym c.drop_names.ensures) (left_rises names view c.self.invariant.rising);
      counted = subst AreCounted (sym c.drop_names.ensures) (left_counted names view c.self.invariant.counted);
      staged = c.self.invariant.staged;
      batches = c.self.invariant.batches;
      forced = subst (AreIn c.forget.new.queue.forced) (sym c.drop_names.ensures) (left_forced names view c.self.inside.queue c.forget.new.queue gone c.self.invariant.forced);
      known = subst (λ (v : View). (n : Name) → is_in v n ≡ true → knows c.forget.new.queue n ≡ true) (sym c.drop_names.ensures) (left_known names view c.self.inside.queue c.forget.new.queue gone c.self.invariant.known);
      marked = subst (λ (v : View). (n : Name) → is_marked c.forget.new.queue n ≡ true → is_in v n ≡ true) (sym c.drop_names.ensures) (left_marked names view c.self.inside.queue c.forget.new.queue gone c.self.invariant.marked);
      closed = λ loaded. subst (IsClosed roots) (sym left) (left_closed view roots (c.self.invariant.closed loaded));
      dropped = c.replace-names.ensures.after ∙ c.new.ensures ∙ sym (ap (λ (v : View). dropped_of v roots) left ∙ none_dropped view roots);
    }
