use Rattle.std.proofs.Common.{◌≡◌, List, sym, ◌∙◌}
use Rattle.std.proofs.Math.Path.{subst}
use Rattle.core_model.specs.Names.{Name}
use Rattle.core_model.specs.Spread.{AreIn}
use Rattle.client_records.specs.Inside.{kept_of}
use Rattle.client_records.specs.Record.{Kept, IsRecord}
use Rattle.client_records.specs.Steps.{IsFor, IsTellable, due_row, row_of, triggered_by}
use Rattle.client_records.proofs.Rows.{due_is, for_names, marked_are, marked_in, tells}
use Rattle.client_records.proofs.client_record.ClientRecord.due.Goals as goal

pub spread-requires-clause-changed : goal.spread-requires-clause-changed
spread-requires-clause-changed c = subst (λ (l : List Name). AreIn l c.self.inside.view) (sym c.deref.ensures.value)
    (marked_in c.self.inside.view c.self.inside.queue c.in_ok-changed.changed.items c.in_ok-changed.ensures.names c.self.invariant.marked)

pub spread-requires-clause-forced : goal.spread-requires-clause-forced
spread-requires-clause-forced c = subst (λ (l : List Name). AreIn l c.self.inside.view) (sym (c.deref-2.ensures.value ∙ c.in_ok-forced.ensures.names)) c.self.invariant.forced

pub returns-clause-row : goal.returns-clause-row
returns-clause-row c = λ s d h dropped.
    let k = kept_of c.self.inside in
    let r : IsRecord s d k = subst (IsRecord s d) (sym c.self.view_is) h in
    let changed = c.deref.ensures.value ∙ marked_are s d k c.in_ok-changed.changed.items r c.self.invariant.rising c.in_ok-changed.ensures.rising c.in_ok-changed.ensures.names in
    subst (λ (x : Kept). row_of dropped c.row_for.result ≡ due_row s x) c.self.view_is
    (c.row_for.ensures.row dropped ∙ due_is s k c.as_slice.result.now c.deref.result.now c.deref-2.result.now _ c.in_ok-spread.spread.replaced c.in_ok-spread.spread.pairs c.as_slice.ensures changed (c.deref-2.ensures.value ∙ c.in_ok-forced.ensures.names) c.in_ok-spread.ensures.reason_computed c.in_ok-spread.ensures.replaced_computed c.in_ok-spread.ensures.pairs_computed)

pub returns-clause-names : goal.returns-clause-names
returns-clause-names c = λ s d h.
    let k = kept_of c.self.inside in
    let r : IsRecord s d k = subst (IsRecord s d) (sym c.self.view_is) h in
    subst (λ (x : Kept). IsFor c.row_for.result (triggered_by s x)) c.self.view_is
    (subst (IsFor c.row_for.result) (for_names s k c.in_ok-triggered.triggered c.in_ok-changed.changed.items c.deref-3.result.now c.in_ok-triggered.ensures
    (marked_are s d k c.in_ok-changed.changed.items r c.self.invariant.rising c.in_ok-changed.ensures.rising c.in_ok-changed.ensures.names)
    (c.deref-3.ensures.value ∙ c.in_ok-forced.ensures.names)) c.row_for.ensures.names)

pub returns-clause-tellable : goal.returns-clause-tellable
returns-clause-tellable c = subst (λ (x : Kept). IsTellable x.view c.row_for.result) c.self.view_is
    (c.row_for.ensures.tellable c.self.inside.view (tells c.self.inside.view c.as_slice.result.now c.deref.result.now c.deref-2.result.now c.in_ok-spread.spread.reload c.in_ok-spread.ensures.cause c.in_ok-spread.ensures.reason))
