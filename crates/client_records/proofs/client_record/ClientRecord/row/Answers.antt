use Rattle.std.proofs.Common.{◌≡◌, List, ◌∙◌, ap}
use Rattle.std.proofs.Math.Path.{subst}
use Rattle.std.proofs.lemmas.Result.{IfOk-weaker}
use Rattle.core_model.specs.Names.{Name}
use Rattle.client_records.specs.declared.row.Row.{Row}
use Rattle.core_model.specs.Client.{same_number}
use Rattle.client_records.specs.Inside.{kept_of}
use Rattle.client_records.specs.Record.{Kept}
use Rattle.client_records.specs.Steps.{due_row, next_row, row_of, triggered_by}
use Rattle.client_records.proofs.Rows.{row_none, row_some, some_for}
use Rattle.client_records.proofs.client_record.ClientRecord.row.Goals as goal

pub returns-in-Some-clause-row : goal.returns-in-Some-clause-row
returns-in-Some-clause-row c = λ d h.
    subst (λ (x : Kept). row_of x.dropped c.in-Some.row ≡ next_row c.args.sources.now x) c.self.view_is
    (row_some c.args.sources.now (kept_of c.self.inside) c.is_held-held.result c.none_left-undropped.result c.before-2.result c.in-Some.row c.before-2.ensures
    (c.is_held-held.ensures ∙ ap (λ o. same_number o c.served_no.result) c.held.ensures ∙ ap (same_number c.self.inside.queue.held) c.served_no.ensures) c.none_left-undropped.ensures c.in-Some.is)

pub returns-in-Some-clause-names : goal.returns-in-Some-clause-names
returns-in-Some-clause-names c = λ d h.
    (some_for c.self.inside.loaded c.is_held-held.result c.none_left-undropped.result c.before-2.result c.in-Some.row (triggered_by c.args.sources.now c.args.self.now) c.self.inside.view c.before-2.ensures c.in-Some.is).0

pub returns-in-Some-clause-tellable : goal.returns-in-Some-clause-tellable
returns-in-Some-clause-tellable c =
    (some_for c.self.inside.loaded c.is_held-held.result c.none_left-undropped.result c.before-2.result c.in-Some.row (triggered_by c.args.sources.now c.args.self.now) c.args.self.now.view c.before-2.ensures c.in-Some.is).1

pub returns-in-None-clause-row : goal.returns-in-None-clause-row
returns-in-None-clause-row c = λ d h.
    let s = c.args.sources.now in
    let none = subst (λ (x : Kept). due_row s x ≡ next_row s x) c.self.view_is
    (row_none s (kept_of c.self.inside) c.is_held-held.result c.none_left-undropped.result c.before-2.result c.before-2.ensures
    (c.is_held-held.ensures ∙ ap (λ o. same_number o c.served_no.result) c.held.ensures ∙ ap (same_number c.self.inside.queue.held) c.served_no.ensures) c.none_left-undropped.ensures c.in-None.is) in
    IfOk-weaker c.due.result (λ (row : Row). (dropped : List Name) → row_of dropped row ≡ due_row s c.args.self.now) (λ (row : Row). row_of c.args.self.now.dropped row ≡ next_row s c.args.self.now)
    (λ row f. f c.args.self.now.dropped ∙ none) (c.due.ensures.row s d h)

pub returns-in-None-clause-names : goal.returns-in-None-clause-names
returns-in-None-clause-names c = λ d h. c.due.ensures.names c.args.sources.now d h
