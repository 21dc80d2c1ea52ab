use Rattle.std.proofs.Common.{◌≡◌, true, sym, ◌∙◌, ap}
use Rattle.std.specs.Prelude.{filter, find, is_some, not, option_map}
use Rattle.world_model.specs.World.{Job}
use Rattle.world_model.specs.Editing.{is_job}
use Rattle.world_parts.specs.Jobs.{issued_of}
use Rattle.world_parts.proofs.JobRows.{all_stay, none_found, left_is, named_at, text_at}
use Rattle.world_parts.proofs.jobs.Jobs.take.Goals as goal

pub returns-then-not-has-clause-text : goal.returns-then-not-has-clause-text
returns-then-not-has-clause-text c = ap (option_map (λ (j : Job). j.text)) (sym (none_found (is_job c.args.name.now c.args.version) c.args.self.now (sym c.has.ensures ∙ c.if-not-has.true)))

pub returns-then-not-has-clause-left : goal.returns-then-not-has-clause-left
returns-then-not-has-clause-left c = sym (all_stay (is_job c.args.name.now c.args.version) c.args.self.now (sym c.has.ensures ∙ c.if-not-has.true))

pub returns-clause-left : goal.returns-clause-left
returns-clause-left c =
    let v = c.args.version in
    let n = c.args.name.now in
    let rows = c.self.inside.rows.entries in
    let there : is_some (find (is_job n v) (issued_of rows)) ≡ true = ap (λ x. is_some (find (is_job n v) x)) c.self.view_is ∙ sym c.has.ensures ∙ c.if-not-has.false in
    ap issued_of c.remove.ensures.entries ∙ sym (left_is v n rows c.self.invariant (named_at v n rows c.self.invariant there)) ∙ ap (filter (λ j. not (is_job n v j))) c.self.view_is

pub returns-clause-text : goal.returns-clause-text
returns-clause-text c =
    let v = c.args.version in
    let n = c.args.name.now in
    let rows = c.self.inside.rows.entries in
    let there : is_some (find (is_job n v) (issued_of rows)) ≡ true = ap (λ x. is_some (find (is_job n v) x)) c.self.view_is ∙ sym c.has.ensures ∙ c.if-not-has.false in
    c.text_of.ensures ∙ ap (option_map (λ j. j.text.items)) c.remove.ensures.value ∙ sym (text_at v n rows c.self.invariant there) ∙ ap (λ x. option_map (λ (j : Job). j.text) (find (is_job n v) x)) c.self.view_is
