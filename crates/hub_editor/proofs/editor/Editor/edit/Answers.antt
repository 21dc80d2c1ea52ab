use Rattle.std.proofs.Common.{rules, ◌≡◌, ◌++◌, ◌∷◌, [], ap, sym, ◌∙◌, subst}
use Rattle.hub_editor.specs.Editing.{Edited}
use Rattle.hub_editor.proofs.Steps.{edited_placed, edited_went, fronted_none, fronted_one, step_edit, stopped_none, stopped_one}
use Rattle.hub_editor.proofs.editor.Editor.edit.Goals as goal

pub returns-in_err-reserve-clause-front : goal.returns-in_err-reserve-clause-front
returns-in_err-reserve-clause-front g c = fronted_none _ _ _ c.reserve.ensures.items

pub returns-in_err-work-clause-edited : goal.returns-in_err-work-clause-edited
returns-in_err-work-clause-edited g c = λ p x.
    subst (λ ms. Edited p c.told_work.new.pass ms) (sym c.reserve.ensures.items) (edited_went p c.args.pass.now c.told_work.new.pass c.args.self.now.works.items x c.in_err-work.ensures.untold)

pub returns-in_err-work-clause-front : goal.returns-in_err-work-clause-front
returns-in_err-work-clause-front g c = fronted_none _ _ _ c.reserve.ensures.items

pub returns-clause-edited : goal.returns-clause-edited
returns-clause-edited g c = λ p x.
    let e : c.push_reserved.new.self.items ≡ c.args.self.now.works.items ++ c.place-placed.new.self ∷ [] =
    c.push_reserved.ensures.items ∙ ap (λ ms. ms ++ c.place-placed.new.self ∷ []) c.reserve.ensures.items in
    subst (λ ms. Edited p c.place-placed.new.pass ms) (sym e)
    (edited_placed p c.args.pass.now c.told_work.new.pass c.place-placed.new.pass c.args.self.now.works.items c.in_ok-work.work c.place-placed.new.self c.requires.going x
    c.in_ok-work.ensures.unworked c.in_ok-work.ensures.told c.place-placed.ensures.steps)

pub returns-clause-front : goal.returns-clause-front
returns-clause-front g c =
    fronted_one _ _ c.place-placed.new.self _ (c.push_reserved.ensures.items ∙ ap (λ ms. ms ++ c.place-placed.new.self ∷ []) c.reserve.ensures.items)
    ((step_edit c.place-placed.ensures.steps).0 ∙ c.in_ok-work.ensures.edit)

pub returns-in_err-reserve-clause-stopped : goal.returns-in_err-reserve-clause-stopped
returns-in_err-reserve-clause-stopped g c = stopped_none c.from_residual.result _ _ _ c.reserve.ensures.items (search rules)

pub returns-in_err-work-clause-stopped : goal.returns-in_err-work-clause-stopped
returns-in_err-work-clause-stopped g c = stopped_none c.from_residual-in_err-work.result _ _ _ c.reserve.ensures.items (search rules)

pub returns-clause-stopped : goal.returns-clause-stopped
returns-clause-stopped g c =
    stopped_one c.place-placed.result _ _ c.place-placed.new.self _ (c.push_reserved.ensures.items ∙ ap (λ ms. ms ++ c.place-placed.new.self ∷ []) c.reserve.ensures.items)
    ((step_edit c.place-placed.ensures.steps).0 ∙ c.in_ok-work.ensures.edit) c.place-placed.ensures.stopped
