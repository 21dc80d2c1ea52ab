use Rattle.std.proofs.Common.{◌≡◌, ◌≤◌, ◌+◌, ℕ, List, drop, length, sym, ◌∙◌}
use Rattle.std.proofs.Math.Path.{subst}
use Rattle.core_model.specs.Names.{Name}
use Rattle.core_model.specs.View.{View}
use Rattle.page_plan.specs.Renewals.{adds_present}
use Rattle.page_plan.proofs.Growing.{adds_end, adds_kept_one, adds_one, there_found, within_first}
use Rattle.page_plan.proofs.renewal.adds_present.Goals as goal
use Rattle.page_plan.proofs.renewal.adds_present.Goals.{then-is_at, else-is_at+else-is_none}

-- the name was listed before, or the page has its module
pub loop-name-preserved : goal.loop-name-preserved
loop-name-preserved c =
    let view : View = c.args.view.now in
    let before : List Name = c.args.before.now in
    let names : List Name = c.args.names.now in
    let i = c.loop-name.name-index in
    let j = c.loop-name.kept in
    let x = c.name-item.result in
    elim c.if-is_at.branch [
      | then-is_at w ↦
          let first = sym c.is_at.ensures ∙ w.if-is_at.true in
          subst (λ (k : ℕ). (adds_present view (drop k before) (drop (i + 1) names) ≡ adds_present view before names) × (k ≤ length before)) (sym w.kept-is)
          (adds_kept_one view before names i j x c.loop-name-test.true c.name-item.is c.loop-name.invariant.0 first, within_first before j x first)
      | else-is_at+else-is_none w ↦
          subst (λ (k : ℕ). (adds_present view (drop k before) (drop (i + 1) names) ≡ adds_present view before names) × (k ≤ length before)) (sym w.kept-is)
          (adds_one view before names i j x c.loop-name-test.true c.name-item.is c.loop-name.invariant.0 (sym c.is_at.ensures ∙ w.if-is_at.false) (there_found view x _ w.get.result w.is_none.result w.get.ensures w.is_none.ensures w.if-is_none.false), c.loop-name.invariant.1)
    ]

pub returns : goal.returns
returns c = adds_end c.args.view.now c.args.before.now c.args.names.now c.loop-name.name-index c.loop-name.kept c.loop-name-test.false c.loop-name.auto.name-index-end c.loop-name.invariant.1 c.loop-name.invariant.0
