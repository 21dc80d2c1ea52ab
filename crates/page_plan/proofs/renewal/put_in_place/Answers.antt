use Rattle.std.proofs.Common.{arith, ◌≡◌, ◌++◌, ◌∷◌, [], ap, sym, ◌∙◌}
use Rattle.std.proofs.Math.Path.{subst}
use Rattle.std.proofs.lemmas.Grind.{common_steps}
use Rattle.core_model.specs.View.{View}
use Rattle.page_plan.specs.Renewals.{AreAlike, put_all}
use Rattle.page_plan.proofs.Placing.{alike_last, put_last_first, still_alike}
use Rattle.page_plan.proofs.renewal.put_in_place.Goals as goal

pub renew-requires : goal.renew-requires
renew-requires c =
    let e : c.loop-row.rows.items ≡ c.pop.new.self.items ++ c.in-Some.row ∷ [] = grind (arith, common_steps) in
    (alike_last c.pop.new.self.items c.in-Some.row c.loop-row.view (subst (AreAlike c.loop-row.view) e c.loop-row.invariant.1)).0

pub loop-row-preserved : goal.loop-row-preserved
loop-row-preserved c =
    let rows = c.pop.new.self.items in
    let row = c.in-Some.row in
    let view = c.loop-row.view in
    let e : c.loop-row.rows.items ≡ rows ++ row ∷ [] = grind (arith, common_steps) in
    let q = alike_last rows row view (subst (AreAlike view) e c.loop-row.invariant.1) in (
      ap (put_all rows) c.renew.ensures ∙ sym (put_last_first rows row view) ∙ ap (λ l. put_all l view) (sym e) ∙ c.loop-row.invariant.0,
      subst (λ (v : View). AreAlike v rows) (sym c.renew.ensures) (still_alike row.0 row.1 view q.0 rows q.1),
    )

pub returns : goal.returns
returns c =
    let e : c.loop-row.rows.items ≡ [] = grind (arith, common_steps) in
    ap (λ l. put_all l c.loop-row.view) (sym e) ∙ c.loop-row.invariant.0
