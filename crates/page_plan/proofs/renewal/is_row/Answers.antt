use Rattle.std.proofs.Common.{arith, ◌<◌, length, ap, sym, ◌∙◌}
use Rattle.std.specs.Prelude.{Some}
use Rattle.std.proofs.lemmas.Grind.{common_steps}
use Rattle.page_plan.proofs.Renewals.{placed_row, row_is}
use Rattle.page_plan.proofs.renewal.is_row.Goals as goal

pub returns-then-eq : goal.returns-then-eq
returns-then-eq c = λ t.
    let within : c.args.place < length c.args.rows.now = grind (arith, common_steps) in
    placed_row c.args.rows.now c.args.place c.in-Some.row.now within
    ∙ ap Some (sym c.in-Some.ensures.lookup.1 ∙ row_is c.in-Some.row.now c.args.name.now c.args.version (sym c.eq.ensures ∙ c.if-eq.true) t)
