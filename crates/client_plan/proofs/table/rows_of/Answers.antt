use Rattle.std.proofs.Common.{◌≡◌, ◌∙◌, ◌++◌, ◌∷◌, [], ap, arith, length}
use Rattle.std.specs.Prelude.{slice_get}
use Rattle.page_plan.proofs.Comparing.{rows_more, rows_all}
use Rattle.client_plan.proofs.table.rows_of.Goals as goal

pub loop-name-preserved : goal.loop-name-preserved
loop-name-preserved c =
    let here : c.len.result ≡ length c.loop-name.rows.items = omega (arith, c.len.ensures) in
    rows_more c.args.view.now c.loop-name.rows.items c.push.new.self.items c.in-Some.name.now _ c.loop-name.invariant (c.in-Some.ensures ∙ ap (slice_get c.args.view.now) here)
    (c.in_ok-push-in-Some.ensures.items ∙ ap (λ n. c.loop-name.rows.items ++ (n, c.in-Some.version) ∷ []) c.in_ok-copy_name-in-Some.ensures)

pub returns-in-None : goal.returns-in-None
returns-in-None c =
    let here : c.len.result ≡ length c.loop-name.rows.items = omega (arith, c.len.ensures) in
    rows_all c.args.view.now c.loop-name.rows.items c.loop-name.invariant (c.in-None.ensures ∙ ap (slice_get c.args.view.now) here)
