use Rattle.std.proofs.Common.{◌≡◌, ◌+◌, ◌∷◌, ap, sym, drop, ◌∙◌}
use Rattle.std.proofs.lemmas.List.{drop_more}
use Rattle.core_model.specs.Names.{names_of}
use Rattle.core_model.specs.Page.{entry_at}
use Rattle.client_plan.specs.Renewing.{put_versions}
use Rattle.client_plan.proofs.Versions.{version_named}
use Rattle.client_plan.proofs.renewing.renew_rows.Goals as goal

pub loop-name-preserved : goal.loop-name-preserved
loop-name-preserved c =
    let get = entry_at c.args.plan.now c.args.view.now in
    let name = c.name-item.result in
    let rows = c.loop-name.rows.items in
    let more : drop c.loop-name.name-index c.args.names.now ≡ name ∷ drop (c.loop-name.name-index + 1) c.args.names.now =
    drop_more c.args.names.now c.loop-name.name-index name c.loop-name-test.true ∙ ap (λ n. n ∷ drop (c.loop-name.name-index + 1) c.args.names.now) (sym c.name-item.is) in
    record {
      named = ap names_of c.renew_row.ensures ∙ version_named name (get name) rows ∙ c.loop-name.invariant.named;
      left = ap (put_versions get (drop (c.loop-name.name-index + 1) c.args.names.now)) c.renew_row.ensures ∙ ap (λ ns. put_versions get ns rows) (sym more) ∙ c.loop-name.invariant.left;
    }
