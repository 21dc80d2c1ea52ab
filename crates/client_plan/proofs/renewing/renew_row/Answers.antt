use Rattle.std.proofs.Common.{ap, sym, ◌∙◌}
use Rattle.core_model.specs.Names.{names_of}
use Rattle.core_model.specs.View.{Entry}
use Rattle.client_plan.specs.Renewing.{put_version}
use Rattle.client_plan.proofs.Versions.{version_placed, version_unplaced}
use Rattle.client_plan.proofs.renewing.renew_row.Goals as goal

pub returns-in-Some-place : goal.returns-in-Some-place
returns-in-Some-place c =
    let name = c.args.name.now in
    let rows = c.args.rows.now.items in
    let e : Entry = record { version = c.in-Some.version; analysis = c.in-Some.field-0-1.now } in
    version_placed name e c.index_mut.result.now rows (names_of c.args.view.now) c.in-Some-place.place c.requires c.in-Some-place.ensures c.index_mut.ensures.value
    ∙ ap (λ o. put_version name o rows) c.in-Some.ensures

pub returns-in_default : goal.returns-in_default
returns-in_default c =
    let name = c.args.name.now in
    let rows = c.args.rows.now.items in
    let e : Entry = record { version = c.in-Some.version; analysis = c.in-Some.field-0-1.now } in
    sym (version_unplaced name e rows (names_of c.args.view.now) c.requires c.in_default.ensures) ∙ ap (λ o. put_version name o rows) c.in-Some.ensures
