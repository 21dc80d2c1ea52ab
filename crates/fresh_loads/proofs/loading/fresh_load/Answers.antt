use Rattle.std.proofs.Common.{ℕ, ap, ◌∙◌}
use Rattle.std.specs.Prelude.{Option}
use Rattle.core_model.specs.Names.{Name, at, collect}
use Rattle.core_model.specs.FreshLoad.{version_in}
use Rattle.fresh_loads.proofs.Linking.{reached_closed}
use Rattle.fresh_loads.proofs.Rows.{rows_are_table}
use Rattle.fresh_loads.proofs.loading.fresh_load.Goals as goal

pub unwrap-table-requires : goal.unwrap-table-requires
unwrap-table-requires c =
    let get : Name → Option ℕ = λ n. version_in (at c.args.versions.now.served n) in
    c.of.ensures.table.1 (rows_are_table c.args.versions.now.served c.args.roots.now c.in_ok-names.names.items get c.in_ok-rows.rows.items c.in_ok-names.ensures (c.in_ok-rows.ensures.rows ∙ ap (collect get) c.deref.ensures.value) c.in_ok-rows.ensures.versions)

pub unlinked_names-requires : goal.unlinked_names-requires
unlinked_names-requires c = reached_closed c.args.versions.now.served c.args.roots.now _ (c.deref-3.ensures.value ∙ c.in_ok-names.ensures)
