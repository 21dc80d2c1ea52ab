use Rattle.std.proofs.Common.{◌≡◌, drop}
use Rattle.core_model.specs.Names.{names_of}
use Rattle.core_model.specs.Page.{entry_at}
use Rattle.client_plan.specs.Renewing.{put_versions}
use Rattle.client_plan.proofs.renewing.renew_rows.Given as goal

-- the rows are those of the modules, and what is left is put in
abbrev pub invariant-loop-name : goal.invariant-loop-name
invariant-loop-name l = record {
  named : names_of l.rows.items ≡ names_of l.view;
  left : put_versions (entry_at l.plan l.view) (drop l.name-index l.names) l.rows.items ≡ put_versions (entry_at l.plan l.view) l.names l.fn.rows.items;
}
