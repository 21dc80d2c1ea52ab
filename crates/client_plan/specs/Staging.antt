-- A text that was fetched is kept: its entry in the plan, and its tree.
use Rattle.std.specs.Prelude.{◌≡◌, ℕ, List, Some, if◌then◌else◌}
use Rattle.module_tree.specs.declared.tree.Module.{Module}
use Rattle.core_model.specs.Names.{Name, at, same_name}
use Rattle.core_model.specs.Page.{Plan}
use Rattle.module_graph.specs.Entries.{put_entry}
use Rattle.client_plan.specs.declared.fetching.Parsed.{Parsed}

-- the plan has the entry of what was read, and the trees have its tree
pub record HasStaged (n : Name) (version : ℕ) (found : Parsed) (before : Plan) (old : List (Name × Module))
    (after : Plan) (new : List (Name × Module)) : Type 0 where
  pub plan : after ≡ record before {
    staged = put_entry n (record { version = version; analysis = found.analysis }) before.staged;
  }
  pub trees : (m : Name) → at new m ≡ (if same_name n m then Some found.tree else at old m)
