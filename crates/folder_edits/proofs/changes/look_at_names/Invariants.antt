use Rattle.std.proofs.Common.{◌≡◌, true, take}
use Rattle.std.specs.Prelude.{All}
use Rattle.hmr_types.specs.ModName.{is_name}
use Rattle.folder_edits.proofs.changes.look_at_names.Given as goal

-- the names so far
abbrev pub invariant-loop-name : goal.invariant-loop-name
invariant-loop-name l = All (λ e. is_name e.0 ≡ true) (take l.name-index l.edits)
