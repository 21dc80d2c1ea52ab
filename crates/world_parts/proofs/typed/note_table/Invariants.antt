use Rattle.std.proofs.Common.{◌≡◌, true, take}
use Rattle.std.specs.List.{list_all}
use Rattle.hmr_types.specs.ModName.{is_name}
use Rattle.world_parts.proofs.typed.note_table.Given as goal

abbrev pub invariant-loop-row : goal.invariant-loop-row
invariant-loop-row l = list_all (λ row. is_name row.0) (take l.row-index l.row-items) ≡ true
