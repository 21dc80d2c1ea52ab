use Rattle.std.proofs.Common.{◌≡◌, take, true}
use Rattle.std.specs.List.{list_all}
use Rattle.hmr_types.specs.ModName.{is_name}
use Rattle.skeletons.proofs.listing.note_names.Given as goal

-- the names so far are names
abbrev pub invariant-loop-name : goal.invariant-loop-name
invariant-loop-name l = list_all is_name (take l.name-index l.names) ≡ true
