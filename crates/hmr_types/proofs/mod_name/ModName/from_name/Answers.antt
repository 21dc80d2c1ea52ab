use Rattle.std.proofs.Common.{rules}
use Rattle.hmr_types.proofs.Names.{is_name-IsUtf8}
use Rattle.hmr_types.proofs.mod_name.ModName.from_name.Goals as goal

-- a name is ASCII
pub unwrap-text-requires : goal.unwrap-text-requires
unwrap-text-requires c =
    let text = is_name-IsUtf8 c.args.name.items c.requires in
    search rules
