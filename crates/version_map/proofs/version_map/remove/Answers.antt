use Rattle.std.proofs.Common.{None, refl}
use Rattle.version_map.proofs.Rows.{changes_at}
use Rattle.version_map.proofs.version_map.remove.Goals as goal

pub returns : goal.returns
returns c = changes_at c.args.name.now None None c.args.entries.now.entries c.remove.new.self.entries None refl refl c.remove.ensures.updates.0 c.remove.ensures.ordered
