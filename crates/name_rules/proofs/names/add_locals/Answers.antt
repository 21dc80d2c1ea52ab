use Rattle.name_rules.proofs.Locals.{local_more}
use Rattle.name_rules.proofs.names.add_locals.Goals as goal

pub loop-import-preserved : goal.loop-import-preserved
loop-import-preserved c =
    local_more _ _ _ c.args.imported.now c.loop-import.import-index c.import-item.result c.loop-import-test.true c.import-item.is c.in_ok-add_copy.ensures c.loop-import.invariant
