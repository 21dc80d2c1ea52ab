use Rattle.std.proofs.Common.{sym, ◌∙◌, arith}
use Rattle.std.proofs.lemmas.List.{at_drop_all}
use Rattle.import_scan.proofs.Firsts.{all_among, among_firsts}
use Rattle.import_scan.proofs.analysis.among.Goals as goal

pub returns : goal.returns
returns c =
    sym (at_drop_all (all_among c.args.others.now c.loop-name.found.items) c.args.names.now c.loop-name.name-index (omega arith)) ∙ c.loop-name.invariant ∙ among_firsts c.args.others.now c.args.names.now
