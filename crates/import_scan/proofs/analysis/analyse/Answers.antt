use Rattle.std.proofs.Common.{rules, ◌≡◌, ◌<◌, ◌≤◌, Ok, length, ◌∙◌}
use Rattle.module_tree.specs.Tree.{module_of}
use Rattle.import_scan.specs.Scanning.{meant_in, meant_of}
use Rattle.import_scan.proofs.Analysing.{few, too_many}
use Rattle.import_scan.proofs.analysis.analyse.Goals as goal

pub returns-then-len-gt-IMPORTS : goal.returns-then-len-gt-IMPORTS
returns-then-len-gt-IMPORTS c =
    let read : meant_in c.args.base.now (module_of c.args.tree.now) ≡ Ok (meant_of c.in-Ok.meant) = search rules in
    let many : 256 < length c.in-Ok.meant.imported.items = search rules in
    too_many c.args.base.now (module_of c.args.tree.now) (meant_of c.in-Ok.meant) read many

pub returns-in-Ok-analysis_with : goal.returns-in-Ok-analysis_with
returns-in-Ok-analysis_with c =
    let read : meant_in c.args.base.now (module_of c.args.tree.now) ≡ Ok (meant_of c.in-Ok.meant) = search rules in
    let small : length c.in-Ok.meant.imported.items ≤ 256 = search rules in
    few c.args.base.now (module_of c.args.tree.now) (meant_of c.in-Ok.meant) read small ∙ search rules
