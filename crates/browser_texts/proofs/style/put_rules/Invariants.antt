use Rattle.std.proofs.Common.{◌≡◌, ◌++◌, drop}
use Rattle.browser_texts.specs.Styles.{rules_splices}
use Rattle.browser_texts.proofs.style.put_rules.Given as goal

abbrev pub invariant-loop-import : goal.invariant-loop-import
invariant-loop-import g l =
    l.splices.items ++ rules_splices (g.I.Instances.instance_of l.instances) l.name l.text (drop l.import-index l.imports)
    ≡ l.fn.splices.items ++ rules_splices (g.I.Instances.instance_of l.instances) l.name l.text l.imports
