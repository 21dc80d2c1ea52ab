use Rattle.std.proofs.Common.{◌≡◌, ◌++◌, drop}
use Rattle.browser_texts.specs.Scripts.{import_splices}
use Rattle.browser_texts.proofs.script.put_imports.Given as goal

abbrev pub invariant-loop-i : goal.invariant-loop-i
invariant-loop-i g l =
    l.splices.items ++ import_splices (g.I.Instances.instance_of l.instances) l.name l.text l.calls (drop l.i l.specifiers)
    ≡ l.fn.splices.items ++ import_splices (g.I.Instances.instance_of l.instances) l.name l.text l.outline.computed.items l.outline.specifiers.items
