use Rattle.std.proofs.Common.{rules, ◌≡◌, ◌∙◌}
use Rattle.browser_texts.specs.Scripts.{script_of}
use Rattle.browser_texts.proofs.Plain.{plain_stays}
use Rattle.browser_texts.proofs.script.script_text.Goals as goal

pub returns-clause-plain : goal.returns-clause-plain
returns-clause-plain g c = λ plain at_plain.
    let instance = g.I.Instances.instance_of c.args.instances.now in
    let made : c.in_ok-made.made.items ≡ script_of (g.I.Instances.instance_of c.args.instances.now) c.args.name.now c.args.text.now c.args.outline.now = search rules in
    made ∙ plain_stays instance c.args.name.now c.args.text.now c.args.outline.now plain at_plain
