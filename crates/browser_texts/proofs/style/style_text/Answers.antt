use Rattle.std.proofs.Common.{rules, ◌≡◌, ◌∙◌}
use Rattle.browser_texts.specs.Styles.{style_of}
use Rattle.browser_texts.proofs.Rules.{style_stays}
use Rattle.browser_texts.proofs.style.style_text.Goals as goal

pub returns-clause-plain : goal.returns-clause-plain
returns-clause-plain g c = λ at_plain.
    let instance = g.I.Instances.instance_of c.args.instances.now in
    let made : c.in_ok-made.made.items ≡ style_of (g.I.Instances.instance_of c.args.instances.now) c.args.name.now c.args.text.now c.args.outline.now.imports.items = search rules in
    made ∙ style_stays instance c.args.name.now c.args.text.now c.args.outline.now.imports.items at_plain
