use Rattle.std.proofs.Common.{rules, refl, ap, []}
use Rattle.std.proofs.Math.Path.{subst}
use Rattle.output_lines.specs.declared.words.InstanceStatus.TheVariants.{Unrun}
use Rattle.client_model.specs.Making.{born}
use Rattle.page_instances.specs.Seeing.{Sees}
use Rattle.page_births.proofs.Births.{unrun_follows}
use Rattle.page_births.proofs.make.make_unrun.Goals as goal

pub returns-clause-follows : goal.returns-clause-follows
returns-clause-follows g c = λ b is none.
    let adds = c.in_ok-add_instance.ensures.adds in
    unrun_follows b c.args.birth c.args.page.now c.add_instance.new.page adds.new is none
    (record { client = ap (λ x. x.client) adds.rest; unsent = ap (λ x. x.unsent.items) adds.rest; instances = adds.instances; live = adds.live })
    c.args.lines.now.items _ (subst (λ vs. Sees (born b Unrun vs []) adds.new) (search rules) (adds.sees b is)) (ap (λ x. x.bags) adds.rest) (ap (λ x. x.shelf) adds.rest) (search rules)

pub returns-clause-live : goal.returns-clause-live
returns-clause-live g c = c.in_ok-add_instance.ensures.adds.live
