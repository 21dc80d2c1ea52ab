use Rattle.std.proofs.Common.{rules, ℕ, List, ◌∙◌}
use Rattle.module_semantics.specs.Entries.{has_name}
use Rattle.skeletons.proofs.Gathering.{among_on}
use Rattle.skeletons.proofs.following.among.Goals as goal

pub loop-name-preserved : goal.loop-name-preserved
loop-name-preserved c =
    among_on (λ (n : List ℕ). has_name n c.args.others.now) c.args.names.now c.loop-name.name-index c.name-item.result c.loop-name.found.items c.put_among.new.found.items (search rules) (search rules)
    c.in_ok-put_among.ensures ∙ c.loop-name.invariant
