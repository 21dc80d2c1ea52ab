use Rattle.std.proofs.Common.{rules, ◌≡◌, true, ap, ◌∙◌}
use Rattle.module_semantics.specs.Entries.{has_room, is_bag}
use Rattle.module_semantics.proofs.Entries.{bag_stays}
use Rattle.retained_data.proofs.bag.Bag.set.Goals as goal
use Rattle.retained_data.proofs.bag.Bag.set.Goals.{in-Ok, in-Err}

-- the entries with one more where there is room, or those that were there
pub invariant_of-self : goal.invariant_of-self
invariant_of-self c =
    let room : has_room c.args.key c.self.inside.entries.items ≡ true = search rules in
    elim c.match-put_entry.branch [
      | in-Ok w ↦ ap is_bag w.in-Ok.ensures.ok ∙ bag_stays c.args.key c.args.value c.self.inside.entries.items room c.self.invariant
      | in-Err w ↦ ap is_bag w.in-Err.ensures.err ∙ c.self.invariant
    ]
