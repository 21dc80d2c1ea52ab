use Rattle.std.proofs.Common.{◌≡◌, ◌++◌, drop, codes}
use Rattle.std.specs.List.{flat_map}
use Rattle.live_lines.proofs.lists.put_each.Given as goal

-- what is written, and the texts of the items that are left, is the whole
abbrev pub invariant-loop-item : goal.invariant-loop-item
invariant-loop-item g l =
    l.out.items ++ flat_map (λ x. codes ", " ++ g.T.Item.text x) (drop l.item-index l.items)
    ≡ l.initial.out.items ++ flat_map (λ x. codes ", " ++ g.T.Item.text x) l.items
