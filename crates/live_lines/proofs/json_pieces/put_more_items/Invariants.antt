use Rattle.std.proofs.Common.{◌≡◌, ◌++◌, drop, codes}
use Rattle.std.specs.List.{flat_map}
use Rattle.live_lines.proofs.json_pieces.put_more_items.Given as goal

-- what is written, and the values of the items that are left, is the whole
abbrev pub invariant-loop-item : goal.invariant-loop-item
invariant-loop-item g l =
    l.out.items ++ flat_map (λ y. codes "," ++ g.T.JsonItem.value y) (drop l.item-index l.items)
    ≡ l.initial.out.items ++ flat_map (λ y. codes "," ++ g.T.JsonItem.value y) l.items
