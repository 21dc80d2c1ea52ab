use Rattle.std.proofs.Common.{◌≡◌, ◌++◌, map}
use Rattle.std.specs.Vec.Iter.{into_iter_items}
use Rattle.module_tree.specs.Tree.{item_of}
use Rattle.http_modules.specs.Rewriting.{rewrite_item}
use Rattle.http_modules.proofs.rewriting.rewrite.Given as goal

-- the items so far are rewritten
abbrev pub invariant-loop-item : goal.invariant-loop-item
invariant-loop-item l = record {
  all : l.yielded ++ into_iter_items l.item-iterator ≡ l.fn.tree.items.items;
  items : map item_of l.items.items ≡ map (rewrite_item l.base l.map) (map item_of l.yielded);
}
