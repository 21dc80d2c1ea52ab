use Rattle.std.proofs.Common.{◌≡◌, ◌<◌, ◌++◌, length, map}
use Rattle.std.specs.List.{All}
use Rattle.std.specs.Vec.Iter.{into_iter_items, into_iter_len}
use Rattle.module_tree.specs.Tree.{once_of}
use Rattle.page_births.specs.Births.{IsCodeForDeps, Registers, entry_of}
use Rattle.page_state.specs.Standing.{KeepWords}
use Rattle.page_births.proofs.register.register_all.Given as goal

-- what was registered, and what is left
abbrev pub invariant-loop-entry : goal.invariant-loop-entry
invariant-loop-entry g l = record {
  all : l.yielded ++ into_iter_items l.entry-iterator ≡ l.fn.entries.items;
  left : into_iter_len l.entry-iterator ≡ length (into_iter_items l.entry-iterator);
  codes : All (λ r. IsCodeForDeps r.kind (once_of r.what)) (into_iter_items l.entry-iterator);
  within : l.place < length l.page.instances.items;
  words : KeepWords (goal.F-post g) l.page;
  registers : Registers l.name (map (entry_of l.name) l.yielded) l.place l.fn.page l.page l.fn.lines.items l.lines.items;
}
