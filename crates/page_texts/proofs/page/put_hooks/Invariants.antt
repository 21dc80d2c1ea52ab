use Rattle.std.proofs.Common.{◌≡◌, ◌++◌, map, take}
use Rattle.page_texts.specs.Pages.{hook_at}
use Rattle.page_texts.proofs.page.put_hooks.Given as goal

abbrev pub invariant-loop-at : goal.invariant-loop-at
invariant-loop-at l = l.splices.items ≡ l.fn.splices.items ++ map hook_at (take l.at-index l.hooks)
