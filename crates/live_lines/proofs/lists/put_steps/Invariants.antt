use Rattle.std.proofs.Common.{◌≡◌, ◌++◌, drop, codes}
use Rattle.std.specs.List.{flat_map}
use Rattle.live_lines.specs.Texts.{arrow}
use Rattle.live_lines.proofs.lists.put_steps.Given as goal

-- what is written, and the modules that are left, is the whole
abbrev pub invariant-loop-name : goal.invariant-loop-name
invariant-loop-name l =
    l.out.items ++ flat_map (λ m. codes " " ++ arrow ++ codes " " ++ m) (drop l.name-index l.path)
    ≡ l.initial.out.items ++ flat_map (λ m. codes " " ++ arrow ++ codes " " ++ m) l.path
