use Rattle.std.proofs.Common.{◌≡◌, ◌<◌, ℕ, None, length}
use Rattle.std.specs.BTreeMap.{get}
use Rattle.std.specs.Ordering.{nat_cmp}
use Rattle.const_eval.specs.Places.{variables}
use Rattle.const_eval.proofs.module.settle.Given as goal

-- what is still given, over the variables as they are, is all that was given; nothing is at the places before
abbrev pub invariant-loop-place : goal.invariant-loop-place
invariant-loop-place l = record {
  same : variables l.vars.items l.given ≡ variables l.initial.vars.items l.initial.given;
  done : (p : ℕ) → p < l.place → get nat_cmp l.given p ≡ None;
  count : length l.vars.items ≡ length l.initial.vars.items;
}
