use Rattle.std.proofs.Common.{◌≡◌, ◌++◌, drop}
use Rattle.browser_texts.specs.Scripts.{calls_before, calls_left}
use Rattle.browser_texts.proofs.calls.put_calls_before.Given as goal

abbrev pub invariant-loop-i : goal.invariant-loop-i
invariant-loop-i l = record {
  put : l.splices.items ++ calls_before l.text l.limit (drop l.i l.calls) ≡ l.fn.splices.items ++ calls_before l.text l.limit l.calls;
  left : calls_left l.limit (drop l.i l.calls) ≡ calls_left l.limit l.calls;
}
