use Rattle.std.proofs.Common.{◌≡◌, ◌≤◌, ◌-◌, vec_len}
use Rattle.std.specs.Io.KnownBytes.{Consumes}
use Rattle.hmr_base.proofs.read.read_all.Given as goal

-- what was read is the front of what was left
abbrev pub invariant-loop-text : goal.invariant-loop-text
invariant-loop-text g l =
    let left = g.S.Source.left in
    let faults = g.S.Source.faults in
    record {
      front : Consumes (left l.fn.source) (left l.source) l.text.items;
      within : vec_len l.text ≤ l.limit;
      same : faults l.source ≡ faults l.fn.source;
    }

abbrev pub decreases-loop-text : goal.decreases-loop-text
decreases-loop-text g l = l.limit - vec_len l.text
