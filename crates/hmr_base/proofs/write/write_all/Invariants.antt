use Rattle.std.proofs.Common.{◌≡◌, length, ◌-◌, ◌≤◌, take}
use Rattle.std.specs.Io.KnownBytes.{Appends}
use Rattle.hmr_base.proofs.write.write_all.Given as goal

-- the bytes up to here went out
abbrev pub invariant-loop-at : goal.invariant-loop-at
invariant-loop-at g l =
    let written = g.K.Sink.written in
    let faults = g.K.Sink.faults in
    record {
      out : Appends (written l.fn.sink) (written l.sink) (take l.at l.text);
      within : l.at ≤ length l.text;
      same : faults l.sink ≡ faults l.fn.sink;
    }

abbrev pub decreases-loop-at : goal.decreases-loop-at
decreases-loop-at g l = length l.text - l.at
