use Rattle.std.proofs.Common.{◌≡◌, ◌-◌, vec_len}
use Rattle.http_heads.specs.Cutting.{NoEndWithin}
use Rattle.http_heads.specs.declared.cutting.TheConstants.{HEAD_BYTES}
use Rattle.http_exchange.specs.Serving.{Moves}
use Rattle.http_exchange.proofs.reading.read_head.Given as goal

-- no head ends within the bytes that were searched
abbrev pub invariant-loop-piece : goal.invariant-loop-piece
invariant-loop-piece g l =
    let left = g.S.Source.left in
    let faults = g.S.Source.faults in
    record {
      moves : Moves (left l.fn.source) (left l.source) l.fn.held.items l.held.items;
      none : NoEndWithin l.held.items l.searched;
      same : faults l.source ≡ faults l.fn.source;
    }

abbrev pub decreases-loop-piece : goal.decreases-loop-piece
decreases-loop-piece g l = HEAD_BYTES - vec_len l.held
