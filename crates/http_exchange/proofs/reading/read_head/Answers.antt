use Rattle.std.proofs.Common.{rules, ◌∙◌}
use Rattle.http_exchange.proofs.Steps.{moves_more, none_after}
use Rattle.http_exchange.proofs.reading.read_head.Goals as goal

pub loop-piece-preserved : goal.loop-piece-preserved
loop-piece-preserved g c = record {
  moves = moves_more _ _ _ _ _ _ _ c.loop-piece.invariant.moves c.in_ok-count.ensures.bytes.0
      c.in_ok-extend_from_slice.ensures.items;
  none = none_after c.find_head-found.result c.deref.result.now _ _ _ _ _ (search rules) c.deref.ensures.value
      c.find_head-found.ensures c.in_ok-extend_from_slice.ensures.items c.deref.ensures.len c.len-searched.ensures;
  same = c.in_ok-count.ensures.cause.same ∙ c.loop-piece.invariant.same;
}
