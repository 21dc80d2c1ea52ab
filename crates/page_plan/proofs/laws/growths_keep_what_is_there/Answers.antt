use Rattle.page_plan.proofs.Growing.{growing_is}
use Rattle.page_plan.proofs.Renewals.{dropped_renewed, growth_fits, none_unfetched, reached_renewed, renewed_closed, view_is}
use Rattle.page_plan.proofs.laws.growths_keep_what_is_there.Goals as goal

pub returns : goal.returns
returns c = record {
  tested = λ roots p view h whole. growing_is p view h roots whole;
  reached = reached_renewed;
  fetched = none_unfetched;
  closed = renewed_closed;
  dropped = dropped_renewed;
  view = view_is;
  row = growth_fits;
}
