use Rattle.std.proofs.Common.{rules}
use Rattle.std.specs.Ordering.{is_lt, nat_cmp}
use Rattle.std.specs.Cmp.Lexicographic.{slice_cmp}
use Rattle.std.proofs.lemmas.Fn.{always_returns_same}
use borrow.Author.Tests.{tests}
use Rattle.hmr_types.proofs.Tables.{rises_is}
use Rattle.hmr_types.proofs.table.rise.Goals as goal

pub returns : goal.returns
returns c = rises_is c.args.pairs.now _ (c.is_sorted_by.ensures.cases (λ p q. is_lt (slice_cmp nat_cmp p.0 q.0)) (always_returns_same _ _ _ (λ a r q k. search (rules, tests))))
