use Rattle.std.proofs.Common.{ap, ◌∙◌, ◌++◌, append-nil}
use Rattle.std.specs.Prelude.{reverse}
use Rattle.page_plan.specs.Walking.{visits}
use Rattle.page_plan.proofs.Moments.{at_begin}
use Rattle.page_plan.proofs.walker.Walker.new.Goals as goal

pub returns : goal.returns
returns c = λ p view. at_begin c.args.roots.now p view _ (c.in_ok-push_visits.ensures ∙ ap (λ l. visits c.args.roots.now ++ reverse l) c.new-tasks.ensures.items ∙ append-nil (visits c.args.roots.now)) c.new.ensures c.new-2.ensures.items
