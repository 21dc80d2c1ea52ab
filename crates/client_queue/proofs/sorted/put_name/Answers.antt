use Rattle.std.proofs.Common.{◌≡◌, List, sym, ◌∙◌}
use Rattle.std.specs.List.{insert}
use Rattle.std.proofs.Math.Path.{subst}
use Rattle.core_model.specs.Names.{Name, put_name}
use Rattle.module_graph.proofs.Sorting.{IsRising, put_rising}
use Rattle.client_queue.proofs.sorted.put_name.Goals as goal

pub returns-in_ok-insert-clause-rising : goal.returns-in_ok-insert-clause-rising
returns-in_ok-insert-clause-rising c = λ s.
    let n = c.args.name in
    subst IsRising (sym (c.in_ok-insert.ensures.items ∙ sym (subst (λ (l : List Name). put_name n l ≡ insert l c.in-Err.place n) c.deref.ensures.value c.in-Err.ensures.free)))
    (put_rising n c.args.names.now.items s)
