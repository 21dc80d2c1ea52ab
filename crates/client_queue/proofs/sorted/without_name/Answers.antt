use Rattle.std.proofs.Common.{rules, sym}
use Rattle.std.specs.Prelude.{not}
use Rattle.std.specs.Cmp.Lexicographic.{slice_cmp}
use Rattle.std.specs.Ordering.{nat_cmp}
use Rattle.std.proofs.Math.Path.{subst}
use Rattle.std.proofs.lemmas.Fn.{filter_same}
use Rattle.std.proofs.lemmas.List.Kept.{IsStrictlySortedBy-filter}
use Rattle.core_model.specs.Names.{Name, same_name}
use Rattle.module_graph.proofs.Sorting.{IsRising}
use Rattle.client_queue.proofs.sorted.without_name.Goals as goal

pub returns-clause-items : goal.returns-clause-items
returns-clause-items c = filter_same _ _ _ (λ x b f' k. search rules) _ _ c.retain.ensures.filtered

pub returns-clause-rising : goal.returns-clause-rising
returns-clause-rising c = λ s. subst IsRising (sym (returns-clause-items c)) (IsStrictlySortedBy-filter (slice_cmp nat_cmp) (λ (m : Name). not (same_name m c.args.name.now)) c.args.names.now.items s)
