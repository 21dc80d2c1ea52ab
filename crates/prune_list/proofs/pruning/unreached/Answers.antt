use Rattle.std.proofs.Common.{◌↔◌, List, sym, ◌∙◌, ap, Contains}
use Rattle.std.specs.Prelude.{filter, not}
use Rattle.std.specs.Cmp.Lexicographic.{slice_cmp}
use Rattle.std.specs.List.Sorted.{IsStrictlySortedBy}
use Rattle.std.specs.Ordering.{nat_cmp}
use Rattle.std.proofs.Math.Path.{subst}
use Rattle.core_model.specs.Names.{Name, has, names_of, sorted}
use Rattle.core_model.specs.Paths.{Reaches}
use Rattle.core_model.specs.View.{imports, IsDropped}
use Rattle.core_model.proofs.Views.{dropped_are}
use Rattle.module_graph.proofs.Sorting.{sorted_rising}
use Rattle.prune_list.proofs.Leftovers.{left_is, marked_is}
use Rattle.prune_list.proofs.pruning.unreached.Goals as goal

pub returns-clause-rising : goal.returns-clause-rising
returns-clause-rising c = subst (IsStrictlySortedBy (slice_cmp nat_cmp)) (sym c.in_ok-unreached.ensures) (sorted_rising c.in_ok-left.left.items)

pub returns-clause-computed : goal.returns-clause-computed
returns-clause-computed c =
    let known = c.in_ok-known.known.items in
    let marks = c.in_ok-marks.marks in
    left_is c.args.view.now c.args.roots.now marks c.in_ok-unreached.unreached.items
    (marked_is c.args.view.now c.args.roots.now known marks
    (subst (λ v. (m : Name) → Contains known m ↔ Reaches (imports v) c.args.roots.now m) c.of.ensures c.in_ok-known.ensures.exact)
    (λ m. c.in_ok-marks.ensures m ∙ ap (λ l. has l m) c.deref.ensures.value))
    (c.in_ok-unreached.ensures ∙ ap sorted (c.in_ok-left.ensures ∙ ap (filter (λ n. not (has marks n))) (c.deref-2.ensures.value ∙ c.in_ok-names.ensures.names)))

pub returns-clause-exact : goal.returns-clause-exact
returns-clause-exact c = subst (λ (out : List Name). (n : Name) → Contains out n ↔ IsDropped c.args.view.now c.args.roots.now n) (sym (returns-clause-computed c)) (dropped_are c.args.view.now c.args.roots.now)
