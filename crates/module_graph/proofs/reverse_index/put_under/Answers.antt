use Rattle.std.proofs.Common.{true, Some, None, ap, ◌∙◌}
use Rattle.std.specs.Prelude.{cond, if◌then◌else◌}
use Rattle.std.specs.Map.{lookup}
use Rattle.core_model.specs.Names.{has, same_name}
use Rattle.module_graph.specs.ReverseIndex.{names_in}
use Rattle.module_graph.proofs.Turning.{on_err, placed, unchanged, written}
use Rattle.module_graph.proofs.reverse_index.put_under.Goals as goal

pub returns-in_ok-add-in-Some-clause-ok : goal.returns-in_ok-add-in-Some-clause-ok
returns-in_ok-add-in-Some-clause-ok c =
    let name = c.args.name.now in
    let lister = c.args.lister.now in
    let s = c.in-Some.set.now in
    let w = c.add.new.set in
    let old = c.args.sets.now in
    let new = c.get_mut.follows.lender w in
    placed name lister true (Some w) old.entries new.entries
    (written name s w old new c.in-Some.ensures.value (c.get_mut.follows.holds w))
    (λ m. c.in_ok-add-in-Some.ensures.ok m
    ∙ ap (λ k. if same_name k m then true else has s.keys m) c.in_ok-copy.ensures
    ∙ ap (λ o. if same_name lister m then true else has (names_in o) m) c.in-Some.ensures.value)

pub returns-in_err-add-in-Some-clause-err : goal.returns-in_err-add-in-Some-clause-err
returns-in_err-add-in-Some-clause-err c =
    let name = c.args.name.now in
    let s = c.in-Some.set.now in
    let w = c.add.new.set in
    let old = c.args.sets.now in
    let new = c.get_mut.follows.lender w in
    on_err _ _ (unchanged name (Some w) old.entries new.entries
    (written name s w old new c.in-Some.ensures.value (c.get_mut.follows.holds w))
    (λ m. ap (λ l. has l m) c.in_err-add-in-Some.ensures.err ∙ ap (λ o. has (names_in o) m) c.in-Some.ensures.value))

pub returns-in_ok-insert-in-None-clause-ok : goal.returns-in_ok-insert-in-None-clause-ok
returns-in_ok-insert-in-None-clause-ok c =
    let name = c.args.name.now in
    let lister = c.args.lister.now in
    let w = c.in_ok-set-in-None.set in
    let old = c.args.sets.now in
    placed name lister true (Some w) old.entries c.insert.new.self.entries
    (λ q. c.in_ok-insert-in-None.ensures.updates.0 q
    ∙ ap (λ k. cond (same_name k q) (Some w) (lookup (same_name q) c.get_mut.follows.lender-at-none.entries)) c.in_ok-copy_name-in-None.ensures
    ∙ ap (λ sets. cond (same_name name q) (Some w) (lookup (same_name q) sets.entries)) c.get_mut.follows.holds-at-none)
    (λ m. c.in_ok-set-in-None.ensures m
    ∙ ap (λ k. if same_name k m then true else has (names_in None) m) c.in_ok-copy.ensures
    ∙ ap (λ o. if same_name lister m then true else has (names_in o) m) c.in-None.ensures.value)
