use Rattle.std.proofs.Common.{◌≡◌, refl, ◌∙◌, ◌++◌, sym, ap, length, [], map, Some}
use Rattle.std.specs.Prelude.{slice_get, ◌<◌}
use Rattle.std.proofs.Math.Path.{subst}
use Rattle.std.proofs.lemmas.Option.{slice_get_read, same_Some}
use Rattle.module_tree.specs.Tree.{handler_of}
use Rattle.module_semantics.specs.Bodies.{body_run}
use Rattle.module_language.specs.ModuleLanguage.{argument_of}
use Rattle.page_instances.specs.Scopes.{bound_slots}
use Rattle.retained_data.specs.Bags.{HasBag, bag_of}
use Rattle.page_runs.specs.Telling.{deps_in, given_at, module_given}
use Rattle.page_runs.proofs.Runs.{scope_given}
use Rattle.page_runs.proofs.Turns.{begins, deps_stay, words_stay}
use Rattle.page_runs.proofs.callbacks.run_callback.Goals as goal

pub returns-clause-words : goal.returns-clause-words
returns-clause-words g c =
    let before = c.args.page.now in
    let there = slice_get_read before.instances.items (length before.instances.items) c.args.place c.index.result.now refl c.requires.place c.index.ensures in
    let at : slice_get c.index.result.now.held.deps c.args.turn ≡ Some c.callback.result.now = ap (λ o. slice_get (deps_in o) c.args.turn) (sym there) ∙ c.callback.ensures in
    words_stay c.args.name.now c.args.given.now c.args.place before c.settle.new.page c.take-bag.new.self c.index.result.now c.args.turn c.callback.result.now c.in_ok-ran.ran c.args.lines.now.items c.settle.new.lines.items
    there at c.in_ok-settle.ensures (goal.F-post g) c.requires.place c.requires.words

pub returns-clause-deps : goal.returns-clause-deps
returns-clause-deps g c =
    let before = c.args.page.now in
    let there = slice_get_read before.instances.items (length before.instances.items) c.args.place c.index.result.now refl c.requires.place c.index.ensures in
    let at : slice_get c.index.result.now.held.deps c.args.turn ≡ Some c.callback.result.now = ap (λ o. slice_get (deps_in o) c.args.turn) (sym there) ∙ c.callback.ensures in
    deps_stay c.args.name.now c.args.given.now c.args.place before c.settle.new.page c.take-bag.new.self c.index.result.now c.args.turn c.callback.result.now c.in_ok-ran.ran c.args.lines.now.items c.settle.new.lines.items
    there at c.in_ok-settle.ensures

pub returns-clause-runs : goal.returns-clause-runs
returns-clause-runs g c =
    let before = c.args.page.now in
    let there = slice_get_read before.instances.items (length before.instances.items) c.args.place c.index.result.now refl c.requires.place c.index.ensures in
    let at : slice_get c.index.result.now.held.deps c.args.turn ≡ Some c.callback.result.now = ap (λ o. slice_get (deps_in o) c.args.turn) (sym there) ∙ c.callback.ensures in
    let read = slice_get_read before.instances.items (length before.instances.items) c.args.place c.index-2.result.now refl c.requires.place c.index-2.ensures in
    let third = slice_get_read before.instances.items (length before.instances.items) c.args.place c.index-instance.result.now refl c.requires.place c.index-instance.ensures in
    let held : c.index-instance.result.now ≡ c.index.result.now = same_Some _ _ (sym third ∙ there) in
    let again : c.dep_of.result.now ≡ c.callback.result.now = same_Some _ _ (sym c.dep_of.ensures ∙ ap (λ x. slice_get x.held.deps c.args.turn) held ∙ at) in
    let named : c.index-2.result.now.name ≡ c.index.result.now.name = ap (λ x. x.name) (same_Some _ _ (sym read ∙ there)) in
    begins c.args.name.now c.args.given.now c.args.place before c.settle.new.page c.take-bag.new.self c.index.result.now c.args.turn c.callback.result.now c.in_ok-ran.ran c.args.lines.now.items c.settle.new.lines.items
    there at c.in_ok-settle.ensures
    (c.as_slice-own.result.now ++ c.in_ok-imports.imports.vars) c.deref-2.result.now c.take-bag.result
    (c.requires.lists c.callback.result.now c.callback.ensures)
    (subst (λ n. HasBag n [] before.bags c.take-bag.new.self) named c.take-bag.ensures.taken)
    (c.in_ok-ran.ensures ∙ ap (λ d. body_run (handler_of d.code) (c.as_slice-own.result.now ++ c.in_ok-imports.imports.vars) c.deref-2.result.now c.take-bag.result) again)
    (scope_given before.instances.items c.index.result.now c.index-instance.result.now c.as_slice-own.result.now c.in_ok-imports.imports.vars c.as_slice-own.ensures.value
    (ap (λ x. x.values) held)
    (c.in_ok-imports.ensures ∙ ap (λ is. bound_slots is c.index.result.now.links c.index.result.now.bindings) c.deref.ensures.value))
    (c.deref-2.ensures.value ∙ c.in_ok-mods.ensures ∙ ap (λ ds. map argument_of (given_at c.args.name.now (module_given before c.args.name.now c.args.given.now) ds)) c.as_slice-deps.ensures)
    (c.take-bag.ensures.bag ∙ ap (bag_of before.bags) named)

-- the turn is one of those that the instance holds
pub dep_of-requires : goal.dep_of-requires
dep_of-requires g c =
    let before = c.args.page.now in
    let read = slice_get_read before.instances.items (length before.instances.items) c.args.place c.index-instance.result.now refl c.requires.place c.index-instance.ensures in
    subst (λ o. c.args.turn < length (deps_in o)) read c.requires.turn
