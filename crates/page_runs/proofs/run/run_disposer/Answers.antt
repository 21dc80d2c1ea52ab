use Rattle.std.proofs.Common.{◌≡◌, refl, ◌∙◌, ◌++◌, sym, ap, length, rules, [], map, None, Some}
use Rattle.std.specs.Vec.{with_item}
use Rattle.std.specs.Prelude.{slice_set, slice_get}
use Rattle.std.proofs.Math.Path.{subst}
use Rattle.std.proofs.lemmas.Option.{slice_get_read, same_Some}
use Rattle.output_lines.specs.declared.words.FaultPlace.TheVariants.{Dispose}
use Rattle.client_model.specs.Instance.{disposes, places_from}
use Rattle.client_model.specs.Running.{no_arguments, run_each}
use Rattle.module_language.specs.ModuleLanguage.{module_language}
use Rattle.page_instances.specs.Scopes.{bound_slots}
use Rattle.page_instances.specs.Seeing.{deed_in, listed}
use Rattle.page_instances.proofs.Places.{no_place}
use Rattle.page_state.specs.Settling.{left_by}
use Rattle.retained_data.specs.Bags.{HasBag, bag_of}
use Rattle.client_model.specs.Running as running
use Rattle.client_model.specs.Runtime as runtime
use Rattle.page_state.proofs.Words.{word_at, words_set, words_settled}
use Rattle.page_state.proofs.Matching.{set_same, set_self}
use Rattle.page_state.proofs.Following.{follows_as}
use Rattle.page_runs.proofs.Runs.{runs, runs_each, none_follow, run_follows, right_run, scope_given, turn_of}
use Rattle.page_runs.proofs.run.run_disposer.Goals as goal

pub returns-in-None-clause-follows : goal.returns-in-None-clause-follows
returns-in-None-clause-follows g c = follows_as (runs Dispose no_arguments (places_from 0 disposes) c.args.place) (run_each module_language Dispose no_arguments disposes _) c.args.page.now _ c.args.lines.now.items c.args.lines.now.items (λ r s. runs_each Dispose no_arguments disposes c.args.place r)
    (none_follow Dispose no_arguments c.args.place (places_from 0 disposes) c.args.page.now _ c.index_mut.result.now c.take_disposer.new.self c.args.lines.now.items
    (slice_get_read c.args.page.now.instances.items _ c.args.place c.index_mut.result.now refl c.requires.place c.index_mut.ensures.value) refl refl (ap (λ x. x.name) c.take_disposer.ensures.rest)
    (λ i s. ((c.in-None.ensures.none i s).places, (c.in-None.ensures.none i s).sees)))

-- what is known of each handler is known of the one that was taken, and of those that are left
pub spend-requires-clause-word : goal.spend-requires-clause-word
spend-requires-clause-word g c = c.in-Some.ensures.word (word_at (goal.F-post g) c.args.page.now c.args.place c.index_mut.result.now c.requires.place c.index_mut.ensures.value c.requires.words)

pub returns-in-None-clause-words : goal.returns-in-None-clause-words
returns-in-None-clause-words g c = words_set (goal.F-post g) c.args.page.now _ c.args.place c.take_disposer.new.self refl refl
    (c.in-None.ensures.left (word_at (goal.F-post g) c.args.page.now c.args.place c.index_mut.result.now c.requires.place c.index_mut.ensures.value c.requires.words)) c.requires.words

pub returns-clause-words : goal.returns-clause-words
returns-clause-words g c = words_settled (goal.F-post g) c.args.page.now _ _ c.index_mut.result.now c.take_disposer.new.self _ _ c.args.place _ _
    (slice_get_read c.args.page.now.instances.items (length c.args.page.now.instances.items) c.args.place c.index_mut.result.now refl c.requires.place c.index_mut.ensures.value) refl refl
    (c.in-Some.ensures.left (word_at (goal.F-post g) c.args.page.now c.args.place c.index_mut.result.now c.requires.place c.index_mut.ensures.value c.requires.words)) c.requires.words c.in_ok-settle.ensures

pub returns-clause-follows : goal.returns-clause-follows
returns-clause-follows g c =
    let before = c.args.page.now in
    let there = slice_get_read before.instances.items (length before.instances.items) c.args.place c.index_mut.result.now refl c.requires.place c.index_mut.ensures.value in
    let read = slice_get_read before.instances.items (length before.instances.items) c.args.place c.index.result.now refl c.requires.place c.index.ensures in
    let same : c.index.result.now ≡ c.index_mut.result.now = same_Some _ _ (sym read ∙ there) in
    let again = slice_get_read (slice_set before.instances.items c.args.place c.take_disposer.new.self) (length (slice_set before.instances.items c.args.place c.take_disposer.new.self)) c.args.place c.index-2.result.now refl (search rules) c.index-2.ensures in
    let taken : c.index-2.result.now ≡ c.take_disposer.new.self = same_Some _ _ (sym again ∙ set_same before.instances.items c.args.place c.take_disposer.new.self c.index_mut.result.now there) in
    let third = slice_get_read (slice_set before.instances.items c.args.place c.take_disposer.new.self) (length (slice_set before.instances.items c.args.place c.take_disposer.new.self)) c.args.place c.index-3.result.now refl (search rules) c.index-3.ensures in
    let held : c.index-3.result.now ≡ c.take_disposer.new.self = same_Some _ _ (sym third ∙ set_same before.instances.items c.args.place c.take_disposer.new.self c.index_mut.result.now there) in
    let named : c.index-2.result.now.name ≡ c.index_mut.result.now.name = ap (λ x. x.name) taken ∙ ap (λ x. x.name) c.in-Some.ensures.rest in
    let settled : c.in_ok-settle.ensures.instance ≡ c.take_disposer.new.self = same_Some _ _ (sym c.in_ok-settle.ensures.there ∙ set_same before.instances.items c.args.place c.take_disposer.new.self c.index_mut.result.now there) in
    let after : slice_get c.settle.new.page.instances.items c.args.place ≡ Some c.in_ok-settle.ensures.changed = ap (λ cs. slice_get cs c.args.place) c.in_ok-settle.ensures.instances ∙ set_same _ c.args.place c.in_ok-settle.ensures.changed c.in_ok-settle.ensures.instance c.in_ok-settle.ensures.there in
    let empty : c.in_ok-settle.ensures.changed.held.dispose ≡ None = ap (λ x. x.held.dispose) c.in_ok-settle.ensures.rest ∙ ap (λ x. x.held.dispose) settled ∙ c.in-Some.ensures.empty in
    follows_as (runs Dispose no_arguments (places_from 0 disposes) c.args.place) (run_each module_language Dispose no_arguments disposes _) before c.settle.new.page c.args.lines.now.items c.settle.new.lines.items (λ r s. runs_each Dispose no_arguments disposes c.args.place r)
    (run_follows Dispose no_arguments c.args.place (places_from 0 disposes) (places_from 0 disposes) (λ g. g.deed ≡ deed_in c.in-Some.handler)
    before (record before { instances = with_item before.instances c.args.place c.take_disposer.new.self; bags = c.take-bag.new.self }) c.settle.new.page
    c.index_mut.result.now c.take_disposer.new.self (left_by c.in_ok-ran.ran) c.args.lines.now.items c.settle.new.lines.items
    (record { client = refl; live = refl; unsent = refl; shelf = refl; there = there; set = refl; rest = c.in-Some.ensures.rest; bags = subst (λ n. HasBag n [] before.bags c.take-bag.new.self) named c.take-bag.ensures.taken })
    (λ i s. turn_of disposes c.in-Some.handler i c.take_disposer.new.self (c.in-Some.ensures.some i s))
    (λ r s i v h does. right_run c.in_ok-ran.ran c.in-Some.handler (c.as_slice-own.result.now ++ c.in_ok-imports.imports.vars) c.deref-2.result.now c.take-bag.result before c.index_mut.result.now
    c.in_ok-ran.ensures
    (scope_given before.instances.items c.index_mut.result.now c.index-3.result.now c.as_slice-own.result.now c.in_ok-imports.imports.vars c.as_slice-own.ensures.value
    (ap (λ x. x.values) held ∙ ap (λ x. x.values) c.in-Some.ensures.rest)
    (c.in_ok-imports.ensures ∙ ap (λ is. bound_slots is c.index.result.now.links c.index.result.now.bindings) c.deref.ensures.value ∙ ap (λ x. bound_slots before.instances.items x.links x.bindings) same))
    (c.take-bag.ensures.bag ∙ ap (bag_of before.bags) named)
    r s i v [] (c.deref-2.ensures.value ∙ c.new-mods.ensures.items)
    ∙ ap (λ d. running.run_deed module_language d (running.scope_of module_language r i) [] (runtime.bag_of r i.name)) (sym does))
    c.in_ok-settle.ensures c.settle.new.page c.settle.new.lines.items
    (none_follow Dispose no_arguments c.args.place (places_from 0 disposes) c.settle.new.page c.settle.new.page c.in_ok-settle.ensures.changed c.in_ok-settle.ensures.changed c.settle.new.lines.items
    after refl (sym (set_self c.settle.new.page.instances.items c.args.place c.in_ok-settle.ensures.changed after)) refl
    (λ i v. (no_place disposes 0 i.handlers (v.held.dispose ∙ ap (λ o. map deed_in (listed o)) empty), v))))
