use Rattle.std.proofs.Common.{◌<◌, ◌≤◌, length, rules, arith}
use Rattle.client_model.specs.Past.{runtime_after}
use Rattle.module_language.specs.ModuleLanguage.{module_language}
use Rattle.runtime_state.proofs.Rising.{view_rises}
use Rattle.runtime_showing.proofs.Shown.{edges_more, edges_all, named_count}
use Rattle.runtime_showing.proofs.showing.stale.Goals as goal

pub loop-place-init : goal.loop-place-init
loop-place-init g c = λ r s. c.new-edges.ensures.items

pub loop-place-preserved : goal.loop-place-preserved
loop-place-preserved g c = λ r s.
    let count = named_count c.args.runtime.now.view c.in_ok-names.names.items c.in_ok-names.ensures.names in
    let here : c.loop-place.place < length c.in_ok-names.names.items = search rules in
    let within : c.loop-place.place < length c.args.runtime.now.view = omega (arith, here, count) in
    edges_more r c.args.runtime.now.view c.loop-place.place c.loop-place.edges.items c.add_stale.new.edges.items within (c.loop-place.invariant r s) (c.in_ok-add_stale.ensures r s)

pub returns : goal.returns
returns g c = λ opening past s.
    let r = runtime_after module_language opening past in
    let count = named_count c.args.runtime.now.view c.in_ok-names.names.items c.in_ok-names.ensures.names in
    let past_all : length c.in_ok-names.names.items ≤ c.loop-place.place = search rules in
    let all : length c.args.runtime.now.view ≤ c.loop-place.place = omega (arith, past_all, count) in
    edges_all r c.args.runtime.now.view c.loop-place.place c.loop-place.edges.items s.keeps.view (view_rises module_language opening past) all (c.loop-place.invariant r s.keeps.page)
