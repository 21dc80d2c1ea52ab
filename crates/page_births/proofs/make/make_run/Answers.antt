use Rattle.std.proofs.Common.{rules, ◌≡◌, suc, length, ap, sym, ◌∙◌, arith, Some, if◌then◌else◌}
use Rattle.std.specs.Prelude.{bytes_eq}
use Rattle.std.specs.List.{All}
use Rattle.std.proofs.Math.Path.{subst}
use Rattle.module_semantics.specs.Modules.{module_run}
use Rattle.module_tree.specs.Tree.{module_of, once_of}
use Rattle.page_instances.specs.Scopes.{bound_slots}
use Rattle.retained_data.specs.Bags.{bag_of}
use Rattle.page_births.specs.Births.{IsCodeForDeps}
use Rattle.page_state.specs.Live.{number_of}
use Rattle.page_state.specs.declared.page.Page.{Page}
use Rattle.page_births.proofs.Births.{Parts, made_count, made_follows, parts_lines, parts_made, pushed_length}
use Rattle.page_births.proofs.Registrations.{registered_codes}
use Rattle.page_births.proofs.make.make_run.Goals as goal

pub register_all-requires-clause-codes : goal.register_all-requires-clause-codes
register_all-requires-clause-codes g c = subst (All (λ r. IsCodeForDeps r.kind (once_of r.what))) (sym c.into_vec-2.ensures)
    (registered_codes c.in_ok-evaluated.evaluated.registered (module_of c.args.birth.tree) (bound_slots c.args.page.now.instances.items c.args.birth.links c.as_slice.result.now) (bag_of c.args.page.now.bags c.args.birth.name)
    (ap (λ x. x.registered) c.in_ok-evaluated.ensures.evaluation))

pub register_all-requires-clause-place : goal.register_all-requires-clause-place
register_all-requires-clause-place g c =
    let adds = c.in_ok-add_instance.ensures.adds in
    let long : length c.add_instance.new.page.instances.items ≡ suc (length c.settle_evaluation.new.page.instances.items) = ap length adds.instances ∙ pushed_length c.settle_evaluation.new.page.instances.items adds.new in
    let last : c.len-place.result ≡ length c.settle_evaluation.new.page.instances.items = (let long = c.len-place.ensures in let ok = c.settle_evaluation.new.page.instances.ok in first_of (omega (arith, long), omega (arith, long, ok), search rules)) in
    omega (arith, long, last)

pub returns-clause-count : goal.returns-clause-count
returns-clause-count g c =
    let parts : Parts c.args.birth c.in_ok-evaluated.evaluated c.len-place.result c.args.page.now c.evaluate.new.page c.settle_evaluation.new.page c.add_instance.new.page c.register_all.new.page
    c.args.lines.now.items c.settle_evaluation.new.lines.items c.register_all.new.lines.items c.in_ok-name.name c.as_slice-2.result.now c.status_after-status.result c.into_vec.result.items c.into_vec-2.result.items = record {
      name_is = search rules;
      texts_are = c.as_slice-2.ensures;
      status_is = c.status_after-status.ensures;
      values_are = c.into_vec.ensures;
      entries_are = c.into_vec-2.ensures;
      evaluated = c.evaluate.ensures.rest;
      taken = c.evaluate.ensures.taken;
      settled = c.in_ok-settle_evaluation.ensures.rest;
      put = c.in_ok-settle_evaluation.ensures.bags;
      lines = c.in_ok-settle_evaluation.ensures.lines;
      last = (let long = c.len-place.ensures in let ok = c.settle_evaluation.new.page.instances.ok in first_of (omega (arith, long), omega (arith, long, ok), search rules));
      adds = c.in_ok-add_instance.ensures.adds;
      registers = c.in_ok-register_all.ensures.registers;
    } in
    made_count c.args.birth c.in_ok-evaluated.evaluated c.len-place.result c.args.page.now c.settle_evaluation.new.page c.add_instance.new.page c.register_all.new.page
    c.settle_evaluation.new.lines.items c.register_all.new.lines.items (parts_made c.args.birth c.in_ok-evaluated.evaluated c.len-place.result c.args.page.now c.evaluate.new.page c.settle_evaluation.new.page c.add_instance.new.page c.register_all.new.page c.args.lines.now.items c.settle_evaluation.new.lines.items c.register_all.new.lines.items c.in_ok-name.name c.as_slice-2.result.now c.status_after-status.result c.into_vec.result.items c.into_vec-2.result.items parts)

pub returns-clause-follows : goal.returns-clause-follows
returns-clause-follows g c = λ b is none.
    let parts : Parts c.args.birth c.in_ok-evaluated.evaluated c.len-place.result c.args.page.now c.evaluate.new.page c.settle_evaluation.new.page c.add_instance.new.page c.register_all.new.page
    c.args.lines.now.items c.settle_evaluation.new.lines.items c.register_all.new.lines.items c.in_ok-name.name c.as_slice-2.result.now c.status_after-status.result c.into_vec.result.items c.into_vec-2.result.items = record {
      name_is = search rules;
      texts_are = c.as_slice-2.ensures;
      status_is = c.status_after-status.ensures;
      values_are = c.into_vec.ensures;
      entries_are = c.into_vec-2.ensures;
      evaluated = c.evaluate.ensures.rest;
      taken = c.evaluate.ensures.taken;
      settled = c.in_ok-settle_evaluation.ensures.rest;
      put = c.in_ok-settle_evaluation.ensures.bags;
      lines = c.in_ok-settle_evaluation.ensures.lines;
      last = (let long = c.len-place.ensures in let ok = c.settle_evaluation.new.page.instances.ok in first_of (omega (arith, long), omega (arith, long, ok), search rules));
      adds = c.in_ok-add_instance.ensures.adds;
      registers = c.in_ok-register_all.ensures.registers;
    } in
    made_follows c.args.birth c.in_ok-evaluated.evaluated c.len-place.result c.args.page.now c.settle_evaluation.new.page c.add_instance.new.page c.register_all.new.page
    c.settle_evaluation.new.lines.items c.register_all.new.lines.items (parts_made c.args.birth c.in_ok-evaluated.evaluated c.len-place.result c.args.page.now c.evaluate.new.page c.settle_evaluation.new.page c.add_instance.new.page c.register_all.new.page c.args.lines.now.items c.settle_evaluation.new.lines.items c.register_all.new.lines.items c.in_ok-name.name c.as_slice-2.result.now c.status_after-status.result c.into_vec.result.items c.into_vec-2.result.items parts)
    b c.args.bindings c.args.lines.now.items is none c.requires.bindings
    (c.in_ok-evaluated.ensures.evaluation ∙ ap (λ bs. module_run (module_of c.args.birth.tree) (bound_slots c.args.page.now.instances.items c.args.birth.links bs) (bag_of c.args.page.now.bags c.args.birth.name)) c.as_slice.ensures)
    (parts_lines c.args.birth c.in_ok-evaluated.evaluated c.len-place.result c.args.page.now c.evaluate.new.page c.settle_evaluation.new.page c.add_instance.new.page c.register_all.new.page c.args.lines.now.items c.settle_evaluation.new.lines.items c.register_all.new.lines.items c.in_ok-name.name c.as_slice-2.result.now c.status_after-status.result c.into_vec.result.items c.into_vec-2.result.items parts)

pub returns-clause-live : goal.returns-clause-live
returns-clause-live g c = λ n.
    let same = c.in_ok-settle_evaluation.ensures.rest in
    let taken = c.evaluate.ensures.rest in
    ap (λ p. number_of p.live n) c.in_ok-register_all.ensures.registers.rest
    ∙ c.in_ok-add_instance.ensures.adds.live n
    ∙ ap (λ p. if bytes_eq n c.args.birth.name then Some (suc (length p.instances.items)) else number_of p.live n) same
    ∙ ap (λ p. if bytes_eq n c.args.birth.name then Some (suc (length p.instances.items)) else number_of p.live n) taken
