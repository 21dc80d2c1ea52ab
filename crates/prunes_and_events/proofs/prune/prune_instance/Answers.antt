use Rattle.std.proofs.Common.{◌≡◌, rules, refl, ap, sym, suc, ◌∙◌, ◌++◌, ◌∷◌, [], Some}
use Rattle.std.specs.Prelude.{option_map}
use Rattle.std.proofs.Math.Path.{subst}
use Rattle.std.proofs.lemmas.Option.{slice_get_read, same_Some}
use Rattle.output_lines.specs.declared.words.FaultPlace.TheVariants.{Dispose, Prune}
use Rattle.output_lines.specs.declared.words.InstanceFate.TheVariants.{Pruned}
use Rattle.output_lines.specs.declared.out_line.OutLine.TheVariants as line
use Rattle.client_model.specs.Instance.{disposes, prunes, is_held}
use Rattle.client_model.specs.Journal.{fate_lines}
use Rattle.client_model.specs.Runtime.{and_then}
use Rattle.client_model.specs.Running.{drop_each, run_each, end_instance, give_up_bag, no_arguments}
use Rattle.module_language.specs.ModuleLanguage.{module_language}
use Rattle.page_state.specs.Standing.{Follows, name_at}
use Rattle.page_state.proofs.Following.{follows_then}
use Rattle.prunes_and_events.proofs.prune.prune_instance.Goals as goal

pub returns-clause-follows : goal.returns-clause-follows
returns-clause-follows g c = λ i k named.
    let place = c.args.place in
    let told = c.run_prune.new.lines.items in
    let run = c.in_ok-run_disposer.ensures.follows in
    let run_more = c.in_ok-run_prune.ensures.follows in
    let drop = c.drop_held.ensures.follows told in
    let there : name_at c.drop_held.new.page place ≡ Some i.name = drop.names place i.name (run_more.names place i.name (run.names place i.name named)) in
    let give_up = c.give_up_bag.ensures.follows told i.name there in
    let end = c.end_instance.ensures.follows told i.name in
    let read = slice_get_read c.end_instance.new.page.instances.items _ place c.index.result.now refl (search rules) c.index.ensures in
    let name : c.index.result.now.name ≡ i.name = same_Some _ _ (sym (ap (option_map (λ x. x.name)) read) ∙ end.names place i.name (give_up.names place i.name there)) in
    let its : c.in_ok-name.name ≡ c.index.result.now.name = search rules in
    let tells : told ++ fate_lines c.give_up_bag.new.page.client i.name Pruned ≡ c.push.new.self.items =
    ap (λ n. told ++ line.Pruned c.give_up_bag.new.page.client n ∷ []) (sym (its ∙ name)) ∙ ap (λ m. told ++ line.Pruned m c.in_ok-name.name ∷ []) (sym end.client) ∙ search rules in
    subst (λ m. Follows (λ r. and_then (and_then (and_then (and_then (run_each module_language Dispose no_arguments disposes m r) (run_each module_language Prune no_arguments prunes m)) (drop_each is_held m)) (give_up_bag i.name)) (end_instance Pruned m i.name))
    c.args.page.now c.end_instance.new.page c.args.lines.now.items c.push.new.self.items) (sym k)
    (follows_then _ _ c.args.page.now c.give_up_bag.new.page c.end_instance.new.page c.args.lines.now.items told c.push.new.self.items
    (follows_then _ _ c.args.page.now c.drop_held.new.page c.give_up_bag.new.page c.args.lines.now.items told told
    (follows_then _ _ c.args.page.now c.run_prune.new.page c.drop_held.new.page c.args.lines.now.items told told
    (follows_then _ _ c.args.page.now c.run_disposer.new.page c.run_prune.new.page c.args.lines.now.items c.run_disposer.new.lines.items told run run_more) drop) give_up)
    (subst (Follows (end_instance Pruned (suc place) i.name) c.give_up_bag.new.page c.end_instance.new.page told) tells end))
