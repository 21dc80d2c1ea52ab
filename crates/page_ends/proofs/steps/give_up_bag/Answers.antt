use Rattle.std.proofs.Common.{refl, ap, sym, ◌∙◌, []}
use Rattle.std.specs.Prelude.{option_map}
use Rattle.std.proofs.Math.Path.{subst}
use Rattle.std.proofs.lemmas.Option.{slice_get_read, same_Some}
use Rattle.retained_data.specs.Bags.{HasBag}
use Rattle.page_state.proofs.Standing.{give_up_follows}
use Rattle.page_ends.proofs.steps.give_up_bag.Goals as goal

pub returns-clause-follows : goal.returns-clause-follows
returns-clause-follows g c = λ lines n named.
    let read = slice_get_read c.args.page.now.instances.items _ c.args.place c.index.result.now refl c.requires c.index.ensures in
    give_up_follows n c.args.page.now _ lines refl
    (subst (λ x. HasBag x [] c.args.page.now.bags c.forget.new.self) (same_Some _ _ (sym (ap (option_map (λ x. x.name)) read) ∙ named)) c.forget.ensures)
