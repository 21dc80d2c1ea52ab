use Rattle.std.proofs.Common.{◌≡◌, ◌∙◌, refl, ap, sym, length}
use Rattle.std.specs.Prelude.{option_map}
use Rattle.std.proofs.lemmas.Option.{slice_get_read, same_Some}
use Rattle.page_plan.specs.Numbers.{new_number}
use Rattle.page_lifecycle.proofs.replace.replace_at.Goals as goal

pub returns-clause-follows : goal.returns-clause-follows
returns-clause-follows g c = λ i k named.
    let items = c.args.page.now.instances.items in
    let there = slice_get_read items (length items) c.args.place c.index.result.now refl c.requires.place c.index.ensures in
    let name : c.index.result.now.name ≡ i.name = same_Some _ _ (sym (ap (option_map (λ x. x.name)) there) ∙ named) in
    c.in_ok-replace_instance.ensures.follows (new_number c.args.numbers.now) i k (ap (new_number c.args.numbers.now) (sym name) ∙ sym c.get.ensures ∙ c.in-Some.is)
