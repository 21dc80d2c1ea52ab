use Rattle.std.proofs.Common.{◌≡◌, [], None, IfOk, map, rules, subst}
use Rattle.raw_trees.specs.Raw.{raw_items_of}
use Rattle.module_semantics.specs.NameRules.{bound_by, lets_of, names_of}
use Rattle.module_semantics.specs.Reading.{flat}
use Rattle.name_rules.specs.Firsts.{repeated_first}
use Rattle.name_rules.specs.Told.{told}
use Rattle.name_rules.proofs.Firsts.{module_found}
use Rattle.name_rules.proofs.names.first_broken.Goals as goal

pub returns : goal.returns
returns c =
    let lets : names_of c.in_ok-lets.lets ≡ lets_of (raw_items_of c.args.items.now) = search rules in
    let bound : c.in_ok-new.field-0 ≡ flat (map bound_by (raw_items_of c.args.items.now)) = search rules in
    let first : told c.repeated-found.result ≡ repeated_first [] None c.in_ok-new.field-0 = search rules in
    let whole = module_found (raw_items_of c.args.items.now) (names_of c.in_ok-lets.lets) c.in_ok-new.field-0 (told c.repeated-found.result) lets bound first in
    record { exact = subst (λ y. IfOk c.items_first.result (λ f. told f ≡ y)) whole c.items_first.ensures }
