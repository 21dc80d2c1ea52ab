use Rattle.std.proofs.Common.{◌∙◌, ◌++◌, ap, refl}
use Rattle.core_model.specs.Names.{at, names_of, sorted}
use Rattle.core_model.specs.View.{table_of}
use Rattle.page_plan.proofs.Comparing.{one_found}
use Rattle.page_plan.proofs.Renewals.{told_as_it_is}
use Rattle.page_plan.proofs.versions.compared.Goals as goal

-- the table is that of the view
pub returns-then-is_table_of : goal.returns-then-is_table_of
returns-then-is_table_of c = (told_as_it_is c.args.made c.args.told.now (c.is_table_of.ensures c.if-is_table_of.true), refl)

pub returns-in_ok-copy_name-in-Some : goal.returns-in_ok-copy_name-in-Some
returns-in_ok-copy_name-in-Some c = one_found c.args.told.now c.in_ok-told.told (table_of c.args.made) c.deref.result.now c.in-Some.name.now c.in_ok-copy_name-in-Some.field-0 c.version.result c.version_kept.result
    (λ n. c.in_ok-told.ensures n ∙ ap (λ l. at l n) c.as_slice-2.ensures.value)
    (c.deref.ensures.value ∙ c.in_ok-names.ensures ∙ ap (λ l. sorted (names_of l ++ names_of (table_of c.args.made))) c.as_slice.ensures.value)
    c.in-Some.ensures c.in_ok-copy_name-in-Some.ensures c.version.ensures c.version_kept.ensures
