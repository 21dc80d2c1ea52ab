use Rattle.std.proofs.Common.{◌≡◌, ◌<◌, length, map, ap, ◌∙◌, sym, false, arith}
use Rattle.std.specs.Prelude.{◌==◌, vec_len}
use Rattle.std.proofs.lemmas.List.{length-map}
use Rattle.std.proofs.lemmas.Bool.Decides.{nat_tests}
use Rattle.raw_trees.specs.Raw.{operation_of, raw_expr_of}
use Rattle.module_semantics.specs.Reading.{grouped}
use Rattle.name_rules.specs.Alone.{alone}
use Rattle.name_rules.proofs.Rows.{long_row_not_alone, raw_expr_of-Row}
use Rattle.name_rules.proofs.alone.+alone.Goals as goal

pub returns-else-is_empty : goal.returns-else-is_empty
returns-else-is_empty t c =
    let row : raw_expr_of c.args.e.now ≡ grouped (raw_expr_of c.in-Row.first.value) (map operation_of c.in-Row.rest.items) = ap raw_expr_of c.in-Row.is ∙ raw_expr_of-Row c.in-Row.first c.in-Row.rest in
    let some : 0 < length (map operation_of c.in-Row.rest.items) = let other : (vec_len c.in-Row.rest == 0) ≡ false = sym c.is_empty.ensures ∙ c.if-is_empty.false in simp length-map (grind (arith, nat_tests, other)) in
    sym (ap alone row ∙ long_row_not_alone (raw_expr_of c.in-Row.first.value) (map operation_of c.in-Row.rest.items) some)
