use Rattle.std.proofs.Common.{map, subst, sym, ◌∙◌}
use Rattle.std.proofs.lemmas.Result.{err_from_is_err_and}
use Rattle.hmr_types.specs.Specifier.{Refuses}
use Rattle.module_tree.specs.Tree.{item_of}
use Rattle.import_scan.proofs.Meanings.{meant_from}
use Rattle.import_scan.proofs.specifiers.meant_in.Goals as goal

pub returns-in_err-read_items : goal.returns-in_err-read_items
returns-in_err-read_items c =
    let p = err_from_is_err_and c.from_residual.result c.from_residual.ensures.1 in
    rw (p.1, p.2) (subst (Refuses c.in_err-read_items.field-0.0) (meant_from c.args.base.now c.new.result.items c.new-2.result.items (map item_of c.args.items.now) c.new.ensures.items c.new-2.ensures.items) c.in_err-read_items.ensures)

pub returns : goal.returns
returns c =
    sym (meant_from c.args.base.now c.new.result.items c.new-2.result.items (map item_of c.args.items.now) c.new.ensures.items c.new-2.ensures.items) ∙ c.in_ok-read_items.ensures
