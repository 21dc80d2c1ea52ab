use Rattle.std.proofs.Common.{◌≡◌, ◌++◌, ap, sym, ◌∙◌}
use Rattle.std.specs.Prelude.{OnOk}
use Rattle.std.proofs.Math.Path.{subst}
use Rattle.std.proofs.lemmas.List.{append-nil}
use Rattle.core_model.specs.Names.{sorted}
use Rattle.page_showing.specs.Showing.{stale_among}
use Rattle.runtime_showing.specs.Showing.{stale_row}
use Rattle.runtime_showing.proofs.showing.add_stale.Goals as goal

pub returns-in_ok-imports-in-Some-2 : goal.returns-in_ok-imports-in-Some-2
returns-in_ok-imports-in-Some-2 g c = λ r s.
    subst (λ row. OnOk c.tell_stale.result (c.tell_stale.new.edges.items ≡ c.args.edges.now.items ++ stale_row r row)) c.in-Some.ensures
    (subst (λ names. OnOk c.tell_stale.result (c.tell_stale.new.edges.items ≡ c.args.edges.now.items ++ stale_among r c.in-Some.name.now names))
    (c.deref.ensures.value ∙ c.in_ok-imports-in-Some-2.ensures ∙ ap sorted (c.in_ok-imports-in-Some.ensures ∙ c.as_slice.ensures)) (c.tell_stale.ensures r s))

pub returns-in-None : goal.returns-in-None
returns-in-None g c = λ r s. sym (append-nil c.args.edges.now.items) ∙ ap (λ row. c.args.edges.now.items ++ stale_row r row) c.in-None.ensures
