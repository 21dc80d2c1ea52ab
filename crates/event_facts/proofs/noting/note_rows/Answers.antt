use Rattle.std.proofs.Common.{ℕ, List, subst}
use Rattle.std.specs.Prelude.{All}
use Rattle.std.proofs.lemmas.List.{take_all}
use Rattle.std.proofs.lemmas.List.Elements.{All-more}
use Rattle.core_model.specs.Names.{Name}
use Rattle.core_model.specs.Formed.{IsName}
use Rattle.event_facts.proofs.noting.note_rows.Goals as goal

pub loop-row-preserved : goal.loop-row-preserved
loop-row-preserved c =
    All-more (λ (row : Name × ℕ). IsName row.0) c.args.rows.now c.loop-row.row-index c.row-item.result c.loop-row-test.true c.loop-row.invariant
    (subst (λ (row : Name × ℕ). IsName row.0) c.row-item.is c.note_name.ensures)

pub returns : goal.returns
returns c = subst (λ (rows : List (Name × ℕ)). All (λ row. IsName row.0) rows) (take_all c.loop-row.row-index c.args.rows.now c.loop-row-test.false) c.loop-row.invariant
