use Rattle.std.proofs.Common.{subst}
use Rattle.std.specs.Prelude.{All}
use Rattle.std.proofs.lemmas.List.{take_all}
use Rattle.std.proofs.lemmas.List.Elements.{All-more}
use Rattle.core_model.specs.Formed.{IsName}
use Rattle.event_facts.proofs.noting.note_names.Goals as goal

pub loop-name-preserved : goal.loop-name-preserved
loop-name-preserved c =
    All-more IsName c.args.names.now c.loop-name.name-index c.name-item.result c.loop-name-test.true c.loop-name.invariant (subst (λ n. IsName n) c.name-item.is c.note_name.ensures)

pub returns : goal.returns
returns c = subst (λ names. All IsName names) (take_all c.loop-name.name-index c.args.names.now c.loop-name-test.false) c.loop-name.invariant
