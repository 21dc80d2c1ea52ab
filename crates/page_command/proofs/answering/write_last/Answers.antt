use Rattle.std.proofs.Common.{subst, ◌∙◌}
use Rattle.hmr_base.specs.Fronts.{WritesFront}
use Rattle.page_command.proofs.Writing.{wrote_whole}
use Rattle.page_command.proofs.answering.write_last.Goals as goal

pub returns-clause-front : goal.returns-clause-front
returns-clause-front g c =
    subst (WritesFront (g.K.Sink.written c.args.out.now) (g.K.Sink.written c.write_all.new.sink)) (c.as_bytes.ensures.value ∙ c.last_line.ensures)
    c.write_all.ensures.front

pub returns-clause-whole : goal.returns-clause-whole
returns-clause-whole g c =
    λ quiet. wrote_whole c.write_all.result _ _ _ _ _ _ (c.as_bytes.ensures.value ∙ c.last_line.ensures) c.write_all.ensures.done c.write_all.ensures.failed quiet
