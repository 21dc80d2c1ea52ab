use Rattle.std.proofs.Common.{ap, ◌∙◌}
use Rattle.core_model.specs.Names.{put_name}
use Rattle.runtime_answers.proofs.Sent.{invalidated_becomes}
use Rattle.runtime_answers.proofs.answering.invalidated.Goals as goal

pub returns-clause-becomes : goal.returns-clause-becomes
returns-clause-becomes g c = λ r k s.
    invalidated_becomes c.args.name r c.args.runtime.now c.drop_first.new.unsent k s c.drop_first.ensures c.args.message c.put_name.new.names _
    (c.in_ok-put_name.ensures ∙ ap (λ n. put_name n c.args.runtime.now.forced.items) c.in_ok-forced.ensures) c.in_ok-lines.ensures
