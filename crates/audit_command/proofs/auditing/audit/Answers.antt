use Rattle.text_commands.specs.Outputs.{output_of_audit, whole}
use Rattle.text_commands.proofs.Answering.{nothing_yet}
use Rattle.audit_command.proofs.auditing.audit.Goals as goal

pub returns-in-Err-clause-front : goal.returns-in-Err-clause-front
returns-in-Err-clause-front g c =
    nothing_yet (g.S.Source.left c.args.input.now) (λ bytes. whole (output_of_audit bytes))
    (g.K.Sink.written c.args.out.now)

pub returns-in_err-line-in-Ok-clause-front : goal.returns-in_err-line-in-Ok-clause-front
returns-in_err-line-in-Ok-clause-front g c =
    nothing_yet (g.S.Source.left c.args.input.now) (λ bytes. whole (output_of_audit bytes))
    (g.K.Sink.written c.args.out.now)
