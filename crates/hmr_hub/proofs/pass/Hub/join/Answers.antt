use Rattle.std.proofs.Common.{◌∙◌, sym}
use Rattle.hmr_hub.proofs.Calls.{joined, joined_legal}
use Rattle.hmr_hub.proofs.pass.Hub.join.Goals as goal

pub returns-clause-joined : goal.returns-clause-joined
returns-clause-joined c =
    joined c.args.into.now c.args.other (record { pass = c.join.new.into }) (c.join.ensures.pass ∙ sym c.requires.into) c.join.ensures.number c.join.ensures.joined

pub returns-clause-transcript : goal.returns-clause-transcript
returns-clause-transcript c = λ mine other. joined_legal c.args.into.now c.args.other (record { pass = c.join.new.into }) c.join.ensures.joined mine other
