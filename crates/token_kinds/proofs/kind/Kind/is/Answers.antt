use Rattle.token_kinds.proofs.KindCodes.{same_codes}
use Rattle.token_kinds.proofs.kind.Kind.is.Goals as goal

pub returns : goal.returns
returns c = same_codes c.args.self c.args.other c.eq.result c.eq.ensures
