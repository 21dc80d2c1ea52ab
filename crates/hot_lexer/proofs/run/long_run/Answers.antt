use Rattle.std.proofs.Common.{length, not, ap, ◌∙◌}
use Rattle.std.specs.Option.{unwrap_or}
use Rattle.byte_lanes.specs.Classes.{is_in}
use Rattle.hot_lexer.proofs.Runs.{ends_at, few, twice}
use Rattle.hot_lexer.proofs.run.long_run.Goals as goal

pub returns-clause-count : goal.returns-clause-count
returns-clause-count c =
    let bytes = c.args.bytes.now in
    let p = is_in c.args.class in
    c.unwrap_or.ensures ∙ ap (λ o. unwrap_or o (length bytes)) c.first_not.ensures ∙ ends_at p (λ b. not (p b)) (λ b. twice (p b)) bytes

pub returns-clause-within : goal.returns-clause-within
returns-clause-within c = rw (returns-clause-count c) (few (is_in c.args.class) c.args.bytes.now)
