use Rattle.std.proofs.Common.{length, ap, ◌∙◌}
use Rattle.std.specs.Option.{unwrap_or}
use Rattle.byte_lanes.specs.Classes.{is_newline}
use Rattle.module_semantics.specs.Bytes.{not_line_feed}
use Rattle.hot_lexer.proofs.Runs.{ends_at, few, one_newline}
use Rattle.hot_lexer.proofs.run.line_run.Goals as goal

pub returns-clause-count : goal.returns-clause-count
returns-clause-count c =
    let bytes = c.args.bytes.now in
    c.unwrap_or.ensures ∙ ap (λ o. unwrap_or o (length bytes)) c.first_of.ensures ∙ ends_at not_line_feed is_newline one_newline bytes

pub returns-clause-within : goal.returns-clause-within
returns-clause-within c = rw (returns-clause-count c) (few not_line_feed c.args.bytes.now)
