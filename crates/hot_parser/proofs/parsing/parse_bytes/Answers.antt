use Rattle.std.proofs.Common.{◌∙◌}
use Rattle.syntax_faults.proofs.Bytes.{no_text, parsed}
use Rattle.hot_parser.proofs.parsing.parse_bytes.Goals as goal

pub returns-in-Ok : goal.returns-in-Ok
returns-in-Ok c = record { exact = parsed _ c.parse_characters.result _ _ c.in-Ok.ensures.cases.0 c.in-Ok.ensures.cases.1 c.parse_characters.ensures }

pub returns-in-Err : goal.returns-in-Err
returns-in-Err c =
    record { exact = no_text c.args.text.now _ c.fault_at.result c.in-Err.ensures.cases.0 (c.valid_up_to.ensures ∙ c.in-Err.ensures.valid_len) c.fault_at.ensures.told }
