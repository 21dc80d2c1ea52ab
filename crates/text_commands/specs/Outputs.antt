-- What there is to write of a command, and what that is of `check` and `audit`.
use Rattle.std.specs.Prelude.{ℕ, List, [], ◌++◌, codes, decimal, length, nat_le}
use Rattle.std.specs.Prelude.{Bool, true, false}
use Rattle.std.specs.List.{flat_map}
use Rattle.hmr_types.specs.declared.limits.TheConstants.{TEXT_BYTES}
use Rattle.output_lines.specs.declared.out_line.OutLine.{OutLine}
use Rattle.core_model.specs.Names.{Name}
use Rattle.play_script.specs.declared.fault.ScriptFault.{ScriptFault}
use Rattle.play_script.specs.Script.{kind_word}
use Rattle.play_text.specs.Lines.{line_text}
use Rattle.command_ends.specs.Ends.{limit_line, number}
use Rattle.command_ends.specs.declared.limit.Limit.{Limit}
use Rattle.command_ends.specs.declared.limit.Limit.TheVariants as limits
use Rattle.command_ends.specs.declared.status.Status.TheVariants as statuses
use Rattle.command_words.specs.Words.{usage_line}
use Rattle.text_commands.specs.Checking.{report}
use Rattle.record_laws.specs.Course.{verdict_of}
use Rattle.text_commands.specs.Auditing.{record_bytes, verdict_line}

-- the line for an input that is no script
abbrev pub fault_line : ScriptFault → List ℕ
fault_line fault =
    codes "script fault at line " ++ decimal fault.line ++ codes ": " ++ kind_word fault.kind ++ codes "\n"

-- what there is to write: the status that it comes with, the text of the lines that the command makes, and
-- the line behind them, of the fault or the limit, where there is one
pub record Output : Type 0 where
  pub status : ℕ
  pub lines : List ℕ
  pub last : List ℕ

-- these lines, and all is done
abbrev pub finished : List ℕ → Output
finished text = record { status = number statuses.Done; lines = text; last = [] }

-- these lines, and behind them the line of a limit
abbrev pub at_limit : Limit → List ℕ → Output
at_limit limit text = record { status = number statuses.Limit; lines = text; last = limit_line limit }

-- the line of a script's fault alone
abbrev pub at_fault : ScriptFault → Output
at_fault fault = record { status = number statuses.NoScript; lines = []; last = fault_line fault }

-- the bytes of lines
abbrev pub lines_text : List OutLine → List ℕ
lines_text lines = flat_map line_text lines

-- the output of a check of a text of at most so many bytes, or of more
abbrev pub check_within : Name → List ℕ → Bool → Output
check_within name text true = finished (report name text)
check_within name text false = at_limit limits.Text []

-- the output of `check`: the report of the module text that the input is
abbrev pub output_of_check : Name → List ℕ → Output
output_of_check name text = check_within name text (nat_le (length text) TEXT_BYTES)

-- the output of an audit of at most so many bytes, or of more
abbrev pub audit_within : List ℕ → Bool → Output
audit_within bytes true = finished (verdict_line (verdict_of bytes))
audit_within bytes false = at_limit limits.Record []

-- the output of `audit`: the verdict on the bytes of the input
abbrev pub output_of_audit : List ℕ → Output
output_of_audit bytes = audit_within bytes (nat_le (length bytes) record_bytes)

-- the output where the words are no command
abbrev pub usage : Output
usage = record { status = number statuses.NotACommand; lines = []; last = usage_line }

-- all of its bytes
abbrev pub whole : Output → List ℕ
whole output = output.lines ++ output.last
