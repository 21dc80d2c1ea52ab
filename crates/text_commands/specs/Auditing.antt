-- What `audit` tells of a record.
use Rattle.std.specs.Prelude.{ℕ, List, ◌++◌, codes, decimal}
use Rattle.command_ends.specs.declared.limit.TheConstants.{RECORD_BYTES}
use Rattle.record_laws.specs.declared.verdict.Verdict.{Verdict}
use Rattle.record_laws.specs.declared.verdict.Verdict.TheVariants.{Yes, No}
use Rattle.record_laws.specs.declared.verdict.Why.{Why}
use Rattle.record_laws.specs.declared.verdict.Why.TheVariants.{BadLine, Roots, Reply, Rest, Limit}

-- the most bytes of a record that is read
abbrev pub record_bytes : ℕ
record_bytes = RECORD_BYTES

-- the word for what is wrong with a line
abbrev pub why_word : Why → List ℕ
why_word BadLine = codes "bad-line"
why_word Roots = codes "roots"
why_word Reply = codes "reply"
why_word Rest = codes "rest"
why_word Limit = codes "limit"

-- the line of a verdict
abbrev pub verdict_line : Verdict → List ℕ
verdict_line (Yes steps rests) =
    codes "yes steps " ++ decimal steps ++ codes " rests " ++ decimal rests ++ codes "\n"
verdict_line (No line why) = codes "no line " ++ decimal line ++ codes " " ++ why_word why ++ codes "\n"
