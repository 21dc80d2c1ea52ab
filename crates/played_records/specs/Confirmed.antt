-- That `audit` says yes.
use Rattle.std.specs.Prelude.{◌≡◌, ℕ, []}
use Rattle.record_laws.specs.declared.verdict.Verdict.TheVariants.{Yes}
use Rattle.text_commands.specs.Auditing.{verdict_line}
use Rattle.text_commands.specs.Outputs.{Output}

-- the output is the line of a yes, and comes with status 0
pub record SaysYes (o : Output) : Type 0 where
  pub steps : ℕ
  pub rests : ℕ
  pub is : o ≡ record { status = 0; lines = verdict_line (Yes steps rests); last = [] }
