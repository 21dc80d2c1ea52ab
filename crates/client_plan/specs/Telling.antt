-- The lines that begin a plan.
use Rattle.std.specs.Prelude.{ℕ, ◌==◌, List, [], ◌∷◌, map, Option, Some, None, if◌then◌else◌}
use Rattle.output_lines.specs.declared.out_line.OutLine.{OutLine}
use Rattle.output_lines.specs.declared.out_line.OutLine.TheVariants as line
use Rattle.core_model.specs.Names.{Name, in_order}
use Rattle.client_model.specs.Answering.{accept_line, outcome_of}
use Rattle.client_model.specs.Runtime.{Cause}

-- the line of a batch, where the message has one
abbrev pub batch_lines : ℕ → ℕ → List Name → List OutLine
batch_lines client batch triggered = if batch == 0 then []
    else line.Batch client batch (in_order triggered) ∷ []

-- the line of each boundary
abbrev pub accept_lines : ℕ → List (Name × Name) → List OutLine
accept_lines client pairs = map (accept_line client) pairs

-- the line of a plan that was given up, where there is a cause
abbrev pub cause_lines : ℕ → Option Cause → List OutLine
cause_lines client None = []
cause_lines client (Some cause) = line.Aborted client (outcome_of cause) ∷ []
