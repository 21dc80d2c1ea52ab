-- The world: a core, its open clients, and the jobs whose results haven't come.
use Rattle.std.specs.Prelude.{ℕ, List, [], Option, Some}
use Rattle.output_lines.specs.declared.out_line.OutLine.{OutLine}
use Rattle.hmr_types.specs.declared.value.Value.{Value}
use Rattle.core_model.specs.Names.{Name}
use Rattle.core_model.specs.Sources.{Text}
use Rattle.core_model.specs.Core.{Core, new_core}
use Rattle.client_model.specs.Runtime.{Runtime}

-- a text that is to be transformed
pub record Job : Type 0 where
  pub name : Name
  pub version : ℕ
  pub text : Text

-- all there is
pub record World : Type 0 where
  pub core : Core
  pub clients : List (ℕ × Runtime)  -- the open ones
  pub issued : List Job  -- the jobs whose result hasn't come, the newest first

-- what may happen
pub data Step : Type 0 where
  edits : Name → Option Text → Step
  settles : Name → ℕ → Step
  opens : ℕ → List Name → Step  -- a client of this format, that names these roots or none
  turn : ℕ → Step
  closes : ℕ → Step
  show : ℕ → Step
  values : ℕ → Step
  fates : ℕ → Step
  fresh : Step
  fresh_of : ℕ → Step  -- of a client's own roots
  fires : ℕ → Name → Value → Step  -- an event, at a client's page

-- what a step makes, and its lines; none where a client would have made too many instances, which ends
-- the run
pub record Stepped : Type 0 where
  pub world : World
  pub lines : Option (List OutLine)

-- a step that went on, with its lines
abbrev pub stepped : World → List OutLine → Stepped
stepped w lines = record { world = w; lines = Some lines }

-- the world before any step
abbrev pub new_world : World
new_world = record { core = new_core; clients = []; issued = [] }
