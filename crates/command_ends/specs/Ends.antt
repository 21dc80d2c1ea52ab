-- The numbers of exit statuses, and the lines of limits.
use Rattle.std.specs.Prelude.{ℕ, List, codes}
use Rattle.hmr_types.specs.declared.limits.TheConstants.{INSTANCES, SCRIPT_BYTES, SOURCE_BYTES}
use Rattle.hmr_types.specs.declared.limits.TheConstants.{SOURCE_NAMES, TEXT_BYTES}
use Rattle.command_ends.specs.declared.limit.TheConstants.{RECORD_BYTES}
use Rattle.command_ends.specs.declared.limit.Limit.{Limit}
use Rattle.command_ends.specs.declared.limit.Limit.TheVariants as limits
use Rattle.command_ends.specs.declared.status.Status.{Status}
use Rattle.command_ends.specs.declared.status.Status.TheVariants as statuses

-- the number of a status
abbrev pub number : Status → ℕ
number statuses.Done = 0
number statuses.NotACommand = 2
number statuses.NoScript = 3
number statuses.Unread = 4
number statuses.Unwritten = 5
number statuses.Tree = 6
number statuses.Net = 7
number statuses.Limit = 8
number statuses.NoMemory = 9
number statuses.BadAnswer = 10

-- the line for a limit
abbrev pub limit_line : Limit → List ℕ
limit_line limits.Script = codes "limit input 16777216\n"
limit_line limits.Record = codes "limit input 268435456\n"
limit_line limits.Text = codes "limit text 131072\n"
limit_line limits.Names = codes "limit names 8192\n"
limit_line limits.Sources = codes "limit sources 33554432\n"
limit_line limits.Instances = codes "limit instances 20000\n"
limit_line limits.Transcript = codes "limit transcript 1000000\n"
limit_line limits.Passes = codes "limit passes 18446744073709551615\n"
limit_line limits.Turns = codes "limit turns 500000\n"

-- what a limit bounds
abbrev pub bounded : Limit → List ℕ
bounded limits.Script = codes "input"
bounded limits.Record = codes "input"
bounded limits.Text = codes "text"
bounded limits.Names = codes "names"
bounded limits.Sources = codes "sources"
bounded limits.Instances = codes "instances"
bounded limits.Transcript = codes "transcript"
bounded limits.Passes = codes "passes"
bounded limits.Turns = codes "turns"

-- the most that it allows
abbrev pub most : Limit → ℕ
most limits.Script = SCRIPT_BYTES
most limits.Record = RECORD_BYTES
most limits.Text = TEXT_BYTES
most limits.Names = SOURCE_NAMES
most limits.Sources = SOURCE_BYTES
most limits.Instances = INSTANCES
most limits.Transcript = 1_000_000
most limits.Passes = 18_446_744_073_709_551_615
most limits.Turns = 500_000
