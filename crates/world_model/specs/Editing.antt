-- Edits and results in the world, and their lines.
use Rattle.std.specs.Prelude.{ℕ, ◌==◌, not, ◌&&◌, Bool, List, [], ◌∷◌, filter, Option, Some, None}
use Rattle.output_lines.specs.declared.words.EditWord.TheVariants as edits_are
use Rattle.output_lines.specs.declared.words.RemoveWord.TheVariants as removes
use Rattle.output_lines.specs.declared.words.SettleWord.TheVariants as settles_as
use Rattle.output_lines.specs.declared.out_line.OutLine.{OutLine}
use Rattle.output_lines.specs.declared.out_line.OutLine.TheVariants as line
use Rattle.core_model.specs.Names.{Name, same_name}
use Rattle.core_model.specs.Sources.{Text, result, EditAnswer, job, same, removed}
use Rattle.core_model.specs.Sources.{edit_refused, ResultAnswer}
use Rattle.core_model.specs.Sources.{serve, refuse, late}
use Rattle.core_model.specs.Requests.{Reply, edited, settled, to_client, gone}
use Rattle.core_model.specs.Requests as replies
use Rattle.core_model.specs.Core.{Core, change, step}
use Rattle.client_model.specs.Language.{Language}
use Rattle.world_model.specs.World.{Job, World, Stepped, stepped}

-- the line of an edit that gives a text
abbrev pub edit_line : Name → EditAnswer → OutLine
edit_line n (job v) = line.Edit n (edits_are.Job v)
edit_line n same = line.Edit n edits_are.Same
edit_line n (removed v) = line.Remove n (removes.Removed v)
edit_line n (edit_refused word) = line.Edit n (edits_are.Refused word)

-- the line of a removal
abbrev pub remove_line : Name → EditAnswer → OutLine
remove_line n (job v) = line.Edit n (edits_are.Job v)
remove_line n same = line.Remove n removes.Same
remove_line n (removed v) = line.Remove n (removes.Removed v)
remove_line n (edit_refused word) = line.Remove n removes.NumbersSpent

-- the line of an edit
abbrev pub line_of_edit : Name → Option Text → EditAnswer → OutLine
line_of_edit n None answer = remove_line n answer
line_of_edit n (Some t) answer = edit_line n answer

-- the line of an edit, by the core's reply
abbrev pub lines_of_edit : Name → Option Text → Reply → List OutLine
lines_of_edit n t (edited answer) = line_of_edit n t answer ∷ []
lines_of_edit n t (settled answer) = []
lines_of_edit n t (to_client m) = []
lines_of_edit n t (replies.refused refusal) = []
lines_of_edit n t gone = []

-- a job is issued for a text that gets a version
abbrev pub with_job : Name → Option Text → EditAnswer → List Job → List Job
with_job n None answer jobs = jobs
with_job n (Some t) (job v) jobs = record { name = n; version = v; text = t } ∷ jobs
with_job n (Some t) same jobs = jobs
with_job n (Some t) (removed v) jobs = jobs
with_job n (Some t) (edit_refused word) jobs = jobs

-- the jobs after an edit, by the core's reply
abbrev pub jobs_after : Name → Option Text → Reply → List Job → List Job
jobs_after n t (edited answer) jobs = with_job n t answer jobs
jobs_after n t (settled answer) jobs = jobs
jobs_after n t (to_client m) jobs = jobs
jobs_after n t (replies.refused refusal) jobs = jobs
jobs_after n t gone jobs = jobs

-- the world after an edit
abbrev pub edited_by : Name → Option Text → World → Core × Reply → Stepped
edited_by n t w after = stepped (record w { core = after.0; issued = jobs_after n t after.1 w.issued })
    (lines_of_edit n t after.1)

-- whether the job is of this name and version
abbrev pub is_job : Name → ℕ → Job → Bool
is_job n v j = same_name j.name n && (j.version == v)

-- the line of a result
abbrev pub settle_line : Name → ℕ → ResultAnswer → OutLine
settle_line n v (serve a) = line.Settle n v settles_as.Served
settle_line n v (refuse fault) = line.Settle n v (settles_as.Refused fault)
settle_line n v late = line.Settle n v settles_as.Late

-- the line of a result, by the core's reply
abbrev pub lines_of_settle : Name → ℕ → Reply → List OutLine
lines_of_settle n v (edited answer) = []
lines_of_settle n v (settled answer) = settle_line n v answer ∷ []
lines_of_settle n v (to_client m) = []
lines_of_settle n v (replies.refused refusal) = []
lines_of_settle n v gone = []

-- the world after a result
abbrev pub settled_by : Name → ℕ → World → Core × Reply → Stepped
settled_by n v w after =
    stepped (record w { core = after.0; issued = filter (λ j. not (is_job n v j)) w.issued })
    (lines_of_settle n v after.1)

-- the result of an issued job is the one that transforming its text gives
abbrev pub settle_job : Language → List Name → Name → ℕ → World → Option Job → Stepped
settle_job language roots n v w None = stepped w (line.Settle n v settles_as.NotIssued ∷ [])
settle_job language roots n v w (Some j) =
    settled_by n v w (step roots w.core (change (result n j.text (language.transformed n j.text) v)))
