-- What a version map has of the edits and results so far, and what its calls answer.
use Rattle.std.specs.Prelude.{◌≡◌, Bool, false, ⊤, List, length, Option, Some, None, Result, Ok, Err}
use Prim.{⊥}
use Rattle.core_model.specs.Names.{Name, at}
use Rattle.hmr_types.specs.declared.analysis.TextFault.{TextFault}
use Rattle.core_model.specs.Sources.{Change, Source, Sources, is_outstanding, sources_after}
use Rattle.core_model.specs.Sources.{total_of, EditAnswer, job, same, removed, edit_refused}
use Rattle.core_model.specs.Sources.{ResultAnswer, serve, refuse, late}
use Rattle.hmr_types.specs.declared.words.EditRefusal.{EditRefusal}
use Rattle.version_map.specs.Entries.{fault_of}
use Rattle.version_map.specs.declared.outcome.EditOutcome.{EditOutcome}
use Rattle.version_map.specs.declared.outcome.EditOutcome.TheVariants as edits
use Rattle.version_map.specs.declared.outcome.EditFault.{EditFault}
use Rattle.version_map.specs.declared.outcome.EditFault.TheVariants as faults
use Rattle.version_map.specs.declared.outcome.Settled.{Settled}
use Rattle.version_map.specs.declared.outcome.Settled.TheVariants as settlings

-- the map has exactly what s says: of each name the source and what is served, how many names have a
-- source and with how many bytes, how many edits were counted, and how often something was served
pub record Matches (s map : Sources) : Type 0 where
  pub source : (n : Name) → at map.current n ≡ at s.current n
  pub served : (n : Name) → at map.served n ≡ at s.served n
  pub names : length map.current ≡ length s.current
  pub bytes : total_of map ≡ total_of s
  pub counted : map.counted ≡ s.counted
  pub served_no : map.served_no ≡ s.served_no

-- all that the map has is what these changes give, the newest first
abbrev pub StandsFor : List Change → Sources → Type 0
StandsFor past map = Matches (sources_after past) map

-- the answer is that one; memory may be wanting for a new source alone
abbrev pub Answers : Result EditOutcome EditFault → EditAnswer → Type 0
Answers (Ok (edits.Job v)) answer = answer ≡ job v
Answers (Ok edits.Same) answer = answer ≡ same
Answers (Ok (edits.Removed v)) answer = answer ≡ removed v
Answers (Err (faults.Refused refusal)) answer = answer ≡ edit_refused refusal
Answers (Err faults.NoMemory) (job v) = ⊤
Answers (Err faults.NoMemory) same = ⊥
Answers (Err faults.NoMemory) (removed v) = ⊥
Answers (Err faults.NoMemory) (edit_refused refusal) = ⊥

-- what follows an answer, which out of memory isn't
abbrev pub Answered : Result EditOutcome EditFault → Type 0 → Type 0
Answered (Ok outcome) P = P
Answered (Err (faults.Refused refusal)) P = P
Answered (Err faults.NoMemory) P = ⊤

-- what a result's answer is called
abbrev pub settled_as : ResultAnswer → Settled
settled_as (serve a) = settlings.Served
settled_as (refuse f) = settlings.RefusedText f
settled_as late = settlings.Late

-- the answer of an edit's checks
abbrev pub answer_in : Result EditOutcome EditRefusal → EditAnswer
answer_in (Ok (edits.Job v)) = job v
answer_in (Ok edits.Same) = same
answer_in (Ok (edits.Removed v)) = removed v
answer_in (Err refusal) = edit_refused refusal

-- the name has a source whose result hasn't come
abbrev pub outstanding_in : Option Source → Bool
outstanding_in None = false
outstanding_in (Some s) = is_outstanding s.verdict

-- the fault of a name's source
abbrev pub refused_in : Option Source → Option TextFault
refused_in None = None
refused_in (Some s) = fault_of s.verdict
