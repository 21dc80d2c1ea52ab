-- What the list of edits and results so far says of each name: its current source, whether that
-- source's job is outstanding, served or refused, and what is served. The list is newest first.
use Rattle.std.specs.Prelude.{ℕ, ◌+◌, ◌-◌, ◌==◌, nat_le, nat_lt, Bool, true, false, not, ◌&&◌, List, [], ◌∷◌}
use Rattle.std.specs.Prelude.{length, sum_by, Option, Some, None, is_some, if◌then◌else◌}
use Rattle.hmr_types.specs.declared.limits.TheConstants.{TEXT_BYTES, SOURCE_NAMES, SOURCE_BYTES}
use Rattle.hmr_types.specs.declared.limits.TheConstants.{LARGEST_NUMBER}
use Rattle.hmr_types.specs.declared.analysis.Analysis.{Analysis}
use Rattle.hmr_types.specs.declared.analysis.TextFault.{TextFault}
use Rattle.hmr_types.specs.declared.analysis.Outcome.{Outcome}
use Rattle.hmr_types.specs.declared.analysis.Outcome.TheVariants.{Good, Bad}
use Rattle.hmr_types.specs.declared.words.EditRefusal.{EditRefusal}
use Rattle.hmr_types.specs.declared.words.EditRefusal.TheVariants.{TextTooLong, TooManyNames, SourceTotal}
use Rattle.hmr_types.specs.declared.words.EditRefusal.TheVariants.{NumbersSpent}
use Rattle.core_model.specs.Names.{Name, same_name, at, without, with_row}

-- the bytes of a text
abbrev pub Text : Type 0
Text = List ℕ

-- one edit of a name, a removal where there is no text; or the result for a name, a text and a version
pub data Change : Type 0 where
  edit : Name → Option Text → Change
  result : Name → Text → Outcome → ℕ → Change

-- what came for a source: nothing yet, a good result, or a bad one
pub data Verdict : Type 0 where
  outstanding : Verdict
  good : Verdict
  bad : TextFault → Verdict

-- the source of a name
pub record Source : Type 0 where
  pub version : ℕ
  pub text : Text
  pub verdict : Verdict

-- what is served of a name
pub record Serving : Type 0 where
  pub version : ℕ
  pub text : Text
  pub analysis : Analysis

-- what the changes so far give
pub record Sources : Type 0 where
  pub counted : ℕ  -- how many edits were counted
  pub current : List (Name × Source)  -- the current source of each name that has one
  pub served : List (Name × Serving)  -- what is served of each name
  pub served_no : ℕ  -- how often something was served, or removed

-- what an edit answers
pub data EditAnswer : Type 0 where
  job : ℕ → EditAnswer
  same : EditAnswer
  removed : ℕ → EditAnswer
  edit_refused : EditRefusal → EditAnswer

abbrev pub has_text : Option Source → Text → Bool
has_text None t = false
has_text (Some s) t = same_name s.text t

abbrev pub text_length : Option Source → ℕ
text_length None = 0
text_length (Some s) = length s.text

-- the bytes of all current sources
abbrev pub total_of : Sources → ℕ
total_of s = sum_by (λ row. length row.1.text) s.current

-- the next number, or a refusal where all numbers are given
abbrev pub numbered : (ℕ → EditAnswer) → ℕ → EditAnswer
numbered answer counted =
    if nat_le LARGEST_NUMBER counted then edit_refused NumbersSpent else answer (counted + 1)

-- the rows of the table of edits, in their order, for the name's old source
abbrev pub answer_for : Option Source → Sources → Option Text → EditAnswer
answer_for old s None = if is_some old then numbered removed s.counted else same
answer_for old s (Some t) =
    if nat_lt TEXT_BYTES (length t) then edit_refused TextTooLong else (
    if has_text old t then same else (
    if not (is_some old) && nat_le SOURCE_NAMES (length s.current) then edit_refused TooManyNames else (
    if nat_lt SOURCE_BYTES ((total_of s - text_length old) + length t) then edit_refused SourceTotal else
    numbered job s.counted)))

abbrev pub edit_answer : Sources → Name → Option Text → EditAnswer
edit_answer s n t = answer_for (at s.current n) s t

abbrev pub text_or_none : Option Text → Text
text_or_none None = []
text_or_none (Some t) = t

-- what an edit leaves
abbrev pub after_edit : EditAnswer → Name → Option Text → Sources → Sources
after_edit (job v) n t s = record s {
  counted = v;
  current = with_row n (record { version = v; text = text_or_none t; verdict = outstanding }) s.current;
}
after_edit (removed v) n t s = record s {
  counted = v;
  current = without n s.current;
  served = without n s.served;
  served_no = s.served_no + 1;
}
after_edit same n t s = s
after_edit (edit_refused w) n t s = s

-- what a result answers
pub data ResultAnswer : Type 0 where
  serve : Analysis → ResultAnswer
  refuse : TextFault → ResultAnswer
  late : ResultAnswer

abbrev pub is_outstanding : Verdict → Bool
is_outstanding outstanding = true
is_outstanding good = false
is_outstanding (bad f) = false

-- the result is of the current source, which no result settled before
abbrev pub is_awaited : Option Source → Text → ℕ → Bool
is_awaited None t v = false
is_awaited (Some s) t v = (s.version == v) && same_name s.text t && is_outstanding s.verdict

abbrev pub answer_of : Outcome → ResultAnswer
answer_of (Good a) = serve a
answer_of (Bad f) = refuse f

abbrev pub result_answer : Sources → Name → Text → Outcome → ℕ → ResultAnswer
result_answer s n t o v = if is_awaited (at s.current n) t v then answer_of o else late

abbrev pub settled_row : Name → Text → ℕ → Verdict → List (Name × Source) → List (Name × Source)
settled_row n t v verdict rows = with_row n (record { version = v; text = t; verdict = verdict }) rows

-- what a result leaves
abbrev pub after_result : ResultAnswer → Name → Text → ℕ → Sources → Sources
after_result (serve a) n t v s = record s {
  current = settled_row n t v good s.current;
  served = with_row n (record { version = v; text = t; analysis = a }) s.served;
  served_no = s.served_no + 1;
}
after_result (refuse f) n t v s = record s { current = settled_row n t v (bad f) s.current }
after_result late n t v s = s

-- nothing was edited yet
abbrev pub no_sources : Sources
no_sources = record { counted = 0; current = []; served = []; served_no = 0 }

-- what one more change makes
abbrev pub changed_by : Sources → Change → Sources
changed_by s (edit n t) = after_edit (edit_answer s n t) n t s
changed_by s (result n t o v) = after_result (result_answer s n t o v) n t v s

-- what the changes so far give, the newest first
abbrev pub sources_after : List Change → Sources
sources_after [] = no_sources
sources_after (change ∷ past) = changed_by (sources_after past) change
