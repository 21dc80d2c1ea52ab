-- The modules of a folder as first edits, each settled as soon as it is made.
use Rattle.std.specs.Prelude.{◌≡◌, ⊤, Bool, true, false, List, [], ◌∷◌, Option, Some, None}
use Rattle.module_semantics.specs.Analysis.{transformed}
use Rattle.module_semantics.specs.ModuleText.{parsing}
use Rattle.core_model.specs.Names.{Name}
use Rattle.core_model.specs.Sources.{Change, EditAnswer, Sources, Text, edit, edit_answer, edit_refused, job}
use Rattle.core_model.specs.Sources.{removed, result, same, sources_after}

-- a name and its new text, or none where the name is removed
abbrev pub Edit : Type 0
Edit = Name × Option Text

-- the changes, the newest first, with the result of a text where its edit brought a job
abbrev pub with_result : Name → Text → EditAnswer → List Change → List Change
with_result n t (job v) past = result n t (transformed parsing n t) v ∷ past
with_result n t same past = past
with_result n t (removed v) past = past
with_result n t (edit_refused w) past = past

-- one edit more with its result; a removal, of which the edits of a first listing have none, is passed over
abbrev pub opened_by : List Change → Edit → List Change
opened_by past (n, None) = past
opened_by past (n, Some t) =
    with_result n t (edit_answer (sources_after past) n (Some t)) (edit n (Some t) ∷ past)

-- edits one after another
abbrev pub opened : List Change → List Edit → List Change
opened past [] = past
opened past (e ∷ edits) = opened (opened_by past e) edits

-- the sources that these edits make: each text is served that reads as a module
abbrev pub page_sources : List Edit → Sources
page_sources edits = sources_after (opened [] edits)

abbrev pub is_accepted : EditAnswer → Bool
is_accepted (job v) = true
is_accepted same = true
is_accepted (removed v) = true
is_accepted (edit_refused refusal) = false

-- the edit is not refused
abbrev pub IsAccepted : List Change → Edit → Type 0
IsAccepted past (n, None) = ⊤
IsAccepted past (n, Some t) = is_accepted (edit_answer (sources_after past) n (Some t)) ≡ true

-- none of the edits is refused, one after another
abbrev pub AreAccepted : List Change → List Edit → Type 0
AreAccepted past [] = ⊤
AreAccepted past (e ∷ edits) = IsAccepted past e × AreAccepted (opened_by past e) edits
