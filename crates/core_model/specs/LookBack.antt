-- The list of edits and results looked back at, the newest first: the last counted edit of a name, and the
-- last good result with no removal after it.
use Rattle.std.specs.Prelude.{ℕ, ◌+◌, List, [], ◌∷◌, Option, Some, None, if◌then◌else◌}
use Rattle.core_model.specs.Names.{Name, same_name}
use Rattle.core_model.specs.Sources.{Text, Change, edit, result, Source, Serving, EditAnswer, job, same}
use Rattle.core_model.specs.Sources.{removed, edit_refused, edit_answer, text_or_none, ResultAnswer, serve}
use Rattle.core_model.specs.Sources.{refuse, late, result_answer, sources_after}

-- 1 for an edit that is counted, 0 for another
abbrev pub counts : EditAnswer → ℕ
counts (job v) = 1
counts same = 0
counts (removed v) = 1
counts (edit_refused w) = 0

-- how many edits were counted
abbrev pub counted_edits : List Change → ℕ
counted_edits [] = 0
counted_edits (edit n t ∷ past) = counted_edits past + counts (edit_answer (sources_after past) n t)
counted_edits (result n t o v ∷ past) = counted_edits past

-- the number and the text of a counted edit, none where it is a removal; an edit that isn't counted leaves
-- the one before it
abbrev pub edited_last : EditAnswer → Option Text → Option (ℕ × Text) → Option (ℕ × Text)
edited_last (job v) t before = Some (v, text_or_none t)
edited_last same t before = before
edited_last (removed v) t before = None
edited_last (edit_refused w) t before = before

-- the last counted edit of n: its number and its text, none where it is a removal or there is none
abbrev pub last_edit : List Change → Name → Option (ℕ × Text)
last_edit [] n = None
last_edit (edit m t ∷ past) n =
    if same_name m n then edited_last (edit_answer (sources_after past) m t) t (last_edit past n)
    else last_edit past n
last_edit (result m t o v ∷ past) n = last_edit past n

-- a removal leaves none of the results before it
abbrev pub good_left : EditAnswer → Option Serving → Option Serving
good_left (job v) before = before
good_left same before = before
good_left (removed v) before = None
good_left (edit_refused w) before = before

-- a good result that isn't late comes in place of the one before it
abbrev pub good_last : ResultAnswer → Text → ℕ → Option Serving → Option Serving
good_last (serve a) t v before = Some (record { version = v; text = t; analysis = a })
good_last (refuse f) t v before = before
good_last late t v before = before

-- the last good result for n with no removal of n after it
abbrev pub last_good : List Change → Name → Option Serving
last_good [] n = None
last_good (edit m t ∷ past) n =
    if same_name m n then good_left (edit_answer (sources_after past) m t) (last_good past n)
    else last_good past n
last_good (result m t o v ∷ past) n =
    if same_name m n then good_last (result_answer (sources_after past) m t o v) t v (last_good past n)
    else last_good past n

-- the number and the text of a source
abbrev pub source_edit : Option Source → Option (ℕ × Text)
source_edit None = None
source_edit (Some s) = Some (s.version, s.text)
