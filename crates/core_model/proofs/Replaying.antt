-- Replays: one event more is one step more, and the sources are those of the edits and results, which leave
-- each page.
use Rattle.std.proofs.Common.{◌≡◌, ℕ, Bool, true, false, List, [], ◌∷◌, ◌++◌, refl, ap, ◌∙◌}
use Rattle.std.specs.Prelude.{Option, Some, None}
use Rattle.std.proofs.lemmas.List.{reverse-append}
use Rattle.core_model.specs.Names.{Name}
use Rattle.core_model.specs.Sources.{changed_by, sources_after, Sources, Change, edit, result, EditAnswer, job, same, removed, edit_refused, edit_answer, ResultAnswer, serve, refuse, late, result_answer}
use Rattle.core_model.specs.Client.{Client, told_of_edit, told_of_result}
use Rattle.core_model.specs.Requests.{Request}
use Rattle.core_model.specs.Roots.{are_bad, roots_or}
use Rattle.core_model.specs.Core.{Core, Event, change, connect, request, disconnect, is_full, if_room, connected, client_at, requested, disconnected, step, core_after, replay, changes_of, told_of}

pub one_more : (roots : List Name) (events : List Event) (event : Event) → replay roots (events ++ event ∷ []) ≡ (step roots (replay roots events) event).0
one_more roots events event = ap (core_after roots) (reverse-append events (event ∷ []))

room_sources : (full : Bool) (roots : List Name) (core : Core) → (if_room full roots core).0.sources ≡ core.sources
room_sources true roots core = refl
room_sources false roots core = refl

pub connected_sources : (bad : Bool) (roots : List Name) (core : Core) → (connected bad roots core).0.sources ≡ core.sources
connected_sources true roots core = refl
connected_sources false roots core = room_sources (is_full core) roots core

pub requested_sources : (c : Option Client) (i : ℕ) (core : Core) (r : Request) → (requested c i core r).0.sources ≡ core.sources
requested_sources None i core r = refl
requested_sources (Some c) i core r = refl

pub disconnected_sources : (c : Option Client) (i : ℕ) (core : Core) → (disconnected c i core).0.sources ≡ core.sources
disconnected_sources None i core = refl
disconnected_sources (Some c) i core = refl

-- the sources look back at the edits and results alone
pub sources_are : (roots : List Name) (past : List Event) → (core_after roots past).sources ≡ sources_after (changes_of past)
sources_are roots [] = refl
sources_are roots (change ch ∷ past) = ap (λ s. changed_by s ch) (sources_are roots past)
sources_are roots (connect names ∷ past) = connected_sources (are_bad names) (roots_or names roots) (core_after roots past) ∙ sources_are roots past
sources_are roots (request i r ∷ past) = requested_sources (client_at (core_after roots past).clients i) i (core_after roots past) r ∙ sources_are roots past
sources_are roots (disconnect i ∷ past) = disconnected_sources (client_at (core_after roots past).clients i) i (core_after roots past) ∙ sources_are roots past

edit_same : (answer : EditAnswer) (n : Name) (c : Client) → (told_of_edit answer n c).page ≡ c.page
edit_same (job v) n c = refl
edit_same same n c = refl
edit_same (removed v) n c = refl
edit_same (edit_refused w) n c = refl

result_same : (answer : ResultAnswer) (n : Name) (c : Client) → (told_of_result answer n c).page ≡ c.page
result_same (serve a) n c = refl
result_same (refuse f) n c = refl
result_same late n c = refl

-- an edit or a result leaves the page
pub change_stays : (s : Sources) (ch : Change) (c : Client) → (told_of s ch c).page ≡ c.page
change_stays s (edit n t) c = edit_same (edit_answer s n t) n c
change_stays s (result n t o v) c = result_same (result_answer s n t o v) n c
