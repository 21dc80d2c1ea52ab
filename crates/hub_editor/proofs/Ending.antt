-- At the end the job of each name's last counted edit has its result.
use Rattle.std.proofs.Common.{◌≡◌, ◌<◌, ◌+◌, ℕ, Bool, true, false, List, [], ◌∷◌, length, drop, get_or, refl, ap, sym, ◌∙◌, subst}
use Prim.{⊥}
use Rattle.std.specs.Prelude.{All, Option, Some, None, is_some, nat_le, Ok, Err, if◌then◌else◌}
use Rattle.std.proofs.Math.ListN.{set}
use Rattle.std.proofs.lemmas.List.{drop-set}
use Rattle.std.proofs.lemmas.List.Elements.{All-cons, All-get_or, All-weaker}
use Rattle.hmr_types.specs.declared.limits.TheConstants.{LARGEST_NUMBER}
use Rattle.hmr_types.specs.declared.words.EditRefusal.TheVariants.{NumbersSpent}
use Rattle.core_model.specs.Sources.{EditAnswer, Source, Sources, Text, answer_for, edit_refused, numbered, removed, same, text_or_none}
use Rattle.core_model.specs.Names.{Name, at}
use Rattle.core_model.specs.Transcript.{Recorded}
use Rattle.version_map.specs.declared.outcome.EditOutcome.TheVariants.{Job, Same, Removed}
use Rattle.events_and_replies.specs.declared.event.Reply.TheVariants.{Edited as edited_reply}
use Rattle.events_and_replies.specs.Said.{edit_said}
use Rattle.transform_pool.specs.Tasks.{Task}
use Rattle.hmr_hub.specs.declared.pass.Pass.{Pass}
use Rattle.hmr_hub.specs.Calls.{SameKnower}
use Rattle.hmr_hub.specs.Passes.{HasTranscript, roots_of, seen_of}
use Rattle.transcripts.specs.Transcripts as hub
use Rattle.hmr_hub.specs.Moves.{Moved, own_of}
use Rattle.hub_editor.specs.declared.worked.Worked.TheVariants.{AtEnd}
use Rattle.hub_editor.specs.Edits.{Answer, Edit, Made, edit_of, jobs_from, jobs_of, last_of, reply_of}
use Rattle.hub_editor.specs.Results.{HasOwnResults, HasResult, last_in, sources_in}
use Rattle.hub_editor.specs.Editing.{Edited, HaveLastResults, IsAnswered, SameEdits, Steps, Went}
use Rattle.hub_editor.proofs.Finding.{result_there}
use Rattle.hub_editor.proofs.Lasting.{IsTexted, last_anyhow, last_is_one, last_same}
use Rattle.hub_editor.proofs.LookingBack.{said_edit}
use Rattle.hub_editor.proofs.Steps.{all_at, answered_all, result_moved, step_jobs, step_moved}

-- A removal brings no job.

no_job_if : (v : ℕ) (b : Bool) (x y : EditAnswer) → (edit_said x ≡ edited_reply (Job v) → ⊥) → (edit_said y ≡ edited_reply (Job v) → ⊥) → edit_said (if b then x else y) ≡ edited_reply (Job v) → ⊥
no_job_if v true x y p q h = p h
no_job_if v false x y p q h = q h

removal_no_job : (old : Option Source) (s : Sources) (v : ℕ) → edit_said (answer_for old s None) ≡ edited_reply (Job v) → ⊥
removal_no_job old s v h =
    no_job_if v (is_some old) (numbered removed s.counted) same
    (no_job_if v (nat_le LARGEST_NUMBER s.counted) (edit_refused NumbersSpent) (removed (s.counted + 1)) (λ e. cc) (λ e. cc)) (λ e. cc) h

text_there : (q : Pass) (m : Made) (t : Option Text) (v : ℕ) → m.text ≡ t → m.answer ≡ Ok (Job v) → IsAnswered q m → m.text ≡ Some (text_or_none m.text)
text_there q m (Some t) v e a h = e ∙ ap Some (sym (ap text_or_none e))
text_there q m None v e a h =
    let said : edit_said (answer_for (at (sources_in h.before).current m.name) (sources_in h.before) m.text) ≡ edited_reply (Job v) =
    sym (said_edit (roots_of q) h.before (edit_of m)) ∙ (h.reply_is ∙ ap reply_of a) in
    absurd (removal_no_job (at (sources_in h.before).current m.name) (sources_in h.before) v (subst (λ t. edit_said (answer_for (at (sources_in h.before).current m.name) (sources_in h.before) t) ≡ edited_reply (Job v)) e said))

all_texted : (q : Pass) (made : List Made) → All (IsAnswered q) made → All IsTexted made
all_texted q made h = All-weaker (IsAnswered q) IsTexted (λ m a v e. text_there q m m.text v refl e a) made h

-- the job of an edit has its result, where it is the last counted one of its name
abbrev pub HasLast : List Recorded → List Made → Made → Type 0
HasLast entries made m = (work : Task) → jobs_of m ≡ work ∷ [] → last_of made None work.name ≡ Some (work.ver, work.text) → HasResult entries work

last_moved : (q r : Pass) (mine : List Recorded) (made ms : List Made) → Moved q r mine → All (HasLast (seen_of q) made) ms → All (HasLast (seen_of r) made) ms
last_moved q r mine made ms m h = All-weaker (HasLast (seen_of q) made) (HasLast (seen_of r) made) (λ x k work e l. result_moved q r mine work m (k work e l)) ms h

-- one more of them, from the last on
pub rest_step : (p q r : Pass) (first made : List Made) (i : ℕ) (m n : Made) → i < length made → m ≡ get_or made i m → SameEdits first made → Edited p q made → Steps AtEnd m n q r
    → (HasOwnResults (seen_of q) m → (work : Task) → jobs_of m ≡ work ∷ [] → last_in (seen_of q) work.name ≡ Some (work.ver, work.text) → HasResult (seen_of r) work)
    → All (HasLast (seen_of q) first) (drop (i + 1) made) → All (HasLast (seen_of r) first) (drop i (set made i n))
rest_step p q r first made i m n below read edits x step resulted h =
    let own : HasOwnResults (seen_of q) m = subst (λ y. HasOwnResults (seen_of q) y) (sym read) (All-get_or (HasOwnResults (seen_of q)) made i m below x.results) in
    let one : HasLast (seen_of r) first n = λ work e last.
    resulted own work (sym (step_jobs step) ∙ e)
    (x.sources work.name ∙ (last_same first made (last_in (seen_of p) work.name) work.name edits ∙ last_anyhow first (last_in (seen_of p) work.name) work.name (work.ver, work.text) last)) in
    subst (λ ms. All (HasLast (seen_of r) first) ms) (sym (drop-set made i n below))
    (All-cons (HasLast (seen_of r) first) n (drop (i + 1) made) one (last_moved q r (step_moved step).0 first (drop (i + 1) made) (step_moved step).1 h))

-- all of them
pub rest_all : (p q : Pass) (first made : List Made) → SameEdits first made → Edited p q made → All (HasLast (seen_of q) first) made → HaveLastResults q made
rest_all p q first made edits x h = λ work last.
    let o = last_is_one made work.name (work.ver, work.text) (all_texted q made (answered_all q (own_of p) made x.answered)) last in
    all_at (HasLast (seen_of q) first) o.front o.back o.one (subst (λ ms. All (HasLast (seen_of q) first) ms) o.whole h) work o.jobs (sym (last_same first made None work.name edits) ∙ last)

named : (e : Edit) (a : Answer) (work : Task) → jobs_from e a ≡ work ∷ [] → work.name ≡ e.0
named (n, None) a work e = cc
named (n, Some t) (Ok (Job v)) work e = let one : record { name = n; text = t; ver = v } ≡ work = cc in sym (ap (λ (w : Task). w.name) one)
named (n, Some t) (Ok Same) work e = cc
named (n, Some t) (Ok (Removed v)) work e = cc
named (n, Some t) (Err refusal) work e = cc

-- the hub told that the name isn't outstanding
pub look_resulted : (p q : Pass) (m : Made) (n : Name) (told : Bool) → SameKnower p q → Went p q [] → HasTranscript q → n ≡ m.name
    → told ≡ hub.is_outstanding (roots_of p) (seen_of q) n → told ≡ false
    → (work : Task) → jobs_of m ≡ work ∷ [] → last_in (seen_of p) work.name ≡ Some (work.ver, work.text) → HasResult (seen_of q) work
look_resulted p q m n told knower w t is looked quiet work e last =
    let name : work.name ≡ n = named (edit_of m) m.answer work e ∙ sym is in
    result_there (roots_of q) (seen_of q) work t (w.sources work.name ∙ last)
    (ap (λ roots. hub.is_outstanding roots (seen_of q) work.name) knower.roots ∙ (ap (λ k. hub.is_outstanding (roots_of p) (seen_of q) k) name ∙ (sym looked ∙ quiet)))
