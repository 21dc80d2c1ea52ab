-- The first edits and their results, one after another.
use Rattle.std.proofs.Common.{◌≡◌, ⊎_elim, inl, inr, ◌<◌, ◌≤◌, ◌+◌, arith, length, get_or, ℕ, true, false, List, [], ◌∷◌, ◌++◌, map, refl, ap, sym, ◌∙◌, subst, append_assoc}
use Rattle.std.specs.Global.{Vec}
use Rattle.std.specs.Option.{option_to_list}
use Rattle.std.specs.Prelude.{All, IfErr, IfSome, OnErr, OnOk, Option, Some, None, Result, Ok, Err, is_ok}
use Rattle.std.proofs.lemmas.List.{append-nil, map-append, reverse-append}
use Rattle.std.proofs.lemmas.List.Elements.{All-map, All-push, All-weaker}
use Rattle.hmr_types.specs.declared.limits.TheConstants.{MESSAGE_BYTES}
use Rattle.hmr_types.specs.declared.words.EditRefusal.{EditRefusal}
use Rattle.core_model.specs.Formed.{IsVersion}
use Rattle.core_model.specs.Sources.{Change, EditAnswer, edit, edit_answer, edit_refused, job, removed, same, sources_after}
use Rattle.core_model.specs.Core.{Event, change, changes_of, connect, disconnect, request}
use Rattle.core_model.specs.Transcript.{Recorded, events_of}
use Rattle.version_map.specs.declared.outcome.EditOutcome.TheVariants.{Job, Same, Removed}
use Rattle.events_and_replies.specs.declared.event.Reply.{Reply}
use Rattle.events_and_replies.specs.declared.event.Reply.TheVariants as replies
use Rattle.events_and_replies.specs.Said.{edit_said}
use Rattle.transforms.specs.Transform.{Transform}
use Rattle.hmr_hub.specs.declared.pass.Pass.{Pass}
use Rattle.hmr_hub.specs.Passes.{is_alone, seen_of}
use Rattle.transcripts.specs.Transcripts.{past_of}
use Rattle.transform_pool.specs.Results.{result_of}
use Rattle.transform_pool.specs.Tasks.{Task}
use Rattle.hub_editor.specs.Edits.{Answer, Edit, IsWorkable, edit_entry, edit_event, edits_in, jobs_from, reply_of, text_in}
use Rattle.hub_editor.specs.Results.{result_entry, sources_in}
use Rattle.hub_editor.specs.Editing.{Settled, Told, Went}
use Rattle.hub_editor.specs.Openings.{AreAccepted, BeginsOpening, BeginsResults, IsRefusalStop, Opening, StopsFirst, StopsOpening, is_accepted, job_at, jobs_after, jobs_as, opening, told_entries}
use Rattle.hub_editor.specs.Causes.{IsRoomStop, IsStopFor}
use Rattle.hub_editor.specs.declared.stop.EditStop.{EditStop}

-- the edits as changes, the newest first
abbrev changes : List Edit → List Change
changes [] = []
changes (e ∷ edits) = changes edits ++ edit e.0 e.1 ∷ []

-- the job of an edit, by its reply
abbrev jobs_by : Edit → Reply → List Task
jobs_by (n, None) reply = []
jobs_by (n, Some t) (replies.Edited (Job v)) = record { name = n; text = t; ver = v } ∷ []
jobs_by (n, Some t) (replies.Edited Same) = []
jobs_by (n, Some t) (replies.Edited (Removed v)) = []
jobs_by (n, Some t) (replies.EditRefused refusal) = []
jobs_by (n, Some t) (replies.Settled settled) = []
jobs_by (n, Some t) (replies.To message) = []
jobs_by (n, Some t) (replies.Refused refusal) = []
jobs_by (n, Some t) replies.Gone = []

jobs_said : (e : Edit) (x : EditAnswer) → jobs_as e x ≡ jobs_by e (edit_said x)
jobs_said (n, None) x = refl
jobs_said (n, Some t) (job v) = refl
jobs_said (n, Some t) same = refl
jobs_said (n, Some t) (removed v) = refl
jobs_said (n, Some t) (edit_refused w) = refl

jobs_reply : (e : Edit) (a : Answer) → jobs_by e (reply_of a) ≡ jobs_from e a
jobs_reply (n, None) a = refl
jobs_reply (n, Some t) (Ok (Job v)) = refl
jobs_reply (n, Some t) (Ok Same) = refl
jobs_reply (n, Some t) (Ok (Removed v)) = refl
jobs_reply (n, Some t) (Err w) = refl

jobs_same : (e : Edit) (x : EditAnswer) (a : Answer) → edit_said x ≡ reply_of a → jobs_as e x ≡ jobs_from e a
jobs_same e x a said = jobs_said e x ∙ (ap (jobs_by e) said ∙ jobs_reply e a)

-- the jobs of more edits
jobs_more : (past : List Change) (edits more : List Edit) → jobs_after past (edits ++ more) ≡ jobs_after past edits ++ jobs_after (changes edits ++ past) more
jobs_more past [] more = refl
jobs_more past (e ∷ edits) more =
    let one = jobs_as e (edit_answer (sources_after past) e.0 e.1) in
    ap (λ jobs. one ++ jobs) (jobs_more (edit e.0 e.1 ∷ past) edits more)
    ∙ (sym (append_assoc one (jobs_after (edit e.0 e.1 ∷ past) edits) (jobs_after (changes edits ++ edit e.0 e.1 ∷ past) more))
    ∙ ap (λ cs. (one ++ jobs_after (edit e.0 e.1 ∷ past) edits) ++ jobs_after cs more) (sym (append_assoc (changes edits) (edit e.0 e.1 ∷ []) past)))

changes_more : (xs ys : List Event) → changes_of (xs ++ ys) ≡ changes_of xs ++ changes_of ys
changes_more [] ys = refl
changes_more (change ch ∷ xs) ys = ap (λ cs. ch ∷ cs) (changes_more xs ys)
changes_more (connect names ∷ xs) ys = changes_more xs ys
changes_more (request i r ∷ xs) ys = changes_more xs ys
changes_more (disconnect i ∷ xs) ys = changes_more xs ys

changes_are : (edits : List Edit) → changes_of (past_of (map edit_entry edits)) ≡ changes edits
changes_are [] = refl
changes_are (e ∷ edits) =
    ap changes_of (reverse-append (edit_event e ∷ []) (events_of (map edit_entry edits)))
    ∙ (changes_more (past_of (map edit_entry edits)) (edit_event e ∷ []) ∙ ap (λ cs. cs ++ edit e.0 e.1 ∷ []) (changes_are edits))

-- more edits that are accepted
accepted_more : (past : List Change) (edits more : List Edit) → AreAccepted past edits → AreAccepted (changes edits ++ past) more → AreAccepted past (edits ++ more)
accepted_more past [] more h k = k
accepted_more past (e ∷ edits) more h k = (
  h.0,
  accepted_more (edit e.0 e.1 ∷ past) edits more h.1
      (subst (λ cs. AreAccepted cs more) (append_assoc (changes edits) (edit e.0 e.1 ∷ []) past) k),
)

accepted_said : (x : EditAnswer) (a : Answer) → edit_said x ≡ reply_of a → is_ok a ≡ true → is_accepted x ≡ true
accepted_said (job v) a said ok = refl
accepted_said same a said ok = refl
accepted_said (removed v) a said ok = refl
accepted_said (edit_refused w) (Ok outcome) said ok = let z : replies.EditRefused w ≡ replies.Edited outcome = said in cc
accepted_said (edit_refused w) (Err refusal) said ok = absurd (let z : false ≡ true = ok in cc)

pub opening_none : (p : Pass) → seen_of p ≡ [] → Opening [] p []
opening_none p fresh = record { seen = fresh; accepted = tt; jobs_are = refl }

-- one edit more
pub opening_more : (p q : Pass) (edits : List Edit) (jobs : List Task) (e : Edit) (a : Answer) → is_alone p ≡ true → is_ok a ≡ true → Opening edits p jobs → Told e a p q
    → Opening (edits ++ e ∷ []) q (jobs ++ jobs_from e a)
opening_more p q edits jobs e a alone ok o told = record {
  accepted =
      let sources : sources_in (seen_of p) ≡ sources_after (changes edits ++ []) =
      ap sources_in o.seen ∙ (ap sources_after (changes_are edits) ∙ ap sources_after (sym (append-nil (changes edits)))) in
      accepted_more [] edits (e ∷ []) o.accepted
      (subst (λ s. is_accepted (edit_answer s e.0 e.1) ≡ true) sources (accepted_said (edit_answer (sources_in (seen_of p)) e.0 e.1) a (told.first alone) ok), tt);
  seen = told.alone alone ∙ (ap (λ es. es ++ edit_entry e ∷ []) o.seen ∙ sym (map-append edit_entry edits (e ∷ [])));
  jobs_are =
      let sources : sources_in (seen_of p) ≡ sources_after (changes edits ++ []) =
      ap sources_in o.seen ∙ (ap sources_after (changes_are edits) ∙ ap sources_after (sym (append-nil (changes edits)))) in
      let one : jobs_from e a ≡ jobs_as e (edit_answer (sources_after (changes edits ++ [])) e.0 e.1) ++ [] =
      sym (jobs_same e (edit_answer (sources_in (seen_of p)) e.0 e.1) a (told.first alone))
      ∙ (ap (λ s. jobs_as e (edit_answer s e.0 e.1)) sources ∙ sym (append-nil (jobs_as e (edit_answer (sources_after (changes edits ++ [])) e.0 e.1)))) in
      ap (λ js. js ++ jobs_from e a) o.jobs_are ∙ (ap (λ js. jobs_after [] edits ++ js) one ∙ sym (jobs_more [] edits (e ∷ [])));
}

-- the results of jobs, with their versions
told_results : (jobs : List Task) → told_entries (map result_of jobs) (map (λ work. work.ver) jobs) ≡ map result_entry jobs
told_results [] = refl
told_results (work ∷ jobs) = ap (λ es. result_entry work ∷ es) (told_results jobs)

-- the edits that a pass has seen, and then their results
opening_is : (p : Pass) (edits : List Edit) (jobs : List Task) (done : List Transform) (versions : List ℕ) → Opening edits p jobs
    → done ≡ map result_of jobs → versions ≡ map (λ work. work.ver) jobs → seen_of p ++ told_entries done versions ≡ opening edits
opening_is p edits jobs done versions o d v =
    ap (λ ds. seen_of p ++ told_entries ds versions) d ∙ (ap (λ vs. seen_of p ++ told_entries (map result_of jobs) vs) v
    ∙ (ap (λ es. seen_of p ++ es) (told_results jobs ∙ ap (map result_entry) o.jobs_are) ∙ ap (λ es. es ++ map result_entry (jobs_after [] edits)) o.seen))

-- all was told
pub opening_all : (p q : Pass) (edits : List Edit) (jobs : List Task) (done : List Transform) (versions : List ℕ) → Opening edits p jobs
    → done ≡ map result_of jobs → versions ≡ map (λ work. work.ver) jobs → seen_of q ≡ seen_of p ++ told_entries done versions → seen_of q ≡ opening edits
opening_all p q edits jobs done versions o d v e = e ∙ opening_is p edits jobs done versions o d v

-- a front was told: of the edits
pub begins_edits : (p : Pass) (front back edits : List Edit) → seen_of p ≡ map edit_entry front → front ++ back ≡ edits → BeginsOpening edits p
begins_edits p front back edits seen whole =
    let results = map result_entry (jobs_after [] edits) in
    record {
      rest = map edit_entry back ++ results;
      front =
          ap (λ es. es ++ (map edit_entry back ++ results)) seen
          ∙ (sym (append_assoc (map edit_entry front) (map edit_entry back) results)
          ∙ ap (λ es. es ++ results) (sym (map-append edit_entry front back) ∙ ap (map edit_entry) whole));
    }

pub begins_told : (p : Pass) (edits : List Edit) (jobs : List Task) → Opening edits p jobs → BeginsOpening edits p
begins_told p edits jobs o = begins_edits p edits [] edits o.seen (append-nil edits)

-- or of the results
pub begins_results : (p q : Pass) (edits : List Edit) (jobs : List Task) (done : List Transform) (versions : List ℕ) → Opening edits p jobs
    → done ≡ map result_of jobs → versions ≡ map (λ work. work.ver) jobs → BeginsResults done versions p q → BeginsOpening edits q
begins_results p q edits jobs done versions o d v h = record { rest = h.rest; front = h.front ∙ opening_is p edits jobs done versions o d v }

-- one of the first edits was told or not, and it stopped
pub begins_stopped : (p q : Pass) (done : List (List ℕ × Option (Vec ℕ))) (e : List ℕ × Option (Vec ℕ)) (left edits : List (List ℕ × Option (Vec ℕ))) (stop : EditStop) → done ++ e ∷ left ≡ edits
    → seen_of p ≡ map edit_entry (edits_in done) → StopsFirst (e.0, text_in e.1) p q stop → BeginsOpening (edits_in edits) q
begins_stopped p q done e left edits stop whole seen (inl none) =
    begins_edits q (edits_in done) (edits_in (e ∷ left)) (edits_in edits) (none.0 ∙ seen)
    (sym (map-append (λ (x : List ℕ × Option (Vec ℕ)). (x.0, text_in x.1)) done (e ∷ left)) ∙ ap edits_in whole)
begins_stopped p q done e left edits stop whole seen (inr one) =
    let told : List Edit = (e.0, text_in e.1) ∷ [] in
    begins_edits q (edits_in done ++ told) (edits_in left) (edits_in edits)
    (one.0 ∙ (ap (λ es. es ++ map edit_entry told) seen ∙ sym (map-append edit_entry (edits_in done) told)))
    (append_assoc (edits_in done) told (edits_in left)
    ∙ (sym (map-append (λ (x : List ℕ × Option (Vec ℕ)). (x.0, text_in x.1)) done (e ∷ left)) ∙ ap edits_in whole))

-- the answer was this refusal
refusal_said : (x : EditAnswer) (refusal : EditRefusal) (stop : EditStop) → edit_said x ≡ replies.EditRefused refusal → IsStopFor refusal stop → IsRefusalStop x stop
refusal_said (job v) refusal stop said h = absurd (cc)
refusal_said same refusal stop said h = absurd (cc)
refusal_said (removed v) refusal stop said h = absurd (cc)
refusal_said (edit_refused w) refusal stop said h = let e : w ≡ refusal = cc in subst (λ r. IsStopFor r stop) (sym e) h

-- an edit was refused
pub first_refused : (p q : Pass) (told e : Edit) (a : Answer) (refusal : EditRefusal) (stop : EditStop) → is_alone p ≡ true → told ≡ e → a ≡ Err refusal → IsStopFor refusal stop → Told told a p q → StopsFirst e p q stop
first_refused p q told e a refusal stop alone is answer h t =
    subst (λ x. StopsFirst x p q stop) is
    (inr (t.alone alone, refusal_said (edit_answer (sources_in (seen_of p)) told.0 told.1) refusal stop (t.first alone ∙ ap reply_of answer) h))

-- where it stopped: at an edit
pub stops_at : (p q : Pass) (done : List (List ℕ × Option (Vec ℕ))) (e : List ℕ × Option (Vec ℕ)) (left edits : List (List ℕ × Option (Vec ℕ))) (jobs : List Task) (stop : EditStop) → done ++ e ∷ left ≡ edits
    → Opening (edits_in done) p jobs → StopsFirst (e.0, text_in e.1) p q stop → StopsOpening (edits_in edits) q stop
stops_at p q done e left edits jobs stop whole o h =
    let told : List Edit = (e.0, text_in e.1) ∷ [] in
    record {
      accepted = edits_in done;
      left = edits_in (e ∷ left);
      whole = sym (map-append (λ (x : List ℕ × Option (Vec ℕ)). (x.0, text_in x.1)) done (e ∷ left)) ∙ ap edits_in whole;
      none_refused = o.accepted;
      end = ⊎_elim
          (λ (none : (seen_of q ≡ seen_of p) × IsRoomStop stop). inl (none.1, inr (none.0 ∙ o.seen)))
          (λ (one : (seen_of q ≡ seen_of p ++ edit_entry (e.0, text_in e.1) ∷ []) × IsRefusalStop (edit_answer (sources_in (seen_of p)) e.0 (text_in e.1)) stop).
          inr (
            (e.0, text_in e.1),
            one.0 ∙ (ap (λ es. es ++ map edit_entry told) o.seen ∙ sym (map-append edit_entry (edits_in done) told)),
            subst (λ entries. IsRefusalStop (edit_answer (sources_in entries) e.0 (text_in e.1)) stop) o.seen one.1,
          ))
          h;
    }

-- behind edits that were accepted
pub stops_behind : (p : Pass) (done left edits : List Edit) (jobs : List Task) (stop : EditStop) → done ++ left ≡ edits → Opening done p jobs → IsRoomStop stop → StopsOpening edits p stop
stops_behind p done left edits jobs stop whole o room = record { accepted = done; left = left; whole = whole; none_refused = o.accepted; end = inl (room, inr o.seen) }

-- or behind all of them
pub stops_later : (p q : Pass) (edits : List Edit) (jobs : List Task) (stop : EditStop) → Opening edits p jobs → IsRoomStop stop → StopsOpening edits q stop
stops_later p q edits jobs stop o room = record { accepted = edits; left = []; whole = append-nil edits; none_refused = o.accepted; end = inl (room, inl refl) }

-- results behind others
told_front : (done more : List Transform) (versions : List ℕ) → (rest : List Recorded) × (told_entries done versions ++ rest ≡ told_entries (done ++ more) versions)
told_front [] more versions = (told_entries more versions, refl)
told_front (d ∷ done) more [] = ([], refl)
told_front (d ∷ done) more (v ∷ versions) =
    let t = told_front done more versions in (t.0, ap (λ es. result_entry (job_at d v) ∷ es) t.1)

pub results_stopped : (p q r : Pass) (done left all : List Transform) (versions : List ℕ) → done ++ left ≡ all → seen_of q ≡ seen_of p ++ told_entries done versions
    → seen_of r ≡ seen_of q → BeginsResults all versions p r
results_stopped p q r done left all versions whole seen none =
    let t = told_front done left versions in
    record {
      rest = t.0;
      front =
          ap (λ es. es ++ t.0) (none ∙ seen)
          ∙ (append_assoc (seen_of p) (told_entries done versions) t.0
          ∙ ap (λ es. seen_of p ++ es) (t.1 ∙ ap (λ ds. told_entries ds versions) whole));
    }

-- nothing of a pass that is alone came
pub still_alone : (p q : Pass) → is_alone p ≡ true → Went p q [] → seen_of q ≡ seen_of p
still_alone p q alone w = w.alone alone ∙ append-nil (seen_of p)

-- one result more was told
pub told_more : (done : List Transform) (d : Transform) (versions : List ℕ) (x : ℕ) → length done < length versions
    → told_entries (done ++ d ∷ []) versions ≡ told_entries done versions ++ result_entry (job_at d (get_or versions (length done) x)) ∷ []
told_more [] d [] x few = absurd (omega (arith, few))
told_more [] d (v ∷ versions) x few = refl
told_more (y ∷ done) d [] x few = absurd (omega (arith, few))
told_more (y ∷ done) d (v ∷ versions) x few = ap (λ es. result_entry (job_at y v) ∷ es) (told_more done d versions x (omega (arith, few)))

-- in what the pass has seen
pub told_then : (p q r : Pass) (done now : List Transform) (d : Transform) (versions : List ℕ) (x : ℕ) → length done < length versions → now ≡ done ++ d ∷ [] → is_alone q ≡ true
    → seen_of q ≡ seen_of p ++ told_entries done versions → Settled (job_at d (get_or versions (length done) x)) q r → seen_of r ≡ seen_of p ++ told_entries now versions
told_then p q r done now d versions x few is alone seen s =
    let entry = result_entry (job_at d (get_or versions (length done) x)) ∷ [] in
    s.went.alone alone
    ∙ (ap (λ es. es ++ entry) seen ∙ (append_assoc (seen_of p) (told_entries done versions) entry
    ∙ ap (λ es. seen_of p ++ es) (sym (told_more done d versions x few) ∙ ap (λ ds. told_entries ds versions) (sym is))))

-- one of the first edits more was told
pub opening_then : (edits : List (List ℕ × Option (Vec ℕ))) (e : List ℕ × Option (Vec ℕ)) (now : List (List ℕ × Option (Vec ℕ))) (p : Pass) (jobs : List Task) → now ≡ edits ++ e ∷ []
    → Opening (edits_in edits ++ (e.0, text_in e.1) ∷ []) p jobs → Opening (edits_in now) p jobs
opening_then edits e now p jobs is o =
    subst (λ es. Opening es p jobs) (sym (ap edits_in is ∙ map-append (λ (x : List ℕ × Option (Vec ℕ)). (x.0, text_in x.1)) edits (e ∷ []))) o

-- the results of workable jobs can be told
pub workable_done : (jobs : List Task) (done : List Transform) → done ≡ map result_of jobs → All IsWorkable jobs → All (λ d. length d.name + length d.text ≤ MESSAGE_BYTES) done
workable_done jobs done e h =
    subst (λ ds. All (λ (d : Transform). length d.name + length d.text ≤ MESSAGE_BYTES) ds) (sym e)
    (All-map (λ (d : Transform). length d.name + length d.text ≤ MESSAGE_BYTES) result_of jobs (All-weaker IsWorkable (λ work. length work.name + length work.text ≤ MESSAGE_BYTES) (λ work w. w.short) jobs h))

pub workable_versions : (jobs : List Task) (versions : List ℕ) → versions ≡ map (λ work. work.ver) jobs → All IsWorkable jobs → All IsVersion versions
workable_versions jobs versions e h =
    subst (λ vs. All IsVersion vs) (sym e) (All-map IsVersion (λ (work : Task). work.ver) jobs (All-weaker IsWorkable (λ work. IsVersion work.ver) (λ work w. w.version) jobs h))

pub workable_more : (jobs now : List Task) (work : Option Task) → now ≡ jobs ++ option_to_list work → All IsWorkable jobs → IfSome work IsWorkable → All IsWorkable now
workable_more jobs now None e h w = subst (λ ws. All IsWorkable ws) (sym (e ∙ append-nil jobs)) h
workable_more jobs now (Some work) e h w = subst (λ ws. All IsWorkable ws) (sym e) (All-push IsWorkable jobs work h w)

pub on_err_then : {T F : Type 0} {A B : Type 0} (r : Result T F) → OnErr r A → (A → B) → OnErr r B
on_err_then (Ok x) a f = tt
on_err_then (Err e) a f = f a

pub if_err_then : {T : Type 0} {P Q : EditStop → Type 0} (r : Result T EditStop) → IfErr r P → ((stop : EditStop) → P stop → Q stop) → IfErr r Q
if_err_then (Ok x) h f = tt
if_err_then (Err stop) h f = f stop h

pub on_ok : {T F : Type 0} {A B : Type 0} (r : Result T F) → OnOk r A → (A → B) → OnOk r B
on_ok (Ok x) a f = f a
on_ok (Err e) a f = tt
