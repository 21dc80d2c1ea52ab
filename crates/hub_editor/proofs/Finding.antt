-- A source whose result came has it in the transcript.
use Rattle.std.proofs.Common.{◌≡◌, ℕ, Bool, true, false, List, [], ◌∷◌, ◌++◌, reverse, refl, ap, sym, ◌∙◌, subst}
use Rattle.std.specs.Prelude.{All, Option, Some, None, if◌then◌else◌}
use Rattle.std.proofs.lemmas.Bool.{false≢true}
use Rattle.std.proofs.lemmas.List.{append_assoc, reverse-append, reverse-reverse}
use Rattle.std.proofs.lemmas.List.Elements.{All-head, All-tail}
use Rattle.std.proofs.lemmas.Option.{same_Some}
use Rattle.hmr_types.specs.declared.analysis.Outcome.{Outcome}
use Rattle.module_semantics.specs.Analysis.{transformed}
use Rattle.module_semantics.specs.ModuleText.{parsing}
use Rattle.core_model.specs.LookBack.{source_edit}
use Rattle.core_model.specs.Names.{Name, at, same_name, with_row}
use Rattle.core_model.specs.Sources.{EditAnswer, ResultAnswer, Source, Sources, Text, Verdict, after_edit, after_result, bad, edit, edit_answer, edit_refused, good, is_outstanding, job, late, outstanding, refuse, removed, result, result_answer, same, serve, sources_after, text_or_none}
use Rattle.core_model.specs.Core.{Event, change, changes_of, connect, disconnect, request}
use Rattle.core_model.specs.Transcript.{IsTrueEvent, Recorded, events_of}
use Rattle.core_model.proofs.LookingBack.{current_is}
use Rattle.core_model.proofs.Naming.{same_true}
use Rattle.core_model.proofs.Replaying.{sources_are}
use Rattle.core_model.proofs.Tables.{at_without, at_with_row}
use Rattle.version_map.specs.Standing.{outstanding_in}
use Rattle.transcripts.specs.Transcripts as hub
use Rattle.transcripts.specs.Transcripts.{IsTranscript, past_of}
use Rattle.transform_pool.specs.Tasks.{Task}
use Rattle.hub_editor.specs.Results.{HasResult, last_in, result_event, sources_in}

-- a result of the source's text and version is among the events
record Came (past : List Event) (n : Name) (s : Source) : Type 0 where
  outcome : Outcome
  front : List Event
  back : List Event
  whole : past ≡ front ++ change (result n s.text outcome s.version) ∷ back

came_more : (event : Event) (past : List Event) (n : Name) (s : Source) → Came past n s → Came (event ∷ past) n s
came_more event past n s c = record { outcome = c.outcome; front = event ∷ c.front; back = c.back; whole = ap (λ es. event ∷ es) c.whole }

-- the result came, where the name's source isn't outstanding
abbrev IsThere : List Event → Name → Option Source → Type 0
IsThere past n o = (s : Source) → o ≡ Some s → is_outstanding s.verdict ≡ false → Came past n s

there_more : (event : Event) (past : List Event) (n : Name) (o : Option Source) → IsThere past n o → IsThere (event ∷ past) n o
there_more event past n o h s e v = came_more event past n s (h s e v)

there_none : (past : List Event) (n : Name) → IsThere past n None
there_none past n s e v = cc

there_if : (past : List Event) (n : Name) (b : Bool) (x o : Option Source) → (b ≡ true → IsThere past n x) → IsThere past n o → IsThere past n (if b then x else o)
there_if past n true x o f h = f refl
there_if past n false x o f h = h

there_edit : (past : List Event) (m : Name) (t : Option Text) (n : Name) (s : Sources) (answer : EditAnswer)
    → IsThere past n (at s.current n) → IsThere past n (at (after_edit answer m t s).current n)
there_edit past m t n s (job v) h =
    let x : Source = record { version = v; text = text_or_none t; verdict = outstanding } in
    subst (λ o. IsThere past n o) (sym (at_with_row m x s.current n)) (there_if past n (same_name m n) (Some x) (at s.current n) (λ b y e q. absurd (false≢true (sym (ap (λ z. is_outstanding z.verdict) (same_Some x y e) ∙ q)))) h)
there_edit past m t n s same h = h
there_edit past m t n s (removed v) h = subst (λ o. IsThere past n o) (sym (at_without m s.current n)) (there_if past n (same_name m n) None (at s.current n) (λ b. there_none past n) h)
there_edit past m t n s (edit_refused w) h = h

there_result : (past : List Event) (m : Name) (t : Text) (o : Outcome) (v : ℕ) (verdict : Verdict) (n : Name) (s : Sources)
    → IsThere past n (at s.current n)
    → IsThere (change (result m t o v) ∷ past) n (at (with_row m (record { version = v; text = t; verdict = verdict }) s.current) n)
there_result past m t o v verdict n s h =
    let x : Source = record { version = v; text = t; verdict = verdict } in
    let now : List Event = change (result m t o v) ∷ past in
    let here : same_name m n ≡ true → IsThere now n (Some x) = λ b y e q. record {
      outcome = o;
      front = [];
      back = past;
      whole = ap (λ k. change (result k t o v) ∷ past) (same_true m n b) ∙ ap (λ (z : Source). change (result n z.text o z.version) ∷ past) (same_Some x y e);
    } in
    subst (λ found. IsThere now n found) (sym (at_with_row m x s.current n)) (there_if now n (same_name m n) (Some x) (at s.current n) here (there_more (change (result m t o v)) past n (at s.current n) h))

there_answer : (past : List Event) (m : Name) (t : Text) (o : Outcome) (v : ℕ) (n : Name) (s : Sources) (answer : ResultAnswer)
    → IsThere past n (at s.current n) → IsThere (change (result m t o v) ∷ past) n (at (after_result answer m t v s).current n)
there_answer past m t o v n s (serve a) h = there_result past m t o v good n s h
there_answer past m t o v n s (refuse f) h = there_result past m t o v (bad f) n s h
there_answer past m t o v n s late h = there_more (change (result m t o v)) past n (at s.current n) h

there : (past : List Event) (n : Name) → IsThere past n (at (sources_after (changes_of past)).current n)
there [] n = there_none [] n
there (change (edit m t) ∷ past) n =
    there_more (change (edit m t)) past n (at (sources_after (edit m t ∷ changes_of past)).current n) (there_edit past m t n (sources_after (changes_of past)) (edit_answer (sources_after (changes_of past)) m t) (there past n))
there (change (result m t o v) ∷ past) n = there_answer past m t o v n (sources_after (changes_of past)) (result_answer (sources_after (changes_of past)) m t o v) (there past n)
there (connect names ∷ past) n = there_more (connect names) past n (at (sources_after (changes_of past)).current n) (there past n)
there (request i r ∷ past) n = there_more (request i r) past n (at (sources_after (changes_of past)).current n) (there past n)
there (disconnect i ∷ past) n = there_more (disconnect i) past n (at (sources_after (changes_of past)).current n) (there past n)

-- An event of a transcript is an entry.

record IsEntry (entries : List Recorded) (event : Event) : Type 0 where
  by : ℕ
  before : List Recorded
  after : List Recorded
  whole : entries ≡ before ++ (by, event) ∷ after

entry_more : (entry : Recorded) (entries : List Recorded) (event : Event) → IsEntry entries event → IsEntry (entry ∷ entries) event
entry_more entry entries event e = record { by = e.by; before = entry ∷ e.before; after = e.after; whole = ap (λ es. entry ∷ es) e.whole }

entry_at : (entries : List Recorded) (event : Event) (front back : List Event) → events_of entries ≡ front ++ event ∷ back → IsEntry entries event
entry_at [] event [] back e = cc
entry_at [] event (x ∷ front) back e = cc
entry_at (entry ∷ entries) event [] back e =
    let one : entry.1 ≡ event = cc in
    record { by = entry.0; before = []; after = entries; whole = ap (λ (x : Event). (entry.0, x) ∷ entries) one }
entry_at (entry ∷ entries) event (x ∷ front) back e =
    let rest : events_of entries ≡ front ++ event ∷ back = cc in
    entry_more entry entries event (entry_at entries event front back rest)

entry_past : (entries : List Recorded) (event : Event) (front back : List Event) → past_of entries ≡ front ++ event ∷ back → IsEntry entries event
entry_past entries event front back e =
    let events : events_of entries ≡ reverse back ++ event ∷ reverse front =
    sym (reverse-reverse (events_of entries)) ∙ (ap reverse e ∙ (reverse-append front (event ∷ back)
    ∙ (ap (λ es. es ++ reverse front) (reverse-append (event ∷ []) back) ∙ append_assoc (reverse back) (event ∷ []) (reverse front)))) in
    entry_at entries event (reverse back) (reverse front) events

-- and it is true
pub event_holds : (P : Event → Type 0) (before after : List Recorded) (by : ℕ) (event : Event) → All P (events_of (before ++ (by, event) ∷ after)) → P event
event_holds P [] after by event all = All-head P event (events_of after) all
event_holds P (x ∷ before) after by event all = event_holds P before after by event (All-tail P x.1 (events_of (before ++ (by, event) ∷ after)) all)

-- the source is that of the last counted edit
source_is : (o : Option Source) (v : ℕ) (t : Text) → source_edit o ≡ Some (v, t) → outstanding_in o ≡ false → (s : Source) × (o ≡ Some s) × (s.version ≡ v) × (s.text ≡ t) × (is_outstanding s.verdict ≡ false)
source_is None v t e q = cc
source_is (Some s) v t e q =
    let both = same_Some (s.version, s.text) (v, t) e in
    (s, refl, ap (λ p. p.0) both, ap (λ p. p.1) both, q)

result_entered : (roots : List Name) (entries : List Recorded) (work : Task) (s : Source) (outcome : Outcome) → IsTranscript roots entries → s.version ≡ work.ver → s.text ≡ work.text
    → IsEntry entries (change (result work.name s.text outcome s.version)) → HasResult entries work
result_entered roots entries work s outcome t version text entry =
    let event = change (result work.name s.text outcome s.version) in
    let true_result : outcome ≡ transformed parsing work.name s.text =
    event_holds (IsTrueEvent (transformed parsing)) entry.before entry.after entry.by event (subst (λ es. All (IsTrueEvent (transformed parsing)) (events_of es)) entry.whole t.legal.results) in
    let is : event ≡ result_event work =
    ap (λ o. change (result work.name s.text o s.version)) true_result
    ∙ (ap (λ x. change (result work.name x (transformed parsing work.name x) s.version)) text ∙ ap (λ v. change (result work.name work.text (transformed parsing work.name work.text) v)) version) in
    record { by = entry.by; before = entry.before; after = entry.after; whole = entry.whole ∙ ap (λ x. entry.before ++ (entry.by, x) ∷ entry.after) is }

-- the job of the last counted edit of a name that isn't outstanding has its result
pub result_there : (roots : List Name) (entries : List Recorded) (work : Task) → IsTranscript roots entries
    → last_in entries work.name ≡ Some (work.ver, work.text) → hub.is_outstanding roots entries work.name ≡ false → HasResult entries work
result_there roots entries work t last told =
    let n = work.name in
    let o : Option Source = at (sources_in entries).current n in
    let still : outstanding_in o ≡ false = ap (λ (s : Sources). outstanding_in (at s.current n)) (sym (sources_are roots (past_of entries))) ∙ told in
    let found = source_is o work.ver work.text (current_is (changes_of (past_of entries)) n ∙ last) still in
    let came = there (past_of entries) n found.0 found.1 found.4 in
    let entry = entry_past entries (change (result n found.0.text came.outcome found.0.version)) came.front came.back came.whole in
    result_entered roots entries work found.0 came.outcome t found.2 found.3 entry
