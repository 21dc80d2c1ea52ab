-- What one call of the hub is to the editor.
use Rattle.std.proofs.Common.{◌≡◌, ◌≢◌, ◌≤◌, ◌<◌, List, [], ◌∷◌, ◌++◌, length, refl, ap, sym, ◌∙◌, subst, append_assoc, arith}
use Rattle.std.specs.Prelude.{All, IfErr, OnErr, Result, Ok, Err, is_ok, true, false, if◌then◌else◌}
use Rattle.std.proofs.lemmas.List.{append-nil, append_cancel_left, append_cancel_right, length-append}
use Rattle.std.proofs.lemmas.List.Elements.{All-cons, All-head, All-nil, All-tail}
use Rattle.hmr_types.specs.declared.limits.TheConstants.{LARGEST_NUMBER, MESSAGE_BYTES}
use Rattle.update_msgs.specs.declared.desk.HubStop.{HubStop}
use Rattle.update_msgs.specs.declared.desk.HubStop.TheVariants as hub
use Rattle.core_model.specs.Names.{Name, same_name}
use Rattle.hmr_types.specs.declared.analysis.Outcome.{Outcome}
use Rattle.hmr_types.specs.declared.words.EditRefusal.{EditRefusal}
use Rattle.hmr_types.specs.declared.words.EditRefusal.TheVariants.{NumbersSpent, SourceTotal, TextTooLong, TooManyNames}
use Rattle.module_semantics.specs.Analysis.{transformed}
use Rattle.module_semantics.specs.ModuleText.{parsing}
use Rattle.core_model.specs.Sources.{edit_answer, result}
use Rattle.core_model.specs.Core.{Event, change}
use Rattle.core_model.specs.Transcript.{IsTrueEvent, Recorded, event_bytes, events_of, reply_after}
use Rattle.events_and_replies.specs.declared.event.Reply.{Reply}
use Rattle.events_and_replies.specs.Said.{edit_said, said as core_said}
use Rattle.turn_lock.specs.Histories.{calls, has}
use Rattle.turn_lock.proofs.Histories.{calls_append}
use Rattle.hmr_hub.specs.declared.pass.Pass.{Pass}
use Rattle.hmr_hub.specs.Calls.{Called, Looked, SameKnower}
use Rattle.hmr_hub.specs.Passes.{HasTranscript, is_alone, known_of, number_of, roots_of, seen_of}
use Rattle.transcripts.specs.Transcripts.{recorded}
use Rattle.hmr_hub.specs.Moves.{KnowsOwn, Moved, own_of}
use Rattle.hmr_hub.specs.Answered.{Answered}
use Rattle.hmr_hub.proofs.Moves.{moved_called, moved_looked, moved_none, moved_then}
use Rattle.hmr_hub.proofs.Answers.{answered_called}
use Rattle.hmr_hub.proofs.Fullness.{nearly_full_called}
use Rattle.transform_pool.specs.Tasks.{Task}
use Rattle.hub_editor.specs.declared.stop.EditStop.{EditStop}
use Rattle.hub_editor.specs.declared.stop.EditStop.TheVariants as stop
use Rattle.hub_editor.specs.Causes.{HasRefused, IsCause, IsRoomStop, IsStopBy}
use Rattle.hub_editor.specs.Edits.{Answer, Edit, IsEditReply, Made, counted_by, edit_entry, edit_event, edit_of, reply_of}
use Rattle.hub_editor.specs.Results.{last_in, result_entry, result_event, sources_in}
use Rattle.hub_editor.specs.Editing.{IsAnswered, Settled, Told, Went}
use Rattle.hub_editor.proofs.Finding.{event_holds}
use Rattle.hub_editor.proofs.LookingBack.{IsMade, last_edited, last_others, last_quiet, said_edit}
use Rattle.hub_editor.proofs.Numbers.{reply_left}

may_rest : (front rest : List Recorded) → All IsMade (front ++ rest) → All IsMade rest
may_rest [] rest h = h
may_rest (x ∷ front) rest h = may_rest front rest (All-tail IsMade x (front ++ rest) h)

may_front : (front rest : List Recorded) → All IsMade (front ++ rest) → All IsMade front
may_front [] rest h = All-nil IsMade
may_front (x ∷ front) rest h = All-cons IsMade x front (All-head IsMade x (front ++ rest) h) (may_front front rest (All-tail IsMade x (front ++ rest) h))

-- nothing happened
pub went_none : (p : Pass) → Went p p []
went_none p = record { moved = moved_none p; sources = λ n. refl; alone = λ a. sym (append-nil (seen_of p)) }

pub went_then : (p q r : Pass) (a b : List Recorded) → is_alone q ≡ is_alone p → Went p q a → Went q r b → Went p r (a ++ b)
went_then p q r a b same h k = record {
  moved = moved_then p q r a b h.moved k.moved;
  sources = λ n. k.sources n ∙ h.sources n;
  alone = λ t. k.alone (same ∙ t) ∙ (ap (λ es. es ++ b) (h.alone t) ∙ append_assoc (seen_of p) a b);
}

pub settled_later : (p q r : Pass) (work : Task) → is_alone q ≡ is_alone p → Went p q [] → Settled work q r → Settled work p r
settled_later p q r work same h k = record { went = went_then p q r [] (result_entry work ∷ []) same h k.went; there = k.there }

-- a pass that went on by nothing of its own has seen no edit
module _ (p q : Pass) (zero : number_of p ≡ 0) (t : HasTranscript q) (m : Moved p q []) where
  own_quiet : calls (0 ∷ []) (seen_of q) ≡ calls (0 ∷ []) (seen_of p) ++ []
  own_quiet = ap (λ k. calls (k ∷ []) (seen_of q)) (sym (m.number ∙ zero)) ∙ (m.own ∙ ap (λ k. calls (k ∷ []) (seen_of p) ++ []) zero)

  quiet_more : calls (0 ∷ []) m.more ≡ []
  quiet_more =
      append_cancel_left (calls (0 ∷ []) (seen_of p)) (calls (0 ∷ []) m.more) []
      (sym (calls_append (0 ∷ []) (seen_of p) m.more) ∙ (ap (λ es. calls (0 ∷ []) es) (sym m.longer) ∙ own_quiet))

  pub sources_stay : (n : Name) → last_in (seen_of q) n ≡ last_in (seen_of p) n
  sources_stay n =
      ap (λ es. last_in es n) m.longer
      ∙ last_others (seen_of p) m.more n quiet_more (may_rest (seen_of p) m.more (subst (λ es. All IsMade es) m.longer t.edits))

-- it looked on
pub went_looked : (p q : Pass) → SameKnower p q → Looked p q → KnowsOwn p → number_of p ≡ 0 → HasTranscript q → Went p q []
went_looked p q same l knows zero t =
    let m = moved_looked p q same l knows in
    record { moved = m; sources = sources_stay p q zero t m; alone = λ a. l.alone a ∙ sym (append-nil (seen_of p)) }

quiet_before : (event : Event) (result : Result Reply HubStop) (xs rest : List Recorded)
    → calls (0 ∷ []) ((xs ++ rest) ++ recorded 0 event result) ≡ calls (0 ∷ []) xs ++ recorded 0 event result → calls (0 ∷ []) rest ≡ []
quiet_before event (Ok reply) xs rest e =
    let one = (0, event) ∷ [] in
    let split : calls (0 ∷ []) xs ++ (calls (0 ∷ []) rest ++ one) ≡ calls (0 ∷ []) xs ++ one =
    sym (append_assoc (calls (0 ∷ []) xs) (calls (0 ∷ []) rest) one)
    ∙ (ap (λ es. es ++ one) (sym (calls_append (0 ∷ []) xs rest)) ∙ (sym (calls_append (0 ∷ []) (xs ++ rest) one) ∙ e)) in
    append_cancel_right (calls (0 ∷ []) rest) [] one (append_cancel_left (calls (0 ∷ []) xs) (calls (0 ∷ []) rest ++ one) one split)
quiet_before event (Err stop) xs rest e =
    append_cancel_left (calls (0 ∷ []) xs) (calls (0 ∷ []) rest) []
    (sym (calls_append (0 ∷ []) xs rest) ∙ (ap (λ es. calls (0 ∷ []) es) (sym (append-nil (xs ++ rest))) ∙ e))

-- a call of the editor
module _ (p q : Pass) (event : Event) (result : Result Reply HubStop) (zero : number_of p ≡ 0) (same : SameKnower p q) (t : HasTranscript q) (c : Called event result p q) where
  pub seen_then : seen_of q ≡ c.before ++ recorded 0 event result
  seen_then = c.seen ∙ ap (λ k. c.before ++ recorded k event result) zero

  seen_all : seen_of q ≡ (seen_of p ++ c.past.rest) ++ recorded 0 event result
  seen_all = seen_then ∙ ap (λ es. es ++ recorded 0 event result) c.past.whole

  quiet_rest : calls (0 ∷ []) c.past.rest ≡ []
  quiet_rest =
      quiet_before event result (seen_of p) c.past.rest
      (ap (λ es. calls (0 ∷ []) es) (sym seen_all) ∙ subst (λ k. calls (k ∷ []) (seen_of q) ≡ calls (k ∷ []) (seen_of p) ++ recorded k event result) zero c.own)

  -- before it nobody else made an edit
  pub sources_before : (n : Name) → last_in c.before n ≡ last_in (seen_of p) n
  sources_before n =
      ap (λ es. last_in es n) c.past.whole
      ∙ last_others (seen_of p) c.past.rest n quiet_rest
      (may_rest (seen_of p) c.past.rest (may_front (seen_of p ++ c.past.rest) (recorded 0 event result) (subst (λ es. All IsMade es) seen_all t.edits)))

  -- nor anything else under the editor's number
  pub own_before : calls (number_of q ∷ []) c.before ≡ own_of p
  own_before =
      ap (λ k. calls (k ∷ []) c.before) (same.number ∙ zero)
      ∙ (ap (λ es. calls (0 ∷ []) es) c.past.whole
      ∙ (calls_append (0 ∷ []) (seen_of p) c.past.rest
      ∙ (ap (λ es. calls (0 ∷ []) (seen_of p) ++ es) quiet_rest
      ∙ (append-nil (calls (0 ∷ []) (seen_of p)) ∙ ap (λ k. calls (k ∷ []) (seen_of p)) (sym zero)))))

  pub moved_so : Moved p q (recorded 0 event result)
  moved_so = subst (λ k. Moved p q (recorded k event result)) zero (moved_called p q event result same c)

module _ (p q : Pass) (zero : number_of p ≡ 0) (same : SameKnower p q) (t : HasTranscript q) where
  -- an edit was answered
  pub told_called : (e : Edit) (answer : Answer) → Called (edit_event e) (Ok (reply_of answer)) p q → Told e answer p q
  told_called e answer c =
      let event = edit_event e in
      let seen = seen_then p q event (Ok (reply_of answer)) zero same t c in
      let said : edit_said (edit_answer (sources_in c.before) e.0 e.1) ≡ reply_of answer = sym (said_edit (roots_of p) c.before e) ∙ c.reply in
      record {
        moved = moved_so p q event (Ok (reply_of answer)) zero same t c;
        answered = subst (λ k. Answered (roots_of q) (seen_of q) k event (reply_of answer)) zero (subst (λ roots. Answered roots (seen_of q) (number_of p) event (reply_of answer)) (sym same.roots) (answered_called p q event (reply_of answer) c));
        placed = record {
          before = c.before;
          after = [];
          whole = seen;
          own_are = own_before p q event (Ok (reply_of answer)) zero same t c;
          reply_is = ap (λ roots. core_said (reply_after roots c.before event)) same.roots ∙ c.reply;
        };
        sources = λ n.
            ap (λ es. last_in es n) seen
            ∙ (last_edited c.before e answer n said
            ∙ ap (λ last. if same_name e.0 n then counted_by answer e.1 last else last) (sources_before p q event (Ok (reply_of answer)) zero same t c n));
        alone = λ a. seen ∙ ap (λ es. es ++ edit_entry e ∷ []) (c.alone a);
        first = λ a. ap (λ es. edit_said (edit_answer (sources_in es) e.0 e.1)) (sym (c.alone a)) ∙ said;
      }

  -- a result was answered; it is true, as all results are
  result_is : (work : Task) (outcome : Outcome) (reply : Reply) → Called (change (result work.name work.text outcome work.ver)) (Ok reply) p q
      → change (result work.name work.text outcome work.ver) ≡ result_event work
  result_is work outcome reply c =
      let event = change (result work.name work.text outcome work.ver) in
      let true_result : outcome ≡ transformed parsing work.name work.text =
      event_holds (IsTrueEvent (transformed parsing)) c.before [] (number_of p) event (subst (λ es. All (IsTrueEvent (transformed parsing)) (events_of es)) c.seen t.legal.results) in
      ap (λ o. change (result work.name work.text o work.ver)) true_result

  pub settled_called : (work : Task) (outcome : Outcome) (reply : Reply) → Called (change (result work.name work.text outcome work.ver)) (Ok reply) p q → Settled work p q
  settled_called work outcome reply told =
      let event = result_event work in
      let c : Called event (Ok reply) p q = subst (λ e. Called e (Ok reply) p q) (result_is work outcome reply told) told in
      let seen = seen_then p q event (Ok reply) zero same t c in
      record {
        went = record {
          moved = moved_so p q event (Ok reply) zero same t c;
          sources = λ n. ap (λ es. last_in es n) seen ∙ (last_quiet c.before 0 event n refl ∙ sources_before p q event (Ok reply) zero same t c n);
          alone = λ a. seen ∙ ap (λ es. es ++ result_entry work ∷ []) (c.alone a);
        };
        there = record { by = 0; before = c.before; after = []; whole = seen };
      }

  -- it was not answered
  pub went_refused : (event : Event) (stopped : HubStop) → Called event (Err stopped) p q → Went p q []
  went_refused event stopped c =
      let seen : seen_of q ≡ c.before = c.seen ∙ append-nil c.before in
      record {
        moved = moved_so p q event (Err stopped) zero same t c;
        sources = λ n. ap (λ es. last_in es n) seen ∙ sources_before p q event (Err stopped) zero same t c n;
        alone = λ a. seen ∙ (c.alone a ∙ sym (append-nil (seen_of p)));
      }

  -- the reply to an edit is one that an edit has
  pub reply_called : (e : Edit) (reply : Reply) → Called (edit_event e) (Ok reply) p q → IsEditReply reply
  reply_called e reply c =
      let few : length c.before < LARGEST_NUMBER = omega (arith, t.legal.few, ap length c.seen, length-append c.before ((number_of p, edit_event e) ∷ [])) in
      subst (λ r. IsEditReply r) (sym (said_edit (roots_of p) c.before e) ∙ c.reply) (reply_left c.before e.0 e.1 few)

-- why a call was not answered
pub cause_called : (p q : Pass) (event : Event) (stopped : HubStop) (ended : EditStop) → Called event (Err stopped) p q → event_bytes event ≤ MESSAGE_BYTES
    → (stopped ≡ hub.TranscriptFull → ended ≡ stop.Full) × (stopped ≡ hub.NoMemory → ended ≡ stop.NoMemory) → IsCause q ended
cause_called p q event hub.TranscriptFull ended c short from = subst (λ x. IsCause q x) (sym (from.0 refl)) (nearly_full_called p q event c short)
cause_called p q event hub.NoMemory ended c short from = subst (λ x. IsCause q x) (sym (from.1 refl)) tt

-- that is for want of a place or of memory
pub room_called : (stopped : HubStop) (ended : EditStop) → (stopped ≡ hub.TranscriptFull → ended ≡ stop.Full) × (stopped ≡ hub.NoMemory → ended ≡ stop.NoMemory) → IsRoomStop ended
room_called hub.TranscriptFull ended from = subst IsRoomStop (sym (from.0 refl)) tt
room_called hub.NoMemory ended from = subst IsRoomStop (sym (from.1 refl)) tt

pub room_by : (a : Answer) (ended : EditStop) → is_ok a ≡ true → IsRoomStop ended → IsStopBy a ended
room_by (Ok outcome) ended ok h = h
room_by (Err refusal) ended ok h = absurd (let z : false ≡ true = ok in cc)

pub room_err : {T : Type 0} (r : Result T EditStop) (a : Answer) → is_ok a ≡ true → IfErr r IsRoomStop → IfErr r (IsStopBy a)
room_err (Ok x) a ok h = tt
room_err (Err ended) a ok h = room_by a ended ok h

-- why an edit was refused
pub cause_refused : (p : Pass) (m : Made) (refusal : EditRefusal) (ended : EditStop) → IsAnswered p m → m.answer ≡ Err refusal → refusal ≢ NumbersSpent
    → (refusal ≡ TextTooLong → ended ≡ stop.Text) → (refusal ≡ TooManyNames → ended ≡ stop.Names) → (refusal ≡ SourceTotal → ended ≡ stop.Sources) → IsCause p ended
cause_refused p m refusal ended answered e spent text names sources = by_refusal refusal e spent text names sources
  where
    refused : (r : EditRefusal) → m.answer ≡ Err r → HasRefused p r
    refused r is = record { edit = edit_of m; answered = subst (λ a. Answered (roots_of p) (seen_of p) 0 (edit_event (edit_of m)) (reply_of a)) is answered }

    by_refusal : (r : EditRefusal) → m.answer ≡ Err r → r ≢ NumbersSpent → (r ≡ TextTooLong → ended ≡ stop.Text) → (r ≡ TooManyNames → ended ≡ stop.Names)
        → (r ≡ SourceTotal → ended ≡ stop.Sources) → IsCause p ended
    by_refusal TextTooLong is spent text names sources = subst (λ x. IsCause p x) (sym (text refl)) (refused TextTooLong is)
    by_refusal TooManyNames is spent text names sources = subst (λ x. IsCause p x) (sym (names refl)) (refused TooManyNames is)
    by_refusal SourceTotal is spent text names sources = subst (λ x. IsCause p x) (sym (sources refl)) (refused SourceTotal is)
    by_refusal NumbersSpent is spent text names sources = absurd (spent refl)

pub on_err : {T F : Type 0} {P : Type 0} (r : Result T F) → P → OnErr r P
on_err (Ok x) p = tt
on_err (Err e) p = p

pub knower_then : (p q r : Pass) → SameKnower p q → SameKnower q r → SameKnower p r
knower_then p q r h k = record {
  mark = k.mark ∙ h.mark;
  number = k.number ∙ h.number;
  known = k.known ∙ h.known;
  alone = k.alone ∙ h.alone;
  given = k.given ∙ h.given;
  numbers = k.numbers ∙ h.numbers;
  roots = k.roots ∙ h.roots;
}

pub knows_same : (p q : Pass) → SameKnower p q → KnowsOwn p → KnowsOwn q
knows_same p q same k = ap (λ n. has n (known_of q)) same.number ∙ (ap (λ ks. has (number_of p) ks) same.known ∙ k)

pub knower_self : (p : Pass) → SameKnower p p
knower_self p = record { mark = refl; number = refl; known = refl; alone = refl; given = refl; numbers = refl; roots = refl }
