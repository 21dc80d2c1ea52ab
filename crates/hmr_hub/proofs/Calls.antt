-- What calls of the lock tell, told of transcripts.
use Rattle.std.proofs.Common.{◌≡◌, ◌<◌, ◌↔◌, inl, inr, ⊎_elim, ℕ, Bool, true, false, List, [], ◌∷◌, ◌++◌, ◌+◌, length, map, refl, ap, sym, ◌∙◌, subst}
use Rattle.std.specs.Prelude.{Result, Ok, Err, IfOk, IsErrOf}
use Rattle.std.proofs.lemmas.Bool.{false≢true}
use Rattle.std.proofs.lemmas.List.{append_cancel_right}
use Rattle.std.specs.Global.{Vec}
use Rattle.std.specs.declared.alloc.AllocError.{AllocError}
use Rattle.update_msgs.specs.declared.desk.HubStop.{HubStop}
use Rattle.update_msgs.specs.declared.desk.HubStop.TheVariants.{TranscriptFull, NoMemory}
use Rattle.core_model.specs.Names.{Name}
use Rattle.core_model.specs.Core.{Event}
use Rattle.core_model.specs.Transcript.{Recorded, events_of, reply_after}
use Rattle.events_and_replies.specs.declared.event.Event as server
use Rattle.events_and_replies.specs.declared.event.Reply.{Reply}
use Rattle.events_and_replies.specs.Said.{IsWritten, event_of, said}
use Rattle.turn_lock.specs.Calls as lock
use Rattle.turn_lock.specs.Histories.{Past, calls, grown}
use Rattle.turn_lock.specs.Passes.{pass_view}
use Rattle.turn_lock.specs.Views.{first_view, most_numbers, new_half, numbered}
use Rattle.turn_lock.specs.declared.view.View.{View}
use Rattle.turn_lock.proofs.Histories.{calls_two, past_calls}
use Rattle.hmr_hub.specs.declared.hub_reply.HubReply.{HubReply}
use Rattle.hmr_hub.specs.declared.hub_reply.HubReply.TheVariants as hub_reply
use Rattle.hmr_hub.specs.declared.pass.Pass.{Pass}
use Rattle.hmr_hub.specs.declared.report_line.ReportLine.{ReportLine}
use Rattle.hmr_hub.specs.Reports.{report_of}
use Rattle.hmr_hub.specs.Calls.{Called, IsFirst, IsHalf, IsLonger, Joined, Looked, SameKnower, SameSeen}
use Rattle.hmr_hub.specs.Outcomes.{Answers, IsAnswer, IsEventsTold, IsOutcome, IsOutstandingTold, IsReported, IsTold}
use Rattle.hmr_hub.specs.Passes.{HasTranscript, known_of, mark_of, number_of, roots_of, seen_of, is_alone}
use Rattle.hmr_hub.specs.Questions.{Asked, tell, outstanding, report, events, transcript_of}
use Rattle.hmr_hub.specs.Recordings.{Recording, roots_in}
use Rattle.transcripts.specs.Transcripts.{IsTranscript, is_full, is_outstanding, recorded}
use Rattle.hmr_hub.proofs.Histories.{calls_transcript, grown_not, past_transcript, transcript_more}
use Rattle.hmr_hub.proofs.Legal.{same_entries}

-- the answer is of the kind that was asked for
is_told : (roots : List Name) (before : List Recorded) (event : Event) (told : HubReply) (kept : Bool) → IsAnswer roots before (tell event) told kept → IsTold told
is_told roots before event (hub_reply.Told result) kept a = tt
is_told roots before event (hub_reply.Outstanding b) kept a = a
is_told roots before event (hub_reply.Report lines) kept a = a
is_told roots before event (hub_reply.Events told) kept a = a

is_looked : (roots : List Name) (before : List Recorded) (n : Name) (told : HubReply) (kept : Bool) → IsAnswer roots before (outstanding n) told kept → IsOutstandingTold told
is_looked roots before n (hub_reply.Told result) kept a = a
is_looked roots before n (hub_reply.Outstanding b) kept a = tt
is_looked roots before n (hub_reply.Report lines) kept a = a
is_looked roots before n (hub_reply.Events told) kept a = a

is_reported : (roots : List Name) (before : List Recorded) (told : HubReply) (kept : Bool) → IsAnswer roots before report told kept → IsReported told
is_reported roots before (hub_reply.Told result) kept a = a
is_reported roots before (hub_reply.Outstanding b) kept a = a
is_reported roots before (hub_reply.Report lines) kept a = tt
is_reported roots before (hub_reply.Events told) kept a = a

is_events_told : (roots : List Name) (before : List Recorded) (told : HubReply) (kept : Bool) → IsAnswer roots before events told kept → IsEventsTold told
is_events_told roots before (hub_reply.Told result) kept a = a
is_events_told roots before (hub_reply.Outstanding b) kept a = a
is_events_told roots before (hub_reply.Report lines) kept a = a
is_events_told roots before (hub_reply.Events told) kept a = tt

module _ (roots : List Name) (before : List Recorded) (event : Event) where
  replied : (result : Result Reply HubStop) → IsOutcome roots before event result → IfOk result (λ reply. said (reply_after roots before event) ≡ reply)
  replied (Ok reply) o = o.is
  replied (Err TranscriptFull) o = tt
  replied (Err NoMemory) o = tt

  written : (result : Result Reply HubStop) → IsOutcome roots before event result → IfOk result IsWritten
  written (Ok reply) o = o.written
  written (Err TranscriptFull) o = tt
  written (Err NoMemory) o = tt

  full : (result : Result Reply HubStop) → IsOutcome roots before event result → IsErrOf result TranscriptFull ↔ (is_full before event ≡ true)
  full (Ok reply) o = (λ e. cc, λ h. absurd (false≢true (sym o.room ∙ h)))
  full (Err TranscriptFull) o = (λ e. o, λ h. refl)
  full (Err NoMemory) o = (λ e. cc, λ h. absurd (false≢true (sym o ∙ h)))

-- of two histories that grow alike, each is the other
same_before : {X : Type 0} (xs ys : List (ℕ × X)) (by : ℕ) (x : X) (kept : Bool) → grown xs by x kept ≡ grown ys by x kept → xs ≡ ys
same_before xs ys by x true e = append_cancel_right xs ys ((by, x) ∷ []) e
same_before xs ys by x false e = e

module _ (p q : Pass) where
  -- what the lock says of a call
  abbrev pub LockCalled : Asked → HubReply → Type 0
  LockCalled asked told = lock.Called Answers (number_of p) asked told (pass_view p.pass) (pass_view q.pass)

  module _ (asked : Asked) (told : HubReply) (l : LockCalled asked told) where
    -- the transcript in which the question was met
    abbrev pub before_of : List Recorded
    before_of = transcript_of ((pass_view p.pass).seen ++ l.between)

    roots_are : roots_of p ≡ l.start.roots
    roots_are = ap roots_in l.opening

    past_before : Past before_of (seen_of p) (known_of p)
    past_before = past_transcript ((pass_view p.pass).seen ++ l.between) (pass_view p.pass).seen (known_of p) (record { rest = l.between; whole = refl; quiet = l.quiet })

    alone_before : is_alone p ≡ true → before_of ≡ seen_of p
    alone_before a = ap transcript_of (same_before ((pass_view p.pass).seen ++ l.between) (pass_view p.pass).seen (number_of p) asked l.recorded (sym l.seen ∙ l.alone a))

    pub answer_is : IsAnswer (roots_of p) before_of asked told l.recorded
    answer_is = subst (λ roots. IsAnswer roots before_of asked told l.recorded) (sym roots_are) l.answered.is

    -- what is seen then is legal
    pub legal : lock.SameKnower (pass_view p.pass) (pass_view q.pass) → HasTranscript q
    legal same =
        let roots : l.start.roots ≡ roots_of q = sym roots_are ∙ sym (ap roots_in same.opening) in
        let seen : transcript_of (grown ((pass_view p.pass).seen ++ l.between) (number_of p) asked l.recorded) ≡ seen_of q = sym (ap transcript_of l.seen) in
        subst (λ entries. IsTranscript (roots_of q) entries) seen (subst (λ roots. IsTranscript roots (transcript_of (grown ((pass_view p.pass).seen ++ l.between) (number_of p) asked l.recorded))) roots l.answered.transcript)

    -- nothing was recorded
    pub looked : l.recorded ≡ false → Looked p q
    looked quiet =
        let seen : seen_of q ≡ before_of = ap transcript_of (l.seen ∙ grown_not ((pass_view p.pass).seen ++ l.between) (number_of p) asked l.recorded quiet) in
        let past : Past (seen_of q) (seen_of p) (known_of p) = subst (λ entries. Past entries (seen_of p) (known_of p)) (sym seen) past_before in
        record {
          past = past;
          known = past_calls (seen_of q) (seen_of p) (known_of p) past;
          alone = λ a. seen ∙ alone_before a;
        }

  -- the answer is of the kind that was asked for
  pub told_kind : (event : Event) (told : HubReply) → LockCalled (tell event) told → IsTold told
  told_kind event told l = is_told (roots_of p) (before_of (tell event) told l) event told l.recorded (answer_is (tell event) told l)

  pub outstanding_kind : (n : Name) (told : HubReply) → LockCalled (outstanding n) told → IsOutstandingTold told
  outstanding_kind n told l = is_looked (roots_of p) (before_of (outstanding n) told l) n told l.recorded (answer_is (outstanding n) told l)

  pub report_kind : (told : HubReply) → LockCalled report told → IsReported told
  report_kind told l = is_reported (roots_of p) (before_of report told l) told l.recorded (answer_is report told l)

  pub events_kind : (told : HubReply) → LockCalled events told → IsEventsTold told
  events_kind told l = is_events_told (roots_of p) (before_of events told l) told l.recorded (answer_is events told l)

  -- an event was told
  pub called : (event : Event) (result : Result Reply HubStop) → LockCalled (tell event) (hub_reply.Told result) → Called event result p q
  called event result l =
      let a = answer_is (tell event) (hub_reply.Told result) l in
      let v = pass_view p.pass in
      let w = pass_view q.pass in
      let more : (ks : List ℕ) → calls ks w.seen ≡ grown (calls ks v.seen) (number_of p) (tell event) l.recorded → calls ks (seen_of q) ≡ calls ks (seen_of p) ++ recorded (number_of p) event result =
      λ ks h. calls_transcript ks w.seen ∙ (ap transcript_of h ∙ (transcript_more (calls ks v.seen) (number_of p) event result l.recorded a.0
      ∙ ap (λ entries. entries ++ recorded (number_of p) event result) (sym (calls_transcript ks v.seen)))) in
      record {
        before = before_of (tell event) (hub_reply.Told result) l;
        past = past_before (tell event) (hub_reply.Told result) l;
        seen = ap transcript_of l.seen ∙ transcript_more (v.seen ++ l.between) (number_of p) event result l.recorded a.0;
        reply = replied (roots_of p) (before_of (tell event) (hub_reply.Told result) l) event result a.1;
        written = written (roots_of p) (before_of (tell event) (hub_reply.Told result) l) event result a.1;
        full = full (roots_of p) (before_of (tell event) (hub_reply.Told result) l) event result a.1;
        own = more (number_of p ∷ []) l.own;
        known = more (known_of p) l.known;
        alone = alone_before (tell event) (hub_reply.Told result) l;
      }

  -- it was asked whether a result hasn't come
  pub outstanding_told : (n : Name) (told : Bool) → LockCalled (outstanding n) (hub_reply.Outstanding told) → Looked p q × (told ≡ is_outstanding (roots_of p) (seen_of q) n)
  outstanding_told n told l =
      let a = answer_is (outstanding n) (hub_reply.Outstanding told) l in
      let v = pass_view p.pass in
      let seen : seen_of q ≡ transcript_of (v.seen ++ l.between) = ap transcript_of (l.seen ∙ grown_not (v.seen ++ l.between) (number_of p) (outstanding n) l.recorded a.0) in
      (looked (outstanding n) (hub_reply.Outstanding told) l a.0, a.1 ∙ ap (λ entries. is_outstanding (roots_of p) entries n) (sym seen))

  -- it was asked for the report
  pub report_told : (lines : Result (Vec ReportLine) AllocError) → LockCalled report (hub_reply.Report lines) → Looked p q × IfOk lines (λ told. told.items ≡ report_of (roots_of p) (seen_of q))
  report_told lines l =
      let a = answer_is report (hub_reply.Report lines) l in
      let v = pass_view p.pass in
      let seen : seen_of q ≡ transcript_of (v.seen ++ l.between) = ap transcript_of (l.seen ∙ grown_not (v.seen ++ l.between) (number_of p) report l.recorded a.0) in
      (looked report (hub_reply.Report lines) l a.0, subst (λ entries. IfOk lines (λ told. told.items ≡ report_of (roots_of p) entries)) (sym seen) a.1)

  -- it was asked which events were told
  pub events_told : (result : Result (Vec server.Event) AllocError) → LockCalled events (hub_reply.Events result) → Looked p q × IfOk result (λ told. map event_of told.items ≡ events_of (seen_of q))
  events_told result l =
      let a = answer_is events (hub_reply.Events result) l in
      let v = pass_view p.pass in
      let seen : seen_of q ≡ transcript_of (v.seen ++ l.between) = ap transcript_of (l.seen ∙ grown_not (v.seen ++ l.between) (number_of p) events l.recorded a.0) in
      (looked events (hub_reply.Events result) l a.0, subst (λ entries. IfOk result (λ told. map event_of told.items ≡ events_of entries)) (sym seen) a.1)

  -- what a call leaves as it was
  pub same_knower : mark_of q ≡ mark_of p → number_of q ≡ number_of p → lock.SameKnower (pass_view p.pass) (pass_view q.pass) → SameKnower p q
  same_knower mark number s = record { mark = mark; number = number; known = s.known; alone = s.alone; given = s.all_given; numbers = s.given; roots = ap roots_in s.opening }

  -- what a split leaves as it was
  pub same_seen : mark_of q ≡ mark_of p → number_of q ≡ number_of p → lock.SameSeen (pass_view p.pass) (pass_view q.pass) → SameSeen p q
  same_seen mark number s = record { mark = mark; number = number; known = s.known; seen = ap transcript_of s.seen; alone = s.alone; roots = ap roots_in s.opening }

  -- a pass that was split off
  pub half : mark_of q ≡ mark_of p → (0 < number_of q) × (number_of q < most_numbers) → pass_view q.pass ≡ new_half (numbered (pass_view p.pass) (number_of q))
      → lock.IsFresh (pass_view p.pass) (number_of q) → IsHalf p q
  half mark range told fresh =
      let seen : seen_of q ≡ seen_of p = ap (λ (v : View Recording Asked). transcript_of v.seen) told in record {
        mark = mark;
        least = range.0;
        most = range.1;
        above = fresh.known;
        later = fresh.given;
        unused = ap (λ entries. calls (number_of q ∷ []) entries) seen
            ∙ (calls_transcript (number_of q ∷ []) (pass_view p.pass).seen ∙ ap transcript_of fresh.unused);
        given = ap (λ (v : View Recording Asked). v.given) told;
        known = ap (λ (v : View Recording Asked). v.known) told;
        seen = seen;
        alone = ap (λ (v : View Recording Asked). v.alone) told;
        roots = ap (λ (v : View Recording Asked). roots_in v.opening) told;
      }

-- the first pass of a lock round this value
pub first : (p : Pass) (value : Recording) → pass_view p.pass ≡ first_view value → number_of p ≡ 0 → IsFirst value.roots p
first p value told number = record {
  number = number;
  known = ap (λ (v : View Recording Asked). v.known) told;
  seen = ap (λ (v : View Recording Asked). transcript_of v.seen) told;
  alone = ap (λ (v : View Recording Asked). v.alone) told;
  given = ap (λ (v : View Recording Asked). v.all_given) told;
  roots_are = ap (λ (v : View Recording Asked). roots_in v.opening) told;
}

module _ (p o q : Pass) where
  longer_of : lock.IsLonger (pass_view p.pass) (pass_view o.pass) (pass_view q.pass) → IsLonger p o q
  longer_of l = ⊎_elim
      (λ (a : ((pass_view q.pass).seen ≡ (pass_view o.pass).seen) × Past (pass_view o.pass).seen (pass_view p.pass).seen (known_of p)).
      inl (ap transcript_of a.0, past_transcript (pass_view o.pass).seen (pass_view p.pass).seen (known_of p) a.1))
      (λ (b : ((pass_view q.pass).seen ≡ (pass_view p.pass).seen) × Past (pass_view p.pass).seen (pass_view o.pass).seen (known_of o)).
      inr (ap transcript_of b.0, past_transcript (pass_view p.pass).seen (pass_view o.pass).seen (known_of o) b.1))
      l

  -- two passes were joined
  pub joined : mark_of q ≡ mark_of p → number_of q ≡ number_of p → lock.Joined (pass_view p.pass) (pass_view o.pass) (pass_view q.pass) → Joined p o q
  joined mark number j =
      let mine = past_transcript (pass_view q.pass).seen (pass_view p.pass).seen (known_of p) j.mine in
      let other = past_transcript (pass_view q.pass).seen (pass_view o.pass).seen (known_of o) j.other in
      let mine_calls = past_calls (seen_of q) (seen_of p) (known_of p) mine in
      let other_calls = past_calls (seen_of q) (seen_of o) (known_of o) other in
      record {
        longer = longer_of j.longer;
        mine = mine;
        other = other;
        apart = j.apart;
        mine_calls = mine_calls;
        other_calls = other_calls;
        count = ap (λ ks. length (calls ks (seen_of q))) j.known
            ∙ (calls_two (known_of p) (known_of o) (seen_of q) j.apart
            ∙ (ap (λ entries. length entries + length (calls (known_of o) (seen_of q))) mine_calls
            ∙ ap (λ entries. length (calls (known_of p) (seen_of p)) + length entries) other_calls));
        known = j.known;
        mark = mark;
        number = number;
        alone = j.alone;
        given = j.all_given;
        numbers = j.given;
        roots = ap roots_in j.opening;
      }

  -- and what both had seen was legal
  pub joined_legal : lock.Joined (pass_view p.pass) (pass_view o.pass) (pass_view q.pass) → HasTranscript p → HasTranscript o → HasTranscript q
  joined_legal j mine other =
      let roots : roots_of p ≡ roots_of q = sym (ap roots_in j.opening) in
      subst (λ roots. IsTranscript roots (seen_of q)) roots (⊎_elim
      (λ (a : (seen_of q ≡ seen_of o) × Past (seen_of o) (seen_of p) (known_of p)).
      subst (λ entries. IsTranscript (roots_of p) entries) (sym a.0) (same_entries (roots_of p) (roots_of o) (seen_of p) (seen_of o) mine other))
      (λ (b : (seen_of q ≡ seen_of p) × Past (seen_of p) (seen_of o) (known_of o)).
      subst (λ entries. IsTranscript (roots_of p) entries) (sym b.0) mine)
      (longer_of j.longer))
