-- A session whose lines are written answer by answer.
use Rattle.std.proofs.Common.{◌≡◌, ◌<◌, ◌+◌, inl, inr, ℕ, List, [], ◌++◌, Some, None, Result, Err, refl, sym, ap, subst, ◌∙◌, arith}
use Rattle.std.specs.Prelude.{⊤}
use Rattle.std.specs.Io.KnownBytes.{Appends}
use Rattle.std.proofs.KnownBytes.{Appends-nil, Appends-trans}
use Rattle.std.proofs.lemmas.Grind.{flat_map-append}
use Rattle.std.proofs.lemmas.List.{append-nil}
use Rattle.hmr_base.specs.Fronts.{WritesFront}
use Rattle.hmr_base.proofs.Fronts.{front_more}
use Rattle.hmr_base.specs.declared.out_fault.OutFault.{OutFault}
use Rattle.output_lines.specs.declared.out_line.OutLine.{OutLine}
use Rattle.play_text.specs.Lines.{line_text}
use Rattle.update_msgs.specs.declared.message.ClientMsg.TheVariants.{Bye}
use Rattle.client_model.specs.Runtime.{Opening}
use Rattle.runtime_state.specs.Standing.{StandsFor}
use Rattle.runtime_state.specs.declared.runtime.HotRuntime.{HotRuntime}
use Rattle.sessions.specs.Endings.{ended_at}
use Rattle.sessions.specs.declared.ended.Ended.{Ended}
use Rattle.client_sessions.specs.Asking.{lines_of, past_after}
use Rattle.client_sessions.specs.Course.{ClientCourse, Talked, TurnEnded, TurnTaken}
use Rattle.client_sessions.specs.Exchange.{Ends, takes_bye}
use Rattle.client_sessions.proofs.Talking.{ended_at_bye, ended_in_turn, talked_more, talked_none, unopened}
use Rattle.join_command.specs.declared.stop.JoinStop.{JoinStop}
use Rattle.transport.specs.Told.{told_front, told_none, told_of}
use Rattle.join_command.specs.Joining.{Bytes, IsWriteStop, Joins, JoinsAt, JoinsBy, JoinsOver, Words, ends_as, lines_text}

-- so many requests of a new runtime were answered, and the lines of their answers are written
pub record Wrote {F : Type 0} (opening : Opening) (count format : ℕ) (left left' sent sent' : Words)
    (old new : Bytes) (h : HotRuntime F) : Type 0 where
  pub lines : List OutLine
  pub talked : Talked opening count format left left' sent sent' h lines
  pub written : Appends old new (lines_text lines)

-- nothing was asked yet
pub wrote_none : {F : Type 0} (opening : Opening) (format : ℕ) (l s : Words) (a : Bytes) (h : HotRuntime F)
    → StandsFor opening [] h → Wrote opening 0 format l l s s a a h
wrote_none opening format l s a h stands = record {
  lines = [];
  talked = talked_none opening format l s h [] refl stands;
  written = Appends-nil a;
}

-- the lines of an answer, put behind those of the answers before
behind : {F : Type 0} (opening : Opening) (count format f : ℕ) (l m n s t u : Words) (h h' : HotRuntime F)
    (before none lines : List OutLine) → none ≡ []
    → (k : Talked opening count format l m s t h before)
    → TurnTaken opening (past_after [] k.answers) f m n t u h' none lines
    → TurnTaken opening (past_after [] k.answers) f m n t u h' before (before ++ lines)
behind opening count format f l m n s t u h h' before none lines e k j = record {
  answer = j.answer;
  more = j.more;
  exchanged = j.exchanged;
  taken = j.taken;
  lines_are = ap (λ x. before ++ x) (j.lines_are ∙ ap (λ x. x ++ j.more) e);
  stands = j.stands;
}

both_lines : (xs ys : List OutLine) → lines_text (xs ++ ys) ≡ lines_text xs ++ lines_text ys
both_lines xs ys = flat_map-append line_text xs ys

-- one turn more, and its lines written
pub wrote_more : {F : Type 0} (opening : Opening) (count format f : ℕ) (l m n s t u : Words) (a b c : Bytes)
    (h h' : HotRuntime F) (none lines : List OutLine) → none ≡ []
    → (k : Wrote opening count format l m s t a b h) → f ≡ format
    → TurnTaken opening (past_after [] k.talked.answers) f m n t u h' none lines
    → Appends b c (lines_text lines) → Wrote opening (count + 1) format l n s u a c h'
wrote_more opening count format f l m n s t u a b c h h' none lines e k same j w = record {
  lines = k.lines ++ lines;
  talked = talked_more opening count format f l m n s t u h h' k.lines (k.lines ++ lines) k.talked same
      (behind opening count format f l m n s t u h h' k.lines none lines e k.talked j);
  written = subst (Appends a c) (sym (both_lines k.lines lines))
      (Appends-trans a b c (lines_text k.lines) (lines_text lines) k.written w);
}

-- one turn more, and a front of its lines written
pub wrote_front : {F : Type 0} (opening : Opening) (turns count format f : ℕ) (l m n s t u : Words)
    (a b c : Bytes) (h h' : HotRuntime F) (none lines : List OutLine) (stop : JoinStop) → none ≡ []
    → (k : Wrote opening count format l m s t a b h) → count < turns + 1 → f ≡ format
    → TurnTaken opening (past_after [] k.talked.answers) f m n t u h' none lines
    → WritesFront b c (lines_text lines) → IsWriteStop stop
    → Joins opening turns format l n s u a c (Err stop)
wrote_front opening turns count format f l m n s t u a b c h h' none lines stop e k few same j w stops =
    let more = talked_more opening count format f l m n s t u h h' k.lines (k.lines ++ lines) k.talked same
    (behind opening count format f l m n s t u h h' k.lines none lines e k.talked j) in
    let counted = more.counted in
    inr (record {
      takes = more.takes;
      answers = more.answers;
      left_is = more.left_is;
      sent_is = more.sent_is;
      reads = more.reads;
      few = omega (arith, few, counted);
      taken = more.taken;
      written = front_more a b c (lines_text k.lines) (lines_text lines) []
          (lines_text (lines_of opening [] more.answers)) k.written w
          (ap (λ x. lines_text k.lines ++ x) (append-nil (lines_text lines))
          ∙ (sym (both_lines k.lines lines) ∙ ap lines_text more.lines_are));
      stop = stop;
      stops = stops;
      result_is = refl;
    })

-- the session ended, and all its lines are written
runs_out : (opening : Opening) (turns format : ℕ) (l l' s s' : Words) (a b : Bytes) (lines : List OutLine)
    (e : Ended) (result : Result ⊤ JoinStop) → ClientCourse opening turns format l l' s s' lines e
    → Appends a b (lines_text lines) → result ≡ ends_as e → Joins opening turns format l l' s s' a b result
runs_out opening turns format l l' s s' a b lines e result course w is =
    inl (record { lines = lines; ended = e; course = course; written = w; result_is = is })

-- the session ended in a turn
pub wrote_ended : {F : Type 0} (e : Ended) (opening : Opening) (turns count format f : ℕ)
    (l m n s t u : Words) (a b : Bytes) (h : HotRuntime F) (none lines : List OutLine)
    (result : Result ⊤ JoinStop) → (k : Wrote opening count format l m s t a b h) → count < turns + 1
    → f ≡ format → TurnEnded opening (past_after [] k.talked.answers) f m n t u none lines e
    → result ≡ ends_as e → Joins opening turns format l n s u a b result
wrote_ended e opening turns count format f l m n s t u a b h none lines result k within same j is =
    runs_out opening turns format l n s u a b k.lines e result
    (ended_in_turn e opening turns count format f l m n s t u h k.lines k.lines k.talked within same
    (record { ends = j.ends; lines_are = refl })) k.written is

-- the session ended at its bye
pub wrote_bye : {F : Type 0} (e : Ended) (opening : Opening) (turns count format f : ℕ)
    (l m n s t u : Words) (a b : Bytes) (h : HotRuntime F) (result : Result ⊤ JoinStop)
    → (k : Wrote opening count format l m s t a b h) → count ≡ turns + 1 → f ≡ format
    → Ends f Bye takes_bye m n t u e → result ≡ ends_as e → Joins opening turns format l n s u a b result
wrote_bye e opening turns count format f l m n s t u a b h result k all same j is =
    runs_out opening turns format l n s u a b k.lines e result
    (ended_at_bye e opening turns count format f l m n s t u h k.lines k.talked all same j) k.written is

-- the link didn't open
pub never_opened : {F : Type 0} (fault : OutFault) (e : Ended) (opening : Opening) (turns format : ℕ)
    (l l' s s' : Words) (a : Bytes) (h : HotRuntime F) (result : Result ⊤ JoinStop) → e ≡ ended_at fault
    → StandsFor opening [] h → l' ≡ l → s' ≡ s → result ≡ ends_as e
    → Joins opening turns format l l' s s' a a result
never_opened fault e opening turns format l l' s s' a h result is stands hl hs ends =
    runs_out opening turns format l l' s s' a a [] e result
    (unopened fault e opening turns format l l' s s' h [] is refl stands hl hs) (Appends-nil a) ends

-- a session over the end that came next
over : (opening : Opening) (turns format : ℕ) (coming l l' s s' : Words) (a b : Bytes)
    (result : Result ⊤ JoinStop) → format ≡ opening.format → l ≡ coming → s ≡ told_none coming
    → Joins opening turns format l l' s s' a b result → JoinsOver opening turns coming l' s' a b result
over opening turns format coming l l' s s' a b result spoken told silent h =
    subst (λ x. Joins opening turns opening.format coming l' x s' a b result) silent
    (subst (λ f. Joins opening turns f coming l' s s' a b result) spoken
    (subst (λ x. Joins opening turns format x l' s s' a b result) told h))

pub joined : (opening : Opening) (turns format : ℕ) (coming l l' s s' : Words) (a b : Bytes)
    (result : Result ⊤ JoinStop) → format ≡ opening.format → l ≡ coming → s ≡ told_none coming
    → Joins opening turns format l l' s s' a b result → JoinsAt opening turns coming a b result
joined opening turns format coming l l' s s' a b result spoken told silent h =
    inr (l', s', over opening turns format coming l l' s s' a b result spoken told silent h)

-- Over a net that tells no messages nothing is told of the end either.

none_left : (front : List (List ℕ)) (left : Words) → None ≡ told_front front left → left ≡ None
none_left front None e = refl
none_left front (Some xs) e = cc

untold : (opening : Opening) (turns format : ℕ) (l' s' : Words) (a b : Bytes) (result : Result ⊤ JoinStop)
    → Joins opening turns format None l' None s' a b result → (l' ≡ None) × (s' ≡ None)
untold opening turns format l' s' a b result (inl h) =
    (none_left h.course.takes l' h.course.left_is, h.course.sent_is)
untold opening turns format l' s' a b result (inr h) = (none_left h.takes l' h.left_is, h.sent_is)

settled : (opening : Opening) (turns : ℕ) (coming l' s' : Words) (a b : Bytes) (result : Result ⊤ JoinStop)
    → JoinsOver opening turns coming l' s' a b result
    → JoinsOver opening turns coming (told_of (told_none coming) l') (told_of (told_none coming) s') a b result
settled opening turns None l' s' a b result h =
    let same = untold opening turns opening.format l' s' a b result h in
    subst (λ x. JoinsOver opening turns None None x a b result) same.1
    (subst (λ x. JoinsOver opening turns None x s' a b result) same.0 h)
settled opening turns (Some xs) l' s' a b result h = h

-- a session over the end that came next, with what the net tells of it once it took it back
pub joined_by : (opening : Opening) (turns format : ℕ) (coming rest l l' s s' unread spoken : Words)
    (a b : Bytes) (result : Result ⊤ JoinStop) → format ≡ opening.format → l ≡ coming
    → s ≡ told_none coming → rest ≡ told_none coming → unread ≡ told_of rest l'
    → spoken ≡ told_of rest s' → Joins opening turns format l l' s s' a b result
    → JoinsBy opening turns coming unread spoken a b result
joined_by opening turns format coming rest l l' s s' unread spoken a b result f told silent none left sent h =
    inr (subst (λ x. JoinsOver opening turns coming x spoken a b result)
    (sym (left ∙ ap (λ x. told_of x l') none))
    (subst (λ x. JoinsOver opening turns coming (told_of (told_none coming) l') x a b result)
    (sym (sent ∙ ap (λ x. told_of x s') none))
    (settled opening turns coming l' s' a b result
    (over opening turns format coming l l' s s' a b result f told silent h))))
