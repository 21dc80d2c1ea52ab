-- One turn after another, and how a session ends after so many.
use Rattle.std.proofs.Common.{◌≡◌, ◌⊎◌, ◌≤◌, ◌<◌, ◌+◌, inl, inr, ℕ, true, false, List, [], ◌∷◌, ◌++◌, length, Option, refl, sym, ap, ◌∙◌, append_assoc, subst, arith}
use Rattle.std.specs.Prelude.{map, ◌==◌}
use Rattle.std.specs.List.{AllZip}
use Rattle.std.proofs.lemmas.List.{append-nil, map-append, length-append}
use Rattle.std.proofs.lemmas.Bool.{eq-eqb}
use Rattle.std.proofs.lemmas.Bool.Decides.{eqb_tells}
use Rattle.output_lines.specs.declared.out_line.OutLine.{OutLine}
use Rattle.transport.specs.Told.{told_and, told_front}
use Rattle.update_msgs.specs.declared.message.ClientMsg.{ClientMsg}
use Rattle.update_msgs.specs.declared.message.ClientMsg.TheVariants.{Bye}
use Rattle.update_msgs.specs.declared.message.ServerMsg.{ServerMsg}
use Rattle.message_text.specs.ClientText.{client_text}
use Rattle.client_model.specs.Past.{Past, message}
use Rattle.client_model.specs.Runtime.{Opening}
use Rattle.runtime_state.specs.Standing.{StandsFor}
use Rattle.runtime_state.specs.declared.runtime.HotRuntime.{HotRuntime}
use Rattle.sessions.specs.Course.{IsAllButLast}
use Rattle.sessions.specs.declared.ended.Ended.{Ended}
use Rattle.sessions.specs.declared.ended.Ended.TheVariants.{Closed, LinkFault, BadMessage, Stopped, NoMemory, Unexpected, InstancesFull}
use Rattle.sessions.proofs.Told.{front_none, and_none, front_more, and_more}
use Rattle.hmr_base.specs.declared.out_fault.OutFault.{OutFault}
use Rattle.sessions.specs.Endings.{ended_at}
use Rattle.client_model.specs.Taking.{Taken, took}
use Rattle.client_sessions.specs.Asking.{AllTaken, IsTook, asked_after, taken_after, past_after, requests, lines_by, lines_of, next_asked}
use Rattle.client_sessions.specs.Course.{TurnTaken, TurnEnded, Talked, asks, OneMoreRead, ComesTo, ClientCourse}
use Rattle.client_sessions.specs.Exchange.{Ends, EndsBy, TookOne, ReadsIn, takes_by, takes_bye, takes_none}
use Rattle.client_sessions.proofs.Exchanges.{unsent}

abbrev Words : Type 0
Words = Option (List (List ℕ))

-- One answer more.

past_more : (past : Past) (ms : List ServerMsg) (m : ServerMsg) → past_after past (ms ++ m ∷ []) ≡ message m ∷ past_after past ms
past_more past [] m = refl
past_more past (x ∷ ms) m = past_more (message x ∷ past) ms m

requests_more : (opening : Opening) (past : Past) (ms : List ServerMsg) (m : ServerMsg) → requests opening past (ms ++ m ∷ []) ≡ requests opening past ms ++ asked_after opening (past_after past ms) ∷ []
requests_more opening past [] m = refl
requests_more opening past (x ∷ ms) m = ap (λ rest. asked_after opening past ∷ rest) (requests_more opening (message x ∷ past) ms m)

lines_more : (opening : Opening) (past : Past) (ms : List ServerMsg) (m : ServerMsg) → lines_of opening past (ms ++ m ∷ []) ≡ lines_of opening past ms ++ lines_by (taken_after opening (past_after past ms) m)
lines_more opening past [] m = append-nil _
lines_more opening past (x ∷ ms) m =
    ap (λ rest. lines_by (taken_after opening past x) ++ rest) (lines_more opening (message x ∷ past) ms m)
    ∙ sym (append_assoc (lines_by (taken_after opening past x)) (lines_of opening (message x ∷ past) ms) _)

reads_more : (format : ℕ) (ts : List (List ℕ)) (ms : List ServerMsg) (b : List ℕ) (m : ServerMsg) → AllZip (ReadsIn format) ts ms → ReadsIn format b m → AllZip (ReadsIn format) (ts ++ b ∷ []) (ms ++ m ∷ [])
reads_more format [] [] b m h k = (k, tt)
reads_more format [] (x ∷ ms) b m h k = absurd h
reads_more format (t ∷ ts) [] b m h k = absurd h
reads_more format (t ∷ ts) (x ∷ ms) b m (h, hs) k = (h, reads_more format ts ms b m hs k)

taken_more : (opening : Opening) (past : Past) (ms : List ServerMsg) (m : ServerMsg) → AllTaken opening past ms → IsTook (taken_after opening (past_after past ms) m) → AllTaken opening past (ms ++ m ∷ [])
taken_more opening past [] m h k = (k, tt)
taken_more opening past (x ∷ ms) m (h, hs) k = (h, taken_more opening (message x ∷ past) ms m hs k)

is_took : (taken : Taken) (lines : List OutLine) → taken ≡ took lines → IsTook taken
is_took taken lines e = subst IsTook (sym e) tt

-- nothing was asked yet
pub talked_none : {F : Type 0} (opening : Opening) (format : ℕ) (l s : Words) (h : HotRuntime F) (lines : List OutLine) → lines ≡ [] → StandsFor opening [] h → Talked opening 0 format l l s s h lines
talked_none opening format l s h lines e stands = record {
  takes = [];
  answers = [];
  left_is = front_none l;
  sent_is = and_none s;
  reads = tt;
  counted = refl;
  taken = tt;
  lines_are = e;
  stands = stands;
}

-- one turn more
pub talked_more : {F : Type 0} (opening : Opening) (count format f : ℕ) (l m n s t u : Words) (h h' : HotRuntime F) (lines lines' : List OutLine) → (k : Talked opening count format l m s t h lines) → f ≡ format → TurnTaken opening (past_after [] k.answers) f m n t u h' lines lines' → Talked opening (count + 1) format l n s u h' lines'
talked_more opening count format f l m n s t u h h' lines lines' k same j = record {
  takes = k.takes ++ j.exchanged.bytes ∷ [];
  answers = k.answers ++ j.answer ∷ [];
  left_is = k.left_is ∙ (ap (λ x. told_front k.takes x) j.exchanged.left_is ∙ front_more k.takes (j.exchanged.bytes ∷ []) n);
  sent_is =
      j.exchanged.sent_is ∙ (ap (λ x. told_and x (client_text (asked_after opening (past_after [] k.answers)) ∷ [])) k.sent_is
      ∙ (and_more s (map client_text (requests opening [] k.answers)) (client_text (asked_after opening (past_after [] k.answers)) ∷ [])
      ∙ ap (λ x. told_and s x) (sym (ap (map client_text) (requests_more opening [] k.answers j.answer) ∙ map-append client_text (requests opening [] k.answers) (asked_after opening (past_after [] k.answers) ∷ [])))));
  reads = reads_more format k.takes k.answers j.exchanged.bytes j.answer k.reads (subst (λ x. ReadsIn x j.exchanged.bytes j.answer) same j.exchanged.reads);
  counted = length-append k.answers (j.answer ∷ []) ∙ ap (λ x. x + 1) k.counted;
  taken = taken_more opening [] k.answers j.answer k.taken (is_took _ j.more j.taken);
  lines_are = j.lines_are ∙ (ap (λ x. x ++ j.more) k.lines_are ∙ (ap (λ x. lines_of opening [] k.answers ++ lines_by x) (sym j.taken) ∙ sym (lines_more opening [] k.answers j.answer)));
  stands = subst (λ x. StandsFor opening x h') (sym (past_more [] k.answers j.answer)) j.stands;
}

-- The end.

-- what an answer at which the session ends says of it
record Fits (Takes : ServerMsg → Ended → Type 0) (opening : Opening) (turns : ℕ) (answers : List ServerMsg) : Type 0 where
  closed : (m : ServerMsg) → Takes m Closed → length answers ≡ turns + 1
  stopped : (m : ServerMsg) → ¬ (Takes m Stopped)
  unexpected : (m : ServerMsg) (wanted got : ℕ) → Takes m (Unexpected wanted got) → takes_by opening (past_after [] answers) m (Unexpected wanted got)
  full : (m : ServerMsg) → Takes m InstancesFull → takes_by opening (past_after [] answers) m InstancesFull

but_last : (front asked sent all : List (List ℕ)) → front ++ asked ≡ all → IsAllButLast sent asked → IsAllButLast (front ++ sent) all
but_last front asked sent all is (inl e) = inl (ap (λ x. front ++ x) e ∙ is)
but_last front asked sent all is (inr (last, e)) = inr (last, append_assoc front sent (last ∷ []) ∙ (ap (λ x. front ++ x) e ∙ is))

read_on : (format : ℕ) (front taken : List (List ℕ)) (answers : List ServerMsg) → AllZip (ReadsIn format) front answers → taken ≡ [] → AllZip (ReadsIn format) (front ++ taken) answers
read_on format front taken answers h e = subst (λ x. AllZip (ReadsIn format) (front ++ x) answers) (sym e) (subst (λ x. AllZip (ReadsIn format) x answers) (sym (append-nil front)) h)

one_more : (P Q : List ℕ → Type 0) (format : ℕ) (front taken : List (List ℕ)) (answers : List ServerMsg) → AllZip (ReadsIn format) front answers → ((b : List ℕ) → P b → Q b) → TookOne P taken → OneMoreRead Q format (front ++ taken) answers
one_more P Q format front taken answers h f (b, e, p) = record { front = front; last = b; taken_are = ap (λ x. front ++ x) e; last_is = f b p; reads = h }

comes_to : (e : Ended) (Takes : ServerMsg → Ended → Type 0) (opening : Opening) (turns format : ℕ) (answers : List ServerMsg) (front taken sent : List (List ℕ)) (asked : ClientMsg) (left : Words)
    → Fits Takes opening turns answers → map client_text (requests opening [] answers) ++ client_text asked ∷ [] ≡ asks opening turns answers → AllZip (ReadsIn format) front answers
    → EndsBy Takes format (client_text asked ∷ []) e taken sent left → ComesTo e opening turns format answers (front ++ taken) (map client_text (requests opening [] answers) ++ sent) left
comes_to Closed Takes opening turns format answers front taken sent asked left fits is reads (se, inl (te, none)) =
    (ap (λ x. map client_text (requests opening [] answers) ++ x) se ∙ is, inl (read_on format front taken answers reads te, none))
comes_to Closed Takes opening turns format answers front taken sent asked left fits is reads (se, inr (b, te, (m, r, x))) =
    (ap (λ x. map client_text (requests opening [] answers) ++ x) se ∙ is, inr (record { front = front; last = b; taken_are = ap (λ x. front ++ x) te; last_is = (m, r); reads = reads }, fits.closed m x))
comes_to LinkFault Takes opening turns format answers front taken sent asked left fits is reads (se, te) =
    (but_last (map client_text (requests opening [] answers)) (client_text asked ∷ []) sent (asks opening turns answers) is se, read_on format front taken answers reads te)
comes_to (BadMessage fault) Takes opening turns format answers front taken sent asked left fits is reads (se, te) =
    (ap (λ x. map client_text (requests opening [] answers) ++ x) se ∙ is, one_more _ _ format front taken answers reads (λ b p. p) te)
comes_to Stopped Takes opening turns format answers front taken sent asked left fits is reads (se, (b, te, (m, r, x))) = fits.stopped m x
comes_to NoMemory Takes opening turns format answers front taken sent asked left fits is reads (se, inl te) =
    (but_last (map client_text (requests opening [] answers)) (client_text asked ∷ []) sent (asks opening turns answers) is se, inl (read_on format front taken answers reads te))
comes_to NoMemory Takes opening turns format answers front taken sent asked left fits is reads (se, inr te) =
    (but_last (map client_text (requests opening [] answers)) (client_text asked ∷ []) sent (asks opening turns answers) is se, inr (one_more _ _ format front taken answers reads (λ b p. p) te))
comes_to (Unexpected wanted got) Takes opening turns format answers front taken sent asked left fits is reads (se, (b, te, (m, r, x))) =
    (ap (λ x. map client_text (requests opening [] answers) ++ x) se ∙ is, record { front = front; last = b; taken_are = ap (λ x. front ++ x) te; last_is = (m, r, fits.unexpected m wanted got x); reads = reads })
comes_to InstancesFull Takes opening turns format answers front taken sent asked left fits is reads (se, (b, te, (m, r, x))) =
    (ap (λ x. map client_text (requests opening [] answers) ++ x) se ∙ is, record { front = front; last = b; taken_are = ap (λ x. front ++ x) te; last_is = (m, r, fits.full m x); reads = reads })

ended_at_request : {F : Type 0} (e : Ended) (Takes : ServerMsg → Ended → Type 0) (opening : Opening) (turns count format f : ℕ) (l m n s t u : Words) (h : HotRuntime F) (lines lines' : List OutLine) (asked : ClientMsg) → (k : Talked opening count format l m s t h lines)
    → Fits Takes opening turns k.answers → next_asked (length k.answers == turns + 1) opening (past_after [] k.answers) ≡ asked → count ≤ turns + 1 → lines' ≡ lines → f ≡ format → Ends f asked Takes m n t u e → ClientCourse opening turns format l n s u lines' e
ended_at_request e Takes opening turns count format f l m n s t u h lines lines' asked k fits next few same spoken j = record {
  takes = k.takes ++ j.takes;
  sends = map client_text (requests opening [] k.answers) ++ j.sends;
  answers = k.answers;
  left_is = k.left_is ∙ (ap (λ x. told_front k.takes x) j.left_is ∙ front_more k.takes j.takes n);
  sent_is = j.sent_is ∙ (ap (λ x. told_and x j.sends) k.sent_is ∙ and_more s (map client_text (requests opening [] k.answers)) j.sends);
  few = subst (λ x. x ≤ turns + 1) (sym k.counted) few;
  taken = k.taken;
  lines_are = same ∙ k.lines_are;
  comes = comes_to e Takes opening turns format k.answers k.takes j.takes j.sends asked n fits (ap (λ x. map client_text (requests opening [] k.answers) ++ client_text x ∷ []) (sym next)) k.reads (subst (λ x. EndsBy Takes x (client_text asked ∷ []) e j.takes j.sends n) spoken j.ends);
}

told_apart : (a b : ℕ) → a < b → (((a == b) ≡ true) × (a ≡ b)) ⊎ (((a == b) ≡ false) × ¬ (a ≡ b)) → (a == b) ≡ false
told_apart a b h (inl (e, same)) = absurd (omega (arith, same, h))
told_apart a b h (inr (e, k)) = e

not_equal : (a b : ℕ) → a < b → (a == b) ≡ false
not_equal a b h = told_apart a b h (eqb_tells a b)

-- the session ended in a turn
pub ended_in_turn : {F : Type 0} (e : Ended) (opening : Opening) (turns count format f : ℕ) (l m n s t u : Words) (h : HotRuntime F) (lines lines' : List OutLine) → (k : Talked opening count format l m s t h lines) → count < turns + 1
    → f ≡ format → TurnEnded opening (past_after [] k.answers) f m n t u lines lines' e → ClientCourse opening turns format l n s u lines' e
ended_in_turn e opening turns count format f l m n s t u h lines lines' k within spoken j =
    ended_at_request e (takes_by opening (past_after [] k.answers)) opening turns count format f l m n s t u h lines lines' (asked_after opening (past_after [] k.answers)) k
    (record { closed = λ m x. absurd x; stopped = λ m x. x; unexpected = λ m w g x. x; full = λ m x. x })
    (ap (λ b. next_asked b opening (past_after [] k.answers)) (not_equal (length k.answers) (turns + 1) (subst (λ x. x < turns + 1) (sym k.counted) within)))
    (omega (arith, within)) j.lines_are spoken j.ends

-- the session ended at its bye
pub ended_at_bye : {F : Type 0} (e : Ended) (opening : Opening) (turns count format f : ℕ) (l m n s t u : Words) (h : HotRuntime F) (lines : List OutLine) → (k : Talked opening count format l m s t h lines) → count ≡ turns + 1
    → f ≡ format → Ends f Bye takes_bye m n t u e → ClientCourse opening turns format l n s u lines e
ended_at_bye e opening turns count format f l m n s t u h lines k all spoken j =
    ended_at_request e takes_bye opening turns count format f l m n s t u h lines lines Bye k
    (record { closed = λ m x. k.counted ∙ all; stopped = λ m x. let y : Stopped ≡ Closed = x in cc; unexpected = λ m w g x. absurd (let y : Unexpected w g ≡ Closed = x in cc); full = λ m x. absurd (let y : InstancesFull ≡ Closed = x in cc) })
    (ap (λ b. next_asked b opening (past_after [] k.answers)) (eq-eqb (length k.answers) (turns + 1) (k.counted ∙ all)))
    (omega (arith, all)) refl spoken j

ended_first : {F : Type 0} (e : Ended) (opening : Opening) (turns format : ℕ) (l l' s s' : Words) (h : HotRuntime F) (lines : List OutLine) → lines ≡ [] → StandsFor opening [] h → Ends format (asked_after opening []) takes_none l l' s s' e → ClientCourse opening turns format l l' s s' lines e
unfolding talked_none
ended_first e opening turns format l l' s s' h lines none stands j =
    ended_at_request e takes_none opening turns 0 format format l l l' s s s' h lines lines (asked_after opening []) (talked_none opening format l s h lines none stands)
    (record { closed = λ m x. absurd x; stopped = λ m x. x; unexpected = λ m w g x. absurd x; full = λ m x. absurd x })
    (ap (λ b. next_asked b opening []) (not_equal 0 (turns + 1) (omega arith)))
    (omega arith) refl refl j

-- the link didn't open
pub unopened : {F : Type 0} (fault : OutFault) (e : Ended) (opening : Opening) (turns format : ℕ) (l l' s s' : Words) (h : HotRuntime F) (lines : List OutLine) → e ≡ ended_at fault → lines ≡ [] → StandsFor opening [] h → l' ≡ l → s' ≡ s → ClientCourse opening turns format l l' s s' lines e
unopened fault e opening turns format l l' s s' h lines is none stands hl hs =
    subst (λ x. ClientCourse opening turns format l l' s s' lines x) (sym is)
    (ended_first (ended_at fault) opening turns format l l' s s' h lines none stands (unsent fault format (asked_after opening []) l l' s s' hl hs))

-- the same course, where the link was only opened before and closed after
pub course_on : (opening : Opening) (turns format : ℕ) (l k l' k' s t s' t' : Words) (lines : List OutLine) (e : Ended) → k ≡ l → t ≡ s → k' ≡ l' → t' ≡ s' → ClientCourse opening turns format k l' t s' lines e → ClientCourse opening turns format l k' s t' lines e
course_on opening turns format l k l' k' s t s' t' lines e hl hs hl' hs' h =
    let a : ClientCourse opening turns format k k' t t' lines e = subst (λ x. ClientCourse opening turns format k x t t' lines e) (sym hl') (subst (λ x. ClientCourse opening turns format k l' t x lines e) (sym hs') h) in
    subst (λ x. ClientCourse opening turns format x k' s t' lines e) hl (subst (λ x. ClientCourse opening turns format k k' x t' lines e) hs a)
