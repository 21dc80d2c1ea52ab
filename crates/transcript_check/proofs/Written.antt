-- What is written of events that a core is told.
use Rattle.std.proofs.Common.{ℕ, List, ◌∷◌, ◌++◌, Bool, true, false, ◌≡◌, sym, ap, subst, ◌∙◌, append_assoc, Option, Some, None, Result, Ok, Err}
use Rattle.std.specs.Prelude.{OnOk}
use Rattle.std.specs.List.{flat_map}
use Rattle.std.proofs.lemmas.List.{append-nil}
use Rattle.std.proofs.lemmas.Result.{IfOk-weaker}
use Rattle.core_model.specs.Core.{Core, Event, core_after}
use Rattle.core_model.specs.Names.{Name}
use Rattle.record_text.specs.Texts.{line_text}
use Rattle.record_text.specs.Told.{reply_text}
use Rattle.record_text.specs.declared.record.RecordLine.{RecordLine}
use Rattle.record_text.specs.declared.record.RecordLine.TheVariants as lines
use Rattle.record_text.specs.declared.reply.RecordReply.{RecordReply}
use Rattle.server_core.specs.Kept as core
use Rattle.server_core.specs.Kept.{StandsFor}
use Rattle.server_core.specs.Reading.{is_resting, page_of}
use Rattle.record_laws.specs.Answers.{answer_text, reply_after, reply_told}
use Rattle.record_laws.specs.Written.{client_in, entry_lines, event_told, is_done, lines_behind, rest_line, rest_lines}

-- ---- the line of a client

pub busy_client : (core : Core) (client : Option ℕ) (i : ℕ) (out : List ℕ) → client ≡ Some i → is_resting core i ≡ false → out ≡ out ++ flat_map line_text (rest_lines core client)
busy_client core client i out c e =
    subst (λ client. out ≡ out ++ flat_map line_text (rest_lines core client)) (sym c)
    (subst (λ b. out ≡ out ++ flat_map line_text (rest_line b (page_of core i) i)) (sym e) (sym (append-nil out)))

lone_line : (b : Bool) → (page : Option (List (Name × ℕ))) (i : ℕ) (out : List ℕ) → page ≡ None → out ≡ out ++ flat_map line_text (rest_line b page i)
lone_line true page i out e = subst (λ o. out ≡ out ++ flat_map line_text (rest_line true o i)) (sym e) (sym (append-nil out))
lone_line false page i out e = sym (append-nil out)

pub pageless_client : (core : Core) (client : Option ℕ) (i : ℕ) (out : List ℕ) → client ≡ Some i → page_of core i ≡ None → out ≡ out ++ flat_map line_text (rest_lines core client)
pageless_client core client i out c e =
    subst (λ client. out ≡ out ++ flat_map line_text (rest_lines core client)) (sym c) (lone_line (is_resting core i) (page_of core i) i out e)

resting_client : (core : Core) (i : ℕ) (table : List (Name × ℕ)) (out new : List ℕ) → is_resting core i ≡ true → page_of core i ≡ Some table → new ≡ out ++ line_text (lines.Rest i table)
    → new ≡ out ++ flat_map line_text (rest_lines core (Some i))
resting_client core i table out new e f h =
    subst (λ b. new ≡ out ++ flat_map line_text (rest_line b (page_of core i) i)) (sym e)
    (subst (λ o. new ≡ out ++ flat_map line_text (rest_line true o i)) (sym f)
    (h ∙ ap (λ xs. out ++ xs) (sym (append-nil (line_text (lines.Rest i table))))))

pub resting_ends : {X E : Type 0} (result : Result X E) (core : Core) (client : Option ℕ) (i : ℕ) (table : List (Name × ℕ)) (out new : List ℕ) → client ≡ Some i → is_resting core i ≡ true → page_of core i ≡ Some table
    → OnOk result (new ≡ out ++ line_text (lines.Rest i table)) → OnOk result (new ≡ out ++ flat_map line_text (rest_lines core client))
resting_ends result core client i table out new c e f h =
    subst (λ client. OnOk result (new ≡ out ++ flat_map line_text (rest_lines core client))) (sym c)
    (IfOk-weaker result (λ _. new ≡ out ++ line_text (lines.Rest i table)) (λ _. new ≡ out ++ flat_map line_text (rest_lines core (Some i))) (λ _ n. resting_client core i table out new e f n) h)

-- ---- the lines of an event

-- the line of an event and what is behind it
entry_then : (roots : List Name) (past : List Event) (event : Event) (told : RecordReply) (line : RecordLine) (out mid : List ℕ) (b : Bool) → told ≡ reply_told (reply_after roots past event)
    → line ≡ lines.Entry (event_told event) (reply_text told) → mid ≡ out ++ line_text line → is_done told ≡ b
    → mid ++ flat_map line_text (lines_behind b (core_after roots (event ∷ past)) (client_in event)) ≡ out ++ flat_map line_text (entry_lines roots past event)
entry_then roots past event told line out mid b e f h d =
    let behind : List RecordLine = lines_behind b (core_after roots (event ∷ past)) (client_in event) in
    let done : b ≡ is_done (reply_told (reply_after roots past event)) = sym d ∙ ap is_done e in
    let first : line_text line ≡ line_text (lines.Entry (event_told event) (answer_text roots past event)) =
    ap line_text (f ∙ ap (λ t. lines.Entry (event_told event) (reply_text t)) e) in
    ap (λ xs. xs ++ flat_map line_text behind) (h ∙ ap (λ xs. out ++ xs) first)
    ∙ (append_assoc out (line_text (lines.Entry (event_told event) (answer_text roots past event))) (flat_map line_text behind)
    ∙ ap (λ b. out ++ (line_text (lines.Entry (event_told event) (answer_text roots past event)) ++ flat_map line_text (lines_behind b (core_after roots (event ∷ past)) (client_in event)))) done)

entry_alone : (roots : List Name) (past : List Event) (event : Event) (told : RecordReply) (line : RecordLine) (out new : List ℕ) → told ≡ reply_told (reply_after roots past event)
    → line ≡ lines.Entry (event_told event) (reply_text told) → new ≡ out ++ line_text line → is_done told ≡ false → new ≡ out ++ flat_map line_text (entry_lines roots past event)
entry_alone roots past event told line out new e f h d =
    sym (append-nil new) ∙ entry_then roots past event told line out new false e f h d

entry_rested : (roots : List Name) (past : List Event) (event : Event) (told : RecordReply) (line : RecordLine) (out mid new : List ℕ) → told ≡ reply_told (reply_after roots past event)
    → line ≡ lines.Entry (event_told event) (reply_text told) → mid ≡ out ++ line_text line → is_done told ≡ true
    → new ≡ mid ++ flat_map line_text (rest_lines (core_after roots (event ∷ past)) (client_in event)) → new ≡ out ++ flat_map line_text (entry_lines roots past event)
entry_rested roots past event told line out mid new e f h d rests = rests ∙ entry_then roots past event told line out mid true e f h d

pub entry_ends : {X E : Type 0} (result : Result X E) (roots : List Name) (past : List Event) (event : Event) (told : RecordReply) (line : RecordLine) (client : Option ℕ) (kept : core.Kept) (out mid new : List ℕ)
    → kept.roots ≡ roots → client ≡ client_in event → told ≡ reply_told (reply_after roots past event)
    → line ≡ lines.Entry (event_told event) (reply_text told) → mid ≡ out ++ line_text line → is_done told ≡ true
    → OnOk result (new ≡ mid ++ flat_map line_text (rest_lines (core_after kept.roots (event ∷ past)) client)) → OnOk result (new ≡ out ++ flat_map line_text (entry_lines roots past event))
entry_ends result roots past event told line client kept out mid new r k e f h d rests =
    IfOk-weaker result (λ _. new ≡ mid ++ flat_map line_text (rest_lines (core_after kept.roots (event ∷ past)) client)) (λ _. new ≡ out ++ flat_map line_text (entry_lines roots past event))
    (λ _ n. entry_rested roots past event told line out mid new e f h d
    (n ∙ (ap (λ rs. mid ++ flat_map line_text (rest_lines (core_after rs (event ∷ past)) client)) r
    ∙ ap (λ c. mid ++ flat_map line_text (rest_lines (core_after roots (event ∷ past)) c)) k))) rests

pub any_end : {X E : Type 0} (result : Result X E) (P : Type 0) → P → OnOk result P
any_end (Ok x) P p = p
any_end (Err e) P p = tt
