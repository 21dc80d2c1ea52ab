-- A refused event leaves the core as it was; so do an edit that changes no text and a late result.
use Rattle.std.proofs.Common.{◌≡◌, ℕ, Bool, true, false, List, [], ◌∷◌, refl, ap, sym, ◌∙◌}
use Rattle.std.specs.Prelude.{◌==◌, Option, Some, None, is_some, if◌then◌else◌}
use Rattle.std.proofs.lemmas.Bool.{false≢true, eqb-true}
use Rattle.std.proofs.lemmas.Option.{same_Some}
use Rattle.hmr_types.specs.declared.analysis.Outcome.{Outcome}
use Rattle.core_model.specs.Names.{Name}
use Rattle.core_model.specs.Sources.{Text, Sources, Change, edit, result, EditAnswer, job, same, removed, edit_refused, edit_answer, after_edit, ResultAnswer, late, result_answer, after_result}
use Rattle.core_model.specs.Page.{Plan}
use Rattle.core_model.specs.Client.{Client, told_of_edit, told_of_result}
use Rattle.core_model.specs.Asking.{AskRow, out_of_turn, tell, load, idle, prune, reload, update, ask_row}
use Rattle.core_model.specs.Requests as reply
use Rattle.core_model.specs.Requests.{Request, ask, fetch, applied_as, aborted, invalidate, Reply, edited, settled, answer_ask, FetchRow, text, not_yet, broken, missing, fetch_row, fetched, fetch_reply, AppliedRow, unfetched, mismatch, done, applied_row, after_applied, applied_reply, is_at_version, invalidated, invalidate_reply, fetched_in, applied_in, aborted_in, invalidated_in, heard}
use Rattle.core_model.specs.Roots.{are_bad, roots_or}
use Rattle.core_model.specs.Core.{Core, Event, change, connect, request, disconnect, client_at, with_client, each_client, is_full, if_room, connected, requested, disconnected, step}
use Rattle.core_laws.specs.Refusing.{is_refused_edit, is_refusal}

-- A request.

ask_refused : (i : ℕ) (s : Sources) (c : Client) (row : AskRow) → is_refusal (answer_ask i s row c).1 ≡ true → (answer_ask i s row c).0 ≡ c
ask_refused i s c out_of_turn h = refl
ask_refused i s c (tell n fault) h = absurd (false≢true h)
ask_refused i s c load h = absurd (false≢true h)
ask_refused i s c idle h = refl
ask_refused i s c (prune ns) h = absurd (false≢true h)
ask_refused i s c (reload path) h = absurd (false≢true h)
ask_refused i s c (update ns ps) h = absurd (false≢true h)

fetch_refused : (row : FetchRow) (p : Plan) (n : Name) (c : Client) → is_refusal (fetch_reply row n) ≡ true → fetched row p n c ≡ c
fetch_refused (text s) p n c h = absurd (false≢true h)
fetch_refused not_yet p n c h = refl
fetch_refused (broken fault) p n c h = refl
fetch_refused missing p n c h = refl

applied_refused : (row : AppliedRow) (p : Plan) (c : Client) → is_refusal (applied_reply row) ≡ true → after_applied row p c ≡ c
applied_refused (unfetched n) p c h = refl
applied_refused (mismatch n told kept) p c h = refl
applied_refused done p c h = absurd (false≢true h)

invalidate_refused : (b : Bool) (n : Name) (c : Client) → is_refusal (invalidate_reply b) ≡ true → invalidated b n c ≡ c
invalidate_refused true n c h = absurd (false≢true h)
invalidate_refused false n c h = refl

in_fetch : (plan : Option Plan) (s : Sources) (n : Name) (c : Client) → is_refusal (fetched_in plan s n c).1 ≡ true → (fetched_in plan s n c).0 ≡ c
in_fetch None s n c h = refl
in_fetch (Some p) s n c h = fetch_refused (fetch_row s n) p n c h

in_applied : (plan : Option Plan) (table : List (Name × ℕ)) (c : Client) → is_refusal (applied_in plan table c).1 ≡ true → (applied_in plan table c).0 ≡ c
in_applied None table c h = refl
in_applied (Some p) table c h = applied_refused (applied_row c.roots p c.page.view table) p c h

in_aborted : (plan : Option Plan) (c : Client) → is_refusal (aborted_in plan c).1 ≡ true → (aborted_in plan c).0 ≡ c
in_aborted None c h = refl
in_aborted (Some p) c h = absurd (false≢true h)

in_invalidated : (plan : Option Plan) (n : Name) (v : ℕ) (c : Client) → is_refusal (invalidated_in plan n v c).1 ≡ true → (invalidated_in plan n v c).0 ≡ c
in_invalidated None n v c h = invalidate_refused (is_at_version _ v) n c h
in_invalidated (Some p) n v c h = refl

pub heard_refused : (i : ℕ) (s : Sources) (c : Client) (r : Request) → is_refusal (heard i s c r).1 ≡ true → (heard i s c r).0 ≡ c
heard_refused i s c ask h = ask_refused i s c (ask_row s c) h
heard_refused i s c (fetch n) h = in_fetch c.page.plan s n c h
heard_refused i s c (applied_as table) h = in_applied c.page.plan table c h
heard_refused i s c aborted h = in_aborted c.page.plan c h
heard_refused i s c (invalidate n v) h = in_invalidated c.page.plan n v c h

-- The records of all clients.

module _ {X : Type 0} where
  placed : (here : Bool) (i : ℕ) (x : X) (row : ℕ × X) (rows rest : List (ℕ × X)) → (row.0 == i) ≡ here → (if here then Some row.1 else client_at rows i) ≡ Some x → (client_at rows i ≡ Some x → rest ≡ rows) → (if here then (i, x) ∷ rows else row ∷ rest) ≡ row ∷ rows
  placed true i x row rows rest e h f = ap (λ k. (k, x) ∷ rows) (sym (eqb-true row.0 i e)) ∙ ap (λ y. (row.0, y) ∷ rows) (sym (same_Some row.1 x h))
  placed false i x row rows rest e h f = ap (λ l. row ∷ l) (f h)

  -- a record that is put back as it was leaves the list
  pub put_back : (i : ℕ) (x : X) (rows : List (ℕ × X)) → client_at rows i ≡ Some x → with_client i x rows ≡ rows
  put_back i x [] h = absurd (false≢true (ap is_some h))
  put_back i x (row ∷ rows) h = placed (row.0 == i) i x row rows (with_client i x rows) refl h (put_back i x rows)

  pub each_same : (f : X → X) (rows : List (ℕ × X)) → ((x : X) → f x ≡ x) → each_client f rows ≡ rows
  each_same f [] h = refl
  each_same f (row ∷ rows) h = ap (λ x. (row.0, x) ∷ each_client f rows) (h row.1) ∙ ap (λ l. row ∷ l) (each_same f rows h)

-- Edits and results.

edit_same : (answer : EditAnswer) (n : Name) (t : Option Text) (core : Core) → is_refused_edit answer ≡ true
    → record core { sources = after_edit answer n t core.sources; clients = each_client (told_of_edit answer n) core.clients } ≡ core
edit_same (job v) n t core h = absurd (false≢true h)
edit_same same n t core h = absurd (false≢true h)
edit_same (removed v) n t core h = absurd (false≢true h)
edit_same (edit_refused w) n t core h = ap (λ rows. record core { clients = rows }) (each_same (told_of_edit (edit_refused w) n) core.clients (λ c. refl))

change_refused : (core : Core) (ch : Change) (roots : List Name) → is_refusal (step roots core (change ch)).1 ≡ true → (step roots core (change ch)).0 ≡ core
change_refused core (edit n t) roots h = edit_same (edit_answer core.sources n t) n t core h
change_refused core (result n t o v) roots h = absurd (false≢true h)

same_text : (answer : EditAnswer) (n : Name) (t : Option Text) (core : Core) → answer ≡ same
    → record core { sources = after_edit answer n t core.sources; clients = each_client (told_of_edit answer n) core.clients } ≡ core
same_text answer n t core e = ap (λ a. record core { sources = after_edit a n t core.sources; clients = each_client (told_of_edit a n) core.clients }) e
    ∙ ap (λ rows. record core { clients = rows }) (each_same (told_of_edit same n) core.clients (λ c. refl))

late_result : (answer : ResultAnswer) (n : Name) (t : Text) (v : ℕ) (core : Core) → answer ≡ late
    → record core { sources = after_result answer n t v core.sources; clients = each_client (told_of_result answer n) core.clients } ≡ core
late_result answer n t v core e = ap (λ a. record core { sources = after_result a n t v core.sources; clients = each_client (told_of_result a n) core.clients }) e
    ∙ ap (λ rows. record core { clients = rows }) (each_same (told_of_result late n) core.clients (λ c. refl))

abbrev edit_in : EditAnswer → Reply → EditAnswer
edit_in d (edited answer) = answer
edit_in d (settled answer) = d
edit_in d (reply.to_client m) = d
edit_in d (reply.refused refusal) = d
edit_in d reply.gone = d

abbrev result_in : ResultAnswer → Reply → ResultAnswer
result_in d (edited answer) = d
result_in d (settled answer) = answer
result_in d (reply.to_client m) = d
result_in d (reply.refused refusal) = d
result_in d reply.gone = d

pub same_is_nothing : (roots : List Name) (core : Core) (n : Name) (t : Option Text) → (step roots core (change (edit n t))).1 ≡ edited same → (step roots core (change (edit n t))).0 ≡ core
same_is_nothing roots core n t e = same_text (edit_answer core.sources n t) n t core (ap (edit_in same) e)

pub late_is_nothing : (roots : List Name) (core : Core) (n : Name) (t : Text) (o : Outcome) (v : ℕ) → (step roots core (change (result n t o v))).1 ≡ settled late → (step roots core (change (result n t o v))).0 ≡ core
late_is_nothing roots core n t o v e = late_result (result_answer core.sources n t o v) n t v core (ap (result_in late) e)

-- Each event.

room_refused : (full : Bool) (names : List Name) (core : Core) → is_refusal (if_room full names core).1 ≡ true → (if_room full names core).0 ≡ core
room_refused true names core h = refl
room_refused false names core h = absurd (false≢true h)

connect_refused : (bad : Bool) (names : List Name) (core : Core) → is_refusal (connected bad names core).1 ≡ true → (connected bad names core).0 ≡ core
connect_refused true names core h = refl
connect_refused false names core h = room_refused (is_full core) names core h

request_refused : (o : Option Client) (i : ℕ) (core : Core) (r : Request) → client_at core.clients i ≡ o → is_refusal (requested o i core r).1 ≡ true → (requested o i core r).0 ≡ core
request_refused None i core r e h = refl
request_refused (Some c) i core r e h = ap (λ rows. record core { clients = rows }) (ap (λ k. with_client i k core.clients) (heard_refused i core.sources c r h) ∙ put_back i c core.clients e)

disconnect_refused : (o : Option Client) (i : ℕ) (core : Core) → is_refusal (disconnected o i core).1 ≡ true → (disconnected o i core).0 ≡ core
disconnect_refused None i core h = refl
disconnect_refused (Some c) i core h = absurd (false≢true h)

-- a refused event leaves the core as it was
pub refused_is_nothing : (roots : List Name) (core : Core) (event : Event) → is_refusal (step roots core event).1 ≡ true → (step roots core event).0 ≡ core
refused_is_nothing roots core (change ch) h = change_refused core ch roots h
refused_is_nothing roots core (connect names) h = connect_refused (are_bad names) (roots_or names roots) core h
refused_is_nothing roots core (request i r) h = request_refused (client_at core.clients i) i core r refl h
refused_is_nothing roots core (disconnect i) h = disconnect_refused (client_at core.clients i) i core h
