-- Every step of the world keeps each open client tied to its record.
use Rattle.std.proofs.Common.{◌≡◌, ℕ, ◌+◌, ◌≤◌, Bool, true, false, List, [], ◌∷◌, refl, ap, sym, ◌∙◌, arith}
use Rattle.std.specs.Prelude.{find, not, ◌||◌, ◌==◌, Option, Some, None, is_some, option_map, if◌then◌else◌}
use Rattle.std.proofs.Math.Path.{subst}
use Rattle.std.proofs.lemmas.Bool.{false≢true, eqb-true}
use Rattle.hmr_types.specs.declared.analysis.Outcome.{Outcome}
use Rattle.hmr_types.specs.declared.analysis.Outcome.TheVariants.{Good, Bad}
use Rattle.update_msgs.specs.declared.message.ClientMsg.{ClientMsg}
use Rattle.update_msgs.specs.declared.message.ServerMsg.{ServerMsg}
use Rattle.core_model.specs.Names.{Name, same_name, at}
use Rattle.core_model.specs.Sources.{Text, Sources, Serving, Change, edit, result, EditAnswer, job, same, removed, ResultAnswer, serve, refuse, late, edit_answer, result_answer, is_awaited, answer_of, after_edit, after_result, changed_by}
use Rattle.core_model.specs.Sources as sources
use Rattle.core_model.specs.Page.{Page}
use Rattle.output_lines.specs.declared.out_line.OutLine.{OutLine}
use Rattle.core_model.specs.Client.{Client, new_client, told_of_edit, told_of_result}
use Rattle.core_model.specs.Requests.{Request, Reply, heard}
use Rattle.core_model.specs.Core.{Core, client_at, with_client, without_client, told_of, after_change, is_full, if_room, connected, requested, disconnected, step}
use Rattle.core_model.specs.Exchange.{event_of, message_for}
use Rattle.core_model.specs.Roots.{are_bad, roots_or}
use Rattle.core_model.proofs.Clients.{at_with, at_without, at_each}
use Rattle.core_model.proofs.Tables as tables
use Rattle.core_model.proofs.Naming.{same_true}
use Rattle.core_model.proofs.Replaying.{change_stays}
use Rattle.client_model.specs.Language.{Language}
use Rattle.client_model.specs.Runtime.{Runtime}
use Rattle.client_model.specs.Requesting as requesting
use Rattle.client_model.specs.Answering.{answered}
use Rattle.client_model.specs.Expecting.{is_answer, request_place, answer_place}
use Rattle.client_model.specs.Firing.{Firing, busy, unheard, did_hear, hear_all, fire}
use Rattle.client_model.specs.Firing as fires_are
use Rattle.client_model.proofs.Acts.{kept_hear}
use Rattle.client_model.proofs.Staying.{Stays, page_kept}
use Rattle.hmr_types.specs.declared.value.Value.{Value}
use Rattle.client_model.specs.Taking.{unexpected, instances_full, is_stopped, Taking, unchanged_by, did_take, stop, is_too_many, take}
use Rattle.world_model.specs.World.{Job, World, Step, edits, settles, opens, turn, closes, show, values, fates, fresh, fresh_of, fires}
use Rattle.world_model.specs.Editing.{is_job, settle_job}
use Rattle.world_model.specs.Turning.{lines_taken, take_some, turn_of, open_by, close_of, shown, fire_of}
use Rattle.world_model.specs.Steps.{world_step, world_after}
use Rattle.world_model.specs.Ties.{IsTied, TiedAt, AreTied, IsServedRight, AreServedRight, IsUnderstood, UnderstandsAt, Understands, WentOn}
use Rattle.world_model.proofs.Fitting.{Matches, MatchesSome, Fits, heard_roots, fits}

-- What is served stays right.

with_right : (language : Language) (n : Name) (x : Serving) (b : Bool) (m : Name) (o : Option Serving) → (b ≡ true → n ≡ m) → IsServedRight language n (Some x) → IsServedRight language m o → IsServedRight language m (if b then Some x else o)
with_right language n x true m o e h k = subst (λ j. IsServedRight language j (Some x)) (e refl) h
with_right language n x false m o e h k = k

without_right : (language : Language) (b : Bool) (m : Name) (o : Option Serving) → IsServedRight language m o → IsServedRight language m (if b then None else o)
without_right language true m o h = tt
without_right language false m o h = h

edit_right : (language : Language) (answer : EditAnswer) (n : Name) (t : Option Text) (s : Sources) → AreServedRight language s.served → AreServedRight language (after_edit answer n t s).served
edit_right language (job v) n t s h m = h m
edit_right language same n t s h m = h m
edit_right language (removed v) n t s h m = subst (IsServedRight language m) (sym (tables.at_without n s.served m)) (without_right language (same_name n m) m (at s.served m) (h m))
edit_right language (sources.edit_refused word) n t s h m = h m

result_right : (language : Language) (awaited : Bool) (o : Outcome) (n : Name) (t : Text) (v : ℕ) (s : Sources) → o ≡ language.transformed n t → AreServedRight language s.served → AreServedRight language (after_result (if awaited then answer_of o else late) n t v s).served
result_right language true (Good a) n t v s e h m = subst (IsServedRight language m) (sym (tables.at_with_row n _ s.served m)) (with_right language n (record { version = v; text = t; analysis = a }) (same_name n m) m (at s.served m) (same_true n m) (sym e) (h m))
result_right language true (Bad fault) n t v s e h m = h m
result_right language false o n t v s e h m = h m

-- Edits and results leave each page and its roots as they were.

told_of_edit_roots : (answer : EditAnswer) (n : Name) (c : Client) → (told_of_edit answer n c).roots ≡ c.roots
told_of_edit_roots (job v) n c = refl
told_of_edit_roots same n c = refl
told_of_edit_roots (removed v) n c = refl
told_of_edit_roots (sources.edit_refused word) n c = refl

told_of_result_roots : (answer : ResultAnswer) (n : Name) (c : Client) → (told_of_result answer n c).roots ≡ c.roots
told_of_result_roots (serve a) n c = refl
told_of_result_roots (refuse fault) n c = refl
told_of_result_roots late n c = refl

pub change_roots : (s : Sources) (ch : Change) (c : Client) → (told_of s ch c).roots ≡ c.roots
change_roots s (edit n t) c = told_of_edit_roots (edit_answer s n t) n c
change_roots s (result n t o v) c = told_of_result_roots (result_answer s n t o v) n c

tied_told : (i : ℕ) (f : Client → Client) → ((c : Client) → (f c).page ≡ c.page) → ((c : Client) → (f c).roots ≡ c.roots) → (c : Option Client) (r : Option Runtime) → TiedAt i c r → TiedAt i (option_map f c) r
tied_told i f same_page same_roots c None h = tt
tied_told i f same_page same_roots None (Some r) h = h
tied_told i f same_page same_roots (Some c) (Some r) h = record { page = h.page ∙ sym (same_page c); roots_are = h.roots_are ∙ sym (same_roots c); number = h.number; counted = h.counted; running = h.running }

change_tied : (core : Core) (clients : List (ℕ × Runtime)) (ch : Change) → ((i : ℕ) → TiedAt i (client_at core.clients i) (client_at clients i)) → (i : ℕ) → TiedAt i (client_at (after_change core ch).clients i) (client_at clients i)
change_tied core clients ch h i = subst (λ c. TiedAt i c (client_at clients i)) (sym (at_each (told_of core.sources ch) core.clients i)) (tied_told i (told_of core.sources ch) (change_stays core.sources ch) (change_roots core.sources ch) (client_at core.clients i) (client_at clients i) (h i))

-- One client in each table.

tied_with : (i j : ℕ) (b : Bool) → (b ≡ true → i ≡ j) → (c : Client) (r : Runtime) (oc : Option Client) (or : Option Runtime) → IsTied i c r → TiedAt j oc or → TiedAt j (if b then Some c else oc) (if b then Some r else or)
tied_with i j true e c r oc or h k = subst (λ n. IsTied n c r) (e refl) h
tied_with i j false e c r oc or h k = k

both_with : (i : ℕ) (c : Client) (r : Runtime) (clients : List (ℕ × Client)) (runtimes : List (ℕ × Runtime)) → IsTied i c r → ((j : ℕ) → TiedAt j (client_at clients j) (client_at runtimes j)) → (j : ℕ) → TiedAt j (client_at (with_client i c clients) j) (client_at (with_client i r runtimes) j)
both_with i c r clients runtimes h k j = subst (λ o. TiedAt j o (client_at (with_client i r runtimes) j)) (sym (at_with i c clients j))
    (subst (λ o. TiedAt j (if i == j then Some c else client_at clients j) o) (sym (at_with i r runtimes j)) (tied_with i j (i == j) (eqb-true i j) c r (client_at clients j) (client_at runtimes j) h (k j)))

tied_without : (j : ℕ) (b : Bool) (oc : Option Client) (or : Option Runtime) → TiedAt j oc or → TiedAt j (if b then None else oc) (if b then None else or)
tied_without j true oc or h = tt
tied_without j false oc or h = h

both_without : (i : ℕ) (clients : List (ℕ × Client)) (runtimes : List (ℕ × Runtime)) → ((j : ℕ) → TiedAt j (client_at clients j) (client_at runtimes j)) → (j : ℕ) → TiedAt j (client_at (without_client i clients) j) (client_at (without_client i runtimes) j)
both_without i clients runtimes k j = subst (λ o. TiedAt j o (client_at (without_client i runtimes) j)) (sym (at_without i clients j))
    (subst (λ o. TiedAt j (if i == j then None else client_at clients j) o) (sym (at_without i runtimes j)) (tied_without j (i == j) (client_at clients j) (client_at runtimes j) (k j)))

-- A turn.

-- taking the answer: the runtime is tied to the new record, unless it would have made too many instances
record Takes (i : ℕ) (c : Client) (taking : Taking) : Type 0 where
  understood : IsUnderstood taking.answer
  tied : is_some (lines_taken taking.answer) ≡ true → IsTied i c taking.after

takes_if : (i : ℕ) (c : Client) (stopped answers full : Bool) (first second third fourth : Taking) → stopped ≡ false → answers ≡ true → third.answer ≡ instances_full → Takes i c fourth → Takes i c (if stopped then first else (if not answers then second else (if full then third else fourth)))
takes_if i c true answers full first second third fourth e f g h = absurd (false≢true (sym e))
takes_if i c false false full first second third fourth e f g h = absurd (false≢true f)
takes_if i c false true true first second third fourth e f g h = record { understood = subst IsUnderstood (sym g) tt; tied = λ some. absurd (false≢true (ap (λ a. is_some (lines_taken a)) (sym g) ∙ some)) }
takes_if i c false true false first second third fourth e f g h = h

takes : (language : Language) (i : ℕ) (c : Client) (r : Runtime) (m : ServerMsg) (page : Page) → r.roots ≡ c.roots → r.client ≡ i → 1 ≤ i → r.stopped ≡ false → c.page ≡ page → Matches language r (requesting.request language r) m page → Takes i c (take language r m)
takes language i c r m page roots_are number counted running page_is k =
    let asks : ClientMsg = requesting.request language r in
    let did : Taking = did_take (answered language asks m r) in
    takes_if i c r.stopped (is_answer r.page.loaded asks m) (is_too_many asks m r) (unchanged_by is_stopped r) (unchanged_by (unexpected (request_place asks) (answer_place m)) r) (stop r) did running k.answers refl
    (record { understood = tt; tied = λ some. record { page = k.page_is ∙ sym page_is; roots_are = k.roots ∙ roots_are; number = k.number ∙ number; counted = counted; running = k.running ∙ running } })

takes_some : (language : Language) (i : ℕ) (c : Client) (r : Runtime) (o : Option ServerMsg) (page : Page) → r.roots ≡ c.roots → r.client ≡ i → 1 ≤ i → r.stopped ≡ false → c.page ≡ page → MatchesSome language r (requesting.request language r) o page → Takes i c (take_some language r o)
takes_some language i c r None page roots_are number counted running page_is k = absurd k
takes_some language i c r (Some m) page roots_are number counted running page_is k = takes language i c r m page roots_are number counted running page_is k

-- what a client makes of a reply
abbrev taking_of : Language → Runtime → Reply → Taking
taking_of language r reply = take_some language r (message_for r.format reply)

-- what the core's step makes of the world once its answer is taken
record TurnTakes (language : Language) (w : World) (i : ℕ) (r : Runtime) (after : Core × Reply) : Type 0 where
  understood : IsUnderstood (taking_of language r after.1).answer
  tied : is_some (lines_taken (taking_of language r after.1).answer) ≡ true → (j : ℕ) → TiedAt j (client_at after.0.clients j) (client_at (with_client i (taking_of language r after.1).after w.clients) j)
  sources_same : after.0.sources ≡ w.core.sources

requested_takes : (language : Language) (w : World) (i : ℕ) (r : Runtime) (c : Client) (is : Request) → AreTied w → Takes i (heard i w.core.sources c is).0 (taking_of language r (heard i w.core.sources c is).1) → TurnTakes language w i r (requested (Some c) i w.core is)
requested_takes language w i r c is h k = record {
  understood = k.understood;
  tied = λ some. both_with i (heard i w.core.sources c is).0 (taking_of language r (heard i w.core.sources c is).1).after w.core.clients w.clients (k.tied some) h;
  sources_same = refl;
}

-- for a runtime under its own number
turn_at : (language : Language) (roots : List Name) (w : World) (r : Runtime) (c : Client) → client_at w.core.clients r.client ≡ Some c → IsTied r.client c r → AreTied w → AreServedRight language w.core.sources.served → TurnTakes language w r.client r (step roots w.core (event_of r.client (requesting.request language r)))
turn_at language roots w r c there tie h served =
    let f : Fits language w.core.sources c r (requesting.request language r) = fits language w.core.sources c r (sym tie.page) (sym tie.roots_are) served tie.counted in
    let after : Client × Reply = heard r.client w.core.sources c f.is in
    let k : Takes r.client after.0 (taking_of language r after.1) = takes_some language r.client after.0 r (message_for r.format after.1) after.0.page (tie.roots_are ∙ sym (heard_roots r.client w.core.sources c f.is)) refl tie.counted tie.running refl f.matches in
    subst (λ event. TurnTakes language w r.client r (step roots w.core event)) (sym f.event)
    (subst (λ o. TurnTakes language w r.client r (requested o r.client w.core f.is)) (sym there) (requested_takes language w r.client r c f.is h k))

abbrev TurnIs : Language → List Name → World → Runtime → Client → ℕ → Type 0
TurnIs language roots w r c i = client_at w.core.clients i ≡ Some c → IsTied i c r → AreTied w → TurnTakes language w i r (step roots w.core (event_of i (requesting.request language r)))

turn_takes : (language : Language) (roots : List Name) (w : World) (i : ℕ) (r : Runtime) (c : Client) → client_at w.core.clients i ≡ Some c → IsTied i c r → AreTied w → AreServedRight language w.core.sources.served → TurnTakes language w i r (step roots w.core (event_of i (requesting.request language r)))
turn_takes language roots w i r c there tie h served =
    subst (λ k. TurnIs language roots w r c k) tie.number (λ a b d. turn_at language roots w r c a b d served) there tie h

turn_by : (language : Language) (roots : List Name) (w : World) (i : ℕ) (r : Runtime) (o : Option Client) → client_at w.core.clients i ≡ o → TiedAt i o (Some r) → AreTied w → AreServedRight language w.core.sources.served → TurnTakes language w i r (step roots w.core (event_of i (requesting.request language r)))
turn_by language roots w i r None e h k served = absurd h
turn_by language roots w i r (Some c) e h k served = turn_takes language roots w i r c e h k served

-- Steps.

-- what every step keeps
pub record IsSound (language : Language) (w : World) : Type 0 where
  pub tied : AreTied w
  pub served : AreServedRight language w.core.sources.served

turned : (language : Language) (roots : List Name) (w : World) (i : ℕ) (o : Option Runtime) → client_at w.clients i ≡ o → IsSound language w → is_some (turn_of language roots i w o).lines ≡ true → IsSound language (turn_of language roots i w o).world
turned language roots w i None e h some = h
turned language roots w i (Some r) e h some =
    let k : TurnTakes language w i r (step roots w.core (event_of i (requesting.request language r))) = turn_by language roots w i r (client_at w.core.clients i) refl (subst (λ o. TiedAt i (client_at w.core.clients i) o) e (h.tied i)) h.tied h.served in
    record { tied = k.tied some; served = subst (λ s. AreServedRight language s.served) (sym k.sources_same) h.served }

understood_by : (language : Language) (roots : List Name) (w : World) (i : ℕ) (o : Option Runtime) → client_at w.clients i ≡ o → IsSound language w → UnderstandsAt language roots w i o
understood_by language roots w i None e h = tt
understood_by language roots w i (Some r) e h = (turn_by language roots w i r (client_at w.core.clients i) refl (subst (λ o. TiedAt i (client_at w.core.clients i) o) e (h.tied i)) h.tied h.served).understood

-- in each turn the core's answer is one to the request that stands
pub understands : (language : Language) (roots : List Name) (w : World) → IsSound language w → Understands language roots w
understands language roots w h i = understood_by language roots w i (client_at w.clients i) refl h

settled : (language : Language) (roots : List Name) (n : Name) (v : ℕ) (w : World) (o : Option Job) → IsSound language w → IsSound language (settle_job language roots n v w o).world
settled language roots n v w None h = h
settled language roots n v w (Some j) h = record {
  tied = change_tied w.core w.clients (result n j.text (language.transformed n j.text) v) h.tied;
  served = result_right language (is_awaited (at w.core.sources.current n) j.text v) (language.transformed n j.text) n j.text v w.core.sources refl h.served;
}

opened_room : (language : Language) (shelves : List (List (Text × ℕ))) (format : ℕ) (names roots : List Name) (w : World) (full : Bool) → IsSound language w → IsSound language (open_by language shelves format names w (if_room full roots w.core)).world
opened_room language shelves format names roots w true h = h
opened_room language shelves format names roots w false h = record {
  tied = both_with (w.core.given + 1) (new_client roots w.core.sources.served_no) _ w.core.clients w.clients (record { page = refl; roots_are = refl; number = refl; counted = omega arith; running = refl }) h.tied;
  served = h.served;
}

opened : (language : Language) (shelves : List (List (Text × ℕ))) (format : ℕ) (names roots : List Name) (w : World) (bad : Bool) → IsSound language w → IsSound language (open_by language shelves format names w (connected bad roots w.core)).world
opened language shelves format names roots w true h = h
opened language shelves format names roots w false h = opened_room language shelves format names roots w (is_full w.core) h

closed_core : (language : Language) (roots : List Name) (i : ℕ) (w : World) (o : Option Client) → client_at w.core.clients i ≡ o → IsSound language w → IsSound language (record w { core = (disconnected o i w.core).0; clients = without_client i w.clients })
closed_core language roots i w None e h = record {
  tied = λ j. subst (λ o. TiedAt j (client_at w.core.clients j) o) (sym (at_without i w.clients j)) (gone j (i == j) (client_at w.core.clients j) (client_at w.clients j) (h.tied j));
  served = h.served;
}
  where
    gone : (j : ℕ) (b : Bool) (oc : Option Client) (or : Option Runtime) → TiedAt j oc or → TiedAt j oc (if b then None else or)
    gone j true oc or k = tt
    gone j false oc or k = k
closed_core language roots i w (Some c) e h = record { tied = both_without i w.core.clients w.clients h.tied; served = h.served }

closed : (language : Language) (roots : List Name) (i : ℕ) (w : World) (o : Option Runtime) → IsSound language w → IsSound language (close_of roots i w o).world
closed language roots i w None h = h
closed language roots i w (Some r) h = closed_core language roots i w (client_at w.core.clients i) refl h

shows : (language : Language) (roots : List Name) (i : ℕ) (w : World) (lines : Runtime → List OutLine) (o : Option Runtime) → IsSound language w → IsSound language (shown i w lines o).world
shows language roots i w lines None h = h
shows language roots i w lines (Some r) h = h

-- a client that hears an event, or doesn't, has its page, its roots and its number as before
fire_if : (P : Runtime → Type 0) (stopped unfit : Bool) (first second third : Firing) → P first.after → P second.after → P third.after → P (if stopped then first else (if unfit then second else third)).after
fire_if P true unfit first second third a b c = a
fire_if P false true first second third a b c = b
fire_if P false false first second third a b c = c

fired_tied : (language : Language) (i : ℕ) (n : Name) (value : Value) (c : Client) (r : Runtime) → IsTied i c r → IsTied i c (fire language n value r).after
fired_tied language i n value c r h =
    let k : Stays r (hear_all language n value r) = kept_hear Stays page_kept language n value r in
    fire_if (IsTied i c) r.stopped (not r.page.loaded || is_some r.page.plan) (unheard fires_are.is_stopped r) (unheard busy r) (did_hear (hear_all language n value r)) h h
    (record { page = k.page ∙ h.page; roots_are = k.roots ∙ h.roots_are; number = k.client ∙ h.number; counted = h.counted; running = k.stopped ∙ h.running })

-- the runtime of one number is another
anew_at : (i j : ℕ) (b : Bool) → (b ≡ true → i ≡ j) → (r : Runtime) (clients : List (ℕ × Client)) (or : Option Runtime) → TiedAt i (client_at clients i) (Some r) → TiedAt j (client_at clients j) or → TiedAt j (client_at clients j) (if b then Some r else or)
anew_at i j true e r clients or h k = subst (λ n. TiedAt n (client_at clients n) (Some r)) (e refl) h
anew_at i j false e r clients or h k = k

fired_at_tied : (language : Language) (i : ℕ) (n : Name) (value : Value) (r : Runtime) (oc : Option Client) → TiedAt i oc (Some r) → TiedAt i oc (Some (fire language n value r).after)
fired_at_tied language i n value r None h = h
fired_at_tied language i n value r (Some c) h = fired_tied language i n value c r h

fired : (language : Language) (i : ℕ) (n : Name) (value : Value) (w : World) (o : Option Runtime) → client_at w.clients i ≡ o → IsSound language w → IsSound language (fire_of language i n value w o).world
fired language i n value w None e h = h
fired language i n value w (Some r) e h =
    let after : Runtime = (fire language n value r).after in
    let there : TiedAt i (client_at w.core.clients i) (Some after) = fired_at_tied language i n value r (client_at w.core.clients i) (subst (λ o. TiedAt i (client_at w.core.clients i) o) e (h.tied i)) in
    record {
      tied = λ j. subst (λ o. TiedAt j (client_at w.core.clients j) o) (sym (at_with i after w.clients j)) (anew_at i j (i == j) (eqb-true i j) after w.core.clients (client_at w.clients j) there (h.tied j));
      served = h.served;
    }

pub step_sound : (language : Language) (roots : List Name) (shelves : List (List (Text × ℕ))) (w : World) (s : Step) → IsSound language w → is_some (world_step language roots shelves w s).lines ≡ true → IsSound language (world_step language roots shelves w s).world
step_sound language roots shelves w (edits n t) h some = record { tied = change_tied w.core w.clients (edit n t) h.tied; served = edit_right language (edit_answer w.core.sources n t) n t w.core.sources h.served }
step_sound language roots shelves w (settles n v) h some = settled language roots n v w (find (is_job n v) w.issued) h
step_sound language roots shelves w (opens format names) h some = opened language shelves format names (roots_or names roots) w (are_bad names) h
step_sound language roots shelves w (turn i) h some = turned language roots w i (client_at w.clients i) refl h some
step_sound language roots shelves w (closes i) h some = closed language roots i w (client_at w.clients i) h
step_sound language roots shelves w (show i) h some = shows language roots i w _ (client_at w.clients i) h
step_sound language roots shelves w (values i) h some = shows language roots i w _ (client_at w.clients i) h
step_sound language roots shelves w (fates i) h some = shows language roots i w _ (client_at w.clients i) h
step_sound language roots shelves w fresh h some = h
step_sound language roots shelves w (fresh_of i) h some = shows language roots i w _ (client_at w.clients i) h
step_sound language roots shelves w (fires i n value) h some = fired language i n value w (client_at w.clients i) refl h

-- every run keeps it
pub run_sound : (language : Language) (roots : List Name) (shelves : List (List (Text × ℕ))) (past : List Step) → WentOn language roots shelves past → IsSound language (world_after language roots shelves past)
run_sound language roots shelves [] h = record { tied = λ i. tt; served = λ n. tt }
run_sound language roots shelves (s ∷ past) h = step_sound language roots shelves (world_after language roots shelves past) s (run_sound language roots shelves past h.1) h.0
