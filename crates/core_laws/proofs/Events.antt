-- Each event keeps the facts of the sources and of each connected client.
use Rattle.std.proofs.Common.{◌≡◌, ◌⊎◌, inl, inr, ℕ, ◌+◌, ◌≤◌, ◌<◌, Bool, true, false, List, [], ◌∷◌, refl, ap, sym, ◌∙◌, arith}
use Rattle.std.specs.Prelude.{◌==◌, Option, Some, None, IfSome, option_map, if◌then◌else◌}
use Rattle.std.proofs.Math.Path.{subst}
use Rattle.std.proofs.lemmas.Bool.{false≢true}
use Rattle.hmr_types.specs.declared.analysis.Analysis.{Analysis}
use Rattle.core_model.specs.Names.{Name, at}
use Rattle.core_model.specs.Sources.{Sources, Change, edit, result, EditAnswer, job, same, removed, edit_refused, edit_answer, after_edit, ResultAnswer, serve, refuse, late, result_answer, after_result, changed_by, Text}
use Rattle.core_model.specs.View.{View, Entry}
use Rattle.core_model.specs.Page.{Plan}
use Rattle.core_model.specs.Client.{Client, new_client, told_of_edit, told_of_result}
use Rattle.core_model.specs.Requests.{Request, heard}
use Rattle.core_model.specs.Roots.{are_bad, roots_or}
use Rattle.core_model.specs.Core.{Core, Event, change, connect, request, disconnect, client_at, told_of, after_change, is_full, if_room, connected, requested, disconnected, step, core_after, changes_of}
use Rattle.core_model.proofs.Clients.{at_without, at_with, at_each}
use Rattle.core_model.proofs.Replaying.{sources_are, connected_sources, requested_sources, disconnected_sources}
use Rattle.core_laws.specs.Given.{given_too, analysis_given, entry_of, IsGiven}
use Rattle.core_laws.specs.Facts.{PlanIs, PlanIsServed, IsAtMost, SourcesFacts, ClientFacts}
use Rattle.core_laws.specs.Kept.{given_after, given_by, CoreFacts}
use Rattle.core_laws.proofs.Givens.{sources_facts, sources_on, given_on_change}
use Rattle.core_laws.proofs.Requesting.{with_notices, heard_keeps}

-- what is served is the same, or the number of servings and removals rose
abbrev pub IsLater : Sources → Sources → Type 0
IsLater s t = ((t.served ≡ s.served) × (t.served_no ≡ s.served_no)) ⊎ (s.served_no < t.served_no)

edit_later : (answer : EditAnswer) (n : Name) (t : Option Text) (s : Sources) → IsLater s (after_edit answer n t s)
edit_later (job v) n t s = inl (refl, refl)
edit_later same n t s = inl (refl, refl)
edit_later (removed v) n t s = inr (omega arith)
edit_later (edit_refused w) n t s = inl (refl, refl)

result_later : (answer : ResultAnswer) (n : Name) (t : Text) (v : ℕ) (s : Sources) → IsLater s (after_result answer n t v s)
result_later (serve a) n t v s = inr (omega arith)
result_later (refuse f) n t v s = inl (refl, refl)
result_later late n t v s = inl (refl, refl)

pub changed_later : (s : Sources) (ch : Change) → IsLater s (changed_by s ch)
changed_later s (edit n t) = edit_later (edit_answer s n t) n t s
changed_later s (result n t o v) = result_later (result_answer s n t o v) n t v s

abbrev Grows : (Name → ℕ → Option Analysis) → (Name → ℕ → Option Analysis) → Type 0
Grows f g = (n : Name) (v : ℕ) (a : Analysis) → f n v ≡ Some a → g n v ≡ Some a

given_more : (f g : Name → ℕ → Option Analysis) → Grows f g → (n : Name) (o : Option Entry) → IsGiven (f n) o → IsGiven (g n) o
given_more f g more n None h = tt
given_more f g more n (Some e) h = more n e.version e.analysis h

plan_more : (f g : Name → ℕ → Option Analysis) → Grows f g → (plan : Option Plan) (roots : List Name) (loaded : Bool) (view : View) (forced : List Name) → PlanIs plan roots f loaded view forced → PlanIs plan roots g loaded view forced
plan_more f g more None roots loaded view forced h = tt
plan_more f g more (Some p) roots loaded view forced h = (h.0, λ n. given_more f g more n (at p.staged n) (h.1 n))

most_later : (o : Option ℕ) (k j : ℕ) → k ≤ j → IsAtMost o k → IsAtMost o j
most_later None k j l h = tt
most_later (Some i) k j l h = omega (arith, l, h)

later_low : (s t : Sources) → IsLater s t → s.served_no ≤ t.served_no
later_low s t (inl e) = omega (arith, e.1)
later_low s t (inr l) = omega (arith, l)

later_current : (s t : Sources) (c : Client) → IsLater s t → c.plan_at ≤ s.served_no → (c.plan_at ≡ s.served_no → PlanIsServed c.page.plan c.page.view s.served) → c.plan_at ≡ t.served_no → PlanIsServed c.page.plan c.page.view t.served
later_current s t c (inl e) l f k = subst (PlanIsServed c.page.plan c.page.view) (sym e.0) (f (k ∙ e.1))
later_current s t c (inr g) l f k = absurd (omega (arith, g, l, k))

-- a record that isn't touched, when what is served may have changed
pub later_keeps : (f g : Name → ℕ → Option Analysis) (s t : Sources) (c : Client) → Grows f g → IsLater s t → ClientFacts f s c → ClientFacts g t c
later_keeps f g s t c more later facts = record {
  closed = facts.closed;
  empty = facts.empty;
  rises = facts.rises;
  viewed = λ n. given_more f g more n (at c.page.view n) (facts.viewed n);
  accepting = facts.accepting;
  planned = plan_more f g more c.page.plan c.roots c.page.loaded c.page.view c.page.forced facts.planned;
  begun = omega (arith, facts.begun, later_low s t later);
  held = most_later c.held_at s.served_no t.served_no (later_low s t later) facts.held;
  current = later_current s t c later facts.begun facts.current;
}

module _ (by : Name → ℕ → Option Analysis) (t : Sources) (all_given : (n : Name) → IsGiven (by n) (entry_of (at t.served n))) (c : Client) (facts : ClientFacts by t c) where
  edit_told : (answer : EditAnswer) (n : Name) → ClientFacts by t (told_of_edit answer n c)
  edit_told (job v) n = facts
  edit_told same n = facts
  edit_told (removed v) n = with_notices by t all_given c facts _
  edit_told (edit_refused w) n = facts

  result_told : (answer : ResultAnswer) (n : Name) → ClientFacts by t (told_of_result answer n c)
  result_told (serve a) n = with_notices by t all_given c facts _
  result_told (refuse f) n = with_notices by t all_given c facts _
  result_told late n = facts

  told_keeps : (s : Sources) (ch : Change) → ClientFacts by t (told_of s ch c)
  told_keeps s (edit n x) = edit_told (edit_answer s n x) n
  told_keeps s (result n x o v) = result_told (result_answer s n x o v) n

change_keeps : (by : Name → ℕ → Option Analysis) (s : Sources) (ch : Change) (c : Client) → SourcesFacts by s → ClientFacts by s c → ClientFacts (given_after s by ch) (changed_by s ch) (told_of s ch c)
change_keeps by s ch c sources facts = told_keeps (given_after s by ch) (changed_by s ch) (sources_on by s ch sources).served c
    (later_keeps by (given_after s by ch) s (changed_by s ch) c (given_on_change by s ch sources) (changed_later s ch) facts) s ch

pub new_facts : (roots : List Name) (by : Name → ℕ → Option Analysis) (s : Sources) → ClientFacts by s (new_client roots s.served_no)
new_facts roots by s = record { closed = λ h. absurd (false≢true h); empty = λ h. refl; rises = refl; viewed = λ n. tt; accepting = λ n h. absurd (false≢true h); planned = (refl, λ n. tt); begun = omega arith; held = tt; current = λ e. (λ n. tt, tt) }

-- Each client.

some_if : {X : Type 0} (P : X → Type 0) (b : Bool) (x y : Option X) → IfSome x P → IfSome y P → IfSome (if b then x else y) P
some_if P true x y p q = p
some_if P false x y p q = q

some_map : {X : Type 0} (P Q : X → Type 0) (f : X → X) (o : Option X) → ((x : X) → P x → Q (f x)) → IfSome o P → IfSome (option_map f o) Q
some_map P Q f None g p = tt
some_map P Q f (Some x) g p = g x p

abbrev AllClients : (Name → ℕ → Option Analysis) → Core → Type 0
AllClients by core = (j : ℕ) → IfSome (client_at core.clients j) (ClientFacts by core.sources)

room_keeps : (full : Bool) (names : List Name) (by : Name → ℕ → Option Analysis) (core : Core) → AllClients by core → AllClients by (if_room full names core).0
room_keeps true names by core f j = f j
room_keeps false names by core f j = subst (λ o. IfSome o (ClientFacts by core.sources)) (sym (at_with (core.given + 1) (new_client names core.sources.served_no) core.clients j))
    (some_if (ClientFacts by core.sources) (core.given + 1 == j) _ _ (new_facts names by core.sources) (f j))

connect_keeps : (bad : Bool) (names : List Name) (by : Name → ℕ → Option Analysis) (core : Core) → AllClients by core → AllClients by (connected bad names core).0
connect_keeps true names by core f j = f j
connect_keeps false names by core f j = room_keeps (is_full core) names by core f j

request_keeps : (o : Option Client) (by : Name → ℕ → Option Analysis) (i : ℕ) (core : Core) (r : Request) → ((n : Name) → IsGiven (by n) (entry_of (at core.sources.served n))) → IfSome o (ClientFacts by core.sources) → AllClients by core → AllClients by (requested o i core r).0
request_keeps None by i core r g h f j = f j
request_keeps (Some c) by i core r g h f j = subst (λ o. IfSome o (ClientFacts by core.sources)) (sym (at_with i (heard i core.sources c r).0 core.clients j))
    (some_if (ClientFacts by core.sources) (i == j) _ _ (heard_keeps by core.sources g c h i r) (f j))

disconnect_keeps : (o : Option Client) (by : Name → ℕ → Option Analysis) (i : ℕ) (core : Core) → AllClients by core → AllClients by (disconnected o i core).0
disconnect_keeps None by i core f j = f j
disconnect_keeps (Some c) by i core f j = subst (λ o. IfSome o (ClientFacts by core.sources)) (sym (at_without i core.clients j)) (some_if (ClientFacts by core.sources) (i == j) None _ tt (f j))

change_all : (by : Name → ℕ → Option Analysis) (core : Core) (ch : Change) → CoreFacts by core → AllClients (given_after core.sources by ch) (after_change core ch)
change_all by core ch f j = subst (λ o. IfSome o (ClientFacts (given_after core.sources by ch) (changed_by core.sources ch))) (sym (at_each (told_of core.sources ch) core.clients j))
    (some_map (ClientFacts by core.sources) (ClientFacts (given_after core.sources by ch) (changed_by core.sources ch)) (told_of core.sources ch) (client_at core.clients j) (λ c. change_keeps by core.sources ch c f.sources) (f.clients j))

-- each event keeps the facts
pub facts_on : (roots : List Name) (by : Name → ℕ → Option Analysis) (core : Core) (event : Event) → CoreFacts by core → CoreFacts (given_by core by event) (step roots core event).0
facts_on roots by core (change ch) f = record { sources = sources_on by core.sources ch f.sources; clients = change_all by core ch f }
facts_on roots by core (connect names) f = record {
  sources = subst (SourcesFacts by) (sym (connected_sources (are_bad names) (roots_or names roots) core)) f.sources;
  clients = connect_keeps (are_bad names) (roots_or names roots) by core f.clients;
}
facts_on roots by core (request i r) f = record {
  sources = subst (SourcesFacts by) (sym (requested_sources (client_at core.clients i) i core r)) f.sources;
  clients = request_keeps (client_at core.clients i) by i core r f.sources.served (f.clients i) f.clients;
}
facts_on roots by core (disconnect i) f = record {
  sources = subst (SourcesFacts by) (sym (disconnected_sources (client_at core.clients i) i core)) f.sources;
  clients = disconnect_keeps (client_at core.clients i) by i core f.clients;
}

-- what is known after the events is what is known after their edits and results
given_is : (roots : List Name) (past : List Event) (ch : Change) → given_after (core_after roots past).sources (analysis_given (changes_of past)) ch ≡ analysis_given (ch ∷ changes_of past)
given_is roots past (edit n t) = refl
given_is roots past (result n t o v) = ap (λ s. given_too (result_answer s n t o v) n v (analysis_given (changes_of past))) (sources_are roots past)

-- every list of events keeps the facts of the core
pub core_facts : (roots : List Name) (past : List Event) → CoreFacts (analysis_given (changes_of past)) (core_after roots past)
core_facts roots [] = record { sources = sources_facts []; clients = λ j. tt }
core_facts roots (change ch ∷ past) = subst (λ by. CoreFacts by (core_after roots (change ch ∷ past))) (given_is roots past ch) (facts_on roots (analysis_given (changes_of past)) (core_after roots past) (change ch) (core_facts roots past))
core_facts roots (connect names ∷ past) = facts_on roots (analysis_given (changes_of past)) (core_after roots past) (connect names) (core_facts roots past)
core_facts roots (request i r ∷ past) = facts_on roots (analysis_given (changes_of past)) (core_after roots past) (request i r) (core_facts roots past)
core_facts roots (disconnect i ∷ past) = facts_on roots (analysis_given (changes_of past)) (core_after roots past) (disconnect i) (core_facts roots past)

pub served_given : (roots : List Name) (past : List Event) (n : Name) → IsGiven (analysis_given (changes_of past) n) (entry_of (at (core_after roots past).sources.served n))
served_given roots past = (core_facts roots past).sources.served

-- every list of events keeps the facts of each client
pub client_facts : (roots : List Name) (past : List Event) (j : ℕ) → IfSome (client_at (core_after roots past).clients j) (ClientFacts (analysis_given (changes_of past)) (core_after roots past).sources)
client_facts roots past = (core_facts roots past).clients
