-- What an edit or a result leaves of what is served, and of the clients.
use Rattle.std.proofs.Common.{◌≡◌, ℕ, ◌+◌, Bool, true, false, List, [], ◌∷◌, length, refl, ap, sym, ◌∙◌}
use Rattle.std.specs.Prelude.{⊤, ◌-◌, ◌&&◌, nat_le, nat_lt, not, is_some, Option, Some, None, Result, Ok, Err, IsErr, if◌then◌else◌}
use Prim.{⊥}
use Rattle.std.specs.declared.alloc.AllocError.{AllocError}
use Rattle.std.proofs.Math.Path.{subst}
use Rattle.std.proofs.lemmas.Bool.{false≢true}
use Rattle.hmr_types.specs.declared.analysis.TextFault.{TextFault}
use Rattle.hmr_types.specs.declared.analysis.Outcome.{Outcome}
use Rattle.hmr_types.specs.declared.analysis.Outcome.TheVariants.{Good, Bad}
use Rattle.hmr_types.specs.declared.words.EditRefusal.{EditRefusal}
use Rattle.core_model.specs.Names.{Name, same_name, at}
use Rattle.core_model.specs.Sources.{Text, Source, Serving, Sources, Change, edit, result, EditAnswer, job, same, removed, edit_refused, edit_answer, answer_for, numbered, has_text, text_length, total_of, after_edit, text_or_none, ResultAnswer, serve, refuse, late, result_answer, answer_of, is_awaited, after_result, changed_by, sources_after, outstanding, good, bad}
use Rattle.core_model.specs.Client.{Client, told_of_edit, told_of_result, with_notice, without_notice}
use Rattle.core_model.specs.Requests as model
use Rattle.core_model.specs.Core.{Core, Event, change, each_client, step, core_after, changes_of, told_of, answer_change, after_change}
use Rattle.core_model.proofs.Replaying.{sources_are}
use Rattle.core_model.proofs.Tables.{at_without, at_with_row}
use Rattle.version_map.specs.Standing as sources
use Rattle.version_map.specs.Standing.{Matches, settled_as}
use Rattle.version_map.specs.declared.outcome.EditOutcome.{EditOutcome}
use Rattle.version_map.specs.declared.outcome.EditOutcome.TheVariants as edits
use Rattle.version_map.specs.declared.outcome.EditFault.TheVariants.{Refused, NoMemory}
use Rattle.hmr_types.specs.declared.words.EditRefusal.TheVariants.{TextTooLong, TooManyNames, SourceTotal, NumbersSpent}
use Rattle.hmr_types.specs.declared.limits.TheConstants.{TEXT_BYTES, SOURCE_NAMES, SOURCE_BYTES, LARGEST_NUMBER}
use Rattle.version_map.specs.declared.outcome.Settled.{Settled}
use Rattle.version_map.specs.declared.outcome.Settled.TheVariants as settlings
use Rattle.client_records.specs.Record.{IsRecord, SameBut}
use Rattle.events_and_replies.specs.declared.event.Reply.{Reply}
use Rattle.events_and_replies.specs.declared.event.Reply.TheVariants as replies
use Rattle.server_core.specs.Clients.{Clients, AreClients}
use Rattle.server_core.specs.Kept.{Kept, StandsFor, IsStep, is_free, is_job, leaves}
use Rattle.events_and_replies.specs.Said.{said, edit_said, is_good, IsWritten}
use Rattle.server_core.proofs.Alike.{record_same}
use Rattle.server_core.proofs.Numbers.{all_stay}

-- the reply to an edit or a result, by the sources
abbrev pub change_reply : Sources → Change → model.Reply
change_reply s (edit n t) = model.edited (edit_answer s n t)
change_reply s (result n t o v) = model.settled (result_answer s n t o v)

reply_is : (core : Core) (ch : Change) → answer_change core ch ≡ change_reply core.sources ch
reply_is core (edit n t) = refl
reply_is core (result n t o v) = refl

-- a change was made, and each client told
pub change_step : (old : Kept) (ch : Change) (s : Sources) (clients : Clients) (reply : Reply)
    → ((past : List Change) → sources.StandsFor past old.sources → sources.StandsFor (ch ∷ past) s)
    → ((past : List Change) → sources.StandsFor past old.sources → (rows : List (ℕ × Client)) → AreClients old.sources rows old.clients → AreClients s (each_client (told_of (sources_after past) ch) rows) clients)
    → ((past : List Change) → sources.StandsFor past old.sources → said (change_reply (sources_after past) ch) ≡ reply)
    → IsWritten reply
    → IsStep (change ch) old (record old { sources = s; clients = clients }) (Ok reply)
change_step old ch s clients reply stands told answer w = record {
  roots = refl;
  stands = λ past g. record {
    sources = stands (changes_of past) g.sources;
    given = g.given;
    clients = subst (λ t. AreClients s (each_client (told_of t ch) (core_after old.roots past).clients) clients) (sym (sources_are old.roots past)) (told (changes_of past) g.sources (core_after old.roots past).clients g.clients);
  };
  reply = λ past g. ap said (reply_is (core_after old.roots past) ch ∙ ap (λ t. change_reply t ch) (sources_are old.roots past)) ∙ answer (changes_of past) g.sources;
  written = λ past g. w;
  kept = λ past g. tt;
  free = λ past g l. refl;
  others = λ j k l e. absurd (false≢true l);
}

-- memory ran out
pub failed_step : (event : Event) (old : Kept) (clients : Clients) (e : AllocError) → ((past : List Event) → StandsFor past old → StandsFor past (record old { clients = clients })) → ((j : ℕ) → leaves j event ≡ true → clients ≡ old.clients) → ((past : List Event) → StandsFor past old → is_free (core_after old.roots past) event ≡ true → ⊥) → IsStep event old (record old { clients = clients }) (Err e)
failed_step event old clients e f g free = record {
  roots = refl;
  stands = λ past h. tt;
  reply = λ past h. tt;
  written = λ past h. tt;
  kept = f;
  free = λ past h l. absurd (free past h l);
  others = λ j k l h. ap (λ c. Rattle.core_model.specs.Core.client_at c j) (g j l) ∙ h;
}

-- each client as it is

same_each : (f : Client → Client) (rows : List (ℕ × Client)) → ((c : Client) → f c ≡ c) → each_client f rows ≡ rows
same_each f [] e = refl
same_each f (row ∷ rows) e = ap (λ c. (row.0, c) ∷ each_client f rows) (e row.1) ∙ ap (λ l. row ∷ l) (same_each f rows e)

each_alike : (f g : Client → Client) (rows : List (ℕ × Client)) → ((c : Client) → f c ≡ g c) → each_client f rows ≡ each_client g rows
each_alike f g [] e = refl
each_alike f g (row ∷ rows) e = ap (λ c. (row.0, c) ∷ each_client f rows) (e row.1) ∙ ap (λ l. (row.0, g row.1) ∷ l) (each_alike f g rows e)

-- clients that are told nothing
pub told_nothing : (s t : Sources) (f : Client → Client) (rows : List (ℕ × Client)) (clients : Clients) → ((n : Name) → at t.served n ≡ at s.served n) → ((c : Client) → f c ≡ c) → AreClients s rows clients → AreClients t (each_client f rows) clients
told_nothing s t f rows clients e g h = subst (λ l. AreClients t l clients) (sym (same_each f rows g)) (all_stay s t rows clients (λ c k r. record_same s t e c k r) h)

-- clients that are told this
pub told_this : (t : Sources) (f g : Client → Client) (rows : List (ℕ × Client)) (clients : Clients) → ((c : Client) → f c ≡ g c) → AreClients t (each_client g rows) clients → AreClients t (each_client f rows) clients
told_this t f g rows clients e h = subst (λ l. AreClients t l clients) (sym (each_alike f g rows e)) h

-- an edit

abbrev pub is_removal : EditAnswer → Bool
is_removal (job v) = false
is_removal same = false
is_removal (removed v) = true
is_removal (edit_refused w) = false

edit_serves : (a : EditAnswer) (n : Name) (t : Option Text) (s : Sources) → is_removal a ≡ false → (after_edit a n t s).served ≡ s.served
edit_serves (job v) n t s h = refl
edit_serves same n t s h = refl
edit_serves (removed v) n t s h = absurd (false≢true (sym h))
edit_serves (edit_refused w) n t s h = refl

edit_tells : (a : EditAnswer) (n : Name) (c : Client) → is_removal a ≡ false → told_of_edit a n c ≡ c
edit_tells (job v) n c h = refl
edit_tells same n c h = refl
edit_tells (removed v) n c h = absurd (false≢true (sym h))
edit_tells (edit_refused w) n c h = refl

elsewhere : {X : Type 0} (b : Bool) (x o : Option X) → b ≡ false → (if b then x else o) ≡ o
elsewhere true x o h = absurd (false≢true (sym h))
elsewhere false x o h = refl

module _ (past : List Change) (old new : Sources) (h : sources.StandsFor past old) where
  -- an edit that removes nothing tells the clients nothing
  pub edit_untold : (n : Name) (t : Option Text) → sources.StandsFor (edit n t ∷ past) new → is_removal (edit_answer (sources_after past) n t) ≡ false → (rows : List (ℕ × Client)) (clients : Clients) → AreClients old rows clients → AreClients new (each_client (told_of (sources_after past) (edit n t)) rows) clients
  edit_untold n t g a rows clients k =
      told_nothing old new (told_of (sources_after past) (edit n t)) rows clients
      (λ m. g.served m ∙ ap (λ l. at l m) (edit_serves (edit_answer (sources_after past) n t) n t (sources_after past) a) ∙ sym (h.served m))
      (λ c. edit_tells (edit_answer (sources_after past) n t) n c a) k

  -- a removal leaves what is served of other names
  pub removed_elsewhere : (n : Name) (v : ℕ) → sources.StandsFor (edit n None ∷ past) new → edit_answer (sources_after past) n None ≡ removed v → SameBut n old new
  removed_elsewhere n v g a = λ m d.
      g.served m ∙ ap (λ x. at (after_edit x n None (sources_after past)).served m) a ∙ at_without n (sources_after past).served m
      ∙ elsewhere (same_name n m) None (at (sources_after past).served m) d ∙ sym (h.served m)

  -- so does a serving
  pub served_elsewhere : (n : Name) (t : Text) (o : Outcome) (v : ℕ) (a : Rattle.hmr_types.specs.declared.analysis.Analysis.Analysis) → sources.StandsFor (result n t o v ∷ past) new → result_answer (sources_after past) n t o v ≡ serve a → SameBut n old new
  served_elsewhere n t o v a g e = λ m d.
      g.served m ∙ ap (λ x. at (after_result x n t v (sources_after past)).served m) e ∙ at_with_row n (record { version = v; text = t; analysis = a }) (sources_after past).served m
      ∙ elsewhere (same_name n m) (Some (record { version = v; text = t; analysis = a })) (at (sources_after past).served m) d ∙ sym (h.served m)

  -- a result that isn't served leaves what is served
  pub result_serves : (n : Name) (t : Text) (o : Outcome) (v : ℕ) (a : ResultAnswer) → sources.StandsFor (result n t o v ∷ past) new → result_answer (sources_after past) n t o v ≡ a → ((settled_as a ≡ settlings.Served) → ⊥) → (m : Name) → at new.served m ≡ at old.served m
  result_serves n t o v (serve a) g e f m = absurd (f refl)
  result_serves n t o v (refuse w) g e f m = g.served m ∙ ap (λ x. at (after_result x n t v (sources_after past)).served m) e ∙ sym (h.served m)
  result_serves n t o v late g e f m = g.served m ∙ ap (λ x. at (after_result x n t v (sources_after past)).served m) e ∙ sym (h.served m)

-- a removal isn't refused where memory ran out

numbered_removal : (b : Bool) (w : EditRefusal) (v : ℕ) → is_job (if b then edit_refused w else removed v) ≡ false
numbered_removal true w v = refl
numbered_removal false w v = refl

removal_answers : (b : Bool) (counted : ℕ) → is_job (if b then numbered removed counted else same) ≡ false
removal_answers true counted = numbered_removal (nat_le LARGEST_NUMBER counted) NumbersSpent (counted + 1)
removal_answers false counted = refl

no_memory : (a : EditAnswer) → is_job a ≡ false → sources.Answers (Err NoMemory) a → ⊥
no_memory (job v) h e = false≢true (sym h)
no_memory same h e = e
no_memory (removed v) h e = e
no_memory (edit_refused w) h e = e

-- an edit for which memory is wanting is a job
pub wanting : (a : EditAnswer) → sources.Answers (Err NoMemory) a → not (is_job a) ≡ true → ⊥
wanting (job v) h e = false≢true e
wanting same h e = h
wanting (removed v) h e = h
wanting (edit_refused w) h e = h

pub removal_free : (s : Sources) (n : Name) → sources.Answers (Err NoMemory) (edit_answer s n None) → ⊥
removal_free s n e = no_memory (edit_answer s n None) (removal_answers (is_some (at s.current n)) s.counted) e

-- what a removal is answered, by the definitions
pub same_removal : (s t : Sources) → Matches s t → (n : Name) → edit_answer t n None ≡ edit_answer s n None
same_removal s t m n = ap (λ o. answer_for o t None) (m.source n) ∙ ap (λ k. if is_some (at s.current n) then numbered removed k else same) m.counted

outcome_told : (outcome : EditOutcome) (a : EditAnswer) → sources.Answers (Ok outcome) a → edit_said a ≡ replies.Edited outcome
outcome_told (edits.Job v) a e = ap edit_said e
outcome_told edits.Same a e = ap edit_said e
outcome_told (edits.Removed v) a e = ap edit_said e

abbrev pub is_removed : EditOutcome → Bool
is_removed (edits.Job v) = false
is_removed edits.Same = false
is_removed (edits.Removed v) = true

pub outcome_is : (outcome : EditOutcome) (a : EditAnswer) → sources.Answers (Ok outcome) a → is_removal a ≡ is_removed outcome
outcome_is (edits.Job v) a e = ap is_removal e
outcome_is edits.Same a e = ap is_removal e
outcome_is (edits.Removed v) a e = ap is_removal e

pub not_removed : (outcome : EditOutcome) → ((v : ℕ) → outcome ≡ edits.Removed v → ⊥) → is_removed outcome ≡ false
not_removed (edits.Job v) f = refl
not_removed edits.Same f = refl
not_removed (edits.Removed v) f = absurd (f v refl)

or_refused : (b : Bool) (w : EditRefusal) (rest : EditAnswer) → is_removal rest ≡ false → is_removal (if b then edit_refused w else rest) ≡ false
or_refused true w rest h = refl
or_refused false w rest h = h

or_same : (b : Bool) (rest : EditAnswer) → is_removal rest ≡ false → is_removal (if b then same else rest) ≡ false
or_same true rest h = refl
or_same false rest h = h

-- a text that is given is no removal
pub text_given : (s : Sources) (n : Name) (t : Text) → is_removal (edit_answer s n (Some t)) ≡ false
text_given s n t =
    or_refused (nat_lt TEXT_BYTES (length t)) TextTooLong _
    (or_same (has_text (at s.current n) t) _
    (or_refused (not (is_some (at s.current n)) && nat_le SOURCE_NAMES (length s.current)) TooManyNames _
    (or_refused (nat_lt SOURCE_BYTES ((total_of s - text_length (at s.current n)) + length t)) SourceTotal _
    (or_refused (nat_le LARGEST_NUMBER s.counted) NumbersSpent (job (s.counted + 1)) refl))))

-- a bad result for which memory was wanting
pub unsettled_step : (old : Kept) (n : Name) (t : Text) (o : Outcome) (v : ℕ) (clients : Clients) (r : Result Reply AllocError) → IsErr r → ((s : Sources) (rows : List (ℕ × Client)) → AreClients s rows old.clients → AreClients s rows clients) → IsStep (change (result n t o v)) old (record old { clients = clients }) r
unsettled_step old n t o v clients (Ok reply) h keep = absurd (cc)
unsettled_step old n t o v clients (Err e) h keep = failed_step (change (result n t o v)) old clients e
    (λ past g. record { sources = g.sources; given = g.given; clients = keep old.sources (core_after old.roots past).clients g.clients })
    (λ j l. absurd (false≢true l)) (λ past g l. absurd (false≢true l))

-- an edit for which memory was wanting
pub unmade_edit : (old : Kept) (n : Name) (t : Option Text) (new : Sources) (e : AllocError) → new ≡ old.sources → ((past : List Change) → sources.StandsFor past old.sources → sources.Answers (Err NoMemory) (edit_answer (sources_after past) n t)) → IsStep (change (edit n t)) old (record old { sources = new }) (Err e)
unmade_edit old n t new e is answer = subst (λ s. IsStep (change (edit n t)) old (record old { sources = s }) (Err e)) (sym is)
    (failed_step (change (edit n t)) old old.clients e (λ past h. h) (λ j l. refl)
    (λ past h l. wanting (edit_answer (sources_after (changes_of past)) n t) (answer (changes_of past) h.sources) (ap (λ s. not (is_job (edit_answer s n t))) (sym (sources_are old.roots past)) ∙ l)))

module _ (old : Kept) (n : Name) (t : Option Text) (new : Sources) where
  -- an edit that tells the clients nothing
  pub edited_step : (outcome : EditOutcome) → ((past : List Change) → sources.StandsFor past old.sources → sources.StandsFor (edit n t ∷ past) new) → ((past : List Change) → sources.StandsFor past old.sources → sources.Answers (Ok outcome) (edit_answer (sources_after past) n t)) → ((past : List Change) → sources.StandsFor past old.sources → is_removal (edit_answer (sources_after past) n t) ≡ false)
      → IsStep (change (edit n t)) old (record old { sources = new }) (Ok (replies.Edited outcome))
  edited_step outcome stands answer r = change_step old (edit n t) new old.clients (replies.Edited outcome) stands
      (λ past h rows k. edit_untold past old.sources new h n t (stands past h) (r past h) rows old.clients k)
      (λ past h. outcome_told outcome _ (answer past h)) tt

  pub refused_edit : (w : EditRefusal) → ((past : List Change) → sources.StandsFor past old.sources → sources.StandsFor (edit n t ∷ past) new) → ((past : List Change) → sources.StandsFor past old.sources → sources.Answers (Err (Refused w)) (edit_answer (sources_after past) n t))
      → IsStep (change (edit n t)) old (record old { sources = new }) (Ok (replies.EditRefused w))
  refused_edit w stands answer = change_step old (edit n t) new old.clients (replies.EditRefused w) stands
      (λ past h rows k. edit_untold past old.sources new h n t (stands past h) (ap is_removal (answer past h)) rows old.clients k)
      (λ past h. ap edit_said (answer past h)) tt

-- clients that are told that n changed
abbrev pub TellsChange : Name → Sources → Clients → Clients → Type 0
TellsChange n new old clients = (s : Sources) (rows : List (ℕ × Client)) → AreClients s rows old → SameBut n s new → AreClients new (each_client (without_notice n) rows) clients

pub removed_step : (old : Kept) (n : Name) (new : Sources) (clients : Clients) (v : ℕ) → ((past : List Change) → sources.StandsFor past old.sources → sources.StandsFor (edit n None ∷ past) new) → ((past : List Change) → sources.StandsFor past old.sources → edit_answer (sources_after past) n None ≡ removed v) → TellsChange n new old.clients clients
    → IsStep (change (edit n None)) old (record old { sources = new; clients = clients }) (Ok (replies.Edited (edits.Removed v)))
removed_step old n new clients v stands answer tell = change_step old (edit n None) new clients (replies.Edited (edits.Removed v)) stands
    (λ past h rows k. told_this new (told_of (sources_after past) (edit n None)) (without_notice n) rows clients (λ c. ap (λ a. told_of_edit a n c) (answer past h)) (tell old.sources rows k (removed_elsewhere past old.sources new h n v (stands past h) (answer past h))))
    (λ past h. ap edit_said (answer past h)) tt

-- a result

no_serving : (f : TextFault) → settlings.RefusedText f ≡ settlings.Served → ⊥
no_serving f e = absurd (cc)

served_tells : (a : ResultAnswer) (n : Name) (c : Client) → settled_as a ≡ settlings.Served → told_of_result a n c ≡ without_notice n c
served_tells (serve a) n c e = refl
served_tells (refuse f) n c e = absurd (cc)
served_tells late n c e = absurd (cc)

refused_tells : (a : ResultAnswer) (n : Name) (f : TextFault) (c : Client) → settled_as a ≡ settlings.RefusedText f → told_of_result a n c ≡ with_notice n f c
refused_tells (serve a) n f c e = absurd (cc)
refused_tells (refuse g) n f c e = ap (λ w. with_notice n w c) (ap (fault_in f) e)
  where
    fault_in : TextFault → Settled → TextFault
    fault_in d settlings.Served = d
    fault_in d (settlings.RefusedText w) = w
    fault_in d settlings.Late = d
refused_tells late n f c e = absurd (cc)

module _ (old : Kept) (n : Name) (t : Text) (o : Outcome) (v : ℕ) (new : Sources) (settled : Settled)
    (stands : (past : List Change) → sources.StandsFor past old.sources → sources.StandsFor (result n t o v ∷ past) new)
    (answer : (past : List Change) → sources.StandsFor past old.sources → settled ≡ settled_as (result_answer (sources_after past) n t o v)) where
  elsewhere_of : (past : List Change) → sources.StandsFor past old.sources → (a : ResultAnswer) → result_answer (sources_after past) n t o v ≡ a → settled_as a ≡ settlings.Served → SameBut n old.sources new
  elsewhere_of past h (serve a) e f = served_elsewhere past old.sources new h n t o v a (stands past h) e
  elsewhere_of past h (refuse w) e f = absurd (cc)
  elsewhere_of past h late e f = absurd (cc)

  -- a result is served
  pub served_step : (clients : Clients) → settled ≡ settlings.Served → TellsChange n new old.clients clients → IsStep (change (result n t o v)) old (record old { sources = new; clients = clients }) (Ok (replies.Settled settled))
  served_step clients is tell = change_step old (result n t o v) new clients (replies.Settled settled) stands
      (λ past h rows k. told_this new (told_of (sources_after past) (result n t o v)) (without_notice n) rows clients (λ c. served_tells (result_answer (sources_after past) n t o v) n c (sym (answer past h) ∙ is)) (tell old.sources rows k (elsewhere_of past h (result_answer (sources_after past) n t o v) refl (sym (answer past h) ∙ is))))
      (λ past h. ap replies.Settled (sym (answer past h))) tt

  -- a result is refused
  pub refused_step : (clients : Clients) (f : TextFault) → settled ≡ settlings.RefusedText f → ((s : Sources) (rows : List (ℕ × Client)) → AreClients s rows old.clients → AreClients s (each_client (with_notice n f) rows) clients) → IsStep (change (result n t o v)) old (record old { sources = new; clients = clients }) (Ok (replies.Settled settled))
  refused_step clients f is tell = change_step old (result n t o v) new clients (replies.Settled settled) stands
      (λ past h rows k. told_this new (told_of (sources_after past) (result n t o v)) (with_notice n f) rows clients (λ c. refused_tells (result_answer (sources_after past) n t o v) n f c (sym (answer past h) ∙ is))
      (tell new rows (all_stay old.sources new rows old.clients (λ c k r. record_same old.sources new (result_serves past old.sources new h n t o v (result_answer (sources_after past) n t o v) (stands past h) refl (λ e. absurd (no_serving f (sym is ∙ answer past h ∙ e)))) c k r) k)))
      (λ past h. ap replies.Settled (sym (answer past h))) tt

  -- a result is late
  pub late_step : (clients : Clients) → ((past : List Change) → sources.StandsFor past old.sources → result_answer (sources_after past) n t o v ≡ late) → ((s : Sources) (rows : List (ℕ × Client)) → AreClients s rows old.clients → AreClients s rows clients) → IsStep (change (result n t o v)) old (record old { sources = new; clients = clients }) (Ok (replies.Settled settled))
  late_step clients is keep = change_step old (result n t o v) new clients (replies.Settled settled) stands
      (λ past h rows k. told_nothing old.sources new (told_of (sources_after past) (result n t o v)) rows clients (result_serves past old.sources new h n t o v late (stands past h) (is past h) (λ e. absurd (cc))) (λ c. ap (λ a. told_of_result a n c) (is past h)) (keep old.sources rows k))
      (λ past h. ap replies.Settled (sym (answer past h))) tt

-- a good result is served or late, and a bad one is refused or late
module _ (n : Name) (t : Text) (v : ℕ) where
  good_row : (b : Bool) (o : Outcome) → is_good o ≡ true → (settled_as (if b then answer_of o else late) ≡ settlings.Served → ⊥) → (if b then answer_of o else late) ≡ late
  good_row true (Good a) g f = absurd (f refl)
  good_row true (Bad w) g f = absurd (false≢true g)
  good_row false o g f = refl

  bad_row : (b : Bool) (o : Outcome) → is_good o ≡ false → ((w : TextFault) → settled_as (if b then answer_of o else late) ≡ settlings.RefusedText w → ⊥) → (if b then answer_of o else late) ≡ late
  bad_row true (Good a) g f = absurd (false≢true (sym g))
  bad_row true (Bad w) g f = absurd (f w refl)
  bad_row false o g f = refl

  pub good_late : (s : Sources) (o : Outcome) → is_good o ≡ true → (settled_as (result_answer s n t o v) ≡ settlings.Served → ⊥) → result_answer s n t o v ≡ late
  good_late s o = good_row (is_awaited (at s.current n) t v) o

  pub bad_late : (s : Sources) (o : Outcome) → is_good o ≡ false → ((w : TextFault) → settled_as (result_answer s n t o v) ≡ settlings.RefusedText w → ⊥) → result_answer s n t o v ≡ late
  bad_late s o = bad_row (is_awaited (at s.current n) t v) o
