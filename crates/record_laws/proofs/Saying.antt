-- What a sound record says of its core.
use Rattle.std.proofs.Common.{ℕ, List, [], ◌∷◌, ◌++◌, true, ◌≡◌, refl, sym, subst, ◌∙◌, Option, Some, None}
use Rattle.std.specs.Prelude.{is_none, IfSome}
use Rattle.std.specs.Option.{option_map}
use Rattle.std.proofs.lemmas.Bool.{and_parts, false≢true}
use Rattle.std.proofs.lemmas.Option.{same_Some}
use Rattle.core_model.specs.Client.{Client, changed, dropped}
use Rattle.core_model.specs.Core.{Event, client_at, core_after, request, step}
use Rattle.core_model.specs.Names.{Name}
use Rattle.core_model.specs.Requests.{ask}
use Rattle.core_model.specs.Sources.{Sources}
use Rattle.core_model.specs.View.{table_of}
use Rattle.core_laws.specs.Fresh.{IsFreshLoad, IsUpToDate}
use Rattle.core_laws.specs.Given.{analysis_given}
use Rattle.core_laws.proofs.Events.{client_facts, served_given}
use Rattle.core_laws.proofs.Freshness.{is_fresh}
use Rattle.core_laws.proofs.Replying.{reload_exactly}
use Rattle.core_model.specs.Core.{changes_of}
use Rattle.client_queue.specs.Queue.{is_none_left}
use Rattle.client_records.specs.Record.{is_at_rest}
use Rattle.server_core.specs.Reading.{rests}
use Rattle.record_text.specs.declared.record.Record.{Record}
use Rattle.record_text.specs.declared.record.RecordEvent.{RecordEvent}
use Rattle.record_text.specs.declared.record.RecordEvent.TheVariants as events
use Rattle.record_text.specs.declared.record.RecordLine.{RecordLine}
use Rattle.record_text.specs.declared.record.RecordLine.TheVariants as lines
use Rattle.record_laws.specs.Answers.{answer_text}
use Rattle.record_laws.specs.Events.{event_in}
use Rattle.record_laws.specs.Sound.{AreTrue, IsAtRest, IsSound, past_in}
use Rattle.record_laws.specs.Told.{HasFreshTable, IsAskTold}
use Rattle.record_laws.proofs.Simulating.{true_behind}

none_left : {X : Type 0} (xs : List X) → is_none_left xs ≡ true → xs ≡ []
none_left [] h = refl
none_left (x ∷ xs) h = absurd (false≢true h)

up_to_date : (s : Sources) (c : Client) → is_at_rest s c ≡ true → IsUpToDate s c
up_to_date s c h =
    let notices = and_parts _ (is_none_left c.notices) h in
    let gone = and_parts _ (is_none_left (dropped c)) notices.0 in
    let forced = and_parts _ (is_none_left c.page.forced) gone.0 in
    let left = and_parts _ (is_none_left (changed s c)) forced.0 in
    let plan = and_parts c.page.loaded (is_none c.page.plan) left.0 in
    record { loaded = plan.0; unchanged = none_left (changed s c) left.1; whole = none_left (dropped c) gone.1 }

fresh_by : (roots : List Name) (past : List Event) (i : ℕ) (table : List (Name × ℕ)) (o : Option Client) → client_at (core_after roots past).clients i ≡ o
    → IfSome o (λ c. IsUpToDate (core_after roots past).sources c → IsFreshLoad (core_after roots past).sources c)
    → rests (core_after roots past).sources o ≡ true → option_map (λ (c : Client). table_of c.page.view) o ≡ Some table → HasFreshTable (core_after roots past) i table
fresh_by roots past i table None e law rest page = absurd (false≢true rest)
fresh_by roots past i table (Some c) e law rest page =
    let load = law (up_to_date (core_after roots past).sources c rest) in
    record { client = c; is = e; fresh = sym (same_Some _ table page) ∙ load.table; nothing_missing = load.nothing_missing }

caught_up : (roots : List Name) (past : List Event) (i : ℕ) → IfSome (client_at (core_after roots past).clients i) (λ c. IsUpToDate (core_after roots past).sources c → IsFreshLoad (core_after roots past).sources c)
caught_up roots past i = Rattle.std.proofs.lemmas.Option.IfSome_then (client_at (core_after roots past).clients i) (client_facts roots past i)
    (λ client facts. is_fresh (analysis_given (changes_of past)) (core_after roots past).sources client (served_given roots past) facts)

-- a client at rest has a fresh load's table
rest_is_fresh : (roots : List Name) (past : List Event) (i : ℕ) (table : List (Name × ℕ)) → IsAtRest roots past i table → HasFreshTable (core_after roots past) i table
rest_is_fresh roots past i table h = fresh_by roots past i table (client_at (core_after roots past).clients i) refl (caught_up roots past i) h.rests h.page

module _ (r : Record) (sound : IsSound r) where
  behind : (before more : List RecordLine) → r.lines ≡ before ++ more → AreTrue r.roots (past_in before) more
  behind before more e = true_behind r.roots [] before more (subst (λ ls. AreTrue r.roots [] ls) e sound.told)

  pub reply_is : (before after : List RecordLine) (event : RecordEvent) (reply : List ℕ) → r.lines ≡ before ++ lines.Entry event reply ∷ after → reply ≡ answer_text r.roots (past_in before) (event_in event)
  reply_is before after event reply e = (behind before (lines.Entry event reply ∷ after) e).0

  pub rest_is : (before after : List RecordLine) (i : ℕ) (table : List (Name × ℕ)) → r.lines ≡ before ++ lines.Rest i table ∷ after → HasFreshTable (core_after r.roots (past_in before)) i table
  rest_is before after i table e = rest_is_fresh r.roots (past_in before) i table (behind before (lines.Rest i table ∷ after) e).0

  pub ask_is : (before after : List RecordLine) (i : ℕ) (reply : List ℕ) (c : Client) → r.lines ≡ before ++ lines.Entry (events.Ask i) reply ∷ after → client_at (core_after r.roots (past_in before)).clients i ≡ Some c
      → IsAskTold r.roots (core_after r.roots (past_in before)) i c reply
  ask_is before after i reply c e at = record {
    answer = (step r.roots (core_after r.roots (past_in before)) (request i ask)).1;
    is = refl;
    told = reply_is before after (events.Ask i) reply e;
    reload = reload_exactly r.roots (core_after r.roots (past_in before)) i c at;
  }
