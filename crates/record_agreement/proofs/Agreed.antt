-- The lines of the record of events that a core is told have the forms of a record's.
use Rattle.std.proofs.Common.{◌≡◌, ℕ, suc, ◌+◌, ◌≤◌, List, [], ◌∷◌, ◌++◌, length, Bool, true, false, refl, sym, ap, ◌∙◌, arith, le-leb, Option, Some, None}
use Rattle.std.specs.Prelude.{◌&&◌, All, IfSome}
use Rattle.std.specs.List.{list_all}
use Rattle.std.specs.Option.{option_map}
use Rattle.std.proofs.lemmas.Bool.{and_from}
use Rattle.std.proofs.lemmas.List.Elements.{All-from_recursion, All-nil, recursion_from_All}
use Rattle.std.proofs.lemmas.List.Folds.{list_all-append}
use Rattle.std.proofs.lemmas.List.Sums.{sum_by-cons}
use Rattle.hmr_types.specs.declared.limits.TheConstants.{LARGEST_CLIENT}
use Rattle.hmr_types.specs.ModName.{is_name}
use Rattle.hmr_types.specs.Table.{is_version}
use Rattle.hmr_types.specs.declared.analysis.Analysis.{Analysis}
use Rattle.record_text.proofs.LineForms.{version_parts}
use Rattle.module_semantics.specs.Analysis.{transformed}
use Rattle.module_semantics.specs.ModuleText.{parsing}
use Rattle.play_script.specs.Script.{is_empty}
use Rattle.core_model.specs.Client.{Client}
use Rattle.core_model.specs.Core.{Core, Event, change, connect, request, disconnect, changes_of, client_at, core_after, step}
use Rattle.core_model.specs.Formed.{IsFormed, IsName}
use Rattle.core_model.specs.Names.{Name, names_of, rising}
use Rattle.core_model.specs.Requests.{ask, fetch, applied_as, aborted, invalidate}
use Rattle.core_model.specs.Roots.{AreRoots}
use Rattle.core_model.specs.Sources.{Sources, edit, result}
use Rattle.core_model.specs.Transcript.{IsLegal, Recorded, event_bytes, events_of, most_bytes, most_entries, transcript_bytes}
use Rattle.core_model.specs.View.{table_of}
use Rattle.core_laws.specs.Facts.{ClientFacts}
use Rattle.core_laws.specs.Given.{analysis_given}
use Rattle.core_laws.specs.Ranges.{CoreFits}
use Rattle.core_laws.proofs.Events.{client_facts}
use Rattle.core_laws.proofs.Messaging.{after_fits}
use Rattle.server_core.specs.Reading.{is_resting, page_of}
use Rattle.record_text.specs.Fit.{HasText, are_behind_entries, fits_event, fits_line, is_client, is_count, is_one_line, is_page}
use Rattle.record_text.specs.Numbers.{largest_count}
use Rattle.record_text.specs.Replies.{is_reply}
use Rattle.record_text.specs.Texts.{record_text}
use Rattle.record_text.specs.declared.record.RecordLine.{RecordLine}
use Rattle.record_text.specs.declared.record.RecordLine.TheVariants as lines
use Rattle.record_laws.specs.Answers.{answer_text, reply_after, reply_told}
use Rattle.record_laws.specs.Bounds.{entry_bytes, past_bytes}
use Rattle.record_laws.specs.Course.{verdict_of}
use Rattle.record_laws.specs.Sound.{rests_behind}
use Rattle.record_laws.specs.Written.{client_in, entry_lines, event_told, is_done, lines_behind, lines_told, record_told, rest_line, rest_lines}
use Rattle.record_laws.specs.declared.verdict.Verdict.TheVariants.{Yes}
use Rattle.record_laws.proofs.Ranges.{goes}
use Rattle.record_laws.proofs.Recorded.{IsTrue, record_is_yes}
use Rattle.record_agreement.specs.Recordable.{HasClient, IsRecordable}
use Rattle.record_agreement.proofs.Lists.{Each}
use Rattle.record_agreement.proofs.Named.{ClientNamed, CoreNamed, Names, client_named, names_all, page_is, steps_named}
use Rattle.record_agreement.proofs.Replies.{reply_form}

-- ---- events

client_is : (i : ℕ) → i ≤ LARGEST_CLIENT → is_client i ≡ true
client_is i h = le-leb i LARGEST_CLIENT h

count_is : (v : ℕ) → v ≤ largest_count → is_count v ≡ true
count_is v h = le-leb v largest_count h

count_of_version : (v : ℕ) → is_version v ≡ true → v ≤ largest_count
count_of_version v h = omega (arith, (version_parts v h).1)

names_are : (ns : List Name) → All IsName ns → list_all is_name ns ≡ true
names_are ns h = names_all ns (recursion_from_All IsName ns h)

rows_are : (rows : List (Name × ℕ)) → Each (λ row. IsName row.0) rows → list_all (λ row. is_name row.0) rows ≡ true
rows_are [] h = refl
rows_are (row ∷ rows) h = and_from (is_name row.0) (list_all (λ row. is_name row.0) rows) h.0 (rows_are rows h.1)

event_form : (event : Event) → IsRecordable event → fits_event (event_told event) ≡ true
event_form (change (edit n (Some t))) h = h.tellable
event_form (change (edit n None)) h = h.tellable
event_form (change (result n t o v)) h = and_from (is_name n) (is_count v) h.tellable.0 (count_is v h.counted)
event_form (connect names) h = names_are names h.tellable
event_form (request i ask) h = client_is i h.client
event_form (request i (fetch n)) h = and_from (is_client i) (is_name n) (client_is i h.client) h.tellable
event_form (request i (applied_as table)) h =
    and_from (is_client i) (is_page table) (client_is i h.client)
    (and_from _ (list_all (λ row. is_name row.0) table) h.tellable.0 (rows_are table (recursion_from_All (λ row. IsName row.0) table h.tellable.1)))
event_form (request i aborted) h = client_is i h.client
event_form (request i (invalidate n v)) h =
    and_from (is_client i && is_name n) (is_count v) (and_from (is_client i) (is_name n) (client_is i h.client) h.tellable) (count_is v h.counted)
event_form (disconnect i) h = client_is i h.client

-- ---- the core behind events

pub record Well (roots : List Name) (past : List Event) : Type 0 where
  pub fits : CoreFits (core_after roots past)
  pub named : CoreNamed (core_after roots past)

at_first : (roots : List Name) → Well roots []
at_first roots = record { fits = after_fits roots [] (All-nil IsFormed); named = record { served = tt; clients = tt } }

pub record Told (event : Event) : Type 0 where
  pub recordable : IsRecordable event
  pub true_result : IsTrue event
  pub small : entry_bytes event ≤ most_bytes

module _ (roots : List Name) (named_roots : Names roots) where
  behind_well : (past : List Event) (event : Event) → Well roots past → Told event → Well roots (event ∷ past)
  behind_well past event w t = record {
    fits = (goes roots (core_after roots past) w.fits event t.recordable.tellable).fits;
    named = (steps_named (core_after roots past) w.fits w.named roots event named_roots t.recordable.tellable t.true_result t.small).core;
  }

  -- ---- the reply

  answer_form : (past : List Event) (event : Event) → Well roots past → Told event → (is_reply (answer_text roots past event) ≡ true) × (is_one_line (answer_text roots past event) ≡ true)
  answer_form past event w t =
      reply_form (step roots (core_after roots past) event).1
      (steps_named (core_after roots past) w.fits w.named roots event named_roots t.recordable.tellable t.true_result t.small).says
      (goes roots (core_after roots past) w.fits event t.recordable.tellable).says

  -- ---- a client at rest

  page_some : (o : Option Client) → IfSome o ClientNamed → IfSome o (λ c. rising (names_of c.page.view) ≡ true) → IfSome (option_map (λ (c : Client). table_of c.page.view) o) (λ table. is_page table ≡ true)
  page_some None f up = tt
  page_some (Some c) f up = page_is c.page.view f.view up

  rises_some : (by : Name → ℕ → Option Analysis) (s : Sources) (o : Option Client) → IfSome o (ClientFacts by s) → IfSome o (λ c. rising (names_of c.page.view) ≡ true)
  rises_some by s None h = tt
  rises_some by s (Some c) h = h.rises

  page_form : (past : List Event) (i : ℕ) → Well roots past → IfSome (page_of (core_after roots past) i) (λ table. is_page table ≡ true)
  page_form past i w =
      page_some (client_at (core_after roots past).clients i) (client_named (core_after roots past).clients i w.named.clients)
      (rises_some (analysis_given (changes_of past)) (core_after roots past).sources (client_at (core_after roots past).clients i) (client_facts roots past i))

  rest_form : (b : Bool) (page : Option (List (Name × ℕ))) (i : ℕ) → i ≤ LARGEST_CLIENT → IfSome page (λ table. is_page table ≡ true) → list_all fits_line (rest_line b page i) ≡ true
  rest_form true (Some table) i h p = and_from (is_client i && is_page table) true (and_from (is_client i) (is_page table) (client_is i h) p) refl
  rest_form true None i h p = refl
  rest_form false page i h p = refl

  rests_form : (past : List Event) (client : Option ℕ) → Well roots past → IfSome client (λ i. i ≤ LARGEST_CLIENT) → list_all fits_line (rest_lines (core_after roots past) client) ≡ true
  rests_form past None w h = refl
  rests_form past (Some i) w h = rest_form (is_resting (core_after roots past) i) (page_of (core_after roots past) i) i h (page_form past i w)

  behind_form : (b : Bool) (past : List Event) (client : Option ℕ) → Well roots past → IfSome client (λ i. i ≤ LARGEST_CLIENT) → list_all fits_line (lines_behind b (core_after roots past) client) ≡ true
  behind_form true past client w h = rests_form past client w h
  behind_form false past client w h = refl

  client_counted : (event : Event) → HasClient event → IfSome (client_in event) (λ i. i ≤ LARGEST_CLIENT)
  client_counted (change ch) h = tt
  client_counted (connect names) h = tt
  client_counted (request i r) h = h
  client_counted (disconnect i) h = tt

  -- ---- all lines

  entry_form : (past : List Event) (event : Event) → Well roots past → Told event → list_all fits_line (entry_lines roots past event) ≡ true
  entry_form past event w t =
      let reply = answer_form past event w t in
      and_from (fits_line (lines.Entry (event_told event) (answer_text roots past event))) _
      (and_from (fits_event (event_told event)) _ (event_form event t.recordable) (and_from (is_reply (answer_text roots past event)) (is_one_line (answer_text roots past event)) reply.0 reply.1))
      (behind_form (is_done (reply_told (reply_after roots past event))) (event ∷ past) (client_in event) (behind_well past event w t) (client_counted event t.recordable.client))

  lines_form : (past events : List Event) → Well roots past → Each Told events → list_all fits_line (lines_told roots past events) ≡ true
  lines_form past [] w h = refl
  lines_form past (event ∷ more) w h =
      list_all-append fits_line (entry_lines roots past event) (lines_told roots (event ∷ past) more)
      ∙ and_from (list_all fits_line (entry_lines roots past event)) (list_all fits_line (lines_told roots (event ∷ past) more)) (entry_form past event w h.0) (lines_form (event ∷ past) more (behind_well past event w h.0) h.1)

  -- ---- their order

  rest_order : (b : Bool) (page : Option (List (Name × ℕ))) (i : ℕ) (more : List RecordLine) → ((may : Bool) → are_behind_entries may more ≡ true) → are_behind_entries true (rest_line b page i ++ more) ≡ true
  rest_order true (Some table) i more h = h false
  rest_order true None i more h = h true
  rest_order false page i more h = h true

  rests_order : (core : Core) (client : Option ℕ) (more : List RecordLine) → ((may : Bool) → are_behind_entries may more ≡ true) → are_behind_entries true (rest_lines core client ++ more) ≡ true
  rests_order core None more h = h true
  rests_order core (Some i) more h = rest_order (is_resting core i) (page_of core i) i more h

  behind_order : (b : Bool) (core : Core) (client : Option ℕ) (more : List RecordLine) → ((may : Bool) → are_behind_entries may more ≡ true) → are_behind_entries true (lines_behind b core client ++ more) ≡ true
  behind_order true core client more h = rests_order core client more h
  behind_order false core client more h = h true

  lines_order : (past events : List Event) (may : Bool) → are_behind_entries may (lines_told roots past events) ≡ true
  lines_order past [] may = refl
  lines_order past (event ∷ more) may =
      behind_order (is_done (reply_told (reply_after roots past event))) (core_after roots (event ∷ past)) (client_in event) (lines_told roots (event ∷ past) more) (λ b. lines_order (event ∷ past) more b)

-- ---- the record

all_told : (events : List Event) → past_bytes events ≤ most_bytes → Each IsTrue events → Each IsRecordable events → Each Told events
all_told [] small e w = tt
all_told (event ∷ more) small e w =
    let sum = sum_by-cons entry_bytes event more in
    (record { recordable = w.0; true_result = e.0; small = omega (arith, sum, small) }, all_told more (omega (arith, sum, small)) e.1 w.1)

some_roots : (roots : List Name) → 1 ≤ length roots → is_empty roots ≡ false
some_roots [] h = absurd (omega (arith, h))
some_roots (r ∷ rs) h = refl

-- the record of events that a core is told is read back from its text
pub record_has_text : (roots : List Name) (events : List Event) → AreRoots roots → All IsName roots → past_bytes events ≤ most_bytes → All IsTrue events → All IsRecordable events → HasText (record_told roots events)
record_has_text roots events good named small e w =
    let told = all_told events small (recursion_from_All IsTrue events e) (recursion_from_All IsRecordable events w) in
    let names = recursion_from_All IsName roots named in
    record {
      some = some_roots roots good.some;
      roots = names_all roots names;
      lines = lines_form roots names [] events (at_first roots) told;
      order = lines_order roots names [] events false;
    }

-- the check says yes of it
pub record_confirmed : (roots : List Name) (events : List Event) → AreRoots roots → All IsName roots → length events ≤ most_entries → past_bytes events ≤ most_bytes → All IsTrue events → All IsRecordable events
    → verdict_of (record_text (record_told roots events)) ≡ Yes (length events) (rests_behind 0 (lines_told roots [] events))
record_confirmed roots events good named few small e w = record_is_yes roots events good few small e (record_has_text roots events good named small e w)

-- ---- a transcript

formed_recordable : (event : Event) → IsFormed event → HasClient event → IsRecordable event
formed_recordable (change (edit n t)) w c = record { tellable = w; client = c; counted = tt }
formed_recordable (change (result n t o v)) w c = record { tellable = (w.0, w.2); client = c; counted = count_of_version v w.1 }
formed_recordable (connect names) w c = record { tellable = w; client = c; counted = tt }
formed_recordable (request i ask) w c = record { tellable = w; client = c; counted = tt }
formed_recordable (request i (fetch n)) w c = record { tellable = w; client = c; counted = tt }
formed_recordable (request i (applied_as table)) w c = record { tellable = w; client = c; counted = tt }
formed_recordable (request i aborted) w c = record { tellable = w; client = c; counted = tt }
formed_recordable (request i (invalidate n v)) w c = record { tellable = w.0; client = c; counted = count_of_version v w.1 }
formed_recordable (disconnect i) w c = record { tellable = w; client = c; counted = tt }

all_recordable : (events : List Event) → Each IsFormed events → Each HasClient events → Each IsRecordable events
all_recordable [] w c = tt
all_recordable (event ∷ more) w c = (formed_recordable event w.0 c.0, all_recordable more w.1 c.1)

same_length : (entries : List Recorded) → length (events_of entries) ≡ length entries
same_length [] = refl
same_length (entry ∷ more) = ap suc (same_length more)

same_bytes : (entries : List Recorded) → past_bytes (events_of entries) ≡ transcript_bytes entries
same_bytes [] = refl
same_bytes (entry ∷ more) =
    sum_by-cons entry_bytes entry.1 (events_of more)
    ∙ (ap (λ n. entry_bytes entry.1 + n) (same_bytes more) ∙ sym (sum_by-cons (λ (entry : Recorded). 64 + event_bytes entry.1) entry more))

-- the check says yes of the record of a transcript
pub transcript_confirmed : (roots : List Name) (entries : List Recorded) → IsLegal (transformed parsing) roots entries → All IsName roots → All HasClient (events_of entries)
    → verdict_of (record_text (record_told roots (events_of entries))) ≡ Yes (length entries) (rests_behind 0 (lines_told roots [] (events_of entries)))
transcript_confirmed roots entries legal named clients =
    let events = events_of entries in
    let recordable = All-from_recursion IsRecordable events (all_recordable events (recursion_from_All IsFormed events legal.formed) (recursion_from_All HasClient events clients)) in
    record_confirmed roots events legal.roots_are named (omega (arith, same_length entries, legal.few)) (omega (arith, same_bytes entries, legal.small)) legal.results recordable
    ∙ ap (λ n. Yes n (rests_behind 0 (lines_told roots [] events))) (same_length entries)
