-- A core that is told names of modules keeps names and tells names, and what it serves is UTF-8.
use Rattle.std.proofs.Common.{◌≡◌, ℕ, ◌+◌, ◌≤◌, length, arith, List, [], ◌∷◌, ◌++◌, Bool, true, false, cond, map, refl, sym, ap, ◌∙◌, subst, Option, Some, None, Err}
use Rattle.std.specs.Prelude.{◌&&◌, ◌==◌, ⊤, nat_le, filter, not, IfSome, IsUtf8, is_some, option_and_then}
use Rattle.std.specs.List.{list_all}
use Rattle.std.specs.Option.{option_or}
use Rattle.std.specs.Str.{is_utf8}
use Rattle.std.specs.Str.Lossy.{utf8_valid_len}
use Rattle.std.proofs.lemmas.Bool.{and_from, le-leb}
use Rattle.std.proofs.lemmas.Str.{IsUtf8-from_is_utf8}
use Rattle.std.proofs.lemmas.List.Elements.{recursion_from_All}
use Rattle.std.specs.Ordering.{nat_cmp, is_lt}
use Rattle.std.specs.Cmp.Lexicographic.{slice_cmp}
use Rattle.hmr_types.specs.ModName.{is_name}
use Rattle.hmr_types.specs.Table.{is_table, is_version, rises}
use Rattle.core_laws.proofs.Freshness.{names_kept}
use Rattle.record_text.specs.Fit.{is_page}
use Rattle.hmr_types.specs.declared.analysis.FaultWord.TheVariants as words
use Rattle.hmr_types.specs.declared.analysis.Analysis.{Analysis}
use Rattle.hmr_types.specs.declared.analysis.Outcome.{Outcome}
use Rattle.hmr_types.specs.declared.analysis.Outcome.TheVariants.{Good, Bad}
use Rattle.hmr_types.specs.declared.analysis.TextFault.{TextFault}
use Rattle.hmr_types.specs.declared.words.PlanKind.{PlanKind}
use Rattle.hmr_types.specs.declared.words.PlanKind.TheVariants.{Load, Reload, Update}
use Rattle.module_semantics.specs.Analysis.{outcome_of, transformed}
use Rattle.module_semantics.specs.Lexing.{lexing}
use Rattle.module_semantics.specs.ModuleText.{fault_at, parsing, read_tokens}
use Rattle.update_msgs.specs.declared.message.ServerMsg.{ServerMsg}
use Rattle.update_msgs.specs.declared.message.ServerMsg.TheVariants as msg
use Rattle.core_model.specs.Names.{Name, at, has, names_of, sorted, first_of, rising}
use Rattle.core_model.specs.Sources.{Text, Sources, Serving, edit, result, EditAnswer, job, same, removed, edit_refused, edit_answer, after_edit, ResultAnswer, serve, refuse, late, answer_of, is_awaited, result_answer, after_result}
use Rattle.core_model.specs.View.{View, Entry, imported_of, table_of}
use Rattle.core_model.specs.Spread.{ends_badly, is_pair, pairs_with, passes}
use Rattle.core_model.specs.Page.{Plan, entry_at, kept_or_staged, met_of, new_entry, new_view, plan_imports, unfetched_of, unmet_entry}
use Rattle.core_model.specs.Client.{Client, changed, dropped, first_notice, is_held, new_client, pairs, reason, replaced, told_of_edit, told_of_result, triggered, with_name, without_notice}
use Rattle.core_model.specs.Asking.{AskRow, out_of_turn, tell, load, idle, prune, reload, update, ask_row, asked, js_update, row_dropped, row_held, row_loaded, row_notice, row_plan, row_reason, row_replaced}
use Rattle.core_model.specs.Requests.{Request, Reply, ask, fetch, applied_as, aborted, invalidate, edited, settled, to_client, refused, gone, ask_reply, FetchRow, text, not_yet, broken, missing, row_verdict, row_source, row_served, fetch_row, fetched, fetch_reply, AppliedRow, unfetched, mismatch, done, differing, row_differing, row_unfetched, applied_row, after_applied, applied_reply, is_at_version, invalidated, invalidate_reply, fetched_in, applied_in, aborted_in, invalidated_in, heard, version_at}
use Rattle.core_model.specs.Sources.{Verdict, outstanding, good, bad, Source}
use Rattle.core_model.specs.Exchange.{refusal_message}
use Rattle.core_model.specs.Formed.{IsFormedOutcome, IsName}
use Rattle.core_model.specs.Roots.{are_bad, roots_or}
use Rattle.core_model.specs.Transcript.{IsTrueEvent, most_bytes}
use Rattle.core_model.specs.Core.{Core, Event, change, connect, request, disconnect, client_at, with_client, each_client, is_full, if_room, connected, requested, disconnected, step}
use Rattle.update_msgs.specs.Writable.{IsVersion}
use Rattle.core_laws.specs.Ranges.{CoreFits, ServingFits}
use Rattle.message_json.specs.ServerReading.{IsTyped, is_named}
use Rattle.event_facts.specs.Tellable.{IsTellable, IsTellableRequest}
use Rattle.record_laws.specs.Bounds.{entry_bytes}
use Rattle.record_agreement.proofs.Places.{EditFits, Placed, ResultFits, edit_fits, placed, result_fits}
use Rattle.record_agreement.proofs.Lists.{Each, each_append, each_collect, each_cond, each_filter, each_flat, each_map, each_put, each_reached, each_sorted, each_weaker, each_with_row, each_without, each_without_all, at_each, least_path_named}

-- ---- what is kept

abbrev pub Names : List Name → Type 0
Names ns = Each IsName ns

pub record ServingNamed (s : Serving) : Type 0 where
  pub imports : Names s.analysis.imports
  pub utf8 : IsUtf8 s.text

abbrev pub EntryNamed : Entry → Type 0
EntryNamed e = Names e.analysis.imports × IsVersion e.version

abbrev pub RowNamed : Name × Entry → Type 0
RowNamed row = IsName row.0 × EntryNamed row.1

abbrev pub ViewNamed : View → Type 0
ViewNamed view = Each RowNamed view

pub record ClientNamed (c : Client) : Type 0 where
  pub roots : Names c.roots
  pub view : ViewNamed c.page.view
  pub forced : Names c.page.forced
  pub staged : IfSome c.page.plan (λ p. ViewNamed p.staged)
  pub notices : Each (λ row. IsName row.0) c.notices

pub record CoreNamed (core : Core) : Type 0 where
  pub served : Each (λ row. ServingNamed row.1) core.sources.served
  pub clients : Each (λ row. ClientNamed row.1) core.clients

-- the text of a module is UTF-8
abbrev pub HasUtf8 : ServerMsg → Type 0
HasUtf8 (msg.Connected client roots) = ⊤
HasUtf8 (msg.Update replaced updates batch triggered) = ⊤
HasUtf8 (msg.Prune paths) = ⊤
HasUtf8 (msg.FullReload cause path batch triggered) = ⊤
HasUtf8 (msg.Error n line column word) = ⊤
HasUtf8 (msg.Broken n line column word) = ⊤
HasUtf8 msg.Idle = ⊤
HasUtf8 msg.Done = ⊤
HasUtf8 (msg.Text n v t) = IsUtf8 t
HasUtf8 (msg.Missing n) = ⊤
HasUtf8 (msg.NotYet n) = ⊤
HasUtf8 (msg.Refused code n told kept) = ⊤

abbrev pub IsSayable : ServerMsg → Type 0
IsSayable m = IsTyped m × HasUtf8 m

-- what is answered has names and texts that can be told, and its numbers are in range
abbrev pub ReplyNamed : Reply → Type 0
ReplyNamed (edited answer) = EditFits answer
ReplyNamed (settled answer) = ResultFits answer
ReplyNamed (to_client m) = IsSayable m
ReplyNamed (refused refusal) = IsSayable (refusal_message refusal)
ReplyNamed gone = ⊤

pub all_true : {X : Type 0} (t : X → Bool) (xs : List X) → Each (λ x. t x ≡ true) xs → list_all t xs ≡ true
all_true t [] h = refl
all_true t (x ∷ xs) h = and_from (t x) (list_all t xs) h.0 (all_true t xs h.1)

pub names_all : (ns : List Name) → Names ns → list_all is_name ns ≡ true
names_all ns h = all_true is_name ns h

-- ---- views

named_at : (view : View) (n : Name) → ViewNamed view → IfSome (at view n) EntryNamed
named_at view n h = at_each EntryNamed view n (each_weaker RowNamed (λ row. EntryNamed row.1) view (λ row r. r.1) h)

names_in : (view : View) → ViewNamed view → Names (names_of view)
names_in view h = each_map RowNamed IsName (λ row. row.0) view (λ row r. r.0) h

imported_named : (view : View) → ViewNamed view → Names (imported_of view)
imported_named view h = each_flat RowNamed IsName (λ row. row.1.analysis.imports) view (λ row r. r.1.0) h

table_names : (view : View) → ViewNamed view → Names (names_of (table_of view))
table_names view h = each_map (λ row. IsName row.0) IsName (λ row. row.0) (table_of view) (λ row r. r) (each_map RowNamed (λ row. IsName row.0) (λ row. (row.0, row.1.version)) view (λ row r. r.0) h)

either : (kept staged : Option Entry) → IfSome kept EntryNamed → IfSome staged EntryNamed → IfSome (option_or kept staged) EntryNamed
either None staged g h = h
either (Some e) staged g h = g

entry_if : (b : Bool) (o p : Option Entry) → IfSome o EntryNamed → IfSome p EntryNamed → IfSome (cond b o p) EntryNamed
entry_if true o p g h = g
entry_if false o p g h = h

kept_named : (kind : PlanKind) (b : Bool) (kept staged : Option Entry) → IfSome kept EntryNamed → IfSome staged EntryNamed → IfSome (kept_or_staged kind b kept staged) EntryNamed
kept_named Load b kept staged g h = h
kept_named Reload b kept staged g h = h
kept_named Update b kept staged g h = entry_if b staged (option_or kept staged) h (either kept staged g h)

unmet_named : (kind : PlanKind) (o : Option Entry) → IfSome o EntryNamed → IfSome (unmet_entry kind o) EntryNamed
unmet_named Load o h = tt
unmet_named Reload o h = tt
unmet_named Update o h = h

module _ (roots : List Name) (p : Plan) (view : View) (r : Names roots) (v : ViewNamed view) (s : ViewNamed p.staged) where
  entry_named : (n : Name) → IfSome (entry_at p view n) EntryNamed
  entry_named n = kept_named p.kind (has p.replaced n) (at view n) (at p.staged n) (named_at view n v) (named_at p.staged n s)

  met_named : Names (met_of roots p view)
  met_named = each_reached IsName (plan_imports p view) (imported_of view ++ imported_of p.staged) roots
      (each_append IsName (imported_of view) (imported_of p.staged) (imported_named view v) (imported_named p.staged s)) r

  pub unfetched_named : Names (unfetched_of roots p view)
  unfetched_named = each_sorted IsName (filter (λ n. not (is_some (entry_at p view n))) (met_of roots p view))
      (each_filter IsName (λ n. not (is_some (entry_at p view n))) (met_of roots p view) met_named)

  with_its_name : (n : Name) (o : Option Entry) → IsName n → IfSome o EntryNamed → IfSome o (λ e. RowNamed (n, e))
  with_its_name n None g h = tt
  with_its_name n (Some e) g h = (g, h)

  pub new_named : ViewNamed (new_view roots p view)
  new_named = each_collect RowNamed IsName (λ n. new_entry (has (met_of roots p view) n) p view n) (sorted (met_of roots p view ++ names_of view))
      (λ n is. with_its_name n (new_entry (has (met_of roots p view) n) p view n) is
      (entry_if (has (met_of roots p view) n) (entry_at p view n) (unmet_entry p.kind (at view n)) (entry_named n) (unmet_named p.kind (at view n) (named_at view n v))))
      (each_sorted IsName (met_of roots p view ++ names_of view) (each_append IsName (met_of roots p view) (names_of view) met_named (names_in view v)))

-- ---- an Ask

abbrev PairNamed : Name × Name → Type 0
PairNamed pair = IsName pair.0 × IsName pair.1

abbrev RowIs : AskRow → Type 0
RowIs out_of_turn = ⊤
RowIs (tell n fault) = IsName n
RowIs load = ⊤
RowIs idle = ⊤
RowIs (prune ns) = Names ns
RowIs (reload path) = Names path
RowIs (update ns ps) = Names ns × Each PairNamed ps

replaced_row : (ns : List Name) (ps : List (Name × Name)) → Names ns → Each PairNamed ps → RowIs (row_replaced ns ps)
replaced_row [] [] g h = tt
replaced_row [] (p ∷ ps) g h = (tt, h)
replaced_row (n ∷ ns) ps g h = (g, h)

reason_row : (o : Option (List Name)) (row : AskRow) → IfSome o Names → RowIs row → RowIs (row_reason o row)
reason_row None row g h = h
reason_row (Some path) row g h = g

held_row : (b : Bool) (row : AskRow) → RowIs row → RowIs (row_held b row)
held_row true row h = tt
held_row false row h = h

dropped_row : (ns : List Name) (row : AskRow) → Names ns → RowIs row → RowIs (row_dropped ns row)
dropped_row [] row g h = h
dropped_row (n ∷ ns) row g h = g

loaded_row : (b held : Bool) (row : AskRow) → RowIs row → RowIs (row_loaded b held row)
loaded_row true held row h = h
loaded_row false true row h = tt
loaded_row false false row h = tt

notice_row : (o : Option (Name × TextFault)) (row : AskRow) → IfSome o (λ x. IsName x.0) → RowIs row → RowIs (row_notice o row)
notice_row None row g h = h
notice_row (Some notice) row g h = g

plan_row : (o : Option Plan) (row : AskRow) → RowIs row → RowIs (row_plan o row)
plan_row None row h = h
plan_row (Some p) row h = tt

named_fault : (n : Name) (o : Option TextFault) → IsName n → IfSome (with_name n o) (λ x. IsName x.0)
named_fault n None h = tt
named_fault n (Some f) h = h

first_named : (notices : List (Name × TextFault)) (ns : List Name) → Names ns → IfSome (option_and_then (λ n. with_name n (at notices n)) (first_of ns)) (λ x. IsName x.0)
first_named notices [] h = tt
first_named notices (n ∷ ns) h = named_fault n (at notices n) h.0

module _ (s : Sources) (c : Client) (f : ClientNamed c) where
  view_names : Names (names_of c.page.view)
  view_names = names_in c.page.view f.view

  changed_named : Names (changed s c)
  changed_named = each_filter IsName _ (names_of c.page.view) view_names

  spread_starts : Names (changed s c ++ c.page.forced)
  spread_starts = each_append IsName (changed s c) c.page.forced changed_named f.forced

  pub triggered_named : Names (triggered s c)
  triggered_named = each_sorted IsName (changed s c ++ c.page.forced) spread_starts

  dropped_named : Names (dropped c)
  dropped_named = each_sorted IsName _ (each_filter IsName _ (names_of c.page.view) view_names)

  reason_named : IfSome (reason s c) Names
  reason_named = least_path_named IsName (passes c.page.view c.page.forced) (names_of c.page.view) (changed s c ++ c.page.forced) (ends_badly c.page.view c.roots c.page.forced) view_names spread_starts

  replaced_named : Names (replaced s c)
  replaced_named = each_sorted IsName _ (each_append IsName (changed s c) _ changed_named (each_filter IsName _ (names_of c.page.view) view_names))

  pairs_named : Each PairNamed (pairs s c)
  pairs_named = each_flat IsName PairNamed (pairs_with (is_pair c.page.view (replaced s c) c.page.forced) (sorted (names_of c.page.view))) (sorted (names_of c.page.view))
      (λ m is. each_map IsName PairNamed (λ n. (m, n)) _ (λ n it. (is, it)) (each_filter IsName _ (sorted (names_of c.page.view)) (each_sorted IsName (names_of c.page.view) view_names)))
      (each_sorted IsName (names_of c.page.view) view_names)

  notice_names : Names (names_of c.notices)
  notice_names = each_map (λ row. IsName row.0) IsName (λ row. row.0) c.notices (λ row r. r) f.notices

  row_is : RowIs (ask_row s c)
  row_is = plan_row c.page.plan _ (notice_row (first_notice c) _ (first_named c.notices (sorted (names_of c.notices)) (each_sorted IsName (names_of c.notices) notice_names))
      (loaded_row c.page.loaded (is_held s c) _ (dropped_row (dropped c) _ dropped_named (held_row (is_held s c) _ (reason_row (reason s c) _ reason_named (replaced_row (replaced s c) (pairs s c) replaced_named pairs_named))))))

  pub asked_named : (row : AskRow) → RowIs row → ClientNamed (asked row s c)
  asked_named out_of_turn h = f
  asked_named (tell n fault) h = record { roots = f.roots; view = f.view; forced = f.forced; staged = f.staged; notices = each_without (λ row. IsName row.0) n c.notices f.notices }
  asked_named load h = record { roots = f.roots; view = f.view; forced = f.forced; staged = tt; notices = f.notices }
  asked_named idle h = f
  asked_named (prune ns) h = record { roots = f.roots; view = each_without_all RowNamed ns c.page.view f.view; forced = each_filter IsName (λ n. not (has ns n)) c.page.forced f.forced; staged = f.staged; notices = f.notices }
  asked_named (reload path) h = record { roots = f.roots; view = f.view; forced = f.forced; staged = tt; notices = f.notices }
  asked_named (update ns ps) h = record { roots = f.roots; view = f.view; forced = f.forced; staged = tt; notices = f.notices }

  updates_named : (ps : List (Name × Name)) → Each PairNamed ps → list_all is_named (map (js_update s) ps) ≡ true
  updates_named ps h = all_true is_named (map (js_update s) ps) (each_map PairNamed (λ u. is_named u ≡ true) (js_update s) ps (λ p r. and_from (is_name p.0) (is_name p.1) r.0 r.1) h)

ask_says : (i : ℕ) (s : Sources) (c : Client) (row : AskRow) → ClientNamed c → RowIs row → ReplyNamed (ask_reply i s c row)
ask_says i s c out_of_turn f h = (tt, tt)
ask_says i s c (tell n fault) f h = (h, tt)
ask_says i s c load f h = (names_all c.roots f.roots, tt)
ask_says i s c idle f h = (tt, tt)
ask_says i s c (prune ns) f h = (names_all ns h, tt)
ask_says i s c (reload path) f h = ((names_all path h, names_all (triggered s c) (triggered_named s c f)), tt)
ask_says i s c (update ns ps) f h = ((names_all ns h.0, updates_named s c f ps h.1, names_all (triggered s c) (triggered_named s c f)), tt)

-- ---- the other requests

pub record Heard (heard : Client × Reply) : Type 0 where
  pub client : ClientNamed heard.0
  pub says : ReplyNamed heard.1

abbrev FetchIs : FetchRow → Type 0
FetchIs (text s) = ServingNamed s × IsVersion s.version
FetchIs not_yet = ⊤
FetchIs (broken fault) = ⊤
FetchIs missing = ⊤

verdict_is : (v : Verdict) → FetchIs (row_verdict v)
verdict_is outstanding = tt
verdict_is good = tt
verdict_is (bad fault) = tt

source_is : (o : Option Source) → FetchIs (row_source o)
source_is None = tt
source_is (Some s) = verdict_is s.verdict

served_is : (o : Option Serving) (source : Option Source) → IfSome o ServingNamed → IfSome o ServingFits → FetchIs (row_served o source)
served_is None source h f = source_is source
served_is (Some s) source h f = (h, f.version)

fetched_named : (row : FetchRow) (p : Plan) (n : Name) (c : Client) → IsName n → FetchIs row → ViewNamed p.staged → ClientNamed c → ClientNamed (fetched row p n c)
fetched_named (text s) p n c is h staged f = record { roots = f.roots; view = f.view; forced = f.forced; staged = each_with_row RowNamed n (record { version = s.version; analysis = s.analysis }) p.staged (is, (h.0.imports, h.1)) staged; notices = f.notices }
fetched_named not_yet p n c is h staged f = f
fetched_named (broken fault) p n c is h staged f = f
fetched_named missing p n c is h staged f = f

fetch_says : (row : FetchRow) (n : Name) → IsName n → FetchIs row → ReplyNamed (fetch_reply row n)
fetch_says (text s) n is h = (is, h.0.utf8)
fetch_says not_yet n is h = (is, tt)
fetch_says (broken fault) n is h = (is, tt)
fetch_says missing n is h = (is, tt)

fetch_heard : (plan : Option Plan) (s : Sources) (n : Name) (c : Client) → IsName n → IfSome (at s.served n) ServingNamed → IfSome (at s.served n) ServingFits → IfSome plan (λ p. ViewNamed p.staged) → ClientNamed c → Heard (fetched_in plan s n c)
fetch_heard None s n c is served fits staged f = record { client = f; says = (tt, tt) }
fetch_heard (Some p) s n c is served fits staged f =
    let row = served_is (at s.served n) (at s.current n) served fits in
    record { client = fetched_named (fetch_row s n) p n c is row staged f; says = fetch_says (fetch_row s n) n is row }

abbrev AppliedIs : AppliedRow → Type 0
AppliedIs (unfetched n) = IsName n
AppliedIs (mismatch n told kept) = IsName n
AppliedIs done = ⊤

differing_is : (ns : List Name) (told kept : List (Name × ℕ)) → Names ns → AppliedIs (row_differing ns told kept)
differing_is [] told kept h = tt
differing_is (n ∷ ns) told kept h = h.0

unfetched_is : (ns : List Name) (row : AppliedRow) → Names ns → AppliedIs row → AppliedIs (row_unfetched ns row)
unfetched_is [] row g h = h
unfetched_is (n ∷ ns) row g h = g.0

applied_says : (row : AppliedRow) → AppliedIs row → ReplyNamed (applied_reply row)
applied_says (unfetched n) h = (h, tt)
applied_says (mismatch n told kept) h = (h, tt)
applied_says done h = (tt, tt)

applied_named : (row : AppliedRow) (p : Plan) (c : Client) → ViewNamed p.staged → ClientNamed c → ClientNamed (after_applied row p c)
applied_named (unfetched n) p c staged f = f
applied_named (mismatch n told kept) p c staged f = f
applied_named done p c staged f = record { roots = f.roots; view = new_named c.roots p c.page.view f.roots f.view staged; forced = tt; staged = tt; notices = f.notices }

applied_heard : (plan : Option Plan) (table : List (Name × ℕ)) (c : Client) → Names (names_of table) → IfSome plan (λ p. ViewNamed p.staged) → ClientNamed c → Heard (applied_in plan table c)
applied_heard None table c told staged f = record { client = f; says = (tt, tt) }
applied_heard (Some p) table c told staged f =
    let kept = table_of (new_view c.roots p c.page.view) in
    let names = each_append IsName (names_of table) (names_of kept) told (table_names (new_view c.roots p c.page.view) (new_named c.roots p c.page.view f.roots f.view staged)) in
    let row = unfetched_is (unfetched_of c.roots p c.page.view) (row_differing (differing table kept) table kept) (unfetched_named c.roots p c.page.view f.roots f.view staged)
    (differing_is (differing table kept) table kept (each_filter IsName (λ n. not (version_at table n == version_at kept n)) (sorted (names_of table ++ names_of kept)) (each_sorted IsName (names_of table ++ names_of kept) names))) in
    record { client = applied_named (applied_row c.roots p c.page.view table) p c staged f; says = applied_says (applied_row c.roots p c.page.view table) row }

aborted_heard : (plan : Option Plan) (c : Client) → ClientNamed c → Heard (aborted_in plan c)
aborted_heard None c f = record { client = f; says = (tt, tt) }
aborted_heard (Some p) c f = record { client = record { roots = f.roots; view = f.view; forced = f.forced; staged = tt; notices = f.notices }; says = (tt, tt) }

invalidated_named : (b : Bool) (n : Name) (c : Client) → IsName n → ClientNamed c → ClientNamed (invalidated b n c)
invalidated_named true n c is f = record { roots = f.roots; view = f.view; forced = each_put IsName n c.page.forced is f.forced; staged = f.staged; notices = f.notices }
invalidated_named false n c is f = f

invalidate_says : (b : Bool) → ReplyNamed (invalidate_reply b)
invalidate_says true = (tt, tt)
invalidate_says false = (tt, tt)

invalidate_heard : (plan : Option Plan) (n : Name) (v : ℕ) (c : Client) → IsName n → ClientNamed c → Heard (invalidated_in plan n v c)
invalidate_heard None n v c is f = record { client = invalidated_named (is_at_version (at c.page.view n) v) n c is f; says = invalidate_says (is_at_version (at c.page.view n) v) }
invalidate_heard (Some p) n v c is f = record { client = f; says = (tt, tt) }

heard_named : (i : ℕ) (s : Sources) (c : Client) (r : Request) → ((n : Name) → IfSome (at s.served n) ServingFits) → Each (λ row. ServingNamed row.1) s.served → ClientNamed c → IsTellableRequest r → Heard (heard i s c r)
heard_named i s c ask fits served f w =
    let client = asked_named s c f (ask_row s c) (row_is s c f) in
    record { client = client; says = ask_says i s (asked (ask_row s c) s c) (ask_row s c) client (row_is s c f) }
heard_named i s c (fetch n) fits served f w = fetch_heard c.page.plan s n c w (at_each ServingNamed s.served n served) (fits n) f.staged f
heard_named i s c (applied_as table) fits served f w =
    applied_heard c.page.plan table c (each_map (λ row. IsName row.0) IsName (λ row. row.0) table (λ row r. r) (recursion_from_All (λ row. IsName row.0) table w.1)) f.staged f
heard_named i s c aborted fits served f w = aborted_heard c.page.plan c f
heard_named i s c (invalidate n v) fits served f w = invalidate_heard c.page.plan n v c w f

-- ---- clients

abbrev Clients : List (ℕ × Client) → Type 0
Clients rows = Each (λ row. ClientNamed row.1) rows

client_if : (b : Bool) (c : Client) (o : Option Client) → ClientNamed c → IfSome o ClientNamed → IfSome (cond b (Some c) o) ClientNamed
client_if true c o g h = g
client_if false c o g h = h

pub client_named : (rows : List (ℕ × Client)) (i : ℕ) → Clients rows → IfSome (client_at rows i) ClientNamed
client_named [] i h = tt
client_named (row ∷ rows) i h = client_if (row.0 == i) row.1 (client_at rows i) h.0 (client_named rows i h.1)

with_named : (i : ℕ) (c : Client) (rows : List (ℕ × Client)) → ClientNamed c → Clients rows → Clients (with_client i c rows)
with_named i c [] g h = (g, tt)
with_named i c (row ∷ rows) g h =
    each_cond (λ row. ClientNamed row.1) (row.0 == i) ((i, c) ∷ rows) (row ∷ with_client i c rows) (g, h.1) (h.0, with_named i c rows g h.1)

each_told : (f : Client → Client) (rows : List (ℕ × Client)) → ((c : Client) → ClientNamed c → ClientNamed (f c)) → Clients rows → Clients (each_client f rows)
each_told f rows on h = each_map (λ row. ClientNamed row.1) (λ row. ClientNamed row.1) (λ row. (row.0, f row.1)) rows (λ row r. on row.1 r) h

without_named : (n : Name) (c : Client) → ClientNamed c → ClientNamed (without_notice n c)
without_named n c f = record { roots = f.roots; view = f.view; forced = f.forced; staged = f.staged; notices = each_without (λ row. IsName row.0) n c.notices f.notices }

edit_told : (a : EditAnswer) (n : Name) (c : Client) → ClientNamed c → ClientNamed (told_of_edit a n c)
edit_told (job v) n c f = f
edit_told same n c f = f
edit_told (removed v) n c f = without_named n c f
edit_told (edit_refused w) n c f = f

result_told : (a : ResultAnswer) (n : Name) (c : Client) → IsName n → ClientNamed c → ClientNamed (told_of_result a n c)
result_told (serve a) n c is f = without_named n c f
result_told (refuse fault) n c is f = record { roots = f.roots; view = f.view; forced = f.forced; staged = f.staged; notices = each_with_row (λ row. IsName row.0) n fault c.notices is f.notices }
result_told late n c is f = f

-- ---- sources

abbrev Served : Sources → Type 0
Served s = Each (λ row. ServingNamed row.1) s.served

edit_served : (a : EditAnswer) (n : Name) (t : Option Text) (s : Sources) → Served s → Served (after_edit a n t s)
edit_served (job v) n t s h = h
edit_served same n t s h = h
edit_served (removed v) n t s h = each_without (λ row. ServingNamed row.1) n s.served h
edit_served (edit_refused w) n t s h = h

abbrev AnswerNamed : ResultAnswer → Text → Type 0
AnswerNamed (serve a) t = Names a.imports × IsUtf8 t
AnswerNamed (refuse f) t = ⊤
AnswerNamed late t = ⊤

result_served : (a : ResultAnswer) (n : Name) (t : Text) (v : ℕ) (s : Sources) → AnswerNamed a t → Served s → Served (after_result a n t v s)
result_served (serve a) n t v s g h = each_with_row (λ row. ServingNamed row.1) n (record { version = v; text = t; analysis = a }) s.served (record { imports = g.0; utf8 = g.1 }) h
result_served (refuse f) n t v s g h = h
result_served late n t v s g h = h

good_by : (n : Name) (t : Text) (a : Analysis) (b : Bool) → is_utf8 t ≡ b → outcome_of n (cond b (read_tokens t (lexing t)) (Err (fault_at t (utf8_valid_len t) words.NotUtf8))) ≡ Good a → IsUtf8 t
good_by n t a true e h = IsUtf8-from_is_utf8 t e
good_by n t a false e h = absurd cc

good_utf8 : (n : Name) (t : Text) (a : Analysis) → transformed parsing n t ≡ Good a → IsUtf8 t
unfolding parsing
good_utf8 n t a h = good_by n t a (is_utf8 t) refl h

answer_named : (n : Name) (t : Text) (o : Outcome) → IsFormedOutcome o → o ≡ transformed parsing n t → AnswerNamed (answer_of o) t
answer_named n t (Good a) w e = (recursion_from_All IsName a.imports w.imports, good_utf8 n t a (sym e))
answer_named n t (Bad f) w e = tt

answer_if : (b : Bool) (a : ResultAnswer) (t : Text) → AnswerNamed a t → AnswerNamed (cond b a late) t
answer_if true a t h = h
answer_if false a t h = tt

-- ---- events

pub record Steps (after : Core × Reply) : Type 0 where
  pub core : CoreNamed after.0
  pub says : ReplyNamed after.1

named_roots : (names roots : List Name) → Names names → Names roots → Names (roots_or names roots)
named_roots [] roots g h = h
named_roots (n ∷ names) roots g h = g

module _ (core : Core) (fits : CoreFits core) (k : CoreNamed core) where
  room_steps : (full : Bool) (roots : List Name) → Names roots → Steps (if_room full roots core)
  room_steps true roots h = record { core = k; says = (tt, tt) }
  room_steps false roots h = record {
    core = record { served = k.served; clients = with_named (core.given + 1) (new_client roots core.sources.served_no) core.clients (record { roots = h; view = tt; forced = tt; staged = tt; notices = tt }) k.clients };
    says = (names_all roots h, tt);
  }

  connect_steps : (bad : Bool) (roots : List Name) → Names roots → Steps (connected bad roots core)
  connect_steps true roots h = record { core = k; says = (tt, tt) }
  connect_steps false roots h = room_steps (is_full core) roots h

  request_steps : (o : Option Client) (i : ℕ) (r : Request) → IfSome o ClientNamed → IsTellableRequest r → Steps (requested o i core r)
  request_steps None i r f w = record { core = k; says = (tt, tt) }
  request_steps (Some c) i r f w =
      let h = heard_named i core.sources c r fits.sources.served k.served f w in
      record { core = record { served = k.served; clients = with_named i (heard i core.sources c r).0 core.clients h.client k.clients }; says = h.says }

  gone_steps : (o : Option Client) (i : ℕ) → Steps (disconnected o i core)
  gone_steps None i = record { core = k; says = (tt, tt) }
  gone_steps (Some c) i = record { core = record { served = k.served; clients = each_filter (λ row. ClientNamed row.1) (λ row. not (row.0 == i)) core.clients k.clients }; says = tt }

  pub steps_named : (roots : List Name) (event : Event) → Names roots → IsTellable event → IsTrueEvent (transformed parsing) event → entry_bytes event ≤ most_bytes → Steps (step roots core event)
  steps_named roots (change (edit n t)) r w e l =
      let a = edit_answer core.sources n t in
      record { core = record { served = edit_served a n t core.sources k.served; clients = each_told (told_of_edit a n) core.clients (λ c f. edit_told a n c f) k.clients }; says = edit_fits (at core.sources.current n) core.sources t }
  steps_named roots (change (result n t o v)) r w e l =
      let a = result_answer core.sources n t o v in
      let named = answer_if (is_awaited (at core.sources.current n) t v) (answer_of o) t (answer_named n t o w.1 e) in
      record {
        core = record { served = result_served a n t v core.sources named k.served; clients = each_told (told_of_result a n) core.clients (λ c f. result_told a n c w.0 f) k.clients };
        says = result_fits (is_awaited (at core.sources.current n) t v) (length t) o (omega (arith, l)) (subst (Placed (length t)) (sym e) (placed n t));
      }
  steps_named roots (connect names) r w e l = connect_steps (are_bad names) (roots_or names roots) (named_roots names roots (recursion_from_All IsName names w) r)
  steps_named roots (request i q) r w e l = request_steps (client_at core.clients i) i q (client_named core.clients i k.clients) w
  steps_named roots (disconnect i) r w e l = gone_steps (client_at core.clients i) i

-- ---- the table of a page

names_rise : (table : List (Name × ℕ)) → rises table ≡ rising (names_of table)
names_rise [] = refl
names_rise (row ∷ []) = refl
names_rise (row ∷ (next ∷ rows)) = ap (λ b. is_lt (slice_cmp nat_cmp row.0 next.0) && b) (names_rise (next ∷ rows))

version_is : (v : ℕ) → IsVersion v → is_version v ≡ true
version_is v h = and_from (nat_le 1 v) (nat_le v 9007199254740991) (le-leb 1 v h.least) (le-leb v 9007199254740991 h.most)

-- the table of a page whose names rise has the form of one
pub page_is : (view : View) → ViewNamed view → rising (names_of view) ≡ true → is_page (table_of view) ≡ true
page_is view h up =
    let rising_rows = names_rise (table_of view) ∙ (ap rising (names_kept view) ∙ up) in
    let versions = all_true (λ row. is_version row.1) (table_of view) (each_map RowNamed (λ row. is_version row.1 ≡ true) (λ row. (row.0, row.1.version)) view (λ row r. version_is row.1.version r.1.1) h) in
    let names = all_true (λ row. is_name row.0) (table_of view) (each_map RowNamed (λ row. is_name row.0 ≡ true) (λ row. (row.0, row.1.version)) view (λ row r. r.0) h) in
    and_from (is_table (table_of view)) (list_all (λ row. is_name row.0) (table_of view))
    (and_from (rises (table_of view)) (list_all (λ row. is_version row.1) (table_of view)) rising_rows versions) names
