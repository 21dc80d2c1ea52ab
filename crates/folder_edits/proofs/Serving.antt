-- The steps of a server, put together.
use Rattle.std.proofs.Common.{◌≡◌, ◌≢◌, ◌⊎◌, ◌≤◌, ℕ, Bool, true, false, List, [], ◌∷◌, ◌++◌, map, refl, ap, sym, ◌∙◌, subst, inl, inr, append_assoc, arith}
use Rattle.std.specs.Prelude.{All, Option, Some, None, Result, Ok, Err, OnOk, OnErr, IsOk, IfErr, flat_map, if◌then◌else◌}
use Prim.{⊥}
use Rattle.std.specs.Option.{option_map}
use Rattle.std.specs.Io.KnownBytes.{Appends}
use Rattle.std.proofs.KnownBytes.{Appends-trans}
use Rattle.std.proofs.lemmas.List.{append-nil}
use Rattle.std.proofs.lemmas.List.Elements.{All-weaker, All-head, All-tail}
use Rattle.hmr_base.specs.Causes.{Rose}
use Rattle.hmr_base.specs.Fronts.{WritesFront}
use Rattle.hmr_base.proofs.Fronts.{front_all, front_more, front_none}
use Rattle.core_model.specs.Names.{Name}
use Rattle.folders.specs.Files.{files_after}
use Rattle.turn_lock.specs.Histories.{calls, has}
use Rattle.turn_lock.proofs.Histories.{calls_append}
use Rattle.transform_pool.specs.Tasks.{Task}
use Rattle.hmr_hub.specs.declared.pass.Hub.{Hub}
use Rattle.hmr_hub.specs.declared.pass.Pass.{Pass}
use Rattle.hmr_hub.specs.Calls.{IsFirst, SameKnower}
use Rattle.hmr_hub.specs.Passes.{HasTranscript, IsPassOf, all_given, known_of, number_of, roots_of, seen_of}
use Rattle.hmr_hub.specs.Fullness.{IsNearlyFull}
use Rattle.hmr_hub.specs.Moves.{KnowsOwn, Moved, own_of}
use Rattle.hmr_hub.proofs.Fullness.{nearly_full_longer}
use Rattle.hmr_hub.proofs.Moves.{knows_first, moved_no_more, moved_none}
use Rattle.hub_editor.specs.Edits.{Edit, Made, edit_entry}
use Rattle.hub_editor.specs.Editing.{AreAnswered, HaveLastResults, entries_of}
use Rattle.hub_editor.specs.Openings.{jobs_after, opening}
use Rattle.hub_editor.specs.Results.{HasOwnResults, result_entry}
use Rattle.hub_editor.proofs.Steps.{answers_moved, edited_none, own_moved, result_moved}
use Rattle.crew_plans.specs.declared.gathered.Gathered.{Gathered}
use Rattle.crew_plans.specs.Gathers.{SomeFull}
use Rattle.serve_reports.specs.Within.{IsWithin}
use Rattle.crew_plans.specs.Hubs.{Log}
use Rattle.serve_reports.specs.Logs.{log_lines}
use Rattle.serve_reports.specs.Texts.{report_text}
use Rattle.hmr_hub.specs.Reports.{report_of}
use Rattle.hmr_hub.specs.declared.report_line.ReportLine.{ReportLine}
use Rattle.hmr_hub.specs.declared.report_line.ReportLine.TheVariants.{Line}
use Rattle.folder_edits.specs.declared.stop.Limit.TheVariants.{Transcript}
use Rattle.folder_edits.specs.declared.stop.ServeStop.{ServeStop}
use Rattle.folder_edits.specs.declared.stop.ServeStop.TheVariants.{Unwritten, Tree, Fault, NoMemory}
use Rattle.folder_edits.specs.declared.stop.ServeStop.TheVariants.{Limit as AtLimit}
use Rattle.hmr_base.specs.declared.out_fault.OutFault.{OutFault}
use Rattle.hmr_base.specs.declared.out_fault.OutFault.TheVariants as outside
use Rattle.crew_plans.specs.declared.cause.Cause.TheVariants as causes
use Rattle.folder_edits.specs.Causes.{IsCause, IsEarlyEnd, IsFirstCause, IsWorkCause}
use Rattle.folder_edits.specs.Openings.{Opens}
use Rattle.folder_edits.specs.Rounds.{Files}
use Rattle.folder_edits.specs.Running.{Finds, Later}
use Rattle.folder_edits.specs.Serving.{End, EndsBy, EndsReported, HasCause, IsConfirmedPart, IsReported, JobEnds, Reported, Served, StopsEarly, WindsUp, WroteEarly, WroteReport, Wrote, header, job_ends, record_part, report_with, status_after}
use Rattle.folder_edits.specs.Stops.{last_text, stop_outside}
use Rattle.folder_edits.proofs.Causes.{Passes, err_is, first_written, rose_later, work_cause, work_written}
use Rattle.folder_edits.proofs.Makings.{makes_nothing}

-- the first edits are all under the editor's number
edits_mine : (edits : List Edit) → calls (0 ∷ []) (map edit_entry edits) ≡ map edit_entry edits
edits_mine [] = refl
edits_mine (e ∷ edits) = ap (λ es. edit_entry e ∷ es) (edits_mine edits)

results_mine : (jobs : List Task) → calls (0 ∷ []) (map result_entry jobs) ≡ map result_entry jobs
results_mine [] = refl
results_mine (work ∷ jobs) = ap (λ es. result_entry work ∷ es) (results_mine jobs)

opening_mine : (edits : List Edit) → calls (0 ∷ []) (opening edits) ≡ opening edits
opening_mine edits =
    calls_append (0 ∷ []) (map edit_entry edits) (map result_entry (jobs_after [] edits))
    ∙ (ap (λ es. es ++ calls (0 ∷ []) (map result_entry (jobs_after [] edits))) (edits_mine edits)
    ∙ ap (λ es. map edit_entry edits ++ es) (results_mine (jobs_after [] edits)))

results_moved : (p q : Pass) (made : List Made) (ended : End) → Moved p q [] → OnOk ended (HaveLastResults p made) → OnOk ended (HaveLastResults q made)
results_moved p q made (Ok x) m h = λ work last. result_moved p q [] work m (h work last)
results_moved p q made (Err x) m h = tt

start_status : (stop : ServeStop) → (stop ≡ Unwritten) ⊎ (stop ≡ NoMemory) → (◌≡◌ {A = End} (Err stop) (Err Unwritten)) ⊎ (◌≡◌ {A = End} (Err stop) (Err NoMemory))
start_status stop (inl e) = inl (ap Err e)
start_status stop (inr e) = inr (ap Err e)

start_cause : (p : Pass) (stop : ServeStop) → (stop ≡ Unwritten) ⊎ (stop ≡ NoMemory) → HasCause p (Err stop)
start_cause p stop (inl e) = subst (IsCause p) (sym e) tt
start_cause p stop (inr e) = subst (IsCause p) (sym e) tt

-- all that a server did, by its passes: the first, that after the opening, that after the work, and the last
pub served_end : (roots : List Name) (coming : Option (List Files)) (listing : Files) (script : List Edit) (many : ℕ) (made : List Made) (jobs : JobEnds) (ended result : End) (p o w q : Pass)
    → IsFirst roots p → SameKnower p o → Opens coming listing (seen_of o) → Later (option_map files_after coming) listing script many o w made ended
    → EndsBy jobs ended result → Moved w q [] → HasTranscript q → HasCause q result → Served roots coming script many result q
served_end roots coming listing script many made jobs ended result p o w q first same opens later status m transcript cause =
    let all = moved_no_more o w q _ later.edited.moved m in
    let zero : number_of o ≡ 0 = same.number ∙ first.number in
    let opening_own : own_of o ≡ opening opens.first = ap (λ n. calls (n ∷ []) (seen_of o)) zero ∙ (ap (calls (0 ∷ [])) opens.opening_is ∙ opening_mine opens.first) in
    record {
      transcript = transcript;
      roots_are = all.roots ∙ (same.roots ∙ first.roots_are);
      listing = listing;
      first = opens.first;
      scanned = opens.round;
      accepted = opens.accepted;
      later = all.more;
      begins = all.longer ∙ ap (λ es. es ++ all.more) opens.opening_is;
      made = made;
      edited = ended;
      makes = later.makes;
      settled = later.edited.settled;
      mine =
          ap (λ n. calls (n ∷ []) (seen_of q)) (sym (all.number ∙ zero))
          ∙ (all.own ∙ ap (λ es. es ++ (flat_map entries_of made ++ map result_entry later.edited.settled)) opening_own);
      each = later.edited.each;
      number = all.number ∙ zero;
      answered = subst (λ es. AreAnswered q es made) opening_own (answers_moved w q [] (own_of o) made m later.edited.answered);
      results = All-weaker (HasOwnResults (seen_of w)) (HasOwnResults (seen_of q)) (λ x h. own_moved w q [] x m h) made later.edited.results;
      last_results = results_moved w q made ended m later.results;
      jobs = jobs;
      status = status;
      cause = cause;
    }

-- it was stopped before the work
pub served_start : (roots : List Name) (coming : Option (List Files)) (listing : Files) (script : List Edit) (many : ℕ) (stop : ServeStop) (p o : Pass)
    → IsFirst roots p → SameKnower p o → Opens coming listing (seen_of o) → HasTranscript o → (stop ≡ Unwritten) ⊎ (stop ≡ NoMemory) → Served roots coming script many (Err stop) o
served_start roots coming listing script many stop p o first same opens transcript which =
    served_end roots coming listing script many [] (record { memory = false; full = false; fault = false }) (Err NoMemory) (Err stop) p o o o first same opens
    (record { edited = edited_none o; makes = makes_nothing (option_map files_after coming) listing script many [] causes.NoMemory; results = tt })
    (inr (start_status stop which)) (moved_none o) transcript (start_cause o stop which)

-- the editor's pass knows its own number, from the first on
pub knows_opened : (roots : List Name) (p o : Pass) → IsFirst roots p → SameKnower p o → KnowsOwn o
knows_opened roots p o first same =
    subst (λ ks. has (number_of o) ks ≡ true) (sym same.known)
    (subst (λ n. has n (known_of p) ≡ true) (sym same.number) (knows_first roots p first))

-- how it ends by what the jobs left
abbrev left_by : Bool → Bool → Bool → End
left_by memory full fault = if memory then Err NoMemory else if full then Err (AtLimit Transcript) else if fault then Err Fault else Ok tt

choose_ok : (memory full fault : Bool) (y : Unit {0}) → ◌≡◌ {A = End} (Ok y) (left_by memory full fault) → fault ≡ false
choose_ok true full fault y h = absurd (cc)
choose_ok false true fault y h = absurd (cc)
choose_ok false false true y h = absurd (cc)
choose_ok false false false y h = refl

pub status_well : (A : Type 0) (gathered : Gathered) (ended result : End) → (result ≡ status_after gathered ended) ⊎ ((result ≡ Err Unwritten) ⊎ (result ≡ Err NoMemory))
    → OnOk ended (gathered.fault ≡ false → A) → OnOk result A
status_well A gathered (Ok x) (Ok y) (inl h) f = f (choose_ok gathered.memory gathered.full gathered.fault y h)
status_well A gathered (Ok x) (Ok y) (inr (inl h)) f = absurd (cc)
status_well A gathered (Ok x) (Ok y) (inr (inr h)) f = absurd (cc)
status_well A gathered (Err x) (Ok y) (inl h) f = absurd (cc)
status_well A gathered (Err x) (Ok y) (inr (inl h)) f = absurd (cc)
status_well A gathered (Err x) (Ok y) (inr (inr h)) f = absurd (cc)
status_well A gathered ended (Err y) h f = tt

choose_fault : (memory full fault : Bool) → ◌≡◌ {A = End} (Err Fault) (left_by memory full fault) → fault ≡ true
choose_fault true full fault h = absurd (cc)
choose_fault false true fault h = absurd (cc)
choose_fault false false true h = refl
choose_fault false false false h = absurd (cc)

fault_after : (gathered : Gathered) (ended : End) (n n' p p' : ℕ) → Err Fault ≡ status_after gathered ended → Finds gathered ended n n' p p' → Rose n n' ⊎ Rose p p'
fault_after gathered (Ok x) n n' p p' h finds = finds.of_jobs (choose_fault gathered.memory gathered.full gathered.fault h)
fault_after gathered (Err x) n n' p p' h finds = inl (finds.of_net (sym h))

-- a fault at the end is one that was found
pub status_fault : (gathered : Gathered) (ended result : End) (n n' p p' : ℕ) → (result ≡ status_after gathered ended) ⊎ ((result ≡ Err Unwritten) ⊎ (result ≡ Err NoMemory))
    → Finds gathered ended n n' p p' → result ≡ Err Fault → Rose n n' ⊎ Rose p p'
status_fault gathered ended result n n' p p' (inl h) finds f = fault_after gathered ended n n' p p' (sym f ∙ h) finds
status_fault gathered ended result n n' p p' (inr (inl h)) finds f = absurd (let z : ◌≡◌ {A = End} (Err Unwritten) (Err Fault) = sym h ∙ f in cc)
status_fault gathered ended result n n' p p' (inr (inr h)) finds f = absurd (let z : ◌≡◌ {A = End} (Err NoMemory) (Err Fault) = sym h ∙ f in cc)

choose_tree : (memory full fault : Bool) → ◌≡◌ {A = End} (Err Tree) (left_by memory full fault) → ⊥
choose_tree true full fault = λ h. cc
choose_tree false true fault = λ h. cc
choose_tree false false true = λ h. cc
choose_tree false false false = λ h. cc

tree_after : (gathered : Gathered) (ended : End) → Err Tree ≡ status_after gathered ended → ended ≡ Err Tree
tree_after gathered (Ok x) h = absurd (choose_tree gathered.memory gathered.full gathered.fault h)
tree_after gathered (Err x) h = sym h

pub status_tree : (gathered : Gathered) (ended result : End) → (result ≡ status_after gathered ended) ⊎ ((result ≡ Err Unwritten) ⊎ (result ≡ Err NoMemory)) → result ≡ Err Tree → ended ≡ Err Tree
status_tree gathered ended result (inl h) f = tree_after gathered ended (sym f ∙ h)
status_tree gathered ended result (inr (inl h)) f = absurd (let z : ◌≡◌ {A = End} (Err Unwritten) (Err Tree) = sym h ∙ f in cc)
status_tree gathered ended result (inr (inr h)) f = absurd (let z : ◌≡◌ {A = End} (Err NoMemory) (Err Tree) = sym h ∙ f in cc)

choose_written : (memory full fault : Bool) → left_by memory full fault ≡ Err Unwritten → ⊥
choose_written true full fault = λ h. cc
choose_written false true fault = λ h. cc
choose_written false false true = λ h. cc
choose_written false false false = λ h. cc

-- the work doesn't end by the output
pub status_written : (p : Pass) (gathered : Gathered) (ended : End) → IfErr ended (IsWorkCause p) → status_after gathered ended ≢ Err Unwritten
status_written p gathered (Ok x) h = choose_written gathered.memory gathered.full gathered.fault
status_written p gathered (Err stop) h = λ e. work_written p stop h (err_is (Err stop) stop Unwritten refl e)

-- the cause of an end that the jobs left
choose_cause : (q : Pass) (memory full fault : Bool) (result : End) → result ≡ left_by memory full fault
    → (result ≡ Err (AtLimit Transcript) → full ≡ true → IsNearlyFull (seen_of q)) → HasCause q result
choose_cause q true full fault result h nearly = subst (HasCause q) (sym h) tt
choose_cause q false true fault result h nearly = subst (HasCause q) (sym h) (nearly h refl)
choose_cause q false false true result h nearly = subst (HasCause q) (sym h) tt
choose_cause q false false false result h nearly = subst (HasCause q) (sym h) tt

cause_after : (w q : Pass) (gathered : Gathered) (ended result : End) → result ≡ status_after gathered ended → IfErr ended (IsWorkCause w)
    → Moved w q [] → (all_given w ≡ true → all_given q ≡ true) → (result ≡ Err (AtLimit Transcript) → gathered.full ≡ true → IsNearlyFull (seen_of q)) → HasCause q result
cause_after w q gathered (Ok x) result h cause m given nearly = choose_cause q gathered.memory gathered.full gathered.fault result h nearly
cause_after w q gathered (Err stop) result h cause m given nearly = subst (HasCause q) (sym h) (work_cause w q stop m given cause)

pub status_cause : (w q : Pass) (gathered : Gathered) (ended result : End) → EndsBy (job_ends gathered) ended result → IfErr ended (IsWorkCause w)
    → Moved w q [] → (all_given w ≡ true → all_given q ≡ true) → (result ≡ Err (AtLimit Transcript) → gathered.full ≡ true → IsNearlyFull (seen_of q)) → HasCause q result
status_cause w q gathered ended result (inl h) cause m given nearly = cause_after w q gathered ended result h cause m given nearly
status_cause w q gathered ended result (inr (inl h)) cause m given nearly = subst (HasCause q) (sym h) tt
status_cause w q gathered ended result (inr (inr h)) cause m given nearly = subst (HasCause q) (sym h) tt

-- a pass of the jobs that is nearly full lies within the last
all_middle : {X : Type 0} (P : X → Type 0) (front back : List X) (x : X) → All P (front ++ x ∷ back) → P x
all_middle P [] back x h = All-head P x back h
all_middle P (f ∷ front) back x h = all_middle P front back x (All-tail P f (front ++ x ∷ back) h)

pub full_within : (passes : List Pass) (q : Pass) → SomeFull passes → All (λ p. IsWithin p q) passes → IsNearlyFull (seen_of q)
full_within passes q f h =
    let w = all_middle (λ p. IsWithin p q) f.front f.back f.pass (subst (All (λ p. IsWithin p q)) f.whole h) in
    subst IsNearlyFull (sym w.whole) (nearly_full_longer (seen_of f.pass) w.more f.full)

-- writing
pub front_longer : (a b : Option (List ℕ)) (text more : List ℕ) → WritesFront a b text → WritesFront a b (text ++ more)
front_longer a b text more w = record {
  front = w.front;
  rest = w.rest ++ more;
  whole = sym (append_assoc w.front w.rest more) ∙ ap (λ x. x ++ more) w.whole;
  out = w.out;
}

-- the text of a report, and of the record behind it, is that of the transcript of the pass that has gone on
pub report_is : (asked : Bool) (p q : Pass) (logs : List Log) (lines : List ReportLine) (text : List ℕ) → Moved p q []
    → text ≡ report_text lines ++ record_part asked q
    → lines ≡ report_of (roots_of p) (seen_of q) ++ map Line (flat_map log_lines logs) → text ≡ report_with asked q logs
report_is asked p q logs lines text m is all =
    is ∙ ap (λ t. t ++ record_part asked q)
    (ap report_text all ∙ ap (λ roots. report_text (report_of roots (seen_of q) ++ map Line (flat_map log_lines logs))) (sym m.roots))

pub reported_all : (asked : Bool) (q : Pass) (logs : List Log) (text : List ℕ) (ended : End) (old new : Option (List ℕ))
    → text ≡ report_with asked q logs → IsConfirmedPart asked q → Appends old new text → Reported asked q ended old new
reported_all asked q logs text ended old new is said w =
    let whole = subst (Appends old new) is w in
    record { logs = logs; front = front_all old new (report_with asked q logs) whole; whole = λ _. whole; confirmed = λ _. said }

pub reported_cut : (asked : Bool) (q : Pass) (logs : List Log) (text : List ℕ) (r : End) (old new : Option (List ℕ))
    → r ≡ Err Unwritten → text ≡ report_with asked q logs → WritesFront old new text → Reported asked q r old new
reported_cut asked q logs text r old new e is w =
    subst (λ x. Reported asked q x old new) (sym e)
    (record { logs = logs; front = subst (WritesFront old new) is w; whole = λ h. absurd h; confirmed = λ h. absurd h })

-- nothing of the report was written
pub reported_none : (asked : Bool) (p : Pass) (old : Option (List ℕ)) → Reported asked p (Err NoMemory) old old
reported_none asked p old = record { logs = []; front = front_none old (report_with asked p []); whole = λ h. absurd h; confirmed = λ h. absurd h }

pub reported_memory : (asked : Bool) (p : Pass) (r : End) (old : Option (List ℕ)) → r ≡ Err NoMemory → Reported asked p r old old
reported_memory asked p r old e = subst (λ x. Reported asked p x old old) (sym e) (reported_none asked p old)

-- an end where memory ran out before the passes were joined
pub ends_before : (asked : Bool) (hub : Hub) (p : Pass) (full : Bool) (old : Option (List ℕ)) → IsPassOf hub p → HasTranscript p
    → EndsReported asked hub p full (Err NoMemory) old old
ends_before asked hub p full old of transcript = record {
  pass = p;
  winds = record { of = of; transcript = transcript; own = moved_none p; given = λ h. h };
  is_full = λ e f. absurd (cc);
  reported = reported_none asked p old;
}

-- and after that, with nothing written, a front written, or all
pub ends_memory : (asked : Bool) (hub : Hub) (p q : Pass) (full : Bool) (r : End) (old : Option (List ℕ)) → WindsUp hub p q
    → (full ≡ true → IsNearlyFull (seen_of q)) → r ≡ Err NoMemory → EndsReported asked hub p full r old old
ends_memory asked hub p q full r old winds is_full e =
    record { pass = q; winds = winds; is_full = λ _. is_full; reported = reported_memory asked q r old e }

pub ends_cut : (asked : Bool) (hub : Hub) (p q : Pass) (full : Bool) (logs : List Log) (text : List ℕ) (r : End) (old new : Option (List ℕ))
    → WindsUp hub p q → (full ≡ true → IsNearlyFull (seen_of q)) → r ≡ Err Unwritten → text ≡ report_with asked q logs
    → WritesFront old new text → EndsReported asked hub p full r old new
ends_cut asked hub p q full logs text r old new winds is_full e is w =
    record { pass = q; winds = winds; is_full = λ _. is_full; reported = reported_cut asked q logs text r old new e is w }

pub ends_all : (asked : Bool) (hub : Hub) (p q : Pass) (full : Bool) (logs : List Log) (text : List ℕ) (ended : End) (old new : Option (List ℕ))
    → WindsUp hub p q → (full ≡ true → IsNearlyFull (seen_of q)) → text ≡ report_with asked q logs → IsConfirmedPart asked q → Appends old new text
    → EndsReported asked hub p full ended old new
ends_all asked hub p q full logs text ended old new winds is_full is said w =
    record { pass = q; winds = winds; is_full = λ _. is_full; reported = reported_all asked q logs text ended old new is said w }

-- the line of the port was written, or a front of it
pub wrote_header : (asked : Bool) (port : ℕ) (p : Pass) (stop : ServeStop) (old new : Option (List ℕ)) → WritesFront old new (header port) → ¬ IsReported (Err stop) → WroteReport asked port p (Err stop) old new
wrote_header asked port p stop old new w never = record { logs = []; front = front_longer old new (header port) (report_with asked p []) w; whole = λ h. absurd (never h); confirmed = λ h. absurd (never h) }

-- and the report
pub wrote_report : (asked : Bool) (port : ℕ) (p : Pass) (result : End) (a b c : Option (List ℕ)) → Appends a b (header port) → Reported asked p result b c → WroteReport asked port p result a c
wrote_report asked port p result a b c head r = record {
  logs = r.logs;
  front = front_more a b c (header port) (report_with asked p r.logs) [] (header port ++ report_with asked p r.logs) head r.front (ap (λ x. header port ++ x) (append-nil (report_with asked p r.logs)));
  whole = λ h. Appends-trans a b c (header port) (report_with asked p r.logs) head (r.whole h);
  confirmed = r.confirmed;
}

later_appends : (asked : Bool) (port : ℕ) (p : Pass) (logs : List Log) (a b c : Option (List ℕ)) (last : List ℕ) → Appends a b (header port ++ report_with asked p logs) → Appends b c last
    → Appends a c (header port ++ (report_with asked p logs ++ last))
later_appends asked port p logs a b c last w l =
    subst (Appends a c) (append_assoc (header port) (report_with asked p logs) last) (Appends-trans a b c (header port ++ report_with asked p logs) last w l)

appends_none : (old : Option (List ℕ)) → Appends old old []
appends_none None = tt
appends_none (Some xs) = sym (append-nil xs)

none_front : (xs ys : List ℕ) → xs ++ ys ≡ [] → xs ≡ []
none_front [] ys e = refl
none_front (x ∷ xs) ys e = absurd (cc)

-- a front of nothing is nothing
nothing_more : (b c : Option (List ℕ)) → WritesFront b c [] → Appends b c []
nothing_more b c w = subst (Appends b c) (none_front w.front w.rest w.whole) w.out

-- a front of a text, and then nothing
front_still : (a b c : Option (List ℕ)) (text : List ℕ) → WritesFront a b text → Appends b c [] → WritesFront a c text
front_still a b c text w l = record {
  front = w.front;
  rest = w.rest;
  whole = w.whole;
  out = subst (Appends a c) (append-nil w.front) (Appends-trans a b c w.front [] w.out l);
}

as_last : (asked : Bool) (port : ℕ) (p : Pass) (logs : List Log) → header port ++ report_with asked p logs ≡ header port ++ (report_with asked p logs ++ [])
as_last asked port p logs = ap (λ x. header port ++ x) (sym (append-nil (report_with asked p logs)))

no_last : (asked : Bool) (port : ℕ) (p : Pass) (stop : ServeStop) (a b c : Option (List ℕ)) (before now : ℕ) → last_text {T = Unit {0}} (Err stop) ≡ [] → ¬ IsReported (Err stop)
    → WroteReport asked port p (Err stop) a b → WritesFront b c (last_text {T = Unit {0}} (Err stop)) → Wrote asked port p (Err stop) a c before now
no_last asked port p stop a b c before now none never w l = record {
  logs = w.logs;
  front =
      subst (WritesFront a c) (as_last asked port p w.logs ∙ ap (λ x. header port ++ (report_with asked p w.logs ++ x)) (sym none))
      (front_still a b c (header port ++ report_with asked p w.logs) w.front (nothing_more b c (subst (WritesFront b c) none l)));
  whole = λ h _. absurd (never h);
  confirmed = λ h. absurd (never h);
}

with_last : (asked : Bool) (port : ℕ) (p : Pass) (result : End) (a b c : Option (List ℕ)) (before mid now : ℕ) → IsReported result
    → WroteReport asked port p result a b → WroteEarly result b c mid now → before ≤ mid → mid ≤ now → Wrote asked port p result a c before now
with_last asked port p result a b c before mid now is w l less more = record {
  logs = w.logs;
  front =
      front_more a b c (header port ++ report_with asked p w.logs) (last_text result) [] (header port ++ (report_with asked p w.logs ++ last_text result)) (w.whole is) l.front
      (ap (λ x. (header port ++ report_with asked p w.logs) ++ x) (append-nil (last_text result)) ∙ append_assoc (header port) (report_with asked p w.logs) (last_text result));
  whole = λ _ not_risen. later_appends asked port p w.logs a b c (last_text result) (w.whole is) (l.whole (λ r. not_risen (rose_later before mid now now less (omega arith) r)));
  confirmed = w.confirmed;
}

-- and the line of a limit
pub wrote_last : (asked : Bool) (port : ℕ) (p : Pass) (result : End) (a b c : Option (List ℕ)) (before mid now : ℕ)
    → WroteReport asked port p result a b → WroteEarly result b c mid now → before ≤ mid → mid ≤ now → Wrote asked port p result a c before now
wrote_last asked port p (Ok x) a b c before mid now w l less more = with_last asked port p (Ok x) a b c before mid now tt w l less more
wrote_last asked port p (Err Unwritten) a b c before mid now w l less more = no_last asked port p Unwritten a b c before now refl (λ h. h) w l.front
wrote_last asked port p (Err Tree) a b c before mid now w l less more = with_last asked port p (Err Tree) a b c before mid now tt w l less more
wrote_last asked port p (Err Fault) a b c before mid now w l less more = with_last asked port p (Err Fault) a b c before mid now tt w l less more
wrote_last asked port p (Err (AtLimit limit)) a b c before mid now w l less more = with_last asked port p (Err (AtLimit limit)) a b c before mid now tt w l less more
wrote_last asked port p (Err NoMemory) a b c before mid now w l less more = no_last asked port p NoMemory a b c before now refl (λ h. h) w l.front

pub early_last : (result : End) (a b c : Option (List ℕ)) (before mid now : ℕ) → b ≡ a → before ≤ mid → WroteEarly result b c mid now → WroteEarly result a c before now
early_last result a b c before mid now same less w = record {
  front = subst (λ x. WritesFront x c (last_text result)) same w.front;
  whole = λ not_risen. subst (λ x. Appends x c (last_text result)) same (w.whole (λ r. not_risen (rose_later before mid now now less (omega arith) r)));
}

-- a line was written, or a front of it
wrote_whole : {E : Type 0} (r : Result (Unit {0}) E) (old new : Option (List ℕ)) (text : List ℕ) (k k' : ℕ) → OnOk r (Appends old new text) → OnErr r (Rose k k') → ¬ Rose k k' → Appends old new text
wrote_whole (Ok x) old new text k k' done failed not_risen = done
wrote_whole (Err x) old new text k k' done failed not_risen = absurd (not_risen failed)

pub wrote_line : {E : Type 0} (result : End) (r : Result (Unit {0}) E) (old new : Option (List ℕ)) (text : List ℕ) (k k' : ℕ) → text ≡ last_text result → WritesFront old new text
    → OnOk r (Appends old new text) → OnErr r (Rose k k') → WroteEarly result old new k k'
wrote_line result r old new text k k' is w done failed = record {
  front = subst (WritesFront old new) is w;
  whole = λ not_risen. subst (Appends old new) is (wrote_whole r old new text k k' done failed not_risen);
}

-- all that the call says it wrote
pub serve_wrote : (asked : Bool) (roots : List Name) (coming : Option (List Files)) (script : List Edit) (many : ℕ) (result : End) (heard : Option ℕ) (a b c : Option (List ℕ)) (before mid now : ℕ)
    → ((port : ℕ) × (p : Pass) × (heard ≡ Some port) × Served roots coming script many result p × WroteReport asked port p result a b) ⊎ (StopsEarly roots coming result × (b ≡ a))
    → WroteEarly result b c mid now → before ≤ mid → mid ≤ now
    → ((port : ℕ) × (p : Pass) × (heard ≡ Some port) × Served roots coming script many result p × Wrote asked port p result a c before now) ⊎ (StopsEarly roots coming result × WroteEarly result a c before now)
serve_wrote asked roots coming script many result heard a b c before mid now (inl (port, p, h, s, w)) l x y = inl (port, p, h, s, wrote_last asked port p result a b c before mid now w l x y)
serve_wrote asked roots coming script many result heard a b c before mid now (inr (s, e)) l x y = inr (s, early_last result a b c before mid now e x l)

-- it stopped before it listened
pub stops_memory : (roots : List Name) (coming : Option (List Files)) (r : End) → r ≡ Err NoMemory → StopsEarly roots coming r
stops_memory roots coming r e = record {
  cause = inl e;
  stopped = subst (λ x. OnOk x ⊥) (sym e) tt;
  written = λ u. let z : ◌≡◌ {A = End} (Err NoMemory) (Err Unwritten) = sym e ∙ u in cc;
}

stops_at : (roots : List Name) (coming : Option (List Files)) (p o : Pass) (r : End) (stop : ServeStop) → r ≡ Err stop → IsFirst roots p → SameKnower p o → HasTranscript o
    → IsEarlyEnd coming o (Err stop) → stop ≢ Unwritten → StopsEarly roots coming r
stops_at roots coming p o r stop e first same transcript cause never = record {
  cause = inr (o, record { transcript = transcript; roots_are = same.roots ∙ first.roots_are; end = subst (IsEarlyEnd coming o) (sym e) cause });
  stopped = subst (λ x. OnOk x ⊥) (sym e) tt;
  written = λ u. never (err_is r stop Unwritten e u);
}

-- by the first scan or an edit
pub stops_first : (roots : List Name) (coming : Option (List Files)) (p o : Pass) (r : End) (stop : ServeStop) → Passes r stop → IsFirst roots p → SameKnower p o → HasTranscript o
    → IsFirstCause coming o stop → StopsEarly roots coming r
stops_first roots coming p o r stop told first same transcript h =
    stops_at roots coming p o r stop (told.1 ∙ ap Err told.2) first same transcript (inl h) (first_written coming o stop h)

-- by the net
pub stops_outside : (roots : List Name) (coming : Option (List Files)) (listing : Files) (p o : Pass) (r : End) (fault : OutFault) → Passes r (stop_outside fault) → IsFirst roots p → SameKnower p o → HasTranscript o
    → Opens coming listing (seen_of o) → StopsEarly roots coming r
stops_outside roots coming listing p o r outside.Failed told first same transcript opens =
    stops_at roots coming p o r Fault (told.1 ∙ ap Err told.2) first same transcript (inr (refl, (listing, opens))) (λ e. cc)
stops_outside roots coming listing p o r outside.NoMemory told first same transcript opens = stops_memory roots coming r (told.1 ∙ ap Err told.2)

-- an end, by what it was made of
pub end_as : {X : Type 0} (result ended other : End) → (result ≡ ended) ⊎ X → ended ≡ other → (result ≡ other) ⊎ X
end_as result ended other (inl e) f = inl (e ∙ f)
end_as result ended other (inr x) f = inr x

-- no report is written after these
pub never_reported : (stop : ServeStop) → (stop ≡ Unwritten) ⊎ (stop ≡ NoMemory) → ¬ IsReported (Err stop)
never_reported stop (inl e) h = subst (λ s. IsReported (Err s)) e h
never_reported stop (inr e) h = subst (λ s. IsReported (Err s)) e h

-- it stopped when it had listened, and before the work
pub served_early : (asked : Bool) (roots : List Name) (coming : Option (List Files)) (listing : Files) (script : List Edit) (many port : ℕ) (stop : ServeStop) (r : End) (p o : Pass) (old new : Option (List ℕ))
    → r ≡ Err stop → IsFirst roots p → SameKnower p o → Opens coming listing (seen_of o) → HasTranscript o → (stop ≡ Unwritten) ⊎ (stop ≡ NoMemory) → ¬ IsReported (Err stop) → WritesFront old new (header port)
    → Served roots coming script many r o × WroteReport asked port o r old new
served_early asked roots coming listing script many port stop r p o old new e first same opens transcript which never w = (
  subst (λ x. Served roots coming script many x o) (sym e) (served_start roots coming listing script many stop p o first same opens transcript which),
  subst (λ x. WroteReport asked port o x old new) (sym e) (wrote_header asked port o stop old new w never),
)
