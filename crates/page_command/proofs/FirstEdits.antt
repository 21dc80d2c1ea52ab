-- Edits one after another.
use Rattle.std.proofs.Common.{◌≡◌, ◌≤◌, ◌<◌, ◌+◌, ℕ, Bool, true, false, List, [], ◌∷◌, ◌++◌, length, map, refl, ap, sym, ◌∙◌, subst, arith, inl}
use Rattle.std.specs.Prelude.{◌&&◌, ◌-◌, not, nat_le, nat_lt, Option, Some, None, Result, Ok, Err, IfErr, is_some, if◌then◌else◌}
use Rattle.std.specs.Option.{option_map}
use Rattle.std.specs.Global.{Vec}
use Rattle.std.proofs.lemmas.Bool.{leb-true}
use Rattle.std.proofs.lemmas.List.{length-map, map-append}
use Rattle.hmr_types.specs.declared.limits.TheConstants.{LARGEST_NUMBER, SOURCE_BYTES, SOURCE_NAMES, TEXT_BYTES}
use Rattle.hmr_types.specs.declared.words.EditRefusal.{EditRefusal}
use Rattle.hmr_types.specs.declared.words.EditRefusal.TheVariants.{NumbersSpent, SourceTotal, TextTooLong, TooManyNames}
use Rattle.module_semantics.specs.Analysis.{transformed}
use Rattle.module_semantics.specs.ModuleText.{parsing}
use Rattle.core_model.specs.LookBack.{counted_edits, counts}
use Rattle.core_model.specs.Names.{Name, at}
use Rattle.core_model.specs.Sources.{Change, EditAnswer, Source, Sources, Text, answer_for, edit, edit_answer, edit_refused, has_text, job, removed, result, same, sources_after, text_length, total_of}
use Rattle.core_model.proofs.LookingBack.{counted_is}
use Rattle.folder_watch.specs.Edits.{rows_of}
use Rattle.version_map.specs.Standing.{Answered, Answers, StandsFor}
use Rattle.version_map.specs.declared.outcome.EditFault.{EditFault}
use Rattle.version_map.specs.declared.outcome.EditOutcome.{EditOutcome}
use Rattle.version_map.specs.declared.outcome.EditOutcome.TheVariants as edits
use Rattle.page_command.specs.Opening.{AreAccepted, Edit, IsAccepted, opened, opened_by, with_result}
use Rattle.page_command.specs.Stops.{HasRefused, IsEditStop, StopsEdits}
use Rattle.command_ends.specs.declared.limit.Limit.TheVariants as limits
use Rattle.page_command.specs.declared.stop.PageStop.{PageStop}
use Rattle.page_command.specs.declared.stop.PageStop.TheVariants.{NoMemory, Tree, Unread, Unwritten}
use Rattle.page_command.specs.declared.stop.PageStop.TheVariants.{Limit as AtLimit}

-- one edit more
opened_then : (past : List Change) (done : List Edit) (e : Edit) → opened past (done ++ e ∷ []) ≡ opened_by (opened past done) e
opened_then past [] e = refl
opened_then past (x ∷ done) e = opened_then (opened_by past x) done e

accepted_then : (past : List Change) (done : List Edit) (e : Edit) → AreAccepted past done → IsAccepted (opened past done) e → AreAccepted past (done ++ e ∷ [])
accepted_then past [] e a h = (h, tt)
accepted_then past (x ∷ done) e a h = (a.0, accepted_then (opened_by past x) done e a.1 h)

abbrev Row : Type 0
Row = List ℕ × Option (Vec ℕ)

abbrev row_of : Row → Edit
row_of e = (e.0, option_map (λ t. t.items) e.1)

pub rows_then : (done : List Row) (e : Row) → rows_of (done ++ e ∷ []) ≡ rows_of done ++ row_of e ∷ []
rows_then done e = map-append row_of done (e ∷ [])

pub stands_then : (done : List Row) (e : Row) (map : Sources) → StandsFor (opened_by (opened [] (rows_of done)) (row_of e)) map
    → StandsFor (opened [] (rows_of (done ++ e ∷ []))) map
stands_then done e map h =
    subst (λ past. StandsFor past map) (sym (ap (opened []) (rows_then done e) ∙ opened_then [] (rows_of done) (row_of e))) h

pub all_accepted_then : (done : List Row) (e : Row) → AreAccepted [] (rows_of done) → IsAccepted (opened [] (rows_of done)) (row_of e)
    → AreAccepted [] (rows_of (done ++ e ∷ []))
all_accepted_then done e a h =
    subst (AreAccepted []) (sym (rows_then done e)) (accepted_then [] (rows_of done) (row_of e) a h)

-- how many edits were counted
counts_few : (x : EditAnswer) → counts x ≤ 1
counts_few (job v) = omega arith
counts_few same = omega arith
counts_few (removed v) = omega arith
counts_few (edit_refused w) = omega arith

result_counts : (n : Name) (t : Text) (a : EditAnswer) (past : List Change) → counted_edits (with_result n t a past) ≡ counted_edits past
result_counts n t (job v) past = refl
result_counts n t same past = refl
result_counts n t (removed v) past = refl
result_counts n t (edit_refused w) past = refl

one_counts : (past : List Change) (e : Edit) → counted_edits (opened_by past e) ≤ counted_edits past + 1
one_counts past (n, None) = omega arith
one_counts past (n, Some t) =
    let a = edit_answer (sources_after past) n (Some t) in
    let e = result_counts n t a (edit n (Some t) ∷ past) in
    let few = counts_few a in
    omega (arith, e, few)

all_count : (past : List Change) (done : List Edit) → counted_edits (opened past done) ≤ counted_edits past + length done
all_count past [] = omega arith
all_count past (e ∷ done) =
    let one = one_counts past e in
    let more = all_count (opened_by past e) done in
    omega (arith, one, more)

pub unspent : (done : List Row) (map : Sources) → StandsFor (opened [] (rows_of done)) map → length done ≤ SOURCE_NAMES → map.counted < LARGEST_NUMBER
unspent done map h few =
    let counted : map.counted ≡ counted_edits (opened [] (rows_of done)) = h.counted ∙ counted_is (opened [] (rows_of done)) in
    let all = all_count [] (rows_of done) in
    let long : length (rows_of done) ≡ length done = length-map done row_of in
    omega (arith, counted, all, long, few)

-- the edits that are left are fewer
pub yielded_few : {X : Type 0} (done left all : List X) → done ++ left ≡ all → length done ≤ length all
yielded_few [] left all e = omega arith
yielded_few (x ∷ done) left [] e = absurd (cc)
yielded_few (x ∷ done) left (y ∷ all) e = let tail : done ++ left ≡ all = cc in let k = yielded_few done left all tail in omega (arith, k)

-- where they stop
refused_at : (refusal : EditRefusal) (done : List Row) (e : Row) (left all : List Row) → done ++ e ∷ left ≡ all → AreAccepted [] (rows_of done)
    → edit_answer (sources_after (opened [] (rows_of done))) e.0 (option_map (λ t. t.items) e.1) ≡ edit_refused refusal → HasRefused refusal (rows_of all)
refused_at refusal done e left all whole accepted refused = record {
  before = rows_of done;
  edit = row_of e;
  behind = rows_of left;
  whole = sym (map-append row_of done (e ∷ left)) ∙ ap rows_of whole;
  accepted = accepted;
  refused = refused;
}

pub stops_at : (done : List Row) (e : Row) (left all : List Row) (stop : PageStop) → done ++ e ∷ left ≡ all → AreAccepted [] (rows_of done)
    → IsEditStop (edit_answer (sources_after (opened [] (rows_of done))) e.0 (option_map (λ t. t.items) e.1)) stop → StopsEdits (rows_of all) stop
stops_at done e left all Unread whole accepted h = h
stops_at done e left all Unwritten whole accepted h = h
stops_at done e left all Tree whole accepted h = h
stops_at done e left all (AtLimit limits.Text) whole accepted h = refused_at TextTooLong done e left all whole accepted h
stops_at done e left all (AtLimit limits.Names) whole accepted h = inl (refused_at TooManyNames done e left all whole accepted h)
stops_at done e left all (AtLimit limits.Sources) whole accepted h = refused_at SourceTotal done e left all whole accepted h
stops_at done e left all (AtLimit limits.Script) whole accepted h = h
stops_at done e left all (AtLimit limits.Record) whole accepted h = h
stops_at done e left all (AtLimit limits.Instances) whole accepted h = h
stops_at done e left all (AtLimit limits.Transcript) whole accepted h = h
stops_at done e left all (AtLimit limits.Passes) whole accepted h = h
stops_at done e left all (AtLimit limits.Turns) whole accepted h = h
stops_at done e left all NoMemory whole accepted h = tt

-- what an edit answers, by what the map answered
pub answered_ok : (r : Result EditOutcome EditFault) (outcome : EditOutcome) {P : Type 0} → r ≡ Ok outcome → Answered r P → P
answered_ok r outcome {P} is h = subst (λ x. Answered x P) is h

pub stands_job : (past : List Change) (n : Name) (t : Text) (v : ℕ) (map : Sources) → edit_answer (sources_after past) n (Some t) ≡ job v
    → StandsFor (with_result n t (job v) (edit n (Some t) ∷ past)) map → StandsFor (opened_by past (n, Some t)) map
stands_job past n t v map is h = subst (λ a. StandsFor (with_result n t a (edit n (Some t) ∷ past)) map) (sym is) h

pub stands_same : (past : List Change) (n : Name) (t : Text) (map : Sources) → edit_answer (sources_after past) n (Some t) ≡ same
    → StandsFor (edit n (Some t) ∷ past) map → StandsFor (opened_by past (n, Some t)) map
stands_same past n t map is h = subst (λ a. StandsFor (with_result n t a (edit n (Some t) ∷ past)) map) (sym is) h

pub stands_removed : (past : List Change) (n : Name) (t : Text) (v : ℕ) (map : Sources) → edit_answer (sources_after past) n (Some t) ≡ removed v
    → StandsFor (edit n (Some t) ∷ past) map → StandsFor (opened_by past (n, Some t)) map
stands_removed past n t v map is h = subst (λ a. StandsFor (with_result n t a (edit n (Some t) ∷ past)) map) (sym is) h

-- a text over the limit is refused
pub refused_long : (s : Sources) (n : Name) (t : Text) → nat_lt TEXT_BYTES (length t) ≡ true → edit_answer s n (Some t) ≡ edit_refused TextTooLong
refused_long s n t long = rw long refl

-- numbers are spent only where all were given
abbrev IsUnspent : ℕ → EditAnswer → Type 0
IsUnspent counted a = counted < LARGEST_NUMBER → ¬ (a ≡ edit_refused NumbersSpent)

unspent_if : (counted : ℕ) (b : Bool) (x y : EditAnswer) → IsUnspent counted x → IsUnspent counted y → IsUnspent counted (if b then x else y)
unspent_if counted true x y p q = p
unspent_if counted false x y p q = q

unspent_by : (counted : ℕ) (b : Bool) → nat_le LARGEST_NUMBER counted ≡ b → IsUnspent counted (if b then edit_refused NumbersSpent else job (counted + 1))
unspent_by counted true e few is = let most = leb-true LARGEST_NUMBER counted e in absurd (omega (arith, most, few))
unspent_by counted false e few is = absurd (cc)

unspent_for : (old : Option Source) (s : Sources) (t : Text) → IsUnspent s.counted (answer_for old s (Some t))
unspent_for old s t =
    unspent_if s.counted (nat_lt TEXT_BYTES (length t)) (edit_refused TextTooLong) _ (λ few e. cc)
    (unspent_if s.counted (has_text old t) same _ (λ few e. cc)
    (unspent_if s.counted (not (is_some old) && nat_le SOURCE_NAMES (length s.current)) (edit_refused TooManyNames) _ (λ few e. cc)
    (unspent_if s.counted (nat_lt SOURCE_BYTES ((total_of s - text_length old) + length t)) (edit_refused SourceTotal) _ (λ few e. cc)
    (unspent_by s.counted (nat_le LARGEST_NUMBER s.counted) refl))))

pub not_spent : (past : List Change) (map : Sources) (n : Name) (t : Text) (refusal : EditRefusal) → StandsFor past map → map.counted < LARGEST_NUMBER
    → edit_answer (sources_after past) n (Some t) ≡ edit_refused refusal → ¬ (refusal ≡ NumbersSpent)
not_spent past map n t refusal h few is spent =
    let counted = h.counted in
    unspent_for (at (sources_after past).current n) (sources_after past) t (subst (λ k. k < LARGEST_NUMBER) counted few)
    (is ∙ ap edit_refused spent)

pub if_err_then : {T : Type 0} {P Q : PageStop → Type 0} (r : Result T PageStop) → IfErr r P → ((stop : PageStop) → P stop → Q stop) → IfErr r Q
if_err_then (Ok x) h f = tt
if_err_then (Err stop) h f = f stop h

-- a job that is settled at once
pub settled_job : (past : List Change) (n m : Name) (t u : Text) (v : ℕ) (before after : Sources) → m ≡ n → u ≡ t
    → Answers (Ok (edits.Job v)) (edit_answer (sources_after past) n (Some t)) → StandsFor (edit n (Some t) ∷ past) before
    → ((p : List Change) → StandsFor p before → StandsFor (result m u (transformed parsing m u) v ∷ p) after)
    → StandsFor (opened_by past (n, Some t)) after
settled_job past n m t u v before after is same_text answered stands settled =
    stands_job past n t v after answered
    (subst (λ x. StandsFor (result n x (transformed parsing n x) v ∷ edit n (Some t) ∷ past) after) same_text
    (subst (λ x. StandsFor (result x u (transformed parsing x u) v ∷ edit n (Some t) ∷ past) after) is
    (settled (edit n (Some t) ∷ past) stands)))
