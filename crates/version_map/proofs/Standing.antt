-- What stands for some changes stands for one more after it was made at each name.
use Rattle.std.proofs.Common.{◌≡◌, ℕ, ◌+◌, ◌≤◌, arith, Bool, true, false, List, [], ◌∷◌, length, refl, ap, sym, ◌∙◌}
use Rattle.std.specs.Option.{option_map}
use Rattle.std.specs.Prelude.{◌-◌, nat_le, nat_lt, not, ◌&&◌, Option, Some, None, is_some, if◌then◌else◌}
use Rattle.hmr_types.specs.declared.analysis.Outcome.{Outcome}
use Rattle.hmr_types.specs.declared.limits.TheConstants.{TEXT_BYTES, SOURCE_NAMES, SOURCE_BYTES, LARGEST_NUMBER}
use Rattle.hmr_types.specs.declared.words.EditRefusal.TheVariants.{TextTooLong, TooManyNames, SourceTotal, NumbersSpent}
use Rattle.hmr_types.specs.declared.words.EditRefusal.{EditRefusal}
use Rattle.std.proofs.Math.Path.{subst}
use Rattle.core_model.specs.Names.{Name, same_name, at}
use Rattle.core_model.specs.Sources.{Text, Change, edit, result, Source, Serving, Sources, EditAnswer, job, same, removed, edit_refused, ResultAnswer, serve, refuse, late, after_edit, after_result, answer_for, edit_answer, result_answer, changed_by, sources_after, outstanding, text_or_none, good, bad, answer_of, is_outstanding, is_awaited, total_of, has_text, text_length, numbered}
use Rattle.core_model.proofs.Naming.{same_true, both_true}
use Rattle.std.proofs.lemmas.Bool.{eqb-true, false≢true, leb-false, ltb-false}
use Rattle.core_model.proofs.Tables.{at_without, at_with_row}
use Rattle.version_map.specs.Entries.{answer_at}
use Rattle.version_map.specs.Entries.{settled_source, settled_serving}
use Rattle.version_map.specs.Standing.{Matches, StandsFor, settled_as}
use Rattle.version_map.specs.declared.outcome.Settled.{Settled}
use Rattle.version_map.specs.declared.outcome.Settled.TheVariants as settlings
use Rattle.version_map.proofs.Onces.{IsOnce, once_with, once_without, same_sum, length_sum}

once_edit : (a : EditAnswer) (n : Name) (t : Option Text) (s : Sources) → IsOnce s.current → IsOnce (after_edit a n t s).current
once_edit (job v) n t s o = once_with n (record { version = v; text = text_or_none t; verdict = outstanding }) s.current o
once_edit (removed v) n t s o = once_without n s.current o
once_edit same n t s o = o
once_edit (edit_refused w) n t s o = o

once_result : (a : ResultAnswer) (n : Name) (t : Text) (v : ℕ) (s : Sources) → IsOnce s.current → IsOnce (after_result a n t v s).current
once_result (serve a) n t v s o = once_with n (record { version = v; text = t; verdict = good }) s.current o
once_result (refuse f) n t v s o = once_with n (record { version = v; text = t; verdict = bad f }) s.current o
once_result late n t v s o = o

once_change : (ch : Change) (s : Sources) → IsOnce s.current → IsOnce (changed_by s ch).current
once_change (edit n t) s o = once_edit (edit_answer s n t) n t s o
once_change (result n t o' v) s o = once_result (result_answer s n t o' v) n t v s o

pub once_after : (past : List Change) → IsOnce (sources_after past).current
once_after [] = record {}
once_after (ch ∷ past) = once_change ch (sources_after past) (once_after past)

-- the map has what s has, by name
pub record HasOf (s map : Sources) : Type 0 where
  pub counted : map.counted ≡ s.counted
  pub served_no : map.served_no ≡ s.served_no
  pub source : (n : Name) → at map.current n ≡ at s.current n
  pub served : (n : Name) → at map.served n ≡ at s.served n
  pub once : IsOnce map.current

pub stands : (past : List Change) (map : Sources) → HasOf (sources_after past) map → StandsFor past map
stands past map h = record {
  counted = h.counted;
  served_no = h.served_no;
  source = h.source;
  served = h.served;
  names = length_sum map.current ∙ same_sum (λ _. 1) map.current (sources_after past).current h.once (once_after past) h.source ∙ sym (length_sum (sources_after past).current);
  bytes = same_sum (λ s. length s.text) map.current (sources_after past).current h.once (once_after past) h.source;
}

-- the rows of an edit, by what they look at
abbrev row_answer : Option Source → ℕ → ℕ → ℕ → Option Text → EditAnswer
row_answer old names bytes counted None = if is_some old then numbered removed counted else same
row_answer old names bytes counted (Some t) =
    if nat_lt TEXT_BYTES (length t) then edit_refused TextTooLong else (
    if has_text old t then same else (
    if not (is_some old) && nat_le SOURCE_NAMES names then edit_refused TooManyNames else (
    if nat_lt SOURCE_BYTES ((bytes - text_length old) + length t) then edit_refused SourceTotal else
    numbered job counted)))

rows_are : (old : Option Source) (s : Sources) (t : Option Text) → answer_for old s t ≡ row_answer old (length s.current) (total_of s) s.counted t
rows_are old s None = refl
rows_are old s (Some t) = refl

-- the answer is that of the changes
pub same_answer : (past : List Change) (map : Sources) → StandsFor past map → (n : Name) (t : Option Text) → edit_answer map n t ≡ edit_answer (sources_after past) n t
same_answer past map h n t =
    let s = sources_after past in
    rows_are (at map.current n) map t
    ∙ ap (λ old. row_answer old (length map.current) (total_of map) map.counted t) (h.source n)
    ∙ ap (λ k. row_answer (at s.current n) k (total_of map) map.counted t) h.names
    ∙ ap (λ k. row_answer (at s.current n) (length s.current) k map.counted t) h.bytes
    ∙ ap (λ k. row_answer (at s.current n) (length s.current) (total_of s) k t) h.counted
    ∙ sym (rows_are (at s.current n) s t)

pub same_settling : (past : List Change) (map : Sources) → StandsFor past map → (n : Name) (t : Text) (o : Outcome) (v : ℕ) → result_answer map n t o v ≡ result_answer (sources_after past) n t o v
same_settling past map h n t o v = ap (λ old. answer_at old t o v) (h.source n)

-- the name and the entry that another look-up has are the same
same_at : {X : Type 0} (rows : List (Name × X)) (n m : Name) (b : Bool) → same_name n m ≡ b → (if b then at rows n else at rows m) ≡ at rows m
same_at rows n m true e = ap (at rows) (same_true n m e)
same_at rows n m false e = refl

-- the edit's answer is a job only where nothing stands against it
pub record IsRoom (old : Option Source) (s : Sources) (t : Text) (v : ℕ) : Type 0 where
  pub number : v ≡ s.counted + 1
  pub number_fits : v ≤ LARGEST_NUMBER
  pub text_fits : length t ≤ TEXT_BYTES
  pub bytes_fit : (total_of s - text_length old) + length t ≤ SOURCE_BYTES

abbrev is_job : EditAnswer → Bool
is_job (job v) = true
is_job same = false
is_job (removed v) = false
is_job (edit_refused w) = false

abbrev number_in : EditAnswer → ℕ
number_in (job v) = v
number_in same = 0
number_in (removed v) = v
number_in (edit_refused w) = 0

past_row : (b : Bool) (w rest : EditAnswer) (v : ℕ) → is_job w ≡ false → (if b then w else rest) ≡ job v → (b ≡ false) × (rest ≡ job v)
past_row true w rest v n h = absurd (false≢true (sym n ∙ ap is_job h))
past_row false w rest v n h = (refl, h)

pub job_room : (old : Option Source) (s : Sources) (t : Text) (v : ℕ) → answer_for old s (Some t) ≡ job v → IsRoom old s t v
job_room old s t v h =
    let r1 = past_row (nat_lt TEXT_BYTES (length t)) (edit_refused TextTooLong) _ v refl h in
    let r2 = past_row (has_text old t) same _ v refl r1.1 in
    let r3 = past_row (not (is_some old) && nat_le SOURCE_NAMES (length s.current)) (edit_refused TooManyNames) _ v refl r2.1 in
    let r4 = past_row (nat_lt SOURCE_BYTES ((total_of s - text_length old) + length t)) (edit_refused SourceTotal) _ v refl r3.1 in
    let r5 = past_row (nat_le LARGEST_NUMBER s.counted) (edit_refused NumbersSpent) _ v refl r4.1 in
    record {
      number = ap number_in (sym r5.1);
      number_fits = omega (arith, leb-false LARGEST_NUMBER s.counted r5.0, ap number_in (sym r5.1));
      text_fits = ltb-false TEXT_BYTES (length t) r1.0;
      bytes_fit = ltb-false SOURCE_BYTES ((total_of s - text_length old) + length t) r4.0;
    }

abbrev is_removal : EditAnswer → Bool
is_removal (job k) = false
is_removal same = false
is_removal (removed k) = true
is_removal (edit_refused w) = false

removed_number : (counted v : ℕ) (b : Bool) → nat_le LARGEST_NUMBER counted ≡ b → (if b then edit_refused NumbersSpent else removed (counted + 1)) ≡ removed v → (v ≡ counted + 1) × (v ≤ LARGEST_NUMBER)
removed_number counted v true e h = absurd (false≢true (ap is_removal h))
removed_number counted v false e h = (ap number_in (sym h), omega (arith, leb-false LARGEST_NUMBER counted e, ap number_in (sym h)))

pub removed_room : (old : Option Source) (s : Sources) (v : ℕ) → answer_for old s None ≡ removed v → (v ≡ s.counted + 1) × (v ≤ LARGEST_NUMBER)
removed_room None s v h = absurd (false≢true (ap is_removal h))
removed_room (Some x) s v h = removed_number s.counted v (nat_le LARGEST_NUMBER s.counted) refl h

-- what a change made of the sources and of the servings
pub record Changed (n : Name) (x : Option Source) (o : Option Serving) (old new : Sources) : Type 0 where
  pub source : (m : Name) → at new.current m ≡ (if same_name n m then x else at old.current m)
  pub served : (m : Name) → at new.served m ≡ (if same_name n m then o else at old.served m)
  pub once : IsOnce new.current

module _ (past : List Change) (n : Name) (old new : Sources) (h : StandsFor past old) where
  source_at : (x : Option Source) (o : Option Serving) → Changed n x o old new → (m : Name) → at new.current m ≡ (if same_name n m then x else at (sources_after past).current m)
  source_at x o c m = c.source m ∙ ap (λ r. if same_name n m then x else r) (h.source m)

  served_at : (x : Option Source) (o : Option Serving) → Changed n x o old new → (m : Name) → at new.served m ≡ (if same_name n m then o else at (sources_after past).served m)
  served_at x o c m = c.served m ∙ ap (λ r. if same_name n m then o else r) (h.served m)

  source_kept : (o : Option Serving) → Changed n (at old.current n) o old new → (m : Name) → at new.current m ≡ at (sources_after past).current m
  source_kept o c m = c.source m ∙ same_at old.current n m (same_name n m) refl ∙ h.source m

  served_kept : (x : Option Source) → Changed n x (at old.served n) old new → (m : Name) → at new.served m ≡ at (sources_after past).served m
  served_kept x c m = c.served m ∙ same_at old.served n m (same_name n m) refl ∙ h.served m

  edit_stands : (t : Option Text) (a : EditAnswer) → edit_answer old n t ≡ a → HasOf (after_edit a n t (sources_after past)) new → StandsFor (edit n t ∷ past) new
  edit_stands t a e k = stands (edit n t ∷ past) new (subst (λ b. HasOf (after_edit b n t (sources_after past)) new) (sym e ∙ same_answer past old h n t) k)

  -- a text was given
  pub job_stands : (t : Text) (v : ℕ) → edit_answer old n (Some t) ≡ job v → new.counted ≡ v → new.served_no ≡ old.served_no → Changed n (Some (record { version = v; text = t; verdict = outstanding })) (at old.served n) old new → StandsFor (edit n (Some t) ∷ past) new
  job_stands t v e k l c = edit_stands (Some t) (job v) e (record {
    counted = k;
    served_no = l ∙ h.served_no;
    source = λ m. source_at (Some (record { version = v; text = t; verdict = outstanding })) (at old.served n) c m ∙ sym (at_with_row n (record { version = v; text = t; verdict = outstanding }) (sources_after past).current m);
    served = served_kept (Some (record { version = v; text = t; verdict = outstanding })) c;
    once = c.once;
  })

  -- a source was taken away
  pub removed_stands : (v : ℕ) → edit_answer old n None ≡ removed v → new.counted ≡ v → new.served_no ≡ old.served_no + 1 → Changed n None None old new → StandsFor (edit n None ∷ past) new
  removed_stands v e k l c = edit_stands None (removed v) e (record {
    counted = k;
    served_no = l ∙ ap (λ i. i + 1) h.served_no;
    source = λ m. source_at None None c m ∙ sym (at_without n (sources_after past).current m);
    served = λ m. served_at None None c m ∙ sym (at_without n (sources_after past).served m);
    once = c.once;
  })

  -- an edit that changes nothing
  pub same_stands : (t : Option Text) → edit_answer old n t ≡ same → StandsFor (edit n t ∷ past) old
  same_stands t e = subst (λ a. Matches (after_edit a n t (sources_after past)) old) (sym e ∙ same_answer past old h n t) h

  pub refused_stands : (t : Option Text) (w : EditRefusal) → edit_answer old n t ≡ edit_refused w → StandsFor (edit n t ∷ past) old
  refused_stands t w e = subst (λ a. Matches (after_edit a n t (sources_after past)) old) (sym e ∙ same_answer past old h n t) h

-- how often something was served after a result
abbrev pub served_no_after : ResultAnswer → ℕ → ℕ
served_no_after (serve a) k = k + 1
served_no_after (refuse f) k = k
served_no_after late k = k

abbrev is_served : Settled → Bool
is_served settlings.Served = true
is_served (settlings.RefusedText f) = false
is_served settlings.Late = false

pub counts_served : (a : ResultAnswer) (k : ℕ) → settled_as a ≡ settlings.Served → k + 1 ≡ served_no_after a k
counts_served (serve x) k e = refl
counts_served (refuse f) k e = absurd (false≢true (ap is_served e))
counts_served late k e = absurd (false≢true (ap is_served e))

pub counts_none : (a : ResultAnswer) (k : ℕ) → (settled_as a ≡ settlings.Served → Prim.⊥) → k ≡ served_no_after a k
counts_none (serve x) k f = absurd (f refl)
counts_none (refuse x) k f = refl
counts_none late k f = refl

abbrev is_late : ResultAnswer → Bool
is_late (serve a) = false
is_late (refuse f) = false
is_late late = true

-- a result that isn't late is of a source that awaits it
pub record IsOfSource (old : Option Source) (t : Text) (v : ℕ) : Type 0 where
  pub source : Source
  pub is : old ≡ Some source
  pub text : t ≡ source.text
  pub version : v ≡ source.version
  pub awaited : is_outstanding source.verdict ≡ true

of_awaited : (old : Option Source) (t : Text) (v : ℕ) → is_awaited old t v ≡ true → IsOfSource old t v
of_awaited None t v h = absurd (false≢true h)
of_awaited (Some s) t v h =
    let r1 = both_true _ _ h in
    let r2 = both_true _ _ r1.0 in
    record { source = s; is = refl; text = sym (same_true s.text t r2.1); version = sym (eqb-true s.version v r2.0); awaited = r1.1 }

late_or : (b : Bool) (a ans : ResultAnswer) → (if b then a else late) ≡ ans → is_late ans ≡ false → b ≡ true
late_or true a ans e h = refl
late_or false a ans e h = absurd (false≢true (sym h ∙ sym (ap is_late e)))

pub of_source : (old : Option Source) (t : Text) (o : Outcome) (v : ℕ) (ans : ResultAnswer) → answer_at old t o v ≡ ans → is_late ans ≡ false → IsOfSource old t v
of_source old t o v ans e h = of_awaited old t v (late_or (is_awaited old t v) (answer_of o) ans e h)

abbrev pub source_after : Option Source → Text → ℕ → ResultAnswer → Option Source
source_after old t v ans = option_map (settled_source ans t v) old

module _ (past : List Change) (n : Name) (old new : Sources) (h : StandsFor past old) (t : Text) (o : Outcome) (v : ℕ) where
  settled_by : (a : ResultAnswer) → result_answer old n t o v ≡ a → HasOf (after_result a n t v (sources_after past)) new → StandsFor (result n t o v ∷ past) new
  settled_by a e k = stands (result n t o v ∷ past) new (subst (λ b. HasOf (after_result b n t v (sources_after past)) new) (sym e ∙ same_settling past old h n t o v) k)

  settled_is : (a : ResultAnswer) (x : Source) → IsOfSource (at old.current n) t v → ((s : Source) → settled_source a t v s ≡ x) → source_after (at old.current n) t v a ≡ Some x
  settled_is a x s f = ap (λ p. source_after p t v a) s.is ∙ ap Some (f s.source)

  -- a result came
  pub settle_stands : (a : ResultAnswer) → result_answer old n t o v ≡ a → new.counted ≡ old.counted → new.served_no ≡ served_no_after a old.served_no → Changed n (source_after (at old.current n) t v a) (settled_serving a t v (at old.served n)) old new → StandsFor (result n t o v ∷ past) new
  settle_stands (serve a) e k l c =
      let x : Source = record { version = v; text = t; verdict = good } in
      let is : source_after (at old.current n) t v (serve a) ≡ Some x = settled_is (serve a) x (of_source (at old.current n) t o v (serve a) e refl) (λ s. refl) in
      settled_by (serve a) e (record {
        counted = k ∙ h.counted;
        served_no = l ∙ ap (λ i. i + 1) h.served_no;
        source = λ m. source_at past n old new h _ _ c m ∙ ap (λ y. if same_name n m then y else at (sources_after past).current m) is ∙ sym (at_with_row n x (sources_after past).current m);
        served = λ m. served_at past n old new h _ _ c m ∙ sym (at_with_row n (record { version = v; text = t; analysis = a }) (sources_after past).served m);
        once = c.once;
      })
  settle_stands (refuse f) e k l c =
      let x : Source = record { version = v; text = t; verdict = bad f } in
      let is : source_after (at old.current n) t v (refuse f) ≡ Some x = settled_is (refuse f) x (of_source (at old.current n) t o v (refuse f) e refl) (λ s. refl) in
      settled_by (refuse f) e (record {
        counted = k ∙ h.counted;
        served_no = l ∙ h.served_no;
        source = λ m. source_at past n old new h _ _ c m ∙ ap (λ y. if same_name n m then y else at (sources_after past).current m) is ∙ sym (at_with_row n x (sources_after past).current m);
        served = served_kept past n old new h _ c;
        once = c.once;
      })
  settle_stands late e k l c = settled_by late e (record {
    counted = k ∙ h.counted;
    served_no = l ∙ h.served_no;
    source = λ m. c.source m ∙ ap (λ y. if same_name n m then y else at old.current m) (same_option (at old.current n)) ∙ same_at old.current n m (same_name n m) refl ∙ h.source m;
    served = served_kept past n old new h _ c;
    once = c.once;
  })
    where
      same_option : (x : Option Source) → option_map (settled_source late t v) x ≡ x
      same_option None = refl
      same_option (Some s) = refl
