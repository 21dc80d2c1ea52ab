-- The record of the sources has what a look back at the edits and results gives.
use Rattle.std.proofs.Common.{◌≡◌, ℕ, ◌+◌, Bool, true, false, List, [], ◌∷◌, refl, ap, sym, ◌∙◌, arith}
use Rattle.std.specs.Prelude.{◌==◌, ◌&&◌, ◌-◌, not, nat_le, nat_lt, length, Option, Some, None, is_some, if◌then◌else◌, ⊤}
use Rattle.std.proofs.lemmas.Bool.{false≢true, eqb-true}
use Rattle.hmr_types.specs.declared.limits.TheConstants.{TEXT_BYTES, SOURCE_NAMES, SOURCE_BYTES, LARGEST_NUMBER}
use Rattle.hmr_types.specs.declared.analysis.Outcome.{Outcome}
use Rattle.hmr_types.specs.declared.analysis.Outcome.TheVariants.{Good, Bad}
use Rattle.core_model.specs.Names.{Name, same_name, at}
use Rattle.core_model.specs.Sources.{Text, Change, edit, result, Verdict, good, bad, outstanding, Source, Serving, Sources, EditAnswer, job, same, removed, edit_refused, has_text, text_length, total_of, numbered, answer_for, edit_answer, text_or_none, after_edit, ResultAnswer, serve, refuse, late, is_outstanding, is_awaited, answer_of, result_answer, after_result, sources_after}
use Rattle.core_model.specs.LookBack.{counts, counted_edits, edited_last, last_edit, good_left, good_last, last_good, source_edit}
use Rattle.core_model.proofs.Naming.{same_true, both_true}
use Rattle.core_model.proofs.Tables.{both_ways, at_without, at_with_row}

-- How many edits were counted.

abbrev IsNext : ℕ → EditAnswer → Type 0
IsNext counted (job v) = v ≡ counted + 1
IsNext counted same = ⊤
IsNext counted (removed v) = v ≡ counted + 1
IsNext counted (edit_refused w) = ⊤

next_if : (counted : ℕ) (b : Bool) (x y : EditAnswer) → IsNext counted x → IsNext counted y → IsNext counted (if b then x else y)
next_if counted true x y p q = p
next_if counted false x y p q = q

answer_next : (old : Option Source) (s : Sources) (t : Option Text) → IsNext s.counted (answer_for old s t)
answer_next old s None = next_if s.counted (is_some old) (numbered removed s.counted) same (next_if s.counted (nat_le LARGEST_NUMBER s.counted) (edit_refused _) (removed (s.counted + 1)) tt refl) tt
answer_next old s (Some t) = next_if s.counted (nat_lt TEXT_BYTES (length t)) (edit_refused _) _ tt
    (next_if s.counted (has_text old t) same _ tt
    (next_if s.counted (not (is_some old) && nat_le SOURCE_NAMES (length s.current)) (edit_refused _) _ tt
    (next_if s.counted (nat_lt SOURCE_BYTES ((total_of s - text_length old) + length t)) (edit_refused _) _ tt
    (next_if s.counted (nat_le LARGEST_NUMBER s.counted) (edit_refused _) (job (s.counted + 1)) tt refl))))

edit_counts : (answer : EditAnswer) (n : Name) (t : Option Text) (s : Sources) → IsNext s.counted answer → (after_edit answer n t s).counted ≡ s.counted + counts answer
edit_counts (job v) n t s h = h
edit_counts same n t s h = omega arith
edit_counts (removed v) n t s h = h
edit_counts (edit_refused w) n t s h = omega arith

result_counts : (answer : ResultAnswer) (n : Name) (t : Text) (v : ℕ) (s : Sources) → (after_result answer n t v s).counted ≡ s.counted
result_counts (serve a) n t v s = refl
result_counts (refuse f) n t v s = refl
result_counts late n t v s = refl

pub counted_is : (past : List Change) → (sources_after past).counted ≡ counted_edits past
counted_is [] = refl
counted_is (edit n t ∷ past) = edit_counts (edit_answer (sources_after past) n t) n t (sources_after past) (answer_next (at (sources_after past).current n) (sources_after past) t)
    ∙ ap (λ k. k + counts (edit_answer (sources_after past) n t)) (counted_is past)
counted_is (result n t o v ∷ past) = result_counts (result_answer (sources_after past) n t o v) n t v (sources_after past) ∙ counted_is past

-- The current sources.

edit_if : (b : Bool) (x : Source) (o : Option Source) (e : Option (ℕ × Text)) → source_edit o ≡ e → source_edit (if b then Some x else o) ≡ (if b then Some (x.version, x.text) else e)
edit_if true x o e h = refl
edit_if false x o e h = h

none_if : (b : Bool) (o : Option Source) (e : Option (ℕ × Text)) → source_edit o ≡ e → source_edit (if b then None else o) ≡ (if b then None else e)
none_if true o e h = refl
none_if false o e h = h

after_edit_is : (answer : EditAnswer) (m : Name) (t : Option Text) (s : Sources) (n : Name) (e : Option (ℕ × Text)) → source_edit (at s.current n) ≡ e
    → source_edit (at (after_edit answer m t s).current n) ≡ (if same_name m n then edited_last answer t e else e)
after_edit_is (job v) m t s n e h = ap source_edit (at_with_row m (record { version = v; text = text_or_none t; verdict = outstanding }) s.current n) ∙ edit_if (same_name m n) (record { version = v; text = text_or_none t; verdict = outstanding }) (at s.current n) e h
after_edit_is same m t s n e h = h ∙ both_ways (same_name m n) e
after_edit_is (removed v) m t s n e h = ap source_edit (at_without m s.current n) ∙ none_if (same_name m n) (at s.current n) e h
after_edit_is (edit_refused w) m t s n e h = h ∙ both_ways (same_name m n) e

-- a result that isn't late is of the current source
abbrev IsOf : Option (ℕ × Text) → ResultAnswer → Text → ℕ → Type 0
IsOf o (serve a) t v = o ≡ Some (v, t)
IsOf o (refuse f) t v = o ≡ Some (v, t)
IsOf o late t v = ⊤

awaited_is : (o : Option Source) (t : Text) (v : ℕ) → is_awaited o t v ≡ true → source_edit o ≡ Some (v, t)
awaited_is None t v h = absurd (false≢true h)
awaited_is (Some x) t v h =
    let q = both_true (x.version == v) (same_name x.text t) (both_true ((x.version == v) && same_name x.text t) (is_outstanding x.verdict) h).0 in
    ap (λ k. Some (k, x.text)) (eqb-true x.version v q.0) ∙ ap (λ k. Some (v, k)) (same_true x.text t q.1)

answer_is : (o : Option Source) (outcome : Outcome) (t : Text) (v : ℕ) (b : Bool) → is_awaited o t v ≡ b → IsOf (source_edit o) (if b then answer_of outcome else late) t v
answer_is o (Good a) t v true h = awaited_is o t v h
answer_is o (Bad f) t v true h = awaited_is o t v h
answer_is o outcome t v false h = tt

settled_if : (b : Bool) (x : Source) (o : Option Source) (e : Option (ℕ × Text)) → source_edit o ≡ e → (b ≡ true → e ≡ Some (x.version, x.text)) → source_edit (if b then Some x else o) ≡ e
settled_if true x o e h f = sym (f refl)
settled_if false x o e h f = h

module _ (m : Name) (t : Text) (v : ℕ) (s : Sources) (n : Name) (e : Option (ℕ × Text)) (h : source_edit (at s.current n) ≡ e) where
  settles : (verdict : Verdict) → source_edit (at s.current m) ≡ Some (v, t) → source_edit (if same_name m n then Some (record { version = v; text = t; verdict = verdict }) else at s.current n) ≡ e
  settles verdict of = settled_if (same_name m n) (record { version = v; text = t; verdict = verdict }) (at s.current n) e h (λ q. sym h ∙ ap (λ k. source_edit (at s.current k)) (sym (same_true m n q)) ∙ of)

  after_result_is : (answer : ResultAnswer) → IsOf (source_edit (at s.current m)) answer t v → source_edit (at (after_result answer m t v s).current n) ≡ e
  after_result_is (serve a) of = ap source_edit (at_with_row m (record { version = v; text = t; verdict = good }) s.current n) ∙ settles good of
  after_result_is (refuse f) of = ap source_edit (at_with_row m (record { version = v; text = t; verdict = bad f }) s.current n) ∙ settles (bad f) of
  after_result_is late of = h

-- the current source of a name is its last counted edit
pub current_is : (past : List Change) (n : Name) → source_edit (at (sources_after past).current n) ≡ last_edit past n
current_is [] n = refl
current_is (edit m t ∷ past) n = after_edit_is (edit_answer (sources_after past) m t) m t (sources_after past) n (last_edit past n) (current_is past n)
current_is (result m t o v ∷ past) n = after_result_is m t v (sources_after past) n (last_edit past n) (current_is past n) (result_answer (sources_after past) m t o v)
    (answer_is (at (sources_after past).current m) o t v (is_awaited (at (sources_after past).current m) t v) refl)

-- What is served.

if_same : {X : Type 0} (b : Bool) (x : Option X) (o e : Option X) → o ≡ e → (if b then x else o) ≡ (if b then x else e)
if_same b x o e h = ap (λ k. if b then x else k) h

served_edit : (answer : EditAnswer) (m : Name) (t : Option Text) (s : Sources) (n : Name) (e : Option Serving) → at s.served n ≡ e → at (after_edit answer m t s).served n ≡ (if same_name m n then good_left answer e else e)
served_edit (job v) m t s n e h = h ∙ both_ways (same_name m n) e
served_edit same m t s n e h = h ∙ both_ways (same_name m n) e
served_edit (removed v) m t s n e h = at_without m s.served n ∙ if_same (same_name m n) None (at s.served n) e h
served_edit (edit_refused w) m t s n e h = h ∙ both_ways (same_name m n) e

served_result : (answer : ResultAnswer) (m : Name) (t : Text) (v : ℕ) (s : Sources) (n : Name) (e : Option Serving) → at s.served n ≡ e → at (after_result answer m t v s).served n ≡ (if same_name m n then good_last answer t v e else e)
served_result (serve a) m t v s n e h = at_with_row m (record { version = v; text = t; analysis = a }) s.served n ∙ if_same (same_name m n) (Some (record { version = v; text = t; analysis = a })) (at s.served n) e h
served_result (refuse f) m t v s n e h = h ∙ both_ways (same_name m n) e
served_result late m t v s n e h = h ∙ both_ways (same_name m n) e

-- what is served of a name is its last good result with no removal after it
pub served_is : (past : List Change) (n : Name) → at (sources_after past).served n ≡ last_good past n
served_is [] n = refl
served_is (edit m t ∷ past) n = served_edit (edit_answer (sources_after past) m t) m t (sources_after past) n (last_good past n) (served_is past n)
served_is (result m t o v ∷ past) n = served_result (result_answer (sources_after past) m t o v) m t v (sources_after past) n (last_good past n) (served_is past n)
