-- Each source, and each served one, has the text of the edit that was counted as its version.
use Rattle.std.proofs.Common.{◌≡◌, ℕ, ◌<◌, Bool, true, false, List, [], ◌∷◌, refl, ap, sym, ◌∙◌, arith}
use Rattle.std.specs.Prelude.{◌==◌, ◌&&◌, Option, Some, None, is_some, if◌then◌else◌, ⊤}
use Rattle.std.proofs.Math.Path.{subst}
use Rattle.std.proofs.lemmas.Bool.{false≢true, eqb-true, eq-eqb}
use Rattle.hmr_types.specs.declared.analysis.Outcome.{Outcome}
use Rattle.hmr_types.specs.declared.analysis.Outcome.TheVariants.{Good, Bad}
use Rattle.core_model.specs.Names.{Name, same_name, at}
use Rattle.core_model.specs.Sources.{Text, Change, edit, result, outstanding, good, bad, Source, Serving, Sources, EditAnswer, job, same, removed, edit_refused, edit_answer, text_or_none, after_edit, ResultAnswer, serve, refuse, late, is_outstanding, is_awaited, answer_of, result_answer, after_result, changed_by, sources_after}
use Rattle.core_model.proofs.Naming.{same_true, true_same, both_true}
use Rattle.core_model.proofs.Tables.{at_without, at_with_row}
use Rattle.core_laws.specs.Kept.{written_after, TextFacts}
use Rattle.core_laws.specs.Written.{written_too, written, IsWritten, IsServedWritten}
use Rattle.core_laws.proofs.Givens.{Numbered, answer_numbered, by_name}

module _ (by : Name → ℕ → Option Text) (s : Sources) (n : Name) (facts : TextFacts by s) where
  -- what was written stays written
  grows : (answer : EditAnswer) (t : Option Text) → Numbered s.counted answer → (m : Name) (w : ℕ) (x : Text) → by m w ≡ Some x → written_too answer n t by m w ≡ Some x
  grows (job v) t e m w x h = by_test (same_name n m && v == w) (λ f. facts.fresh m w (omega (arith, e, eqb-true v w (both_true (same_name n m) (v == w) f).1)))
    where
      by_test : (b : Bool) → (b ≡ true → by m w ≡ None) → (if b then Some (text_or_none t) else by m w) ≡ Some x
      by_test true f = absurd (false≢true (ap is_some (sym (f refl) ∙ h)))
      by_test false f = h
  grows same t e m w x h = h
  grows (removed v) t e m w x h = h
  grows (edit_refused word) t e m w x h = h

  source_on : (answer : EditAnswer) (t : Option Text) → Numbered s.counted answer → (m : Name) (o : Option Source) → IsWritten (by m) o → IsWritten (written_too answer n t by m) o
  source_on answer t e m None h = tt
  source_on answer t e m (Some x) h = grows answer t e m x.version x.text h

  serving_on : (answer : EditAnswer) (t : Option Text) → Numbered s.counted answer → (m : Name) (o : Option Serving) → IsServedWritten (by m) o → IsServedWritten (written_too answer n t by m) o
  serving_on answer t e m None h = tt
  serving_on answer t e m (Some x) h = grows answer t e m x.version x.text h

  edit_texts : (answer : EditAnswer) (t : Option Text) → Numbered s.counted answer → TextFacts (written_too answer n t by) (after_edit answer n t s)
  edit_texts (job v) t e = record {
    fresh = λ m w l. by_test m w (same_name n m && v == w) (λ f. eqb-true v w (both_true (same_name n m) (v == w) f).1) l;
    current = λ m. subst (IsWritten (written_too (job v) n t by m)) (sym (at_with_row n row s.current m))
        (by_name (λ m b. IsWritten (written_too (job v) n t by m) (if b then Some row else at s.current m)) n itself (λ m d. source_on (job v) t e m (at s.current m) (facts.current m)) m);
    served = λ m. serving_on (job v) t e m (at s.served m) (facts.served m);
  }
    where
      row : Source
      row = record { version = v; text = text_or_none t; verdict = outstanding }

      itself : (if same_name n n && v == v then Some (text_or_none t) else by n v) ≡ Some (text_or_none t)
      itself = ap (λ b. if b && v == v then Some (text_or_none t) else by n v) (true_same n n refl) ∙ ap (λ b. if b then Some (text_or_none t) else by n v) (eq-eqb v v refl)

      by_test : (m : Name) (w : ℕ) (b : Bool) → (b ≡ true → v ≡ w) → v < w → (if b then Some (text_or_none t) else by m w) ≡ None
      by_test m w true f l = absurd (omega (arith, f refl, l))
      by_test m w false f l = facts.fresh m w (omega (arith, e, l))
  edit_texts same t e = facts
  edit_texts (removed v) t e = record {
    fresh = λ m w l. facts.fresh m w (omega (arith, l, e));
    current = λ m. subst (IsWritten (by m)) (sym (at_without n s.current m)) (source_if (same_name n m) (at s.current m) (by m) (facts.current m));
    served = λ m. subst (IsServedWritten (by m)) (sym (at_without n s.served m)) (serving_if (same_name n m) (at s.served m) (by m) (facts.served m));
  }
    where
      source_if : (b : Bool) (o : Option Source) (f : ℕ → Option Text) → IsWritten f o → IsWritten f (if b then None else o)
      source_if true o f h = tt
      source_if false o f h = h

      serving_if : (b : Bool) (o : Option Serving) (f : ℕ → Option Text) → IsServedWritten f o → IsServedWritten f (if b then None else o)
      serving_if true o f h = tt
      serving_if false o f h = h
  edit_texts (edit_refused word) t e = facts

  -- a result that isn't late is of what was written
  abbrev pub IsOf : ResultAnswer → Text → ℕ → Type 0
  IsOf (serve a) t v = by n v ≡ Some t
  IsOf (refuse f) t v = by n v ≡ Some t
  IsOf late t v = ⊤

  result_texts : (answer : ResultAnswer) (t : Text) (v : ℕ) → IsOf answer t v → TextFacts by (after_result answer n t v s)
  result_texts (serve a) t v r = record {
    fresh = facts.fresh;
    current = λ m. subst (IsWritten (by m)) (sym (at_with_row n row s.current m)) (by_name (λ m b. IsWritten (by m) (if b then Some row else at s.current m)) n r (λ m d. facts.current m) m);
    served = λ m. subst (IsServedWritten (by m)) (sym (at_with_row n new s.served m)) (by_name (λ m b. IsServedWritten (by m) (if b then Some new else at s.served m)) n r (λ m d. facts.served m) m);
  }
    where
      row : Source
      row = record { version = v; text = t; verdict = good }

      new : Serving
      new = record { version = v; text = t; analysis = a }
  result_texts (refuse f) t v r = record {
    fresh = facts.fresh;
    current = λ m. subst (IsWritten (by m)) (sym (at_with_row n row s.current m)) (by_name (λ m b. IsWritten (by m) (if b then Some row else at s.current m)) n r (λ m d. facts.current m) m);
    served = facts.served;
  }
    where
      row : Source
      row = record { version = v; text = t; verdict = bad f }
  result_texts late t v r = facts

  awaited_is : (o : Option Source) (t : Text) (v : ℕ) → IsWritten (by n) o → is_awaited o t v ≡ true → by n v ≡ Some t
  awaited_is None t v w h = absurd (false≢true h)
  awaited_is (Some x) t v w h =
      let f = both_true (x.version == v) (same_name x.text t) (both_true ((x.version == v) && same_name x.text t) (is_outstanding x.verdict) h).0 in
      ap (by n) (sym (eqb-true x.version v f.0)) ∙ w ∙ ap Some (same_true x.text t f.1)

  pub answer_is : (o : Outcome) (t : Text) (v : ℕ) → IsOf (result_answer s n t o v) t v
  answer_is o t v = by_test (is_awaited (at s.current n) t v) (awaited_is (at s.current n) t v (facts.current n)) o
    where
      by_test : (b : Bool) → (b ≡ true → by n v ≡ Some t) → (o : Outcome) → IsOf (if b then answer_of o else late) t v
      by_test true f (Good a) = f refl
      by_test true f (Bad fault) = f refl
      by_test false f o = tt

-- an edit or a result keeps the texts
pub texts_on : (by : Name → ℕ → Option Text) (s : Sources) (ch : Change) → TextFacts by s → TextFacts (written_after s by ch) (changed_by s ch)
texts_on by s (edit n t) facts = edit_texts by s n facts (edit_answer s n t) t (answer_numbered (at s.current n) s t)
texts_on by s (result n t o v) facts = result_texts by s n facts (result_answer s n t o v) t v (answer_is by s n facts o t v)

pub text_facts : (past : List Change) → TextFacts (written past) (sources_after past)
text_facts [] = record { fresh = λ n v l. refl; current = λ n. tt; served = λ n. tt }
text_facts (edit n t ∷ past) = texts_on (written past) (sources_after past) (edit n t) (text_facts past)
text_facts (result n t o v ∷ past) = texts_on (written past) (sources_after past) (result n t o v) (text_facts past)

pub current_written : (past : List Change) (n : Name) → IsWritten (written past n) (at (sources_after past).current n)
current_written past = (text_facts past).current

pub served_written : (past : List Change) (n : Name) → IsServedWritten (written past n) (at (sources_after past).served n)
served_written past = (text_facts past).served

pub written_stays : (past : List Change) (ch : Change) (m : Name) (w : ℕ) (x : Text) → written past m w ≡ Some x → written (ch ∷ past) m w ≡ Some x
written_stays past (edit n t) m w x h = grows (written past) (sources_after past) n (text_facts past) (edit_answer (sources_after past) n t) t (answer_numbered (at (sources_after past).current n) (sources_after past) t) m w x h
written_stays past (result n t o v) m w x h = h
