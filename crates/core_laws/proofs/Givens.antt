-- The sources, and the analyses that versions were served with.
use Rattle.std.proofs.Common.{◌≡◌, ℕ, ◌+◌, ◌-◌, ◌≤◌, ◌<◌, Bool, true, false, List, [], ◌∷◌, refl, ap, sym, ◌∙◌, arith}
use Rattle.std.specs.Prelude.{◌==◌, ◌&&◌, not, length, nat_le, nat_lt, Option, Some, None, is_some, if◌then◌else◌, ⊤}
use Rattle.std.proofs.Math.Path.{subst}
use Rattle.std.proofs.lemmas.Bool.{false≢true, eqb-true, eq-eqb}
use Rattle.hmr_types.specs.declared.limits.TheConstants.{TEXT_BYTES, SOURCE_NAMES, SOURCE_BYTES, LARGEST_NUMBER}
use Rattle.hmr_types.specs.declared.analysis.Analysis.{Analysis}
use Rattle.hmr_types.specs.declared.analysis.Outcome.{Outcome}
use Rattle.hmr_types.specs.declared.analysis.Outcome.TheVariants.{Good, Bad}
use Rattle.core_model.specs.Names.{Name, same_name, at, without, with_row}
use Rattle.core_model.specs.Sources.{Text, Change, edit, result, Verdict, outstanding, good, bad, Source, Serving, Sources, EditAnswer, job, same, removed, edit_refused, has_text, text_length, total_of, numbered, answer_for, edit_answer, text_or_none, after_edit, ResultAnswer, serve, refuse, late, is_outstanding, is_awaited, answer_of, result_answer, after_result, changed_by, sources_after}
use Rattle.core_model.specs.View.{Entry}
use Rattle.core_model.proofs.Naming.{same_true, true_same, both_true}
use Rattle.core_model.proofs.Tables.{at_without, at_with_row}
use Rattle.core_laws.specs.Given.{given_too, analysis_given, entry_of, IsGiven}
use Rattle.core_laws.specs.Kept.{given_after}
use Rattle.core_laws.specs.Facts.{IsCounted, VerdictIs, SourceIs, SourcesFacts}

-- What an edit answers.

-- an edit that counts gets the next number
abbrev pub Numbered : ℕ → EditAnswer → Type 0
Numbered counted (job v) = v ≡ counted + 1
Numbered counted same = ⊤
Numbered counted (removed v) = v ≡ counted + 1
Numbered counted (edit_refused w) = ⊤

if_numbered : (counted : ℕ) (b : Bool) (x y : EditAnswer) → Numbered counted x → Numbered counted y → Numbered counted (if b then x else y)
if_numbered counted true x y p q = p
if_numbered counted false x y p q = q

pub answer_numbered : (old : Option Source) (s : Sources) (t : Option Text) → Numbered s.counted (answer_for old s t)
answer_numbered old s None = if_numbered s.counted (is_some old) (numbered removed s.counted) same (if_numbered s.counted (nat_le LARGEST_NUMBER s.counted) (edit_refused _) (removed (s.counted + 1)) tt refl) tt
answer_numbered old s (Some t) = if_numbered s.counted (nat_lt TEXT_BYTES (length t)) (edit_refused _) _ tt
    (if_numbered s.counted (has_text old t) same _ tt
    (if_numbered s.counted (not (is_some old) && nat_le SOURCE_NAMES (length s.current)) (edit_refused _) _ tt
    (if_numbered s.counted (nat_lt SOURCE_BYTES ((total_of s - text_length old) + length t)) (edit_refused _) _ tt
    (if_numbered s.counted (nat_le LARGEST_NUMBER s.counted) (edit_refused _) (job (s.counted + 1)) tt refl))))

-- the name that a change is of, and each other name
pub by_name : (P : Name → Bool → Type 0) (n : Name) → P n true → ((m : Name) → same_name n m ≡ false → P m false) → (m : Name) → P m (same_name n m)
by_name P n p f m = by_test (same_name n m) (same_true n m) (f m)
  where
    by_test : (b : Bool) → (b ≡ true → n ≡ m) → (b ≡ false → P m false) → P m b
    by_test true e f = subst (λ k. P k true) (e refl) p
    by_test false e f = f refl

counted_more : (o : Option Source) (k j : ℕ) → k ≤ j → IsCounted o k → IsCounted o j
counted_more None k j l c = tt
counted_more (Some s) k j l c = omega (arith, l, c)

module _ (by : Name → ℕ → Option Analysis) (s : Sources) (n : Name) (facts : SourcesFacts by s) where
  edit_keeps : (answer : EditAnswer) (t : Option Text) → Numbered s.counted answer → SourcesFacts by (after_edit answer n t s)
  edit_keeps (job v) t e = record {
    counted = λ m. subst (λ o. IsCounted o v) (sym (at_with_row n row s.current m))
        (by_name (λ m b. IsCounted (if b then Some row else at s.current m) v) n (omega arith) (λ m d. counted_more (at s.current m) s.counted v (omega (arith, e)) (facts.counted m)) m);
    fresh = λ m w l. facts.fresh m w (omega (arith, l, e));
    served = facts.served;
    settled = λ m. subst (λ o. SourceIs o (by m) (at s.served m)) (sym (at_with_row n row s.current m))
        (by_name (λ m b. SourceIs (if b then Some row else at s.current m) (by m) (at s.served m)) n (facts.fresh n v (omega (arith, e))) (λ m d. facts.settled m) m);
  }
    where
      row : Source
      row = record { version = v; text = text_or_none t; verdict = outstanding }
  edit_keeps same t e = facts
  edit_keeps (removed v) t e = record {
    counted = λ m. subst (λ o. IsCounted o v) (sym (at_without n s.current m))
        (by_name (λ m b. IsCounted (if b then None else at s.current m) v) n tt (λ m d. counted_more (at s.current m) s.counted v (omega (arith, e)) (facts.counted m)) m);
    fresh = λ m w l. facts.fresh m w (omega (arith, l, e));
    served = λ m. subst (λ o. IsGiven (by m) (entry_of o)) (sym (at_without n s.served m))
        (by_name (λ m b. IsGiven (by m) (entry_of (if b then None else at s.served m))) n tt (λ m d. facts.served m) m);
    settled = λ m. subst (λ o. SourceIs o (by m) (at (without n s.served) m)) (sym (at_without n s.current m))
        (subst (λ o. SourceIs (if same_name n m then None else at s.current m) (by m) o) (sym (at_without n s.served m))
        (by_name (λ m b. SourceIs (if b then None else at s.current m) (by m) (if b then None else at s.served m)) n refl (λ m d. facts.settled m) m));
  }
  edit_keeps (edit_refused w) t e = facts

  -- the version of a result that isn't late was counted, and never served
  abbrev pub Awaited : ResultAnswer → ℕ → Type 0
  Awaited (serve a) v = (by n v ≡ None) × (v ≤ s.counted)
  Awaited (refuse f) v = (by n v ≡ None) × (v ≤ s.counted)
  Awaited late v = ⊤

  pub grows : (answer : ResultAnswer) (v : ℕ) → Awaited answer v → (m : Name) (w : ℕ) (a : Analysis) → by m w ≡ Some a → given_too answer n v by m w ≡ Some a
  grows (serve x) v r m w a h = by_test (same_name n m && v == w) (λ e. let q = both_true (same_name n m) (v == w) e in sym h ∙ ap (λ k. by k w) (sym (same_true n m q.0)) ∙ ap (by n) (sym (eqb-true v w q.1)) ∙ r.0)
    where
      by_test : (b : Bool) → (b ≡ true → Some a ≡ None) → (if b then Some x else by m w) ≡ Some a
      by_test true f = absurd (false≢true (sym (ap is_some (f refl))))
      by_test false f = h
  grows (refuse f) v r m w a h = h
  grows late v r m w a h = h

  given_on : (answer : ResultAnswer) (v : ℕ) → Awaited answer v → (m : Name) (o : Option Entry) → IsGiven (by m) o → IsGiven (given_too answer n v by m) o
  given_on answer v r m None g = tt
  given_on answer v r m (Some e) g = grows answer v r m e.version e.analysis g

  source_on : (o : Option Source) (f g : ℕ → Option Analysis) (served : Option Serving) → ((w : ℕ) → f w ≡ g w) → SourceIs o f served → SourceIs o g served
  source_on None f g served e h = h
  source_on (Some x) f g served e h = by_verdict x.verdict h
    where
      by_verdict : (verdict : Verdict) → VerdictIs verdict x (f x.version) served → VerdictIs verdict x (g x.version) served
      by_verdict outstanding h = sym (e x.version) ∙ h
      by_verdict good h = h
      by_verdict (bad fault) h = sym (e x.version) ∙ h

  elsewhere : (a : Analysis) (v : ℕ) (m : Name) → same_name n m ≡ false → (w : ℕ) → by m w ≡ given_too (serve a) n v by m w
  elsewhere a v m d w = sym (ap (λ b. if b && v == w then Some a else by m w) d)

  later_fresh : (a : Analysis) (v : ℕ) → v ≤ s.counted → (m : Name) (w : ℕ) → s.counted < w → given_too (serve a) n v by m w ≡ None
  later_fresh a v l m w k = by_test (same_name n m && v == w) (λ e. eqb-true v w (both_true (same_name n m) (v == w) e).1)
    where
      by_test : (b : Bool) → (b ≡ true → v ≡ w) → (if b then Some a else by m w) ≡ None
      by_test true f = absurd (omega (arith, f refl, l, k))
      by_test false f = facts.fresh m w k

  result_keeps : (answer : ResultAnswer) (t : Text) (v : ℕ) → Awaited answer v → SourcesFacts (given_too answer n v by) (after_result answer n t v s)
  result_keeps (serve a) t v r = record {
    counted = λ m. subst (λ o. IsCounted o s.counted) (sym (at_with_row n row s.current m))
        (by_name (λ m b. IsCounted (if b then Some row else at s.current m) s.counted) n r.1 (λ m d. facts.counted m) m);
    fresh = later_fresh a v r.1;
    served = λ m. subst (λ o. IsGiven (given_too (serve a) n v by m) (entry_of o)) (sym (at_with_row n new s.served m))
        (by_name (λ m b. IsGiven (given_too (serve a) n v by m) (entry_of (if b then Some new else at s.served m))) n itself (λ m d. given_on (serve a) v r m (entry_of (at s.served m)) (facts.served m)) m);
    settled = λ m. subst (λ o. SourceIs o (given_too (serve a) n v by m) (at (with_row n new s.served) m)) (sym (at_with_row n row s.current m))
        (subst (λ o. SourceIs (if same_name n m then Some row else at s.current m) (given_too (serve a) n v by m) o) (sym (at_with_row n new s.served m))
        (by_name (λ m b. SourceIs (if b then Some row else at s.current m) (given_too (serve a) n v by m) (if b then Some new else at s.served m)) n (refl, refl) (λ m d. source_on (at s.current m) (by m) (given_too (serve a) n v by m) (at s.served m) (elsewhere a v m d) (facts.settled m)) m));
  }
    where
      row : Source
      row = record { version = v; text = t; verdict = good }

      new : Serving
      new = record { version = v; text = t; analysis = a }

      itself : (if same_name n n && v == v then Some a else by n v) ≡ Some a
      itself = ap (λ b. if b && v == v then Some a else by n v) (true_same n n refl) ∙ ap (λ b. if b then Some a else by n v) (eq-eqb v v refl)
  result_keeps (refuse f) t v r = record {
    counted = λ m. subst (λ o. IsCounted o s.counted) (sym (at_with_row n row s.current m))
        (by_name (λ m b. IsCounted (if b then Some row else at s.current m) s.counted) n r.1 (λ m d. facts.counted m) m);
    fresh = facts.fresh;
    served = facts.served;
    settled = λ m. subst (λ o. SourceIs o (by m) (at s.served m)) (sym (at_with_row n row s.current m))
        (by_name (λ m b. SourceIs (if b then Some row else at s.current m) (by m) (at s.served m)) n r.0 (λ m d. facts.settled m) m);
  }
    where
      row : Source
      row = record { version = v; text = t; verdict = bad f }
  result_keeps late t v r = facts

  awaited_is : (o : Option Source) (t : Text) (v : ℕ) → IsCounted o s.counted → SourceIs o (by n) (at s.served n) → is_awaited o t v ≡ true → (by n v ≡ None) × (v ≤ s.counted)
  awaited_is None t v c q h = absurd (false≢true h)
  awaited_is (Some x) t v c q h =
      let f = both_true ((x.version == v) && same_name x.text t) _ h in
      let e : x.version ≡ v = eqb-true x.version v (both_true (x.version == v) _ f.0).0 in
      (sym (ap (by n) e) ∙ by_verdict x.verdict f.1 q, omega (arith, e, c))
    where
      by_verdict : (verdict : Verdict) → is_outstanding verdict ≡ true → VerdictIs verdict x (by n x.version) (at s.served n) → by n x.version ≡ None
      by_verdict outstanding g h = h
      by_verdict good g h = absurd (false≢true g)
      by_verdict (bad fault) g h = absurd (false≢true g)

  answer_awaited : (o : Outcome) (t : Text) (v : ℕ) → Awaited (result_answer s n t o v) v
  answer_awaited o t v = by_test (is_awaited (at s.current n) t v) (awaited_is (at s.current n) t v (facts.counted n) (facts.settled n)) o
    where
      by_test : (b : Bool) → (b ≡ true → (by n v ≡ None) × (v ≤ s.counted)) → (o : Outcome) → Awaited (if b then answer_of o else late) v
      by_test true f (Good a) = f refl
      by_test true f (Bad fault) = f refl
      by_test false f o = tt

-- an edit or a result keeps the facts of the sources
pub sources_on : (by : Name → ℕ → Option Analysis) (s : Sources) (ch : Change) → SourcesFacts by s → SourcesFacts (given_after s by ch) (changed_by s ch)
sources_on by s (edit n t) facts = edit_keeps by s n facts (edit_answer s n t) t (answer_numbered (at s.current n) s t)
sources_on by s (result n t o v) facts = result_keeps by s n facts (result_answer s n t o v) t v (answer_awaited by s n facts o t v)

-- what was given stays given
pub given_on_change : (by : Name → ℕ → Option Analysis) (s : Sources) (ch : Change) → SourcesFacts by s → (m : Name) (w : ℕ) (a : Analysis) → by m w ≡ Some a → given_after s by ch m w ≡ Some a
given_on_change by s (edit n t) facts m w a h = h
given_on_change by s (result n t o v) facts m w a h = grows by s n facts (result_answer s n t o v) v (answer_awaited by s n facts o t v) m w a h

pub sources_facts : (past : List Change) → SourcesFacts (analysis_given past) (sources_after past)
sources_facts [] = record { counted = λ n. tt; fresh = λ n v l. refl; served = λ n. tt; settled = λ n. refl }
sources_facts (edit n t ∷ past) = sources_on (analysis_given past) (sources_after past) (edit n t) (sources_facts past)
sources_facts (result n t o v ∷ past) = sources_on (analysis_given past) (sources_after past) (result n t o v) (sources_facts past)

pub given_stays : (past : List Change) (ch : Change) (m : Name) (w : ℕ) (a : Analysis) → analysis_given past m w ≡ Some a → analysis_given (ch ∷ past) m w ≡ Some a
given_stays past (edit n t) m w a h = h
given_stays past (result n t o v) m w a h = given_on_change (analysis_given past) (sources_after past) (result n t o v) (sources_facts past) m w a h

-- a result that is served is of a version that wasn't served before
pub served_once : (past : List Change) (n : Name) (t : Text) (o : Outcome) (v : ℕ) (a : Analysis) → result_answer (sources_after past) n t o v ≡ serve a → analysis_given past n v ≡ None
served_once past n t o v a e = (subst (λ answer. Awaited (analysis_given past) (sources_after past) n (sources_facts past) answer v) e (answer_awaited (analysis_given past) (sources_after past) n (sources_facts past) o t v)).0
