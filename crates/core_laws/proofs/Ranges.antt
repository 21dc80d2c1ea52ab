-- Each event keeps the ranges, and its reply can be written.
use Rattle.std.proofs.Common.{◌≡◌, ℕ, ◌+◌, ◌-◌, ◌≤◌, Bool, true, false, List, length, refl, sym, arith}
use Rattle.std.specs.Prelude.{◌==◌, ◌&&◌, not, nat_le, nat_lt, Option, Some, None, is_some, IfSome, if◌then◌else◌, ⊤}
use Rattle.std.proofs.Math.Path.{subst}
use Rattle.std.proofs.lemmas.Bool.{false≢true, eqb-true, leb-false, ltb-false}
use Rattle.hmr_types.specs.declared.limits.TheConstants.{TEXT_BYTES, SOURCE_NAMES, SOURCE_BYTES, LARGEST_NUMBER}
use Rattle.hmr_types.specs.declared.analysis.Outcome.{Outcome}
use Rattle.hmr_types.specs.declared.analysis.Outcome.TheVariants.{Good, Bad}
use Rattle.update_msgs.specs.Writable.{IsVersion}
use Rattle.core_model.specs.Names.{Name, same_name, at, without, with_row}
use Rattle.core_model.specs.Sources.{Text, Change, edit, result, outstanding, good, bad, Source, Sources, EditAnswer, job, same, removed, edit_refused, has_text, text_length, total_of, numbered, answer_for, edit_answer, text_or_none, after_edit, ResultAnswer, serve, refuse, late, is_outstanding, is_awaited, answer_of, result_answer, after_result, changed_by}
use Rattle.core_model.specs.Formed.{IsPlaced, IsFormedOutcome, IsFormedChange}
use Rattle.core_model.proofs.Naming.{same_true, both_true}
use Rattle.core_model.proofs.Tables.{at_without, at_with_row}
use Rattle.core_laws.specs.Ranges.{SourceFits, ServingFits, SourcesFit}

-- Rows looked up.

module _ {X : Type 0} (P : X → Type 0) where
  pub some_if : (b : Bool) (x y : Option X) → IfSome x P → IfSome y P → IfSome (if b then x else y) P
  some_if true x y p q = p
  some_if false x y p q = q

  pub row_fits : (n : Name) (x : X) (rows : List (Name × X)) → P x → ((m : Name) → IfSome (at rows m) P) → (m : Name) → IfSome (at (with_row n x rows) m) P
  row_fits n x rows p f m = subst (λ o. IfSome o P) (sym (at_with_row n x rows m)) (some_if (same_name n m) (Some x) (at rows m) p (f m))

  pub left_fits : (n : Name) (rows : List (Name × X)) → ((m : Name) → IfSome (at rows m) P) → (m : Name) → IfSome (at (without n rows) m) P
  left_fits n rows f m = subst (λ o. IfSome o P) (sym (at_without n rows m)) (some_if (same_name n m) None (at rows m) tt (f m))

-- Edits.

-- an edit that counts gets a number in range, and its text isn't too long
abbrev pub Fitting : Option Text → EditAnswer → Type 0
Fitting t (job v) = IsVersion v × (length (text_or_none t) ≤ TEXT_BYTES)
Fitting t same = ⊤
Fitting t (removed v) = IsVersion v
Fitting t (edit_refused w) = ⊤

fitting_if : (t : Option Text) (b : Bool) (x y : EditAnswer) → Fitting t x → (b ≡ false → Fitting t y) → Fitting t (if b then x else y)
fitting_if t true x y p q = p
fitting_if t false x y p q = q refl

next_fits : (counted : ℕ) → nat_le LARGEST_NUMBER counted ≡ false → IsVersion (counted + 1)
next_fits counted e = record { least = omega arith; most = low }
  where
    low : counted + 1 ≤ LARGEST_NUMBER
    low = omega (arith, leb-false LARGEST_NUMBER counted e)

short : (t : Text) → nat_lt TEXT_BYTES (length t) ≡ false → length t ≤ TEXT_BYTES
short t e = ltb-false TEXT_BYTES (length t) e

pub answer_fits : (old : Option Source) (s : Sources) (t : Option Text) → Fitting t (answer_for old s t)
answer_fits old s None = fitting_if None (is_some old) (numbered removed s.counted) same (fitting_if None (nat_le LARGEST_NUMBER s.counted) (edit_refused _) (removed (s.counted + 1)) tt (next_fits s.counted)) (λ e. tt)
answer_fits old s (Some t) = fitting_if (Some t) (nat_lt TEXT_BYTES (length t)) (edit_refused _) _ tt (λ low.
    fitting_if (Some t) (has_text old t) same _ tt (λ e.
    fitting_if (Some t) (not (is_some old) && nat_le SOURCE_NAMES (length s.current)) (edit_refused _) _ tt (λ f.
    fitting_if (Some t) (nat_lt SOURCE_BYTES ((total_of s - text_length old) + length t)) (edit_refused _) _ tt (λ g.
    fitting_if (Some t) (nat_le LARGEST_NUMBER s.counted) (edit_refused _) (job (s.counted + 1)) tt (λ h. (next_fits s.counted h, short t low))))))

edit_fits : (answer : EditAnswer) (n : Name) (t : Option Text) (s : Sources) → Fitting t answer → SourcesFit s → SourcesFit (after_edit answer n t s)
edit_fits (job v) n t s h f = record {
  counted = h.0.most;
  current = row_fits SourceFits n (record { version = v; text = text_or_none t; verdict = outstanding }) s.current (record { version = h.0; text = h.1; verdict = tt }) f.current;
  served = f.served;
}
edit_fits same n t s h f = f
edit_fits (removed v) n t s h f = record { counted = h.most; current = left_fits SourceFits n s.current f.current; served = left_fits ServingFits n s.served f.served }
edit_fits (edit_refused w) n t s h f = f

-- Results.

-- a result that isn't late is of a version and a text in range
abbrev pub Settling : Text → ℕ → ResultAnswer → Type 0
Settling t v (serve a) = IsVersion v × (length t ≤ TEXT_BYTES)
Settling t v (refuse f) = IsVersion v × (length t ≤ TEXT_BYTES) × IsPlaced f
Settling t v late = ⊤

pub awaited_fits : (o : Option Source) (t : Text) (v : ℕ) → IfSome o SourceFits → is_awaited o t v ≡ true → IsVersion v × (length t ≤ TEXT_BYTES)
awaited_fits None t v f h = absurd (false≢true h)
awaited_fits (Some x) t v f h =
    let q = both_true (x.version == v) (same_name x.text t) (both_true ((x.version == v) && same_name x.text t) (is_outstanding x.verdict) h).0 in
    (subst IsVersion (eqb-true x.version v q.0) f.version, subst (λ k. length k ≤ TEXT_BYTES) (same_true x.text t q.1) f.text)

pub settling : (o : Outcome) (t : Text) (v : ℕ) (b : Bool) → IsFormedOutcome o → (b ≡ true → IsVersion v × (length t ≤ TEXT_BYTES)) → Settling t v (if b then answer_of o else late)
settling (Good a) t v true w f = f refl
settling (Bad fault) t v true w f = ((f refl).0, (f refl).1, w)
settling o t v false w f = tt

result_fits : (answer : ResultAnswer) (n : Name) (t : Text) (v : ℕ) (s : Sources) → Settling t v answer → SourcesFit s → SourcesFit (after_result answer n t v s)
result_fits (serve a) n t v s h f = record {
  counted = f.counted;
  current = row_fits SourceFits n (record { version = v; text = t; verdict = good }) s.current (record { version = h.0; text = h.1; verdict = tt }) f.current;
  served = row_fits ServingFits n (record { version = v; text = t; analysis = a }) s.served (record { version = h.0; text = h.1 }) f.served;
}
result_fits (refuse fault) n t v s h f = record {
  counted = f.counted;
  current = row_fits SourceFits n (record { version = v; text = t; verdict = bad fault }) s.current (record { version = h.0; text = h.1; verdict = h.2 }) f.current;
  served = f.served;
}
result_fits late n t v s h f = f

-- an edit or a result keeps the sources in range
pub change_fits : (s : Sources) (ch : Change) → IsFormedChange ch → SourcesFit s → SourcesFit (changed_by s ch)
change_fits s (edit n t) w f = edit_fits (edit_answer s n t) n t s (answer_fits (at s.current n) s t) f
change_fits s (result n t o v) w f = result_fits (result_answer s n t o v) n t v s (settling o t v (is_awaited (at s.current n) t v) w.2 (awaited_fits (at s.current n) t v (f.current n))) f
