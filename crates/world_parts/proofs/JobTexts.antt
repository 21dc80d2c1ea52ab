-- The text of a job that is under way.
use Rattle.std.proofs.Common.{◌≡◌, ℕ, Bool, true, false, cond, List, [], ◌∷◌, refl, sym, ap}
use Rattle.std.specs.Prelude.{Option, Some, None, find, is_some, option_map, unwrap_or}
use Rattle.std.proofs.Math.Path.{subst}
use Rattle.std.proofs.lemmas.Bool.{false≢true}
use Rattle.core_model.specs.Sources.{Text}
use Rattle.world_model.specs.World.{Job}
use Rattle.world_parts.specs.Jobs.{IsIssued, AreIssued}

-- the job that is found has this text
pub record HasText (test : Job → Bool) (jobs : List Job) (t : Text) : Type 0 where
  pub j : Job
  pub found : find test jobs ≡ Some j
  pub text : j.text ≡ t

text_by : (test : Job → Bool) (jobs : List Job) (t : Text) (o : Option Job) → find test jobs ≡ o → Some t ≡ option_map (λ (j : Job). j.text) o → HasText test jobs t
text_by test jobs t None e k = absurd (false≢true (sym (ap is_some k)))
text_by test jobs t (Some j) e k = record { j = j; found = e; text = sym (ap (λ o. unwrap_or o t) k) }

pub text_found : (test : Job → Bool) (jobs : List Job) (t : Text) → Some t ≡ option_map (λ (j : Job). j.text) (find test jobs) → HasText test jobs t
text_found test jobs t k = text_by test jobs t (find test jobs) refl k

pub none_by : (o : Option Job) → None ≡ option_map (λ (j : Job). j.text) o → o ≡ None
none_by None k = refl
none_by (Some j) k = absurd (false≢true (ap is_some k))

-- a job that is found is one that was issued
found_step : (counted : ℕ) (b : Bool) (x j : Job) (o : Option Job) → IsIssued counted x → (o ≡ Some j → IsIssued counted j) → cond b (Some x) o ≡ Some j → IsIssued counted j
found_step counted true x j o h f e = subst (IsIssued counted) (ap (λ p. unwrap_or p x) e) h
found_step counted false x j o h f e = f e

pub found_issued : (counted : ℕ) (test : Job → Bool) (jobs : List Job) (j : Job) → AreIssued counted jobs → find test jobs ≡ Some j → IsIssued counted j
found_issued counted test [] j h e = absurd (false≢true (ap is_some e))
found_issued counted test (x ∷ xs) j h e = found_step counted (test x) x j (find test xs) h.0 (found_issued counted test xs j h.1) e
