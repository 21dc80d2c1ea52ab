-- Of a list of instances whose numbers differ at most one has the number k: what is done to each in turn is
-- done to that one once, or leaves it.
use Rattle.std.proofs.Common.{◌≡◌, ℕ, Bool, true, false, List, [], ◌∷◌, refl, ap, sym, ◌∙◌}
use Rattle.std.specs.Prelude.{filter, cond, ◌==◌, Option, Some, None, is_some, if◌then◌else◌}
use Rattle.std.proofs.Math.Path.{subst}
use Rattle.std.proofs.lemmas.Bool.{false≢true, eqb-true}
use Rattle.std.proofs.lemmas.Option.{same_Some}
use Rattle.client_model.specs.Instance.{Instance, numbered}
use Rattle.client_model.specs.Runtime.{Runtime, Did, for_each}
use Rattle.journal_laws.proofs.HandlerShapes.{Shape, Word, Quiet, quiet_then, Takes, takes_then, quiet_takes}
use Rattle.journal_laws.proofs.Numbers.{Apart}

-- Some of them.

module _ (q : Instance → Bool) where
  pub none_filtered : (is : List Instance) (k : ℕ) → numbered is k ≡ None → numbered (filter q is) k ≡ None
  none_filtered [] k e = refl
  none_filtered (i ∷ is) k e = by (q i) (i.number == k) refl (none_filtered is k) e
    where
      by : (b c : Bool) → (i.number == k) ≡ c → (numbered is k ≡ None → numbered (filter q is) k ≡ None) → cond c (Some i) (numbered is k) ≡ None → numbered (cond b (i ∷ filter q is) (filter q is)) k ≡ None
      by b true f rest e = absurd (false≢true (sym (ap is_some e)))
      by true false f rest e = ap (λ c. cond c (Some i) (numbered (filter q is) k)) f ∙ rest e
      by false false f rest e = rest e

  pub apart_filtered : (is : List Instance) → Apart is → Apart (filter q is)
  apart_filtered [] a = tt
  apart_filtered (i ∷ is) a = by (q i) (none_filtered is i.number a.0) (apart_filtered is a.1)
    where
      by : (b : Bool) → numbered (filter q is) i.number ≡ None → Apart (filter q is) → Apart (cond b (i ∷ filter q is) (filter q is))
      by true e rest = (e, rest)
      by false e rest = rest

  abbrev pub keep_if : Option Instance → Option Instance
  keep_if None = None
  keep_if (Some i) = if q i then Some i else None

  pub numbered_filtered : (is : List Instance) → Apart is → (k : ℕ) → numbered (filter q is) k ≡ keep_if (numbered is k)
  numbered_filtered [] a k = refl
  numbered_filtered (i ∷ is) a k = by (q i) (i.number == k) refl refl (numbered_filtered is a.1 k)
    where
      by : (b c : Bool) → q i ≡ b → (i.number == k) ≡ c → numbered (filter q is) k ≡ keep_if (numbered is k) → numbered (cond b (i ∷ filter q is) (filter q is)) k ≡ keep_if (cond c (Some i) (numbered is k))
      by true true e f rest = ap (λ c. cond c (Some i) (numbered (filter q is) k)) f ∙ ap (λ b. if b then Some i else None) (sym e)
      by true false e f rest = ap (λ c. cond c (Some i) (numbered (filter q is) k)) f ∙ rest
      by false true e f rest = none_filtered is k (ap (numbered is) (sym (eqb-true i.number k f)) ∙ a.0) ∙ ap (λ b. if b then Some i else None) (sym e)
      by false false e f rest = rest

-- Acts on each.

module _ (k : ℕ) (act : Instance → Runtime → Did) (quiet : (i : Instance) (s : Runtime) → (i.number == k) ≡ false → Quiet k s (act i s)) where
  pub each_none : (is : List Instance) → numbered is k ≡ None → (s : Runtime) → Quiet k s (for_each act is s)
  each_none [] e s = record { shapes = refl; words = refl }
  each_none (i ∷ is) e s = by (i.number == k) refl (each_none is) e
    where
      by : (b : Bool) → (i.number == k) ≡ b → (numbered is k ≡ None → (t : Runtime) → Quiet k t (for_each act is t)) → cond b (Some i) (numbered is k) ≡ None → Quiet k s (for_each act (i ∷ is) s)
      by true f rest e = absurd (false≢true (sym (ap is_some e)))
      by false f rest e = quiet_then k s (act i s) (for_each act is) (quiet i s f) (rest e)

  pub each_one : (A B : Option Shape → List Word → Type 0) (is : List Instance) → Apart is → (i : Instance) → numbered is k ≡ Some i → ((s : Runtime) → Takes k A B s (act i s)) → (s : Runtime) → Takes k A B s (for_each act is s)
  each_one A B [] a i e here s = absurd (false≢true (ap is_some e))
  each_one A B (j ∷ is) a i e here s = by (j.number == k) refl (λ f. each_one A B is a.1 i f here) e
    where
      by : (b : Bool) → (j.number == k) ≡ b → (numbered is k ≡ Some i → (t : Runtime) → Takes k A B t (for_each act is t)) → cond b (Some j) (numbered is k) ≡ Some i → Takes k A B s (for_each act (j ∷ is) s)
      by true f rest e = takes_then k A B B s (act j s) (for_each act is) (first (same_Some j i e)) (λ t. quiet_takes k B t (for_each act is t) (each_none is (ap (numbered is) (sym (eqb-true j.number k f)) ∙ a.0) t))
        where
          first : j ≡ i → Takes k A B s (act j s)
          first same = subst (λ x. Takes k A B s (act x s)) (sym same) (here s)
      by false f rest e = takes_then k A A B s (act j s) (for_each act is) (quiet_takes k A s (act j s) (quiet j s f)) (rest e)
