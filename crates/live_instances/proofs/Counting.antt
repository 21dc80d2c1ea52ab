-- Versions of counted edits: runs of handlers leave instances theirs, and what is invalidated has that of a
-- live instance.
use Rattle.std.proofs.Common.{◌≡◌, ℕ, Bool, true, false, List, [], ◌∷◌, refl, ap, sym, ◌∙◌}
use Rattle.std.specs.Prelude.{◌==◌, map, Option, Some, None, IfSome, is_some, option_map, slice_get}
use Rattle.std.specs.List.{All}
use Rattle.std.proofs.Math.Path.{subst}
use Rattle.std.proofs.lemmas.Bool.{eqb-true, false≢true}
use Rattle.std.proofs.lemmas.Option.{none-some, same_Some}
use Rattle.std.proofs.lemmas.List.Elements.{All-append, All-cons, All-nil}
use Rattle.output_lines.specs.declared.words.FaultPlace.{FaultPlace}
use Rattle.update_msgs.specs.Writable.{IsVersion}
use Rattle.core_model.specs.Names.{Name}
use Rattle.core_model.specs.Sources.{Text}
use Rattle.client_model.specs.Language.{Language, Slots, Ran}
use Rattle.client_model.specs.Instance.{Instance, Handler, numbered, live_at, places_of, with_change}
use Rattle.client_model.specs.Linking.{number_in}
use Rattle.client_model.specs.Runtime.{Runtime, Invalidation, for_each, bag_of}
use Rattle.client_model.specs.Running.{after_run, did_run, invalidation, run_deed, run_each, run_handler, run_of, scope_of, version_in}
use Rattle.live_instances.specs.Orderly.{Orderly}
use Rattle.live_instances.proofs.Order.{Quiet, changed_elsewhere, changed_here, live_numbered, quiet_number, quiet_order}

-- each instance and each invalidation has the version of a counted edit
pub record IsCounted (r : Runtime) : Type 0 where
  pub versions : (k : ℕ) → IfSome (numbered r.instances k) (λ i. IsVersion i.version)
  pub unsent : All (λ (i : Invalidation). IsVersion i.version) r.unsent

-- the same names are live by the same numbers, and numbers stay those of their names
pub record IsQuiet (r s : Runtime) : Type 0 where
  pub orderly : Orderly r.instances → Orderly s.instances
  pub live : (n : Name) → number_in (live_at s.instances n) ≡ number_in (live_at r.instances n)
  pub names : (k : ℕ) → option_map (λ i. i.name) (numbered s.instances k) ≡ option_map (λ i. i.name) (numbered r.instances k)

pub quiet_none : (r : Runtime) → IsQuiet r r
quiet_none r = record { orderly = λ h. h; live = λ n. refl; names = λ k. refl }

pub quiet_then : (r s t : Runtime) → IsQuiet r s → IsQuiet s t → IsQuiet r t
quiet_then r s t q p = record { orderly = λ h. p.orderly (q.orderly h); live = λ n. p.live n ∙ q.live n; names = λ k. p.names k ∙ q.names k }

-- what holds of the one of a number holds after a change that keeps it
pub some_kept : (P : Instance → Type 0) (f : Instance → Instance) → ((i : Instance) → (f i).number ≡ i.number) → ((i : Instance) → P i → P (f i)) → (m : ℕ) (is : List Instance) → ((k : ℕ) → IfSome (numbered is k) P) → (k : ℕ) → IfSome (numbered (with_change m f is) k) P
some_kept P f same keeps m is h k = by (m == k) refl
  where
    here : (o : Option Instance) → IfSome o P → IfSome (option_map f o) P
    here None t = tt
    here (Some i) t = keeps i t

    by : (b : Bool) → (m == k) ≡ b → IfSome (numbered (with_change m f is) k) P
    by true e = subst (λ j. IfSome (numbered (with_change j f is) k) P) (sym (eqb-true m k e)) (subst (λ o. IfSome o P) (sym (changed_here f same k is)) (here (numbered is k) (h k)))
    by false e = subst (λ o. IfSome o P) (sym (changed_elsewhere f same k m e is)) (h k)

-- names stay those of their numbers
pub names_kept : (f : Instance → Instance) → ((i : Instance) → (f i).number ≡ i.number) → ((i : Instance) → (f i).name ≡ i.name) → (m : ℕ) (is : List Instance) (k : ℕ) → option_map (λ i. i.name) (numbered (with_change m f is) k) ≡ option_map (λ i. i.name) (numbered is k)
names_kept f same named m is k = by (m == k) refl
  where
    here : (o : Option Instance) → option_map (λ i. i.name) (option_map f o) ≡ option_map (λ i. i.name) o
    here None = refl
    here (Some i) = ap Some (named i)

    by : (b : Bool) → (m == k) ≡ b → option_map (λ i. i.name) (numbered (with_change m f is) k) ≡ option_map (λ i. i.name) (numbered is k)
    by true e = ap (λ j. option_map (λ i. i.name) (numbered (with_change j f is) k)) (eqb-true m k e) ∙ ap (option_map (λ i. i.name)) (changed_here f same k is) ∙ here (numbered is k)
    by false e = ap (option_map (λ i. i.name)) (changed_elsewhere f same k m e is)

-- the version of a live one
live_version : (r : Runtime) → IsCounted r → Orderly r.instances → (n : Name) → is_some (number_in (live_at r.instances n)) ≡ true → IsVersion (version_in (live_at r.instances n))
live_version r c orderly n live = by (live_at r.instances n) refl live
  where
    by : (o : Option Instance) → live_at r.instances n ≡ o → is_some (number_in o) ≡ true → IsVersion (version_in o)
    by None e t = absurd (false≢true t)
    by (Some i) e t = subst (λ o. IfSome o (λ j. IsVersion j.version)) (live_numbered n r.instances orderly.numbers i e) (c.versions i.number)

all_invalid : (r : Runtime) (n : Name) → IsVersion (version_in (live_at r.instances n)) → (texts : List Text) → All (λ (i : Invalidation). IsVersion i.version) (map (invalidation r n) texts)
all_invalid r n v [] = All-nil (λ (i : Invalidation). IsVersion i.version)
all_invalid r n v (t ∷ texts) = All-cons (λ (i : Invalidation). IsVersion i.version) (invalidation r n t) (map (invalidation r n) texts) v (all_invalid r n v texts)

-- what a run of a handler leaves
pub record Runs (r s : Runtime) (n : Name) : Type 0 where
  pub quiet : IsQuiet r s
  pub counted : IsCounted r → Orderly r.instances → is_some (number_in (live_at r.instances n)) ≡ true → IsCounted s

run_quiet : (spot : ℕ) (h : Handler) (left : Ran) → Quiet (after_run spot h.kind left)
run_quiet spot h left = record { number = λ i. refl; name = λ i. refl; fate = λ i. refl }

none_run : (r : Runtime) (n : Name) → Runs r r n
none_run r n = record { quiet = quiet_none r; counted = λ c orderly live. c }

one_run : (at : FaultPlace) (i : Instance) (spot : ℕ) (h : Handler) (left : Ran) (r : Runtime) → Runs r (did_run at i spot h left r).0 i.name
one_run at i spot h left r = record {
  quiet = record {
    orderly = quiet_order i.number (after_run spot h.kind left) (run_quiet spot h left) r.instances;
    live = λ n. quiet_number i.number (after_run spot h.kind left) (run_quiet spot h left) n r.instances;
    names = λ k. names_kept (after_run spot h.kind left) (λ j. refl) (λ j. refl) i.number r.instances k;
  };
  counted = λ c orderly live. record {
    versions = some_kept (λ j. IsVersion j.version) (after_run spot h.kind left) (λ j. refl) (λ j v. v) i.number r.instances c.versions;
    unsent = All-append (λ (j : Invalidation). IsVersion j.version) r.unsent (map (invalidation r i.name) left.invalidations) c.unsent (all_invalid r i.name (live_version r c orderly i.name live) left.invalidations);
  };
}

pub runs_then : (r s t : Runtime) (n : Name) → Runs r s n → Runs s t n → Runs r t n
runs_then r s t n f g = record {
  quiet = quiet_then r s t f.quiet g.quiet;
  counted = λ c orderly live. g.counted (f.counted c orderly live) (f.quiet.orderly orderly) (ap is_some (f.quiet.live n) ∙ live);
}

-- the handlers of the one of a number, which has this name
module _ (language : Language) (at : FaultPlace) (arguments : Runtime → Handler → List (Option Slots)) (k : ℕ) (n : Name) where
  abbrev Named : Runtime → Type 0
  Named r = IfSome (numbered r.instances k) (λ i. i.name ≡ n)

  named_on : (a b : Option Instance) → option_map (λ i. i.name) b ≡ option_map (λ i. i.name) a → IfSome a (λ i. i.name ≡ n) → IfSome b (λ i. i.name ≡ n)
  named_on a None e h = tt
  named_on None (Some j) e h = absurd (none-some j.name (sym e))
  named_on (Some i) (Some j) e h = same_Some _ _ e ∙ h

  run_one : (spot : ℕ) (r : Runtime) → Named r → Runs r (run_of language at arguments (numbered r.instances k) spot r).0 n
  run_one spot r named = by (numbered r.instances k) named
    where
      at_spot : (i : Instance) → i.name ≡ n → (h : Option Handler) → Runs r (run_handler language at arguments i spot h r).0 n
      at_spot i e None = none_run r n
      at_spot i e (Some h) = subst (Runs r (did_run at i spot h (run_deed language h.deed (scope_of language r i) (arguments r h) (bag_of r i.name)) r).0) e
          (one_run at i spot h (run_deed language h.deed (scope_of language r i) (arguments r h) (bag_of r i.name)) r)

      by : (o : Option Instance) → IfSome o (λ i. i.name ≡ n) → Runs r (run_of language at arguments o spot r).0 n
      by None t = none_run r n
      by (Some i) t = at_spot i t (slice_get i.handlers spot)

  run_many : (spots : List ℕ) (r : Runtime) → Named r → Runs r (for_each (λ spot r. run_of language at arguments (numbered r.instances k) spot r) spots r).0 n
  run_many [] r named = none_run r n
  run_many (spot ∷ spots) r named =
      let one : Runs r (run_of language at arguments (numbered r.instances k) spot r).0 n = run_one spot r named in
      runs_then r (run_of language at arguments (numbered r.instances k) spot r).0 (for_each (λ spot r. run_of language at arguments (numbered r.instances k) spot r) (spot ∷ spots) r).0 n one
      (run_many spots (run_of language at arguments (numbered r.instances k) spot r).0 (named_on (numbered r.instances k) (numbered (run_of language at arguments (numbered r.instances k) spot r).0.instances k) (one.quiet.names k) named))

  -- runs of handlers keep what is live, and versions counted
  pub run_counts : (test : Handler → Bool) (r : Runtime) → Named r → Runs r (run_each language at arguments test k r).0 n
  run_counts test r named = run_many (places_of test (numbered r.instances k)) r named
