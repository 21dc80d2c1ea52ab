-- Versions of the code are those of the model, so they stay those of counted edits.
use Rattle.std.proofs.Common.{ℕ, zero, suc, List, [], ◌∷◌, sym, map}
use Rattle.std.specs.Prelude.{Option, Some, None, IfSome, slice_get}
use Rattle.std.specs.List.{All}
use Rattle.std.proofs.Math.Path.{subst}
use Rattle.std.proofs.lemmas.List.Elements.{All-cons, All-head, All-nil, All-tail}
use Rattle.update_msgs.specs.Writable.{IsVersion}
use Rattle.client_model.specs.Instance as model
use Rattle.client_model.specs.Instance.{numbered}
use Rattle.client_model.specs.Runtime.{Runtime}
use Rattle.client_model.specs.Runtime as run
use Rattle.page_instances.specs.declared.instance.Instance.{Instance}
use Rattle.page_instances.specs.Scopes.{kept_at}
use Rattle.page_state.specs.declared.page.Page.{Page}
use Rattle.page_state.specs.declared.page.Invalidation.{Invalidation}
use Rattle.page_state.specs.Standing.{BothOrNone, StandsFor, invalidation_as}
use Rattle.live_instances.proofs.Counting.{IsCounted}

module _ {F : Type 0} where
  abbrev Fits : Instance F → Type 0
  Fits c = IsVersion c.version

  at_each : (cs : List (Instance F)) → All Fits cs → (k : ℕ) → IfSome (slice_get cs k) Fits
  at_each [] h k = tt
  at_each (c ∷ cs) h zero = All-head Fits c cs h
  at_each (c ∷ cs) h (suc k) = at_each cs (All-tail Fits c cs h) k

  from_each : (cs : List (Instance F)) → ((k : ℕ) → IfSome (slice_get cs k) Fits) → All Fits cs
  from_each [] h = All-nil Fits
  from_each (c ∷ cs) h = All-cons Fits c cs (h zero) (from_each cs (λ k. h (suc k)))

  kept_fits : (cs : List (Instance F)) → All Fits cs → (k : ℕ) → IfSome (kept_at cs k) Fits
  kept_fits cs h zero = tt
  kept_fits cs h (suc k) = at_each cs h k

  over : (o : Option model.Instance) (m : Option (Instance F)) → BothOrNone o m → IfSome m Fits → IfSome o (λ i. IsVersion i.version)
  over None m b h = tt
  over (Some i) None b h = absurd b
  over (Some i) (Some c) b h = subst IsVersion (sym b.version) h

  back : (o : Option model.Instance) (m : Option (Instance F)) → BothOrNone o m → IfSome o (λ i. IsVersion i.version) → IfSome m Fits
  back o None b h = tt
  back None (Some c) b h = absurd b
  back (Some i) (Some c) b h = subst IsVersion b.version h

all_as : (xs : List Invalidation) → All (λ (i : Invalidation). IsVersion i.version) xs → All (λ (i : run.Invalidation). IsVersion i.version) (map invalidation_as xs)
all_as [] h = All-nil (λ (i : run.Invalidation). IsVersion i.version)
all_as (x ∷ xs) h = All-cons (λ (i : run.Invalidation). IsVersion i.version) (invalidation_as x) (map invalidation_as xs) (All-head (λ (i : Invalidation). IsVersion i.version) x xs h) (all_as xs (All-tail (λ (i : Invalidation). IsVersion i.version) x xs h))

all_back : (xs : List Invalidation) → All (λ (i : run.Invalidation). IsVersion i.version) (map invalidation_as xs) → All (λ (i : Invalidation). IsVersion i.version) xs
all_back [] h = All-nil (λ (i : Invalidation). IsVersion i.version)
all_back (x ∷ xs) h = All-cons (λ (i : Invalidation). IsVersion i.version) x xs (All-head (λ (i : run.Invalidation). IsVersion i.version) (invalidation_as x) (map invalidation_as xs) h) (all_back xs (All-tail (λ (i : run.Invalidation). IsVersion i.version) (invalidation_as x) (map invalidation_as xs) h))

-- what is counted of a page is counted of the runtime that it stands for, and the other way round
pub counted_of : {F : Type 0} (r : Runtime) (p : Page F) → StandsFor r p → All (λ c. IsVersion c.version) p.instances.items → All (λ (i : Invalidation). IsVersion i.version) p.unsent.items → IsCounted r
counted_of r p s versions unsent = record {
  versions = λ k. over (numbered r.instances k) (kept_at p.instances.items k) (s.instances.by_number k) (kept_fits p.instances.items versions k);
  unsent = subst (All (λ (i : run.Invalidation). IsVersion i.version)) (sym s.unsent) (all_as p.unsent.items unsent);
}

pub versions_of : {F : Type 0} (r : Runtime) (p : Page F) → StandsFor r p → IsCounted r → All (λ c. IsVersion c.version) p.instances.items
versions_of r p s c = from_each p.instances.items (λ k. back (numbered r.instances (suc k)) (kept_at p.instances.items (suc k)) (s.instances.by_number (suc k)) (c.versions (suc k)))

pub unsent_of : {F : Type 0} (r : Runtime) (p : Page F) → StandsFor r p → IsCounted r → All (λ (i : Invalidation). IsVersion i.version) p.unsent.items
unsent_of r p s c = all_back p.unsent.items (subst (All (λ (i : run.Invalidation). IsVersion i.version)) s.unsent c.unsent)
