-- What code reads of the instances of a page, and a bag that is taken and put back.
use Rattle.std.proofs.Common.{◌≡◌, ℕ, Bool, true, false, List, [], ◌∷◌, map, refl, ap, sym, ◌∙◌}
use Rattle.std.specs.Prelude.{Option, Some, None, if◌then◌else◌, bytes_eq}
use Rattle.core_model.specs.Names.{Name, at}
use Rattle.client_model.specs.Language.{Bag, slot_at}
use Rattle.client_model.specs.Instance as model
use Rattle.client_model.specs.Instance.{numbered}
use Rattle.client_model.specs.Runtime.{Runtime}
use Rattle.client_model.specs.Running.{export_by, export_in}
use Rattle.retained_data.specs.Bags as kept
use Rattle.page_instances.specs.declared.instance.Instance.{Instance}
use Rattle.page_instances.specs.declared.instance.Bound.{Bound}
use Rattle.page_instances.specs.Scopes.{kept_at, slot_in, slot_by, bound_slots}
use Rattle.page_instances.specs.Seeing.{binding_of}
use Rattle.page_state.specs.declared.page.Page.{Page}
use Rattle.page_state.specs.Standing.{BothOrNone, StandsFor}

module _ {F : Type 0} where
  export_seen : (o : Option model.Instance) (k : Option (Instance F)) (x : Name) → BothOrNone o k → slot_in k x ≡ export_in o x
  export_seen None None x b = refl
  export_seen None (Some c) x b = absurd b
  export_seen (Some i) None x b = absurd b
  export_seen (Some i) (Some c) x b = ap (λ vs. slot_at vs x) (sym b.values)

  export_by_seen : (r : Runtime) (p : Page F) → StandsFor r p → (number : Option ℕ) (x : Name) → slot_by number p.instances.items x ≡ export_by number r.instances x
  export_by_seen r p s None x = refl
  export_by_seen r p s (Some k) x = export_seen (numbered r.instances k) (kept_at p.instances.items k) x (s.instances.by_number k)

  pub bounds_seen : (r : Runtime) (p : Page F) → StandsFor r p → (links : List (Name × ℕ)) (bounds : List Bound)
      → bound_slots p.instances.items links bounds ≡ map (λ b. (b.local, export_by (at links b.dependency) r.instances b.exported)) (map binding_of bounds)
  bounds_seen r p s links [] = refl
  bounds_seen r p s links (b ∷ bounds) = ap (λ v. (b.local, v) ∷ bound_slots p.instances.items links bounds) (export_by_seen r p s (at links b.dependency) b.exported)
      ∙ ap (λ vs. (b.local, export_by (at links b.dependency) r.instances b.exported) ∷ vs) (bounds_seen r p s links bounds)

-- a bag that is taken and put back changed
pub bag_back : (n : Name) (bag : Bag) (a b c : kept.KeptBags) → kept.HasBag n [] a b → kept.HasBag n bag b c → kept.HasBag n bag a c
bag_back n bag a b c first second m = second m ∙ by (bytes_eq m n) (first m)
  where
    by : (e : Bool) → kept.bag_of b m ≡ (if e then [] else kept.bag_of a m) → (if e then bag else kept.bag_of b m) ≡ (if e then bag else kept.bag_of a m)
    by true h = refl
    by false h = h
