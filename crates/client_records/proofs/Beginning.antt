-- What a plan that begins makes of what is kept.
use Rattle.std.proofs.Common.{◌≡◌, List, [], ◌∷◌, refl, ap, sym}
use Rattle.std.specs.Prelude.{◌&&◌, Some, IfSome}
use Rattle.std.proofs.Math.Path.{subst}
use Rattle.std.specs.Cmp.Lexicographic.{slice_cmp}
use Rattle.std.specs.Ordering.{nat_cmp, is_lt}
use Rattle.hmr_types.specs.declared.words.PlanKind.{PlanKind}
use Rattle.core_model.specs.Names.{Name, rising}
use Rattle.core_model.specs.Page.{Plan, new_plan}
use Rattle.core_model.specs.Sources.{Sources}
use Rattle.core_model.specs.Client.{Client, next_batch}
use Rattle.core_model.specs.Asking.{begins, counted}
use Rattle.update_msgs.specs.Names.{rise}
use Rattle.page_plan.specs.Plans.{IsSamePlan}
use Rattle.client_records.specs.Inside.{AreFetched, IsCounted}
use Rattle.client_records.specs.Record.{Kept, IsRecord}

-- a plan begins
pub begin_stands : (s : Sources) (c : Client) (k new : Kept) (kind : PlanKind) (replaced : List Name) → IsRecord s c k → new ≡ record k { plan = Some (new_plan kind replaced); plan_at = s.served_no } → IsRecord s (begins kind replaced s c) new
begin_stands s c k new kind replaced h e = rw e (record {
  roots = h.roots;
  batches = h.batches;
  loaded = h.loaded;
  view = h.view;
  forced = h.forced;
  plan = record { kind = refl; replaced = λ n. refl; staged = λ n. refl };
  plan_at = refl;
  held = h.held;
  notices = h.notices;
  dropped = h.dropped;
  marks = h.marks;
})

-- a plan begins that is counted
pub counted_stands : (s : Sources) (c : Client) (k new : Kept) (kind : PlanKind) (replaced : List Name) → IsRecord s c k → new ≡ record k { batches = next_batch k.batches; plan = Some (new_plan kind replaced); plan_at = s.served_no } → IsRecord s (begins kind replaced s (counted c)) new
counted_stands s c k new kind replaced h e = rw e (record {
  roots = h.roots;
  batches = ap next_batch h.batches;
  loaded = h.loaded;
  view = h.view;
  forced = h.forced;
  plan = record { kind = refl; replaced = λ n. refl; staged = λ n. refl };
  plan_at = refl;
  held = h.held;
  notices = h.notices;
  dropped = h.dropped;
  marks = h.marks;
})

-- a plan begins that is counted, and that is this one but for the order of its lists
pub updated_stands : (s : Sources) (c : Client) (k new : Kept) (kind : PlanKind) (replaced : List Name) (plan : Plan) → IsRecord s c k → IsSamePlan (new_plan kind replaced) plan → new ≡ record k { batches = next_batch k.batches; plan = Some plan; plan_at = s.served_no } → IsRecord s (begins kind replaced s (counted c)) new
updated_stands s c k new kind replaced plan h same e = rw e (record {
  roots = h.roots;
  batches = ap next_batch h.batches;
  loaded = h.loaded;
  view = h.view;
  forced = h.forced;
  plan = same;
  plan_at = refl;
  held = h.held;
  notices = h.notices;
  dropped = h.dropped;
  marks = h.marks;
})

-- nothing was fetched for a plan that begins
pub none_fetched : (kind : PlanKind) (replaced : List Name) (plan : Plan) → IsSamePlan (new_plan kind replaced) plan → AreFetched plan.staged
none_fetched kind replaced plan same n = subst (λ o. IfSome o IsCounted) (sym (same.staged n)) tt

-- names that rise, as messages say it
pub rises_as : (names : List Name) → rise names ≡ rising names
rises_as [] = refl
rises_as (n ∷ []) = refl
rises_as (n ∷ (m ∷ names)) = ap (λ b. is_lt (slice_cmp nat_cmp n m) && b) (rises_as (m ∷ names))
