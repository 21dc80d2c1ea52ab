-- The page that a plan makes: what it has of a name, and at which version.
use Rattle.std.proofs.Common.{◌≡◌, Bool, true, false, List, refl, ap, sym, ◌∙◌}
use Rattle.std.specs.Prelude.{◌&&◌, not, filter, Option, Some, None, is_some, is_none, if◌then◌else◌}
use Rattle.std.proofs.lemmas.Bool.{false≢true}
use Rattle.std.proofs.lemmas.Option.{none-some}
use Rattle.hmr_types.specs.declared.words.PlanKind.{PlanKind}
use Rattle.hmr_types.specs.declared.words.PlanKind.TheVariants.{Load, Reload, Update}
use Rattle.update_msgs.specs.Writable.{IsVersion}
use Rattle.core_model.specs.Names.{Name, at, has}
use Rattle.core_model.specs.Page.{Plan, entry_at, kept_or_staged, met_of, new_entry, new_view, unmet_entry}
use Rattle.core_model.specs.View.{Entry, View}
use Rattle.core_model.proofs.Naming.{filtered_has, filtered_in, filtered_from, none_first, sorted_has}
use Rattle.core_model.proofs.Planning.{at_new}
use Rattle.client_model.specs.Linking.{is_kept, is_kept_kind, new_names, next_needed}
use Rattle.client_model.specs.Order.{evaluation_order, fetch_order}
use Rattle.client_model.specs.Runtime.{Runtime}
use Rattle.client_model.proofs.Walking.{orders_agree}
use Rattle.page_plan.specs.Plans.{IsSamePlan}
use Rattle.page_plan.proofs.Same.{left_met}
use Rattle.live_instances.specs.Counted.{AreCountedIn}
use Rattle.client_plan.specs.Planned.{AreCounted}

-- the walk leaves what is met
pub met_left : (roots : List Name) (p : Plan) (view : View) (n : Name) → has (met_of roots p view) n ≡ has (evaluation_order roots p view) n
met_left roots p view n = sym (sorted_has (met_of roots p view) n) ∙ ap (λ ns. has ns n) (sym (left_met roots p view)) ∙ sorted_has (evaluation_order roots p view) n

some_of : (o : Option Entry) → (is_none o ≡ true → false ≡ true) → is_some o ≡ true
some_of None f = f refl
some_of (Some e) f = refl

-- where nothing is needed each module of the walk has an entry
pub left_there : (p : Plan) (r : Runtime) → next_needed p r ≡ None → (n : Name) → has (evaluation_order r.roots p r.page.view) n ≡ true → is_some (entry_at p r.page.view n) ≡ true
left_there p r none n h = some_of (entry_at p r.page.view n)
    (λ e. ap (λ ns. has ns n) (sym (none_first (filter (λ m. is_none (entry_at p r.page.view m)) (fetch_order r.roots p r.page.view)) none))
    ∙ filtered_in (λ m. is_none (entry_at p r.page.view m)) (fetch_order r.roots p r.page.view) n e (orders_agree r.roots p r.page.view n ∙ h))

-- the new ones among them
new_left : (p : Plan) (r : Runtime) (n : Name) → has (new_names p r) n ≡ true → has (evaluation_order r.roots p r.page.view) n ≡ true
new_left p r n h = (filtered_from (λ m. not (is_kept p r.page.view m)) (evaluation_order r.roots p r.page.view) n h).1

pub new_there : (p : Plan) (r : Runtime) → next_needed p r ≡ None → (n : Name) → has (new_names p r) n ≡ true → is_some (entry_at p r.page.view n) ≡ true
new_there p r none n h = left_there p r none n (new_left p r n h)

-- so they are on the page
pub new_paged : (p : Plan) (r : Runtime) (n : Name) → is_some (entry_at p r.page.view n) ≡ true → has (new_names p r) n ≡ true → at (new_view r.roots p r.page.view) n ≡ None → false ≡ true
new_paged p r n some h none =
    ap is_some (sym none ∙ at_new r.roots p r.page.view n ∙ ap (λ b. new_entry b p r.page.view n) (met_left r.roots p r.page.view n ∙ new_left p r n h)) ∙ some

unpaged_step : (met replaced : Bool) (old staged : Option Entry) → (not (is_kept_kind Update replaced old) && met) ≡ false → (if met then kept_or_staged Update replaced old staged else old) ≡ None → old ≡ None
unpaged_step false replaced old staged h e = e
unpaged_step true true old staged h e = absurd (false≢true (sym h))
unpaged_step true false None staged h e = refl
unpaged_step true false (Some x) staged h e = absurd (none-some x (sym e))

-- what an update leaves neither new nor on the page wasn't on it
pub unpaged : (p : Plan) (r : Runtime) → p.kind ≡ Update → (n : Name) → has (new_names p r) n ≡ false → at (new_view r.roots p r.page.view) n ≡ None → at r.page.view n ≡ None
unpaged p r is n old none =
    let view : View = r.page.view in
    unpaged_step (has (evaluation_order r.roots p view) n) (has p.replaced n) (at view n) (at p.staged n)
    (ap (λ k. not (is_kept_kind k (has p.replaced n) (at view n)) && has (evaluation_order r.roots p view) n) (sym is) ∙ sym (filtered_has (λ m. not (is_kept p view m)) (evaluation_order r.roots p view) n) ∙ old)
    (ap (λ b. if b then kept_or_staged Update (has p.replaced n) (at view n) (at p.staged n) else at view n) (sym (met_left r.roots p view n))
    ∙ ap (λ k. if has (met_of r.roots p view) n then kept_or_staged k (has p.replaced n) (at view n) (at p.staged n) else unmet_entry k (at view n)) (sym is)
    ∙ sym (at_new r.roots p view n) ∙ none)

fresh_step : (replaced : Bool) (old : Option Entry) → not (is_kept_kind Update replaced old) ≡ true → replaced ≡ false → old ≡ None
fresh_step true old h e = absurd (false≢true (sym e))
fresh_step false None h e = refl
fresh_step false (Some x) h e = absurd (false≢true h)

-- what an update makes new and doesn't replace wasn't on the page
pub fresh_unpaged : (p : Plan) (r : Runtime) → p.kind ≡ Update → (n : Name) → has (new_names p r) n ≡ true → has p.replaced n ≡ false → at r.page.view n ≡ None
fresh_unpaged p r is n h old = fresh_step (has p.replaced n) (at r.page.view n)
    (ap (λ k. not (is_kept_kind k (has p.replaced n) (at r.page.view n))) (sym is) ∙ (filtered_from (λ m. not (is_kept p r.page.view m)) (evaluation_order r.roots p r.page.view) n h).0) old

-- versions
module _ (e : Entry) where
  counted_step : (k : PlanKind) (b : Bool) (old staged : Option Entry) → (old ≡ Some e → IsVersion e.version) → (staged ≡ Some e → IsVersion e.version) → kept_or_staged k b old staged ≡ Some e → IsVersion e.version
  counted_step Load b old staged f g h = g h
  counted_step Reload b old staged f g h = g h
  counted_step Update true old staged f g h = g h
  counted_step Update false None staged f g h = g h
  counted_step Update false (Some x) staged f g h = f h

  unmet_step : (k : PlanKind) (old : Option Entry) → (old ≡ Some e → IsVersion e.version) → unmet_entry k old ≡ Some e → IsVersion e.version
  unmet_step Load old f h = absurd (none-some e h)
  unmet_step Reload old f h = absurd (none-some e h)
  unmet_step Update old f h = f h

  new_step : (met : Bool) (p : Plan) (view : View) (n : Name) → (at view n ≡ Some e → IsVersion e.version) → (entry_at p view n ≡ Some e → IsVersion e.version) → new_entry met p view n ≡ Some e → IsVersion e.version
  new_step true p view n f g h = g h
  new_step false p view n f g h = unmet_step p.kind (at view n) f h

-- those of a plan's entries
pub entries_counted : (p q : Plan) (view : View) → IsSamePlan p q → AreCounted view → AreCounted q.staged → AreCountedIn p view
entries_counted p q view same old staged n e h = counted_step e p.kind (has p.replaced n) (at view n) (at p.staged n) (old n e) (λ s. staged n e (same.staged n ∙ s)) h

-- those of the page that it makes
pub page_counted : (roots : List Name) (p : Plan) (view : View) → AreCounted view → AreCountedIn p view → AreCounted (new_view roots p view)
page_counted roots p view old all n e h = new_step e (has (met_of roots p view) n) p view n (old n e) (all n e) (sym (at_new roots p view n) ∙ h)
