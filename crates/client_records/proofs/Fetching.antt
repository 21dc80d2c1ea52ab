-- What a Fetch makes of what is kept: a served text is staged for the plan.
use Rattle.std.proofs.Common.{◌≡◌, ℕ, Bool, true, false, refl, sym}
use Rattle.std.specs.Prelude.{Option, Some, None, if◌then◌else◌, Result, OnOk, IfSome}
use Rattle.std.proofs.lemmas.Result.{on_ok_weaker}
use Rattle.std.proofs.Math.Path.{subst}
use Rattle.core_model.specs.Names.{Name, same_name, at}
use Rattle.core_model.specs.Page.{Plan}
use Rattle.core_model.specs.Sources.{Sources}
use Rattle.core_model.specs.View.{View, Entry}
use Rattle.core_model.specs.Client.{Client}
use Rattle.core_model.specs.Requests.{FetchRow, text, not_yet, broken, missing, fetch, fetch_row, fetch_reply, fetched, fetched_in, heard}
use Rattle.module_graph.specs.Entries.{put_entry}
use Rattle.client_records.specs.Inside.{AreFetched, IsCounted}
use Rattle.page_plan.specs.Plans.{IsSamePlan}
use Rattle.page_plan.proofs.Making.{at_put}
use Rattle.client_records.specs.Record.{Kept, IsPlan, IsRecord}
use Rattle.client_records.specs.Steps.{fetched_plan}

pub counted_step : (e : Entry) (o : Option Entry) (same : Bool) → IsCounted e → IfSome o IsCounted → IfSome (if same then Some e else o) IsCounted
counted_step e o true p h = p
counted_step e o false p h = h

-- versions of counted edits, and one more
pub counted_put : (n : Name) (e : Entry) (view : View) → IsCounted e → AreFetched view → AreFetched (put_entry n e view)
counted_put n e view p h m = subst (λ o. IfSome o IsCounted) (sym (at_put n e view m)) (counted_step e (at view m) (same_name n m) p (h m))

-- what is kept, with another plan
pub with_plan : (s : Sources) (c : Client) (k : Kept) (q : Plan) → IsRecord s c k → IsPlan c.page.plan (Some q) → IsRecord s c (record k { plan = Some q })
with_plan s c k q h m = record { roots = h.roots; batches = h.batches; loaded = h.loaded; view = h.view; forced = h.forced; plan = m; plan_at = h.plan_at; held = h.held; notices = h.notices; dropped = h.dropped; marks = h.marks }

kept_plan : (s : Sources) (c : Client) (k : Kept) (p q : Plan) → IsRecord s c k → c.page.plan ≡ Some p → IsSamePlan p q → IsRecord s c (record k { plan = Some q })
kept_plan s c k p q h e m = with_plan s c k q h (subst (λ o. IsPlan o (Some q)) (sym e) m)

row_stands : (s : Sources) (c : Client) (k : Kept) (n : Name) (p q : Plan) (row : FetchRow) → IsRecord s c k → c.page.plan ≡ Some p → IsSamePlan (fetched_plan row n p) q → IsRecord s (fetched row p n c) (record k { plan = Some q })
row_stands s c k n p q (text v) h e m = record { roots = h.roots; batches = h.batches; loaded = h.loaded; view = h.view; forced = h.forced; plan = m; plan_at = h.plan_at; held = h.held; notices = h.notices; dropped = h.dropped; marks = h.marks }
row_stands s c k n p q not_yet h e m = kept_plan s c k p q h e m
row_stands s c k n p q (broken f) h e m = kept_plan s c k p q h e m
row_stands s c k n p q missing h e m = kept_plan s c k p q h e m

-- where the plan is as the Fetch leaves it, the record is
pub fetch_stands : {A E : Type 0} (i : ℕ) (s : Sources) (c : Client) (k : Kept) (n : Name) (old new : Plan) (r : Result A E) → IsRecord s c k → k.plan ≡ Some old
    → ((p : Plan) → IsSamePlan p old → OnOk r (IsSamePlan (fetched_plan (fetch_row s n) n p) new)) → OnOk r (IsRecord s (heard i s c (fetch n)).0 (record k { plan = Some new }))
fetch_stands {A = A} {E = E} i s c k n old new r h e f = go c.page.plan refl (subst (IsPlan c.page.plan) e h.plan)
  where
    go : (o : Option Plan) → c.page.plan ≡ o → IsPlan o (Some old) → OnOk r (IsRecord s (fetched_in o s n c).0 (record k { plan = Some new }))
    go None is m = absurd m
    go (Some p) is m = on_ok_weaker r (row_stands s c k n p new (fetch_row s n) h is) (f p m)

-- and the reply is that of its row
pub fetch_answers : (i : ℕ) (s : Sources) (c : Client) (k : Kept) (n : Name) (old : Plan) → IsRecord s c k → k.plan ≡ Some old → fetch_reply (fetch_row s n) n ≡ (heard i s c (fetch n)).1
fetch_answers i s c k n old h e = go c.page.plan (subst (IsPlan c.page.plan) e h.plan)
  where
    go : (o : Option Plan) → IsPlan o (Some old) → fetch_reply (fetch_row s n) n ≡ (fetched_in o s n c).1
    go None m = absurd m
    go (Some p) m = refl
