-- What a plan gives doesn't depend on the order of what is replaced and of what was fetched.
use Rattle.std.proofs.Common.{◌≡◌, ℕ, Bool, true, false, List, [], ◌++◌, refl, ap, sym, ◌∙◌}
use Rattle.std.specs.Prelude.{filter, not, ◌||◌, ◌&&◌, Option, Some, None, is_some, if◌then◌else◌}
use Rattle.std.proofs.lemmas.Bool.{false≢true}
use Rattle.hmr_types.specs.declared.words.PlanKind.{PlanKind}
use Rattle.core_model.specs.Names.{Name, same_name, has, at, names_of, with_row, sorted, collect}
use Rattle.core_model.specs.Paths.{Reaches}
use Rattle.core_model.proofs.Reaching.{reaches_within, reaches_start, reaches_on}
use Rattle.core_model.specs.View.{View, Entry, imports_of, table_of}
use Rattle.core_model.specs.Page.{Plan, kept_or_staged, entry_at, plan_imports, met_of, unfetched_of, unmet_entry, new_entry, new_view}
use Rattle.core_model.specs.Requests.{applied_row, differing, row_differing, row_unfetched}
use Rattle.core_model.proofs.Naming.{same_test, same_true, has_append, filtered_has}
use Rattle.core_model.proofs.Planning.{met_is}
use Rattle.core_model.proofs.Tables.{at_with_row}
use Rattle.client_model.specs.Order.{next_of, walked, evaluation_order}
use Rattle.client_model.proofs.Walking.{walk_is, orders_agree}
use Rattle.page_plan.specs.Plans.{IsSamePlan}
use Rattle.page_plan.specs.Walking.{start, KeptWalk, IsAt}
use Rattle.page_plan.proofs.Making.{same_sorted, collect_same}
use Rattle.page_plan.proofs.Walks as walks
use Rattle.page_plan.proofs.Walks.{state, one_end, whole_walk}
use Rattle.page_plan.proofs.Moments.{same_steps, at_other}

kinds_same : (kind : PlanKind) (a b : Bool) (kept s t : Option Entry) → a ≡ b → s ≡ t → kept_or_staged kind a kept s ≡ kept_or_staged kind b kept t
kinds_same kind a b kept s t e f = ap (λ c. kept_or_staged kind c kept s) e ∙ ap (kept_or_staged kind b kept) f

-- the same entries
pub entry_same : (p q : Plan) (view : View) → IsSamePlan p q → (n : Name) → entry_at p view n ≡ entry_at q view n
entry_same p q view s n =
    ap (λ k. kept_or_staged k (has p.replaced n) (at view n) (at p.staged n)) (sym s.kind)
    ∙ kinds_same q.kind (has p.replaced n) (has q.replaced n) (at view n) (at p.staged n) (at q.staged n) (sym (s.replaced n)) (sym (s.staged n))

reaches_same : (edge other : Name → Name → Bool) (roots : List Name) → ((n m : Name) → edge n m ≡ other n m) → (m : Name) → Reaches edge roots m → Reaches other roots m
reaches_same edge other roots f m r = reaches_within edge roots (Reaches other roots) (reaches_start other roots) (λ n k h by. reaches_on other roots n k h (sym (f n k) ∙ by)) m r

-- the same names met
pub met_same : (roots : List Name) (p q : Plan) (view : View) → ((n : Name) → entry_at p view n ≡ entry_at q view n) → (m : Name) → has (met_of roots p view) m ≡ has (met_of roots q view) m
met_same roots p q view f m =
    let edges : (n k : Name) → plan_imports p view n k ≡ plan_imports q view n k = λ n k. ap (λ o. has (imports_of o) k) (f n) in
    same_test _ _
    (λ h. (met_is roots q view m).1 (reaches_same (plan_imports p view) (plan_imports q view) roots edges m ((met_is roots p view m).0 h)))
    (λ h. (met_is roots p view m).1 (reaches_same (plan_imports q view) (plan_imports p view) roots (λ n k. sym (edges n k)) m ((met_is roots q view m).0 h)))

new_same : (met : Bool) (p q : Plan) (view : View) (n : Name) → p.kind ≡ q.kind → entry_at p view n ≡ entry_at q view n → new_entry met p view n ≡ new_entry met q view n
new_same true p q view n k e = e
new_same false p q view n k e = ap (λ kind. unmet_entry kind (at view n)) k

-- the same view
pub view_same : (roots : List Name) (p q : Plan) (view : View) → IsSamePlan p q → new_view roots p view ≡ new_view roots q view
view_same roots p q view s =
    let met : (n : Name) → has (met_of roots p view) n ≡ has (met_of roots q view) n = met_same roots p q view (entry_same p q view s) in
    collect_same (λ n. new_entry (has (met_of roots p view) n) p view n) (λ n. new_entry (has (met_of roots q view) n) q view n) (sorted (met_of roots p view ++ names_of view))
    (λ n. ap (λ b. new_entry b p view n) (met n) ∙ new_same (has (met_of roots q view) n) p q view n (sym s.kind) (entry_same p q view s n))
    ∙ ap (collect (λ n. new_entry (has (met_of roots q view) n) q view n)) (same_sorted (met_of roots p view ++ names_of view) (met_of roots q view ++ names_of view)
    (λ n. has_append (met_of roots p view) (names_of view) n ∙ ap (λ b. b || has (names_of view) n) (met n) ∙ sym (has_append (met_of roots q view) (names_of view) n)))

-- the same names that aren't fetched
pub unfetched_same : (roots : List Name) (p q : Plan) (view : View) → IsSamePlan p q → unfetched_of roots p view ≡ unfetched_of roots q view
unfetched_same roots p q view s = same_sorted (filter (λ n. not (is_some (entry_at p view n))) (met_of roots p view)) (filter (λ n. not (is_some (entry_at q view n))) (met_of roots q view))
    (λ m. filtered_has (λ n. not (is_some (entry_at p view n))) (met_of roots p view) m
    ∙ ap (λ o. not (is_some o) && has (met_of roots p view) m) (entry_same p q view s m)
    ∙ ap (λ b. not (is_some (entry_at q view m)) && b) (met_same roots p q view (entry_same p q view s) m)
    ∙ sym (filtered_has (λ n. not (is_some (entry_at q view n))) (met_of roots q view) m))

-- the same row
pub row_same : (roots : List Name) (p q : Plan) (view : View) (told : List (Name × ℕ)) → IsSamePlan p q → applied_row roots p view told ≡ applied_row roots q view told
row_same roots p q view told s =
    ap (λ ns. row_unfetched ns (row_differing (differing told (table_of (new_view roots p view))) told (table_of (new_view roots p view)))) (unfetched_same roots p q view s)
    ∙ ap (λ (v : View). row_unfetched (unfetched_of roots q view) (row_differing (differing told (table_of v)) told (table_of v))) (view_same roots p q view s)

-- the same walk
pub walked_same : (roots : List Name) (p q : Plan) (view : View) → IsSamePlan p q → walked roots p view ≡ walked roots q view
walked_same roots p q view s =
    let first : walks.Leads (next_of p view) (start roots) (state [] (walked roots p view)) = whole_walk roots p view in
    one_end (next_of q view) (start roots) (walked roots p view) (walked roots q view)
    (record { count = first.count; is = sym (same_steps (next_of p view) (next_of q view) first.count (start roots) (λ m h. ap imports_of (entry_same p q view s m))) ∙ first.is })
    (whole_walk roots q view)

-- the walk leaves what the core's walk meets
pub left_met : (roots : List Name) (p : Plan) (view : View) → sorted (evaluation_order roots p view) ≡ sorted (met_of roots p view)
left_met roots p view = same_sorted (evaluation_order roots p view) (met_of roots p view)
    (λ m. sym (orders_agree roots p view m) ∙ same_test _ _ (λ h. (met_is roots p view m).1 ((walk_is roots p view m).0 h)) (λ h. (walk_is roots p view m).1 ((met_is roots p view m).0 h)))

-- a moment of the walk is one of the same plan's walk
pub at_same : (roots : List Name) (p q : Plan) (view : View) (kept : KeptWalk) → IsSamePlan p q → IsAt roots p view kept → IsAt roots q view kept
at_same roots p q view kept s i = at_other roots p q view view kept i (λ n h. entry_same p q view s n)

other_row : (b : Bool) (n m : Name) (e : Entry) (o : Option Entry) → same_name n m ≡ b → (n ≡ m → false ≡ true) → (if b then Some e else o) ≡ o
other_row true n m e o h f = absurd (false≢true (f (same_true n m h)))
other_row false n m e o h f = refl

-- once the module is fetched that the plan lacked, the walk is at the same moment
pub at_fetched : (roots : List Name) (p : Plan) (view : View) (n : Name) (e : Entry) (kept : KeptWalk) → entry_at p view n ≡ None → IsAt roots p view kept → IsAt roots (record p { staged = with_row n e p.staged }) view kept
at_fetched roots p view n e kept lacks i = at_other roots p (record p { staged = with_row n e p.staged }) view view kept i
    (λ m h. ap (kept_or_staged p.kind (has p.replaced m) (at view m)) (sym (at_with_row n e p.staged m ∙ other_row (same_name n m) n m e (at p.staged m) refl (λ same. ap is_some (sym lacks) ∙ ap (λ k. is_some (entry_at p view k)) same ∙ h))))
