-- What there is to do, by what changed.
use Rattle.std.proofs.Common.{◌≡◌, Bool, true, false, List, [], ◌∷◌, ◌++◌, refl, ap, sym, ◌∙◌, arith}
use Rattle.std.specs.Prelude.{◌&&◌, ◌≤◌, length, Option, Some, None, IfSome, MatchOption}
use Rattle.std.specs.Cmp.Lexicographic.{slice_cmp}
use Rattle.std.specs.List.Sorted.{IsStrictlySortedBy}
use Rattle.std.specs.Ordering.{nat_cmp}
use Rattle.std.proofs.lemmas.Bool.{false≢true}
use Rattle.std.proofs.Math.Path.{subst}
use Rattle.std.proofs.lemmas.List.Kept.{IsStrictlySortedBy-filter}
use Rattle.core_model.specs.Names.{Name, has, at, names_of, sorted}
use Rattle.core_model.specs.Sources.{Sources}
use Rattle.core_model.specs.Asking.{AskRow, idle, update, row_loaded, row_dropped, row_held, row_reason, row_replaced}
use Rattle.core_model.specs.Client.{Client}
use Rattle.core_model.specs.Spread.{AreIn, IsReason, cause_of, reason_of, replaced_of, pairs_of}
use Rattle.core_model.specs.View.{View, changed_of, differs, is_in}
use Rattle.core_model.proofs.Naming.{has_is}
use Rattle.core_model.proofs.Tables.{named}
use Rattle.module_graph.proofs.Sorting.{same_rising}
use Rattle.client_queue.specs.Queue.{Queue, is_marked, is_none_left}
use Rattle.client_records.specs.Record.{Kept, IsRecord}
use Rattle.propagate.specs.declared.outcome.Reason.{Reason}
use Rattle.propagate.specs.Passing.{cause_in, path_of}
use Rattle.client_records.specs.declared.row.Row.{Row}
use Rattle.client_records.specs.Steps.{IsFor, IsTellable, before_of, due_row, is_held_at, next_row, row_of, triggered_by}
use Rattle.client_records.proofs.Changes.{changed_has}

-- nothing is replaced and nobody is told
pub idle_row : (ns : List Name) (ps : List (Name × Name)) → (is_none_left ns && is_none_left ps) ≡ true → idle ≡ row_replaced ns ps
idle_row [] [] h = refl
idle_row [] (p ∷ ps) h = absurd (false≢true h)
idle_row (n ∷ ns) ps h = absurd (false≢true h)

-- something is replaced, or somebody is told
pub update_row : (ns : List Name) (ps : List (Name × Name)) → (is_none_left ns && is_none_left ps) ≡ false → update ns ps ≡ row_replaced ns ps
update_row [] [] h = absurd (false≢true (sym h))
update_row [] (p ∷ ps) h = refl
update_row (n ∷ ns) ps h = refl

-- the marked names are on the page
pub marked_in : (view : View) (q : Queue) (names : List Name) → ((n : Name) → has names n ≡ is_marked q n) → ((n : Name) → is_marked q n ≡ true → is_in view n ≡ true) → AreIn names view
marked_in view q names h within = λ n k. sym (named view n) ∙ within n (sym (h n) ∙ (has_is names n).0 k)

-- the marked names are the changed ones
pub marked_are : (s : Sources) (c : Client) (k : Kept) (names : List Name) → IsRecord s c k → IsStrictlySortedBy (slice_cmp nat_cmp) (names_of k.view) → IsStrictlySortedBy (slice_cmp nat_cmp) names
    → ((n : Name) → has names n ≡ is_marked k.queue n) → names ≡ changed_of s.served k.view
marked_are s c k names h rising sorted_names marks = same_rising names (changed_of s.served k.view) sorted_names
    (IsStrictlySortedBy-filter (slice_cmp nat_cmp) (λ n. differs (at k.view n) (at s.served n)) (names_of k.view) rising)
    (λ n. marks n ∙ h.marks n ∙ ap (λ v. differs (at v n) (at s.served n)) (sym h.view) ∙ sym (changed_has s.served k.view n))

-- how far it spreads is what is due
pub due_is : (s : Sources) (k : Kept) (roots changed forced : List Name) (reload : Option (List Name)) (replaced : List Name) (pairs : List (Name × Name))
    → roots ≡ k.roots → changed ≡ changed_of s.served k.view → forced ≡ k.queue.forced
    → reload ≡ reason_of k.view roots changed forced → replaced ≡ replaced_of k.view changed forced → pairs ≡ pairs_of k.view replaced forced → row_reason reload (row_replaced replaced pairs) ≡ due_row s k
due_is s k roots changed forced reload replaced pairs r c f e m p =
    ap (λ o. row_reason o (row_replaced replaced pairs)) (e ∙ ap (λ x. reason_of k.view x changed forced) r ∙ ap (λ x. reason_of k.view k.roots x forced) c ∙ ap (reason_of k.view k.roots (changed_of s.served k.view)) f)
    ∙ ap (λ x. row_reason (reason_of k.view k.roots (changed_of s.served k.view) k.queue.forced) (row_replaced replaced x)) (p ∙ ap (λ x. pairs_of k.view x forced) same ∙ ap (pairs_of k.view (replaced_of k.view (changed_of s.served k.view) k.queue.forced)) f)
    ∙ ap (λ x. row_reason (reason_of k.view k.roots (changed_of s.served k.view) k.queue.forced) (row_replaced x (pairs_of k.view (replaced_of k.view (changed_of s.served k.view) k.queue.forced) k.queue.forced))) same
  where
    same : replaced ≡ replaced_of k.view (changed_of s.served k.view) k.queue.forced
    same = m ∙ ap (λ x. replaced_of k.view x forced) c ∙ ap (replaced_of k.view (changed_of s.served k.view)) f

-- the names that it is for
pub for_names : (s : Sources) (k : Kept) (names changed forced : List Name) → names ≡ sorted (changed ++ forced) → changed ≡ changed_of s.served k.view → forced ≡ k.queue.forced → names ≡ triggered_by s k
for_names s k names changed forced e c f = e ∙ ap (λ x. sorted (x ++ forced)) c ∙ ap (λ x. sorted (changed_of s.served k.view ++ x)) f

-- the path of a reason has a name
some_path : (view : View) (roots changed forced path : List Name) → IsReason view roots changed forced path → 1 ≤ length path
some_path view roots changed forced [] h = absurd h.is
some_path view roots changed forced (n ∷ path) h = omega arith

-- a reason can be told
pub tells : (view : View) (roots changed forced : List Name) (o : Option Reason) → IfSome o (λ r. cause_in r ≡ cause_of view (path_of r)) → IfSome o (λ r. IsReason view roots changed forced (path_of r))
    → IfSome o (λ r. (cause_in r ≡ cause_of view (path_of r)) × (1 ≤ length (path_of r)))
tells view roots changed forced None a b = a
tells view roots changed forced (Some r) a b = (a, some_path view roots changed forced (path_of r) b)

before_right : (loaded held undropped : Bool) (dropped : List Name) (due : AskRow) → undropped ≡ is_none_left dropped
    → MatchOption (before_of loaded held undropped) (due ≡ row_loaded loaded held (row_dropped dropped (row_held held due))) (λ row. row_of dropped row ≡ row_loaded loaded held (row_dropped dropped (row_held held due)))
before_right false true undropped dropped due e = refl
before_right false false undropped dropped due e = refl
before_right true held false [] due e = absurd (false≢true e)
before_right true held false (n ∷ ns) due e = refl
before_right true true true [] due e = refl
before_right true true true (n ∷ ns) due e = absurd (false≢true (sym e))
before_right true false true [] due e = refl
before_right true false true (n ∷ ns) due e = absurd (false≢true (sym e))

before_at : (s : Sources) (k : Kept) (held undropped : Bool) (b : Option Row) → b ≡ before_of k.loaded held undropped → held ≡ is_held_at s k → undropped ≡ is_none_left k.dropped
    → MatchOption b (due_row s k ≡ next_row s k) (λ row. row_of k.dropped row ≡ next_row s k)
before_at s k held undropped b e h u = subst (λ (o : Option Row). MatchOption o (due_row s k ≡ next_row s k) (λ row. row_of k.dropped row ≡ next_row s k))
    (ap (λ x. before_of k.loaded x (is_none_left k.dropped)) (sym h) ∙ ap (before_of k.loaded held) (sym u) ∙ sym e)
    (before_right k.loaded (is_held_at s k) (is_none_left k.dropped) k.dropped (due_row s k) refl)

-- what there is to do before is what there is to do
pub row_some : (s : Sources) (k : Kept) (held undropped : Bool) (b : Option Row) (row : Row) → b ≡ before_of k.loaded held undropped → held ≡ is_held_at s k → undropped ≡ is_none_left k.dropped → b ≡ Some row → row_of k.dropped row ≡ next_row s k
row_some s k held undropped b row e h u i = subst (λ (o : Option Row). MatchOption o (due_row s k ≡ next_row s k) (λ r. row_of k.dropped r ≡ next_row s k)) i (before_at s k held undropped b e h u)

-- and else what is due
pub row_none : (s : Sources) (k : Kept) (held undropped : Bool) (b : Option Row) → b ≡ before_of k.loaded held undropped → held ≡ is_held_at s k → undropped ≡ is_none_left k.dropped → b ≡ None → due_row s k ≡ next_row s k
row_none s k held undropped b e h u i = subst (λ (o : Option Row). MatchOption o (due_row s k ≡ next_row s k) (λ r. row_of k.dropped r ≡ next_row s k)) i (before_at s k held undropped b e h u)

before_for : (loaded held undropped : Bool) (names : List Name) (view : View) → IfSome (before_of loaded held undropped) (λ row. IsFor row names × IsTellable view row)
before_for false true undropped names view = (tt, tt)
before_for false false undropped names view = (tt, tt)
before_for true held false names view = (tt, tt)
before_for true true true names view = (tt, tt)
before_for true false true names view = tt

-- it is for any names, and can be told
pub some_for : (loaded held undropped : Bool) (b : Option Row) (row : Row) (names : List Name) (view : View) → b ≡ before_of loaded held undropped → b ≡ Some row → IsFor row names × IsTellable view row
some_for loaded held undropped b row names view e i = subst (λ (o : Option Row). IfSome o (λ r. IsFor r names × IsTellable view r)) (sym e ∙ i) (before_for loaded held undropped names view)
