-- The values of a page that is loaded anew are the only ones that each module's evaluation gives over those
-- of its imports, where no module leads back to itself.
use Rattle.std.proofs.Common.{◌≡◌, ◌⊎◌, inl, inr, Bool, true, false, List, [], ◌∷◌, ◌++◌, refl, ap, sym, ◌∙◌}
use Rattle.std.specs.Prelude.{fold, Option, Some, None, is_some, if◌then◌else◌}
use Rattle.std.specs.Option.{option_or}
use Prim.{⊥}
use Rattle.std.proofs.Math.Path.{subst}
use Rattle.std.proofs.lemmas.Bool.{false≢true}
use Rattle.core_model.specs.Names.{Name, same_name, has, at}
use Rattle.core_model.specs.Paths.{Reaches}
use Rattle.core_model.specs.Sources.{Serving}
use Rattle.core_model.specs.FreshLoad.{Served, imports, imports_in, imported_by_served}
use Rattle.core_model.proofs.Naming.{has_is, or_left, or_right, true_same, has_append, false_from, head_has, tail_has, has_cases}
use Rattle.core_model.proofs.Reaching.{reaches_on, reaches_start, reaches_within}
use Rattle.core_model.proofs.Loading.{reached_is, imports_listed}
use Rattle.core_model.proofs.Tables.{listed_over}
use Rattle.client_model.specs.Language.{Language}
use Rattle.world_laws.proofs.Frames.{Distinct}
use Rattle.journal_laws.specs.FreshValues.{Valued, fresh_valued, next_valued, post_order, fresh_values, IsAcyclic}
use Rattle.journal_laws.proofs.PostOrder.{IsPostOrder, after_in, walk_ordered, walk_once, walk_begins}

at_more : (rows : List (Name × Valued)) (n : Name) (x : Valued) (m : Name) → at (rows ++ (n, x) ∷ []) m ≡ option_or (at rows m) (if same_name n m then Some x else None)
at_more [] n x m = refl
at_more (row ∷ rows) n x m = by (same_name row.0 m) (at_more rows n x m)
  where
    by : (b : Bool) → at (rows ++ (n, x) ∷ []) m ≡ option_or (at rows m) (if same_name n m then Some x else None) → (if b then Some row.1 else at (rows ++ (n, x) ∷ []) m) ≡ option_or (if b then Some row.1 else at rows m) (if same_name n m then Some x else None)
    by true h = refl
    by false h = h

at_old : (rows : List (Name × Valued)) (n : Name) (x : Valued) (m : Name) (v : Valued) → at rows m ≡ Some v → at (rows ++ (n, x) ∷ []) m ≡ Some v
at_old rows n x m v e = at_more rows n x m ∙ ap (λ o. option_or o (if same_name n m then Some x else None)) e

at_last : (rows : List (Name × Valued)) (n : Name) (x : Valued) → at rows n ≡ None → at (rows ++ (n, x) ∷ []) n ≡ Some x
at_last rows n x e = at_more rows n x n ∙ ap (λ o. option_or o (if same_name n n then Some x else None)) e ∙ ap (λ b. if b then Some x else None) (true_same n n refl)

at_other : (rows : List (Name × Valued)) (n : Name) (x : Valued) (m : Name) → at rows m ≡ None → same_name n m ≡ false → at (rows ++ (n, x) ∷ []) m ≡ None
at_other rows n x m e d = at_more rows n x m ∙ ap (λ o. option_or o (if same_name n m then Some x else None)) e ∙ ap (λ b. if b then Some x else None) d

some_named : (o : Option Valued) → is_some o ≡ true → (v : Valued) × (o ≡ Some v)
some_named None h = absurd (false≢true h)
some_named (Some v) h = (v, refl)

-- Values for some of the served modules: none of these leads back to itself, all of their imports have
-- values, and each value is what the module's evaluation gives over those.
pub record AreGiven (language : Language) (served : Served) (want : Name → Option Valued) : Type 0 where
  pub there : (n : Name) → is_some (want n) ≡ true → is_some (at served n) ≡ true
  pub closed : (n m : Name) → is_some (want n) ≡ true → imports served n m ≡ true → is_some (want m) ≡ true
  pub acyclic : (n m : Name) → is_some (want n) ≡ true → imports served n m ≡ true → Reaches (imports served) (m ∷ []) n → ⊥
  pub value : (n : Name) (s : Serving) (v : Valued) (done : List (Name × Valued)) → at served n ≡ Some s → want n ≡ Some v → ((m : Name) → has s.analysis.imports m ≡ true → at done m ≡ want m) → fresh_valued language done n s ≡ v

module _ (language : Language) (served : Served) (want : Name → Option Valued) (given : AreGiven language served want) where
  abbrev next : Name → List Name
  next n = imports_in (at served n)

  -- what is done so far: the values of the earlier names, and nothing else
  record Done (earlier : List Name) (done : List (Name × Valued)) : Type 0 where
    have : (m : Name) (v : Valued) → has earlier m ≡ true → want m ≡ Some v → at done m ≡ Some v
    else_none : (m : Name) → has earlier m ≡ false → at done m ≡ None

  no_value : (n : Name) (v : Valued) → want n ≡ Some v → at served n ≡ None → ⊥
  no_value n v w e = false≢true (sym (ap is_some e) ∙ given.there n (ap is_some w))

  earlier_false : (n : Name) (earlier : List Name) (m : Name) → has (n ∷ earlier) m ≡ false → (has earlier m ≡ false) × (same_name n m ≡ false)
  earlier_false n earlier m e = (
    false_from (has earlier m) (λ t. false≢true (sym e ∙ tail_has n earlier m t)),
    false_from (same_name n m) (λ t. false≢true (sym e ∙ or_left (same_name n m) (has earlier m) t)),
  )

  imports_done : (earlier : List Name) (done : List (Name × Valued)) → Done earlier done → (n : Name) → is_some (want n) ≡ true → ((m : Name) → has (next n) m ≡ true → (has earlier m ≡ true) ⊎ Reaches (imports served) (m ∷ []) n) → (m : Name) → has (next n) m ≡ true → at done m ≡ want m
  imports_done earlier done d n w after m h = by (after m h)
    where
      by : (has earlier m ≡ true) ⊎ Reaches (imports served) (m ∷ []) n → at done m ≡ want m
      by (inl t) = let v = some_named (want m) (given.closed n m w h) in d.have m v.0 t v.1 ∙ sym v.1
      by (inr r) = absurd (given.acyclic n m w h r)

  one_more : (earlier : List Name) (n : Name) (done : List (Name × Valued)) → has earlier n ≡ false → ((m : Name) → has (next n) m ≡ true → (has earlier m ≡ true) ⊎ Reaches (imports served) (m ∷ []) n) → Done earlier done → (o : Option Serving) → at served n ≡ o → Done (n ∷ earlier) (next_valued language done n o)
  one_more earlier n done e after d None s = record {
    have = λ m v h w. by m v w (has_cases n earlier m h);
    else_none = λ m f. d.else_none m (earlier_false n earlier m f).0;
  }
    where
      by : (m : Name) (v : Valued) → want m ≡ Some v → (n ≡ m) ⊎ (has earlier m ≡ true) → at done m ≡ Some v
      by m v w (inl same) = absurd (no_value n v (ap want same ∙ w) s)
      by m v w (inr t) = d.have m v t w
  one_more earlier n done e after d (Some s) at_n = record {
    have = λ m v h w. by m v w (has_cases n earlier m h);
    else_none = λ m f. at_other done n (fresh_valued language done n s) m (d.else_none m (earlier_false n earlier m f).0) (earlier_false n earlier m f).1;
  }
    where
      here : (v : Valued) → want n ≡ Some v → fresh_valued language done n s ≡ v
      here v w = given.value n s v done at_n w (λ m h. imports_done earlier done d n (ap is_some w) after m (ap (λ o. has (imports_in o) m) at_n ∙ h))

      by : (m : Name) (v : Valued) → want m ≡ Some v → (n ≡ m) ⊎ (has earlier m ≡ true) → at (done ++ (n, fresh_valued language done n s) ∷ []) m ≡ Some v
      by m v w (inl same) = subst (λ k. at (done ++ (n, fresh_valued language done n s) ∷ []) k ≡ Some v) same (at_last done n (fresh_valued language done n s) (d.else_none n e) ∙ ap Some (here v (ap want same ∙ w)))
      by m v w (inr t) = at_old done n (fresh_valued language done n s) m v (d.have m v t w)

  values_from : (earlier order : List Name) (done : List (Name × Valued)) → IsPostOrder next earlier order → Distinct order → ((m : Name) → has order m ≡ true → has earlier m ≡ false) → Done earlier done
      → (n : Name) (v : Valued) → want n ≡ Some v → (has earlier n ≡ true) ⊎ (has order n ≡ true) → at (fold (λ done n. next_valued language done n (at served n)) done order) n ≡ Some v
  values_from earlier [] done p once apart d n v w (inl t) = d.have n v t w
  values_from earlier [] done p once apart d n v w (inr t) = absurd (false≢true t)
  values_from earlier (x ∷ order) done p once apart d n v w h =
      values_from (x ∷ earlier) order (next_valued language done x (at served x)) p.1 once.1 (λ m t. later m t)
      (one_more earlier x done (apart x (head_has x order)) p.0 d (at served x) refl) n v w (moved h)
    where
      later : (m : Name) → has order m ≡ true → has (x ∷ earlier) m ≡ false
      later m t = false_from (has (x ∷ earlier) m) (λ h. by (has_cases x earlier m h))
        where
          by : (x ≡ m) ⊎ (has earlier m ≡ true) → ⊥
          by (inl same) = false≢true (sym once.0 ∙ subst (λ k. has order k ≡ true) (sym same) t)
          by (inr e) = false≢true (sym (apart m (tail_has x order m t)) ∙ e)

      moved_one : (x ≡ n) ⊎ (has order n ≡ true) → (has (x ∷ earlier) n ≡ true) ⊎ (has order n ≡ true)
      moved_one (inl same) = inl (or_left (same_name x n) (has earlier n) (true_same x n same))
      moved_one (inr t) = inr t

      moved : (has earlier n ≡ true) ⊎ (has (x ∷ order) n ≡ true) → (has (x ∷ earlier) n ≡ true) ⊎ (has order n ≡ true)
      moved (inl t) = inl (tail_has x earlier n t)
      moved (inr t) = moved_one (has_cases x order n t)

-- The walk of the fresh load.

module _ (served : Served) (roots : List Name) where
  over : (n m : Name) → has (imports_in (at served n)) m ≡ true → has (roots ++ imported_by_served served) m ≡ true
  over n m h = has_append roots (imported_by_served served) m ∙ or_right (has roots m) _ (listed_over (λ (s : Serving). s.analysis.imports) served n m (imports_listed (at served n) m h))

  starts : (n : Name) → has roots n ≡ true → has (roots ++ imported_by_served served) n ≡ true
  starts n h = has_append roots (imported_by_served served) n ∙ or_left (has roots n) _ h

  order_is : IsPostOrder (λ n. imports_in (at served n)) [] (post_order served roots)
  order_is = walk_ordered (λ n. imports_in (at served n)) (roots ++ imported_by_served served) over roots starts

  order_once : Distinct (post_order served roots)
  order_once = walk_once (λ n. imports_in (at served n)) (roots ++ imported_by_served served) over roots starts

  module _ (acyclic : IsAcyclic served roots) where
    on_way : (n m : Name) → Reaches (imports served) roots n → imports served n m ≡ true → (has [] m ≡ true) ⊎ ((has (post_order served roots) m ≡ true) ⊎ Reaches (imports served) (m ∷ []) n) → has (post_order served roots) m ≡ true
    on_way n m r e (inl t) = absurd (false≢true t)
    on_way n m r e (inr (inl t)) = t
    on_way n m r e (inr (inr back)) = absurd (acyclic n m ((reached_is served roots n).1 r) e back)

    -- the order has all that is reached
    in_order : (n : Name) → Reaches (imports served) roots n → has (post_order served roots) n ≡ true
    in_order n r = (reaches_within (imports served) roots (λ k. Reaches (imports served) roots k × (has (post_order served roots) k ≡ true))
        (λ k c. (reaches_start (imports served) roots k c, walk_begins (λ n. imports_in (at served n)) (roots ++ imported_by_served served) over roots starts k ((has_is roots k).0 c)))
        (λ k j s e. (reaches_on (imports served) roots k j s.0 e, on_way k j s.0 e (after_in (λ n. imports_in (at served n)) [] (post_order served roots) order_is k j s.1 e))) n r).1

-- the values that a fresh load computes are the given ones
pub fresh_are : (language : Language) (served : Served) (roots : List Name) (want : Name → Option Valued) → AreGiven language served want → IsAcyclic served roots → (n : Name) (v : Valued) → Reaches (imports served) roots n → want n ≡ Some v → at (fresh_values language served roots) n ≡ Some v
fresh_are language served roots want given acyclic n v r w = values_from language served want given [] (post_order served roots) [] (order_is served roots) (order_once served roots) (λ m t. refl)
    (record { have = λ m x h e. absurd (false≢true h); else_none = λ m e. refl }) n v w (inr (in_order served roots acyclic n r))
