-- Changes that want no reload one by one want none together.
use Rattle.std.proofs.Common.{◌≡◌, ◌⊎◌, inl, inr, Bool, true, false, List, [], ◌∷◌, ◌++◌, refl, ap, sym, ◌∙◌, Contains}
use Rattle.std.specs.Prelude.{not, ◌&&◌, ◌||◌, Option, Some, None, is_some, if◌then◌else◌}
use Prim.{⊥}
use Rattle.std.proofs.Math.Path.{subst}
use Rattle.std.proofs.lemmas.Bool.{false≢true}
use Rattle.hmr_types.specs.declared.words.PlanKind.TheVariants.{Update}
use Rattle.core_model.specs.Names.{Name, same_name, has, at}
use Rattle.core_model.specs.Paths.{Leads, IsPath, Reaches}
use Rattle.core_model.specs.View.{View, Entry, is_in, imports_of, accepted_of, accepts_itself, is_declining, imports, accepts, self_accepts, declines, dropped_of}
use Rattle.core_model.specs.Spread.{passes, ends_badly, IsReloadWanted, replaced_of}
use Rattle.core_model.specs.Page.{kept_or_staged, entry_at, plan_imports, met_of, new_entry}
use Rattle.core_model.proofs.Naming.{has_is, true_same, both_true, or_cases, or_left, has_append, false_from, head_has, has_cases, tail_has}
use Rattle.core_model.proofs.Reaching.{reaches_within, reaches_on, reaches_start}
use Rattle.core_model.proofs.Tables.{named}
use Rattle.core_model.proofs.Views.{importer_named}
use Rattle.core_model.proofs.Planning.{met_is, at_new}
use Rattle.core_model.proofs.Spreading.{replaced_are}
use Rattle.core_laws.specs.Facts.{IsClosed}
use Rattle.core_laws.specs.Batch.{Turn, update_of, updated, view_after, IsCalm, AreCalm, names_changed}
use Rattle.core_laws.proofs.Looking.{at_without_all}
use Rattle.core_laws.proofs.Requesting.{reached_undropped}
use Rattle.core_laws.proofs.Times.{reached_by_replaced}

-- from a name on a path its end is reached
onward : (edge : Name → Name → Bool) (starts : List Name) (n : Name) (rest : List Name) (end : Name) → Leads edge n rest end → (m : Name) → has (n ∷ rest) m ≡ true → Reaches edge starts m → Reaches edge starts end
onward edge starts n [] end p m h r = by (has_cases n [] m h)
  where
    by : (n ≡ m) ⊎ (has [] m ≡ true) → Reaches edge starts end
    by (inl e) = subst (Reaches edge starts) (sym e ∙ p) r
    by (inr k) = absurd (false≢true k)
onward edge starts n (k ∷ rest) end p m h r = by (λ j g q. onward edge starts k rest end p.1 j g q) (has_cases n (k ∷ rest) m h)
  where
    by : ((j : Name) → has (k ∷ rest) j ≡ true → Reaches edge starts j → Reaches edge starts end) → (n ≡ m) ⊎ (has (k ∷ rest) m ≡ true) → Reaches edge starts end
    by f (inl e) = f k (head_has k rest) (reaches_on edge starts n k (subst (Reaches edge starts) (sym e) r) p.0)
    by f (inr g) = f m g r

-- One turn: what the view has afterwards.

still_entry : (r : Bool) (kept new : Option Entry) → r ≡ false → is_some kept ≡ true → kept_or_staged Update r kept new ≡ kept
still_entry true kept new e i = absurd (false≢true (sym e))
still_entry false None new e i = absurd (false≢true i)
still_entry false (Some k) new e i = refl

module _ (roots : List Name) (view : View) (t : Turn) (calm : IsCalm roots view t) where
  abbrev Met : Name → Type 0
  Met n = has (met_of roots (update_of view t) view) n ≡ true

  entry_kept : (n : Name) → has (replaced_of view (t.name ∷ []) []) n ≡ false → is_in view n ≡ true → entry_at (update_of view t) view n ≡ at view n
  entry_kept n u i = still_entry (has (replaced_of view (t.name ∷ []) []) n) (at view n) (at t.staged n) u i

  met_new : (n : Name) → Met n → at (updated roots view t) n ≡ entry_at (update_of view t) view n
  met_new n m = at_new roots (update_of view t) view n ∙ ap (λ b. new_entry b (update_of view t) view n) m

  met_on : (n k : Name) → Met n → plan_imports (update_of view t) view n k ≡ true → Met k
  met_on n k m e = (met_is roots (update_of view t) view k).1 (reaches_on (plan_imports (update_of view t) view) roots n k ((met_is roots (update_of view t) view n).0 m) e)

  met_start : (n : Name) → Contains roots n → Met n
  met_start n c = (met_is roots (update_of view t) view n).1 (reaches_start (plan_imports (update_of view t) view) roots n c)

  -- what is met is reached in the new view
  met_reached : (n : Name) → Met n → Reaches (imports (updated roots view t)) roots n
  met_reached n m = (reaches_within (plan_imports (update_of view t) view) roots (λ k. Met k × Reaches (imports (updated roots view t)) roots k)
      (λ k c. (met_start k c, reaches_start (imports (updated roots view t)) roots k c))
      (λ k j s e. (met_on k j s.0 e, reaches_on (imports (updated roots view t)) roots k j s.1 (ap (λ o. has (imports_of o) j) (met_new k s.0) ∙ e)))
      n ((met_is roots (update_of view t) view n).0 m)).1

  met_after : (n : Name) → Met n → at (view_after roots view t) n ≡ entry_at (update_of view t) view n
  met_after n m = at_without_all (dropped_of (updated roots view t) roots) (updated roots view t) n
      ∙ ap (λ b. if b then None else at (updated roots view t) n) (reached_undropped (updated roots view t) roots n (met_reached n m))
      ∙ met_new n m

  -- A path to a root at which a change would end badly stays.

  passing_importer : (n k : Name) → passes view [] n k ≡ true → imports view k n ≡ true
  passing_importer n k h = (both_true (imports view k n) _ (both_true (imports view k n && not (accepts view k n)) _ h).0).0

  path_in : (n : Name) (rest : List Name) (end : Name) → Leads (passes view []) n rest end → is_in view n ≡ true → (m : Name) → has (n ∷ rest) m ≡ true → is_in view m ≡ true
  path_in n [] end p i m h = by_name (has_cases n [] m h)
    where
      by_name : (n ≡ m) ⊎ (has [] m ≡ true) → is_in view m ≡ true
      by_name (inl e) = ap (is_in view) (sym e) ∙ i
      by_name (inr e) = absurd (false≢true e)
  path_in n (k ∷ rest) end p i m h = by_name (path_in k rest end p.1 (named view k ∙ importer_named view k n (passing_importer n k p.0)) m) (has_cases n (k ∷ rest) m h)
    where
      by_name : (has (k ∷ rest) m ≡ true → is_in view m ≡ true) → (n ≡ m) ⊎ (has (k ∷ rest) m ≡ true) → is_in view m ≡ true
      by_name f (inl e) = ap (is_in view) (sym e) ∙ i
      by_name f (inr g) = f g

  module _ (from : Name) (rest : List Name) (end : Name) (leads : Leads (passes view []) from rest end) (there : is_in view from ≡ true) (root : Contains roots end) (badly : ends_badly view roots [] end ≡ true) where
    -- no name of the path is replaced: the change would go on to the bad end
    unreplaced : (m : Name) → has (from ∷ rest) m ≡ true → has (replaced_of view (t.name ∷ []) []) m ≡ false
    unreplaced m h = false_from (has (replaced_of view (t.name ∷ []) []) m) (λ r. calm (record {
      end = end;
      path = onward (passes view []) (t.name ∷ []) from rest end leads m h (reached_by_replaced view (t.name ∷ []) [] m (inl ((replaced_are view (t.name ∷ []) [] m).0 ((has_is (replaced_of view (t.name ∷ []) []) m).1 r))));
      badly = badly;
    }))

    kept : (m : Name) → has (from ∷ rest) m ≡ true → entry_at (update_of view t) view m ≡ at view m
    kept m h = entry_kept m (unreplaced m h) (path_in from rest end leads there m h)

    path_met : (n : Name) (more : List Name) → Leads (passes view []) n more end → ((m : Name) → has (n ∷ more) m ≡ true → entry_at (update_of view t) view m ≡ at view m) → (m : Name) → has (n ∷ more) m ≡ true → Met m
    path_met n [] p same m h = by_name (has_cases n [] m h)
      where
        by_name : (n ≡ m) ⊎ (has [] m ≡ true) → Met m
        by_name (inl e) = subst Met (sym p ∙ e) (met_start end root)
        by_name (inr e) = absurd (false≢true e)
    path_met n (k ∷ more) p same m h = by_name (path_met k more p.1 (λ j g. same j (tail_has n (k ∷ more) j g))) (has_cases n (k ∷ more) m h)
      where
        by_name : ((j : Name) → has (k ∷ more) j ≡ true → Met j) → (n ≡ m) ⊎ (has (k ∷ more) m ≡ true) → Met m
        by_name f (inr g) = f m g
        by_name f (inl e) = subst Met e (met_on k n (f k (head_has k more)) (ap (λ o. has (imports_of o) n) (same k (tail_has n (k ∷ more) k (head_has k more))) ∙ passing_importer n k p.0))

    -- each module on the path is as before
    pub path_kept : (m : Name) → has (from ∷ rest) m ≡ true → at (view_after roots view t) m ≡ at view m
    path_kept m h = met_after m (path_met from rest leads kept m h) ∙ kept m h

-- Paths of two views that have the same modules on them.

abbrev passing : Option Entry → Option Entry → Name → Bool
passing o q n = has (imports_of q) n && not (has (accepted_of q) n) && (not (accepts_itself o) || has [] n)

passes_same : (old new : View) (n k : Name) → at new n ≡ at old n → at new k ≡ at old k → passes new [] n k ≡ passes old [] n k
passes_same old new n k e f = ap (λ o. passing o (at new k) n) e ∙ ap (λ o. passing (at old n) o n) f

leads_same : (old new : View) (n : Name) (rest : List Name) (end : Name) → ((m : Name) → has (n ∷ rest) m ≡ true → at new m ≡ at old m) → Leads (passes old []) n rest end → Leads (passes new []) n rest end
leads_same old new n [] end f p = p
leads_same old new n (k ∷ rest) end f p = (
  passes_same old new n k (f n (head_has n (k ∷ rest))) (f k (tail_has n (k ∷ rest) k (head_has k rest))) ∙ p.0,
  leads_same old new k rest end (λ m h. f m (tail_has n (k ∷ rest) m h)) p.1,
)

end_listed : (edge : Name → Name → Bool) (n : Name) (rest : List Name) (end : Name) → Leads edge n rest end → has (n ∷ rest) end ≡ true
end_listed edge n [] end p = or_left (same_name n end) _ (true_same n end p)
end_listed edge n (k ∷ rest) end p = tail_has n (k ∷ rest) end (end_listed edge k rest end p.1)

abbrev ending : List Name → Option Entry → Name → Bool
ending roots o m = is_declining o || (has roots m && (not (accepts_itself o) || has [] m))

ends_same : (old new : View) (roots : List Name) (m : Name) → at new m ≡ at old m → ends_badly new roots [] m ≡ ends_badly old roots [] m
ends_same old new roots m e = ap (λ o. ending roots o m) e

-- a path from one of the names to a root at which a change ends badly
record IsBad (roots : List Name) (view : View) (names : List Name) : Type 0 where
  from : Name
  rest : List Name
  end : Name
  leads : Leads (passes view []) from rest end
  listed : has names from ≡ true
  there : is_in view from ≡ true
  root : Contains roots end
  badly : ends_badly view roots [] end ≡ true

-- by the turns
no_bad : (turns : List Turn) (roots : List Name) (view : View) → AreCalm roots view turns → IsBad roots view (names_changed turns) → ⊥
no_bad [] roots view batch bad = false≢true bad.listed
no_bad (t ∷ turns) roots view batch bad = by_name (has_cases t.name (names_changed turns) bad.from bad.listed) (no_bad turns roots (view_after roots view t) batch.1)
  where
    by_name : (t.name ≡ bad.from) ⊎ (has (names_changed turns) bad.from ≡ true) → (IsBad roots (view_after roots view t) (names_changed turns) → ⊥) → ⊥
    by_name (inl e) f = batch.0 (record {
      end = bad.end;
      path = record { path = bad.from ∷ bad.rest; is = ((has_is (t.name ∷ []) bad.from).1 (or_left _ _ (true_same t.name bad.from e)), bad.leads) };
      badly = bad.badly;
    })
    by_name (inr h) f =
        let kept : (m : Name) → has (bad.from ∷ bad.rest) m ≡ true → at (view_after roots view t) m ≡ at view m = path_kept roots view t batch.0 bad.from bad.rest bad.end bad.leads bad.there bad.root bad.badly in
        f (record {
          from = bad.from;
          rest = bad.rest;
          end = bad.end;
          leads = leads_same view (view_after roots view t) bad.from bad.rest bad.end kept bad.leads;
          listed = h;
          there = ap is_some (kept bad.from (head_has bad.from bad.rest)) ∙ bad.there;
          root = bad.root;
          badly = ends_same view (view_after roots view t) roots bad.end (kept bad.end (end_listed (passes view []) bad.from bad.rest bad.end bad.leads)) ∙ bad.badly;
        })

-- The path that is the reason.

module _ (roots : List Name) (view : View) (names : List Name) (closed : IsClosed roots view) (end : Name) (root : Contains roots end) (badly : ends_badly view roots [] end ≡ true) where
  from_there : (n : Name) (rest : List Name) → Leads (passes view []) n rest end → is_in view n ≡ true
  from_there n [] p = ap (is_in view) p ∙ closed.begun end root
  from_there n (k ∷ rest) p = closed.on k n (both_true (imports view k n) _ (both_true (imports view k n && not (accepts view k n)) _ p.0).0).0

  bad_of : (path : List Name) → IsPath (passes view []) (names ++ []) path end → IsBad roots view names
  bad_of [] p = absurd p
  bad_of (n ∷ rest) p = record { from = n; rest = rest; end = end; leads = p.1; listed = listed (or_cases (has names n) false (sym (has_append names [] n) ∙ (has_is (names ++ []) n).0 p.0)); there = from_there n rest p.1; root = root; badly = badly }
    where
      listed : (has names n ≡ true) ⊎ (false ≡ true) → has names n ≡ true
      listed (inl h) = h
      listed (inr h) = absurd (false≢true h)

-- the batch law
pub batch_is_calm : (roots : List Name) (view : View) (turns : List Turn) → IsClosed roots view → ((n : Name) → declines view n ≡ false) → AreCalm roots view turns → IsReloadWanted view roots (names_changed turns) [] → ⊥
batch_is_calm roots view turns closed eager batch wanted =
    no_bad turns roots view batch (bad_of roots view (names_changed turns) closed wanted.end (root_of (or_cases (declines view wanted.end) _ wanted.badly)) wanted.badly wanted.path.path wanted.path.is)
  where
    root_of : (declines view wanted.end ≡ true) ⊎ ((has roots wanted.end && (not (self_accepts view wanted.end) || has [] wanted.end)) ≡ true) → Contains roots wanted.end
    root_of (inl h) = absurd (false≢true (sym (eager wanted.end) ∙ h))
    root_of (inr h) = (has_is roots wanted.end).1 (both_true (has roots wanted.end) _ h).0
