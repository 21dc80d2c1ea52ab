-- A page for which there is nothing to do, the first notice that waits, and a page that is pruned.
use Rattle.std.proofs.Common.{◌≡◌, ◌⊎◌, inl, inr, Bool, true, false, List, [], ◌∷◌, ◌++◌, refl, ap, sym, ◌∙◌, arith, Contains}
use Rattle.std.specs.Prelude.{not, filter, Option, Some, None, is_some, option_and_then, if◌then◌else◌, IfNone}
use Rattle.std.specs.List.{list_all}
use Prim.{⊥}
use Rattle.std.proofs.lemmas.Bool.{false≢true}
use Rattle.hmr_types.specs.declared.analysis.TextFault.{TextFault}
use Rattle.core_model.specs.Names.{Name, has, at, without_all, names_of, sorted, first_of}
use Rattle.core_model.specs.Paths.{Reaches}
use Rattle.core_model.specs.FreshLoad.{Served}
use Rattle.core_model.specs.View.{View, Entry, imports_of, imports, accepts, self_accepts, declines, is_in, accepts_itself, differs, changed_of, dropped_of}
use Rattle.core_model.specs.Spread.{passes, IsReloadWanted, IsReplaced, reason_of, replaced_of, pairs_of}
use Rattle.core_model.specs.Client.{with_name}
use Rattle.core_model.proofs.Naming.{has_is, not_true, and_both, or_cases, or_left, or_right, has_append, filtered_from, filtered_in, sorted_has, no_names, first_has}
use Rattle.core_model.proofs.Tables.{named}
use Rattle.core_model.proofs.Reaching.{reaches_back, ReachedBy, reaches_start, reaches_on, reaches_within}
use Rattle.core_model.proofs.Views.{dropped_are}
use Rattle.core_model.proofs.Spreading.{reason_is, replaced_are}
use Rattle.core_model.proofs.Pairing.{pairs_are}
use Rattle.core_laws.proofs.Looking.{at_without_all}
use Rattle.core_laws.proofs.Requesting.{undropped_reached, reached_undropped}
use Rattle.core_laws.proofs.Times.{replaced_spread}
use Rattle.world_model.specs.CaughtUp.{is_empty}
use Rattle.world_laws.proofs.TurnsCounted.{all_from, all_at}

nothing_has : (names : List Name) → names ≡ [] → (n : Name) → has names n ≡ true → ⊥
nothing_has names e n h = false≢true (ap (λ l. has l n) (sym e) ∙ h)

-- A page for which there is nothing to do.

none_reason : {X : Type 0} → (o : Option (List Name)) → o ≡ None → IfNone o X → X
none_reason None e h = h
none_reason (Some path) e h = absurd (false≢true (sym (ap is_some e)))

none_in : (ps : List (Name × Name)) → ps ≡ [] → (x : Name × Name) → Contains ps x → ⊥
none_in [] e x c = omega (arith, c.1)
none_in (p ∷ ps) e x c = absurd (false≢true (ap is_empty e))

module _ (view : View) (roots names forced : List Name) (in_view : (n : Name) → Contains names n → has (names_of view) n ≡ true) (accepting : (n : Name) → has forced n ≡ true → self_accepts view n ≡ true)
    (whole : dropped_of view roots ≡ []) (no_reason : reason_of view roots names forced ≡ None) (no_replaced : replaced_of view names forced ≡ []) (no_pairs : pairs_of view (replaced_of view names forced) forced ≡ []) where
  not_wanted : IsReloadWanted view roots names forced → ⊥
  not_wanted = none_reason (reason_of view roots names forced) no_reason (reason_is view roots names forced).1

  not_replaced : (n : Name) → IsReplaced view names forced n → ⊥
  not_replaced n r = nothing_has (replaced_of view names forced) no_replaced n ((has_is (replaced_of view names forced) n).0 ((replaced_are view names forced n).1 r))

  pub nothing_changed : names ≡ []
  nothing_changed = no_names names (λ n h. not_replaced n (inl ((has_is names n).1 h)))

  accepting_in : (n : Name) → self_accepts view n ≡ true → is_in view n ≡ true
  accepting_in n h = by_entry (at view n) h
    where
      by_entry : (o : Option Entry) → accepts_itself o ≡ true → is_some o ≡ true
      by_entry None h = h
      by_entry (Some e) h = refl

  forced_in : (n : Name) → Contains forced n → has (names_of view) n ≡ true
  forced_in n c = sym (named view n) ∙ accepting_in n (accepting n ((has_is forced n).0 c))

  -- an importer of a forced name accepts it, and is told; or doesn't, and is replaced
  importer : (n m : Name) → has forced n ≡ true → imports view m n ≡ true → (b : Bool) → accepts view m n ≡ b → ⊥
  importer n m h by true e = none_in (pairs_of view (replaced_of view names forced) forced) no_pairs (m, n) ((pairs_are view names forced (replaced_of view names forced) (replaced_are view names forced) in_view forced_in m n).1 (inr (record { accepting = e; stays = not_replaced m; via = inr ((has_is forced n).1 h) })))
  importer n m h by false e = nothing_has (replaced_of view names forced) no_replaced m (replaced_spread view names forced n m (inr h)
      (and_both _ _ (and_both _ _ by (ap not e)) (or_right (not (self_accepts view n)) (has forced n) h)))

  forced_reached : (n : Name) → has forced n ≡ true → Contains roots n ⊎ ReachedBy (imports view) roots n → ⊥
  forced_reached n h (inl c) = not_wanted (record {
    end = n;
    path = reaches_start (passes view forced) (names ++ forced) n ((has_is (names ++ forced) n).1 (has_append names forced n ∙ or_right (has names n) (has forced n) h));
    badly = or_right (declines view n) _ (and_both (has roots n) _ ((has_is roots n).0 c) (or_right (not (self_accepts view n)) (has forced n) h));
  })
  forced_reached n h (inr b) = importer n b.from h b.by (accepts view b.from n) refl

  pub nothing_forced : forced ≡ []
  nothing_forced = no_names forced (λ n h. forced_reached n h (reaches_back (imports view) roots n (undropped_reached view roots n (accepting_in n (accepting n h)) (ap (λ l. has l n) whole))))

-- A notice.

pub first_from : (notices : List (Name × TextFault)) (o : Option Name) (n : Name) (fault : TextFault) → option_and_then (λ k. with_name k (at notices k)) o ≡ Some (n, fault) → is_some (at notices n) ≡ true
first_from notices None n fault e = absurd (false≢true (ap is_some e))
first_from notices (Some k) n fault e = by_row (at notices k) refl e
  where
    name_or : Name → Option (Name × TextFault) → Name
    name_or d None = d
    name_or d (Some x) = x.0

    by_row : (o : Option TextFault) → at notices k ≡ o → with_name k o ≡ Some (n, fault) → is_some (at notices n) ≡ true
    by_row None g e = absurd (false≢true (ap is_some e))
    by_row (Some f) g e = ap (λ j. is_some (at notices j)) (sym (ap (name_or k) e)) ∙ ap is_some g

some_first : (n : Name) (names : List Name) → is_some (first_of (sorted (n ∷ names))) ≡ true
some_first n names = by_list (sorted (n ∷ names)) (sorted_has (n ∷ names) n ∙ (has_is (n ∷ names) n).0 (0, omega arith, refl))
  where
    by_list : (l : List Name) → has l n ≡ true → is_some (first_of l) ≡ true
    by_list [] h = h
    by_list (m ∷ l) h = refl

pub none_waits : (notices : List (Name × TextFault)) → option_and_then (λ k. with_name k (at notices k)) (first_of (sorted (names_of notices))) ≡ None → notices ≡ []
none_waits [] e = refl
none_waits (row ∷ rows) e = absurd (by_first (first_of (sorted (names_of (row ∷ rows)))) refl e)
  where
    found : (k : Name) → first_of (sorted (names_of (row ∷ rows))) ≡ Some k → is_some (at (row ∷ rows) k) ≡ true
    found k g = named (row ∷ rows) k ∙ (sym (sorted_has (names_of (row ∷ rows)) k) ∙ first_has (sorted (names_of (row ∷ rows))) k g)

    by_row : (k : Name) (o : Option TextFault) → is_some o ≡ true → with_name k o ≡ None → ⊥
    by_row k None t e = false≢true t
    by_row k (Some f) t e = false≢true (sym (ap is_some e))

    by_first : (o : Option Name) → first_of (sorted (names_of (row ∷ rows))) ≡ o → option_and_then (λ k. with_name k (at (row ∷ rows) k)) o ≡ None → ⊥
    by_first None g e = false≢true (sym (ap is_some g) ∙ some_first row.0 (names_of rows))
    by_first (Some k) g e = by_row k (at (row ∷ rows) k) (found k g) e

-- A prune.

module _ (view : View) (roots forced : List Name) (ds : List Name) (e : dropped_of view roots ≡ ds) where
  kept_if : (n : Name) (b : Bool) → has ds n ≡ b → is_some (if b then None else at view n) ≡ true → (has ds n ≡ false) × (is_in view n ≡ true)
  kept_if n true h i = absurd (false≢true i)
  kept_if n false h i = (h, i)

  kept_is : (n : Name) → is_in (without_all ds view) n ≡ true → (has ds n ≡ false) × (is_in view n ≡ true)
  kept_is n h = kept_if n (has ds n) refl (sym (ap is_some (at_without_all ds view n)) ∙ h)

  at_kept : (n : Name) → has ds n ≡ false → at (without_all ds view) n ≡ at view n
  at_kept n h = at_without_all ds view n ∙ ap (λ b. if b then None else at view n) h

  undropped : (n : Name) → Reaches (imports view) roots n → has ds n ≡ false
  undropped n r = ap (λ l. has l n) (sym e) ∙ reached_undropped view roots n r

  all_reached : (n : Name) → Reaches (imports view) roots n → Reaches (imports (without_all ds view)) roots n × Reaches (imports view) roots n
  all_reached = reaches_within (imports view) roots (λ n. Reaches (imports (without_all ds view)) roots n × Reaches (imports view) roots n)
      (λ n h. (reaches_start (imports (without_all ds view)) roots n h, reaches_start (imports view) roots n h))
      (λ n m r by. (reaches_on (imports (without_all ds view)) roots n m r.0 (ap (λ o. has (imports_of o) m) (at_kept n (undropped n r.1)) ∙ by), reaches_on (imports view) roots n m r.1 by))

  kept_reached : (n : Name) → is_in (without_all ds view) n ≡ true → Reaches (imports (without_all ds view)) roots n
  kept_reached n h = (all_reached n (undropped_reached view roots n (kept_is n h).1 (ap (λ l. has l n) e ∙ (kept_is n h).0))).0

  pub none_dropped : dropped_of (without_all ds view) roots ≡ []
  none_dropped = no_names (dropped_of (without_all ds view) roots) (λ n h. ((dropped_are (without_all ds view) roots n).0 ((has_is (dropped_of (without_all ds view) roots) n).1 h)).unreached (kept_reached n (named (without_all ds view) n ∙ (has_is (names_of (without_all ds view)) n).0 ((dropped_are (without_all ds view) roots n).0 ((has_is (dropped_of (without_all ds view) roots) n).1 h)).listed)))

  module _ (served : Served) (wanted : list_all (has ds) (changed_of served view ++ forced) ≡ true) where
    out : (n : Name) → has (changed_of served view ++ forced) n ≡ true → has ds n ≡ false → ⊥
    out n h g = false≢true (sym g ∙ all_at (has ds) (changed_of served view ++ forced) wanted n h)

    changed_out : (n : Name) → has (changed_of served (without_all ds view)) n ≡ true → ⊥
    changed_out n h =
        let f = filtered_from (λ k. differs (at (without_all ds view) k) (at served k)) (names_of (without_all ds view)) n h in
        let k = kept_is n (named (without_all ds view) n ∙ f.1) in
        out n (has_append (changed_of served view) forced n ∙ or_left _ _ (filtered_in (λ j. differs (at view j) (at served j)) (names_of view) n (ap (λ o. differs o (at served n)) (sym (at_kept n k.0)) ∙ f.0) (sym (named view n) ∙ k.1))) k.0

    forced_out : (n : Name) → has (filter (λ k. not (has ds k)) forced) n ≡ true → ⊥
    forced_out n h =
        let f = filtered_from (λ k. not (has ds k)) forced n h in
        out n (has_append (changed_of served view) forced n ∙ or_right (has (changed_of served view) n) _ f.1) (not_true (has ds n) f.0)

    -- where all that was wanted was dropped, nothing is wanted
    pub none_wanted : list_all (has (dropped_of (without_all ds view) roots)) (changed_of served (without_all ds view) ++ filter (λ k. not (has ds k)) forced) ≡ true
    none_wanted = all_from _ (changed_of served (without_all ds view) ++ filter (λ k. not (has ds k)) forced)
        (λ n h. absurd (by_part n (or_cases (has (changed_of served (without_all ds view)) n) _ (sym (has_append (changed_of served (without_all ds view)) _ n) ∙ h))))
      where
        by_part : (n : Name) → (has (changed_of served (without_all ds view)) n ≡ true) ⊎ (has (filter (λ k. not (has ds k)) forced) n ≡ true) → ⊥
        by_part n (inl h) = changed_out n h
        by_part n (inr h) = forced_out n h
