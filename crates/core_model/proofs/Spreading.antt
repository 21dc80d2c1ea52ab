-- How a change spreads: the reason of a reload, what is replaced, and who is told.
use Rattle.std.proofs.Common.{◌≡◌, ◌↔◌, ◌⊎◌, inl, inr, ◌≤◌, Bool, true, List, [], ◌∷◌, ◌++◌, length, ap, sym, ◌∙◌, arith, Contains}
use Rattle.std.specs.Prelude.{◌&&◌, ◌||◌, not, IfSome, IfNone}
use Rattle.std.specs.List.{list_any}
use Prim.{⊥}
use Rattle.std.proofs.lemmas.List.{length-append}
use Rattle.core_model.specs.Names.{Name, has, names_of}
use Rattle.core_model.specs.Paths.{IsPath, Reaches}
use Rattle.core_model.specs.Rounds.{IsOver}
use Rattle.core_model.specs.View.{View, imports, accepts}
use Rattle.core_model.specs.Spread.{passes, ends_badly, IsReloadWanted, IsReason, reason_of, IsPassedTo, IsReplaced, spread_of, replaced_of}
use Rattle.core_model.proofs.Naming.{has_is, both_true, and_both, or_cases, or_left, or_right, filtered_has, has_append, sorted_has, any_from, any_is, Found}
use Rattle.core_model.proofs.Reaching.{path_on, long_back, ReachedBy, rounds_are}
use Rattle.core_model.proofs.LeastPaths.{least_path_is, none_if}
use Rattle.core_model.proofs.Views.{importer_named}

pub passes_named : (view : View) (forced : List Name) → IsOver (passes view forced) (names_of view)
passes_named view forced n m h = importer_named view m n (both_true (imports view m n) _ (both_true (imports view m n && not (accepts view m n)) _ h).0).0

-- the computed reason is the reason, and there is none where no reload is wanted
pub reason_is : (view : View) (roots changed forced : List Name) → IfSome (reason_of view roots changed forced) (IsReason view roots changed forced) × IfNone (reason_of view roots changed forced) (IsReloadWanted view roots changed forced → ⊥)
reason_is view roots changed forced =
    let r = least_path_is (passes view forced) (names_of view) (changed ++ forced) (ends_badly view roots forced) (passes_named view forced) in
    (r.0, none_if _ _ (reason_of view roots changed forced) (λ f w. f w.end w.path w.badly) r.1)

not_empty : (edge : Name → Name → Bool) (starts path : List Name) (m : Name) → IsPath edge starts path m → 1 ≤ length path
not_empty edge starts [] m p = absurd p
not_empty edge starts (n ∷ rest) m p = omega arith

module _ (view : View) (changed forced : List Name) where
  pub passed_from : (m : Name) → ReachedBy (passes view forced) (changed ++ forced) m → IsPassedTo view changed forced m
  passed_from m b = record { path = b.reached.path ++ m ∷ []; is = path_on (passes view forced) (changed ++ forced) b.reached.path b.from m b.reached.is b.by; long = omega (arith, not_empty (passes view forced) (changed ++ forced) b.reached.path b.from b.reached.is, length-append b.reached.path (m ∷ [])) }

  passed_back : (m : Name) → IsPassedTo view changed forced m → ReachedBy (passes view forced) (changed ++ forced) m
  passed_back m p = long_back (passes view forced) (changed ++ forced) p.path m p.is p.long

  spread_is : (m : Name) → (has (spread_of view changed forced) m ≡ true) ↔ Reaches (passes view forced) (changed ++ forced) m
  spread_is m = rounds_are (passes view forced) (names_of view) (changed ++ forced) (passes_named view forced) m

  passed_sound : (m : Name) → list_any (λ n. passes view forced n m) (spread_of view changed forced) ≡ true → IsPassedTo view changed forced m
  passed_sound m h =
      let f : Found (λ n. passes view forced n m) (spread_of view changed forced) = any_is (λ n. passes view forced n m) (spread_of view changed forced) h in
      passed_from m (record { from = f.name; reached = (spread_is f.name).0 ((has_is _ f.name).0 f.there); by = f.passing })

  passed_complete : (m : Name) → IsPassedTo view changed forced m → list_any (λ n. passes view forced n m) (spread_of view changed forced) ≡ true
  passed_complete m p =
      let b : ReachedBy (passes view forced) (changed ++ forced) m = passed_back m p in
      any_from (λ n. passes view forced n m) (spread_of view changed forced) b.from ((spread_is b.from).1 b.reached) b.by

  replaced_has : (m : Name) → has (replaced_of view changed forced) m ≡ (has changed m || (list_any (λ n. passes view forced n m) (spread_of view changed forced) && has (names_of view) m))
  replaced_has m = sorted_has _ m ∙ has_append changed _ m ∙ ap (λ b. has changed m || b) (filtered_has (λ k. list_any (λ n. passes view forced n k) (spread_of view changed forced)) (names_of view) m)

  sound_by : (m : Name) → (has changed m ≡ true) ⊎ ((list_any (λ n. passes view forced n m) (spread_of view changed forced) && has (names_of view) m) ≡ true) → IsReplaced view changed forced m
  sound_by m (inl h) = inl ((has_is changed m).1 h)
  sound_by m (inr h) = inr (passed_sound m (both_true _ (has (names_of view) m) h).0)

  complete_by : (m : Name) → IsReplaced view changed forced m → (has changed m || (list_any (λ n. passes view forced n m) (spread_of view changed forced) && has (names_of view) m)) ≡ true
  complete_by m (inl c) = or_left _ _ ((has_is changed m).0 c)
  complete_by m (inr p) = or_right (has changed m) _ (and_both _ _ (passed_complete m p) (passes_named view forced (passed_back m p).from m (passed_back m p).by))

  -- the computed names are the replaced ones
  pub replaced_are : (m : Name) → Contains (replaced_of view changed forced) m ↔ IsReplaced view changed forced m
  replaced_are m = (
    (λ c. sound_by m (or_cases (has changed m) _ (sym (replaced_has m) ∙ (has_is _ m).0 c))),
    (λ r. (has_is _ m).1 (replaced_has m ∙ complete_by m r)),
  )

  pub replaced_named : ((n : Name) → Contains changed n → has (names_of view) n ≡ true) → (m : Name) → IsReplaced view changed forced m → has (names_of view) m ≡ true
  replaced_named in_view m (inl c) = in_view m c
  replaced_named in_view m (inr p) = passes_named view forced (passed_back m p).from m (passed_back m p).by
