-- Where a change passes to, and what it replaces.
use Rattle.std.proofs.Common.{◌≡◌, ◌↔◌, ◌⊎◌, inl, inr, ℕ, zero, suc, ◌<◌, ◌≤◌, ◌+◌, Bool, true, false, List, [], ◌∷◌, ◌++◌, length, take, get_or, refl, ap, sym, ◌∙◌, arith, Contains}
use Rattle.std.specs.Prelude.{filter, slice_get, ◌-◌, ◌&&◌, ◌||◌, not, Option, Some, None, option_map, IfSome, IfNone, if◌then◌else◌}
use Rattle.std.specs.List.{list_any}
use Rattle.std.proofs.lemmas.List.{take_more}
use Rattle.std.proofs.lemmas.List.Folds.{list_any-append}
use Prim.{⊥}
use Rattle.core_model.specs.Names.{Name, has, names_of, sorted}
use Rattle.core_model.specs.Paths.{IsPath, Reaches}
use Rattle.core_model.specs.Rounds.{touched}
use Rattle.core_model.specs.View.{View, imports, accepts, self_accepts, declines}
use Rattle.core_model.specs.Spread.{passes, spread_of, IsPassedTo, IsReplaced, replaced_of, IsReason, IsReloadWanted, reason_of, cause_of}
use Rattle.core_model.proofs.Naming.{has_is, same_test, filtered_has, has_append, sorted_has, or_cases, or_left, or_right, any_from, any_is, Found}
use Rattle.core_model.proofs.LeastPaths.{one_least}
use Rattle.core_model.proofs.Spreading.{reason_is, replaced_are}
use Rattle.module_graph.proofs.Sorting.{IsRising, same_rising, sorted_rising}
use Rattle.propagate.specs.declared.outcome.Reason.{Reason}
use Rattle.hmr_types.specs.declared.words.ReloadCause.TheVariants.{Root, Declined}
use Rattle.propagate.specs.Passing.{lets_pass, path_of, ends_declining}

and_turn : (a b c : Bool) → ((a && b) && c) ≡ ((b && c) && a)
and_turn true true true = refl
and_turn true true false = refl
and_turn true false c = refl
and_turn false true true = refl
and_turn false true false = refl
and_turn false false c = refl

is_test : (b : Bool) (names : List Name) (m : Name) → (Contains names m ↔ (b ≡ true)) → has names m ≡ b
is_test b names m h = same_test (has names m) b (λ t. h.0 ((has_is names m).1 t)) (λ t. (has_is names m).0 (h.1 t))

-- the importers that let a change pass are where it passes to
pub passed_is : (view : View) (forced : List Name) (n : Name) (importers names : List Name) → ((m : Name) → Contains importers m ↔ (imports view m n ≡ true)) → names ≡ filter (lets_pass view forced n) importers → (m : Name) → Contains names m ↔ (passes view forced n m ≡ true)
passed_is view forced n importers names is e m =
    let same : has names m ≡ passes view forced n m = ap (λ l. has l m) e ∙ filtered_has (lets_pass view forced n) importers m ∙ ap (λ b. lets_pass view forced n m && b) (is_test (imports view m n) importers m (is m))
    ∙ sym (and_turn (imports view m n) (not (accepts view m n)) (not (self_accepts view n) || has forced n)) in
    ((λ c. sym same ∙ (has_is names m).0 c), (λ h. (has_is names m).1 (same ∙ h)))

or_false : (b : Bool) → (b || false) ≡ b
or_false true = refl
or_false false = refl

or_both : (a b c d : Bool) → a ≡ c → b ≡ d → (a || b) ≡ (c || d)
or_both a b c d h k = ap (λ x. x || b) h ∙ ap (λ x. c || x) k

-- where edges lead to, a name further
pub next_more : (edge : Name → Name → Bool) (names : List Name) (i : ℕ) (x : Name) (all next new : List Name) → i < length names → x ≡ get_or names i x → ((m : Name) → has all m ≡ touched edge (take i names) m) → ((m : Name) → Contains next m ↔ (edge x m ≡ true)) → new ≡ all ++ next → (m : Name) → has new m ≡ touched edge (take (i + 1) names) m
next_more edge names i x all next new h at so_far leads e m =
    ap (λ l. has l m) e ∙ has_append all next m
    ∙ or_both (has all m) (has next m) (touched edge (take i names) m) (edge x m || false) (so_far m) (is_test (edge x m) next m (leads m) ∙ sym (or_false (edge x m)))
    ∙ sym (list_any-append (λ n. edge n m) (take i names) (x ∷ []))
    ∙ ap (λ l. touched edge l m) (ap (λ k. take i names ++ k ∷ []) at ∙ sym (take_more names i x h))

-- a path of two names or more, without its start
passed_on : (view : View) (changed forced firsts : List Name) → ((m : Name) → has firsts m ≡ touched (passes view forced) (changed ++ forced) m) → (m : Name) (path : List Name) → IsPath (passes view forced) firsts path m → IsPassedTo view changed forced m
passed_on view changed forced firsts is m [] p = absurd p
passed_on view changed forced firsts is m (k ∷ rest) p =
    let f : Found (λ n. passes view forced n k) (changed ++ forced) = any_is (λ n. passes view forced n k) (changed ++ forced) (sym (is k) ∙ (has_is firsts k).0 p.0) in
    record { path = f.name ∷ (k ∷ rest); is = (f.there, (f.passing, p.1)); long = omega arith }

passed_back : (view : View) (changed forced firsts : List Name) → ((m : Name) → has firsts m ≡ touched (passes view forced) (changed ++ forced) m) → (m : Name) (path : List Name) → IsPath (passes view forced) (changed ++ forced) path m → 2 ≤ length path → Reaches (passes view forced) firsts m
passed_back view changed forced firsts is m [] p l = absurd p
passed_back view changed forced firsts is m (s ∷ []) p l = absurd (omega (arith, l))
passed_back view changed forced firsts is m (s ∷ (k ∷ rest)) p l = record {
  path = k ∷ rest;
  is = ((has_is firsts k).1 (is k ∙ any_from (λ n. passes view forced n k) (changed ++ forced) s ((has_is (changed ++ forced) s).0 p.0) p.1.0), p.1.1);
}

pub replaced_rising : (view : View) (changed forced : List Name) → IsRising (replaced_of view changed forced)
replaced_rising view changed forced = sorted_rising (changed ++ filter (λ m. list_any (λ n. passes view forced n m) (spread_of view changed forced)) (names_of view))

module _ (view : View) (changed forced firsts passed : List Name) (first : (m : Name) → has firsts m ≡ touched (passes view forced) (changed ++ forced) m) (reaches : (m : Name) → Contains passed m ↔ Reaches (passes view forced) firsts m) where
  replaced_if : (m : Name) → (has changed m ≡ true) ⊎ (has passed m ≡ true) → IsReplaced view changed forced m
  replaced_if m (inl h) = inl ((has_is changed m).1 h)
  replaced_if m (inr h) = let r : Reaches (passes view forced) firsts m = (reaches m).0 ((has_is passed m).1 h) in inr (passed_on view changed forced firsts first m r.path r.is)

  if_replaced : (m : Name) → IsReplaced view changed forced m → (has changed m || has passed m) ≡ true
  if_replaced m (inl c) = or_left (has changed m) (has passed m) ((has_is changed m).0 c)
  if_replaced m (inr p) = or_right (has changed m) (has passed m) ((has_is passed m).0 ((reaches m).1 (passed_back view changed forced firsts first m p.path p.is p.long)))

  replaced_test : (m : Name) → (has changed m || has passed m) ≡ has (replaced_of view changed forced) m
  replaced_test m = same_test (has changed m || has passed m) (has (replaced_of view changed forced) m)
      (λ h. (has_is (replaced_of view changed forced) m).0 ((replaced_are view changed forced m).1 (replaced_if m (or_cases (has changed m) (has passed m) h))))
      (λ h. if_replaced m ((replaced_are view changed forced m).0 ((has_is (replaced_of view changed forced) m).1 h)))

  -- what is changed, and what edges lead to from the firsts, is replaced
  pub replaced_is : (names out : List Name) → names ≡ changed ++ passed → out ≡ sorted names → out ≡ replaced_of view changed forced
  replaced_is names out e f = f ∙ same_rising (sorted names) (replaced_of view changed forced) (sorted_rising names) (replaced_rising view changed forced)
      (λ m. sorted_has names m ∙ ap (λ l. has l m) e ∙ has_append changed passed m ∙ replaced_test m)

-- a reason is the computed one
pub reason_same : (view : View) (roots changed forced : List Name) (o : Option Reason) → IfSome o (λ r. IsReason view roots changed forced (path_of r)) → IfNone o (IsReloadWanted view roots changed forced → ⊥) → option_map path_of o ≡ reason_of view roots changed forced
reason_same view roots changed forced o some none = go o (reason_of view roots changed forced) some none (reason_is view roots changed forced).0 (reason_is view roots changed forced).1
  where
    wanted : (path : List Name) → IsReason view roots changed forced path → IsReloadWanted view roots changed forced
    wanted path r = record { end = r.end; path = record { path = path; is = r.is }; badly = r.badly }

    go : (o : Option Reason) (p : Option (List Name)) → IfSome o (λ r. IsReason view roots changed forced (path_of r)) → IfNone o (IsReloadWanted view roots changed forced → ⊥) → IfSome p (IsReason view roots changed forced) → IfNone p (IsReloadWanted view roots changed forced → ⊥) → option_map path_of o ≡ p
    go None None some none f g = refl
    go None (Some q) some none f g = absurd (none (wanted q f))
    go (Some r) None some none f g = absurd (g (wanted (path_of r) some))
    go (Some r) (Some q) some none f g = ap Some (one_least _ _ _ (path_of r) q some f)

last_at : (view : View) (path : List Name) (i : ℕ) (x : Name) → i + 1 ≡ length path → Some x ≡ slice_get path i → declines view x ≡ ends_declining view path
last_at view [] i x h e = absurd (omega (arith, h))
last_at view (n ∷ []) zero x h e = let same : x ≡ n = cc in ap (declines view) same
last_at view (n ∷ []) (suc i) x h e = absurd (omega (arith, h))
last_at view (n ∷ (m ∷ path)) zero x h e = absurd (omega (arith, h))
last_at view (n ∷ (m ∷ path)) (suc i) x h e = last_at view (m ∷ path) i x (omega (arith, h)) e

within : (path : List Name) (i : ℕ) → i < length path → None ≡ slice_get path i → ⊥
within [] i h e = omega (arith, h)
within (n ∷ path) zero h e = absurd (cc)
within (n ∷ path) (suc i) h e = within path i (omega (arith, h)) e

-- the last name of a path, where there is one
pub last_some : (view : View) (path : List Name) (x : Name) → Some x ≡ slice_get path (length path - 1) → declines view x ≡ ends_declining view path
last_some view [] x e = absurd (cc)
last_some view (n ∷ path) x e = last_at view (n ∷ path) (length (n ∷ path) - 1) x (omega arith) e

pub last_none : (view : View) (path : List Name) → None ≡ slice_get path (length path - 1) → false ≡ ends_declining view path
last_none view [] e = refl
last_none view (n ∷ path) e = absurd (within (n ∷ path) (length (n ∷ path) - 1) (omega arith) e)

-- where the last name of the reason's path declines, the cause is that
pub cause_is : (view : View) (path : List Name) → cause_of view path ≡ (if ends_declining view path then Declined else Root)
cause_is view [] = refl
cause_is view (n ∷ []) = refl
cause_is view (n ∷ (m ∷ path)) = cause_is view (m ∷ path)

pub cause_if : (view : View) (path : List Name) (b : Bool) → b ≡ ends_declining view path → (if b then Declined else Root) ≡ cause_of view path
cause_if view path b e = ap (λ c. if c then Declined else Root) e ∙ sym (cause_is view path)
