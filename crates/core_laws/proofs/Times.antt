-- What changed entries are, and what an update of them replaces.
use Rattle.std.proofs.Common.{◌≡◌, ◌⊎◌, inl, inr, ℕ, Bool, true, false, List, ◌++◌, refl, ap, sym, ◌∙◌, Contains}
use Rattle.std.specs.Prelude.{Option, Some, None, is_some}
use Rattle.std.proofs.lemmas.Bool.{false≢true, eqb-true}
use Rattle.std.proofs.lemmas.Option.{same_Some}
use Rattle.hmr_types.specs.declared.analysis.Analysis.{Analysis}
use Rattle.core_model.specs.Names.{Name, has, at, names_of}
use Rattle.core_model.specs.Paths.{Reaches}
use Rattle.core_model.specs.Sources.{Serving}
use Rattle.core_model.specs.FreshLoad.{Served}
use Rattle.core_model.specs.View.{View, Entry, is_in, differs, changed_of}
use Rattle.core_model.specs.Spread.{passes, IsReplaced, replaced_of}
use Rattle.core_model.proofs.Naming.{has_is, and_both, has_append, or_left, or_right, not_false, filtered_has, filtered_from}
use Rattle.core_model.proofs.Tables.{named}
use Rattle.core_model.proofs.Reaching.{long_back, reaches_on, reaches_start, ReachedBy}
use Rattle.core_model.proofs.Spreading.{passed_from, replaced_are, replaced_named}
use Rattle.core_laws.specs.Given.{entry_of, IsGiven, AreGiven}
use Rattle.core_laws.specs.Facts.{IsServed, AreSpread}

-- an entry whose version is the served one is what is served
pub same_entry : (by : ℕ → Option Analysis) (o : Option Entry) (s : Option Serving) → IsGiven by o → IsGiven by (entry_of s) → differs o s ≡ false → IsServed o s
same_entry by None s g h d = tt
same_entry by (Some e) None g h d = absurd (false≢true (sym d))
same_entry by (Some e) (Some s) g h d =
    let v : s.version ≡ e.version = sym (eqb-true e.version s.version (not_false _ d)) in
    let a : s.analysis ≡ e.analysis = same_Some s.analysis e.analysis (sym h ∙ ap by v ∙ g) in
    ap (λ k. Some (record { version = k; analysis = s.analysis })) v ∙ ap (λ k. Some (record { version = e.version; analysis = k })) a

differs_there : (o : Option Entry) (s : Option Serving) → differs o s ≡ true → is_some o ≡ true
differs_there None s h = h
differs_there (Some e) s h = refl

module _ (served : Served) (view : View) where
  unchanged_there : (n : Name) (b : Bool) → differs (at view n) (at served n) ≡ b → has (changed_of served view) n ≡ false → b ≡ false
  unchanged_there n false e h = refl
  unchanged_there n true e h = absurd (false≢true (sym h ∙ filtered_has (λ k. differs (at view k) (at served k)) (names_of view) n ∙ and_both _ _ e (sym (named view n) ∙ differs_there (at view n) (at served n) e)))

  -- what isn't changed has the served version
  pub unchanged_same : (n : Name) → has (changed_of served view) n ≡ false → differs (at view n) (at served n) ≡ false
  unchanged_same n h = ap (λ b. b) (unchanged_there n (differs (at view n) (at served n)) refl h)

  -- and is what is served
  pub unchanged_served : (by : Name → ℕ → Option Analysis) → AreGiven by view → ((n : Name) → IsGiven (by n) (entry_of (at served n))) → (n : Name) → has (changed_of served view) n ≡ false → IsServed (at view n) (at served n)
  unchanged_served by g h n c = same_entry (by n) (at view n) (at served n) (g n) (h n) (unchanged_same n c)

  pub changed_in : (n : Name) → Contains (changed_of served view) n → has (names_of view) n ≡ true
  changed_in n c = (filtered_from (λ k. differs (at view k) (at served k)) (names_of view) n ((has_is (changed_of served view) n).0 c)).1

module _ (view : View) (changed forced : List Name) where
  else_unchanged : (n : Name) (b : Bool) → has changed n ≡ b → has (replaced_of view changed forced) n ≡ false → b ≡ false
  else_unchanged n false e h = refl
  else_unchanged n true e h = absurd (false≢true (sym h ∙ (has_is (replaced_of view changed forced) n).0 ((replaced_are view changed forced n).1 (inl ((has_is changed n).1 e)))))

  -- what isn't replaced isn't changed
  pub unreplaced_unchanged : (n : Name) → has (replaced_of view changed forced) n ≡ false → has changed n ≡ false
  unreplaced_unchanged n h = else_unchanged n (has changed n) refl h

  pub reached_by_replaced : (n : Name) → IsReplaced view changed forced n ⊎ Contains forced n → Reaches (passes view forced) (changed ++ forced) n
  reached_by_replaced n (inl (inl c)) = reaches_start (passes view forced) (changed ++ forced) n ((has_is (changed ++ forced) n).1 (has_append changed forced n ∙ or_left _ _ ((has_is changed n).0 c)))
  reached_by_replaced n (inl (inr p)) =
      let b : ReachedBy (passes view forced) (changed ++ forced) n = long_back (passes view forced) (changed ++ forced) p.path n p.is p.long in
      reaches_on (passes view forced) (changed ++ forced) b.from n b.reached b.by
  reached_by_replaced n (inr c) = reaches_start (passes view forced) (changed ++ forced) n ((has_is (changed ++ forced) n).1 (has_append changed forced n ∙ or_right (has changed n) _ ((has_is forced n).0 c)))

  by_has : (n : Name) → (has (replaced_of view changed forced) n ≡ true) ⊎ (has forced n ≡ true) → IsReplaced view changed forced n ⊎ Contains forced n
  by_has n (inl h) = inl ((replaced_are view changed forced n).0 ((has_is (replaced_of view changed forced) n).1 h))
  by_has n (inr h) = inr ((has_is forced n).1 h)

  -- what is replaced is closed under passing on
  pub replaced_spread : AreSpread view forced (replaced_of view changed forced)
  replaced_spread n m h by = (has_is (replaced_of view changed forced) m).0 ((replaced_are view changed forced m).1 (inr (passed_from view changed forced m (record { from = n; reached = reached_by_replaced n (by_has n h); by = by }))))

  pub replaced_in : ((n : Name) → Contains changed n → has (names_of view) n ≡ true) → (n : Name) → has (replaced_of view changed forced) n ≡ true → is_in view n ≡ true
  replaced_in f n h = named view n ∙ replaced_named view changed forced f n ((replaced_are view changed forced n).0 ((has_is (replaced_of view changed forced) n).1 h))
