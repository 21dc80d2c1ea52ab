-- Views: what their imports reach, and what is dropped.
use Rattle.std.proofs.Common.{◌≡◌, ◌↔◌, ◌⊎◌, inl, inr, true, List, sym, ◌∙◌, Contains}
use Rattle.std.specs.Prelude.{filter, ◌&&◌, not, Option, Some, None}
use Prim.{⊥}
use Rattle.std.proofs.lemmas.Bool.{false≢true}
use Rattle.core_model.specs.Names.{Name, has, at, names_of}
use Rattle.core_model.specs.Paths.{Reaches}
use Rattle.core_model.specs.Rounds.{IsOver}
use Rattle.core_model.specs.View.{View, Entry, imports_of, accepted_of, imports, accepts, imported_of, reached_in, IsDropped, dropped_of}
use Rattle.core_model.proofs.Naming.{has_is, not_true, not_from, and_both, filtered_from, filtered_has, sorted_has}
use Rattle.core_model.proofs.Reaching.{rounds_are, reaches_back, ReachedBy}
use Rattle.core_model.proofs.Tables.{listed_in, listed_over, lister_named}

imports_listed : (o : Option Entry) (m : Name) → has (imports_of o) m ≡ true → has (listed_in (λ (e : Entry). e.analysis.imports) o) m ≡ true
imports_listed None m h = h
imports_listed (Some e) m h = h

accepted_listed : (o : Option Entry) (m : Name) → has (accepted_of o) m ≡ true → has (listed_in (λ (e : Entry). e.analysis.accepted) o) m ≡ true
accepted_listed None m h = h
accepted_listed (Some e) m h = h

-- each import of a view is among the imports of all
pub over : (view : View) → IsOver (imports view) (imported_of view)
over view n m h = listed_over (λ (e : Entry). e.analysis.imports) view n m (imports_listed (at view n) m h)

-- what imports something is in the view, and so is what accepts something
pub importer_named : (view : View) (n m : Name) → imports view n m ≡ true → has (names_of view) n ≡ true
importer_named view n m h = lister_named (λ (e : Entry). e.analysis.imports) view n m (imports_listed (at view n) m h)

pub accepter_named : (view : View) (n m : Name) → accepts view n m ≡ true → has (names_of view) n ≡ true
accepter_named view n m h = lister_named (λ (e : Entry). e.analysis.accepted) view n m (accepted_listed (at view n) m h)

pub reached_is : (view : View) (roots : List Name) (m : Name) → (has (reached_in view roots) m ≡ true) ↔ Reaches (imports view) roots m
reached_is view roots m = rounds_are (imports view) (imported_of view) roots (over view) m

dropped_has : (view : View) (roots : List Name) (n : Name) → has (dropped_of view roots) n ≡ (not (has (reached_in view roots) n) && has (names_of view) n)
dropped_has view roots n = sorted_has (filter (λ m. not (has (reached_in view roots) m)) (names_of view)) n ∙ filtered_has (λ m. not (has (reached_in view roots) m)) (names_of view) n

-- the dropped names, computed, are those that no list of imports reaches
pub dropped_are : (view : View) (roots : List Name) (n : Name) → Contains (dropped_of view roots) n ↔ IsDropped view roots n
dropped_are view roots n = (
  (λ c. let f = filtered_from (λ m. not (has (reached_in view roots) m)) (names_of view) n (sym (sorted_has _ n) ∙ (has_is (dropped_of view roots) n).0 c) in
      record { listed = (has_is (names_of view) n).1 f.1; unreached = λ r. false≢true (sym (not_true (has (reached_in view roots) n) f.0) ∙ (reached_is view roots n).1 r) }),
  (λ d. (has_is (dropped_of view roots) n).1 (dropped_has view roots n ∙ and_both _ _ (not_from (has (reached_in view roots) n) (λ h. d.unreached ((reached_is view roots n).0 h))) ((has_is (names_of view) n).0 d.listed))),
)

-- what is imported only by what is dropped is dropped
pub dropped_closed : (view : View) (roots : List Name) (n : Name) → Contains (names_of view) n → (Contains roots n → ⊥) → ((m : Name) → imports view m n ≡ true → IsDropped view roots m) → IsDropped view roots n
dropped_closed view roots n listed not_root by_dropped = record { listed = listed; unreached = λ r. by_last (reaches_back (imports view) roots n r) }
  where
    by_last : Contains roots n ⊎ ReachedBy (imports view) roots n → ⊥
    by_last (inl c) = not_root c
    by_last (inr b) = (by_dropped b.from b.by).unreached b.reached
