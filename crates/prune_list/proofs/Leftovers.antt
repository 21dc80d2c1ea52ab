-- What a search leaves over is what is dropped.
use Rattle.std.proofs.Common.{◌≡◌, ◌↔◌, Bool, List, ap, sym, ◌∙◌, Contains}
use Rattle.std.specs.Prelude.{filter, not, ◌&&◌}
use Rattle.core_model.specs.Names.{Name, has, names_of, sorted}
use Rattle.core_model.specs.Paths.{Reaches}
use Rattle.core_model.specs.View.{View, imports, reached_in, dropped_of}
use Rattle.core_model.proofs.Naming.{has_is, same_test, filtered_has, sorted_has}
use Rattle.core_model.proofs.Views.{reached_is}
use Rattle.module_graph.proofs.Sorting.{rising_is_sorted, sorted_rising}

-- what is known is what the rounds reach
same_known : (view : View) (roots known : List Name) → ((m : Name) → Contains known m ↔ Reaches (imports view) roots m) → (n : Name) → has known n ≡ has (reached_in view roots) n
same_known view roots known is n = same_test (has known n) (has (reached_in view roots) n)
    (λ h. (reached_is view roots n).1 ((is n).0 ((has_is known n).1 h)))
    (λ h. (has_is known n).0 ((is n).1 ((reached_is view roots n).0 h)))

-- the marks have the known names
pub marked_is : (view : View) (roots known marks : List Name) → ((m : Name) → Contains known m ↔ Reaches (imports view) roots m) → ((m : Name) → has marks m ≡ has known m) → (m : Name) → Contains marks m ↔ Reaches (imports view) roots m
marked_is view roots known marks is same m = (
  (λ c. (is m).0 ((has_is known m).1 (sym (same m) ∙ (has_is marks m).0 c))),
  (λ r. (has_is marks m).1 (same m ∙ (has_is known m).0 ((is m).1 r))),
)

left_has : (test : Name → Bool) (names : List Name) (n : Name) → has (filter (λ k. not (test k)) names) n ≡ (not (test n) && has names n)
left_has test names n = filtered_has (λ k. not (test k)) names n

pub left_is : (view : View) (roots known out : List Name) → ((m : Name) → Contains known m ↔ Reaches (imports view) roots m) → out ≡ sorted (filter (λ n. not (has known n)) (names_of view)) → out ≡ dropped_of view roots
left_is view roots known out is e = e ∙ rising_is_sorted (sorted (filter (λ n. not (has known n)) (names_of view))) (filter (λ n. not (has (reached_in view roots) n)) (names_of view)) (sorted_rising (filter (λ n. not (has known n)) (names_of view)))
    (λ n. sorted_has (filter (λ k. not (has known k)) (names_of view)) n ∙ left_has (has known) (names_of view) n ∙ ap (λ b. not b && has (names_of view) n) (same_known view roots known is n) ∙ sym (left_has (has (reached_in view roots)) (names_of view) n))
