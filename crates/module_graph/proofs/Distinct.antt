-- Lists without equal names: one name more, and that such a list is no longer than one with its names.
use Rattle.std.proofs.Common.{◌≡◌, ◌⊎◌, inl, inr, ◌≤◌, true, false, List, [], ◌∷◌, ◌++◌, length, refl, ap, sym, ◌∙◌, arith}
use Rattle.std.specs.Prelude.{filter, not, ◌||◌}
use Rattle.std.proofs.lemmas.Bool.{false≢true}
use Rattle.std.proofs.lemmas.List.Filters.{length-filter_both}
use Prim.{⊥}
use Rattle.core_model.specs.Names.{Name, same_name, has}
use Rattle.core_model.specs.Roots.{are_distinct}
use Rattle.core_model.proofs.Naming.{same_true, true_same, both_true, and_both, not_true, not_from, neither, head_has, tail_has, has_more, more_cases, filtered_in}
use Rattle.module_graph.proofs.Sets.{or_last}
use Rattle.module_graph.specs.Paths.{AreMarked}

pub none_marked : AreMarked [] []
none_marked = record { distinct = refl; marked = λ n. refl }

-- a name that isn't in the list, at its end
pub distinct_more : (names : List Name) (n : Name) → are_distinct names ≡ true → has names n ≡ false → are_distinct (names ++ n ∷ []) ≡ true
distinct_more [] n d h = refl
distinct_more (k ∷ names) n d h =
    let p = both_true (not (has names k)) _ d in
    let q = neither (same_name k n) (has names n) h in
    and_both (not (has (names ++ n ∷ []) k)) _ (not_from _ (λ t. by (more_cases names n k t) (not_true _ p.0) q.0)) (distinct_more names n p.1 q.1)
  where
    by : (has names k ≡ true) ⊎ (n ≡ k) → has names k ≡ false → same_name k n ≡ false → ⊥
    by (inl t) f s = false≢true (sym f ∙ t)
    by (inr e) f s = false≢true (sym s ∙ true_same k n (sym e))

pub marked_more : (marks names : List Name) (n : Name) (marks_now names_now : List Name) → AreMarked marks names → has marks n ≡ false → ((k : Name) → has marks_now k ≡ (same_name n k || has marks k)) → names_now ≡ names ++ n ∷ [] → AreMarked marks_now names_now
marked_more marks names n marks_now names_now a h f e = record {
  distinct = ap are_distinct e ∙ distinct_more names n a.distinct (sym (a.marked n) ∙ h);
  marked = λ k. f k ∙ ap (λ b. same_name n k || b) (a.marked k) ∙ sym (or_last (has names k) (same_name n k)) ∙ sym (has_more names n k) ∙ ap (λ l. has l k) (sym e);
}

some_has : (names : List Name) (n : Name) → has names n ≡ true → 1 ≤ length names
some_has [] n h = absurd (false≢true h)
some_has (k ∷ names) n h = omega arith

-- names of another list, no two equal, are at most as many as its own
pub at_most : (xs ys : List Name) → are_distinct xs ≡ true → ((n : Name) → has xs n ≡ true → has ys n ≡ true) → length xs ≤ length ys
at_most [] ys d f = omega arith
at_most (x ∷ xs) ys d f =
    let p = both_true (not (has xs x)) _ d in
    let others = filter (λ m. not (same_name x m)) ys in
    let rest : length xs ≤ length others = at_most xs others p.1 (λ n h. filtered_in (λ m. not (same_name x m)) ys n
    (not_from _ (λ s. false≢true (sym (not_true _ p.0) ∙ ap (has xs) (same_true x n s) ∙ h))) (f n (tail_has x xs n h))) in
    let one : 1 ≤ length (filter (same_name x) ys) = some_has (filter (same_name x) ys) x (filtered_in (same_name x) ys x (true_same x x refl) (f x (head_has x xs))) in
    omega (arith, rest, one, length-filter_both (same_name x) (λ m. not (same_name x m)) (λ m. refl) ys)
