-- What holds of each analysis.
use Rattle.std.proofs.Common.{◌≡◌, ◌≤◌, ℕ, Bool, true, false, if◌then◌else◌, List, [], ◌∷◌, length, refl, ap, ◌∙◌, subst, Result, Ok, Err, Option, Some, None}
use Rattle.std.specs.Prelude.{bytes_eq, not, ◌&&◌, ◌||◌, filter, nat_lt, flat_map, cond}
use Rattle.std.specs.List.{list_all}
use Rattle.std.proofs.lemmas.Bool.{and_parts, and_from, not-true, ltb-false, true≢false}
use Rattle.std.proofs.lemmas.Map.Views.{any-filter_same}
use Rattle.module_tree.specs.Syntax.{ModuleTree}
use Rattle.hmr_types.specs.declared.analysis.Analysis.{Analysis}
use Rattle.hmr_types.specs.declared.specifier.SpecFault.{SpecFault}
use Rattle.module_semantics.specs.declared.scanning.ScanFault.{ScanFault}
use Rattle.module_semantics.specs.declared.scanning.ScanFault.TheVariants as scan
use Rattle.module_semantics.specs.Entries.{has_name, are_different}
use Rattle.module_semantics.specs.Analysis.{analysed, analysis_of, imports_of, imported_by, accepted_by, meant, if_all_mean, if_few, first_refusal, specifiers_of, firsts, IsWellMade}

absent_step : (m n : List ℕ) (ns kept : List (List ℕ)) (b : Bool) → (bytes_eq n m || has_name m ns) ≡ false → (has_name m ns ≡ false → has_name m kept ≡ false)
    → has_name m (cond b (n ∷ kept) kept) ≡ false
absent_step m n ns kept b h more = by (bytes_eq n m) refl b h where
  by : (a : Bool) → bytes_eq n m ≡ a → (b : Bool) → (a || has_name m ns) ≡ false → has_name m (cond b (n ∷ kept) kept) ≡ false
  by true is b h = absurd (true≢false h)
  by false is true h = ap (λ a. a || has_name m kept) is ∙ more h
  by false is false h = more h

-- a name that isn't there isn't there after a filter
absent_after : (m : List ℕ) (p : List ℕ → Bool) (ns : List (List ℕ)) → has_name m ns ≡ false → has_name m (filter p ns) ≡ false
absent_after m p [] h = h
absent_after m p (n ∷ ns) h = absent_step m n ns (filter p ns) (p n) h (absent_after m p ns)

different_step : (n : List ℕ) (p : List ℕ → Bool) (ns : List (List ℕ)) (b : Bool) → (not (has_name n ns) && are_different ns) ≡ true
    → (are_different ns ≡ true → are_different (filter p ns) ≡ true) → are_different (cond b (n ∷ filter p ns) (filter p ns)) ≡ true
different_step n p ns true h more =
    let both = and_parts (not (has_name n ns)) (are_different ns) h in
    and_from (not (has_name n (filter p ns))) (are_different (filter p ns)) (ap not (absent_after n p ns (not-true (has_name n ns) both.0))) (more both.1)
different_step n p ns false h more = more (and_parts (not (has_name n ns)) (are_different ns) h).1

-- different names stay different after a filter
different_after : (p : List ℕ → Bool) (ns : List (List ℕ)) → are_different ns ≡ true → are_different (filter p ns) ≡ true
different_after p [] h = h
different_after p (n ∷ ns) h = different_step n p ns (p n) h (different_after p ns)

-- names that come once each are different
firsts_different : (ns : List (List ℕ)) → are_different (firsts ns) ≡ true
firsts_different [] = refl
firsts_different (n ∷ ns) =
    let gone : has_name n (filter (λ m. not (bytes_eq m n)) (firsts ns)) ≡ false = any-filter_same (λ m. bytes_eq m n) (λ m. not (bytes_eq m n)) false (λ k is. ap not is) (firsts ns) in
    and_from (not (has_name n (filter (λ m. not (bytes_eq m n)) (firsts ns)))) (are_different (filter (λ m. not (bytes_eq m n)) (firsts ns)))
    (ap not gone) (different_after (λ m. not (bytes_eq m n)) (firsts ns) (firsts_different ns))

all_step : (p : List ℕ → Bool) (n : List ℕ) (kept : List (List ℕ)) (b : Bool) → p n ≡ b → list_all p kept ≡ true → list_all p (cond b (n ∷ kept) kept) ≡ true
all_step p n kept true is more = and_from (p n) (list_all p kept) is more
all_step p n kept false is more = more

-- what a filter keeps passes it
all_pass : (p : List ℕ → Bool) (ns : List (List ℕ)) → list_all p (filter p ns) ≡ true
all_pass p [] = refl
all_pass p (n ∷ ns) = all_step p n (filter p ns) (p n) refl (all_pass p ns)

well_made : (base : List ℕ) (m : ModuleTree) → length (imports_of base m) ≤ 256 → IsWellMade (analysis_of base m)
well_made base m few = record {
  imports = firsts_different (meant base (flat_map imported_by m));
  few = few;
  accepted = different_after (λ n. has_name n (imports_of base m)) (firsts (meant base (flat_map accepted_by m))) (firsts_different (meant base (flat_map accepted_by m)));
  among = all_pass (λ n. has_name n (imports_of base m)) (firsts (meant base (flat_map accepted_by m)));
}

few_step : (base : List ℕ) (m : ModuleTree) (a : Analysis) (b : Bool) → nat_lt 256 (length (imports_of base m)) ≡ b
    → ◌≡◌ {A = Result Analysis ScanFault} (if b then Err scan.TooManyImports else Ok (analysis_of base m)) (Ok a) → IsWellMade a
few_step base m a true is h = absurd (cc)
few_step base m a false is h =
    let same : analysis_of base m ≡ a = cc in
    subst IsWellMade same (well_made base m (ltb-false 256 (length (imports_of base m)) is))

mean_step : (base : List ℕ) (m : ModuleTree) (a : Analysis) (o : Option SpecFault) → if_all_mean o (if_few (analysis_of base m)) ≡ Ok a → IsWellMade a
mean_step base m a None h = few_step base m a (nat_lt 256 (length (imports_of base m))) refl h
mean_step base m a (Some fault) h = absurd (cc)

pub analysed_well : (base : List ℕ) (m : ModuleTree) (a : Analysis) → analysed base m ≡ Ok a → IsWellMade a
analysed_well base m a h = mean_step base m a (first_refusal base (flat_map specifiers_of m)) h
