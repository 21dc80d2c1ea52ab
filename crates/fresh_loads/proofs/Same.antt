-- The fresh load goes by what is looked up: it is the same where the same is served of each name.
use Rattle.std.proofs.Common.{◌≡◌, List, [], ◌∷◌, ◌++◌, refl, ap, sym, ◌∙◌}
use Rattle.std.specs.Prelude.{filter, flat_map, is_some, not, Option, Some, None}
use Rattle.core_model.specs.Names.{Name, has, at, collect, sorted, with_entry}
use Rattle.core_model.specs.Paths.{Reaches}
use Rattle.core_model.specs.Rounds.{reached_of}
use Rattle.core_model.specs.Sources.{Text, Serving}
use Rattle.core_model.specs.FreshLoad.{Served, FreshLoad, fresh_load, imports, imports_in, imported_by_served, reached_by, unlinked_edge, unlinked_module, version_in}
use Rattle.core_model.proofs.Loading.{reached_is}
use Rattle.core_model.proofs.Naming.{same_test}
use Rattle.core_model.proofs.Reaching.{reaches_on, reaches_start, reaches_within}
use Rattle.module_graph.proofs.Sorting.{same_rising, sorted_rising}
use Rattle.version_map.proofs.Alike.{same_filtered}

same_collected : {X : Type 0} (f g : Name → Option X) (names : List Name) → ((n : Name) → f n ≡ g n) → collect f names ≡ collect g names
same_collected f g [] e = refl
same_collected f g (n ∷ names) e = ap (λ o. with_entry n o (collect f names)) (e n) ∙ ap (with_entry n (g n)) (same_collected f g names e)

same_mapped : {X : Type 0} (f g : Name → List X) (names : List Name) → ((n : Name) → f n ≡ g n) → flat_map f names ≡ flat_map g names
same_mapped f g [] e = refl
same_mapped f g (n ∷ names) e = ap (λ l. l ++ flat_map f names) (e n) ∙ ap (λ l. g n ++ l) (same_mapped f g names e)

module _ (links : Name → Text → List (Name × Name)) where
  same_module : (s t : Served) → ((n : Name) → at s n ≡ at t n) → (n : Name) (o : Option Serving) → unlinked_module links s n o ≡ unlinked_module links t n o
  same_module s t e n None = refl
  same_module s t e n (Some x) = same_mapped (λ m. unlinked_edge (links n x.text) (at s m) n m) (λ m. unlinked_edge (links n x.text) (at t m) n m) (sorted x.analysis.imports) (λ m. ap (λ o. unlinked_edge (links n x.text) o n m) (e m))

  module _ (s t : Served) (e : (n : Name) → at s n ≡ at t n) (roots : List Name) where
    same_edge : (n m : Name) → imports s n m ≡ imports t n m
    same_edge n m = ap (λ o. has (imports_in o) m) (e n)

    carried : (m : Name) → Reaches (imports s) roots m → Reaches (imports t) roots m
    carried m r = reaches_within (imports s) roots (Reaches (imports t) roots) (λ n c. reaches_start (imports t) roots n c) (λ n k q h. reaches_on (imports t) roots n k q (sym (same_edge n k) ∙ h)) m r

  pub same_reached : (s t : Served) → ((n : Name) → at s n ≡ at t n) → (roots : List Name) → reached_by s roots ≡ reached_by t roots
  same_reached s t e roots = same_rising (reached_by s roots) (reached_by t roots) (sorted_rising (reached_of (imports s) (imported_by_served s) roots)) (sorted_rising (reached_of (imports t) (imported_by_served t) roots))
      (λ n. same_test (has (reached_by s roots) n) (has (reached_by t roots) n)
      (λ h. (reached_is t roots n).1 (carried s t e roots n ((reached_is s roots n).0 h)))
      (λ h. (reached_is s roots n).1 (carried t s (λ k. sym (e k)) roots n ((reached_is t roots n).0 h))))

  -- what each part is over the names
  abbrev load_over : Served → List Name → FreshLoad
  load_over s names = record {
    table = collect (λ n. version_in (at s n)) names;
    missing = filter (λ n. not (is_some (at s n))) names;
    unlinked = flat_map (λ n. unlinked_module links s n (at s n)) names;
  }

  same_over : (s t : Served) → ((n : Name) → at s n ≡ at t n) → (names : List Name) → load_over s names ≡ load_over t names
  same_over s t e names =
      ap (λ l. record { table = l; missing = filter (λ n. not (is_some (at s n))) names; unlinked = flat_map (λ n. unlinked_module links s n (at s n)) names }) (same_collected (λ n. version_in (at s n)) (λ n. version_in (at t n)) names (λ n. ap version_in (e n)))
      ∙ ap (λ l. record { table = collect (λ n. version_in (at t n)) names; missing = l; unlinked = flat_map (λ n. unlinked_module links s n (at s n)) names }) (same_filtered (λ n. not (is_some (at s n))) (λ n. not (is_some (at t n))) names (λ n. ap (λ o. not (is_some o)) (e n)))
      ∙ ap (λ l. record { table = collect (λ n. version_in (at t n)) names; missing = filter (λ n. not (is_some (at t n))) names; unlinked = l }) (same_mapped (λ n. unlinked_module links s n (at s n)) (λ n. unlinked_module links t n (at t n)) names (λ n. same_module s t e n (at s n) ∙ ap (unlinked_module links t n) (e n)))

  pub same_load : (s t : Served) → ((n : Name) → at s n ≡ at t n) → (roots : List Name) → fresh_load links s roots ≡ fresh_load links t roots
  same_load s t e roots = same_over s t e (reached_by s roots) ∙ ap (load_over t) (same_reached s t e roots)
