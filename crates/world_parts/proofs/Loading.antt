-- A fresh load goes by what the module language imports.
use Rattle.std.proofs.Common.{◌≡◌, ℕ, List, [], ◌∷◌, ◌++◌, refl, sym, ap, ◌∙◌}
use Rattle.std.specs.Prelude.{flat_map, map, Option, Some, None, Result, Ok, Err}
use Rattle.hmr_types.specs.Specifier.{resolve}
use Rattle.hmr_types.specs.declared.analysis.TextFault.{TextFault}
use Rattle.hmr_types.specs.declared.specifier.SpecFault.{SpecFault}
use Rattle.module_tree.specs.Syntax as tree
use Rattle.module_tree.specs.Syntax.{ItemTree, ModuleTree}
use Rattle.module_tree.specs.declared.tree.ImportName.{ImportName}
use Rattle.module_semantics.specs.Analysis.{name_and}
use Rattle.module_semantics.specs.ModuleText.{parsing}
use Rattle.core_model.specs.Names.{Name, at, sorted}
use Rattle.core_model.specs.Sources.{Text, Serving}
use Rattle.core_model.specs.FreshLoad.{Served, fresh_load, reached_by, unlinked_edge, unlinked_module, fresh_table, missing_of}
use Rattle.client_model.specs.Language.{links_of}
use Rattle.import_links.specs.Links as scan
use Rattle.import_links.specs.Links.{links, links_in, linked}
use Rattle.module_language.specs.ModuleLanguage as language
use Rattle.module_language.specs.ModuleLanguage.{module_language}
use Rattle.module_language.proofs.Linking.{module_links, no_links}

append_none : {X : Type 0} (xs : List X) → xs ++ [] ≡ xs
append_none [] = refl
append_none (x ∷ xs) = ap (λ l. x ∷ l) (append_none xs)

linked_is : (o : Result (List ℕ) SpecFault) (names : List ImportName)
    → linked o names ≡ flat_map (λ d. map (λ n. (d, n.exported)) names) (name_and o [])
linked_is (Ok d) names = sym (append_none (map (λ n. (d, n.exported)) names))
linked_is (Err fault) names = refl

item_is : (base : Name) (i : ItemTree) → scan.linked_by base i ≡ language.linked_by base i
item_is base (tree.import spec names) = linked_is (resolve base spec) names
item_is base (tree.declare exported mutable n e) = refl
item_is base (tree.act a) = refl
item_is base (tree.own what) = refl
item_is base (tree.deps list specs code) = refl
item_is base (tree.dispose what) = refl
item_is base (tree.prune what) = refl
item_is base tree.decline = refl

items_are : (base : Name) (m : ModuleTree)
    → flat_map (scan.linked_by base) m ≡ flat_map (language.linked_by base) m
items_are base [] = refl
items_are base (i ∷ m) =
    ap (λ l. l ++ flat_map (scan.linked_by base) m) (item_is base i)
    ∙ ap (λ l. language.linked_by base i ++ l) (items_are base m)

links_by : (n : Name) (t : Text) (r : Result ModuleTree TextFault) → parsing t ≡ r
    → links_in n r ≡ links_of module_language n t
links_by n t (Ok m) e = items_are n m ∙ sym (module_links n t m e)
links_by n t (Err fault) e = sym (no_links n t fault e)

pub links_are : (n : Name) (t : Text) → links n t ≡ links_of module_language n t
links_are n t = links_by n t (parsing t) refl

flat_same : {X Y : Type 0} (f g : X → List Y) → ((x : X) → f x ≡ g x) → (xs : List X)
    → flat_map f xs ≡ flat_map g xs
flat_same f g e [] = refl
flat_same f g e (x ∷ xs) = ap (λ l. l ++ flat_map f xs) (e x) ∙ ap (λ l. g x ++ l) (flat_same f g e xs)

module _ (f g : Name → Text → List (Name × Name))
    (e : (n : Name) (t : Text) → f n t ≡ g n t) (served : Served) where
  same_module : (n : Name) (o : Option Serving) → unlinked_module f served n o ≡ unlinked_module g served n o
  same_module n None = refl
  same_module n (Some s) =
      ap (λ l. flat_map (λ m. unlinked_edge l (at served m) n m) (sorted s.analysis.imports)) (e n s.text)

  pub same_load : (roots : List Name) → fresh_load f served roots ≡ fresh_load g served roots
  same_load roots =
      ap (λ l. record { table = fresh_table served roots; missing = missing_of served roots; unlinked = l })
      (flat_same (λ n. unlinked_module f served n (at served n)) (λ n. unlinked_module g served n (at served n))
      (λ n. same_module n (at served n)) (reached_by served roots))

-- a fresh load as the core has it is that of the module language
pub load_is : (served : Served) (roots : List Name)
    → fresh_load links served roots ≡ fresh_load (links_of module_language) served roots
load_is served roots = same_load links (links_of module_language) links_are served roots
