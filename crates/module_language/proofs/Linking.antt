-- The links of a text are its imports, item by item.
use Rattle.std.proofs.Common.{◌≡◌, List, [], ◌∷◌, ◌++◌, Ok, Err, refl, ap, ◌∙◌}
use Rattle.std.specs.Prelude.{flat_map, map}
use Rattle.std.proofs.lemmas.List.{map-append}
use Rattle.module_tree.specs.Syntax.{ModuleTree}
use Rattle.hmr_types.specs.declared.analysis.TextFault.{TextFault}
use Rattle.module_tree.specs.declared.tree.ImportName.{ImportName}
use Rattle.module_semantics.specs.Analysis.{imported_by, meant}
use Rattle.module_semantics.specs.ModuleText.{parsing}
use Rattle.core_model.specs.Names.{Name}
use Rattle.core_model.specs.Sources.{Text}
use Rattle.client_model.specs.Language.{Binding, links_of}
use Rattle.module_language.specs.ModuleLanguage.{binding_to, bound_by, bound_in, linked_by, module_in, module_language, names_in}

-- the link of a binding
abbrev link : Binding → Name × Name
link b = (b.dependency, b.exported)

one_links : (dependency : Name) (imported : List ImportName) → map link (map (binding_to dependency) imported) ≡ map (λ n. (dependency, n.exported)) imported
one_links dependency [] = refl
one_links dependency (n ∷ imported) = ap (λ ls. (dependency, n.exported) ∷ ls) (one_links dependency imported)

each_links : (dependencies : List Name) (imported : List ImportName) → map link (flat_map (λ d. map (binding_to d) imported) dependencies) ≡ flat_map (λ d. map (λ n. (d, n.exported)) imported) dependencies
each_links [] imported = refl
each_links (d ∷ more) imported =
    map-append link (map (binding_to d) imported) (flat_map (λ k. map (binding_to k) imported) more)
    ∙ ap (λ ls. ls ++ map link (flat_map (λ k. map (binding_to k) imported) more)) (one_links d imported)
    ∙ ap (λ ls. map (λ n. (d, n.exported)) imported ++ ls) (each_links more imported)

items_link : (base : Name) (m : ModuleTree) → map link (bound_in base m) ≡ flat_map (linked_by base) m
items_link base [] = refl
items_link base (i ∷ m) =
    map-append link (bound_by base i) (bound_in base m)
    ∙ ap (λ ls. ls ++ map link (bound_in base m)) (each_links (meant base (imported_by i)) (names_in i))
    ∙ ap (λ ls. linked_by base i ++ ls) (items_link base m)

pub module_links : (n : Name) (t : Text) (m : ModuleTree) → parsing t ≡ Ok m → links_of module_language n t ≡ flat_map (linked_by n) m
module_links n t m h = ap (λ r. map link (bound_in n (module_in r))) h ∙ items_link n m

pub no_links : (n : Name) (t : Text) (fault : TextFault) → parsing t ≡ Err fault → links_of module_language n t ≡ []
no_links n t fault h = ap (λ r. map link (bound_in n (module_in r))) h
