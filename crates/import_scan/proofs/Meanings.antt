-- What the specifiers of a module mean, read one item after another, is what they mean.
use Rattle.std.proofs.Common.{◌≡◌, ℕ, List, [], ◌∷◌, ◌++◌, refl, ap, sym, ◌∙◌, Result, Ok, Err}
use Rattle.std.specs.Prelude.{flat_map}
use Rattle.std.proofs.lemmas.List.{append_assoc, append-nil}
use Rattle.hmr_types.specs.Results.{◌>>=◌}
use Rattle.hmr_types.specs.Specifier.{resolve}
use Rattle.module_tree.specs.Syntax as tree
use Rattle.module_tree.specs.Syntax.{ItemTree, ModuleTree}
use Rattle.hmr_types.specs.declared.specifier.SpecFault.{SpecFault}
use Rattle.module_semantics.specs.Analysis.{accepted_by, first_refusal, imported_by, meant, name_and, refusal_or, specifiers_of}
use Rattle.import_scan.specs.Scanning.{Meant, accept_more, import_more, meant_in, none_meant, unless, with_accepts, with_items}
use Rattle.import_scan.proofs.Firsts.{all_imports, import_firsts}

-- what is met, and what these names add to it
abbrev ended : Meant → List (List ℕ) → List (List ℕ) → Meant
ended m imported accepted = record { imported = all_imports m.imported imported; accepted = m.accepted ++ accepted }

-- the end of an item's specifiers and of those of the later items
abbrev read : List ℕ → Meant → List (List ℕ) → ModuleTree → Result Meant SpecFault
read base m specs items =
    unless (first_refusal base (specs ++ flat_map specifiers_of items))
    (ended m (meant base (flat_map imported_by items)) (meant base (specs ++ flat_map accepted_by items)))

import_step : (base : List ℕ) (m : Meant) (r : Result (List ℕ) SpecFault) (items : ModuleTree) → ((next : Meant) → with_items base next items ≡ read base next [] items)
    → (r >>= (λ n. Ok (import_more m n)) >>= λ next. with_items base next items)
    ≡ unless (refusal_or r (first_refusal base (flat_map specifiers_of items))) (ended m (name_and r (meant base (flat_map imported_by items))) (meant base (flat_map accepted_by items)))
import_step base m (Ok n) items more = more (import_more m n)
import_step base m (Err fault) items more = refl

accept_step : (base : List ℕ) (m : Meant) (r : Result (List ℕ) SpecFault) (specs : List (List ℕ)) (items : ModuleTree)
    → ((next : Meant) → (with_accepts base next specs >>= λ last. with_items base last items) ≡ read base next specs items)
    → ((r >>= λ n. with_accepts base (accept_more m n) specs) >>= λ last. with_items base last items)
    ≡ unless (refusal_or r (first_refusal base (specs ++ flat_map specifiers_of items)))
    (ended m (meant base (flat_map imported_by items)) (name_and r (meant base (specs ++ flat_map accepted_by items))))
accept_step base m (Ok n) specs items more =
    let names : List (List ℕ) = meant base (specs ++ flat_map accepted_by items) in
    more (accept_more m n)
    ∙ ap (λ l. unless (first_refusal base (specs ++ flat_map specifiers_of items)) (record { imported = all_imports m.imported (meant base (flat_map imported_by items)); accepted = l }))
    (append_assoc m.accepted (n ∷ []) names)
accept_step base m (Err fault) specs items more = refl

accepts : (base : List ℕ) (m : Meant) (specs : List (List ℕ)) (items : ModuleTree) → ((next : Meant) → with_items base next items ≡ read base next [] items)
    → (with_accepts base m specs >>= λ last. with_items base last items) ≡ read base m specs items
accepts base m [] items more = more m
accepts base m (spec ∷ specs) items more = accept_step base m (resolve base spec) specs items (λ next. accepts base next specs items more)

item_step : (base : List ℕ) (m : Meant) (i : ItemTree) (items : ModuleTree) → ((next : Meant) → with_items base next items ≡ read base next [] items)
    → with_items base m (i ∷ items) ≡ read base m [] (i ∷ items)
item_step base m (tree.import spec names) items more = import_step base m (resolve base spec) items more
item_step base m (tree.declare exported mutable n e) items more = more m
item_step base m (tree.act a) items more = more m
item_step base m (tree.own what) items more = more m
item_step base m (tree.deps list specs code) items more = accepts base m specs items more
item_step base m (tree.dispose what) items more = more m
item_step base m (tree.prune what) items more = more m
item_step base m tree.decline items more = more m

all_read : (base : List ℕ) (m : Meant) (items : ModuleTree) → with_items base m items ≡ read base m [] items
all_read base m [] = ap (λ l. Ok (record { imported = m.imported; accepted = l })) (sym (append-nil m.accepted))
all_read base m (i ∷ items) = item_step base m i items (λ next. all_read base next items)

-- what the items' specifiers mean, from the first item on
pub all_meant : (base : List ℕ) (items : ModuleTree) → with_items base none_meant items ≡ meant_in base items
all_meant base items =
    all_read base none_meant items
    ∙ ap (λ l. unless (first_refusal base (flat_map specifiers_of items)) (record { imported = l; accepted = meant base (flat_map accepted_by items) })) (import_firsts (meant base (flat_map imported_by items)))

-- from a beginning at which nothing came
pub meant_from : (base : List ℕ) (a b : List (List ℕ)) (items : ModuleTree) → a ≡ [] → b ≡ [] → with_items base (record { imported = a; accepted = b }) items ≡ meant_in base items
meant_from base a b items none nor =
    ap (λ l. with_items base (record { imported = l; accepted = b }) items) none ∙ ap (λ l. with_items base (record { imported = []; accepted = l }) items) nor
    ∙ all_meant base items
