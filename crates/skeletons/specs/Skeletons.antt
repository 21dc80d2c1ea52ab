-- The module of the module language that says what is told: its imports without names, and the calls of `import.meta.hot`.
use Rattle.std.specs.Prelude.{ℕ, List, [], ◌∷◌, ◌++◌, Bool, true, false, map, None, codes}
use Rattle.hmr_types.specs.declared.analysis.Analysis.{Analysis}
use Rattle.module_tree.specs.Syntax.{ItemTree, ModuleTree, import, declare, own, deps, decline, num}

-- `import "NAME";`
abbrev pub import_item : List ℕ → ItemTree
import_item n = import n []

-- `import.meta.hot.accept();`
abbrev pub own_items : Bool → List ItemTree
own_items true = own None ∷ []
own_items false = []

-- `import.meta.hot.accept(["NAME", ..]);`
abbrev pub accept_items : List (List ℕ) → List ItemTree
accept_items [] = []
accept_items (n ∷ ns) = deps true (n ∷ ns) None ∷ []

-- `import.meta.hot.decline();`
abbrev pub decline_items : Bool → List ItemTree
decline_items true = decline ∷ []
decline_items false = []

-- what is told
unfoldable pub said : Analysis → ModuleTree
said a = map import_item a.imports
    ++ (own_items a.self_accepts ++ (accept_items a.accepted ++ decline_items a.declined))

-- `const $$stamp = STAMP;`, which tells one text of a module from another of which the same is told
abbrev pub stamp_item : ℕ → ItemTree
stamp_item stamp = declare false false (codes "$$stamp") (num stamp)

-- the module, with a stamp
abbrev pub skeleton : ℕ → Analysis → ModuleTree
skeleton stamp a = stamp_item stamp ∷ said a
