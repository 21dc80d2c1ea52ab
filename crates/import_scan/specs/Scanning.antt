-- What the specifiers of a module mean, one item after another.
use Rattle.std.specs.Prelude.{ℕ, ◌+◌, not, nat_lt, ◌&&◌, ◌||◌, if◌then◌else◌, List, [], ◌∷◌, ◌++◌}
use Rattle.std.specs.Prelude.{length, flat_map, take, Option, Some, None, Result, Ok, Err}
use Rattle.module_tree.specs.Syntax as tree
use Rattle.module_tree.specs.Syntax.{ItemTree, ModuleTree}
use Rattle.hmr_types.specs.Specifier.{resolve}
use Rattle.hmr_types.specs.Results.{◌>>=◌}
use Rattle.hmr_types.specs.declared.specifier.SpecFault.{SpecFault}
use Rattle.hmr_types.specs.declared.limits.TheConstants.{IMPORTS}
use Rattle.module_semantics.specs.Analysis.{accepted_by, first_refusal, firsts, imported_by}
use Rattle.module_semantics.specs.Analysis.{meant, specifiers_of}
use Rattle.module_semantics.specs.Entries.{has_name}
use Rattle.import_scan.specs.declared.specifiers.Meant as code

-- the imported modules, each once and one more than may be at most; and the accepted ones
pub record Meant : Type 0 where
  pub imported : List (List ℕ)
  pub accepted : List (List ℕ)

-- what the code has met
abbrev pub meant_of : code.Meant → Meant
meant_of m = record { imported = m.imported.items; accepted = m.accepted.items }

-- no specifier was read yet
abbrev pub none_meant : Meant
none_meant = record { imported = []; accepted = [] }

-- one more name behind those that came, where it is new and they aren't too many
abbrev pub add_import : List (List ℕ) → List ℕ → List (List ℕ)
add_import came n = if has_name n came || nat_lt IMPORTS (length came) then came else came ++ n ∷ []

-- one more module is imported
abbrev pub import_more : Meant → List ℕ → Meant
import_more m n = record m { imported = add_import m.imported n }

-- one more module is accepted
abbrev pub accept_more : Meant → List ℕ → Meant
accept_more m n = record m { accepted = m.accepted ++ n ∷ [] }

-- the specifier of an import
abbrev pub with_import : List ℕ → Meant → List ℕ → Result Meant SpecFault
with_import base m spec = resolve base spec >>= λ n. Ok (import_more m n)

-- the specifiers of an accept
abbrev pub with_accepts : List ℕ → Meant → List (List ℕ) → Result Meant SpecFault
with_accepts base m [] = Ok m
with_accepts base m (spec ∷ specs) = resolve base spec >>= λ n. with_accepts base (accept_more m n) specs

-- the specifiers of one more item
abbrev pub with_item : List ℕ → Meant → ItemTree → Result Meant SpecFault
with_item base m (tree.import spec names) = with_import base m spec
with_item base m (tree.declare exported mutable n e) = Ok m
with_item base m (tree.act a) = Ok m
with_item base m (tree.own what) = Ok m
with_item base m (tree.deps list specs code) = with_accepts base m specs
with_item base m (tree.dispose what) = Ok m
with_item base m (tree.prune what) = Ok m
with_item base m tree.decline = Ok m

-- the specifiers of more items
abbrev pub with_items : List ℕ → Meant → ModuleTree → Result Meant SpecFault
with_items base m [] = Ok m
with_items base m (i ∷ items) = with_item base m i >>= λ next. with_items base next items

-- the refusal, where there is one
abbrev pub unless : {A : Type 0} → Option SpecFault → A → Result A SpecFault
unless None x = Ok x
unless (Some fault) x = Err fault

-- what all specifiers of a module mean, or the first refusal
abbrev pub meant_in : List ℕ → ModuleTree → Result Meant SpecFault
meant_in base m = unless (first_refusal base (flat_map specifiers_of m)) (record {
  imported = take (IMPORTS + 1) (firsts (meant base (flat_map imported_by m)));
  accepted = meant base (flat_map accepted_by m);
})

-- one more name behind those that came, where it is new and among the others
abbrev pub add_among : List (List ℕ) → List (List ℕ) → List ℕ → List (List ℕ)
add_among others came n = if has_name n others && not (has_name n came) then came ++ n ∷ [] else came
