-- What is served under each name tells all bodies.
use Rattle.std.proofs.Common.{◌≡◌, ℕ, List, [], ◌∷◌, Option, Some, None, Result, Ok, Err, IfSome, refl, ap, subst, ◌∙◌}
use Rattle.std.specs.Prelude.{if◌then◌else◌}
use mathlib.Core.Path.{fun_ext}
use Rattle.hmr_types.specs.ModName.{is_name}
use Rattle.hmr_types.specs.Specifier.{resolve}
use Rattle.hmr_types.specs.declared.analysis.TextFault.{TextFault}
use Rattle.hmr_types.specs.declared.specifier.SpecFault.{SpecFault}
use Rattle.core_model.specs.Names.{Name, at}
use Rattle.core_model.specs.Sources.{Serving, Sources}
use Rattle.module_tree.specs.Syntax as tree
use Rattle.module_tree.specs.Syntax.{ItemTree, ModuleTree}
use Rattle.module_semantics.specs.Canon.{canon}
use Rattle.module_semantics.specs.ModuleText.{parsing}
use Rattle.http_exchange.specs.declared.exchange.HttpEnd.{HttpEnd}
use Rattle.http_exchange.specs.Serving.{Serves}
use Rattle.http_modules.specs.Rewriting.{body_of, rewrite, rewrite_item, rewritten_text, served_text, versioned, with_version}

abbrev SameServed : Sources → Sources → Type 0
SameServed a b = (n : Name) → at a.served n ≡ at b.served n

same_versioned : (a b : Sources) → SameServed a b → (spec : List ℕ) (r : Result (List ℕ) SpecFault) → versioned a spec r ≡ versioned b spec r
same_versioned a b h spec (Ok name) = ap (with_version name) (h name)
same_versioned a b h spec (Err fault) = refl

same_item : (a b : Sources) → SameServed a b → (base : List ℕ) (i : ItemTree) → rewrite_item base a i ≡ rewrite_item base b i
same_item a b h base (tree.import spec names) = ap (λ s. tree.import s names) (same_versioned a b h spec (resolve base spec))
same_item a b h base (tree.declare exported mutable n e) = refl
same_item a b h base (tree.act s) = refl
same_item a b h base (tree.own o) = refl
same_item a b h base (tree.deps list specs call) = refl
same_item a b h base (tree.dispose o) = refl
same_item a b h base (tree.prune o) = refl
same_item a b h base tree.decline = refl

same_module : (a b : Sources) → SameServed a b → (base : List ℕ) (m : ModuleTree) → rewrite base m a ≡ rewrite base m b
same_module a b h base [] = refl
same_module a b h base (i ∷ is) = rw (same_item a b h base i, same_module a b h base is) refl

same_text : (a b : Sources) → SameServed a b → (name : List ℕ) (r : Result ModuleTree TextFault) → rewritten_text name a r ≡ rewritten_text name b r
same_text a b h name (Ok m) = ap (λ x. Some (canon x)) (same_module a b h name m)
same_text a b h name (Err fault) = refl

same_serving : (a b : Sources) → SameServed a b → (name : List ℕ) (s : Option Serving) → served_text name a s ≡ served_text name b s
same_serving a b h name None = refl
same_serving a b h name (Some s) = same_text a b h name (parsing s.text)

same_body : (a b : Sources) → SameServed a b → (bytes : List ℕ) → body_of a bytes ≡ body_of b bytes
same_body a b h bytes =
    ap (λ x. if is_name bytes then x else None) (same_serving a b h bytes (at a.served bytes) ∙ ap (served_text bytes b) (h bytes))

pub serves_same : (a b : Sources) → SameServed a b → (left old new : Option (List ℕ)) (end : HttpEnd)
    → IfSome left (λ bytes. Serves (body_of a) bytes old new end) → IfSome left (λ bytes. Serves (body_of b) bytes old new end)
serves_same a b h left old new end serves =
    subst (λ bodies. IfSome left (λ bytes. Serves bodies bytes old new end)) (fun_ext (same_body a b h)) serves
