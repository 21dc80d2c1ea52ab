-- The canonical tokens of items and of whole modules are written as them.
use Rattle.std.proofs.Common.{◌≡◌, ℕ, ◌≤◌, List, [], ◌∷◌, ◌++◌, map, Bool, true, false, cond, Some, None, refl, sym, ap, ◌∙◌, codes, arith}
use Rattle.std.proofs.lemmas.List.{map-append}
use Rattle.std.specs.List.{list_all}
use Rattle.std.specs.Str.{bytes_eq}
use Rattle.module_tree.specs.Syntax as tree
use Rattle.module_tree.specs.Syntax.{ExprTree, StmtTree, ItemTree, ModuleTree}
use Rattle.module_tree.specs.declared.tree.ImportName.{ImportName}
use Rattle.module_semantics.specs.Token as token
use Rattle.module_semantics.specs.Token.{Token, LineToken}
use Rattle.module_semantics.specs.Kinds.{name_at, free_names}
use Rattle.module_semantics.specs.Raw as raw
use Rattle.module_semantics.specs.Raw.{RawItem, RawImport}
use Rattle.module_semantics.specs.Reading.{flat}
use Rattle.module_semantics.specs.Spelling as spell
use Rattle.module_semantics.specs.Spelling.{Spell, ◌>>◌, ◌▸◌, Listed, items_of}
use Rattle.module_semantics.specs.Grammar as grammar
use Rattle.module_semantics.specs.Grammar.{StmtD, TopD, SpecD, DeclD, ItemD, ModuleD, stmt_spelt, stmt_raw, stmt_depth, top_spelt, top_raw, top_depth, spec_spelt, spec_raw, decl_spelt, decl_raw, decl_depth, item_spelt, item_raw, item_depth, module_spelt, module_raw, module_depth, deepest}
use Rattle.module_semantics.specs.NameRules.{outside, names_of, item_broken, bound_by, lets_by, repeated, all_broken, least, first_broken}
use Rattle.module_semantics.specs.Resolving.{import_name, item_tree, module_tree}
use Rattle.module_semantics.specs.CanonTokens.{stmt_tokens, fits_name, fits_expr, fits_stmt}
use Rattle.module_semantics.specs.CanonItems.{import_name_tokens, import_tokens, item_tokens, canon_tokens, item_deep, module_deep}
use Rattle.module_semantics.specs.Fitting.{distinct, at_top, fits_import, fits_item, bound_names, let_names, module_lets}
use Rattle.module_semantics.proofs.PiecesLex.{both}
use Rattle.module_semantics.proofs.Marks.{same_bytes}
use Rattle.module_semantics.proofs.CanonLevels.{no_line_tokens}
use Rattle.module_semantics.proofs.CanonStmts.{StmtMeans}
use Rattle.module_semantics.proofs.CanonSteps.{Done, Writes, end_alone, take, past_import, past_export, past_const, past_let, past_equals, past_name, past_key, past_text, past_as, past_from, past_open_brace, past_close_brace}
use Rattle.module_semantics.proofs.CanonParts.{AllMean, expr_by}
use Rattle.module_semantics.proofs.CanonBodies.{stmt_by}
use Rattle.module_semantics.proofs.CanonHandlers.{unrepeated}
use Rattle.module_semantics.proofs.CanonCalls.{Says, PartSays, listed_by, own_call_by, deps_call_by, dispose_by, prune_by, decline_by}

-- a derivation of an item says this item alone
pub record ItemMeans (lets : List (List ℕ)) (i : ItemTree) (d : ItemD) : Type 0 where
  pub item : RawItem
  pub is : item_raw d ≡ item ∷ []
  pub said : Says lets i item
  pub shallow : item_depth d ≤ item_deep i

top_item : (lets : List (List ℕ)) (i : ItemTree) (toks : List Token) → Writes top_spelt (PartSays top_raw top_depth lets i) toks → Writes item_spelt (ItemMeans lets i) toks
top_item lets i toks a us r h = let d = a us r h in record { by = grammar.ItemD.top d.by; spells = d.spells; means = record { item = top_raw d.by; is = refl; said = d.means.said; shallow = d.means.shallow } }

-- one name of an import
abbrev Imports : ImportName → SpecD → Type 0
Imports i d = import_name (spec_raw d) ≡ i

import_same : (a b c d : List ℕ) → a ≡ c → b ≡ d → ◌≡◌ {A = ImportName} (record { exported = a; local = b }) (record { exported = c; local = d })
import_same a b c d h k = rw (h, k) refl

spec_case : (i : ImportName) (b : Bool) → bytes_eq i.exported i.local ≡ b → fits_import i ≡ true → Writes spec_spelt (Imports i) (cond b (token.name i.local ∷ []) (token.name i.exported ∷ (token.name (codes "as") ∷ (token.name i.local ∷ []))))
spec_case i true is fits us r h =
    let m = past_name free_names i.local fits [] us r h in
    record { by = grammar.same (name_at m.at); spells = m.is ∙ ap (λ v. Some (v ++ r)) (no_line_tokens m.back m.lasts); means = import_same _ _ _ _ (m.name ∙ sym (same_bytes.is i.exported i.local is)) m.name }
spec_case i false is fits us r h =
    let k = past_key i.exported _ us r h in
    let a = past_as _ k.back r k.lasts in
    let m = past_name free_names i.local fits [] a.back r a.lasts in
    record { by = grammar.renamed i.exported (name_at m.at); spells = rw (k.is, a.is, m.is) (ap (λ v. Some (v ++ r)) (no_line_tokens m.back m.lasts)); means = import_same _ _ _ _ refl m.name }

spec_by : (i : ImportName) → fits_import i ≡ true → Writes spec_spelt (Imports i) (import_name_tokens i)
spec_by i fits = spec_case i (bytes_eq i.exported i.local) refl fits

all_imports : (is : List ImportName) (ds : List SpecD) → AllMean Imports is ds → (map import_name (map spec_raw ds) ≡ is) × (names_of (map (λ i. i.local) (map spec_raw ds)) ≡ map (λ i. i.local) is)
all_imports [] [] a = (refl, refl)
all_imports [] (d ∷ ds) a = absurd a
all_imports (i ∷ is) [] a = absurd a
all_imports (i ∷ is) (d ∷ ds) a =
    let rest = all_imports is ds a.1 in
    let local : (spec_raw d).local.name ≡ i.local = ap (λ v. v.local) a.0 in
    (rw (a.0, rest.0) refl, rw (local, rest.1) refl)

import_by : (lets : List (List ℕ)) (s : List ℕ) (names : List ImportName) → list_all fits_import names ≡ true → Writes item_spelt (ItemMeans lets (tree.import s names)) (import_tokens s names)
import_by lets s [] fits us r h =
    let a = past_import _ us r h in
    let b = past_text s _ a.back r a.lasts in
    let z = end_alone b.back r b.lasts in
    record { by = grammar.import_text s; spells = rw (a.is, b.is, z) refl; means = record { item = raw.import s []; is = refl; said = record { tree = refl; clean = refl; bound = refl; declared = refl }; shallow = omega arith } }
import_by lets s (i ∷ is) fits us r h =
    let a = past_import _ us r h in
    let b = past_open_brace _ a.back r a.lasts in
    let x = take _ _ _ _ b.back r (listed_by fits_import spec_spelt Imports import_name_tokens spec_by (i ∷ is) fits) b.lasts in
    let c = past_close_brace _ x.back r x.lasts in
    let d = past_from _ c.back r c.lasts in
    let e = past_text s _ d.back r d.lasts in
    let z = end_alone e.back r e.lasts in
    let names = all_imports (i ∷ is) (items_of x.by) x.means in
    record {
      by = grammar.import_names x.by s;
      spells = rw (a.is, b.is, x.is, c.is, d.is, e.is, z) refl;
      means = record { item = raw.import s (map spec_raw (items_of x.by)); is = refl; said = record { tree = ap (tree.import s) names.0; clean = refl; bound = names.1; declared = refl }; shallow = omega arith };
    }

-- a declaration by either word
record DeclMeans (lets : List (List ℕ)) (mutable : Bool) (n : List ℕ) (e : ExprTree) (d : DeclD) : Type 0 where
  said : (exported : Bool) → Says lets (tree.declare exported mutable n e) (decl_raw exported d)
  shallow : (exported : Bool) → decl_depth d ≤ item_deep (tree.declare exported mutable n e)

declare_same : (exported mutable : Bool) (n m : List ℕ) (d e : ExprTree) → n ≡ m → d ≡ e → tree.declare exported mutable n d ≡ tree.declare exported mutable m e
declare_same exported mutable n m d e h k = rw (h, k) refl

declare_by : (lets : List (List ℕ)) (mutable : Bool) (n : List ℕ) (e : ExprTree) → fits_name n ≡ true → fits_expr outside [] e ≡ true → Writes decl_spelt (DeclMeans lets mutable n e) (item_tokens (tree.declare false mutable n e))
declare_by lets true n e name fits us r h =
    let a = past_let _ us r h in
    let m = past_name free_names n name _ a.back r a.lasts in
    let b = past_equals _ m.back r m.lasts in
    let x = take _ _ _ _ b.back r (expr_by outside [] e fits) b.lasts in
    let z = end_alone x.back r x.lasts in
    record {
      by = grammar.variable (name_at m.at) x.by;
      spells = rw (a.is, m.is, b.is, x.is, z) refl;
      means = record { said = λ exported. record { tree = declare_same exported true _ _ _ _ m.name x.means.tree; clean = x.means.clean; bound = ap (λ v. v ∷ []) m.name; declared = ap (λ v. v ∷ []) m.name }; shallow = λ exported. x.means.shallow };
    }
declare_by lets false n e name fits us r h =
    let a = past_const _ us r h in
    let m = past_name free_names n name _ a.back r a.lasts in
    let b = past_equals _ m.back r m.lasts in
    let x = take _ _ _ _ b.back r (expr_by outside [] e fits) b.lasts in
    let z = end_alone x.back r x.lasts in
    record {
      by = grammar.constant (name_at m.at) x.by;
      spells = rw (a.is, m.is, b.is, x.is, z) refl;
      means = record { said = λ exported. record { tree = declare_same exported false _ _ _ _ m.name x.means.tree; clean = x.means.clean; bound = ap (λ v. v ∷ []) m.name; declared = refl }; shallow = λ exported. x.means.shallow };
    }

exported_by : (lets : List (List ℕ)) (exported mutable : Bool) (n : List ℕ) (e : ExprTree) → fits_name n ≡ true → fits_expr outside [] e ≡ true → Writes item_spelt (ItemMeans lets (tree.declare exported mutable n e)) (item_tokens (tree.declare exported mutable n e))
exported_by lets true mutable n e name fits us r h =
    let a = past_export _ us r h in
    let d = declare_by lets mutable n e name fits a.back r a.lasts in
    record { by = grammar.exported d.by; spells = rw a.is d.spells; means = record { item = decl_raw true d.by; is = refl; said = d.means.said true; shallow = d.means.shallow true } }
exported_by lets false mutable n e name fits us r h =
    let d = declare_by lets mutable n e name fits us r h in
    record { by = grammar.declared d.by; spells = d.spells; means = record { item = decl_raw false d.by; is = refl; said = d.means.said false; shallow = d.means.shallow false } }

-- a statement that may stand at the top
top_of : (lets : List (List ℕ)) (s : StmtTree) (us r : List LineToken) (d : StmtD) → at_top s ≡ true → stmt_spelt d (us ++ r) ≡ Some r → StmtMeans lets outside s d → Done item_spelt (ItemMeans lets (tree.act s)) us r
top_of lets s us r (grammar.StmtD.act a) top spells m = record { by = grammar.ItemD.top (grammar.TopD.act a); spells = spells; means = record { item = _; is = refl; said = record { tree = ap tree.act m.tree; clean = m.clean; bound = refl; declared = refl }; shallow = m.shallow } }
top_of lets s us r (grammar.StmtD.throw a) top spells m = record { by = grammar.ItemD.top (grammar.TopD.throw a); spells = spells; means = record { item = _; is = refl; said = record { tree = ap tree.act m.tree; clean = m.clean; bound = refl; declared = refl }; shallow = m.shallow } }
top_of lets s us r (grammar.StmtD.inval (grammar.invalidate at e)) top spells m = absurd (let no : at_top s ≡ false = ap at_top (sym m.tree) in cc)
top_of lets s us r (grammar.StmtD.branch (grammar.if_then c b e)) top spells m = absurd (let no : at_top s ≡ false = ap at_top (sym m.tree) in cc)

act_by : (lets : List (List ℕ)) (s : StmtTree) → at_top s ≡ true → fits_stmt lets outside [] s ≡ true → Writes item_spelt (ItemMeans lets (tree.act s)) (stmt_tokens [] s)
act_by lets s top fits us r h = let d = stmt_by lets outside [] s fits us r h in top_of lets s us r d.by top d.spells d.means

pub item_by : (lets : List (List ℕ)) (i : ItemTree) → fits_item lets i ≡ true → Writes item_spelt (ItemMeans lets i) (item_tokens i)
item_by lets (tree.import s names) fits = import_by lets s names fits
item_by lets (tree.declare exported mutable n e) fits = let t = both (fits_name n) (fits_expr outside [] e) fits in exported_by lets exported mutable n e t.0 t.1
item_by lets (tree.act s) fits = let t = both (at_top s) (fits_stmt lets outside [] s) fits in act_by lets s t.0 t.1
item_by lets (tree.own o) fits = top_item lets _ _ (own_call_by lets o fits)
item_by lets (tree.deps list ss o) fits = top_item lets _ _ (deps_call_by lets list ss o fits)
item_by lets (tree.dispose o) fits = top_item lets _ _ (dispose_by lets o fits)
item_by lets (tree.prune o) fits = top_item lets _ _ (prune_by lets o fits)
item_by lets tree.decline fits = top_item lets _ _ (decline_by lets)

-- what a derivation of items says
pub record ItemsMean (lets : List (List ℕ)) (m : ModuleTree) (ds : ModuleD) : Type 0 where
  pub tree : module_tree (module_raw ds) ≡ m
  pub clean : flat (map (item_broken lets) (module_raw ds)) ≡ []
  pub bound : names_of (flat (map bound_by (module_raw ds))) ≡ flat (map bound_names m)
  pub declared : flat (map lets_by (module_raw ds)) ≡ flat (map let_names m)
  pub shallow : module_depth ds ≤ module_deep m

pub two_lists : {A : Type 0} (a b c d : List A) → a ≡ c → b ≡ d → a ++ b ≡ c ++ d
two_lists a b c d h k = rw (h, k) refl

items_mean : (lets : List (List ℕ)) (i : ItemTree) (m : ModuleTree) (d : ItemD) (ds : ModuleD) (x : RawItem) → item_raw d ≡ x ∷ [] → Says lets i x → item_depth d ≤ item_deep i → ItemsMean lets m ds → ItemsMean lets (i ∷ m) (d ∷ ds)
items_mean lets i m d ds x is said shallow rest =
    let whole : module_raw (d ∷ ds) ≡ x ∷ module_raw ds = ap (λ v. v ++ module_raw ds) is in
    record {
      tree = ap module_tree whole ∙ two_lists (item_tree x ∷ []) _ (i ∷ []) _ (ap (λ v. v ∷ []) said.tree) rest.tree;
      clean = ap (λ v. flat (map (item_broken lets) v)) whole ∙ two_lists _ _ [] [] said.clean rest.clean;
      bound = ap (λ v. names_of (flat (map bound_by v))) whole ∙ map-append (λ n. n.name) (bound_by x) (flat (map bound_by (module_raw ds))) ∙ two_lists _ _ _ _ said.bound rest.bound;
      declared = ap (λ v. flat (map lets_by v)) whole ∙ two_lists _ _ _ _ said.declared rest.declared;
      shallow = omega (arith, shallow, rest.shallow);
    }

pub items_by : (lets : List (List ℕ)) (m : ModuleTree) → list_all (fits_item lets) m ≡ true → Writes module_spelt (ItemsMean lets m) (canon_tokens m)
unfolding spell.many
items_by lets [] fits us r h = record { by = []; spells = ap (λ v. Some (v ++ r)) (no_line_tokens us h); means = record { tree = refl; clean = refl; bound = refl; declared = refl; shallow = omega arith } }
items_by lets (i ∷ m) fits us r h =
    let t = both (fits_item lets i) (list_all (fits_item lets) m) fits in
    let x = take _ _ _ _ us r (item_by lets i t.0) h in
    let y = items_by lets m t.1 x.back r x.lasts in
    record { by = x.by ∷ y.by; spells = rw x.is y.spells; means = items_mean lets i m x.by y.by x.means.item x.means.is x.means.said x.means.shallow y.means }

-- a whole module breaks no rule on names
pub record ModuleMeans (m : ModuleTree) (ds : ModuleD) : Type 0 where
  pub tree : module_tree (module_raw ds) ≡ m
  pub named : first_broken (module_raw ds) ≡ None
  pub shallow : module_depth ds ≤ module_deep m

none_broken : (items : List RawItem) (lets : List (List ℕ)) → lets ≡ flat (map lets_by items) → repeated [] (flat (map bound_by items)) ≡ [] → flat (map (item_broken lets) items) ≡ [] → first_broken items ≡ None
unfolding all_broken least
none_broken items lets is h k = let e : flat (map (item_broken (flat (map lets_by items))) items) ≡ [] = ap (λ v. flat (map (item_broken v) items)) (sym is) ∙ k in rw (h, e) refl

pub module_by : (m : ModuleTree) → list_all (fits_item (module_lets m)) m ≡ true → distinct [] (flat (map bound_names m)) ≡ true → Writes module_spelt (ModuleMeans m) (canon_tokens m)
module_by m fits apart us r h =
    let d = items_by (module_lets m) m fits us r h in
    let bound = unrepeated [] (flat (map bound_by (module_raw d.by))) (ap (distinct []) d.means.bound ∙ apart) in
    record { by = d.by; spells = d.spells; means = record { tree = d.means.tree; named = none_broken (module_raw d.by) (module_lets m) (sym d.means.declared) bound d.means.clean; shallow = d.means.shallow } }
