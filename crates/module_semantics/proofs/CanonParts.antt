-- The canonical tokens of what stands inside statements: several expressions, conditions, and bodies of branches.
use Rattle.std.proofs.Common.{◌≡◌, ℕ, ◌≤◌, List, [], ◌∷◌, ◌++◌, map, Bool, true, false, ◌&&◌, ◌==◌, cond, Option, Some, None, refl, sym, ap, ◌∙◌, arith}
use Rattle.std.proofs.lemmas.Bool.{eqb-true}
use Rattle.std.specs.List.{list_all}
use Rattle.std.specs.Option.{option_map}
use Rattle.module_tree.specs.Syntax as tree
use Rattle.module_tree.specs.Syntax.{ExprTree, CondTree, StmtTree, StmtTrees}
use Rattle.hmr_types.specs.declared.analysis.FaultWord.{FaultWord}
use Rattle.hmr_types.specs.declared.analysis.FaultWord.TheVariants.{Unexpected}
use Rattle.module_semantics.specs.Token as token
use Rattle.module_semantics.specs.Token.{Token, LineToken}
use Rattle.module_semantics.specs.Kinds.{COMMA, NameAt, name_at, bytes_of, free_names}
use Rattle.module_semantics.specs.Raw as raw
use Rattle.module_semantics.specs.Raw.{RawExpr}
use Rattle.module_semantics.specs.Spelling as spell
use Rattle.module_semantics.specs.Spelling.{Spell, ◌>>◌, ◌▸◌}
use Rattle.module_semantics.specs.Grammar as grammar
use Rattle.module_semantics.specs.Grammar.{ExprD, expr_spelt, expr_raw, expr_depth, deepest, deep_if}
use Rattle.module_semantics.specs.NameRules.{Within, outside, in_once, in_accept, accepts, is_param, has_name, broken_if, expr_broken, exprs_broken, maybe_broken, cond_broken}
use Rattle.module_semantics.specs.Resolving.{expr_tree, cond_tree, name_cond, place_of}
use Rattle.module_semantics.specs.Canon.{nth}
use Rattle.module_semantics.specs.CanonTokens.{expr_tokens, exprs_tokens, comma_tokens, cond_tokens, told_tokens, expr_deep, exprs_deep, cond_deep, told_deep, fits_name, fits_param, fits_expr, fits_exprs, fits_cond, fits_told}
use Rattle.module_semantics.specs.CanonItems.{after_commas, between_commas}
use Rattle.module_semantics.proofs.PiecesLex.{both}
use Rattle.module_semantics.proofs.CanonLevels.{no_line_tokens}
use Rattle.module_semantics.proofs.CanonExprs.{expr_levels}
use Rattle.module_semantics.proofs.CanonSteps.{Writes, take, past_comma, past_name}

-- each of the derivations means the tree at its place
abbrev pub AllMean : {T D : Type 0} → (T → D → Type 0) → List T → List D → Type 0
AllMean Means [] [] = Unit {0}
AllMean Means [] (d ∷ ds) = ⊥
AllMean Means (t ∷ ts) [] = ⊥
AllMean Means (t ∷ ts) (d ∷ ds) = Means t d × AllMean Means ts ds

-- of each tree that fits, the tokens spell a derivation
abbrev pub EachWrites : {T D : Type 0} → (T → Bool) → (D → Spell) → (T → D → Type 0) → (T → List Token) → Type 0
EachWrites {T} ok spelt Means toks = (t : T) → ok t ≡ true → Writes spelt (Means t) (toks t)

after_commas_by : {T D : Type 0} (ok : T → Bool) (spelt : D → Spell) (Means : T → D → Type 0) (toks : T → List Token) → EachWrites ok spelt Means toks → (ts : List T) → list_all ok ts ≡ true → Writes (spell.many (λ d. spell.mark COMMA ▸ spelt d)) (AllMean Means ts) (after_commas toks ts)
unfolding spell.many
after_commas_by ok spelt Means toks each [] fits us r h = record { by = []; spells = ap (λ v. Some (v ++ r)) (no_line_tokens us h); means = tt }
after_commas_by ok spelt Means toks each (t ∷ ts) fits us r h =
    let f = both (ok t) (list_all ok ts) fits in
    let a = past_comma _ us r h in
    let d = take spelt (Means t) (toks t) (after_commas toks ts) a.back r (each t f.0) a.lasts in
    let e = after_commas_by ok spelt Means toks each ts f.1 d.back r d.lasts in
    record { by = d.by ∷ e.by; spells = rw (a.is, d.is) e.spells; means = (d.means, e.means) }

pub between_commas_by : {T D : Type 0} (ok : T → Bool) (spelt : D → Spell) (Means : T → D → Type 0) (toks : T → List Token) → EachWrites ok spelt Means toks → (ts : List T) → list_all ok ts ≡ true → Writes (spell.separated spelt) (AllMean Means ts) (between_commas toks ts)
unfolding spell.separated
between_commas_by ok spelt Means toks each [] fits us r h = record { by = []; spells = ap (λ v. Some (v ++ r)) (no_line_tokens us h); means = tt }
between_commas_by ok spelt Means toks each (t ∷ ts) fits us r h =
    let f = both (ok t) (list_all ok ts) fits in
    let d = take spelt (Means t) (toks t) (after_commas toks ts) us r (each t f.0) h in
    let e = after_commas_by ok spelt Means toks each ts f.1 d.back r d.lasts in
    record { by = d.by ∷ e.by; spells = rw d.is e.spells; means = (d.means, e.means) }

-- what a derivation of an expression says
pub record ExprMeans (w : Within) (e : ExprTree) (d : ExprD) : Type 0 where
  pub tree : expr_tree w (expr_raw d) ≡ e
  pub clean : expr_broken w (expr_raw d) ≡ []
  pub shallow : expr_depth d ≤ expr_deep e

pub expr_by : (w : Within) (ps : List (List ℕ)) (e : ExprTree) → fits_expr w ps e ≡ true → Writes expr_spelt (ExprMeans w e) (expr_tokens ps e)
expr_by w ps e fits us r h = let d = (expr_levels w ps e fits).expr us r h in record { by = d.by; spells = d.spells; means = record { tree = d.tree; clean = d.clean; shallow = d.shallow } }

same_commas : (ps : List (List ℕ)) (es : List ExprTree) → comma_tokens ps es ≡ after_commas (expr_tokens ps) es
same_commas ps [] = refl
same_commas ps (e ∷ es) = ap (λ v. token.punct 6 ∷ (expr_tokens ps e ++ v)) (same_commas ps es)

pub same_between : (ps : List (List ℕ)) (es : List ExprTree) → exprs_tokens ps es ≡ between_commas (expr_tokens ps) es
same_between ps [] = refl
same_between ps (e ∷ es) = ap (λ v. expr_tokens ps e ++ v) (same_commas ps es)

all_fit : (w : Within) (ps : List (List ℕ)) (es : List ExprTree) → fits_exprs w ps es ≡ list_all (fits_expr w ps) es
all_fit w ps [] = refl
all_fit w ps (e ∷ es) = ap (λ v. fits_expr w ps e && v) (all_fit w ps es)

-- what derivations of several expressions say
pub record ExprsMean (w : Within) (es : List ExprTree) (ds : List ExprD) : Type 0 where
  pub tree : map (expr_tree w) (map expr_raw ds) ≡ es
  pub clean : exprs_broken w (map expr_raw ds) ≡ []
  pub shallow : deepest expr_depth ds ≤ exprs_deep es

cons_same : (d e : ExprTree) (ds es : List ExprTree) → d ≡ e → ds ≡ es → ◌≡◌ {A = List ExprTree} (d ∷ ds) (e ∷ es)
cons_same d e ds es h k = rw (h, k) refl

exprs_mean : (w : Within) (es : List ExprTree) (ds : List ExprD) → AllMean (ExprMeans w) es ds → ExprsMean w es ds
exprs_mean w [] [] a = record { tree = refl; clean = refl; shallow = omega arith }
exprs_mean w [] (d ∷ ds) a = absurd a
exprs_mean w (e ∷ es) [] a = absurd a
exprs_mean w (e ∷ es) (d ∷ ds) a =
    let m = exprs_mean w es ds a.1 in
    record { tree = cons_same _ _ _ _ a.0.tree m.tree; clean = rw (a.0.clean, m.clean) refl; shallow = omega (arith, a.0.shallow, m.shallow) }

pub exprs_by : (w : Within) (ps : List (List ℕ)) (es : List ExprTree) → fits_exprs w ps es ≡ true → Writes (spell.separated expr_spelt) (ExprsMean w es) (exprs_tokens ps es)
exprs_by w ps es fits us r h =
    let d = between_commas_by (fits_expr w ps) expr_spelt (ExprMeans w) (expr_tokens ps) (expr_by w ps) es (sym (all_fit w ps es) ∙ fits) us r (h ∙ same_between ps es) in
    record { by = d.by; spells = d.spells; means = exprs_mean w es d.by d.means }

-- what a condition says: as an expression, but for a parameter alone
pub record CondMeans (w : Within) (c : CondTree) (d : ExprD) : Type 0 where
  pub tree : cond_tree w (expr_raw d) ≡ c
  pub clean : cond_broken w (expr_raw d) ≡ []
  pub shallow : expr_depth d ≤ cond_deep c

-- a rule that isn't broken
pub unbroken : (test : Bool) (word : FaultWord) (at : ℕ) → broken_if test word at ≡ [] → test ≡ false
unbroken true word at h = absurd cc
unbroken false word at h = refl

not_param : (w : Within) (n : NameAt) → is_param w n.name ≡ false → name_cond w n.name ≡ tree.value (tree.name n.name)
not_param outside n h = refl
not_param (in_once qs) n h = refl
not_param (in_accept qs) n h = rw h refl

not_alone : (accepted : Bool) (w : Within) (n : NameAt) → is_param w n.name ≡ false → cond accepted [] (broken_if (is_param w n.name) Unexpected n.at) ≡ []
not_alone true w n h = refl
not_alone false w n h = rw h refl

-- an expression as a condition
cond_is : (w : Within) (x : RawExpr) → expr_broken w x ≡ [] → (cond_tree w x ≡ tree.value (expr_tree w x)) × (cond_broken w x ≡ [])
unfolding expr_broken
cond_is w (raw.name n) h = let free = unbroken (is_param w n.name) Unexpected n.at h in (not_param w n free, not_alone (accepts w) w n free)
cond_is w (raw.num n) h = (refl, refl)
cond_is w (raw.text s) h = (refl, refl)
cond_is w raw.undefined h = (refl, refl)
cond_is w (raw.bag k) h = (refl, refl)
cond_is w (raw.member n safe k) h = (refl, h)
cond_is w (raw.neg a) h = (refl, h)
cond_is w (raw.binary op a b) h = (refl, h)
cond_is w (raw.choose c a b) h = (refl, h)

-- a parameter alone
param_by : (w : Within) (ps : List (List ℕ)) (i : ℕ) → fits_param w ps i ≡ true → Writes expr_spelt (CondMeans w (tree.param i)) (token.name (nth ps i) ∷ [])
param_by outside ps i fits us r h = absurd cc
param_by (in_once qs) ps i fits us r h = absurd cc
param_by (in_accept qs) ps i fits us r h =
    let t = both (fits_name (nth ps i) && has_name (nth ps i) qs) (place_of (nth ps i) qs == i) fits in
    let u = both (fits_name (nth ps i)) (has_name (nth ps i) qs) t.0 in
    let l = past_name free_names (nth ps i) u.0 [] us r h in
    let has : has_name (bytes_of l.at.token) qs ≡ true = ap (λ v. has_name v qs) l.name ∙ u.1 in
    let place : place_of (bytes_of l.at.token) qs ≡ i = ap (λ v. place_of v qs) l.name ∙ eqb-true (place_of (nth ps i) qs) i t.1 in
    record {
      by = grammar.plain (grammar.null (grammar.sum (grammar.prod (grammar.positive (grammar.name (name_at l.at))) grammar.no_prod) grammar.no_sum) grammar.no_null);
      spells = rw l.is (ap (λ v. Some (v ++ r)) (no_line_tokens l.back l.lasts));
      means = record { tree = rw (has, place) refl; clean = refl; shallow = omega arith };
    }

pub cond_by : (w : Within) (ps : List (List ℕ)) (c : CondTree) → fits_cond w ps c ≡ true → Writes expr_spelt (CondMeans w c) (cond_tokens ps c)
cond_by w ps (tree.param i) fits us r h = param_by w ps i fits us r h
cond_by w ps (tree.value e) fits us r h =
    let d = expr_by w ps e fits us r h in
    let c = cond_is w (expr_raw d.by) d.means.clean in
    record { by = d.by; spells = d.spells; means = record { tree = c.0 ∙ ap tree.value d.means.tree; clean = c.1; shallow = d.means.shallow } }

-- what is told, perhaps
pub record ToldMeans (w : Within) (o : Option ExprTree) (d : Option ExprD) : Type 0 where
  pub tree : option_map (expr_tree w) (option_map expr_raw d) ≡ o
  pub clean : maybe_broken w (option_map expr_raw d) ≡ []
  pub shallow : deep_if expr_depth d ≤ told_deep o

pub told_by : (w : Within) (ps : List (List ℕ)) (o : Option ExprTree) → fits_told w ps o ≡ true → Writes (spell.maybe expr_spelt) (ToldMeans w o) (told_tokens ps o)
told_by w ps None fits us r h = record { by = None; spells = ap (λ v. Some (v ++ r)) (no_line_tokens us h); means = record { tree = refl; clean = refl; shallow = omega arith } }
told_by w ps (Some e) fits us r h =
    let d = expr_by w ps e fits us r h in
    record { by = Some d.by; spells = d.spells; means = record { tree = ap Some d.means.tree; clean = d.means.clean; shallow = d.means.shallow } }
