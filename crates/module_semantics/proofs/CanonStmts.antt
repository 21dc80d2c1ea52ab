-- The canonical tokens of the statements that hold no other are written as them.
use Rattle.std.proofs.Common.{◌≡◌, ℕ, ◌≤◌, List, [], ◌++◌, Bool, true, false, not, ◌&&◌, ◌||◌, Option, refl, ap, ◌∙◌}
use Rattle.module_tree.specs.Syntax as tree
use Rattle.module_tree.specs.Syntax.{ExprTree, StmtTree}
use Rattle.hmr_types.specs.declared.analysis.FaultWord.TheVariants.{Unexpected, NotAssignable}
use Rattle.module_semantics.specs.Kinds.{DATA, DOT, EQUALS, INVALIDATE, OPEN, CLOSE, free_names, name_at}
use Rattle.module_semantics.specs.Spelling as spell
use Rattle.module_semantics.specs.Spelling.{◌>>◌, ◌▸◌}
use Rattle.module_semantics.specs.Grammar as grammar
use Rattle.module_semantics.specs.Grammar.{StmtD, expr_spelt, stmt_spelt, stmt_raw, stmt_depth}
use Rattle.module_semantics.specs.NameRules.{Within, accepts, is_param, has_name, broken_if, stmt_broken, Broken}
use Rattle.module_semantics.specs.Resolving.{stmt_tree}
use Rattle.module_semantics.specs.CanonTokens.{stmt_tokens, stmt_deep, fits_name, fits_expr, fits_exprs, fits_told, fits_stmt}
use Rattle.module_semantics.proofs.PiecesLex.{both, nots}
use Rattle.module_semantics.proofs.CanonSteps.{Writes, end_alone, take, past_hot_path, past_name, past_key, past_console, past_dot, past_log, past_data, past_equals, past_throw, past_new, past_error, past_invalidate, past_open, past_close}
use Rattle.module_semantics.proofs.CanonParts.{expr_by, exprs_by, told_by}

-- what a derivation of a statement says: the statement, with no rule on names broken, and no deeper than told
pub record StmtMeans (lets : List (List ℕ)) (w : Within) (s : StmtTree) (d : StmtD) : Type 0 where
  pub tree : stmt_tree w (stmt_raw d) ≡ s
  pub clean : stmt_broken lets w (stmt_raw d) ≡ []
  pub shallow : stmt_depth d ≤ stmt_deep s

pub log_by : (lets : List (List ℕ)) (w : Within) (ps : List (List ℕ)) (es : List ExprTree) → fits_exprs w ps es ≡ true → Writes stmt_spelt (StmtMeans lets w (tree.log es)) (stmt_tokens ps (tree.log es))
log_by lets w ps es fits us r h =
    let a = past_console _ us r h in
    let b = past_dot _ a.back r a.lasts in
    let c = past_log _ b.back r b.lasts in
    let d = past_open _ c.back r c.lasts in
    let x = take _ _ _ _ d.back r (exprs_by w ps es fits) d.lasts in
    let m = past_close _ x.back r x.lasts in
    let z = end_alone m.back r m.lasts in
    record {
      by = grammar.StmtD.act (grammar.log x.by);
      spells = rw (a.is, b.is, c.is, d.is, x.is, m.is, z) refl;
      means = record { tree = ap tree.log x.means.tree; clean = x.means.clean; shallow = x.means.shallow };
    }

clean_assign : (test : Bool) (at : ℕ) (bs : List Broken) → test ≡ false → bs ≡ [] → broken_if test NotAssignable at ++ bs ≡ []
clean_assign test at bs h k = rw (h, k) refl

assignable : (a b : Bool) → a ≡ false → b ≡ true → (a || not b) ≡ false
assignable a b h k = rw (h, k) refl

assign_same : (n m : List ℕ) (d e : ExprTree) → n ≡ m → d ≡ e → tree.assign n d ≡ tree.assign m e
assign_same n m d e h k = rw (h, k) refl

pub assign_by : (lets : List (List ℕ)) (w : Within) (ps : List (List ℕ)) (n : List ℕ) (e : ExprTree) → fits_stmt lets w ps (tree.assign n e) ≡ true → Writes stmt_spelt (StmtMeans lets w (tree.assign n e)) (stmt_tokens ps (tree.assign n e))
assign_by lets w ps n e fits us r h =
    let t = both (fits_name n && not (is_param w n) && has_name n lets) (fits_expr w ps e) fits in
    let u = both (fits_name n && not (is_param w n)) (has_name n lets) t.0 in
    let v = both (fits_name n) (not (is_param w n)) u.0 in
    let a = past_name free_names n v.0 _ us r h in
    let b = past_equals _ a.back r a.lasts in
    let x = take _ _ _ _ b.back r (expr_by w ps e t.1) b.lasts in
    let z = end_alone x.back r x.lasts in
    record {
      by = grammar.StmtD.act (grammar.assign (name_at a.at) x.by);
      spells = rw (a.is, b.is, x.is, z) refl;
      means = record {
        tree = assign_same _ _ _ _ a.name x.means.tree;
        clean = clean_assign _ a.at.at _ (assignable _ _ (ap (is_param w) a.name ∙ nots (is_param w n) v.1) (ap (λ m. has_name m lets) a.name ∙ u.1)) x.means.clean;
        shallow = x.means.shallow;
      };
    }

pub bag_by : (lets : List (List ℕ)) (w : Within) (ps : List (List ℕ)) (k : List ℕ) (e : ExprTree) → fits_expr w ps e ≡ true → Writes stmt_spelt (StmtMeans lets w (tree.bag_set k e)) (stmt_tokens ps (tree.bag_set k e))
bag_by lets w ps k e fits us r h =
    let a = past_hot_path _ us r h in
    let b = past_data _ a.back r a.lasts in
    let c = past_dot _ b.back r b.lasts in
    let d = past_key k _ c.back r c.lasts in
    let f = past_equals _ d.back r d.lasts in
    let x = take _ _ _ _ f.back r (expr_by w ps e fits) f.lasts in
    let z = end_alone x.back r x.lasts in
    record {
      by = grammar.StmtD.act (grammar.set_bag k x.by);
      spells = rw (a.is, a.rest (spell.mark DATA ▸ spell.mark DOT ▸ spell.key k ▸ spell.mark EQUALS ▸ expr_spelt x.by), b.is, c.is, d.is, f.is, x.is, z) refl;
      means = record { tree = ap (tree.bag_set k) x.means.tree; clean = x.means.clean; shallow = x.means.shallow };
    }

pub throw_by : (lets : List (List ℕ)) (w : Within) (ps : List (List ℕ)) (e : ExprTree) → fits_expr w ps e ≡ true → Writes stmt_spelt (StmtMeans lets w (tree.throw e)) (stmt_tokens ps (tree.throw e))
throw_by lets w ps e fits us r h =
    let a = past_throw _ us r h in
    let b = past_new _ a.back r a.lasts in
    let c = past_error _ b.back r b.lasts in
    let d = past_open _ c.back r c.lasts in
    let x = take _ _ _ _ d.back r (expr_by w ps e fits) d.lasts in
    let m = past_close _ x.back r x.lasts in
    let z = end_alone m.back r m.lasts in
    record {
      by = grammar.StmtD.throw (grammar.new_error x.by);
      spells = rw (a.is, b.is, c.is, d.is, x.is, m.is, z) refl;
      means = record { tree = ap tree.throw x.means.tree; clean = x.means.clean; shallow = x.means.shallow };
    }

told_clean : (accepted : Bool) (at : ℕ) (bs : List Broken) → accepted ≡ true → bs ≡ [] → broken_if (not accepted) Unexpected at ++ bs ≡ []
told_clean accepted at bs h k = rw (h, k) refl

pub invalidate_by : (lets : List (List ℕ)) (w : Within) (ps : List (List ℕ)) (o : Option ExprTree) → accepts w ≡ true → fits_told w ps o ≡ true → Writes stmt_spelt (StmtMeans lets w (tree.invalidate o)) (stmt_tokens ps (tree.invalidate o))
invalidate_by lets w ps o accepted fits us r h =
    let a = past_hot_path _ us r h in
    let b = past_invalidate _ a.back r a.lasts in
    let c = past_open _ b.back r b.lasts in
    let x = take _ _ _ _ c.back r (told_by w ps o fits) c.lasts in
    let m = past_close _ x.back r x.lasts in
    let z = end_alone m.back r m.lasts in
    record {
      by = grammar.StmtD.inval (grammar.invalidate a.at.at x.by);
      spells = rw (a.placed, a.rest (spell.mark INVALIDATE ▸ spell.mark OPEN ▸ spell.maybe expr_spelt x.by ▸ spell.mark CLOSE), b.is, c.is, x.is, m.is, z) refl;
      means = record { tree = ap tree.invalidate x.means.tree; clean = told_clean (accepts w) a.at.at _ accepted x.means.clean; shallow = x.means.shallow };
    }
