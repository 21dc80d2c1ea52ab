-- The canonical tokens of branches, and of statements one after another, are written as them.
use Rattle.std.proofs.Common.{◌≡◌, ℕ, suc, ◌≤◌, List, [], ◌++◌, true, ◌&&◌, Some, refl, ap, arith}
use Rattle.module_tree.specs.Syntax as tree
use Rattle.module_tree.specs.Syntax.{ExprTree, CondTree, StmtTree, StmtTrees}
use Rattle.module_semantics.specs.Grammar as grammar
use Rattle.module_semantics.specs.Grammar.{StmtsD, ElseD, BlockD, stmt_spelt, stmts_spelt, else_spelt, stmts_raw, else_raw, stmts_depth, else_depth}
use Rattle.module_semantics.specs.NameRules.{Within, accepts, stmts_broken}
use Rattle.module_semantics.specs.Resolving.{stmts_tree}
use Rattle.module_semantics.specs.CanonTokens.{stmt_tokens, stmts_tokens, else_tokens, stmts_deep, fits_told, fits_cond, fits_stmt, fits_stmts}
use Rattle.module_semantics.proofs.PiecesLex.{both}
use Rattle.module_semantics.proofs.CanonLevels.{no_line_tokens}
use Rattle.module_semantics.proofs.CanonStmts.{StmtMeans, log_by, assign_by, bag_by, throw_by, invalidate_by}
use Rattle.module_semantics.proofs.CanonSteps.{Writes, take, past_open, past_close, past_if, past_else, past_open_brace, past_close_brace}
use Rattle.module_semantics.proofs.CanonParts.{cond_by}

-- what a derivation of a body says
pub record StmtsMean (lets : List (List ℕ)) (w : Within) (s : StmtTrees) (d : StmtsD) : Type 0 where
  pub tree : stmts_tree w (stmts_raw d) ≡ s
  pub clean : stmts_broken lets w (stmts_raw d) ≡ []
  pub shallow : stmts_depth d ≤ stmts_deep s

-- the other body, which is left out where it is empty
record ElseMeans (lets : List (List ℕ)) (w : Within) (s : StmtTrees) (d : ElseD) : Type 0 where
  tree : stmts_tree w (else_raw d) ≡ s
  clean : stmts_broken lets w (else_raw d) ≡ []
  shallow : else_depth d ≤ suc (stmts_deep s)

else_by : (lets : List (List ℕ)) (w : Within) (ps : List (List ℕ)) (s : StmtTrees) → Writes stmts_spelt (StmtsMean lets w s) (stmts_tokens ps s) → Writes else_spelt (ElseMeans lets w s) (else_tokens s (stmts_tokens ps s))
else_by lets w ps tree.no_stmts body us r h = record { by = grammar.no_else; spells = ap (λ v. Some (v ++ r)) (no_line_tokens us h); means = record { tree = refl; clean = refl; shallow = omega arith } }
else_by lets w ps (tree.one_stmt s t) body us r h =
    let a = past_else _ us r h in
    let b = past_open_brace _ a.back r a.lasts in
    let x = take _ _ _ _ b.back r body b.lasts in
    let m = past_close_brace _ x.back r x.lasts in
    record {
      by = grammar.else_block (grammar.block x.by);
      spells = rw (a.is, b.is, x.is, m.is) (ap (λ v. Some (v ++ r)) (no_line_tokens m.back m.lasts));
      means = record { tree = x.means.tree; clean = x.means.clean; shallow = omega (arith, x.means.shallow) };
    }

branch_by : (lets : List (List ℕ)) (w : Within) (ps : List (List ℕ)) (c : CondTree) (s t : StmtTrees) → fits_cond w ps c ≡ true → Writes stmts_spelt (StmtsMean lets w s) (stmts_tokens ps s) → Writes stmts_spelt (StmtsMean lets w t) (stmts_tokens ps t) → Writes stmt_spelt (StmtMeans lets w (tree.branch c s t)) (stmt_tokens ps (tree.branch c s t))
branch_by lets w ps c s t fits first other us r h =
    let a = past_if _ us r h in
    let b = past_open _ a.back r a.lasts in
    let x = take _ _ _ _ b.back r (cond_by w ps c fits) b.lasts in
    let d = past_close _ x.back r x.lasts in
    let e = past_open_brace _ d.back r d.lasts in
    let y = take _ _ _ _ e.back r first e.lasts in
    let f = past_close_brace _ y.back r y.lasts in
    let z = else_by lets w ps t other f.back r f.lasts in
    record {
      by = grammar.StmtD.branch (grammar.if_then x.by (grammar.block y.by) z.by);
      spells = rw (a.is, b.is, x.is, d.is, e.is, y.is, f.is) z.spells;
      means = record { tree = rw (x.means.tree, y.means.tree, z.means.tree) refl; clean = rw (x.means.clean, y.means.clean, z.means.clean) refl; shallow = omega (arith, x.means.shallow, y.means.shallow, z.means.shallow) };
    }

more_by : (lets : List (List ℕ)) (w : Within) (ps : List (List ℕ)) (s : StmtTree) (t : StmtTrees) → Writes stmt_spelt (StmtMeans lets w s) (stmt_tokens ps s) → Writes stmts_spelt (StmtsMean lets w t) (stmts_tokens ps t) → Writes stmts_spelt (StmtsMean lets w (tree.one_stmt s t)) (stmts_tokens ps (tree.one_stmt s t))
more_by lets w ps s t first rest us r h =
    let x = take _ _ _ _ us r first h in
    let y = rest x.back r x.lasts in
    record { by = grammar.StmtsD.more x.by y.by; spells = rw x.is y.spells; means = record { tree = rw (x.means.tree, y.means.tree) refl; clean = rw (x.means.clean, y.means.clean) refl; shallow = omega (arith, x.means.shallow, y.means.shallow) } }

none_by : (lets : List (List ℕ)) (w : Within) (ps : List (List ℕ)) → Writes stmts_spelt (StmtsMean lets w tree.no_stmts) []
none_by lets w ps us r h = record { by = grammar.StmtsD.none; spells = ap (λ v. Some (v ++ r)) (no_line_tokens us h); means = record { tree = refl; clean = refl; shallow = omega arith } }

-- the canonical tokens of a statement that may stand there are written as it
mutual
  pub stmt_by : (lets : List (List ℕ)) (w : Within) (ps : List (List ℕ)) (s : StmtTree) → fits_stmt lets w ps s ≡ true → Writes stmt_spelt (StmtMeans lets w s) (stmt_tokens ps s)
  stmt_by lets w ps (tree.log es) fits = log_by lets w ps es fits
  stmt_by lets w ps (tree.assign n e) fits = assign_by lets w ps n e fits
  stmt_by lets w ps (tree.bag_set k e) fits = bag_by lets w ps k e fits
  stmt_by lets w ps (tree.throw e) fits = throw_by lets w ps e fits
  stmt_by lets w ps (tree.invalidate o) fits = let t = both (accepts w) (fits_told w ps o) fits in invalidate_by lets w ps o t.0 t.1
  stmt_by lets w ps (tree.branch c s t) fits =
      let a = both (fits_cond w ps c && fits_stmts lets w ps s) (fits_stmts lets w ps t) fits in
      let b = both (fits_cond w ps c) (fits_stmts lets w ps s) a.0 in
      branch_by lets w ps c s t b.0 (stmts_by lets w ps s b.1) (stmts_by lets w ps t a.1)

  pub stmts_by : (lets : List (List ℕ)) (w : Within) (ps : List (List ℕ)) (s : StmtTrees) → fits_stmts lets w ps s ≡ true → Writes stmts_spelt (StmtsMean lets w s) (stmts_tokens ps s)
  stmts_by lets w ps tree.no_stmts fits = none_by lets w ps
  stmts_by lets w ps (tree.one_stmt s t) fits = let a = both (fits_stmt lets w ps s) (fits_stmts lets w ps t) fits in more_by lets w ps s t (stmt_by lets w ps s a.0) (stmts_by lets w ps t a.1)
