-- The canonical text of statements is laid out in their canonical tokens.
use Rattle.std.proofs.Common.{◌≡◌, ℕ, zero, suc, List, [], ◌∷◌, map, true, false, Option, Some, None, sym, subst}
use Rattle.module_tree.specs.Syntax as tree
use Rattle.module_tree.specs.Syntax.{ExprTree, CondTree, StmtTree, StmtTrees}
use Rattle.module_semantics.specs.Token as token
use Rattle.module_semantics.specs.Token.{Token}
use Rattle.module_semantics.specs.Canon.{nth, expr_text, commas, cond_text, told_text, indent, else_text, stmt_text, stmts_text}
use Rattle.module_semantics.specs.CanonTokens.{expr_tokens, exprs_tokens, cond_tokens, told_tokens, else_tokens, stmt_tokens, stmts_tokens}
use Rattle.module_semantics.specs.Fitting.{is_name}
use Rattle.module_semantics.proofs.CanonParts.{same_between}
use Rattle.module_semantics.proofs.Layouts.{Laid, then_laid, closed_laid, tight_laid, no_text}
use Rattle.module_semantics.proofs.LaidLeaves.{name_laid}
use Rattle.module_semantics.proofs.Literals.{laid_data, laid_spaces, laid_line, laid_console, laid_end_call, laid_equals, laid_end, laid_throw, laid_invalidate, laid_if, laid_then, laid_close_brace, laid_else, laid_end_else}
use Rattle.module_semantics.proofs.LaidExprs.{space_closes, paren_closes, semicolon_closes, Writable, name_first, two_writable, rest_writable, commas_laid, expr_laid}

pub indent_laid : (n : ℕ) → Laid false (indent n) []
indent_laid zero = no_text
indent_laid (suc n) = then_laid laid_spaces (indent_laid n)

exprs_laid : (ps : List (List ℕ)) (es : List ExprTree) → Writable (exprs_tokens ps es) → Laid true (commas (map (expr_text ps) es)) (exprs_tokens ps es)
exprs_laid ps es h = subst (Laid true (commas (map (expr_text ps) es))) (sym (same_between ps es)) (commas_laid (expr_text ps) (expr_tokens ps) (expr_laid ps) es (subst Writable (same_between ps es) h))

cond_laid : (ps : List (List ℕ)) (c : CondTree) → Writable (cond_tokens ps c) → Laid true (cond_text ps c) (cond_tokens ps c)
cond_laid ps (tree.param i) h = name_laid (nth ps i) (name_first (nth ps i) _ h)
cond_laid ps (tree.value e) h = expr_laid ps e h

told_laid : (ps : List (List ℕ)) (o : Option ExprTree) → Writable (told_tokens ps o) → Laid true (told_text ps o) (told_tokens ps o)
told_laid ps None h = tight_laid no_text
told_laid ps (Some e) h = expr_laid ps e h

log_laid : (ps : List (List ℕ)) (depth : ℕ) (es : List ExprTree) → Writable (exprs_tokens ps es) → Laid false (stmt_text ps depth (tree.log es)) (stmt_tokens ps (tree.log es))
log_laid ps depth es h = then_laid (indent_laid depth) (then_laid laid_console (closed_laid (exprs_laid ps es h) (paren_closes _) laid_end_call))

assign_laid : (ps : List (List ℕ)) (depth : ℕ) (n : List ℕ) (e : ExprTree) → is_name n ≡ true → Writable (expr_tokens ps e) → Laid false (stmt_text ps depth (tree.assign n e)) (stmt_tokens ps (tree.assign n e))
assign_laid ps depth n e name h = then_laid (indent_laid depth) (closed_laid (name_laid n name) (space_closes _) (then_laid laid_equals (closed_laid (expr_laid ps e h) (semicolon_closes _) laid_end)))

bag_laid : (ps : List (List ℕ)) (depth : ℕ) (k : List ℕ) (e : ExprTree) → is_name k ≡ true → Writable (expr_tokens ps e) → Laid false (stmt_text ps depth (tree.bag_set k e)) (stmt_tokens ps (tree.bag_set k e))
bag_laid ps depth k e name h = then_laid (indent_laid depth) (then_laid laid_data (closed_laid (name_laid k name) (space_closes _) (then_laid laid_equals (closed_laid (expr_laid ps e h) (semicolon_closes _) laid_end))))

throw_laid : (ps : List (List ℕ)) (depth : ℕ) (e : ExprTree) → Writable (expr_tokens ps e) → Laid false (stmt_text ps depth (tree.throw e)) (stmt_tokens ps (tree.throw e))
throw_laid ps depth e h = then_laid (indent_laid depth) (then_laid laid_throw (closed_laid (expr_laid ps e h) (paren_closes _) laid_end_call))

invalidate_laid : (ps : List (List ℕ)) (depth : ℕ) (o : Option ExprTree) → Writable (told_tokens ps o) → Laid false (stmt_text ps depth (tree.invalidate o)) (stmt_tokens ps (tree.invalidate o))
invalidate_laid ps depth o h = then_laid (indent_laid depth) (then_laid laid_invalidate (closed_laid (told_laid ps o h) (paren_closes _) laid_end_call))

else_laid : (depth : ℕ) (b : StmtTrees) (text : List ℕ) (ts : List Token) → Laid false text ts → Laid false (else_text depth b text) (else_tokens b ts)
else_laid depth tree.no_stmts text ts x = laid_line
else_laid depth (tree.one_stmt s r) text ts x = then_laid laid_else (then_laid x (then_laid (indent_laid depth) laid_end_else))

branch_laid : (ps : List (List ℕ)) (depth : ℕ) (c : CondTree) (a b : StmtTrees) → Writable (cond_tokens ps c) → Laid false (stmts_text ps (suc depth) a) (stmts_tokens ps a) → Laid false (stmts_text ps (suc depth) b) (stmts_tokens ps b) → Laid false (stmt_text ps depth (tree.branch c a b)) (stmt_tokens ps (tree.branch c a b))
branch_laid ps depth c a b h x y =
    then_laid (indent_laid depth)
    (then_laid laid_if
    (closed_laid (cond_laid ps c h) (paren_closes _) (then_laid laid_then (then_laid x (then_laid (indent_laid depth) (then_laid laid_close_brace (else_laid depth b (stmts_text ps (suc depth) b) (stmts_tokens ps b) y)))))))

else_writable : (ps : List (List ℕ)) (b : StmtTrees) → Writable (else_tokens b (stmts_tokens ps b)) → Writable (stmts_tokens ps b)
else_writable ps tree.no_stmts h = h
else_writable ps (tree.one_stmt s r) h = (two_writable (stmts_tokens ps (tree.one_stmt s r)) (token.punct 1 ∷ []) (rest_writable 2 _ h)).0

-- the canonical text of a statement at a depth
mutual
  pub stmt_laid : (ps : List (List ℕ)) (depth : ℕ) (s : StmtTree) → Writable (stmt_tokens ps s) → Laid false (stmt_text ps depth s) (stmt_tokens ps s)
  stmt_laid ps depth (tree.log es) h = log_laid ps depth es (two_writable (exprs_tokens ps es) _ (rest_writable 4 _ h)).0
  stmt_laid ps depth (tree.assign n e) h =
      assign_laid ps depth n e (name_first n _ h) (two_writable (expr_tokens ps e) _ (rest_writable 2 _ h)).0
  stmt_laid ps depth (tree.bag_set k e) h =
      bag_laid ps depth k e (name_first k _ (rest_writable 8 _ h)) (two_writable (expr_tokens ps e) _ (rest_writable 10 _ h)).0
  stmt_laid ps depth (tree.throw e) h = throw_laid ps depth e (two_writable (expr_tokens ps e) _ (rest_writable 4 _ h)).0
  stmt_laid ps depth (tree.invalidate o) h = invalidate_laid ps depth o (two_writable (told_tokens ps o) _ (rest_writable 8 _ h)).0
  stmt_laid ps depth (tree.branch c a b) h =
      let t = two_writable (cond_tokens ps c) _ (rest_writable 2 _ h) in
      let u = two_writable (stmts_tokens ps a) (token.punct 1 ∷ else_tokens b (stmts_tokens ps b)) (rest_writable 2 _ t.1) in
      branch_laid ps depth c a b t.0 (stmts_laid ps (suc depth) a u.0) (stmts_laid ps (suc depth) b (else_writable ps b (rest_writable 1 _ u.1)))

  pub stmts_laid : (ps : List (List ℕ)) (depth : ℕ) (s : StmtTrees) → Writable (stmts_tokens ps s) → Laid false (stmts_text ps depth s) (stmts_tokens ps s)
  stmts_laid ps depth tree.no_stmts h = no_text
  stmts_laid ps depth (tree.one_stmt s r) h =
      let t = two_writable (stmt_tokens ps s) (stmts_tokens ps r) h in
      then_laid (stmt_laid ps depth s t.0) (stmts_laid ps depth r t.1)
