-- What can be written and breaks no rule on names fits: statements.
use Rattle.std.proofs.Common.{◌≡◌, ℕ, List, [], ◌∷◌, ◌++◌, map, Bool, true, false, not, cond, ◌||◌, Option, Some, None, refl, ap, ◌∙◌, codes}
use Rattle.std.specs.Option.{option_map}
use Rattle.module_tree.specs.Syntax as tree
use Rattle.module_tree.specs.Syntax.{ExprTree, CondTree, StmtTree, StmtTrees}
use Rattle.hmr_types.specs.declared.analysis.FaultWord.TheVariants.{Unexpected, NotAssignable}
use Rattle.module_semantics.specs.Token as token
use Rattle.module_semantics.specs.Token.{Token}
use Rattle.module_semantics.specs.Bytes.{is_name_start, is_name_byte, is_digit}
use Rattle.module_semantics.specs.Pieces.{all}
use Rattle.module_semantics.specs.Kinds.{NameAt}
use Rattle.module_semantics.specs.Raw as raw
use Rattle.module_semantics.specs.Raw.{RawExpr, RawStmt, RawStmts}
use Rattle.module_semantics.specs.NameRules.{Within, outside, in_once, in_accept, accepts, is_param, has_name, broken_if, expr_broken, exprs_broken, maybe_broken, cond_broken, stmt_broken, stmts_broken}
use Rattle.module_semantics.specs.Resolving.{place_of, expr_tree, name_cond, cond_tree, stmt_tree, stmts_tree}
use Rattle.module_semantics.specs.Canon.{nth}
use Rattle.module_semantics.specs.CanonTokens.{hot_tokens, comma_tokens, exprs_tokens, told_tokens, cond_tokens, else_tokens, stmt_tokens, stmts_tokens, fits_exprs, fits_told, fits_cond, fits_stmt, fits_stmts}
use Rattle.module_semantics.specs.Fitting.{is_name}
use Rattle.module_semantics.proofs.LexedPieces.{and_yes, not_yes}
use Rattle.module_semantics.proofs.CanonParts.{unbroken}
use Rattle.module_semantics.proofs.LaidExprs.{Writable}
use Rattle.module_semantics.proofs.ReadTokens.{not_false}
use Rattle.module_semantics.proofs.SaidExprs.{GoodName, GoodExpr}
use Rattle.module_semantics.proofs.SaidStmts.{EachGood, IfGood, GoodStmt, GoodStmts}
use Rattle.module_semantics.proofs.SaidFits.{kept, params_of, nothing_written, then_written, both_written, fixed_written, data_written, not_kept, nth_place, param_fits, no_first, FitsExpr, name_fits, expr_fits}

-- expressions that fit, after a comma each
record FitsMore (w : Within) (es : List ExprTree) : Type 0 where
  fits : fits_exprs (kept w) (params_of w) es ≡ true
  written : Writable (comma_tokens (params_of w) es)

more_fit : (w : Within) (xs : List RawExpr) → EachGood GoodExpr xs → exprs_broken w xs ≡ [] → FitsMore w (map (expr_tree w) xs)
more_fit w [] good h = record { fits = refl; written = nothing_written }
more_fit w (x ∷ xs) good h =
    let t = no_first (expr_broken w x) (exprs_broken w xs) h in
    let e = expr_fits w x good.0 t.0 in
    let es = more_fit w xs good.1 t.1 in
    record { fits = and_yes _ _ e.fits es.fits; written = then_written (token.punct 6) _ refl (both_written _ _ e.written es.written) }

record FitsExprs (w : Within) (es : List ExprTree) : Type 0 where
  fits : fits_exprs (kept w) (params_of w) es ≡ true
  written : Writable (exprs_tokens (params_of w) es)

exprs_fit : (w : Within) (xs : List RawExpr) → EachGood GoodExpr xs → exprs_broken w xs ≡ [] → FitsExprs w (map (expr_tree w) xs)
exprs_fit w [] good h = record { fits = refl; written = nothing_written }
exprs_fit w (x ∷ xs) good h =
    let t = no_first (expr_broken w x) (exprs_broken w xs) h in
    let e = expr_fits w x good.0 t.0 in
    let es = more_fit w xs good.1 t.1 in
    record { fits = and_yes _ _ e.fits es.fits; written = both_written _ _ e.written es.written }

record FitsTold (w : Within) (o : Option ExprTree) : Type 0 where
  fits : fits_told (kept w) (params_of w) o ≡ true
  written : Writable (told_tokens (params_of w) o)

told_fits : (w : Within) (o : Option RawExpr) → IfGood GoodExpr o → maybe_broken w o ≡ [] → FitsTold w (option_map (expr_tree w) o)
told_fits w None good h = record { fits = refl; written = nothing_written }
told_fits w (Some x) good h = let e = expr_fits w x good h in record { fits = e.fits; written = e.written }

-- a condition
record FitsCond (w : Within) (c : CondTree) : Type 0 where
  fits : fits_cond (kept w) (params_of w) c ≡ true
  written : Writable (cond_tokens (params_of w) c)

as_cond : (w : Within) (e : ExprTree) → FitsExpr w e → FitsCond w (tree.value e)
as_cond w e x = record { fits = x.fits; written = x.written }

param_case : (qs : List (List ℕ)) (n : NameAt) (has : Bool) → has_name n.name qs ≡ has → GoodName n → FitsCond (in_accept qs) (cond has (tree.param (place_of n.name qs)) (tree.value (tree.name n.name)))
param_case qs n true is good = record {
  fits = param_fits qs n.name good.0 is;
  written = then_written (token.name (nth qs (place_of n.name qs))) [] (ap is_name (nth_place n.name qs is) ∙ good.1) nothing_written;
}
param_case qs n false is good = as_cond (in_accept qs) _ (name_fits (in_accept qs) n good is)

name_cond_fits : (w : Within) (n : NameAt) → GoodName n → cond_broken w (raw.name n) ≡ [] → FitsCond w (name_cond w n.name)
name_cond_fits outside n good h = as_cond outside _ (name_fits outside n good refl)
name_cond_fits (in_once qs) n good h = as_cond (in_once qs) _ (name_fits (in_once qs) n good (unbroken (has_name n.name qs) Unexpected n.at h))
name_cond_fits (in_accept qs) n good h = param_case qs n (has_name n.name qs) refl good

cond_fits : (w : Within) (x : RawExpr) → GoodExpr x → cond_broken w x ≡ [] → FitsCond w (cond_tree w x)
unfolding expr_broken
cond_fits w (raw.name n) good h = name_cond_fits w n good h
cond_fits w (raw.num n) good h = as_cond w _ (expr_fits w (raw.num n) good refl)
cond_fits w (raw.text s) good h = as_cond w _ (expr_fits w (raw.text s) good refl)
cond_fits w raw.undefined good h = as_cond w _ (expr_fits w raw.undefined good refl)
cond_fits w (raw.bag k) good h = as_cond w _ (expr_fits w (raw.bag k) good refl)
cond_fits w (raw.member n safe k) good h = as_cond w _ (expr_fits w (raw.member n safe k) good h)
cond_fits w (raw.neg a) good h = as_cond w _ (expr_fits w (raw.neg a) good h)
cond_fits w (raw.binary op a b) good h = as_cond w _ (expr_fits w (raw.binary op a b) good h)
cond_fits w (raw.choose c a b) good h = as_cond w _ (expr_fits w (raw.choose c a b) good h)

-- a statement
record FitsStmt (lets : List (List ℕ)) (w : Within) (s : StmtTree) : Type 0 where
  fits : fits_stmt lets (kept w) (params_of w) s ≡ true
  written : Writable (stmt_tokens (params_of w) s)

pub record FitsStmts (lets : List (List ℕ)) (w : Within) (s : StmtTrees) : Type 0 where
  pub fits : fits_stmts lets (kept w) (params_of w) s ≡ true
  pub written : Writable (stmts_tokens (params_of w) s)

end_written : Writable (token.punct 7 ∷ [])
end_written = then_written (token.punct 7) [] refl nothing_written

pub end_call_written : Writable (token.punct 3 ∷ (token.punct 7 ∷ []))
end_call_written = then_written (token.punct 3) _ refl end_written

log_written : (ts : List Token) → Writable ts → Writable (token.name (codes "console") ∷ (token.punct 8 ∷ (token.name (codes "log") ∷ (token.punct 2 ∷ (ts ++ (token.punct 3 ∷ (token.punct 7 ∷ [])))))))
unfolding is_name_start is_name_byte is_digit all
log_written ts w = fixed_written (token.name (codes "console") ∷ (token.punct 8 ∷ (token.name (codes "log") ∷ (token.punct 2 ∷ [])))) _ refl (both_written ts _ w end_call_written)

throw_written : (ts : List Token) → Writable ts → Writable (token.name (codes "throw") ∷ (token.name (codes "new") ∷ (token.name (codes "Error") ∷ (token.punct 2 ∷ (ts ++ (token.punct 3 ∷ (token.punct 7 ∷ [])))))))
unfolding is_name_start is_name_byte is_digit all
throw_written ts w = fixed_written (token.name (codes "throw") ∷ (token.name (codes "new") ∷ (token.name (codes "Error") ∷ (token.punct 2 ∷ [])))) _ refl (both_written ts _ w end_call_written)

invalidate_written : (ts : List Token) → Writable ts → Writable (token.name (codes "import") ∷ hot_tokens (token.name (codes "invalidate") ∷ (token.punct 2 ∷ (ts ++ (token.punct 3 ∷ (token.punct 7 ∷ []))))))
unfolding is_name_start is_name_byte is_digit all
invalidate_written ts w = fixed_written (token.name (codes "import") ∷ hot_tokens (token.name (codes "invalidate") ∷ (token.punct 2 ∷ []))) _ refl (both_written ts _ w end_call_written)

equals_written : (ts : List Token) → Writable ts → Writable (token.punct 9 ∷ (ts ++ (token.punct 7 ∷ [])))
equals_written ts w = then_written (token.punct 9) _ refl (both_written ts _ w end_written)

if_written : (ts : List Token) → Writable ts → Writable (token.name (codes "if") ∷ (token.punct 2 ∷ ts))
unfolding is_name_start is_name_byte is_digit all
if_written ts w = fixed_written (token.name (codes "if") ∷ (token.punct 2 ∷ [])) ts refl w

else_word_written : (ts : List Token) → Writable ts → Writable (token.name (codes "else") ∷ (token.punct 0 ∷ ts))
unfolding is_name_start is_name_byte is_digit all
else_word_written ts w = fixed_written (token.name (codes "else") ∷ (token.punct 0 ∷ [])) ts refl w

else_written : (s : StmtTrees) (ts : List Token) → Writable ts → Writable (else_tokens s ts)
else_written tree.no_stmts ts w = nothing_written
else_written (tree.one_stmt s r) ts w = else_word_written _ (both_written ts _ w (then_written (token.punct 1) [] refl nothing_written))

neither : (a b : Bool) → (a || not b) ≡ false → (a ≡ false) × (b ≡ true)
neither true b h = absurd cc
neither false b h = (refl, not_false b h)

set_fits : (lets : List (List ℕ)) (w : Within) (k : List ℕ) (e : ExprTree) → is_name k ≡ true → FitsExpr w e → FitsStmt lets w (tree.bag_set k e)
set_fits lets w k e key x = record { fits = x.fits; written = data_written _ (then_written (token.name k) _ key (equals_written _ x.written)) }

accepts_kept : (w : Within) → accepts w ≡ true → accepts (kept w) ≡ true
accepts_kept outside h = h
accepts_kept (in_once qs) h = h
accepts_kept (in_accept qs) h = h

mutual
  stmt_fits : (lets : List (List ℕ)) (w : Within) (s : RawStmt) → GoodStmt s → stmt_broken lets w s ≡ [] → FitsStmt lets w (stmt_tree w s)
  stmt_fits lets w (raw.log es) good h = let x = exprs_fit w es good h in record { fits = x.fits; written = log_written _ x.written }
  stmt_fits lets w (raw.assign n e) good h =
      let t = no_first (broken_if (is_param w n.name || not (has_name n.name lets)) NotAssignable n.at) (expr_broken w e) h in
      let u = neither (is_param w n.name) (has_name n.name lets) (unbroken _ NotAssignable n.at t.0) in
      let x = expr_fits w e good.1 t.1 in
      record {
        fits = and_yes _ _ (and_yes _ _ (and_yes _ _ good.0.0 (not_yes _ (not_kept w n.name u.0))) u.1) x.fits;
        written = then_written (token.name n.name) _ good.0.1 (equals_written _ x.written);
      }
  stmt_fits lets w (raw.set n k e) good h = let t = no_first _ (expr_broken w e) h in set_fits lets w k _ good.0 (expr_fits w e good.1 t.1)
  stmt_fits lets w (raw.set_bag k e) good h = set_fits lets w k _ good.0 (expr_fits w e good.1 h)
  stmt_fits lets w (raw.throw e) good h = let x = expr_fits w e good h in record { fits = x.fits; written = throw_written _ x.written }
  stmt_fits lets w (raw.invalidate at o) good h =
      let t = no_first (broken_if (not (accepts w)) Unexpected at) (maybe_broken w o) h in
      let x = told_fits w o good t.1 in
      record { fits = and_yes _ _ (accepts_kept w (not_false (accepts w) (unbroken (not (accepts w)) Unexpected at t.0))) x.fits; written = invalidate_written _ x.written }
  stmt_fits lets w (raw.branch c a b) good h =
      let t = no_first (cond_broken w c) (stmts_broken lets w a ++ stmts_broken lets w b) h in
      let u = no_first (stmts_broken lets w a) (stmts_broken lets w b) t.1 in
      let x = cond_fits w c good.0 t.0 in
      let y = stmts_fit lets w a good.1 u.0 in
      let z = stmts_fit lets w b good.2 u.1 in
      record {
        fits = and_yes _ _ (and_yes _ _ x.fits y.fits) z.fits;
        written = if_written _ (both_written _ _ x.written (then_written (token.punct 3) _ refl (then_written (token.punct 0) _ refl (both_written _ _ y.written (then_written (token.punct 1) _ refl (else_written (stmts_tree w b) _ z.written))))));
      }

  pub stmts_fit : (lets : List (List ℕ)) (w : Within) (s : RawStmts) → GoodStmts s → stmts_broken lets w s ≡ [] → FitsStmts lets w (stmts_tree w s)
  stmts_fit lets w raw.no_stmts good h = record { fits = refl; written = nothing_written }
  stmts_fit lets w (raw.one_stmt s r) good h =
      let t = no_first (stmt_broken lets w s) (stmts_broken lets w r) h in
      let x = stmt_fits lets w s good.0 t.0 in
      let y = stmts_fit lets w r good.1 t.1 in
      record { fits = and_yes _ _ x.fits y.fits; written = both_written _ _ x.written y.written }

pub one_fits : (lets : List (List ℕ)) (s : RawStmt) → GoodStmt s → stmt_broken lets outside s ≡ [] → (fits_stmt lets outside [] (stmt_tree outside s) ≡ true) × Writable (stmt_tokens [] (stmt_tree outside s))
one_fits lets s good h = let x = stmt_fits lets outside s good h in (x.fits, x.written)
