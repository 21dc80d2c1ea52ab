-- What a derivation says, where it is spelled by tokens that can be written, can be written: lists and statements.
use Rattle.std.proofs.Common.{◌≡◌, List, [], ◌∷◌, map, true, cond, ◌==◌, Option, Some, None, inl, inr, sym, ap, ◌∙◌}
use Rattle.std.specs.List.{list_all}
use Rattle.std.specs.Option.{option_map}
use Rattle.module_semantics.specs.Kinds.{IMPORT, IF, ELSE, THROW, CONSOLE, LOG, NEW, ERROR, DATA, INVALIDATE, OPEN_BRACE, CLOSE_BRACE, OPEN, CLOSE, COMMA, DOT, EQUALS, SEMICOLON, name_at, same_name}
use Rattle.module_semantics.specs.Raw as raw
use Rattle.module_semantics.specs.Raw.{RawExpr, RawStmt, RawStmts}
use Rattle.module_semantics.specs.Readers.{next_in, next_two, ends}
use Rattle.module_semantics.specs.Reading.{but_console}
use Rattle.module_semantics.specs.Spelling as spell
use Rattle.module_semantics.specs.Spelling.{Spell, ◌>>◌, ◌▸◌, Listed, items_of}
use Rattle.module_semantics.specs.Grammar as grammar
use Rattle.module_semantics.specs.Grammar.{ExprD, ActD, ThrowD, InvalD, StmtD, StmtsD, IfD, ElseD, BlockD, not_error, nothing, expr_spelt, expr_raw, act_spelt, act_raw, throw_spelt, throw_raw, inval_spelt, inval_raw, stmt_spelt, stmts_spelt, if_spelt, else_spelt, block_spelt, stmt_raw, stmts_raw, if_raw, else_raw, block_raw}
use Rattle.module_semantics.specs.Fitting.{is_name, writable}
use Rattle.module_semantics.proofs.Steps.{some_same}
use Rattle.module_semantics.proofs.Ends.{chose}
use Rattle.module_semantics.proofs.CanonLevels.{tokens_in}
use Rattle.module_semantics.proofs.SaidExprs.{Keeps, GoodName, GoodExpr, bound, seen, past, last, one_keeps, name_keeps, key_keeps, hot_keeps, none_keeps, expr_keeps}

-- something holds of each
abbrev pub EachGood : {D : Type 0} → (D → Type 0) → List D → Type 0
EachGood G [] = Unit {0}
EachGood G (d ∷ ds) = G d × EachGood G ds

abbrev pub IfGood : {D : Type 0} → (D → Type 0) → Option D → Type 0
IfGood G None = Unit {0}
IfGood G (Some d) = G d

pub same_rest : {H : Type 0} → H → Keeps (λ ts. Some ts) H
same_rest x us r h s = (x, ap (λ v. list_all writable (tokens_in v)) (sym (some_same us r h)) ∙ s)

pub many_keeps : {D : Type 0} (f : D → Spell) (G : D → Type 0) → ((d : D) → Keeps (f d) (G d)) → (ds : List D) → Keeps (spell.many f ds) (EachGood G ds)
unfolding spell.many
many_keeps f G a [] = same_rest tt
many_keeps f G a (d ∷ ds) = bound (f d) (spell.many f ds) (a d) (λ x. seen (spell.many f ds) (λ y. (x, y)) (many_keeps f G a ds))

pub separated_keeps : {D : Type 0} (f : D → Spell) (G : D → Type 0) → ((d : D) → Keeps (f d) (G d)) → (ds : List D) → Keeps (spell.separated f ds) (EachGood G ds)
unfolding spell.separated
separated_keeps f G a [] = same_rest tt
separated_keeps f G a (d ∷ ds) = bound (f d) _ (a d) (λ x. seen _ (λ y. (x, y)) (many_keeps (λ e. spell.mark COMMA ▸ f e) G (λ e. past COMMA (f e) (a e)) ds))

pub listed_keeps : {D : Type 0} (f : D → Spell) (G : D → Type 0) → ((d : D) → Keeps (f d) (G d)) → (ds : Listed D) → Keeps (spell.listed f ds) (EachGood G (items_of ds))
unfolding spell.listed
listed_keeps f G a spell.Listed.none = same_rest tt
listed_keeps f G a (spell.Listed.last d) = seen (f d) (λ x. (x, tt)) (a d)
listed_keeps f G a (spell.Listed.more d ds) = bound (f d) _ (a d) (λ x. past COMMA (spell.listed f ds) (seen (spell.listed f ds) (λ y. (x, y)) (listed_keeps f G a ds)))

pub maybe_keeps : {D : Type 0} (f : D → Spell) (G : D → Type 0) → ((d : D) → Keeps (f d) (G d)) → (o : Option D) → Keeps (spell.maybe f o) (IfGood G o)
maybe_keeps f G a None = same_rest tt
maybe_keeps f G a (Some d) = a d

pub map_good : {D E : Type 0} (h : D → E) (G : E → Type 0) (ds : List D) → EachGood (λ d. G (h d)) ds → EachGood G (map h ds)
map_good h G [] x = tt
map_good h G (d ∷ ds) x = (x.0, map_good h G ds x.1)

pub option_good : {D E : Type 0} (h : D → E) (G : E → Type 0) (o : Option D) → IfGood (λ d. G (h d)) o → IfGood G (option_map h o)
option_good h G None x = tt
option_good h G (Some d) x = x

pub end_keeps : {H : Type 0} → H → Keeps spell.end H
unfolding spell.end
end_keeps x us r h s = elim (chose (next_in (SEMICOLON ∷ []) us) (spell.mark SEMICOLON us) (cond (ends us) (Some us) None) (Some r) h) [
  | inl w ↦ last SEMICOLON x us r w.1 s
  | inr w ↦ elim (chose (ends us) (Some us) None (Some r) w.1) [ inl v ↦ same_rest x us r v.1 s | inr v ↦ absurd cc ]
]

not_error_keeps : {H : Type 0} (f : Spell) → Keeps f H → Keeps (not_error f) H
not_error_keeps f a us r h s = elim (chose (next_two NEW ERROR us) None (f us) (Some r) h) [ inl w ↦ absurd cc | inr w ↦ a us r w.1 s ]

-- what a statement says can be written
abbrev mutual
  pub GoodStmt : RawStmt → Type 0
  GoodStmt (raw.log es) = EachGood GoodExpr es
  GoodStmt (raw.assign n e) = GoodName n × GoodExpr e
  GoodStmt (raw.set n k e) = (is_name k ≡ true) × GoodExpr e
  GoodStmt (raw.set_bag k e) = (is_name k ≡ true) × GoodExpr e
  GoodStmt (raw.throw e) = GoodExpr e
  GoodStmt (raw.invalidate at e) = IfGood GoodExpr e
  GoodStmt (raw.branch c a b) = GoodExpr c × GoodStmts a × GoodStmts b

  pub GoodStmts : RawStmts → Type 0
  GoodStmts raw.no_stmts = Unit {0}
  GoodStmts (raw.one_stmt s r) = GoodStmt s × GoodStmts r

pub act_keeps : (d : ActD) → Keeps (act_spelt d) (GoodStmt (act_raw d))
act_keeps (grammar.log es) = past CONSOLE _ (past DOT _ (past LOG _ (past OPEN _ (bound (spell.separated expr_spelt es) _ (separated_keeps expr_spelt (λ d. GoodExpr (expr_raw d)) expr_keeps es) (λ x. last CLOSE (map_good expr_raw GoodExpr es x))))))
act_keeps (grammar.assign n e) = bound (spell.free_name n) _ (name_keeps n) (λ x. past EQUALS _ (seen (expr_spelt e) (λ y. (x, y)) (expr_keeps e)))
act_keeps (grammar.set n k e) = bound (spell.name_of but_console n) _ (one_keeps but_console (λ t. same_name n (name_at t))) (λ t. past DOT _ (bound (spell.key k) _ (key_keeps k) (λ y. past EQUALS _ (seen (expr_spelt e) (λ z. (y, z)) (expr_keeps e)))))
act_keeps (grammar.set_bag k e) = past IMPORT _ (hot_keeps _ (past DATA _ (past DOT _ (bound (spell.key k) _ (key_keeps k) (λ y. past EQUALS _ (seen (expr_spelt e) (λ z. (y, z)) (expr_keeps e)))))))

pub throw_keeps : (d : ThrowD) → Keeps (throw_spelt d) (GoodExpr (throw_raw d))
throw_keeps (grammar.thrown e) = past THROW _ (not_error_keeps (expr_spelt e) (expr_keeps e))
throw_keeps (grammar.new_error e) = past THROW _ (past NEW _ (past ERROR _ (past OPEN _ (bound (expr_spelt e) _ (expr_keeps e) (λ x. last CLOSE x)))))

pub inval_keeps : (d : InvalD) → Keeps (inval_spelt d) (GoodStmt (inval_raw d))
inval_keeps (grammar.invalidate at e) = bound (spell.mark_at IMPORT at) _ (one_keeps (IMPORT ∷ []) (λ t. at == t.at)) (λ t. hot_keeps _ (past INVALIDATE _ (past OPEN _ (bound (spell.maybe expr_spelt e) _ (maybe_keeps expr_spelt (λ d. GoodExpr (expr_raw d)) expr_keeps e) (λ x. last CLOSE (option_good expr_raw GoodExpr e x))))))

mutual
  pub stmt_keeps : (d : StmtD) → Keeps (stmt_spelt d) (GoodStmt (stmt_raw d))
  stmt_keeps (grammar.StmtD.act d) = bound (act_spelt d) spell.end (act_keeps d) (λ x. end_keeps x)
  stmt_keeps (grammar.StmtD.throw d) = bound (throw_spelt d) spell.end (throw_keeps d) (λ x. end_keeps x)
  stmt_keeps (grammar.StmtD.inval d) = bound (inval_spelt d) spell.end (inval_keeps d) (λ x. end_keeps x)
  stmt_keeps (grammar.StmtD.branch d) = if_keeps d

  pub stmts_keeps : (d : StmtsD) → Keeps (stmts_spelt d) (GoodStmts (stmts_raw d))
  stmts_keeps grammar.StmtsD.none = none_keeps tt
  stmts_keeps (grammar.StmtsD.more s r) = bound (stmt_spelt s) (stmts_spelt r) (stmt_keeps s) (λ x. seen (stmts_spelt r) (λ y. (x, y)) (stmts_keeps r))

  if_keeps : (d : IfD) → Keeps (if_spelt d) (GoodStmt (if_raw d))
  if_keeps (grammar.if_then c b e) = past IF _ (past OPEN _ (bound (expr_spelt c) _ (expr_keeps c) (λ x. past CLOSE _ (bound (block_spelt b) _ (block_keeps b) (λ y. seen (else_spelt e) (λ z. (x, y, z)) (else_keeps e))))))

  else_keeps : (d : ElseD) → Keeps (else_spelt d) (GoodStmts (else_raw d))
  else_keeps grammar.no_else = none_keeps tt
  else_keeps (grammar.else_block b) = past ELSE _ (block_keeps b)
  else_keeps (grammar.else_if i) = past ELSE _ (seen (if_spelt i) (λ x. (x, tt)) (if_keeps i))

  block_keeps : (d : BlockD) → Keeps (block_spelt d) (GoodStmts (block_raw d))
  block_keeps (grammar.block s) = past OPEN_BRACE _ (bound (stmts_spelt s) _ (stmts_keeps s) (λ x. last CLOSE_BRACE x))
