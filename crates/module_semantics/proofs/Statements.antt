-- Statements, blocks and ifs, and what stands inside them.
use Rattle.module_semantics.specs.Readers.{unexpected}
use Rattle.std.proofs.Common.{◌≡◌, ℕ, zero, suc, ◌+◌, ◌≤◌, max, List, [], ◌∷◌, ◌++◌, map, true, false, ◌⊎◌, inl, inr, Some, refl, sym, ap, ◌∙◌, subst, arith, codes}
use Rattle.module_semantics.specs.Token.{name, punct, LineToken}
use Rattle.module_semantics.specs.Kinds.{DATA, DOT, EQUALS, IF, ELSE, THROW, IMPORT, OPEN, CLOSE, OPEN_BRACE, CLOSE_BRACE, within, kind, word_kind, found_word}
use Rattle.module_semantics.specs.Raw as raw
use Rattle.module_semantics.specs.Raw.{RawExpr, RawStmt, RawStmts, no_stmts, one_stmt, stmts_of}
use Rattle.module_semantics.specs.Reading as reading
use Rattle.module_semantics.specs.Reading.{Inner, only, applied, expr_firsts, stmt_firsts, else_part, if_stmt, stmt, braces, inner}
use Rattle.module_semantics.specs.Spelling as spell
use Rattle.module_semantics.specs.Spelling.{Spell, ◌>>◌, ◌▸◌}
use Rattle.module_semantics.specs.Grammar as grammar
use Rattle.module_semantics.specs.Grammar.{ExprD, ActD, ThrowD, InvalD, StmtD, StmtsD, IfD, ElseD, BlockD, expr_spelt, expr_depth, act_spelt, act_depth, inval_spelt, inval_depth, throw_spelt, stmt_spelt, stmts_spelt, if_spelt, else_spelt, block_spelt, stmt_raw, stmts_raw, if_raw, else_raw, block_raw, stmt_depth, stmts_depth, if_depth, else_depth, block_depth, hot_spelt, deepest}
use Rattle.module_semantics.proofs.Steps.{bind_some, bound_some, regroup}
use Rattle.module_semantics.proofs.KindLists.{disjoint, subset}
use Rattle.module_semantics.proofs.Parts.{Part, Default, Reads}
use Rattle.module_semantics.proofs.Sequences.{seq, seq_reads}
use Rattle.module_semantics.proofs.Choices.{As, as_reads, alt, choice_reads, seen, mapped_reads, nothing_part, given_reads, after, after_reads, before, before_reads}
use Rattle.module_semantics.proofs.Lists.{list_part, many_reads}
use Rattle.module_semantics.proofs.Ends.{end_part, end_reads, Refuses, taken_refuses, then_refuses, mapped_refuses, deep_refuses, deep_reads, Starter}
use Rattle.module_semantics.proofs.Marks.{mark_part, if_mark, else_mark, open_mark, close_mark, open_brace_mark, close_brace_mark, on_line, mark_spells}
use Rattle.module_semantics.proofs.Expressions.{ExprReads, expr_part, expr_follow, expr_reads, zero_token, expr_default, same_after}
use Rattle.module_semantics.proofs.Laters.{Later, expr_later, Bottom, expr_bottom}
use Rattle.module_semantics.proofs.Thrown.{throw_part, throw_reads}
use Rattle.module_semantics.proofs.Acts.{first_changes, one_weaker, placed, NameWay, name_act_part, name_act_reads, act_of, act_spells, act_value, act_same_depth, ActWay, act_way, ImportWay, import_part, import_reads}

-- the same spelling under another
pub under : (p f g : Spell) → ((ts : List LineToken) → f ts ≡ g ts) → (ts : List LineToken) → (p ▸ f) ts ≡ (p ▸ g) ts
under p f g h ts = same_after (p ts) f g h

pub assoc : (f g h : Spell) (ts : List LineToken) → ((f ▸ g) ▸ h) ts ≡ (f ▸ (g ▸ h)) ts
assoc f g h ts = regroup (f ts) g h

abbrev pub block_part : Part BlockD RawStmts
block_part = record { spelt = block_spelt; value = block_raw; depth = block_depth }

abbrev pub if_part : Part IfD RawStmt
if_part = record { spelt = if_spelt; value = if_raw; depth = if_depth }

-- an if after `else` counts one more
abbrev pub else_if_part : Part IfD RawStmt
else_if_part = record { spelt = if_spelt; value = if_raw; depth = λ d. suc (if_depth d) }

abbrev else_level : Part ElseD RawStmts
else_level = record { spelt = else_spelt; value = else_raw; depth = else_depth }

abbrev pub stmt_part : Part StmtD RawStmt
stmt_part = record { spelt = stmt_spelt; value = stmt_raw; depth = stmt_depth }

abbrev pub stmts_part : Part StmtsD RawStmts
stmts_part = record { spelt = stmts_spelt; value = stmts_raw; depth = stmts_depth }

-- what is known of the readers of what stands inside
pub record InnerReads (n : ℕ) (i i' : Inner) : Type 0 where
  pub expr : ExprReads n i.expr i'.expr
  pub later : Later unexpected expr_firsts i.expr
  pub bottom : Bottom i.expr
  pub block : Reads (OPEN_BRACE ∷ []) false [] n block_part i.block i'.block
  pub else_if : Reads (IF ∷ []) false (ELSE ∷ []) n else_if_part i.else_if i'.else_if

abbrev else_way : Type 0
else_way = (BlockD ⊎ IfD) ⊎ Unit {0}

abbrev else_parts : Part else_way RawStmts
else_parts = alt (after (mark_part ELSE) (alt block_part (seen only else_if_part))) (nothing_part no_stmts)

abbrev to_else : else_way → ElseD
to_else (inl (inl b)) = grammar.else_block b
to_else (inl (inr i)) = grammar.else_if i
to_else (inr u) = grammar.no_else

else_spells : (d : else_way) (ts r : List LineToken) → else_parts.spelt d ts ≡ Some r → else_level.spelt (to_else d) ts ≡ Some r
else_spells (inl (inl b)) ts r h = h
else_spells (inl (inr i)) ts r h = h
else_spells (inr u) ts r h = h

else_from : (e : ElseD) (ts r : List LineToken) → else_level.spelt e ts ≡ Some r → (d : else_way) × (to_else d ≡ e) × (else_parts.spelt d ts ≡ Some r)
else_from (grammar.else_block b) ts r h = ((inl (inl b)), refl, h)
else_from (grammar.else_if i) ts r h = ((inl (inr i)), refl, h)
else_from grammar.no_else ts r h = (inr tt, refl, h)

else_value : (d : else_way) → else_level.value (to_else d) ≡ else_parts.value d
else_value (inl (inl b)) = refl
else_value (inl (inr i)) = refl
else_value (inr u) = refl

else_deeper : (n : ℕ) (d : else_way) → else_parts.depth d ≤ n → else_level.depth (to_else d) ≤ n
else_deeper n (inl (inl b)) h = omega (arith, h)
else_deeper n (inl (inr i)) h = omega (arith, h)
else_deeper n (inr u) h = omega (arith, h)

else_lower : (n : ℕ) (d : else_way) → else_level.depth (to_else d) ≤ n → else_parts.depth d ≤ n
else_lower n (inl (inl b)) h = omega (arith, h)
else_lower n (inl (inr i)) h = omega (arith, h)
else_lower n (inr u) h = omega (arith, h)

else_as : (n : ℕ) → As else_parts else_level n n
else_as n = record { to = to_else; spells = else_spells; from = else_from; value = else_value; deeper = else_deeper n; lower = else_lower n }

else_reads : (n : ℕ) (i i' : Inner) → InnerReads n i i' → Reads (ELSE ∷ []) true (ELSE ∷ []) n else_level (else_part i) (else_part i')
unfolding else_part disjoint subset within
else_reads n i i' a = as_reads _ _ (ELSE ∷ []) (ELSE ∷ []) _ n n else_parts else_level _ _ refl refl (else_as n) (choice_reads (ELSE ∷ []) _ _ _ _ _ n _ _ _ _ _ _ refl refl (after_reads _ _ _ _ _ _ n _ _ _ _ _ _ refl refl (else_mark n) (choice_reads (OPEN_BRACE ∷ []) _ _ _ _ _ n _ _ _ _ _ _ refl refl a.block (mapped_reads _ _ _ n _ _ _ (only) a.else_if))) (given_reads n no_stmts))

abbrev if_way : Type 0
if_way = ExprD × (BlockD × ElseD)

abbrev if_parts : Part if_way RawStmt
if_parts = seen (λ v. raw.branch v.0 v.1.0 v.1.1) (after (mark_part IF) (after (mark_part OPEN) (seq (before expr_part (mark_part CLOSE)) (seq block_part else_level))))

abbrev to_if : if_way → IfD
to_if (c, (b, e)) = grammar.if_then c b e

if_grouped : (c : ExprD) (b : BlockD) (e : ElseD) (ts : List LineToken)
    → (spell.mark IF ▸ spell.mark OPEN ▸ (expr_spelt c ▸ spell.mark CLOSE) ▸ block_spelt b ▸ else_spelt e) ts ≡ (spell.mark IF ▸ spell.mark OPEN ▸ expr_spelt c ▸ spell.mark CLOSE ▸ block_spelt b ▸ else_spelt e) ts
if_grouped c b e ts = under (spell.mark IF) _ _ (under (spell.mark OPEN) _ _ (assoc (expr_spelt c) (spell.mark CLOSE) (block_spelt b ▸ else_spelt e))) ts

if_spells : (d : if_way) (ts r : List LineToken) → if_parts.spelt d ts ≡ Some r → if_part.spelt (to_if d) ts ≡ Some r
if_spells (c, (b, e)) ts r h = sym (if_grouped c b e ts) ∙ h

if_from : (e : IfD) (ts r : List LineToken) → if_part.spelt e ts ≡ Some r → (d : if_way) × (to_if d ≡ e) × (if_parts.spelt d ts ≡ Some r)
if_from (grammar.if_then c b e) ts r h = ((c, (b, e)), refl, if_grouped c b e ts ∙ h)

if_value : (d : if_way) → if_part.value (to_if d) ≡ if_parts.value d
if_value (c, (b, e)) = refl

if_deeper : (n : ℕ) (d : if_way) → if_parts.depth d ≤ n → if_part.depth (to_if d) ≤ n
if_deeper n (c, (b, e)) h = omega (arith, h)

if_lower : (n : ℕ) (d : if_way) → if_part.depth (to_if d) ≤ n → if_parts.depth d ≤ n
if_lower n (c, (b, e)) h = omega (arith, h)

if_as : (n : ℕ) → As if_parts if_part n n
if_as n = record { to = to_if; spells = if_spells; from = if_from; value = if_value; deeper = if_deeper n; lower = if_lower n }

pub if_reads : (n : ℕ) (i i' : Inner) → InnerReads n i i' → Reads (IF ∷ []) false (ELSE ∷ []) n if_part (if_stmt i) (if_stmt i')
unfolding if_stmt disjoint subset within
if_reads n i i' a = as_reads _ _ (IF ∷ []) (ELSE ∷ []) _ n n if_parts if_part _ _ refl refl (if_as n) (mapped_reads _ _ _ n _ _ _ (λ v. raw.branch v.0 v.1.0 v.1.1) (after_reads _ _ _ _ _ _ n _ _ _ _ _ _ refl refl (if_mark n) (after_reads _ _ _ _ _ _ n _ _ _ _ _ _ refl refl (open_mark n) (seq_reads _ _ _ _ _ _ n _ _ _ _ _ _ refl (before_reads _ _ _ _ _ _ n _ _ _ _ _ _ refl refl a.expr (close_mark n)) (seq_reads _ _ _ _ _ _ n _ _ _ _ _ _ refl a.block (else_reads n i i' a))))))

-- the tokens at which a statement goes on
abbrev pub stmt_follow : List ℕ
stmt_follow = ELSE ∷ expr_follow

abbrev stmt_way : Type 0
stmt_way = IfD ⊎ (ThrowD ⊎ (ImportWay ⊎ NameWay))

abbrev stmt_parts : Part stmt_way RawStmt
stmt_parts = alt if_part (alt (before (seen raw.throw throw_part) end_part) (alt (before import_part end_part) (before name_act_part end_part)))

abbrev to_stmt : stmt_way → StmtD
to_stmt (inl d) = grammar.StmtD.branch d
to_stmt (inr (inl d)) = grammar.StmtD.throw d
to_stmt (inr (inr (inl (at, inl (k, e))))) = grammar.StmtD.act (grammar.set_bag k e)
to_stmt (inr (inr (inl (at, inr x)))) = grammar.StmtD.inval (grammar.invalidate at x)
to_stmt (inr (inr (inr w))) = grammar.StmtD.act (act_of w)

stmt_spells : (d : stmt_way) (ts r : List LineToken) → stmt_parts.spelt d ts ≡ Some r → stmt_part.spelt (to_stmt d) ts ≡ Some r
stmt_spells (inl d) ts r h = h
stmt_spells (inr (inl d)) ts r h = h
stmt_spells (inr (inr (inl (at, inl (k, e))))) ts r h = first_changes _ _ spell.end r (λ m g. first_changes (spell.mark_at IMPORT at ts) _ _ m (λ j f. one_weaker (IMPORT ∷ []) _ ts j f) g) h
stmt_spells (inr (inr (inl (at, inr x)))) ts r h = h
stmt_spells (inr (inr (inr w))) ts r h = first_changes _ _ spell.end r (λ m g. act_spells w ts m g) h

stmt_bag : (k : List ℕ) (e : ExprD) (ts r : List LineToken) → stmt_spelt (grammar.StmtD.act (grammar.set_bag k e)) ts ≡ Some r → (d : stmt_way) × (to_stmt d ≡ grammar.StmtD.act (grammar.set_bag k e)) × (stmt_parts.spelt d ts ≡ Some r)
stmt_bag k e ts r h =
    let rest = hot_spelt (spell.mark DATA ▸ spell.mark DOT ▸ spell.key k ▸ spell.mark EQUALS ▸ expr_spelt e) in
    let m = bind_some ((spell.mark IMPORT ▸ rest) ts) spell.end r h in
    let w = bind_some (spell.mark IMPORT ts) rest m.0 m.1 in
    let at = placed IMPORT ts w.0 w.1 in
    (inr (inr (inl (at.0, inl (k, e)))), refl, bound_some ((spell.mark_at IMPORT at.0 ▸ rest) ts) spell.end m.0 (Some r) (bound_some (spell.mark_at IMPORT at.0 ts) rest w.0 (Some m.0) at.1 w.2) m.2)

stmt_act_by : (d : ActD) (ts r : List LineToken) → stmt_spelt (grammar.StmtD.act d) ts ≡ Some r → (m : List LineToken) → spell.end m ≡ Some r → ActWay d ts m → (w : stmt_way) × (to_stmt w ≡ grammar.StmtD.act d) × (stmt_parts.spelt w ts ≡ Some r)
stmt_act_by d ts r h m end (inl w) = (inr (inr (inr w.0)), ap (λ v. grammar.StmtD.act v) w.1, bound_some (name_act_part.spelt w.0 ts) spell.end m (Some r) w.2 end)
stmt_act_by d ts r h m end (inr v) = subst (λ a. (w : stmt_way) × (to_stmt w ≡ grammar.StmtD.act a) × (stmt_parts.spelt w ts ≡ Some r)) v.1 (stmt_bag v.0.0 v.0.1 ts r (subst (λ a. stmt_spelt (grammar.StmtD.act a) ts ≡ Some r) (sym v.1) h))

stmt_act : (d : ActD) (ts r : List LineToken) → stmt_spelt (grammar.StmtD.act d) ts ≡ Some r → (w : stmt_way) × (to_stmt w ≡ grammar.StmtD.act d) × (stmt_parts.spelt w ts ≡ Some r)
stmt_act d ts r h = let m = bind_some (act_spelt d ts) spell.end r h in stmt_act_by d ts r h m.0 m.2 (act_way d ts m.0 m.1)

stmt_from : (e : StmtD) (ts r : List LineToken) → stmt_part.spelt e ts ≡ Some r → (d : stmt_way) × (to_stmt d ≡ e) × (stmt_parts.spelt d ts ≡ Some r)
stmt_from (grammar.StmtD.branch d) ts r h = ((inl d), refl, h)
stmt_from (grammar.StmtD.throw d) ts r h = ((inr (inl d)), refl, h)
stmt_from (grammar.StmtD.inval (grammar.invalidate at x)) ts r h = ((inr (inr (inl (at, inr x)))), refl, h)
stmt_from (grammar.StmtD.act d) ts r h = stmt_act d ts r h

stmt_value : (d : stmt_way) → stmt_part.value (to_stmt d) ≡ stmt_parts.value d
stmt_value (inl d) = refl
stmt_value (inr (inl d)) = refl
stmt_value (inr (inr (inl (at, inl (k, e))))) = refl
stmt_value (inr (inr (inl (at, inr x)))) = refl
stmt_value (inr (inr (inr w))) = act_value w

stmt_deeper : (n : ℕ) (d : stmt_way) → stmt_parts.depth d ≤ n → stmt_part.depth (to_stmt d) ≤ n
stmt_deeper n (inl d) h = omega (arith, h)
stmt_deeper n (inr (inl d)) h = omega (arith, h)
stmt_deeper n (inr (inr (inl (at, inl (k, e))))) h = omega (arith, h)
stmt_deeper n (inr (inr (inl (at, inr x)))) h = omega (arith, h)
stmt_deeper n (inr (inr (inr w))) h = omega (arith, h, act_same_depth w)

stmt_lower : (n : ℕ) (d : stmt_way) → stmt_part.depth (to_stmt d) ≤ n → stmt_parts.depth d ≤ n
stmt_lower n (inl d) h = omega (arith, h)
stmt_lower n (inr (inl d)) h = omega (arith, h)
stmt_lower n (inr (inr (inl (at, inl (k, e))))) h = omega (arith, h)
stmt_lower n (inr (inr (inl (at, inr x)))) h = omega (arith, h)
stmt_lower n (inr (inr (inr w))) h = omega (arith, h, act_same_depth w)

stmt_as : (n : ℕ) → As stmt_parts stmt_part n n
stmt_as n = record { to = to_stmt; spells = stmt_spells; from = stmt_from; value = stmt_value; deeper = stmt_deeper n; lower = stmt_lower n }

pub stmt_reads : (n : ℕ) (i i' : Inner) → InnerReads n i i' → Reads stmt_firsts false stmt_follow n stmt_part (stmt i) (stmt i')
unfolding stmt disjoint subset within
stmt_reads n i i' a =
    as_reads _ _ (stmt_firsts) (stmt_follow) _ n n stmt_parts stmt_part _ _ refl refl (stmt_as n) (choice_reads (IF ∷ []) _ _ _ _ _ n _ _ _ _ _ _ refl refl (if_reads n i i' a) (choice_reads (THROW ∷ []) _ _ _ _ _ n _ _ _ _ _ _ refl refl (before_reads _ _ _ _ _ _ n _ _ _ _ _ _ refl refl (mapped_reads _ _ _ n _ _ _ (raw.throw) (throw_reads n i.expr i'.expr a.expr a.later a.bottom)) (end_reads n)) (choice_reads (IMPORT ∷ []) _ _ _ _ _ n _ _ _ _ _ _ refl refl (before_reads _ _ _ _ _ _ n _ _ _ _ _ _ refl refl (import_reads n i.expr i'.expr a.expr) (end_reads n)) (before_reads _ _ _ _ _ _ n _ _ _ _ _ _ refl refl (name_act_reads n i.expr i'.expr a.expr) (end_reads n)))))

-- statements, as a list of their own
abbrev all_stmts : List StmtD → StmtsD
all_stmts [] = grammar.StmtsD.none
all_stmts (d ∷ ds) = grammar.StmtsD.more d (all_stmts ds)

abbrev stmt_list : StmtsD → List StmtD
stmt_list grammar.StmtsD.none = []
stmt_list (grammar.StmtsD.more d r) = d ∷ stmt_list r

stmts_back : (r : StmtsD) → all_stmts (stmt_list r) ≡ r
stmts_back grammar.StmtsD.none = refl
stmts_back (grammar.StmtsD.more d r) = ap (grammar.StmtsD.more d) (stmts_back r)

stmts_same_spelt : (ds : List StmtD) (ts : List LineToken) → stmts_spelt (all_stmts ds) ts ≡ spell.many stmt_spelt ds ts
unfolding spell.many
stmts_same_spelt [] ts = refl
stmts_same_spelt (d ∷ ds) ts = same_after (stmt_spelt d ts) _ _ (stmts_same_spelt ds)

stmts_same_raw : (ds : List StmtD) → stmts_raw (all_stmts ds) ≡ stmts_of (map stmt_raw ds)
stmts_same_raw [] = refl
stmts_same_raw (d ∷ ds) = ap (one_stmt (stmt_raw d)) (stmts_same_raw ds)

stmts_same_depth : (ds : List StmtD) → stmts_depth (all_stmts ds) ≡ deepest stmt_depth ds
stmts_same_depth [] = refl
stmts_same_depth (d ∷ ds) = ap (max (stmt_depth d)) (stmts_same_depth ds)

stmts_as : (n : ℕ) → As (seen stmts_of (list_part stmt_part)) stmts_part n n
stmts_as n = record {
  to = all_stmts;
  spells = λ ds ts r h. stmts_same_spelt ds ts ∙ h;
  from = λ e ts r h. (stmt_list e, stmts_back e, sym (stmts_same_spelt (stmt_list e) ts) ∙ ap (λ v. stmts_spelt v ts) (stmts_back e) ∙ h);
  value = stmts_same_raw;
  deeper = λ ds h. omega (arith, h, stmts_same_depth ds);
  lower = λ ds h. omega (arith, h, stmts_same_depth ds);
}

-- statements in braces
abbrev pub braces_part : Part StmtsD RawStmts
braces_part = after (mark_part OPEN_BRACE) (before stmts_part (mark_part CLOSE_BRACE))

pub braces_reads : (n : ℕ) (i i' : Inner) → InnerReads n i i' → Reads (OPEN_BRACE ∷ []) false [] n braces_part (braces i) (braces i')
unfolding braces disjoint subset within
braces_reads n i i' a =
    (after_reads _ _ _ _ _ _ n _ _ _ _ _ _ refl refl (open_brace_mark n) (before_reads _ _ _ _ _ _ n _ _ _ _ _ _ refl refl (as_reads _ _ stmt_firsts (stmt_firsts ++ stmt_follow) _ n n (seen stmts_of (list_part stmt_part)) stmts_part _ _ refl refl (stmts_as n) (mapped_reads _ _ _ n _ _ _ (stmts_of) (many_reads _ _ n _ _ _ refl (stmt_reads n i i' a)))) (close_brace_mark n)))

block_from : (e : BlockD) (ts r : List LineToken) → block_spelt e ts ≡ Some r → (d : StmtsD) × (grammar.block d ≡ e) × (braces_part.spelt d ts ≡ Some r)
block_from (grammar.block d) ts r h = (d, refl, h)

block_reads : (n : ℕ) (i i' : Inner) → InnerReads n i i' → Reads (OPEN_BRACE ∷ []) false [] (suc n) block_part (braces i) (braces i')
unfolding subset within
block_reads n i i' a =
    as_reads _ _ (OPEN_BRACE ∷ []) [] _ n (suc n) braces_part block_part _ _ refl refl
    (record { to = λ d. grammar.block d; spells = λ d ts r h. h; from = block_from; value = λ d. refl; deeper = λ d h. omega (arith, h); lower = λ d h. omega (arith, h) })
    (braces_reads n i i' a)

else_if_reads : (n : ℕ) (i i' : Inner) → InnerReads n i i' → Reads (IF ∷ []) false (ELSE ∷ []) (suc n) else_if_part (if_stmt i) (if_stmt i')
unfolding subset within
else_if_reads n i i' a =
    as_reads _ _ (IF ∷ []) (ELSE ∷ []) _ n (suc n) if_part else_if_part _ _ refl refl
    (record { to = λ d. d; spells = λ d ts r h. h; from = λ d ts r h. (d, refl, h); value = λ d. refl; deeper = λ d h. omega (arith, h); lower = λ d h. omega (arith, h) })
    (if_reads n i i' a)

braces_spell : (t : LineToken) (s : List LineToken) → within (OPEN_BRACE ∷ []) (kind t.token) ≡ true → block_spelt (grammar.block grammar.StmtsD.none) (t ∷ (on_line (punct 1) ∷ s)) ≡ Some s
unfolding within
braces_spell t s is = bound_some (spell.mark OPEN_BRACE (t ∷ (on_line (punct 1) ∷ s))) (grammar.nothing ▸ spell.mark CLOSE_BRACE) (on_line (punct 1) ∷ s) (Some s) (mark_spells OPEN_BRACE t (on_line (punct 1) ∷ s) is) (mark_spells CLOSE_BRACE (on_line (punct 1)) s refl)

block_starter : Starter (OPEN_BRACE ∷ []) block_spelt
unfolding within
block_starter t is = (grammar.block grammar.StmtsD.none, on_line (punct 1) ∷ [], (refl, refl), λ s fresh. braces_spell t s is)

block_default : Default block_spelt
unfolding within
block_default = record { by = grammar.block grammar.StmtsD.none; text = on_line (punct 0) ∷ (on_line (punct 1) ∷ []); fresh = (refl, refl); spells = λ s fresh. braces_spell (on_line (punct 0)) s refl }

if_spell : (t : LineToken) (s : List LineToken) → within (IF ∷ []) (kind t.token) ≡ true → if_spelt (grammar.if_then expr_default.by (grammar.block grammar.StmtsD.none) grammar.no_else) (t ∷ (on_line (punct 2) ∷ (zero_token ∷ (on_line (punct 3) ∷ (on_line (punct 0) ∷ (on_line (punct 1) ∷ s)))))) ≡ Some s
unfolding within
if_spell t s is =
    let after_expr : List LineToken = on_line (punct 3) ∷ (on_line (punct 0) ∷ (on_line (punct 1) ∷ s)) in
    let from_expr : List LineToken = zero_token ∷ after_expr in
    let rest = block_spelt (grammar.block grammar.StmtsD.none) ▸ grammar.nothing in
    bound_some (spell.mark IF (t ∷ (on_line (punct 2) ∷ from_expr))) (spell.mark OPEN ▸ expr_spelt expr_default.by ▸ spell.mark CLOSE ▸ rest) (on_line (punct 2) ∷ from_expr) (Some s) (mark_spells IF t (on_line (punct 2) ∷ from_expr) is)
    (bound_some (spell.mark OPEN (on_line (punct 2) ∷ from_expr)) (expr_spelt expr_default.by ▸ spell.mark CLOSE ▸ rest) from_expr (Some s) (mark_spells OPEN (on_line (punct 2)) from_expr refl)
    (bound_some (expr_spelt expr_default.by from_expr) (spell.mark CLOSE ▸ rest) after_expr (Some s) (expr_default.spells after_expr (refl, refl))
    (bound_some (spell.mark CLOSE after_expr) rest (on_line (punct 0) ∷ (on_line (punct 1) ∷ s)) (Some s) (mark_spells CLOSE (on_line (punct 3)) (on_line (punct 0) ∷ (on_line (punct 1) ∷ s)) refl)
    (bound_some (block_spelt (grammar.block grammar.StmtsD.none) (on_line (punct 0) ∷ (on_line (punct 1) ∷ s))) grammar.nothing s (Some s) (braces_spell (on_line (punct 0)) s refl) refl))))

abbrev if_tail : List LineToken
if_tail = on_line (punct 2) ∷ (zero_token ∷ (on_line (punct 3) ∷ (on_line (punct 0) ∷ (on_line (punct 1) ∷ []))))

if_starter : Starter (IF ∷ []) if_spelt
unfolding within
if_starter t is = (grammar.if_then expr_default.by (grammar.block grammar.StmtsD.none) grammar.no_else, if_tail, (refl, refl), λ s fresh. if_spell t s is)

if_default : Default if_spelt
unfolding within word_kind found_word
if_default = record { by = grammar.if_then expr_default.by (grammar.block grammar.StmtsD.none) grammar.no_else; text = on_line (name (codes "if")) ∷ if_tail; fresh = (refl, refl); spells = λ s fresh. if_spell (on_line (name (codes "if"))) s refl }

block_deep : (d : BlockD) → 1 ≤ block_depth d
block_deep (grammar.block s) = omega arith

inner_later : (n : ℕ) → Later unexpected expr_firsts (inner n).expr
unfolding inner
inner_later zero = expr_later zero
inner_later (suc n) = expr_later (suc n)

inner_bottom : (n : ℕ) → Bottom (inner n).expr
unfolding inner
inner_bottom zero = expr_bottom zero
inner_bottom (suc n) = expr_bottom (suc n)

block_refuses : (n : ℕ) → Refuses (OPEN_BRACE ∷ []) (inner n).block
unfolding inner braces
block_refuses zero = deep_refuses (OPEN_BRACE ∷ [])
block_refuses (suc n) = mapped_refuses (OPEN_BRACE ∷ []) _ (λ v. v.1) (then_refuses (OPEN_BRACE ∷ []) _ _ (taken_refuses (OPEN_BRACE ∷ []) _))

else_if_refuses : (n : ℕ) → Refuses (IF ∷ []) (inner n).else_if
unfolding inner if_stmt
else_if_refuses zero = deep_refuses (IF ∷ [])
else_if_refuses (suc n) = mapped_refuses (IF ∷ []) _ _ (mapped_refuses (IF ∷ []) _ (λ v. v.1) (then_refuses (IF ∷ []) _ _ (taken_refuses (IF ∷ []) _)))

inner_expr : (n : ℕ) → (inner n).expr ≡ reading.expr n
unfolding inner
inner_expr zero = refl
inner_expr (suc n) = refl

inner_exprs : (gap less more : ℕ) → more ≡ gap + less → ExprReads less (inner less).expr (inner more).expr
inner_exprs gap less more h = rw (inner_expr less, inner_expr more) (expr_reads gap less more h)

inner_zero : (more : ℕ) → InnerReads zero (inner zero) (inner more)
unfolding inner
inner_zero more = record {
  expr = inner_exprs more zero more (omega arith);
  later = inner_later zero;
  bottom = inner_bottom zero;
  block = deep_reads (OPEN_BRACE ∷ []) block_part (inner more).block block_deep block_default block_starter (block_refuses more) [];
  else_if = deep_reads (IF ∷ []) else_if_part (inner more).else_if (λ d. omega arith) if_default if_starter (else_if_refuses more) (ELSE ∷ []);
}

inner_suc : (gap less more : ℕ) → suc more ≡ gap + suc less → InnerReads less (inner less) (inner more) → InnerReads (suc less) (inner (suc less)) (inner (suc more))
unfolding inner
inner_suc gap less more h a = record {
  expr = inner_exprs gap (suc less) (suc more) h;
  later = inner_later (suc less);
  bottom = inner_bottom (suc less);
  block = block_reads less (inner less) (inner more) a;
  else_if = else_if_reads less (inner less) (inner more) a;
}

-- the readers of what stands inside at a depth, beside the same where it may be deeper
pub inner_reads : (gap less more : ℕ) → more ≡ gap + less → InnerReads less (inner less) (inner more)
inner_reads gap zero more h = inner_zero more
inner_reads gap (suc less) zero h = absurd (omega (arith, h))
inner_reads gap (suc less) (suc more) h = inner_suc gap less more h (inner_reads gap less more (omega (arith, h)))
