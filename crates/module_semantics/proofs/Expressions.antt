-- Expressions: each level of the grammar, with its reader.
use Rattle.std.specs.Str.{bytes_eq}
use Rattle.std.proofs.Common.{◌≡◌, ℕ, zero, suc, ◌+◌, ◌≤◌, max, List, [], ◌∷◌, map, ◌==◌, Bool, true, false, ◌⊎◌, inl, inr, Option, Some, None, refl, sym, ap, ◌∙◌, arith, codes, ◌++◌}
use Rattle.module_tree.specs.declared.tree.Op.{Op}
use Rattle.module_tree.specs.declared.tree.Op.TheVariants as ops
use Rattle.module_semantics.specs.Token.{number, LineToken, name, punct}
use Rattle.module_semantics.specs.Kinds.{IMPORT, UNDEFINED, META, HOT, DATA, NUMBER, TEXT, OPEN, CLOSE, DOT, PLUS, MINUS, TIMES, QUESTION, COLON, SAFE_DOT, NULLISH, SEMICOLON, ERROR, within, kind, value_of, free_names, all_names, NameAt, name_at, same_name, bytes_of, word_kind, found_word}
use Rattle.module_semantics.specs.Raw as raw
use Rattle.module_semantics.specs.Raw.{RawExpr}
use Rattle.module_semantics.specs.Readers.{Reader}
use Rattle.module_semantics.specs.Reading as reading
use Rattle.module_semantics.specs.Reading.{hot, access, accessed, grouped, chosen, expr_firsts, expr_over, operation}
use Rattle.module_semantics.specs.Spelling as spell
use Rattle.module_semantics.specs.Spelling.{Spell, ◌>>◌, ◌▸◌, one}
use Rattle.module_semantics.specs.Grammar as grammar
use Rattle.module_semantics.specs.Grammar.{ExprD, NullD, NullRestD, SumD, SumRestD, ProdD, ProdRestD, UnaryD, PrimD, expr_spelt, null_spelt, null_rest_spelt, sum_spelt, sum_rest_spelt, prod_spelt, prod_rest_spelt, unary_spelt, prim_spelt, expr_raw, null_raw, null_rest_raw, sum_raw, sum_rest_raw, prod_raw, prod_rest_raw, unary_raw, prim_raw, expr_depth, null_depth, null_rest_depth, sum_depth, sum_rest_depth, prod_depth, prod_rest_depth, unary_depth, prim_depth, hot_spelt, deepest}
use Rattle.module_semantics.proofs.Steps.{regroup, bound_some}
use Rattle.module_semantics.proofs.KindLists.{disjoint, disjoint_none, subset, within_either, same_kind}
use Rattle.module_semantics.proofs.Parts.{Part, Default, Reads, Fresh}
use Rattle.module_semantics.proofs.Leaves.{one_is}
use Rattle.module_semantics.proofs.Sequences.{seq, seq_reads, follow_of}
use Rattle.module_semantics.proofs.Choices.{As, as_reads, alt, choice_reads, seen, mapped_reads, nothing_part, given_reads, after, after_reads, before, before_reads}
use Rattle.module_semantics.proofs.Lists.{list_part, many_reads}
use Rattle.module_semantics.proofs.Ends.{Refuses, taken_refuses, then_refuses, mapped_refuses, choice_refuses, more_refuses, deep_refuses, deep_reads, Starter}
use Rattle.module_semantics.proofs.Marks.{mark_part, name_part, bytes_part, number_part, number_reads, text_reads, key_reads, free_name_reads, undefined_mark, import_mark, meta_mark, hot_mark, data_mark, open_mark, close_mark, dot_mark, plus_mark, minus_mark, times_mark, question_mark, colon_mark, safe_dot_mark, nullish_mark, same_names, same_bytes, on_line, mark_spells}

-- nothing more, left out or written
pub no_more : (o : Option (List LineToken)) (r : List LineToken) → (o >> grammar.nothing) ≡ Some r → o ≡ Some r
no_more (Some x) r h = h
no_more None r h = absurd cc

pub and_no_more : (o : Option (List LineToken)) (r : List LineToken) → o ≡ Some r → (o >> grammar.nothing) ≡ Some r
and_no_more (Some x) r h = h
and_no_more None r h = absurd cc

-- after `import`: `.meta.hot.` and more
abbrev pub hot_part : {D A : Type 0} → Part D A → Part D A
hot_part P = after (mark_part DOT) (after (mark_part META) (after (mark_part DOT) (after (mark_part HOT) (after (mark_part DOT) P))))

pub hot_reads : {D A : Type 0} (fs ks : List ℕ) (null : Bool) (n : ℕ) (P : Part D A) (f g : Reader A) → Reads fs null ks n P f g → Reads (DOT ∷ []) false (follow_of null [] ks) n (hot_part P) (hot f) (hot g)
unfolding disjoint within
hot_reads fs ks null n P f g a = after_reads _ _ _ _ _ _ n _ _ _ _ _ _ refl refl (dot_mark n) (after_reads _ _ _ _ _ _ n _ _ _ _ _ _ refl refl (meta_mark n) (after_reads _ _ _ _ _ _ n _ _ _ _ _ _ refl refl (dot_mark n) (after_reads _ _ _ _ _ _ n _ _ _ _ _ _ refl refl (hot_mark n) (after_reads _ _ fs ks _ null n _ _ _ _ _ _ refl (disjoint_none fs) (dot_mark n) a))))

abbrev pub expr_part : Part ExprD RawExpr
expr_part = record { spelt = expr_spelt; value = expr_raw; depth = expr_depth }

abbrev pub null_level : Part NullD RawExpr
null_level = record { spelt = null_spelt; value = null_raw; depth = null_depth }

abbrev pub sum_level : Part SumD RawExpr
sum_level = record { spelt = sum_spelt; value = sum_raw; depth = sum_depth }

abbrev pub prod_level : Part ProdD RawExpr
prod_level = record { spelt = prod_spelt; value = prod_raw; depth = prod_depth }

abbrev pub unary_level : Part UnaryD RawExpr
unary_level = record { spelt = unary_spelt; value = unary_raw; depth = unary_depth }

abbrev pub prim_level : Part PrimD RawExpr
prim_level = record { spelt = prim_spelt; value = prim_raw; depth = prim_depth }

-- the tokens at which each level goes on
abbrev pub prim_follow : List ℕ
prim_follow = DOT ∷ SAFE_DOT ∷ []

abbrev pub prod_follow : List ℕ
prod_follow = TIMES ∷ prim_follow

abbrev pub sum_follow : List ℕ
sum_follow = PLUS ∷ MINUS ∷ prod_follow

abbrev pub null_follow : List ℕ
null_follow = NULLISH ∷ sum_follow

abbrev pub expr_follow : List ℕ
expr_follow = QUESTION ∷ null_follow

abbrev pub prim_firsts : List ℕ
prim_firsts = NUMBER ∷ TEXT ∷ UNDEFINED ∷ IMPORT ∷ OPEN ∷ free_names

-- what follows a name
abbrev pub access_part : Part (List ℕ ⊎ (List ℕ ⊎ Unit {0})) (Option (Bool × List ℕ))
access_part = alt (seen (λ k. Some (false, k)) (after (mark_part DOT) (bytes_part all_names))) (alt (seen (λ k. Some (true, k)) (after (mark_part SAFE_DOT) (bytes_part all_names))) (nothing_part None))

abbrev prim_way : Type 0
prim_way = ℕ ⊎ (List ℕ ⊎ (Unit {0} ⊎ (List ℕ ⊎ (ExprD ⊎ (NameAt × (List ℕ ⊎ (List ℕ ⊎ Unit {0})))))))

abbrev prim_parts : Part prim_way RawExpr
prim_parts = alt (seen raw.num number_part) (alt (seen raw.text (bytes_part (TEXT ∷ []))) (alt (seen (λ u. raw.undefined) (mark_part UNDEFINED))
    (alt (seen raw.bag (after (mark_part IMPORT) (hot_part (after (mark_part DATA) (after (mark_part DOT) (bytes_part all_names))))))
    (alt (after (mark_part OPEN) (before expr_part (mark_part CLOSE))) (seen accessed (seq (name_part free_names) access_part))))))

abbrev to_prim : prim_way → PrimD
to_prim (inl n) = grammar.number n
to_prim (inr (inl s)) = grammar.text s
to_prim (inr (inr (inl u))) = grammar.undefined
to_prim (inr (inr (inr (inl k)))) = grammar.bag k
to_prim (inr (inr (inr (inr (inl e))))) = grammar.brackets e
to_prim (inr (inr (inr (inr (inr (n, inl k)))))) = grammar.member n k
to_prim (inr (inr (inr (inr (inr (n, inr (inl k))))))) = grammar.safe_member n k
to_prim (inr (inr (inr (inr (inr (n, inr (inr u))))))) = grammar.name n

prim_spells : (d : prim_way) (ts r : List LineToken) → prim_parts.spelt d ts ≡ Some r → prim_level.spelt (to_prim d) ts ≡ Some r
prim_spells (inl n) ts r h = h
prim_spells (inr (inl s)) ts r h = h
prim_spells (inr (inr (inl u))) ts r h = h
prim_spells (inr (inr (inr (inl k)))) ts r h = h
prim_spells (inr (inr (inr (inr (inl e))))) ts r h = h
prim_spells (inr (inr (inr (inr (inr (n, inl k)))))) ts r h = h
prim_spells (inr (inr (inr (inr (inr (n, inr (inl k))))))) ts r h = h
prim_spells (inr (inr (inr (inr (inr (n, inr (inr u))))))) ts r h = no_more _ r h

prim_from : (e : PrimD) (ts r : List LineToken) → prim_level.spelt e ts ≡ Some r → (d : prim_way) × (to_prim d ≡ e) × (prim_parts.spelt d ts ≡ Some r)
prim_from (grammar.number n) ts r h = ((inl n), refl, h)
prim_from (grammar.text s) ts r h = ((inr (inl s)), refl, h)
prim_from grammar.undefined ts r h = (inr (inr (inl tt)), refl, h)
prim_from (grammar.bag k) ts r h = ((inr (inr (inr (inl k)))), refl, h)
prim_from (grammar.brackets e) ts r h = ((inr (inr (inr (inr (inl e))))), refl, h)
prim_from (grammar.member n k) ts r h = ((inr (inr (inr (inr (inr (n, inl k)))))), refl, h)
prim_from (grammar.safe_member n k) ts r h = ((inr (inr (inr (inr (inr (n, inr (inl k))))))), refl, h)
prim_from (grammar.name n) ts r h = (inr (inr (inr (inr (inr (n, inr (inr tt)))))), refl, and_no_more _ r h)

prim_value : (d : prim_way) → prim_level.value (to_prim d) ≡ prim_parts.value d
prim_value (inl n) = refl
prim_value (inr (inl s)) = refl
prim_value (inr (inr (inl u))) = refl
prim_value (inr (inr (inr (inl k)))) = refl
prim_value (inr (inr (inr (inr (inl e))))) = refl
prim_value (inr (inr (inr (inr (inr (n, inl k)))))) = refl
prim_value (inr (inr (inr (inr (inr (n, inr (inl k))))))) = refl
prim_value (inr (inr (inr (inr (inr (n, inr (inr u))))))) = refl

prim_deeper : (n : ℕ) (d : prim_way) → prim_parts.depth d ≤ n → prim_level.depth (to_prim d) ≤ n
prim_deeper m (inl n) h = omega (arith, h)
prim_deeper n (inr (inl s)) h = omega (arith, h)
prim_deeper n (inr (inr (inl u))) h = omega (arith, h)
prim_deeper n (inr (inr (inr (inl k)))) h = omega (arith, h)
prim_deeper n (inr (inr (inr (inr (inl e))))) h = omega (arith, h)
prim_deeper m (inr (inr (inr (inr (inr (n, inl k)))))) h = omega (arith, h)
prim_deeper m (inr (inr (inr (inr (inr (n, inr (inl k))))))) h = omega (arith, h)
prim_deeper m (inr (inr (inr (inr (inr (n, inr (inr u))))))) h = omega (arith, h)

prim_lower : (n : ℕ) (d : prim_way) → prim_level.depth (to_prim d) ≤ n → prim_parts.depth d ≤ n
prim_lower m (inl n) h = omega (arith, h)
prim_lower n (inr (inl s)) h = omega (arith, h)
prim_lower n (inr (inr (inl u))) h = omega (arith, h)
prim_lower n (inr (inr (inr (inl k)))) h = omega (arith, h)
prim_lower n (inr (inr (inr (inr (inl e))))) h = omega (arith, h)
prim_lower m (inr (inr (inr (inr (inr (n, inl k)))))) h = omega (arith, h)
prim_lower m (inr (inr (inr (inr (inr (n, inr (inl k))))))) h = omega (arith, h)
prim_lower m (inr (inr (inr (inr (inr (n, inr (inr u))))))) h = omega (arith, h)

prim_as : (n : ℕ) → As prim_parts prim_level n n
prim_as n = record { to = to_prim; spells = prim_spells; from = prim_from; value = prim_value; deeper = prim_deeper n; lower = prim_lower n }

-- of the reader of the expressions inside it is known
abbrev pub ExprReads : ℕ → Reader RawExpr → Reader RawExpr → Type 0
ExprReads n e e' = Reads expr_firsts false expr_follow n expr_part e e'

pub access_reads : (n : ℕ) → Reads (DOT ∷ SAFE_DOT ∷ []) true prim_follow n access_part access access
unfolding access disjoint within subset
access_reads n = as_reads _ _ (DOT ∷ SAFE_DOT ∷ []) prim_follow _ n n access_part access_part _ _ refl refl (record { to = λ d. d; spells = λ d ts r h. h; from = λ d ts r h. (d, refl, h); value = λ d. refl; deeper = λ d h. h; lower = λ d h. h })
    (choice_reads (DOT ∷ []) _ _ _ _ _ n _ _ _ _ _ _ refl refl (mapped_reads _ _ _ n _ _ _ (λ k. Some (false, k)) (after_reads _ _ _ _ _ _ n _ _ _ _ _ _ refl refl (dot_mark n) (key_reads n))) (choice_reads (SAFE_DOT ∷ []) _ _ _ _ _ n _ _ _ _ _ _ refl refl (mapped_reads _ _ _ n _ _ _ (λ k. Some (true, k)) (after_reads _ _ _ _ _ _ n _ _ _ _ _ _ refl refl (safe_dot_mark n) (key_reads n))) (given_reads n None)))

pub prim_reads : (n : ℕ) (e e' : Reader RawExpr) → ExprReads n e e' → Reads prim_firsts false prim_follow n prim_level (reading.prim e) (reading.prim e')
unfolding reading.prim disjoint within subset
prim_reads n e e' a =
    as_reads _ _ (prim_firsts) (prim_follow) _ n n prim_parts prim_level _ _ refl refl (prim_as n)
    (choice_reads (NUMBER ∷ []) _ _ _ _ _ n _ _ _ _ _ _ refl refl (mapped_reads _ _ _ n _ _ _ (raw.num) (number_reads n)) (choice_reads (TEXT ∷ []) _ _ _ _ _ n _ _ _ _ _ _ refl refl (mapped_reads _ _ _ n _ _ _ (raw.text) (text_reads n)) (choice_reads (UNDEFINED ∷ []) _ _ _ _ _ n _ _ _ _ _ _ refl refl (mapped_reads _ _ _ n _ _ _ (λ u. raw.undefined) (undefined_mark n)) (choice_reads (IMPORT ∷ []) _ _ _ _ _ n _ _ _ _ _ _ refl refl (mapped_reads _ _ _ n _ _ _ (raw.bag) (after_reads _ _ _ _ _ _ n _ _ _ _ _ _ refl refl (import_mark n) (hot_reads _ _ _ n _ _ _ (after_reads _ _ _ _ _ _ n _ _ _ _ _ _ refl refl (data_mark n) (after_reads _ _ _ _ _ _ n _ _ _ _ _ _ refl refl (dot_mark n) (key_reads n)))))) (choice_reads (OPEN ∷ []) _ _ _ _ _ n _ _ _ _ _ _ refl refl (after_reads _ _ _ _ _ _ n _ _ _ _ _ _ refl refl (open_mark n) (before_reads _ _ _ _ _ _ n _ _ _ _ _ _ refl refl a (close_mark n))) (mapped_reads _ _ _ n _ _ _ (accessed) (seq_reads _ _ _ _ _ _ n _ _ _ _ _ _ refl (free_name_reads n) (access_reads n))))))))

abbrev unary_way : Type 0
unary_way = PrimD ⊎ PrimD

abbrev unary_parts : Part unary_way RawExpr
unary_parts = alt (seen raw.neg (after (mark_part MINUS) prim_level)) prim_level

abbrev to_unary : unary_way → UnaryD
to_unary (inl p) = grammar.negative p
to_unary (inr p) = grammar.positive p

unary_spells : (d : unary_way) (ts r : List LineToken) → unary_parts.spelt d ts ≡ Some r → unary_level.spelt (to_unary d) ts ≡ Some r
unary_spells (inl p) ts r h = h
unary_spells (inr p) ts r h = h

unary_from : (e : UnaryD) (ts r : List LineToken) → unary_level.spelt e ts ≡ Some r → (d : unary_way) × (to_unary d ≡ e) × (unary_parts.spelt d ts ≡ Some r)
unary_from (grammar.negative p) ts r h = ((inl p), refl, h)
unary_from (grammar.positive p) ts r h = ((inr p), refl, h)

unary_value : (d : unary_way) → unary_level.value (to_unary d) ≡ unary_parts.value d
unary_value (inl p) = refl
unary_value (inr p) = refl

unary_deeper : (n : ℕ) (d : unary_way) → unary_parts.depth d ≤ n → unary_level.depth (to_unary d) ≤ n
unary_deeper n (inl p) h = omega (arith, h)
unary_deeper n (inr p) h = omega (arith, h)

unary_lower : (n : ℕ) (d : unary_way) → unary_level.depth (to_unary d) ≤ n → unary_parts.depth d ≤ n
unary_lower n (inl p) h = omega (arith, h)
unary_lower n (inr p) h = omega (arith, h)

unary_as : (n : ℕ) → As unary_parts unary_level n n
unary_as n = record { to = to_unary; spells = unary_spells; from = unary_from; value = unary_value; deeper = unary_deeper n; lower = unary_lower n }

pub unary_reads : (n : ℕ) (e e' : Reader RawExpr) → ExprReads n e e' → Reads (MINUS ∷ prim_firsts) false prim_follow n unary_level (reading.unary e) (reading.unary e')
unfolding reading.unary disjoint within subset
unary_reads n e e' a = as_reads _ _ (MINUS ∷ prim_firsts) (prim_follow) _ n n unary_parts unary_level _ _ refl refl (unary_as n) (choice_reads (MINUS ∷ []) _ _ _ _ _ n _ _ _ _ _ _ refl refl (mapped_reads _ _ _ n _ _ _ (raw.neg) (after_reads _ _ _ _ _ _ n _ _ _ _ _ _ refl refl (minus_mark n) (prim_reads n e e' a))) (prim_reads n e e' a))

-- the same spelling after a part
pub same_after : (o : Option (List LineToken)) (f g : Spell) → ((ts : List LineToken) → f ts ≡ g ts) → (o >> f) ≡ (o >> g)
same_after (Some x) f g h = h x
same_after None f g h = refl

-- prod: a first one, and the others
abbrev prod_rest : List UnaryD → ProdRestD
prod_rest [] = grammar.no_prod
prod_rest (d ∷ ds) = grammar.times d (prod_rest ds)

abbrev prod_list : ProdRestD → List UnaryD
prod_list grammar.no_prod = []
prod_list (grammar.times d r) = d ∷ prod_list r

abbrev pub prod_turn : Part UnaryD (Op × RawExpr)
prod_turn = seen (λ b. (ops.Mul, b)) (after (mark_part TIMES) unary_level)

prod_same_spelt : (ds : List UnaryD) (ts : List LineToken) → prod_rest_spelt (prod_rest ds) ts ≡ spell.many prod_turn.spelt ds ts
unfolding spell.many
prod_same_spelt [] ts = refl
prod_same_spelt (d ∷ ds) ts = sym (regroup (spell.mark TIMES ts) (unary_spelt d) (prod_rest_spelt (prod_rest ds))) ∙ same_after (prod_turn.spelt d ts) _ _ (prod_same_spelt ds)

prod_same_raw : (left : RawExpr) (ds : List UnaryD) → prod_rest_raw left (prod_rest ds) ≡ grouped left (map prod_turn.value ds)
prod_same_raw left [] = refl
prod_same_raw left (d ∷ ds) = prod_same_raw (raw.binary ops.Mul left (unary_raw d)) ds

prod_same_depth : (ds : List UnaryD) → prod_rest_depth (prod_rest ds) ≡ deepest unary_depth ds
prod_same_depth [] = refl
prod_same_depth (d ∷ ds) = ap (max (unary_depth d)) (prod_same_depth ds)

prod_back : (r : ProdRestD) → prod_rest (prod_list r) ≡ r
prod_back grammar.no_prod = refl
prod_back (grammar.times d r) = ap (grammar.times d) (prod_back r)

abbrev prod_parts : Part (UnaryD × List UnaryD) RawExpr
prod_parts = seen (λ v. grouped v.0 v.1) (seq unary_level (list_part prod_turn))

prod_from : (e : ProdD) (ts r : List LineToken) → prod_spelt e ts ≡ Some r → (d : UnaryD × List UnaryD) × (grammar.prod d.0 (prod_rest d.1) ≡ e) × (prod_parts.spelt d ts ≡ Some r)
prod_from (grammar.prod d rest) ts r h =
    ((d, prod_list rest), ap (grammar.prod d) (prod_back rest), sym (same_after (unary_spelt d ts) _ _ (λ k. ap (λ v. prod_rest_spelt v k) (sym (prod_back rest)) ∙ prod_same_spelt (prod_list rest) k)) ∙ h)

prod_as : (n : ℕ) → As prod_parts prod_level n n
prod_as n = record {
  to = λ d. grammar.prod d.0 (prod_rest d.1);
  spells = λ d ts r h. same_after (unary_spelt d.0 ts) _ _ (prod_same_spelt d.1) ∙ h;
  from = prod_from;
  value = λ d. prod_same_raw (unary_raw d.0) d.1;
  deeper = λ d h. omega (arith, h, prod_same_depth d.1);
  lower = λ d h. omega (arith, h, prod_same_depth d.1);
}

pub prod_reads : (n : ℕ) (e e' : Reader RawExpr) → ExprReads n e e' → Reads (MINUS ∷ prim_firsts) false prod_follow n prod_level (reading.prod e) (reading.prod e')
unfolding reading.prod disjoint within subset
prod_reads n e e' a = as_reads _ _ (MINUS ∷ prim_firsts) (prod_follow) _ n n prod_parts prod_level _ _ refl refl (prod_as n) (mapped_reads _ _ _ n _ _ _ (λ v. grouped v.0 v.1) (seq_reads _ _ _ _ _ _ n _ _ _ _ _ _ refl (unary_reads n e e' a) (many_reads _ _ n _ _ _ refl (mapped_reads _ _ _ n _ _ _ (λ b. (ops.Mul, b)) (after_reads _ _ _ _ _ _ n _ _ _ _ _ _ refl refl (times_mark n) (unary_reads n e e' a))))))

-- sum: a first one, and the others, each with its operator
abbrev sum_rest : List (ProdD ⊎ ProdD) → SumRestD
sum_rest [] = grammar.no_sum
sum_rest (inl d ∷ ds) = grammar.plus d (sum_rest ds)
sum_rest (inr d ∷ ds) = grammar.minus d (sum_rest ds)

abbrev sum_list : SumRestD → List (ProdD ⊎ ProdD)
sum_list grammar.no_sum = []
sum_list (grammar.plus d r) = inl d ∷ sum_list r
sum_list (grammar.minus d r) = inr d ∷ sum_list r

abbrev pub sum_turn : Part (ProdD ⊎ ProdD) (Op × RawExpr)
sum_turn = alt (seen (λ b. (ops.Add, b)) (after (mark_part PLUS) prod_level)) (seen (λ b. (ops.Sub, b)) (after (mark_part MINUS) prod_level))

sum_same_spelt : (ds : List (ProdD ⊎ ProdD)) (ts : List LineToken) → sum_rest_spelt (sum_rest ds) ts ≡ spell.many sum_turn.spelt ds ts
unfolding spell.many
sum_same_spelt [] ts = refl
sum_same_spelt (inl d ∷ ds) ts = sym (regroup (spell.mark PLUS ts) (prod_spelt d) (sum_rest_spelt (sum_rest ds))) ∙ same_after (sum_turn.spelt (inl d) ts) _ _ (sum_same_spelt ds)
sum_same_spelt (inr d ∷ ds) ts = sym (regroup (spell.mark MINUS ts) (prod_spelt d) (sum_rest_spelt (sum_rest ds))) ∙ same_after (sum_turn.spelt (inr d) ts) _ _ (sum_same_spelt ds)

sum_same_raw : (left : RawExpr) (ds : List (ProdD ⊎ ProdD)) → sum_rest_raw left (sum_rest ds) ≡ grouped left (map sum_turn.value ds)
sum_same_raw left [] = refl
sum_same_raw left (inl d ∷ ds) = sum_same_raw (raw.binary ops.Add left (prod_raw d)) ds
sum_same_raw left (inr d ∷ ds) = sum_same_raw (raw.binary ops.Sub left (prod_raw d)) ds

sum_same_depth : (ds : List (ProdD ⊎ ProdD)) → sum_rest_depth (sum_rest ds) ≡ deepest sum_turn.depth ds
sum_same_depth [] = refl
sum_same_depth (inl d ∷ ds) = ap (max (prod_depth d)) (sum_same_depth ds)
sum_same_depth (inr d ∷ ds) = ap (max (prod_depth d)) (sum_same_depth ds)

sum_back : (r : SumRestD) → sum_rest (sum_list r) ≡ r
sum_back grammar.no_sum = refl
sum_back (grammar.plus d r) = ap (grammar.plus d) (sum_back r)
sum_back (grammar.minus d r) = ap (grammar.minus d) (sum_back r)

abbrev sum_parts : Part (ProdD × List (ProdD ⊎ ProdD)) RawExpr
sum_parts = seen (λ v. grouped v.0 v.1) (seq prod_level (list_part sum_turn))

sum_from : (e : SumD) (ts r : List LineToken) → sum_spelt e ts ≡ Some r → (d : ProdD × List (ProdD ⊎ ProdD)) × (grammar.sum d.0 (sum_rest d.1) ≡ e) × (sum_parts.spelt d ts ≡ Some r)
sum_from (grammar.sum d rest) ts r h =
    ((d, sum_list rest), ap (grammar.sum d) (sum_back rest), sym (same_after (prod_spelt d ts) _ _ (λ k. ap (λ v. sum_rest_spelt v k) (sym (sum_back rest)) ∙ sum_same_spelt (sum_list rest) k)) ∙ h)

sum_as : (n : ℕ) → As sum_parts sum_level n n
sum_as n = record {
  to = λ d. grammar.sum d.0 (sum_rest d.1);
  spells = λ d ts r h. same_after (prod_spelt d.0 ts) _ _ (sum_same_spelt d.1) ∙ h;
  from = sum_from;
  value = λ d. sum_same_raw (prod_raw d.0) d.1;
  deeper = λ d h. omega (arith, h, sum_same_depth d.1);
  lower = λ d h. omega (arith, h, sum_same_depth d.1);
}

pub sum_reads : (n : ℕ) (e e' : Reader RawExpr) → ExprReads n e e' → Reads (MINUS ∷ prim_firsts) false sum_follow n sum_level (reading.sum e) (reading.sum e')
unfolding reading.sum disjoint within subset
sum_reads n e e' a =
    as_reads _ _ (MINUS ∷ prim_firsts) (sum_follow) _ n n sum_parts sum_level _ _ refl refl (sum_as n) (mapped_reads _ _ _ n _ _ _ (λ v. grouped v.0 v.1) (seq_reads _ _ _ _ _ _ n _ _ _ _ _ _ refl (prod_reads n e e' a) (many_reads _ _ n _ _ _ refl (choice_reads (PLUS ∷ []) _ _ _ _ _ n _ _ _ _ _ _ refl refl (mapped_reads _ _ _ n _ _ _ (λ b. (ops.Add, b)) (after_reads _ _ _ _ _ _ n _ _ _ _ _ _ refl refl (plus_mark n) (prod_reads n e e' a))) (mapped_reads _ _ _ n _ _ _ (λ b. (ops.Sub, b)) (after_reads _ _ _ _ _ _ n _ _ _ _ _ _ refl refl (minus_mark n) (prod_reads n e e' a)))))))

-- null: a first one, and the others
abbrev null_rest : List SumD → NullRestD
null_rest [] = grammar.no_null
null_rest (d ∷ ds) = grammar.nullish d (null_rest ds)

abbrev null_list : NullRestD → List SumD
null_list grammar.no_null = []
null_list (grammar.nullish d r) = d ∷ null_list r

abbrev pub null_turn : Part SumD (Op × RawExpr)
null_turn = seen (λ b. (ops.Null, b)) (after (mark_part NULLISH) sum_level)

null_same_spelt : (ds : List SumD) (ts : List LineToken) → null_rest_spelt (null_rest ds) ts ≡ spell.many null_turn.spelt ds ts
unfolding spell.many
null_same_spelt [] ts = refl
null_same_spelt (d ∷ ds) ts = sym (regroup (spell.mark NULLISH ts) (sum_spelt d) (null_rest_spelt (null_rest ds))) ∙ same_after (null_turn.spelt d ts) _ _ (null_same_spelt ds)

null_same_raw : (left : RawExpr) (ds : List SumD) → null_rest_raw left (null_rest ds) ≡ grouped left (map null_turn.value ds)
null_same_raw left [] = refl
null_same_raw left (d ∷ ds) = null_same_raw (raw.binary ops.Null left (sum_raw d)) ds

null_same_depth : (ds : List SumD) → null_rest_depth (null_rest ds) ≡ deepest sum_depth ds
null_same_depth [] = refl
null_same_depth (d ∷ ds) = ap (max (sum_depth d)) (null_same_depth ds)

null_back : (r : NullRestD) → null_rest (null_list r) ≡ r
null_back grammar.no_null = refl
null_back (grammar.nullish d r) = ap (grammar.nullish d) (null_back r)

abbrev null_parts : Part (SumD × List SumD) RawExpr
null_parts = seen (λ v. grouped v.0 v.1) (seq sum_level (list_part null_turn))

null_from : (e : NullD) (ts r : List LineToken) → null_spelt e ts ≡ Some r → (d : SumD × List SumD) × (grammar.null d.0 (null_rest d.1) ≡ e) × (null_parts.spelt d ts ≡ Some r)
null_from (grammar.null d rest) ts r h =
    ((d, null_list rest), ap (grammar.null d) (null_back rest), sym (same_after (sum_spelt d ts) _ _ (λ k. ap (λ v. null_rest_spelt v k) (sym (null_back rest)) ∙ null_same_spelt (null_list rest) k)) ∙ h)

null_as : (n : ℕ) → As null_parts null_level n n
null_as n = record {
  to = λ d. grammar.null d.0 (null_rest d.1);
  spells = λ d ts r h. same_after (sum_spelt d.0 ts) _ _ (null_same_spelt d.1) ∙ h;
  from = null_from;
  value = λ d. null_same_raw (sum_raw d.0) d.1;
  deeper = λ d h. omega (arith, h, null_same_depth d.1);
  lower = λ d h. omega (arith, h, null_same_depth d.1);
}

pub null_reads : (n : ℕ) (e e' : Reader RawExpr) → ExprReads n e e' → Reads (MINUS ∷ prim_firsts) false null_follow n null_level (reading.null e) (reading.null e')
unfolding reading.null disjoint within subset
null_reads n e e' a = as_reads _ _ (MINUS ∷ prim_firsts) (null_follow) _ n n null_parts null_level _ _ refl refl (null_as n) (mapped_reads _ _ _ n _ _ _ (λ v. grouped v.0 v.1) (seq_reads _ _ _ _ _ _ n _ _ _ _ _ _ refl (sum_reads n e e' a) (many_reads _ _ n _ _ _ refl (mapped_reads _ _ _ n _ _ _ (λ b. (ops.Null, b)) (after_reads _ _ _ _ _ _ n _ _ _ _ _ _ refl refl (nullish_mark n) (sum_reads n e e' a))))))

abbrev expr_way : Type 0
expr_way = NullD × ((ExprD × ExprD) ⊎ Unit {0})

abbrev expr_parts : Part expr_way RawExpr
expr_parts = seen chosen (seq null_level (alt (seen Some (after (mark_part QUESTION) (seq (before expr_part (mark_part COLON)) expr_part))) (nothing_part None)))

abbrev to_expr : expr_way → ExprD
to_expr (s, inl (a, b)) = grammar.choice s a b
to_expr (s, inr u) = grammar.plain s

-- the parts of a choice, grouped as its reader has them
expr_same : (a b : ExprD) (k : List LineToken) → (spell.mark QUESTION ▸ expr_spelt a ▸ spell.mark COLON ▸ expr_spelt b) k ≡ (spell.mark QUESTION ▸ (expr_spelt a ▸ spell.mark COLON) ▸ expr_spelt b) k
expr_same a b k = same_after (spell.mark QUESTION k) _ _ (λ u. sym (regroup (expr_spelt a u) (spell.mark COLON) (expr_spelt b)))

expr_grouped : (o : Option (List LineToken)) (a b : ExprD) (r : List LineToken) → (o >> (spell.mark QUESTION ▸ (expr_spelt a ▸ spell.mark COLON) ▸ expr_spelt b)) ≡ Some r → (o >> (spell.mark QUESTION ▸ expr_spelt a ▸ spell.mark COLON ▸ expr_spelt b)) ≡ Some r
expr_grouped o a b r h = same_after o _ _ (expr_same a b) ∙ h

expr_ungrouped : (o : Option (List LineToken)) (a b : ExprD) (r : List LineToken) → (o >> (spell.mark QUESTION ▸ expr_spelt a ▸ spell.mark COLON ▸ expr_spelt b)) ≡ Some r → (o >> (spell.mark QUESTION ▸ (expr_spelt a ▸ spell.mark COLON) ▸ expr_spelt b)) ≡ Some r
expr_ungrouped o a b r h = sym (same_after o _ _ (expr_same a b)) ∙ h

expr_spells : (d : expr_way) (ts r : List LineToken) → expr_parts.spelt d ts ≡ Some r → expr_part.spelt (to_expr d) ts ≡ Some r
expr_spells (s, inl (a, b)) ts r h = expr_grouped (null_spelt s ts) a b r h
expr_spells (s, inr u) ts r h = no_more _ r h

expr_from : (e : ExprD) (ts r : List LineToken) → expr_part.spelt e ts ≡ Some r → (d : expr_way) × (to_expr d ≡ e) × (expr_parts.spelt d ts ≡ Some r)
expr_from (grammar.choice s a b) ts r h = ((s, inl (a, b)), refl, expr_ungrouped (null_spelt s ts) a b r h)
expr_from (grammar.plain s) ts r h = ((s, inr tt), refl, and_no_more _ r h)

expr_value : (d : expr_way) → expr_part.value (to_expr d) ≡ expr_parts.value d
expr_value (s, inl (a, b)) = refl
expr_value (s, inr u) = refl

expr_deeper : (n : ℕ) (d : expr_way) → expr_parts.depth d ≤ n → expr_part.depth (to_expr d) ≤ suc n
expr_deeper n (s, inl (a, b)) h = omega (arith, h)
expr_deeper n (s, inr u) h = omega (arith, h)

expr_lower : (n : ℕ) (d : expr_way) → expr_part.depth (to_expr d) ≤ suc n → expr_parts.depth d ≤ n
expr_lower n (s, inl (a, b)) h = omega (arith, h)
expr_lower n (s, inr u) h = omega (arith, h)

expr_as : (n : ℕ) → As expr_parts expr_part n (suc n)
expr_as n = record { to = to_expr; spells = expr_spells; from = expr_from; value = expr_value; deeper = expr_deeper n; lower = expr_lower n }

expr_level : (n : ℕ) (e e' : Reader RawExpr) → ExprReads n e e' → ExprReads (suc n) (expr_over e) (expr_over e')
unfolding expr_over disjoint within subset
expr_level n e e' a =
    as_reads _ _ (expr_firsts) (expr_follow) _ n (suc n) expr_parts expr_part _ _ refl refl (expr_as n) (mapped_reads _ _ _ n _ _ _ (chosen) (seq_reads _ _ _ _ _ _ n _ _ _ _ _ _ refl (null_reads n e e' a) (choice_reads (QUESTION ∷ []) _ _ _ _ _ n _ _ _ _ _ _ refl refl (mapped_reads _ _ _ n _ _ _ (Some) (after_reads _ _ _ _ _ _ n _ _ _ _ _ _ refl refl (question_mark n) (seq_reads _ _ _ _ _ _ n _ _ _ _ _ _ refl (before_reads _ _ _ _ _ _ n _ _ _ _ _ _ refl refl a (colon_mark n)) a))) (given_reads n None))))

pub expr_deep : (d : ExprD) → 1 ≤ expr_depth d
expr_deep (grammar.plain s) = omega arith
expr_deep (grammar.choice s a b) = omega arith

-- the number 0
abbrev pub zero_token : LineToken
zero_token = record { token = number 0; at = 0; later = true }

pub zero_spells : (s : List LineToken) → spell.number_token 0 (zero_token ∷ s) ≡ Some s
unfolding within
zero_spells s = one_is (NUMBER ∷ []) (λ t. 0 == value_of t.token) zero_token s refl refl

pub zero_plain : within (SEMICOLON ∷ ERROR ∷ []) (kind zero_token.token) ≡ false
unfolding within
zero_plain = refl

abbrev pub expr_default : Default expr_spelt
expr_default = record {
  by = grammar.plain (grammar.null (grammar.sum (grammar.prod (grammar.positive (grammar.number 0)) grammar.no_prod) grammar.no_sum) grammar.no_null);
  text = zero_token ∷ [];
  fresh = (refl, zero_plain);
  spells = λ s fresh. and_no_more _ s (and_no_more _ s (and_no_more _ s (zero_spells s)));
}

-- a prim alone
abbrev only_prim : PrimD → ExprD
only_prim p = grammar.plain (grammar.null (grammar.sum (grammar.prod (grammar.positive p) grammar.no_prod) grammar.no_sum) grammar.no_null)

only_spells : (p : PrimD) (ts r : List LineToken) → prim_spelt p ts ≡ Some r → expr_spelt (only_prim p) ts ≡ Some r
only_spells p ts r h = and_no_more _ r (and_no_more _ r (and_no_more _ r h))

abbrev Start : LineToken → Type 0
Start t = (d : ExprD) × (more : List LineToken) × (Fresh more) × ((s : List LineToken) → Fresh s → expr_spelt d (t ∷ (more ++ s)) ≡ Some s)

start_name : (t : LineToken) → within free_names (kind t.token) ≡ true → Start t
start_name t is = (only_prim (grammar.name (name_at t)), [], tt, λ s fresh. only_spells (grammar.name (name_at t)) (t ∷ s) s (one_is free_names (λ u. same_name (name_at t) (name_at u)) t s is (same_names.again (name_at t))))

start_minus : (t : LineToken) → within (MINUS ∷ []) (kind t.token) ≡ true → Start t
start_minus t is = (
  grammar.plain (grammar.null (grammar.sum (grammar.prod (grammar.negative (grammar.number 0)) grammar.no_prod) grammar.no_sum) grammar.no_null),
  zero_token ∷ [],
  (refl, zero_plain),
  λ s fresh. and_no_more _ s (and_no_more _ s (and_no_more _ s (bound_some (spell.mark MINUS (t ∷ (zero_token ∷ s))) (spell.number_token 0) (zero_token ∷ s) (Some s) (mark_spells MINUS t (zero_token ∷ s) is) (zero_spells s)))),
)

close_fresh : within (SEMICOLON ∷ ERROR ∷ []) (kind (on_line (punct 3)).token) ≡ false
unfolding within
close_fresh = refl

close_is : within (CLOSE ∷ []) (kind (on_line (punct 3)).token) ≡ true
unfolding within
close_is = refl

start_open : (t : LineToken) → within (OPEN ∷ []) (kind t.token) ≡ true → Start t
start_open t is = (
  only_prim (grammar.brackets expr_default.by),
  zero_token ∷ (on_line (punct 3) ∷ []),
  (refl, zero_plain),
  λ s fresh.
      let rest : List LineToken = on_line (punct 3) ∷ s in
      only_spells (grammar.brackets expr_default.by) (t ∷ (zero_token ∷ rest)) s
      (bound_some (spell.mark OPEN (t ∷ (zero_token ∷ rest))) (expr_spelt expr_default.by ▸ spell.mark CLOSE) (zero_token ∷ rest) (Some s) (mark_spells OPEN t (zero_token ∷ rest) is)
      (bound_some (expr_spelt expr_default.by (zero_token ∷ rest)) (spell.mark CLOSE) rest (Some s) (expr_default.spells rest (refl, close_fresh)) (mark_spells CLOSE (on_line (punct 3)) s close_is))),
)

-- `.meta.hot.data.a`
abbrev bag_tail : List LineToken
bag_tail = on_line (punct 8) ∷ (on_line (name (codes "meta")) ∷ (on_line (punct 8) ∷ (on_line (name (codes "hot")) ∷ (on_line (punct 8) ∷ (on_line (name (codes "data")) ∷ (on_line (punct 8) ∷ (on_line (name (codes "a")) ∷ [])))))))

bag_fresh : Fresh bag_tail
unfolding within
bag_fresh = (refl, refl)

bag_spells : (s : List LineToken) → hot_spelt (spell.mark DATA ▸ spell.mark DOT ▸ spell.key (codes "a")) (bag_tail ++ s) ≡ Some s
unfolding one within word_kind found_word
bag_spells s = refl

start_import : (t : LineToken) → within (IMPORT ∷ []) (kind t.token) ≡ true → Start t
start_import t is = (
  only_prim (grammar.bag (codes "a")),
  bag_tail,
  bag_fresh,
  λ s fresh.
      only_spells (grammar.bag (codes "a")) (t ∷ (bag_tail ++ s)) s
      (bound_some (spell.mark IMPORT (t ∷ (bag_tail ++ s))) (hot_spelt (spell.mark DATA ▸ spell.mark DOT ▸ spell.key (codes "a"))) (bag_tail ++ s) (Some s) (mark_spells IMPORT t (bag_tail ++ s) is) (bag_spells s)),
)

start_undefined : (t : LineToken) → within (UNDEFINED ∷ []) (kind t.token) ≡ true → Start t
start_undefined t is = (only_prim grammar.undefined, [], tt, λ s fresh. only_spells grammar.undefined (t ∷ s) s (mark_spells UNDEFINED t s is))

start_text : (t : LineToken) → within (TEXT ∷ []) (kind t.token) ≡ true → Start t
start_text t is = (only_prim (grammar.text (bytes_of t.token)), [], tt, λ s fresh. only_spells (grammar.text (bytes_of t.token)) (t ∷ s) s (one_is (TEXT ∷ []) (λ u. bytes_eq (bytes_of t.token) (bytes_of u.token)) t s is (same_bytes.again (bytes_of t.token))))

start_number : (t : LineToken) → within (NUMBER ∷ []) (kind t.token) ≡ true → Start t
start_number t is = (only_prim (grammar.number (value_of t.token)), [], tt, λ s fresh. only_spells (grammar.number (value_of t.token)) (t ∷ s) s (one_is (NUMBER ∷ []) (λ u. value_of t.token == value_of u.token) t s is (same_kind (value_of t.token))))

-- an expression begins with each of its first tokens
expr_starter : Starter expr_firsts expr_spelt
expr_starter t is = elim (within_either (NUMBER ∷ []) (TEXT ∷ UNDEFINED ∷ IMPORT ∷ OPEN ∷ MINUS ∷ free_names) (kind t.token) is) [
  | inl w ↦ start_number t w
  | inr w ↦ elim (within_either (TEXT ∷ []) (UNDEFINED ∷ IMPORT ∷ OPEN ∷ MINUS ∷ free_names) (kind t.token) w) [
    | inl v ↦ start_text t v
    | inr v ↦ elim (within_either (UNDEFINED ∷ []) (IMPORT ∷ OPEN ∷ MINUS ∷ free_names) (kind t.token) v) [
      | inl u ↦ start_undefined t u
      | inr u ↦ elim (within_either (IMPORT ∷ []) (OPEN ∷ MINUS ∷ free_names) (kind t.token) u) [
        | inl z ↦ start_import t z
        | inr z ↦ elim (within_either (OPEN ∷ []) (MINUS ∷ free_names) (kind t.token) z) [
          | inl y ↦ start_open t y
          | inr y ↦ elim (within_either (MINUS ∷ []) free_names (kind t.token) y) [ inl x ↦ start_minus t x | inr x ↦ start_name t x ]
        ]
      ]
    ]
  ]
]

prim_refuses : (e : Reader RawExpr) → Refuses prim_firsts (reading.prim e)
unfolding reading.prim subset within
prim_refuses e =
    choice_refuses prim_firsts (NUMBER ∷ []) _ _ refl (choice_refuses prim_firsts (TEXT ∷ []) _ _ refl (choice_refuses prim_firsts (UNDEFINED ∷ []) _ _ refl (choice_refuses prim_firsts (IMPORT ∷ []) _ _ refl (choice_refuses prim_firsts (OPEN ∷ []) _ _ refl
    (mapped_refuses prim_firsts _ accessed (then_refuses prim_firsts _ access (more_refuses free_names prim_firsts _ refl (taken_refuses free_names _))))))))

pub expr_refuses : (n : ℕ) → Refuses expr_firsts (reading.expr n)
unfolding reading.expr expr_over reading.null reading.sum reading.prod reading.unary subset within
expr_refuses zero = deep_refuses expr_firsts
expr_refuses (suc n) =
    mapped_refuses expr_firsts _ chosen (then_refuses expr_firsts _ _ (mapped_refuses expr_firsts _ _ (then_refuses expr_firsts _ _ (mapped_refuses expr_firsts _ _ (then_refuses expr_firsts _ _ (mapped_refuses expr_firsts _ _ (then_refuses expr_firsts _ _
    (choice_refuses expr_firsts (MINUS ∷ []) _ _ refl (more_refuses prim_firsts expr_firsts _ refl (prim_refuses (reading.expr n)))))))))))

-- the reader of expressions at a depth, beside the same where they may be deeper
pub expr_reads : (gap less more : ℕ) → more ≡ gap + less → ExprReads less (reading.expr less) (reading.expr more)
unfolding reading.expr
expr_reads gap zero more h = deep_reads expr_firsts expr_part (reading.expr more) expr_deep expr_default expr_starter (expr_refuses more) expr_follow
expr_reads gap (suc less) zero h = absurd (omega (arith, h))
expr_reads gap (suc less) (suc more) h = expr_level less (reading.expr less) (reading.expr more) (expr_reads gap less more (omega (arith, h)))
