-- Items.
use Rattle.std.proofs.Common.{◌≡◌, ℕ, ◌≤◌, List, [], ◌∷◌, map, Bool, true, false, ◌==◌, ◌⊎◌, inl, inr, Option, Some, None, refl, sym, ap, ◌∙◌, subst, arith}
use Rattle.std.specs.Str.{bytes_eq}
use Rattle.module_semantics.specs.Token.{LineToken}
use Rattle.module_semantics.specs.Kinds.{IMPORT, EXPORT, CONST, LET, IF, THROW, DATA, DOT, EQUALS, FROM, AS, TEXT, OPEN_BRACE, CLOSE_BRACE, within, free_names, all_names, reserved, bytes_of, NameAt, name_at, same_name}
use Rattle.module_semantics.specs.Raw as raw
use Rattle.module_semantics.specs.Raw.{RawExpr, RawItem, RawImport}
use Rattle.module_semantics.specs.Readers.{Reader}
use Rattle.module_semantics.specs.Reading.{Inner, alone, imported, body, top_firsts, item_firsts, hot_top, plain_top, top, guard, declaration, import_name, import_item, item}
use Rattle.module_semantics.specs.Spelling as spell
use Rattle.module_semantics.specs.Spelling.{Spell, ◌>>◌, ◌▸◌, one, name_of, Listed, items_of}
use Rattle.module_semantics.specs.Grammar as grammar
use Rattle.module_semantics.specs.Grammar.{ExprD, ActD, ThrowD, HotCallD, TopD, DeclD, SpecD, ItemD, expr_spelt, act_spelt, hot_spelt, hot_call_spelt, top_spelt, top_raw, top_depth, decl_spelt, decl_raw, decl_depth, spec_spelt, spec_raw, guard_spelt, item_spelt, item_raw, item_depth, deepest}
use Rattle.module_semantics.proofs.PiecesLex.{both}
use Rattle.module_semantics.proofs.LexedPieces.{and_yes}
use Rattle.module_semantics.proofs.Steps.{bind_some, bound_some}
use Rattle.module_semantics.proofs.KindLists.{same_kind, disjoint, subset}
use Rattle.module_semantics.proofs.Parts.{Part, Reads}
use Rattle.module_semantics.proofs.Leaves.{one_ok, one_is, taken_shallow}
use Rattle.module_semantics.proofs.Sequences.{seq, seq_reads}
use Rattle.module_semantics.proofs.Choices.{As, as_reads, alt, choice_reads, seen, mapped_reads, after, after_reads, before, before_reads}
use Rattle.module_semantics.proofs.Lists.{many_reads}
use Rattle.module_semantics.proofs.CommaLists.{listed_part, listed_reads, Shallow, then_shallow, mapped_shallow, choice_shallow, given_shallow}
use Rattle.module_semantics.proofs.Ends.{end_part, end_reads}
use Rattle.module_semantics.proofs.Options.{maybe_part, maybe_reads}
use Rattle.module_semantics.proofs.Marks.{same_bytes, mark_part, name_part, bytes_part, free_name_reads, text_reads, reserved_reads, import_mark, export_mark, const_mark, let_mark, if_mark, from_mark, as_mark, dot_mark, meta_mark, hot_mark, equals_mark, open_mark, close_mark, open_brace_mark, close_brace_mark}
use Rattle.module_semantics.proofs.Expressions.{ExprReads, expr_part, expr_follow, hot_part, hot_reads, no_more, and_no_more}
use Rattle.module_semantics.proofs.Thrown.{throw_part, throw_reads}
use Rattle.module_semantics.proofs.Acts.{relist, first_changes, one_wider, one_split, NameWay, name_act_part, name_act_reads, act_of, act_spells, act_same_depth, act_value, ActWay, act_way, bag_part, bag_reads}
use Rattle.module_semantics.proofs.Statements.{under, assoc, InnerReads}
use Rattle.module_semantics.proofs.Callbacks.{hot_call_part, hot_call_reads, body_reads}

-- after `import`, with its end
abbrev HotWay : Type 0
HotWay = (List ℕ × ExprD) ⊎ HotCallD

abbrev hot_top_part : Part HotWay RawItem
hot_top_part = before (hot_part (alt (seen raw.act bag_part) hot_call_part)) end_part

hot_top_reads : (n : ℕ) (i i' : Inner) → InnerReads n i i' → Reads (DOT ∷ []) false expr_follow n hot_top_part (hot_top i) (hot_top i')
unfolding hot_top disjoint subset within
hot_top_reads n i i' a =
    relist _ _ (DOT ∷ []) expr_follow _ n _ _ _ refl refl (before_reads _ _ _ _ _ _ n _ _ _ _ _ _ refl refl (hot_reads _ _ _ n _ _ _ (choice_reads (DATA ∷ []) _ _ _ _ _ n _ _ _ _ _ _ refl refl (mapped_reads _ _ _ n _ _ _ (raw.act) (bag_reads n i.expr i'.expr a.expr)) (hot_call_reads n (body i) (body i') (body_reads n i i' a)))) (end_reads n))

abbrev plain_top_part : Part (ThrowD ⊎ NameWay) RawItem
plain_top_part = alt (before (seen (λ x. raw.act (raw.throw x)) throw_part) end_part) (before (seen raw.act name_act_part) end_part)

plain_top_reads : (n : ℕ) (i i' : Inner) → InnerReads n i i' → Reads (THROW ∷ free_names) false expr_follow n plain_top_part (plain_top i) (plain_top i')
unfolding plain_top disjoint subset within
plain_top_reads n i i' a =
    relist _ _ (THROW ∷ free_names) expr_follow _ n _ _ _ refl refl
    (choice_reads (THROW ∷ []) _ _ _ _ _ n _ _ _ _ _ _ refl refl (before_reads _ _ _ _ _ _ n _ _ _ _ _ _ refl refl (mapped_reads _ _ _ n _ _ _ (λ x. raw.act (raw.throw x)) (throw_reads n i.expr i'.expr a.expr a.later a.bottom)) (end_reads n)) (before_reads _ _ _ _ _ _ n _ _ _ _ _ _ refl refl (mapped_reads _ _ _ n _ _ _ (raw.act) (name_act_reads n i.expr i'.expr a.expr)) (end_reads n)))

abbrev pub top_part : Part TopD RawItem
top_part = record { spelt = top_spelt; value = top_raw; depth = top_depth }

abbrev top_way : Type 0
top_way = HotWay ⊎ (ThrowD ⊎ NameWay)

abbrev top_parts : Part top_way RawItem
top_parts = alt (after (mark_part IMPORT) hot_top_part) plain_top_part

abbrev to_top : top_way → TopD
to_top (inl (inl (k, e))) = grammar.TopD.act (grammar.set_bag k e)
to_top (inl (inr c)) = grammar.TopD.call c
to_top (inr (inl t)) = grammar.TopD.throw t
to_top (inr (inr w)) = grammar.TopD.act (act_of w)

-- an assignment to the bag, after `import.meta.hot.`
abbrev bag_spelt : List ℕ → ExprD → Spell
bag_spelt k e = spell.mark DATA ▸ spell.mark DOT ▸ spell.key k ▸ spell.mark EQUALS ▸ expr_spelt e

top_spells : (d : top_way) (ts r : List LineToken) → top_parts.spelt d ts ≡ Some r → top_part.spelt (to_top d) ts ≡ Some r
top_spells (inl (inl (k, e))) ts r h = assoc (spell.mark IMPORT) (hot_spelt (bag_spelt k e)) spell.end ts ∙ h
top_spells (inl (inr c)) ts r h = h
top_spells (inr (inl t)) ts r h = h
top_spells (inr (inr w)) ts r h = first_changes _ _ spell.end r (λ m g. act_spells w ts m g) h

top_bag : (k : List ℕ) (e : ExprD) (ts r : List LineToken) → top_spelt (grammar.TopD.act (grammar.set_bag k e)) ts ≡ Some r → (w : top_way) × (to_top w ≡ grammar.TopD.act (grammar.set_bag k e)) × (top_parts.spelt w ts ≡ Some r)
top_bag k e ts r h = (inl (inl (k, e)), refl, sym (assoc (spell.mark IMPORT) (hot_spelt (bag_spelt k e)) spell.end ts) ∙ h)

top_act : (d : ActD) (ts r : List LineToken) → top_spelt (grammar.TopD.act d) ts ≡ Some r → (m : List LineToken) → spell.end m ≡ Some r → ActWay d ts m → (w : top_way) × (to_top w ≡ grammar.TopD.act d) × (top_parts.spelt w ts ≡ Some r)
top_act d ts r h m end (inl w) = (inr (inr w.0), ap (λ v. grammar.TopD.act v) w.1, bound_some (name_act_part.spelt w.0 ts) spell.end m (Some r) w.2 end)
top_act d ts r h m end (inr v) = subst (λ a. (w : top_way) × (to_top w ≡ grammar.TopD.act a) × (top_parts.spelt w ts ≡ Some r)) v.1 (top_bag v.0.0 v.0.1 ts r (subst (λ a. top_spelt (grammar.TopD.act a) ts ≡ Some r) (sym v.1) h))

top_from : (e : TopD) (ts r : List LineToken) → top_part.spelt e ts ≡ Some r → (d : top_way) × (to_top d ≡ e) × (top_parts.spelt d ts ≡ Some r)
top_from (grammar.TopD.call c) ts r h = ((inl (inr c)), refl, h)
top_from (grammar.TopD.throw t) ts r h = ((inr (inl t)), refl, h)
top_from (grammar.TopD.act d) ts r h = let m = bind_some (act_spelt d ts) spell.end r h in top_act d ts r h m.0 m.2 (act_way d ts m.0 m.1)

top_value : (d : top_way) → top_part.value (to_top d) ≡ top_parts.value d
top_value (inl (inl (k, e))) = refl
top_value (inl (inr c)) = refl
top_value (inr (inl t)) = refl
top_value (inr (inr w)) = ap raw.act (act_value w)

top_deeper : (n : ℕ) (d : top_way) → top_parts.depth d ≤ n → top_part.depth (to_top d) ≤ n
top_deeper n (inl (inl (k, e))) h = omega (arith, h)
top_deeper n (inl (inr c)) h = omega (arith, h)
top_deeper n (inr (inl t)) h = omega (arith, h)
top_deeper n (inr (inr w)) h = omega (arith, h, act_same_depth w)

top_lower : (n : ℕ) (d : top_way) → top_part.depth (to_top d) ≤ n → top_parts.depth d ≤ n
top_lower n (inl (inl (k, e))) h = omega (arith, h)
top_lower n (inl (inr c)) h = omega (arith, h)
top_lower n (inr (inl t)) h = omega (arith, h)
top_lower n (inr (inr w)) h = omega (arith, h, act_same_depth w)

top_as : (n : ℕ) → As top_parts top_part n n
top_as n = record { to = to_top; spells = top_spells; from = top_from; value = top_value; deeper = top_deeper n; lower = top_lower n }

top_reads : (n : ℕ) (i i' : Inner) → InnerReads n i i' → Reads top_firsts false expr_follow n top_part (top i) (top i')
unfolding top disjoint subset within
top_reads n i i' a = as_reads _ _ (top_firsts) (expr_follow) _ n n top_parts top_part _ _ refl refl (top_as n) (choice_reads (IMPORT ∷ []) _ _ _ _ _ n _ _ _ _ _ _ refl refl (after_reads _ _ _ _ _ _ n _ _ _ _ _ _ refl refl (import_mark n) (hot_top_reads n i i' a)) (plain_top_reads n i i' a))

abbrev guard_part : Part (List TopD) (List RawItem)
guard_part = record { spelt = guard_spelt; value = map top_raw; depth = deepest top_depth }

guard_reads : (n : ℕ) (i i' : Inner) → InnerReads n i i' → Reads (IF ∷ []) false [] n guard_part (guard i) (guard i')
unfolding guard disjoint subset within
guard_reads n i i' a =
    (after_reads _ _ _ _ _ _ n _ _ _ _ _ _ refl refl (if_mark n) (after_reads _ _ _ _ _ _ n _ _ _ _ _ _ refl refl (open_mark n) (after_reads _ _ _ _ _ _ n _ _ _ _ _ _ refl refl (import_mark n) (after_reads _ _ _ _ _ _ n _ _ _ _ _ _ refl refl (dot_mark n) (after_reads _ _ _ _ _ _ n _ _ _ _ _ _ refl refl (meta_mark n) (after_reads _ _ _ _ _ _ n _ _ _ _ _ _ refl refl (dot_mark n) (after_reads _ _ _ _ _ _ n _ _ _ _ _ _ refl refl (hot_mark n) (after_reads _ _ _ _ _ _ n _ _ _ _ _ _ refl refl (close_mark n) (after_reads _ _ _ _ _ _ n _ _ _ _ _ _ refl refl (open_brace_mark n) (before_reads _ _ _ _ _ _ n _ _ _ _ _ _ refl refl (many_reads _ _ n _ _ _ refl (top_reads n i i' a)) (close_brace_mark n)))))))))))

abbrev decl_part : Part DeclD (Bool → RawItem)
decl_part = record { spelt = decl_spelt; value = λ d exported. decl_raw exported d; depth = decl_depth }

abbrev decl_way : Type 0
decl_way = (NameAt × ExprD) ⊎ (NameAt × ExprD)

abbrev decl_parts : Part decl_way (Bool → RawItem)
decl_parts = alt (seen (λ v exported. raw.declare exported false v.0 v.1) (after (mark_part CONST) (seq (name_part free_names) (after (mark_part EQUALS) (before expr_part end_part)))))
    (seen (λ v exported. raw.declare exported true v.0 v.1) (after (mark_part LET) (seq (name_part free_names) (after (mark_part EQUALS) (before expr_part end_part)))))

abbrev to_decl : decl_way → DeclD
to_decl (inl (m, e)) = grammar.constant m e
to_decl (inr (m, e)) = grammar.variable m e

decl_spells : (d : decl_way) (ts r : List LineToken) → decl_parts.spelt d ts ≡ Some r → decl_part.spelt (to_decl d) ts ≡ Some r
decl_spells (inl (m, e)) ts r h = h
decl_spells (inr (m, e)) ts r h = h

decl_from : (e : DeclD) (ts r : List LineToken) → decl_part.spelt e ts ≡ Some r → (d : decl_way) × (to_decl d ≡ e) × (decl_parts.spelt d ts ≡ Some r)
decl_from (grammar.constant m e) ts r h = ((inl (m, e)), refl, h)
decl_from (grammar.variable m e) ts r h = ((inr (m, e)), refl, h)

decl_value : (d : decl_way) → decl_part.value (to_decl d) ≡ decl_parts.value d
decl_value (inl (m, e)) = refl
decl_value (inr (m, e)) = refl

decl_deeper : (n : ℕ) (d : decl_way) → decl_parts.depth d ≤ n → decl_part.depth (to_decl d) ≤ n
decl_deeper n (inl (m, e)) h = omega (arith, h)
decl_deeper n (inr (m, e)) h = omega (arith, h)

decl_lower : (n : ℕ) (d : decl_way) → decl_part.depth (to_decl d) ≤ n → decl_parts.depth d ≤ n
decl_lower n (inl (m, e)) h = omega (arith, h)
decl_lower n (inr (m, e)) h = omega (arith, h)

decl_as : (n : ℕ) → As decl_parts decl_part n n
decl_as n = record { to = to_decl; spells = decl_spells; from = decl_from; value = decl_value; deeper = decl_deeper n; lower = decl_lower n }

decl_reads : (n : ℕ) (e e' : Reader RawExpr) → ExprReads n e e' → Reads (CONST ∷ LET ∷ []) false expr_follow n decl_part (declaration e) (declaration e')
unfolding declaration disjoint subset within
decl_reads n e e' a =
    as_reads _ _ (CONST ∷ LET ∷ []) (expr_follow) _ n n decl_parts decl_part _ _ refl refl (decl_as n) (choice_reads (CONST ∷ []) _ _ _ _ _ n _ _ _ _ _ _ refl refl (mapped_reads _ _ _ n _ _ _ (λ v exported. raw.declare exported false v.0 v.1) (after_reads _ _ _ _ _ _ n _ _ _ _ _ _ refl refl (const_mark n) (seq_reads _ _ _ _ _ _ n _ _ _ _ _ _ refl (free_name_reads n) (after_reads _ _ _ _ _ _ n _ _ _ _ _ _ refl refl (equals_mark n) (before_reads _ _ _ _ _ _ n _ _ _ _ _ _ refl refl a (end_reads n)))))) (mapped_reads _ _ _ n _ _ _ (λ v exported. raw.declare exported true v.0 v.1) (after_reads _ _ _ _ _ _ n _ _ _ _ _ _ refl refl (let_mark n) (seq_reads _ _ _ _ _ _ n _ _ _ _ _ _ refl (free_name_reads n) (after_reads _ _ _ _ _ _ n _ _ _ _ _ _ refl refl (equals_mark n) (before_reads _ _ _ _ _ _ n _ _ _ _ _ _ refl refl a (end_reads n)))))))

abbrev spec_part : Part SpecD RawImport
spec_part = record { spelt = spec_spelt; value = spec_raw; depth = λ d. 0 }

-- a name where it stands is the name before `as`, and the other way round
name_key : (m : NameAt) (ts r : List LineToken) → name_of free_names m ts ≡ Some r → spell.key m.name ts ≡ Some r
unfolding subset within
name_key m ts r h =
    let w = one_ok free_names _ ts r h in
    let b = both (bytes_eq m.name (bytes_of w.0.token)) (m.at == w.0.at) w.3 in
    one_wider free_names all_names (λ t. bytes_eq m.name (bytes_of t.token)) ts r refl (ap (one free_names (λ t. bytes_eq m.name (bytes_of t.token))) w.1 ∙ one_is free_names (λ t. bytes_eq m.name (bytes_of t.token)) w.0 r w.2 b.0)

key_name : (k : List ℕ) (ts r : List LineToken) → one free_names (λ t. bytes_eq k (bytes_of t.token)) ts ≡ Some r → (m : NameAt) × (m.name ≡ k) × (name_of free_names m ts ≡ Some r)
key_name k ts r h =
    let w = one_ok free_names (λ t. bytes_eq k (bytes_of t.token)) ts r h in
    let m = name_at w.0 in
    (m, sym (same_bytes.is k (bytes_of w.0.token) w.3), ap (name_of free_names m) w.1 ∙ one_is free_names (λ t. same_name m (name_at t)) w.0 r w.2 (and_yes _ _ (same_bytes.again m.name) (same_kind m.at)))

abbrev spec_way : Type 0
spec_way = (List ℕ × NameAt) ⊎ (NameAt × Option NameAt)

abbrev spec_parts : Part spec_way RawImport
spec_parts = alt (seen (λ v. record { exported = v.0; local = v.1 }) (seq (bytes_part reserved) (after (mark_part AS) (name_part free_names))))
    (seen imported (seq (name_part free_names) (maybe_part (after (mark_part AS) (name_part free_names)))))

abbrev to_spec : spec_way → SpecD
to_spec (inl (k, l)) = grammar.renamed k l
to_spec (inr (m, Some l)) = grammar.renamed m.name l
to_spec (inr (m, None)) = grammar.same m

spec_spells : (d : spec_way) (ts r : List LineToken) → spec_parts.spelt d ts ≡ Some r → spec_part.spelt (to_spec d) ts ≡ Some r
unfolding subset within
spec_spells (inl (k, l)) ts r h = first_changes (one reserved (λ t. bytes_eq k (bytes_of t.token)) ts) _ _ r (λ j f. one_wider reserved all_names _ ts j refl f) h
spec_spells (inr (m, Some l)) ts r h = first_changes (name_of free_names m ts) _ _ r (λ j f. name_key m ts j f) h
spec_spells (inr (m, None)) ts r h = no_more _ r h

spec_renamed : (k : List ℕ) (l : NameAt) (ts r : List LineToken) → spec_spelt (grammar.renamed k l) ts ≡ Some r → (w : spec_way) × (to_spec w ≡ grammar.renamed k l) × (spec_parts.spelt w ts ≡ Some r)
unfolding subset within
spec_renamed k l ts r h =
    let rest = spell.mark AS ▸ spell.free_name l in
    let m = bind_some (spell.key k ts) rest r h in
    elim (one_split all_names reserved free_names _ ts m.0 refl m.1) [
      | inl w ↦ (inl (k, l), refl, bound_some (one reserved (λ t. bytes_eq k (bytes_of t.token)) ts) rest m.0 (Some r) w m.2)
      | inr w ↦
          let n = key_name k ts m.0 w in
          (inr (n.0, Some l), ap (λ v. grammar.renamed v l) n.1, bound_some (name_of free_names n.0 ts) rest m.0 (Some r) n.2 m.2)
    ]

spec_from : (e : SpecD) (ts r : List LineToken) → spec_part.spelt e ts ≡ Some r → (d : spec_way) × (to_spec d ≡ e) × (spec_parts.spelt d ts ≡ Some r)
unfolding subset within
spec_from (grammar.same m) ts r h = (inr (m, None), refl, and_no_more _ r h)
spec_from (grammar.renamed k l) ts r h = spec_renamed k l ts r h

spec_value : (d : spec_way) → spec_part.value (to_spec d) ≡ spec_parts.value d
spec_value (inl (k, l)) = refl
spec_value (inr (m, Some l)) = refl
spec_value (inr (m, None)) = refl

spec_deeper : (n : ℕ) (d : spec_way) → spec_parts.depth d ≤ n → spec_part.depth (to_spec d) ≤ n
spec_deeper n (inl (k, l)) h = omega (arith, h)
spec_deeper n (inr (m, Some l)) h = omega (arith, h)
spec_deeper n (inr (m, None)) h = omega (arith, h)

spec_lower : (n : ℕ) (d : spec_way) → spec_part.depth (to_spec d) ≤ n → spec_parts.depth d ≤ n
spec_lower n (inl (k, l)) h = omega (arith, h)
spec_lower n (inr (m, Some l)) h = omega (arith, h)
spec_lower n (inr (m, None)) h = omega (arith, h)

spec_as : (n : ℕ) → As spec_parts spec_part n n
spec_as n = record { to = to_spec; spells = spec_spells; from = spec_from; value = spec_value; deeper = spec_deeper n; lower = spec_lower n }

spec_shallow : Shallow import_name
unfolding import_name
spec_shallow =
    choice_shallow reserved _ _ (mapped_shallow _ _ (then_shallow _ _ (taken_shallow reserved _) (mapped_shallow _ _ (then_shallow _ _ (taken_shallow (AS ∷ []) _) (taken_shallow free_names _)))))
    (mapped_shallow _ imported (then_shallow _ _ (taken_shallow free_names _) (choice_shallow (AS ∷ []) _ _ (mapped_shallow _ _ (mapped_shallow _ _ (then_shallow _ _ (taken_shallow (AS ∷ []) _) (taken_shallow free_names _)))) given_shallow)))

spec_reads : (n : ℕ) → Reads all_names false (AS ∷ []) n spec_part import_name import_name
unfolding import_name disjoint subset within
spec_reads n =
    as_reads _ _ (all_names) (AS ∷ []) _ n n spec_parts spec_part _ _ refl refl (spec_as n) (choice_reads (reserved) _ _ _ _ _ n _ _ _ _ _ _ refl refl (mapped_reads _ _ _ n _ _ _ (λ v. record { exported = v.0; local = v.1 }) (seq_reads _ _ _ _ _ _ n _ _ _ _ _ _ refl (reserved_reads n) (after_reads _ _ _ _ _ _ n _ _ _ _ _ _ refl refl (as_mark n) (free_name_reads n)))) (mapped_reads _ _ _ n _ _ _ (imported) (seq_reads _ _ _ _ _ _ n _ _ _ _ _ _ refl (free_name_reads n) (maybe_reads (AS ∷ []) _ _ (AS ∷ []) n _ _ _ refl refl refl (after_reads _ _ _ _ _ _ n _ _ _ _ _ _ refl refl (as_mark n) (free_name_reads n))))))

-- after `import`
abbrev ImportItemWay : Type 0
ImportItemWay = List ℕ ⊎ ((Listed SpecD × List ℕ) ⊎ HotWay)

abbrev import_item_part : Part ImportItemWay RawItem
import_item_part =
    alt (seen (λ s. raw.import s []) (before (bytes_part (TEXT ∷ [])) end_part))
    (alt (seen (λ v. raw.import v.1 v.0) (seq (after (mark_part OPEN_BRACE) (before (listed_part spec_part) (mark_part CLOSE_BRACE))) (after (mark_part FROM) (before (bytes_part (TEXT ∷ [])) end_part)))) hot_top_part)

import_item_reads : (n : ℕ) (i i' : Inner) → InnerReads n i i' → Reads (TEXT ∷ OPEN_BRACE ∷ DOT ∷ []) false expr_follow n import_item_part (import_item i) (import_item i')
unfolding import_item disjoint subset within
import_item_reads n i i' a =
    relist _ _ (TEXT ∷ OPEN_BRACE ∷ DOT ∷ []) expr_follow _ n _ _ _ refl refl
    (choice_reads (TEXT ∷ []) _ _ _ _ _ n _ _ _ _ _ _ refl refl (mapped_reads _ _ _ n _ _ _ (λ s. raw.import s []) (before_reads _ _ _ _ _ _ n _ _ _ _ _ _ refl refl (text_reads n) (end_reads n))) (choice_reads (OPEN_BRACE ∷ []) _ _ _ _ _ n _ _ _ _ _ _ refl refl (mapped_reads _ _ _ n _ _ _ (λ v. raw.import v.1 v.0) (seq_reads _ _ _ _ _ _ n _ _ _ _ _ _ refl (after_reads _ _ _ _ _ _ n _ _ _ _ _ _ refl refl (open_brace_mark n) (before_reads _ _ _ _ _ _ n _ _ _ _ _ _ refl refl (listed_reads all_names _ n _ _ _ refl spec_shallow (spec_reads n)) (close_brace_mark n))) (after_reads _ _ _ _ _ _ n _ _ _ _ _ _ refl refl (from_mark n) (before_reads _ _ _ _ _ _ n _ _ _ _ _ _ refl refl (text_reads n) (end_reads n))))) (hot_top_reads n i i' a)))

abbrev pub item_part : Part ItemD (List RawItem)
item_part = record { spelt = item_spelt; value = item_raw; depth = item_depth }

specs_flat : (ds : List SpecD) → deepest (λ d. 0) ds ≡ 0
specs_flat [] = refl
specs_flat (d ∷ ds) = omega (arith, specs_flat ds)

import_grouped : (ss : Listed SpecD) (g : Spell) (ts : List LineToken)
    → (spell.mark IMPORT ▸ (spell.mark OPEN_BRACE ▸ (spell.listed spec_spelt ss ▸ spell.mark CLOSE_BRACE)) ▸ g) ts ≡ (spell.mark IMPORT ▸ spell.mark OPEN_BRACE ▸ spell.listed spec_spelt ss ▸ spell.mark CLOSE_BRACE ▸ g) ts
import_grouped ss g ts =
    under (spell.mark IMPORT) _ _ (λ k. assoc (spell.mark OPEN_BRACE) (spell.listed spec_spelt ss ▸ spell.mark CLOSE_BRACE) g k ∙ under (spell.mark OPEN_BRACE) _ _ (assoc (spell.listed spec_spelt ss) (spell.mark CLOSE_BRACE) g) k) ts

abbrev item_way : Type 0
item_way = ImportItemWay ⊎ (DeclD ⊎ (DeclD ⊎ (List TopD ⊎ (ThrowD ⊎ NameWay))))

abbrev item_parts : Part item_way (List RawItem)
item_parts = alt (seen alone (after (mark_part IMPORT) import_item_part)) (alt (seen (λ d. alone (d true)) (after (mark_part EXPORT) decl_part)) (alt (seen (λ d. alone (d false)) decl_part)
    (alt guard_part (seen alone plain_top_part))))

abbrev to_item : item_way → ItemD
to_item (inl (inl s)) = grammar.import_text s
to_item (inl (inr (inl (ss, s)))) = grammar.import_names ss s
to_item (inl (inr (inr (inl (k, e))))) = grammar.ItemD.top (grammar.TopD.act (grammar.set_bag k e))
to_item (inl (inr (inr (inr c)))) = grammar.ItemD.top (grammar.TopD.call c)
to_item (inr (inl d)) = grammar.exported d
to_item (inr (inr (inl d))) = grammar.declared d
to_item (inr (inr (inr (inl ds)))) = grammar.ItemD.guard ds
to_item (inr (inr (inr (inr (inl t))))) = grammar.ItemD.top (grammar.TopD.throw t)
to_item (inr (inr (inr (inr (inr w))))) = grammar.ItemD.top (grammar.TopD.act (act_of w))

item_spells : (d : item_way) (ts r : List LineToken) → item_parts.spelt d ts ≡ Some r → item_part.spelt (to_item d) ts ≡ Some r
item_spells (inl (inl s)) ts r h = h
item_spells (inl (inr (inl (ss, s)))) ts r h = sym (import_grouped ss _ ts) ∙ h
item_spells (inl (inr (inr (inl (k, e))))) ts r h = assoc (spell.mark IMPORT) (hot_spelt (bag_spelt k e)) spell.end ts ∙ h
item_spells (inl (inr (inr (inr c)))) ts r h = h
item_spells (inr (inl d)) ts r h = h
item_spells (inr (inr (inl d))) ts r h = h
item_spells (inr (inr (inr (inl ds)))) ts r h = h
item_spells (inr (inr (inr (inr (inl t))))) ts r h = h
item_spells (inr (inr (inr (inr (inr w))))) ts r h = first_changes _ _ spell.end r (λ m g. act_spells w ts m g) h

item_bag : (k : List ℕ) (e : ExprD) (ts r : List LineToken) → item_spelt (grammar.ItemD.top (grammar.TopD.act (grammar.set_bag k e))) ts ≡ Some r → (w : item_way) × (to_item w ≡ grammar.ItemD.top (grammar.TopD.act (grammar.set_bag k e))) × (item_parts.spelt w ts ≡ Some r)
item_bag k e ts r h = (inl (inr (inr (inl (k, e)))), refl, sym (assoc (spell.mark IMPORT) (hot_spelt (bag_spelt k e)) spell.end ts) ∙ h)

item_act : (d : ActD) (ts r : List LineToken) → item_spelt (grammar.ItemD.top (grammar.TopD.act d)) ts ≡ Some r → (m : List LineToken) → spell.end m ≡ Some r → ActWay d ts m → (w : item_way) × (to_item w ≡ grammar.ItemD.top (grammar.TopD.act d)) × (item_parts.spelt w ts ≡ Some r)
item_act d ts r h m end (inl w) = (inr (inr (inr (inr (inr w.0)))), ap (λ v. grammar.ItemD.top (grammar.TopD.act v)) w.1, bound_some (name_act_part.spelt w.0 ts) spell.end m (Some r) w.2 end)
item_act d ts r h m end (inr v) = subst (λ a. (w : item_way) × (to_item w ≡ grammar.ItemD.top (grammar.TopD.act a)) × (item_parts.spelt w ts ≡ Some r)) v.1 (item_bag v.0.0 v.0.1 ts r (subst (λ a. item_spelt (grammar.ItemD.top (grammar.TopD.act a)) ts ≡ Some r) (sym v.1) h))

item_from : (e : ItemD) (ts r : List LineToken) → item_part.spelt e ts ≡ Some r → (d : item_way) × (to_item d ≡ e) × (item_parts.spelt d ts ≡ Some r)
item_from (grammar.import_text s) ts r h = ((inl (inl s)), refl, h)
item_from (grammar.import_names ss s) ts r h = (inl (inr (inl (ss, s))), refl, import_grouped ss _ ts ∙ h)
item_from (grammar.ItemD.top (grammar.TopD.call c)) ts r h = ((inl (inr (inr (inr c)))), refl, h)
item_from (grammar.exported d) ts r h = ((inr (inl d)), refl, h)
item_from (grammar.declared d) ts r h = ((inr (inr (inl d))), refl, h)
item_from (grammar.ItemD.guard ds) ts r h = ((inr (inr (inr (inl ds)))), refl, h)
item_from (grammar.ItemD.top (grammar.TopD.throw t)) ts r h = ((inr (inr (inr (inr (inl t))))), refl, h)
item_from (grammar.ItemD.top (grammar.TopD.act d)) ts r h = let m = bind_some (act_spelt d ts) spell.end r h in item_act d ts r h m.0 m.2 (act_way d ts m.0 m.1)

item_value : (d : item_way) → item_part.value (to_item d) ≡ item_parts.value d
item_value (inl (inl s)) = refl
item_value (inl (inr (inl (ss, s)))) = refl
item_value (inl (inr (inr (inl (k, e))))) = refl
item_value (inl (inr (inr (inr c)))) = refl
item_value (inr (inl d)) = refl
item_value (inr (inr (inl d))) = refl
item_value (inr (inr (inr (inl ds)))) = refl
item_value (inr (inr (inr (inr (inl t))))) = refl
item_value (inr (inr (inr (inr (inr w))))) = ap (λ k. alone (raw.act k)) (act_value w)

item_deeper : (n : ℕ) (d : item_way) → item_parts.depth d ≤ n → item_part.depth (to_item d) ≤ n
item_deeper n (inl (inl s)) h = omega (arith, h)
item_deeper n (inl (inr (inl (ss, s)))) h = omega (arith, h, specs_flat (items_of ss))
item_deeper n (inl (inr (inr (inl (k, e))))) h = omega (arith, h)
item_deeper n (inl (inr (inr (inr c)))) h = omega (arith, h)
item_deeper n (inr (inl d)) h = omega (arith, h)
item_deeper n (inr (inr (inl d))) h = omega (arith, h)
item_deeper n (inr (inr (inr (inl ds)))) h = omega (arith, h)
item_deeper n (inr (inr (inr (inr (inl t))))) h = omega (arith, h)
item_deeper n (inr (inr (inr (inr (inr w))))) h = omega (arith, h, act_same_depth w)

item_lower : (n : ℕ) (d : item_way) → item_part.depth (to_item d) ≤ n → item_parts.depth d ≤ n
item_lower n (inl (inl s)) h = omega (arith, h)
item_lower n (inl (inr (inl (ss, s)))) h = omega (arith, h, specs_flat (items_of ss))
item_lower n (inl (inr (inr (inl (k, e))))) h = omega (arith, h)
item_lower n (inl (inr (inr (inr c)))) h = omega (arith, h)
item_lower n (inr (inl d)) h = omega (arith, h)
item_lower n (inr (inr (inl d))) h = omega (arith, h)
item_lower n (inr (inr (inr (inl ds)))) h = omega (arith, h)
item_lower n (inr (inr (inr (inr (inl t))))) h = omega (arith, h)
item_lower n (inr (inr (inr (inr (inr w))))) h = omega (arith, h, act_same_depth w)

item_as : (n : ℕ) → As item_parts item_part n n
item_as n = record { to = to_item; spells = item_spells; from = item_from; value = item_value; deeper = item_deeper n; lower = item_lower n }

pub item_reads : (n : ℕ) (i i' : Inner) → InnerReads n i i' → Reads item_firsts false expr_follow n item_part (item i) (item i')
unfolding item disjoint subset within
item_reads n i i' a =
    as_reads _ _ (item_firsts) (expr_follow) _ n n item_parts item_part _ _ refl refl (item_as n) (choice_reads (IMPORT ∷ []) _ _ _ _ _ n _ _ _ _ _ _ refl refl (mapped_reads _ _ _ n _ _ _ (alone) (after_reads _ _ _ _ _ _ n _ _ _ _ _ _ refl refl (import_mark n) (import_item_reads n i i' a))) (choice_reads (EXPORT ∷ []) _ _ _ _ _ n _ _ _ _ _ _ refl refl (mapped_reads _ _ _ n _ _ _ (λ d. alone (d true)) (after_reads _ _ _ _ _ _ n _ _ _ _ _ _ refl refl (export_mark n) (decl_reads n i.expr i'.expr a.expr))) (choice_reads (CONST ∷ LET ∷ []) _ _ _ _ _ n _ _ _ _ _ _ refl refl (mapped_reads _ _ _ n _ _ _ (λ d. alone (d false)) (decl_reads n i.expr i'.expr a.expr)) (choice_reads (IF ∷ []) _ _ _ _ _ n _ _ _ _ _ _ refl refl (guard_reads n i i' a) (mapped_reads _ _ _ n _ _ _ (alone) (plain_top_reads n i i' a))))))
