-- Callbacks, and the calls of `import.meta.hot`.
use Rattle.module_semantics.proofs.Leaves.{taken_shallow}
use Rattle.std.proofs.Common.{◌≡◌, ℕ, ◌≤◌, List, [], ◌∷◌, ◌++◌, map, true, false, ◌⊎◌, inl, inr, Option, Some, None, refl, sym, ap, ◌∙◌, subst, arith}
use Rattle.std.specs.Option.{option_map}
use Rattle.module_semantics.specs.Token.{LineToken}
use Rattle.module_semantics.specs.Kinds.{IMPORT, HOST, DATA, DOT, EQUALS, ACCEPT, DISPOSE, PRUNE, DECLINE, ON, TEXT, COMMA, ARROW, OPEN, CLOSE, OPEN_BRACE, OPEN_BRACKET, CLOSE_BRACKET, within, free_names, NameAt}
use Rattle.module_semantics.specs.Raw as raw
use Rattle.module_semantics.specs.Raw.{RawStmts, RawHandler, RawOnce, RawItem}
use Rattle.module_semantics.specs.Readers.{Reader}
use Rattle.module_semantics.specs.Reading.{Inner, only, applied, handler, alone, one_or_none, all_of, but_host, own_firsts, body, in_parens, callback, list_callback, host_own, once, accepted, listened, hot_call}
use Rattle.module_semantics.specs.Spelling as spell
use Rattle.module_semantics.specs.Spelling.{Spell, ◌>>◌, ◌▸◌, name_of, Listed, items_of}
use Rattle.module_semantics.specs.Grammar as grammar
use Rattle.module_semantics.specs.Grammar.{ExprD, ActD, StmtsD, BodyD, CallbackD, ListCallbackD, OwnD, AcceptD, HotCallD, expr_spelt, act_spelt, hot_spelt, body_spelt, body_raw, body_depth, callback_spelt, callback_raw, callback_depth, names_spelt, list_callback_spelt, list_callback_raw, list_callback_depth, own_spelt, own_raw, own_depth, after_comma, accept_spelt, accept_raw, accept_depth, hot_call_spelt, hot_call_raw, hot_call_depth, deepest, deep_if}
use Rattle.module_semantics.proofs.Steps.{bind_some, bound_some}
use Rattle.module_semantics.proofs.KindLists.{disjoint, subset}
use Rattle.module_semantics.proofs.Parts.{Part, Reads}
use Rattle.module_semantics.proofs.Sequences.{seq, seq_reads}
use Rattle.module_semantics.proofs.Choices.{As, as_reads, alt, choice_reads, seen, mapped_reads, nothing_part, given_reads, after, after_reads, before, before_reads}
use Rattle.module_semantics.proofs.CommaLists.{listed_part, listed_reads}
use Rattle.module_semantics.proofs.Options.{maybe_part, maybe_reads, separated_part, separated_reads}
use Rattle.module_semantics.proofs.Marks.{mark_part, name_part, bytes_part, free_name_reads, text_reads, host_reads, but_host_reads, accept_mark, dispose_mark, prune_mark, decline_mark, on_mark, event_reads, comma_mark, arrow_mark, open_mark, close_mark, open_bracket_mark, close_bracket_mark}
use Rattle.module_semantics.proofs.Expressions.{expr_follow}
use Rattle.module_semantics.proofs.Acts.{first_changes, one_wider, one_weaker, one_split, named, placed, NameWay, name_act_part, name_act_reads, act_of, act_spells, act_same_depth, act_value, ActWay, act_way, ImportWay, import_part, import_reads}
use Rattle.module_semantics.proofs.Statements.{under, assoc, InnerReads, braces_part, braces_reads}

abbrev pub body_part : Part BodyD RawStmts
body_part = record { spelt = body_spelt; value = body_raw; depth = body_depth }

-- what a body begins with
abbrev pub body_firsts : List ℕ
body_firsts = OPEN_BRACE ∷ IMPORT ∷ free_names

abbrev body_way : Type 0
body_way = StmtsD ⊎ (ImportWay ⊎ NameWay)

abbrev body_parts : Part body_way RawStmts
body_parts = alt braces_part (seen only (alt import_part name_act_part))

abbrev to_body : body_way → BodyD
to_body (inl s) = grammar.braces s
to_body (inr (inl (at, inl (k, e)))) = grammar.only_act (grammar.set_bag k e)
to_body (inr (inl (at, inr x))) = grammar.only_inval (grammar.invalidate at x)
to_body (inr (inr w)) = grammar.only_act (act_of w)

body_spells : (d : body_way) (ts r : List LineToken) → body_parts.spelt d ts ≡ Some r → body_part.spelt (to_body d) ts ≡ Some r
body_spells (inl s) ts r h = h
body_spells (inr (inl (at, inl (k, e)))) ts r h = first_changes (spell.mark_at IMPORT at ts) _ _ r (λ j f. one_weaker (IMPORT ∷ []) _ ts j f) h
body_spells (inr (inl (at, inr x))) ts r h = h
body_spells (inr (inr w)) ts r h = act_spells w ts r h

body_bag : (k : List ℕ) (e : ExprD) (ts r : List LineToken) → act_spelt (grammar.set_bag k e) ts ≡ Some r → (w : body_way) × (to_body w ≡ grammar.only_act (grammar.set_bag k e)) × (body_parts.spelt w ts ≡ Some r)
body_bag k e ts r h =
    let rest = hot_spelt (spell.mark DATA ▸ spell.mark DOT ▸ spell.key k ▸ spell.mark EQUALS ▸ expr_spelt e) in
    let m = bind_some (spell.mark IMPORT ts) rest r h in
    let at = placed IMPORT ts m.0 m.1 in
    (inr (inl (at.0, inl (k, e))), refl, bound_some (spell.mark_at IMPORT at.0 ts) rest m.0 (Some r) at.1 m.2)

body_act : (d : ActD) (ts r : List LineToken) → act_spelt d ts ≡ Some r → ActWay d ts r → (w : body_way) × (to_body w ≡ grammar.only_act d) × (body_parts.spelt w ts ≡ Some r)
body_act d ts r h (inl w) = (inr (inr w.0), ap (λ v. grammar.only_act v) w.1, w.2)
body_act d ts r h (inr v) = subst (λ a. (w : body_way) × (to_body w ≡ grammar.only_act a) × (body_parts.spelt w ts ≡ Some r)) v.1 (body_bag v.0.0 v.0.1 ts r (subst (λ a. act_spelt a ts ≡ Some r) (sym v.1) h))

body_from : (e : BodyD) (ts r : List LineToken) → body_part.spelt e ts ≡ Some r → (d : body_way) × (to_body d ≡ e) × (body_parts.spelt d ts ≡ Some r)
body_from (grammar.braces s) ts r h = ((inl s), refl, h)
body_from (grammar.only_inval (grammar.invalidate at x)) ts r h = ((inr (inl (at, inr x))), refl, h)
body_from (grammar.only_act d) ts r h = body_act d ts r h (act_way d ts r h)

body_value : (d : body_way) → body_part.value (to_body d) ≡ body_parts.value d
body_value (inl s) = refl
body_value (inr (inl (at, inl (k, e)))) = refl
body_value (inr (inl (at, inr x))) = refl
body_value (inr (inr w)) = ap only (act_value w)

body_deeper : (n : ℕ) (d : body_way) → body_parts.depth d ≤ n → body_part.depth (to_body d) ≤ n
body_deeper n (inl s) h = omega (arith, h)
body_deeper n (inr (inl (at, inl (k, e)))) h = omega (arith, h)
body_deeper n (inr (inl (at, inr x))) h = omega (arith, h)
body_deeper n (inr (inr w)) h = omega (arith, h, act_same_depth w)

body_lower : (n : ℕ) (d : body_way) → body_part.depth (to_body d) ≤ n → body_parts.depth d ≤ n
body_lower n (inl s) h = omega (arith, h)
body_lower n (inr (inl (at, inl (k, e)))) h = omega (arith, h)
body_lower n (inr (inl (at, inr x))) h = omega (arith, h)
body_lower n (inr (inr w)) h = omega (arith, h, act_same_depth w)

body_as : (n : ℕ) → As body_parts body_part n n
body_as n = record { to = to_body; spells = body_spells; from = body_from; value = body_value; deeper = body_deeper n; lower = body_lower n }

abbrev pub BodyReads : ℕ → Reader RawStmts → Reader RawStmts → Type 0
BodyReads n b b' = Reads body_firsts false expr_follow n body_part b b'

pub body_reads : (n : ℕ) (i i' : Inner) → InnerReads n i i' → BodyReads n (body i) (body i')
unfolding body disjoint subset within
body_reads n i i' a = as_reads _ _ (body_firsts) (expr_follow) _ n n body_parts body_part _ _ refl refl (body_as n) (choice_reads (OPEN_BRACE ∷ []) _ _ _ _ _ n _ _ _ _ _ _ refl refl (braces_reads n i i' a) (mapped_reads _ _ _ n _ _ _ (only) (choice_reads (IMPORT ∷ []) _ _ _ _ _ n _ _ _ _ _ _ refl refl (import_reads n i.expr i'.expr a.expr) (name_act_reads n i.expr i'.expr a.expr))))

abbrev in_parens_part : Part (Option NameAt) (List NameAt)
in_parens_part = after (mark_part OPEN) (before (seen one_or_none (maybe_part (name_part free_names))) (mark_part CLOSE))

in_parens_reads : (n : ℕ) → Reads (OPEN ∷ []) false [] n in_parens_part in_parens in_parens
unfolding in_parens disjoint subset within
in_parens_reads n = (after_reads _ _ _ _ _ _ n _ _ _ _ _ _ refl refl (open_mark n) (before_reads _ _ _ _ _ _ n _ _ _ _ _ _ refl refl (mapped_reads _ _ _ n _ _ _ (one_or_none) (maybe_reads free_names _ _ free_names n _ _ _ refl refl refl (free_name_reads n))) (close_mark n)))

-- a parameter, where one that stands alone is of these kinds
abbrev params_part : List ℕ → Part (Option NameAt ⊎ NameAt) (List NameAt)
params_part ks = alt in_parens_part (seen alone (name_part ks))

abbrev ParamWay : Type 0
ParamWay = (Option NameAt ⊎ NameAt) × BodyD

abbrev callback_by_part : List ℕ → Part ParamWay RawHandler
callback_by_part ks = seen handler (seq (params_part ks) (after (mark_part ARROW) body_part))

abbrev pub callback_part : Part CallbackD RawHandler
callback_part = record { spelt = callback_spelt; value = callback_raw; depth = callback_depth }

same_maybe : (o : Option NameAt) → o ≡ option_map (λ x. x) o
same_maybe None = refl
same_maybe (Some x) = refl

-- a name has no depth
maybe_flat : {D : Type 0} (o : Option D) → deep_if (λ (d : D). 0) o ≡ 0
maybe_flat None = refl
maybe_flat (Some d) = refl

abbrev callback_way : Type 0
callback_way = ParamWay

abbrev callback_parts : Part callback_way RawHandler
callback_parts = callback_by_part free_names

abbrev to_callback : callback_way → CallbackD
to_callback (inl o, b) = grammar.callback (grammar.in_parens o) b
to_callback (inr m, b) = grammar.callback (grammar.bare m) b

callback_spells : (d : callback_way) (ts r : List LineToken) → callback_parts.spelt d ts ≡ Some r → callback_part.spelt (to_callback d) ts ≡ Some r
callback_spells (inl o, b) ts r h = h
callback_spells (inr m, b) ts r h = h

callback_from : (e : CallbackD) (ts r : List LineToken) → callback_part.spelt e ts ≡ Some r → (d : callback_way) × (to_callback d ≡ e) × (callback_parts.spelt d ts ≡ Some r)
callback_from (grammar.callback (grammar.in_parens o) b) ts r h = ((inl o, b), refl, h)
callback_from (grammar.callback (grammar.bare m) b) ts r h = ((inr m, b), refl, h)

callback_value : (d : callback_way) → callback_part.value (to_callback d) ≡ callback_parts.value d
callback_value (inl o, b) = ap (λ k. handler (one_or_none k, body_raw b)) (same_maybe o)
callback_value (inr m, b) = refl

callback_deeper : (n : ℕ) (d : callback_way) → callback_parts.depth d ≤ n → callback_part.depth (to_callback d) ≤ n
callback_deeper n (inl o, b) h = omega (arith, h, maybe_flat o)
callback_deeper n (inr m, b) h = omega (arith, h)

callback_lower : (n : ℕ) (d : callback_way) → callback_part.depth (to_callback d) ≤ n → callback_parts.depth d ≤ n
callback_lower n (inl o, b) h = omega (arith, h, maybe_flat o)
callback_lower n (inr m, b) h = omega (arith, h)

callback_as : (n : ℕ) → As callback_parts callback_part n n
callback_as n = record { to = to_callback; spells = callback_spells; from = callback_from; value = callback_value; deeper = callback_deeper n; lower = callback_lower n }

callback_reads : (n : ℕ) (b b' : Reader RawStmts) → BodyReads n b b' → Reads (OPEN ∷ free_names) false expr_follow n callback_part (callback b) (callback b')
unfolding callback disjoint subset within
callback_reads n b b' a = as_reads _ _ (OPEN ∷ free_names) (expr_follow) _ n n callback_parts callback_part _ _ refl refl (callback_as n) (mapped_reads _ _ _ n _ _ _ (handler) (seq_reads _ _ _ _ _ _ n _ _ _ _ _ _ refl (choice_reads (OPEN ∷ []) _ _ _ _ _ n _ _ _ _ _ _ refl refl (in_parens_reads n) (mapped_reads _ _ _ n _ _ _ (alone) (free_name_reads n))) (after_reads _ _ _ _ _ _ n _ _ _ _ _ _ refl refl (arrow_mark n) a)))

abbrev pub list_callback_part : Part ListCallbackD RawHandler
list_callback_part = record { spelt = list_callback_spelt; value = list_callback_raw; depth = list_callback_depth }

abbrev names_part : Part (List NameAt) (List NameAt)
names_part = after (mark_part OPEN_BRACKET) (before (separated_part (name_part free_names)) (mark_part CLOSE_BRACKET))

same_names_of : (ns : List NameAt) → map (λ x. x) ns ≡ ns
same_names_of [] = refl
same_names_of (x ∷ ns) = ap (λ k. x ∷ k) (same_names_of ns)

names_flat : (ns : List NameAt) → deepest (λ x. 0) ns ≡ 0
names_flat [] = refl
names_flat (x ∷ ns) = omega (arith, names_flat ns)

maybe_names_flat : (o : Option (List NameAt)) → deep_if (deepest (λ x. 0)) o ≡ 0
maybe_names_flat None = refl
maybe_names_flat (Some ns) = names_flat ns

names_value : (o : Option (List NameAt)) → all_of o ≡ all_of (option_map (map (λ x. x)) o)
names_value None = refl
names_value (Some ns) = sym (same_names_of ns)

list_grouped : (o : Option (List NameAt)) (b : BodyD) (ts : List LineToken)
    → ((spell.mark OPEN ▸ (spell.maybe names_spelt o ▸ spell.mark CLOSE)) ▸ spell.mark ARROW ▸ body_spelt b) ts ≡ (spell.mark OPEN ▸ spell.maybe names_spelt o ▸ spell.mark CLOSE ▸ spell.mark ARROW ▸ body_spelt b) ts
list_grouped o b ts =
    assoc (spell.mark OPEN) (spell.maybe names_spelt o ▸ spell.mark CLOSE) (spell.mark ARROW ▸ body_spelt b) ts ∙ under (spell.mark OPEN) _ _ (assoc (spell.maybe names_spelt o) (spell.mark CLOSE) (spell.mark ARROW ▸ body_spelt b)) ts

abbrev list_callback_way : Type 0
list_callback_way = Option (List NameAt) × BodyD

abbrev list_callback_parts : Part list_callback_way RawHandler
list_callback_parts = seen handler (seq (after (mark_part OPEN) (before (seen all_of (maybe_part names_part)) (mark_part CLOSE))) (after (mark_part ARROW) body_part))

abbrev to_list_callback : list_callback_way → ListCallbackD
to_list_callback (o, b) = grammar.list_callback o b

list_callback_spells : (d : list_callback_way) (ts r : List LineToken) → list_callback_parts.spelt d ts ≡ Some r → list_callback_part.spelt (to_list_callback d) ts ≡ Some r
list_callback_spells (o, b) ts r h = sym (list_grouped o b ts) ∙ h

list_callback_from : (e : ListCallbackD) (ts r : List LineToken) → list_callback_part.spelt e ts ≡ Some r → (d : list_callback_way) × (to_list_callback d ≡ e) × (list_callback_parts.spelt d ts ≡ Some r)
list_callback_from (grammar.list_callback o b) ts r h = ((o, b), refl, list_grouped o b ts ∙ h)

list_callback_value : (d : list_callback_way) → list_callback_part.value (to_list_callback d) ≡ list_callback_parts.value d
list_callback_value (o, b) = ap (λ ns. handler (ns, body_raw b)) (names_value o)

list_callback_deeper : (n : ℕ) (d : list_callback_way) → list_callback_parts.depth d ≤ n → list_callback_part.depth (to_list_callback d) ≤ n
list_callback_deeper n (o, b) h = omega (arith, h, maybe_names_flat o)

list_callback_lower : (n : ℕ) (d : list_callback_way) → list_callback_part.depth (to_list_callback d) ≤ n → list_callback_parts.depth d ≤ n
list_callback_lower n (o, b) h = omega (arith, h, maybe_names_flat o)

list_callback_as : (n : ℕ) → As list_callback_parts list_callback_part n n
list_callback_as n = record { to = to_list_callback; spells = list_callback_spells; from = list_callback_from; value = list_callback_value; deeper = list_callback_deeper n; lower = list_callback_lower n }

list_callback_reads : (n : ℕ) (b b' : Reader RawStmts) → BodyReads n b b' → Reads (OPEN ∷ []) false expr_follow n list_callback_part (list_callback b) (list_callback b')
unfolding list_callback disjoint subset within
list_callback_reads n b b' a = as_reads _ _ (OPEN ∷ []) (expr_follow) _ n n list_callback_parts list_callback_part _ _ refl refl (list_callback_as n) (mapped_reads _ _ _ n _ _ _ (handler) (seq_reads _ _ _ _ _ _ n _ _ _ _ _ _ refl (after_reads _ _ _ _ _ _ n _ _ _ _ _ _ refl refl (open_mark n) (before_reads _ _ _ _ _ _ n _ _ _ _ _ _ refl refl (mapped_reads _ _ _ n _ _ _ (all_of) (maybe_reads (OPEN_BRACKET ∷ []) _ _ (OPEN_BRACKET ∷ []) n _ _ _ refl refl refl (after_reads _ _ _ _ _ _ n _ _ _ _ _ _ refl refl (open_bracket_mark n) (before_reads _ _ _ _ _ _ n _ _ _ _ _ _ refl refl (separated_reads free_names _ (COMMA ∷ free_names) n _ _ _ refl refl refl (free_name_reads n)) (close_bracket_mark n))))) (close_mark n))) (after_reads _ _ _ _ _ _ n _ _ _ _ _ _ refl refl (arrow_mark n) a)))

abbrev pub own_part : Part OwnD RawOnce
own_part = record { spelt = own_spelt; value = own_raw; depth = own_depth }

abbrev host_part : Part (NameAt × (List ℕ ⊎ BodyD)) RawOnce
host_part = seen applied (seq (name_part (HOST ∷ [])) (alt (seen (λ l m. raw.host l) (after (mark_part OPEN) (before (bytes_part (TEXT ∷ [])) (mark_part CLOSE)))) (seen (λ s m. raw.code (handler (alone m, s))) (after (mark_part ARROW) body_part))))

abbrev own_way : Type 0
own_way = (NameAt × (List ℕ ⊎ BodyD)) ⊎ ParamWay

abbrev own_parts : Part own_way RawOnce
own_parts = alt host_part (seen raw.code (callback_by_part but_host))

abbrev to_own : own_way → OwnD
to_own (inl (m, inl l)) = grammar.OwnD.host l
to_own (inl (m, inr b)) = grammar.OwnD.code (grammar.callback (grammar.bare m) b)
to_own (inr (inl o, b)) = grammar.OwnD.code (grammar.callback (grammar.in_parens o) b)
to_own (inr (inr m, b)) = grammar.OwnD.code (grammar.callback (grammar.bare m) b)

own_spells : (d : own_way) (ts r : List LineToken) → own_parts.spelt d ts ≡ Some r → own_part.spelt (to_own d) ts ≡ Some r
unfolding subset within
own_spells (inl (m, inl l)) ts r h = first_changes (name_of (HOST ∷ []) m ts) _ _ r (λ j f. one_weaker (HOST ∷ []) _ ts j f) h
own_spells (inl (m, inr b)) ts r h = first_changes (name_of (HOST ∷ []) m ts) _ _ r (λ j f. one_wider (HOST ∷ []) free_names _ ts j refl f) h
own_spells (inr (inl o, b)) ts r h = h
own_spells (inr (inr m, b)) ts r h = first_changes (name_of but_host m ts) _ _ r (λ j f. one_wider but_host free_names _ ts j refl f) h

own_host : (l : List ℕ) (ts r : List LineToken) → own_spelt (grammar.OwnD.host l) ts ≡ Some r → (w : own_way) × (to_own w ≡ grammar.OwnD.host l) × (own_parts.spelt w ts ≡ Some r)
own_host l ts r h =
    let rest = spell.mark OPEN ▸ spell.text_token l ▸ spell.mark CLOSE in
    let m = bind_some (spell.mark HOST ts) rest r h in
    let n = named (HOST ∷ []) ts m.0 m.1 in
    (inl (n.0, inl l), refl, bound_some (name_of (HOST ∷ []) n.0 ts) rest m.0 (Some r) n.1 m.2)

own_bare : (n : NameAt) (b : BodyD) (ts r : List LineToken) → callback_spelt (grammar.callback (grammar.bare n) b) ts ≡ Some r → (w : own_way) × (to_own w ≡ grammar.OwnD.code (grammar.callback (grammar.bare n) b)) × (own_parts.spelt w ts ≡ Some r)
unfolding subset within
own_bare n b ts r h =
    let rest = spell.mark ARROW ▸ body_spelt b in
    let m = bind_some (name_of free_names n ts) rest r h in
    elim (one_split free_names (HOST ∷ []) but_host _ ts m.0 refl m.1) [
      | inl w ↦ (inl (n, inr b), refl, bound_some (name_of (HOST ∷ []) n ts) rest m.0 (Some r) w m.2)
      | inr w ↦ (inr (inr n, b), refl, bound_some (name_of but_host n ts) rest m.0 (Some r) w m.2)
    ]

own_from : (e : OwnD) (ts r : List LineToken) → own_part.spelt e ts ≡ Some r → (d : own_way) × (to_own d ≡ e) × (own_parts.spelt d ts ≡ Some r)
unfolding subset within
own_from (grammar.OwnD.code (grammar.callback (grammar.in_parens o) b)) ts r h = ((inr (inl o, b)), refl, h)
own_from (grammar.OwnD.host l) ts r h = own_host l ts r h
own_from (grammar.OwnD.code (grammar.callback (grammar.bare m) b)) ts r h = own_bare m b ts r h

own_value : (d : own_way) → own_part.value (to_own d) ≡ own_parts.value d
own_value (inl (m, inl l)) = refl
own_value (inl (m, inr b)) = refl
own_value (inr (inl o, b)) = ap (λ k. raw.code (handler (one_or_none k, body_raw b))) (same_maybe o)
own_value (inr (inr m, b)) = refl

own_deeper : (n : ℕ) (d : own_way) → own_parts.depth d ≤ n → own_part.depth (to_own d) ≤ n
own_deeper n (inl (m, inl l)) h = omega (arith, h)
own_deeper n (inl (m, inr b)) h = omega (arith, h)
own_deeper n (inr (inl o, b)) h = omega (arith, h, maybe_flat o)
own_deeper n (inr (inr m, b)) h = omega (arith, h)

own_lower : (n : ℕ) (d : own_way) → own_part.depth (to_own d) ≤ n → own_parts.depth d ≤ n
own_lower n (inl (m, inl l)) h = omega (arith, h)
own_lower n (inl (m, inr b)) h = omega (arith, h)
own_lower n (inr (inl o, b)) h = omega (arith, h, maybe_flat o)
own_lower n (inr (inr m, b)) h = omega (arith, h)

own_as : (n : ℕ) → As own_parts own_part n n
own_as n = record { to = to_own; spells = own_spells; from = own_from; value = own_value; deeper = own_deeper n; lower = own_lower n }

own_reads : (n : ℕ) (b b' : Reader RawStmts) → BodyReads n b b' → Reads own_firsts false expr_follow n own_part (once b) (once b')
unfolding once host_own disjoint subset within
own_reads n b b' a =
    as_reads _ _ (own_firsts) (expr_follow) _ n n own_parts own_part _ _ refl refl (own_as n) (choice_reads (HOST ∷ []) _ _ _ _ _ n _ _ _ _ _ _ refl refl (mapped_reads _ _ _ n _ _ _ (applied) (seq_reads _ _ _ _ _ _ n _ _ _ _ _ _ refl (host_reads n) (choice_reads (OPEN ∷ []) _ _ _ _ _ n _ _ _ _ _ _ refl refl (mapped_reads _ _ _ n _ _ _ (λ l m. raw.host l) (after_reads _ _ _ _ _ _ n _ _ _ _ _ _ refl refl (open_mark n) (before_reads _ _ _ _ _ _ n _ _ _ _ _ _ refl refl (text_reads n) (close_mark n)))) (mapped_reads _ _ _ n _ _ _ (λ s m. raw.code (handler (alone m, s))) (after_reads _ _ _ _ _ _ n _ _ _ _ _ _ refl refl (arrow_mark n) a))))) (mapped_reads _ _ _ n _ _ _ (raw.code) (mapped_reads _ _ _ n _ _ _ (handler) (seq_reads _ _ _ _ _ _ n _ _ _ _ _ _ refl (choice_reads (OPEN ∷ []) _ _ _ _ _ n _ _ _ _ _ _ refl refl (in_parens_reads n) (mapped_reads _ _ _ n _ _ _ (alone) (but_host_reads n))) (after_reads _ _ _ _ _ _ n _ _ _ _ _ _ refl refl (arrow_mark n) a)))))

abbrev pub accept_part : Part AcceptD RawItem
accept_part = record { spelt = accept_spelt; value = accept_raw; depth = accept_depth }

abbrev texts_part : Part (Listed (List ℕ)) (List (List ℕ))
texts_part = after (mark_part OPEN_BRACKET) (before (listed_part (bytes_part (TEXT ∷ []))) (mark_part CLOSE_BRACKET))

same_texts : (ss : List (List ℕ)) → map (λ x. x) ss ≡ ss
same_texts [] = refl
same_texts (x ∷ ss) = ap (λ k. x ∷ k) (same_texts ss)

texts_flat : (ss : List (List ℕ)) → deepest (λ x. 0) ss ≡ 0
texts_flat [] = refl
texts_flat (x ∷ ss) = omega (arith, texts_flat ss)

deps_grouped : (ss : Listed (List ℕ)) (g : Spell) (ts : List LineToken)
    → ((spell.mark OPEN_BRACKET ▸ (spell.listed spell.text_token ss ▸ spell.mark CLOSE_BRACKET)) ▸ g) ts ≡ (spell.mark OPEN_BRACKET ▸ spell.listed spell.text_token ss ▸ spell.mark CLOSE_BRACKET ▸ g) ts
deps_grouped ss g ts = assoc (spell.mark OPEN_BRACKET) (spell.listed spell.text_token ss ▸ spell.mark CLOSE_BRACKET) g ts ∙ under (spell.mark OPEN_BRACKET) _ _ (assoc (spell.listed spell.text_token ss) (spell.mark CLOSE_BRACKET) g) ts

abbrev accept_way : Type 0
accept_way = (List ℕ × Option CallbackD) ⊎ ((Listed (List ℕ) × Option ListCallbackD) ⊎ (OwnD ⊎ Unit {0}))

abbrev accept_parts : Part accept_way RawItem
accept_parts = alt (seen (λ v. raw.deps false (alone v.0) v.1) (seq (bytes_part (TEXT ∷ [])) (maybe_part (after (mark_part COMMA) callback_part))))
    (alt (seen (λ v. raw.deps true v.0 v.1) (seq texts_part (maybe_part (after (mark_part COMMA) list_callback_part)))) (alt (seen (λ o. raw.own (Some o)) own_part) (nothing_part (raw.own None))))

abbrev to_accept : accept_way → AcceptD
to_accept (inl (s, c)) = grammar.dep s c
to_accept (inr (inl (ss, c))) = grammar.deps ss c
to_accept (inr (inr (inl o))) = grammar.AcceptD.own o
to_accept (inr (inr (inr u))) = grammar.accept_all

accept_spells : (d : accept_way) (ts r : List LineToken) → accept_parts.spelt d ts ≡ Some r → accept_part.spelt (to_accept d) ts ≡ Some r
accept_spells (inl (s, c)) ts r h = h
accept_spells (inr (inl (ss, c))) ts r h = sym (deps_grouped ss _ ts) ∙ h
accept_spells (inr (inr (inl o))) ts r h = h
accept_spells (inr (inr (inr u))) ts r h = h

accept_from : (e : AcceptD) (ts r : List LineToken) → accept_part.spelt e ts ≡ Some r → (d : accept_way) × (to_accept d ≡ e) × (accept_parts.spelt d ts ≡ Some r)
accept_from (grammar.dep s c) ts r h = ((inl (s, c)), refl, h)
accept_from (grammar.deps ss c) ts r h = (inr (inl (ss, c)), refl, deps_grouped ss _ ts ∙ h)
accept_from (grammar.AcceptD.own o) ts r h = ((inr (inr (inl o))), refl, h)
accept_from grammar.accept_all ts r h = (inr (inr (inr tt)), refl, h)

accept_value : (d : accept_way) → accept_part.value (to_accept d) ≡ accept_parts.value d
accept_value (inl (s, c)) = refl
accept_value (inr (inl (ss, c))) = ap (λ k. raw.deps true k (option_map list_callback_raw c)) (sym (same_texts (items_of ss)))
accept_value (inr (inr (inl o))) = refl
accept_value (inr (inr (inr u))) = refl

accept_deeper : (n : ℕ) (d : accept_way) → accept_parts.depth d ≤ n → accept_part.depth (to_accept d) ≤ n
accept_deeper n (inl (s, c)) h = omega (arith, h)
accept_deeper n (inr (inl (ss, c))) h = omega (arith, h, texts_flat (items_of ss))
accept_deeper n (inr (inr (inl o))) h = omega (arith, h)
accept_deeper n (inr (inr (inr u))) h = omega (arith, h)

accept_lower : (n : ℕ) (d : accept_way) → accept_part.depth (to_accept d) ≤ n → accept_parts.depth d ≤ n
accept_lower n (inl (s, c)) h = omega (arith, h)
accept_lower n (inr (inl (ss, c))) h = omega (arith, h, texts_flat (items_of ss))
accept_lower n (inr (inr (inl o))) h = omega (arith, h)
accept_lower n (inr (inr (inr u))) h = omega (arith, h)

accept_as : (n : ℕ) → As accept_parts accept_part n n
accept_as n = record { to = to_accept; spells = accept_spells; from = accept_from; value = accept_value; deeper = accept_deeper n; lower = accept_lower n }

accept_reads : (n : ℕ) (b b' : Reader RawStmts) → BodyReads n b b' → Reads (TEXT ∷ OPEN_BRACKET ∷ own_firsts) true (TEXT ∷ COMMA ∷ OPEN_BRACKET ∷ own_firsts ++ expr_follow) n accept_part (accepted b) (accepted b')
unfolding accepted disjoint subset within
accept_reads n b b' a =
    as_reads _ _ (TEXT ∷ OPEN_BRACKET ∷ own_firsts) (TEXT ∷ COMMA ∷ OPEN_BRACKET ∷ own_firsts ++ expr_follow) _ n n accept_parts accept_part _ _ refl refl (accept_as n) (choice_reads (TEXT ∷ []) _ _ _ _ _ n _ _ _ _ _ _ refl refl (mapped_reads _ _ _ n _ _ _ (λ v. raw.deps false (alone v.0) v.1) (seq_reads _ _ _ _ _ _ n _ _ _ _ _ _ refl (text_reads n) (maybe_reads (COMMA ∷ []) _ _ (COMMA ∷ expr_follow) n _ _ _ refl refl refl (after_reads _ _ _ _ _ _ n _ _ _ _ _ _ refl refl (comma_mark n) (callback_reads n b b' a))))) (choice_reads (OPEN_BRACKET ∷ []) _ _ _ _ _ n _ _ _ _ _ _ refl refl (mapped_reads _ _ _ n _ _ _ (λ v. raw.deps true v.0 v.1) (seq_reads _ _ _ _ _ _ n _ _ _ _ _ _ refl (after_reads _ _ _ _ _ _ n _ _ _ _ _ _ refl refl (open_bracket_mark n) (before_reads _ _ _ _ _ _ n _ _ _ _ _ _ refl refl (listed_reads (TEXT ∷ []) _ n _ _ _ refl (taken_shallow (TEXT ∷ []) _) (text_reads n)) (close_bracket_mark n))) (maybe_reads (COMMA ∷ []) _ _ (COMMA ∷ expr_follow) n _ _ _ refl refl refl (after_reads _ _ _ _ _ _ n _ _ _ _ _ _ refl refl (comma_mark n) (list_callback_reads n b b' a))))) (choice_reads (own_firsts) _ _ _ _ _ n _ _ _ _ _ _ refl refl (mapped_reads _ _ _ n _ _ _ (λ o. raw.own (Some o)) (own_reads n b b' a)) (given_reads n (raw.own None)))))

-- what `on` takes
abbrev listened_part : Part (NameAt × CallbackD) RawItem
listened_part = seen (λ v. raw.on v.0 v.1) (seq (name_part (TEXT ∷ [])) (after (mark_part COMMA) callback_part))

listened_reads : (n : ℕ) (b b' : Reader RawStmts) → BodyReads n b b' → Reads (TEXT ∷ []) false expr_follow n listened_part (listened b) (listened b')
unfolding disjoint subset within
listened_reads n b b' a = mapped_reads _ _ _ n _ _ _ (λ v. raw.on v.0 v.1) (seq_reads _ _ _ _ _ _ n _ _ _ _ _ _ refl (event_reads n) (after_reads _ _ _ _ _ _ n _ _ _ _ _ _ refl refl (comma_mark n) (callback_reads n b b' a)))

abbrev pub hot_call_part : Part HotCallD RawItem
hot_call_part = record { spelt = hot_call_spelt; value = hot_call_raw; depth = hot_call_depth }

abbrev hot_call_way : Type 0
hot_call_way = AcceptD ⊎ (OwnD ⊎ (OwnD ⊎ ((NameAt × CallbackD) ⊎ Unit {0})))

abbrev hot_call_parts : Part hot_call_way RawItem
hot_call_parts = alt (after (mark_part ACCEPT) (after (mark_part OPEN) (before accept_part (mark_part CLOSE))))
    (alt (seen raw.dispose (after (mark_part DISPOSE) (after (mark_part OPEN) (before own_part (mark_part CLOSE)))))
    (alt (seen raw.prune (after (mark_part PRUNE) (after (mark_part OPEN) (before own_part (mark_part CLOSE)))))
    (alt (after (mark_part ON) (after (mark_part OPEN) (before listened_part (mark_part CLOSE)))) (seen (λ u. raw.decline) (after (mark_part DECLINE) (after (mark_part OPEN) (mark_part CLOSE)))))))

abbrev to_hot_call : hot_call_way → HotCallD
to_hot_call (inl d) = grammar.accept d
to_hot_call (inr (inl o)) = grammar.HotCallD.dispose o
to_hot_call (inr (inr (inl o))) = grammar.HotCallD.prune o
to_hot_call (inr (inr (inr (inl (m, c))))) = grammar.HotCallD.on m c
to_hot_call (inr (inr (inr (inr u)))) = grammar.HotCallD.decline

hot_call_spells : (d : hot_call_way) (ts r : List LineToken) → hot_call_parts.spelt d ts ≡ Some r → hot_call_part.spelt (to_hot_call d) ts ≡ Some r
hot_call_spells (inl d) ts r h = h
hot_call_spells (inr (inl o)) ts r h = h
hot_call_spells (inr (inr (inl o))) ts r h = h
hot_call_spells (inr (inr (inr (inl (m, c))))) ts r h = h
hot_call_spells (inr (inr (inr (inr u)))) ts r h = h

hot_call_from : (e : HotCallD) (ts r : List LineToken) → hot_call_part.spelt e ts ≡ Some r → (d : hot_call_way) × (to_hot_call d ≡ e) × (hot_call_parts.spelt d ts ≡ Some r)
hot_call_from (grammar.accept d) ts r h = ((inl d), refl, h)
hot_call_from (grammar.HotCallD.dispose o) ts r h = ((inr (inl o)), refl, h)
hot_call_from (grammar.HotCallD.prune o) ts r h = ((inr (inr (inl o))), refl, h)
hot_call_from (grammar.HotCallD.on m c) ts r h = ((inr (inr (inr (inl (m, c))))), refl, h)
hot_call_from grammar.HotCallD.decline ts r h = (inr (inr (inr (inr tt))), refl, h)

hot_call_value : (d : hot_call_way) → hot_call_part.value (to_hot_call d) ≡ hot_call_parts.value d
hot_call_value (inl d) = refl
hot_call_value (inr (inl o)) = refl
hot_call_value (inr (inr (inl o))) = refl
hot_call_value (inr (inr (inr (inl (m, c))))) = refl
hot_call_value (inr (inr (inr (inr u)))) = refl

hot_call_deeper : (n : ℕ) (d : hot_call_way) → hot_call_parts.depth d ≤ n → hot_call_part.depth (to_hot_call d) ≤ n
hot_call_deeper n (inl d) h = omega (arith, h)
hot_call_deeper n (inr (inl o)) h = omega (arith, h)
hot_call_deeper n (inr (inr (inl o))) h = omega (arith, h)
hot_call_deeper n (inr (inr (inr (inl (m, c))))) h = omega (arith, h)
hot_call_deeper n (inr (inr (inr (inr u)))) h = omega (arith, h)

hot_call_lower : (n : ℕ) (d : hot_call_way) → hot_call_part.depth (to_hot_call d) ≤ n → hot_call_parts.depth d ≤ n
hot_call_lower n (inl d) h = omega (arith, h)
hot_call_lower n (inr (inl o)) h = omega (arith, h)
hot_call_lower n (inr (inr (inl o))) h = omega (arith, h)
hot_call_lower n (inr (inr (inr (inl (m, c))))) h = omega (arith, h)
hot_call_lower n (inr (inr (inr (inr u)))) h = omega (arith, h)

hot_call_as : (n : ℕ) → As hot_call_parts hot_call_part n n
hot_call_as n = record { to = to_hot_call; spells = hot_call_spells; from = hot_call_from; value = hot_call_value; deeper = hot_call_deeper n; lower = hot_call_lower n }

pub hot_call_reads : (n : ℕ) (b b' : Reader RawStmts) → BodyReads n b b' → Reads (ACCEPT ∷ DISPOSE ∷ PRUNE ∷ ON ∷ DECLINE ∷ []) false [] n hot_call_part (hot_call b) (hot_call b')
unfolding hot_call disjoint subset within
hot_call_reads n b b' a =
    as_reads _ _ (ACCEPT ∷ DISPOSE ∷ PRUNE ∷ ON ∷ DECLINE ∷ []) ([]) _ n n hot_call_parts hot_call_part _ _ refl refl (hot_call_as n) (choice_reads (ACCEPT ∷ []) _ _ _ _ _ n _ _ _ _ _ _ refl refl (after_reads _ _ _ _ _ _ n _ _ _ _ _ _ refl refl (accept_mark n) (after_reads _ _ _ _ _ _ n _ _ _ _ _ _ refl refl (open_mark n) (before_reads _ _ _ _ _ _ n _ _ _ _ _ _ refl refl (accept_reads n b b' a) (close_mark n)))) (choice_reads (DISPOSE ∷ []) _ _ _ _ _ n _ _ _ _ _ _ refl refl (mapped_reads _ _ _ n _ _ _ (raw.dispose) (after_reads _ _ _ _ _ _ n _ _ _ _ _ _ refl refl (dispose_mark n) (after_reads _ _ _ _ _ _ n _ _ _ _ _ _ refl refl (open_mark n) (before_reads _ _ _ _ _ _ n _ _ _ _ _ _ refl refl (own_reads n b b' a) (close_mark n))))) (choice_reads (PRUNE ∷ []) _ _ _ _ _ n _ _ _ _ _ _ refl refl (mapped_reads _ _ _ n _ _ _ (raw.prune) (after_reads _ _ _ _ _ _ n _ _ _ _ _ _ refl refl (prune_mark n) (after_reads _ _ _ _ _ _ n _ _ _ _ _ _ refl refl (open_mark n) (before_reads _ _ _ _ _ _ n _ _ _ _ _ _ refl refl (own_reads n b b' a) (close_mark n))))) (choice_reads (ON ∷ []) _ _ _ _ _ n _ _ _ _ _ _ refl refl (after_reads _ _ _ _ _ _ n _ _ _ _ _ _ refl refl (on_mark n) (after_reads _ _ _ _ _ _ n _ _ _ _ _ _ refl refl (open_mark n) (before_reads _ _ _ _ _ _ n _ _ _ _ _ _ refl refl (listened_reads n b b' a) (close_mark n)))) (mapped_reads _ _ _ n _ _ _ (λ u. raw.decline) (after_reads _ _ _ _ _ _ n _ _ _ _ _ _ refl refl (decline_mark n) (after_reads _ _ _ _ _ _ n _ _ _ _ _ _ refl refl (open_mark n) (close_mark n))))))))
