-- Statements that begin with a name or with `import`.
use Rattle.std.proofs.Common.{◌≡◌, ℕ, List, [], ◌∷◌, ◌++◌, Bool, true, false, ◌==◌, ◌⊎◌, inl, inr, Option, Some, refl, ap, ◌∙◌, arith}
use Rattle.module_semantics.specs.Token.{LineToken}
use Rattle.module_semantics.specs.Kinds.{COMMA, IMPORT, CONSOLE, LOG, DATA, INVALIDATE, OPEN, CLOSE, DOT, EQUALS, within, kind, free_names, all_names, NameAt, name_at, same_name}
use Rattle.module_semantics.specs.Raw as raw
use Rattle.module_semantics.specs.Raw.{RawExpr, RawStmt}
use Rattle.module_semantics.specs.Readers.{Reader}
use Rattle.module_semantics.specs.Reading as reading
use Rattle.module_semantics.specs.Reading.{but_console, applied, expr_firsts, import_stmt, bag_act, told, name_act, console_act, other_act}
use Rattle.module_semantics.specs.Spelling as spell
use Rattle.module_semantics.specs.Spelling.{Spell, ◌>>◌, ◌▸◌, one, any_token, name_of}
use Rattle.module_semantics.specs.Grammar as grammar
use Rattle.module_semantics.specs.Grammar.{ExprD, ActD, InvalD, expr_spelt, act_spelt, act_raw, act_depth, inval_spelt, inval_raw, inval_depth, hot_spelt, deepest}
use Rattle.module_semantics.proofs.Steps.{bind_some, bound_some}
use Rattle.module_semantics.proofs.KindLists.{same_kind, disjoint, subset, within_more, within_either}
use Rattle.module_semantics.proofs.Parts.{Part, Reads}
use Rattle.module_semantics.proofs.Leaves.{one_ok, one_is}
use Rattle.module_semantics.proofs.Sequences.{seq, seq_reads}
use Rattle.module_semantics.proofs.Choices.{as_reads, alt, choice_reads, seen, mapped_reads, after, after_reads, before, before_reads}
use Rattle.module_semantics.proofs.Options.{maybe_part, maybe_reads, separated_part, separated_reads}
use Rattle.module_semantics.proofs.Marks.{same_names, mark_part, name_part, bytes_part, place_part, key_reads, import_place, log_mark, data_mark, invalidate_mark, open_mark, close_mark, dot_mark, equals_mark, console_reads, but_console_reads}
use Rattle.module_semantics.proofs.Expressions.{ExprReads, expr_part, expr_follow, hot_part, hot_reads}

-- the same lists of tokens in another order
pub relist : {D A : Type 0} (fs ks gs js : List ℕ) (null : Bool) (n : ℕ) (P : Part D A) (f g : Reader A) → subset fs gs ≡ true → subset ks js ≡ true → Reads fs null ks n P f g → Reads gs null js n P f g
relist fs ks gs js null n P f g firsts follow a = as_reads fs ks gs js null n n P P f g firsts follow (record { to = λ d. d; spells = λ d ts r h. h; from = λ d ts r h. (d, refl, h); value = λ d. refl; deeper = λ d h. h; lower = λ d h. h }) a

-- the first part of a spelling under another name
pub first_changes : (o o' : Option (List LineToken)) (f : Spell) (r : List LineToken) → ((m : List LineToken) → o ≡ Some m → o' ≡ Some m) → (o >> f) ≡ Some r → (o' >> f) ≡ Some r
first_changes o o' f r change h = let m = bind_some o f r h in bound_some o' f m.0 (Some r) (change m.0 m.1) m.2

-- a token of more kinds, or of some of them
pub one_wider : (ks js : List ℕ) (test : LineToken → Bool) (ts r : List LineToken) → subset ks js ≡ true → one ks test ts ≡ Some r → one js test ts ≡ Some r
one_wider ks js test ts r sub h = let w = one_ok ks test ts r h in ap (one js test) w.1 ∙ one_is js test w.0 r (within_more ks js (kind w.0.token) sub w.2) w.3

pub one_weaker : (ks : List ℕ) (test : LineToken → Bool) (ts r : List LineToken) → one ks test ts ≡ Some r → one ks any_token ts ≡ Some r
one_weaker ks test ts r h = let w = one_ok ks test ts r h in ap (one ks any_token) w.1 ∙ one_is ks any_token w.0 r w.2 refl

pub one_split : (ks js is : List ℕ) (test : LineToken → Bool) (ts r : List LineToken) → subset ks (js ++ is) ≡ true → one ks test ts ≡ Some r → (one js test ts ≡ Some r) ⊎ (one is test ts ≡ Some r)
one_split ks js is test ts r sub h =
    let w = one_ok ks test ts r h in
    elim (within_either js is (kind w.0.token) (within_more ks (js ++ is) (kind w.0.token) sub w.2)) [
      | inl v ↦ inl (ap (one js test) w.1 ∙ one_is js test w.0 r v w.3)
      | inr v ↦ inr (ap (one is test) w.1 ∙ one_is is test w.0 r v w.3)
    ]

-- the name at a mark
pub named : (ks : List ℕ) (ts r : List LineToken) → one ks any_token ts ≡ Some r → (n : NameAt) × (name_of ks n ts ≡ Some r)
named ks ts r h =
    let w = one_ok ks any_token ts r h in
    (name_at w.0, ap (name_of ks (name_at w.0)) w.1 ∙ one_is ks (λ t. same_name (name_at w.0) (name_at t)) w.0 r w.2 (same_names.again (name_at w.0)))

abbrev assigned_part : Part ExprD (NameAt → RawStmt)
assigned_part = seen (λ x n. raw.assign n x) (after (mark_part EQUALS) expr_part)

abbrev log_part : Part (List ExprD) (NameAt → RawStmt)
log_part = seen (λ es n. raw.log es) (after (mark_part DOT) (after (mark_part LOG) (after (mark_part OPEN) (before (separated_part expr_part) (mark_part CLOSE)))))

abbrev console_part : Part (NameAt × (List ExprD ⊎ ExprD)) RawStmt
console_part = seen applied (seq (name_part (CONSOLE ∷ [])) (alt log_part assigned_part))

abbrev set_part : Part (List ℕ × ExprD) (NameAt → RawStmt)
set_part = seen (λ v n. raw.set n v.0 v.1) (after (mark_part DOT) (seq (bytes_part all_names) (after (mark_part EQUALS) expr_part)))

abbrev other_part : Part (NameAt × ((List ℕ × ExprD) ⊎ ExprD)) RawStmt
other_part = seen applied (seq (name_part but_console) (alt set_part assigned_part))

-- how a statement may begin with a name
abbrev pub NameWay : Type 0
NameWay = (NameAt × (List ExprD ⊎ ExprD)) ⊎ (NameAt × ((List ℕ × ExprD) ⊎ ExprD))

abbrev pub name_act_part : Part NameWay RawStmt
name_act_part = alt console_part other_part

assigned_reads : (n : ℕ) (e e' : Reader RawExpr) → ExprReads n e e' → Reads (EQUALS ∷ []) false expr_follow n assigned_part (reading.assigned e) (reading.assigned e')
unfolding disjoint within
assigned_reads n e e' a = (mapped_reads _ _ _ n _ _ _ (λ x m. raw.assign m x) (after_reads _ _ _ _ _ _ n _ _ _ _ _ _ refl refl (equals_mark n) a))

console_act_reads : (n : ℕ) (e e' : Reader RawExpr) → ExprReads n e e' → Reads (CONSOLE ∷ []) false expr_follow n console_part (console_act e) (console_act e')
unfolding console_act disjoint subset within
console_act_reads n e e' a =
    relist _ _ (CONSOLE ∷ []) expr_follow _ n _ _ _ refl refl
    (mapped_reads _ _ _ n _ _ _ (applied) (seq_reads _ _ _ _ _ _ n _ _ _ _ _ _ refl (console_reads n) (choice_reads (DOT ∷ []) _ _ _ _ _ n _ _ _ _ _ _ refl refl (mapped_reads _ _ _ n _ _ _ (λ es m. raw.log es) (after_reads _ _ _ _ _ _ n _ _ _ _ _ _ refl refl (dot_mark n) (after_reads _ _ _ _ _ _ n _ _ _ _ _ _ refl refl (log_mark n) (after_reads _ _ _ _ _ _ n _ _ _ _ _ _ refl refl (open_mark n) (before_reads _ _ _ _ _ _ n _ _ _ _ _ _ refl refl (separated_reads expr_firsts _ (expr_firsts ++ (COMMA ∷ expr_follow)) n _ _ _ refl refl refl a) (close_mark n)))))) (assigned_reads n e e' a))))

other_act_reads : (n : ℕ) (e e' : Reader RawExpr) → ExprReads n e e' → Reads but_console false expr_follow n other_part (other_act e) (other_act e')
unfolding other_act disjoint subset within
other_act_reads n e e' a =
    relist _ _ but_console expr_follow _ n _ _ _ refl refl
    (mapped_reads _ _ _ n _ _ _ (applied) (seq_reads _ _ _ _ _ _ n _ _ _ _ _ _ refl (but_console_reads n) (choice_reads (DOT ∷ []) _ _ _ _ _ n _ _ _ _ _ _ refl refl (mapped_reads _ _ _ n _ _ _ (λ v m. raw.set m v.0 v.1) (after_reads _ _ _ _ _ _ n _ _ _ _ _ _ refl refl (dot_mark n) (seq_reads _ _ _ _ _ _ n _ _ _ _ _ _ refl (key_reads n) (after_reads _ _ _ _ _ _ n _ _ _ _ _ _ refl refl (equals_mark n) a)))) (assigned_reads n e e' a))))

pub name_act_reads : (n : ℕ) (e e' : Reader RawExpr) → ExprReads n e e' → Reads free_names false expr_follow n name_act_part (name_act e) (name_act e')
unfolding name_act disjoint subset within
name_act_reads n e e' a = relist _ _ free_names expr_follow _ n _ _ _ refl refl (choice_reads (CONSOLE ∷ []) _ _ _ _ _ n _ _ _ _ _ _ refl refl (console_act_reads n e e' a) (other_act_reads n e e' a))

abbrev pub act_of : NameWay → ActD
act_of (inl (n, inl es)) = grammar.log es
act_of (inl (n, inr e)) = grammar.assign n e
act_of (inr (n, inl (k, e))) = grammar.set n k e
act_of (inr (n, inr e)) = grammar.assign n e

pub act_spells : (w : NameWay) (ts r : List LineToken) → name_act_part.spelt w ts ≡ Some r → act_spelt (act_of w) ts ≡ Some r
unfolding subset within
act_spells (inl (n, inl es)) ts r h = first_changes (name_of (CONSOLE ∷ []) n ts) _ _ r (λ m g. one_weaker (CONSOLE ∷ []) _ ts m g) h
act_spells (inl (n, inr e)) ts r h = first_changes (name_of (CONSOLE ∷ []) n ts) _ _ r (λ m g. one_wider (CONSOLE ∷ []) free_names _ ts m refl g) h
act_spells (inr (n, inl (k, e))) ts r h = h
act_spells (inr (n, inr e)) ts r h = first_changes (name_of but_console n ts) _ _ r (λ m g. one_wider but_console free_names _ ts m refl g) h

pub act_value : (w : NameWay) → act_raw (act_of w) ≡ name_act_part.value w
act_value (inl (n, inl es)) = refl
act_value (inl (n, inr e)) = refl
act_value (inr (n, inl (k, e))) = refl
act_value (inr (n, inr e)) = refl

pub act_same_depth : (w : NameWay) → act_depth (act_of w) ≡ name_act_part.depth w
act_same_depth (inl (n, inl es)) = omega arith
act_same_depth (inl (n, inr e)) = omega arith
act_same_depth (inr (n, inl (k, e))) = omega arith
act_same_depth (inr (n, inr e)) = omega arith

-- a statement begins with a name, or assigns to the bag
abbrev pub ActWay : ActD → List LineToken → List LineToken → Type 0
ActWay d ts r = ((w : NameWay) × (act_of w ≡ d) × (name_act_part.spelt w ts ≡ Some r)) ⊎ ((v : List ℕ × ExprD) × (grammar.set_bag v.0 v.1 ≡ d))

assign_way : (n : NameAt) (e : ExprD) (ts r : List LineToken) → act_spelt (grammar.assign n e) ts ≡ Some r → ActWay (grammar.assign n e) ts r
unfolding subset within
assign_way n e ts r h =
    let m = bind_some (name_of free_names n ts) (spell.mark EQUALS ▸ expr_spelt e) r h in
    elim (one_split free_names (CONSOLE ∷ []) but_console _ ts m.0 refl m.1) [
      | inl w ↦ inl (inl (n, inr e), refl, bound_some (name_of (CONSOLE ∷ []) n ts) (spell.mark EQUALS ▸ expr_spelt e) m.0 (Some r) w m.2)
      | inr w ↦ inl (inr (n, inr e), refl, bound_some (name_of but_console n ts) (spell.mark EQUALS ▸ expr_spelt e) m.0 (Some r) w m.2)
    ]

log_way : (es : List ExprD) (ts r : List LineToken) → act_spelt (grammar.log es) ts ≡ Some r → ActWay (grammar.log es) ts r
log_way es ts r h =
    let rest = spell.mark DOT ▸ spell.mark LOG ▸ spell.mark OPEN ▸ spell.separated expr_spelt es ▸ spell.mark CLOSE in
    let m = bind_some (spell.mark CONSOLE ts) rest r h in
    let n = named (CONSOLE ∷ []) ts m.0 m.1 in
    inl (inl (n.0, inl es), refl, bound_some (name_of (CONSOLE ∷ []) n.0 ts) rest m.0 (Some r) n.1 m.2)

pub act_way : (d : ActD) (ts r : List LineToken) → act_spelt d ts ≡ Some r → ActWay d ts r
act_way (grammar.log es) ts r h = log_way es ts r h
act_way (grammar.assign n e) ts r h = assign_way n e ts r h
act_way (grammar.set n k e) ts r h = inl (inr (n, inl (k, e)), refl, h)
act_way (grammar.set_bag k e) ts r h = inr ((k, e), refl)

-- after `import.meta.hot.`
abbrev pub bag_part : Part (List ℕ × ExprD) RawStmt
bag_part = seen (λ v. raw.set_bag v.0 v.1) (after (mark_part DATA) (after (mark_part DOT) (seq (bytes_part all_names) (after (mark_part EQUALS) expr_part))))

pub bag_reads : (n : ℕ) (e e' : Reader RawExpr) → ExprReads n e e' → Reads (DATA ∷ []) false expr_follow n bag_part (bag_act e) (bag_act e')
unfolding bag_act disjoint subset within
bag_reads n e e' a = (mapped_reads _ _ _ n _ _ _ (λ v. raw.set_bag v.0 v.1) (after_reads _ _ _ _ _ _ n _ _ _ _ _ _ refl refl (data_mark n) (after_reads _ _ _ _ _ _ n _ _ _ _ _ _ refl refl (dot_mark n) (seq_reads _ _ _ _ _ _ n _ _ _ _ _ _ refl (key_reads n) (after_reads _ _ _ _ _ _ n _ _ _ _ _ _ refl refl (equals_mark n) a)))))

abbrev told_part : Part (Option ExprD) (Option RawExpr)
told_part = after (mark_part INVALIDATE) (after (mark_part OPEN) (before (maybe_part expr_part) (mark_part CLOSE)))

told_reads : (n : ℕ) (e e' : Reader RawExpr) → ExprReads n e e' → Reads (INVALIDATE ∷ []) false [] n told_part (told e) (told e')
unfolding told disjoint subset within
told_reads n e e' a = (after_reads _ _ _ _ _ _ n _ _ _ _ _ _ refl refl (invalidate_mark n) (after_reads _ _ _ _ _ _ n _ _ _ _ _ _ refl refl (open_mark n) (before_reads _ _ _ _ _ _ n _ _ _ _ _ _ refl refl (maybe_reads expr_firsts _ _ (expr_firsts ++ expr_follow) n _ _ _ refl refl refl a) (close_mark n))))

-- how a statement of a callback may begin with `import`
abbrev pub ImportWay : Type 0
ImportWay = ℕ × ((List ℕ × ExprD) ⊎ Option ExprD)

abbrev pub import_part : Part ImportWay RawStmt
import_part = seen applied (seq (place_part IMPORT) (hot_part (alt (seen (λ s at. s) bag_part) (seen (λ x at. raw.invalidate at x) told_part))))

pub import_reads : (n : ℕ) (e e' : Reader RawExpr) → ExprReads n e e' → Reads (IMPORT ∷ []) false expr_follow n import_part (import_stmt e) (import_stmt e')
unfolding import_stmt disjoint subset within
import_reads n e e' a = relist _ _ (IMPORT ∷ []) expr_follow _ n _ _ _ refl refl
    (mapped_reads _ _ _ n _ _ _ (applied) (seq_reads _ _ _ _ _ _ n _ _ _ _ _ _ refl (import_place n) (hot_reads _ _ _ n _ _ _ (choice_reads (DATA ∷ []) _ _ _ _ _ n _ _ _ _ _ _ refl refl (mapped_reads _ _ _ n _ _ _ (λ s at. s) (bag_reads n e e' a)) (mapped_reads _ _ _ n _ _ _ (λ x at. raw.invalidate at x) (told_reads n e e' a))))))

-- the place of a mark
pub placed : (k : ℕ) (ts r : List LineToken) → spell.mark k ts ≡ Some r → (at : ℕ) × (spell.mark_at k at ts ≡ Some r)
placed k ts r h = let w = one_ok (k ∷ []) any_token ts r h in (w.0.at, ap (spell.mark_at k w.0.at) w.1 ∙ one_is (k ∷ []) (λ t. w.0.at == t.at) w.0 r w.2 (same_kind w.0.at))
