-- The lesser of places: of the parts of a list, and of the list.
use Rattle.std.proofs.Common.{◌≡◌, ℕ, List, [], ◌∷◌, ◌++◌, Bool, true, false, Option, Some, None, refl, ap, sym, ◌∙◌, arith}
use Rattle.std.specs.Prelude.{nat_le}
use Rattle.std.proofs.lemmas.Bool.Decides.{nat_tests}
use Rattle.hmr_types.specs.declared.analysis.FaultWord.{FaultWord}
use Rattle.module_semantics.specs.NameRules.{Broken, broken_if, least, lesser}
use Rattle.name_rules.specs.Firsts.{earlier, first_if}

pub earlier_none : (found : Option Broken) → found ≡ earlier found None
earlier_none None = refl
earlier_none (Some b) = refl

three : (b c d : Broken) (bc cd bd : Bool) → nat_le b.at c.at ≡ bc → nat_le c.at d.at ≡ cd → nat_le b.at d.at ≡ bd → lesser b (Some (lesser c (Some d))) ≡ lesser (lesser b (Some c)) (Some d)
three b c d true true true p q r = rw (p, q, r) (rw p refl)
three b c d true true false p q r = absurd (grind (arith, nat_tests))
three b c d true false bd p q r = rw (p, q) refl
three b c d false true bd p q r = rw (p, q) (rw p refl)
three b c d false false true p q r = absurd (grind (arith, nat_tests))
three b c d false false false p q r = rw (p, q, r) refl

lesser_both : (b : Broken) (m l : Option Broken) → lesser b (earlier m l) ≡ lesser (lesser b m) l
lesser_both b None l = refl
lesser_both b (Some c) None = refl
lesser_both b (Some c) (Some d) = three b c d (nat_le b.at c.at) (nat_le c.at d.at) (nat_le b.at d.at) refl refl refl

pub earlier_assoc : (a b c : Option Broken) → earlier (earlier a b) c ≡ earlier a (earlier b c)
earlier_assoc None b c = refl
earlier_assoc (Some x) b c = ap Some (sym (lesser_both x b c))

pub least_append : (xs ys : List Broken) → least (xs ++ ys) ≡ earlier (least xs) (least ys)
unfolding least
least_append [] ys = refl
least_append (x ∷ xs) ys = ap (λ l. Some (lesser x l)) (least_append xs ys) ∙ ap Some (lesser_both x (least xs) (least ys))

-- of two parts, the earlier
pub both : (x y : Option Broken) (xs ys : List Broken) → x ≡ least xs → y ≡ least ys → earlier x y ≡ least (xs ++ ys)
both x y xs ys first second = ap (λ a. earlier a y) first ∙ (ap (earlier (least xs)) second ∙ sym (least_append xs ys))

-- after what was found, one part and then what is left
pub then_more : (found x r : Option Broken) (xs ys : List Broken) → x ≡ least xs → r ≡ earlier (earlier found x) (least ys) → r ≡ earlier found (least (xs ++ ys))
then_more found x r xs ys first rest =
    rest ∙ (earlier_assoc found x (least ys) ∙ (ap (λ a. earlier found (earlier a (least ys))) first ∙ ap (earlier found) (sym (least_append xs ys))))

pub if_is : (test : Bool) (word : FaultWord) (at : ℕ) → first_if test word at ≡ least (broken_if test word at)
unfolding least
if_is true word at = refl
if_is false word at = refl
