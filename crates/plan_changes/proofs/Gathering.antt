-- What new instances are made from is gathered name by name: links, trees and births.
use Rattle.std.proofs.Common.{◌≡◌, ◌+◌, ◌<◌, ℕ, suc, Bool, true, false, List, [], ◌∷◌, ◌++◌, length, take, get_or, refl, ap, sym, ◌∙◌}
use Rattle.std.specs.Prelude.{cond, Option, Some, None, option_to_list}
use Rattle.std.specs.BTreeMap.{BTreeMap, UpdatesBy, is_at}
use Rattle.std.specs.Cmp.Lexicographic.{slice_cmp}
use Rattle.std.specs.List.{AllZip, cons_option}
use Rattle.std.specs.Map.{lookup}
use Rattle.std.specs.Ordering.{nat_cmp}
use Rattle.std.proofs.Math.Path.{subst}
use Rattle.std.proofs.lemmas.List.{take_more}
use Rattle.std.proofs.lemmas.List.Elements.{filter_map-append}
use Rattle.std.proofs.lemmas.Option.{none-some}
use Rattle.module_tree.specs.declared.tree.Module.{Module}
use Rattle.core_model.specs.Names.{Name, at}
use Rattle.core_model.specs.Page.{Plan}
use Rattle.core_model.specs.View.{View}
use Rattle.client_model.specs.Linking.{link_to}
use Rattle.page_plan.specs.Numbers.{NewNumbers}
use Rattle.page_plan.proofs.Numbering.{found}
use Rattle.page_births.specs.declared.birth.Birth.{Birth}
use Rattle.page_state.specs.Live.{Numbers}
use Rattle.plan_changes.specs.Changing.{IsMadeOf, links_by, number_then}

-- One more link.

one_link : (o : Option (Name × ℕ)) → cons_option o [] ≡ option_to_list o
one_link None = refl
one_link (Some x) = refl

pub linked_more : (numbers : NewNumbers) (now : Numbers) (imports : List Name) (i : ℕ) (m : Name) (number : Option ℕ) (old new : List (Name × ℕ)) → i < length imports → m ≡ get_or imports i m → number ≡ number_then numbers now m
    → old ≡ links_by numbers now (take i imports) → new ≡ old ++ option_to_list (link_to m number) → new ≡ links_by numbers now (take (i + 1) imports)
linked_more numbers now imports i m number old new within is its so_far added =
    added ∙ ap (λ ls. ls ++ option_to_list (link_to m number)) so_far
    ∙ ap (λ o. links_by numbers now (take i imports) ++ option_to_list (link_to m o)) its
    ∙ ap (λ ls. links_by numbers now (take i imports) ++ ls) (sym (one_link (link_to m (number_then numbers now m))))
    ∙ sym (filter_map-append (λ x. link_to x (number_then numbers now x)) (take i imports) (m ∷ []))
    ∙ ap (links_by numbers now) (ap (λ x. take i imports ++ x ∷ []) is ∙ sym (take_more imports i m within))

-- One tree less.

pub tree_left : (name : Name) (m n : BTreeMap Name Module) → UpdatesBy (slice_cmp nat_cmp) (slice_cmp nat_cmp name) m n None → (q : Name) (tree : Module) → at n.entries q ≡ Some tree → at m.entries q ≡ Some tree
tree_left name m n updates q tree e =
    let all : lookup (is_at (slice_cmp nat_cmp q)) n.entries ≡ cond (is_at (slice_cmp nat_cmp name) q) None (lookup (is_at (slice_cmp nat_cmp q)) m.entries) = updates.0 q in
    by (is_at (slice_cmp nat_cmp name) q) (at m.entries q) (ap (λ o. cond (is_at (slice_cmp nat_cmp name) q) None o) (sym (found q m.entries)) ∙ sym all ∙ found q n.entries ∙ e)
  where
    by : (b : Bool) (o : Option Module) → cond b None o ≡ Some tree → o ≡ Some tree
    by true o h = absurd (none-some tree h)
    by false o h = h

-- One more birth.

zip_more : {X Y : Type 0} (R : X → Y → Type 0) (xs : List X) (ys : List Y) (x : X) (y : Y) → AllZip R xs ys → R x y → AllZip R (xs ++ x ∷ []) (ys ++ y ∷ [])
zip_more R [] [] x y z one = (one, tt)
zip_more R [] (b ∷ ys) x y z one = absurd z
zip_more R (a ∷ xs) [] x y z one = absurd z
zip_more R (a ∷ xs) (b ∷ ys) x y z one = (z.0, zip_more R xs ys x y z.1 one)

pub zip_length : {X Y : Type 0} (R : X → Y → Type 0) (xs : List X) (ys : List Y) → AllZip R xs ys → length ys ≡ length xs
zip_length R [] [] z = refl
zip_length R [] (b ∷ ys) z = absurd z
zip_length R (a ∷ xs) [] z = absurd z
zip_length R (a ∷ xs) (b ∷ ys) z = ap suc (zip_length R xs ys z.1)

pub born_more : (p : Plan) (view : View) (numbers : NewNumbers) (now : Numbers) (trees left : List (Name × Module)) (names : List Name) (i : ℕ) (n : Name) (made new : List Birth) (birth : Birth) → i < length names → n ≡ get_or names i n
    → ((m : Name) (tree : Module) → at left m ≡ Some tree → at trees m ≡ Some tree) → IsMadeOf p view numbers now left n birth
    → AllZip (IsMadeOf p view numbers now trees) (take i names) made → new ≡ made ++ birth ∷ [] → AllZip (IsMadeOf p view numbers now trees) (take (i + 1) names) new
born_more p view numbers now trees left names i n made new birth within is were one so_far added =
    subst (AllZip (IsMadeOf p view numbers now trees) (take (i + 1) names)) (sym added)
    (subst (λ ns. AllZip (IsMadeOf p view numbers now trees) ns (made ++ birth ∷ [])) (ap (λ x. take i names ++ x ∷ []) is ∙ sym (take_more names i n within))
    (zip_more (IsMadeOf p view numbers now trees) (take i names) made n birth so_far
    (record { entry = one.entry; there = one.there; name = one.name; version = one.version; exports = one.exports; links = one.links; tree = were n birth.tree one.tree })))
