-- Names are gone over for the first that is one of those before it.
use Rattle.std.proofs.Common.{◌≡◌, ℕ, ◌+◌, ◌<◌, List, [], ◌∷◌, ◌++◌, length, get_or, take, drop, map, Bool, Option, ap, sym, ◌∙◌}
use Rattle.std.proofs.lemmas.List.{at_drop_more, take-map}
use Rattle.hmr_types.specs.declared.analysis.FaultWord.TheVariants.{DuplicateName}
use Rattle.raw_trees.specs.declared.name_at.NameAt.{NameAt}
use Rattle.raw_trees.specs.Raw.{name_at_of}
use Rattle.module_semantics.specs.Kinds as plain
use Rattle.module_semantics.specs.NameRules.{Broken, has_name, names_of}
use Rattle.name_rules.specs.Firsts.{earlier, first_if, repeated_first}
use Rattle.name_rules.proofs.Places.{names, names_more}

-- the next name is asked whether it is one of those before it
pub next_repeat : (ns : List plain.NameAt) (all : List NameAt) (i : ℕ) (x : NameAt) (again : Bool) (found next whole : Option Broken) → map name_at_of all ≡ ns → i < length all → x ≡ get_or all i x
    → again ≡ has_name x.name (names_of (take i ns)) → next ≡ earlier found (first_if again DuplicateName x.at) → repeated_first (names (take i all)) found (map name_at_of (drop i all)) ≡ whole
    → repeated_first (names (take (i + 1) all)) next (map name_at_of (drop (i + 1) all)) ≡ whole
next_repeat ns all i x again found next whole same lt is asked told h =
    let rest : List plain.NameAt = map name_at_of (drop (i + 1) all) in
    let left : map name_at_of (drop i all) ≡ name_at_of x ∷ rest = at_drop_more (map name_at_of) all i x lt ∙ ap (λ y. name_at_of y ∷ rest) (sym is) in
    let before : again ≡ has_name x.name (names (take i all)) =
    asked ∙ (ap (λ l. has_name x.name (names_of (take i l))) (sym same) ∙ ap (λ l. has_name x.name (names_of l)) (take-map name_at_of i all)) in
    ap (λ b. repeated_first b next rest) (names_more all i x lt is)
    ∙ (ap (λ f. repeated_first (names (take i all) ++ x.name ∷ []) f rest) (told ∙ ap (λ b. earlier found (first_if b DuplicateName x.at)) before) ∙ (sym (ap (repeated_first (names (take i all)) found) left) ∙ h))
