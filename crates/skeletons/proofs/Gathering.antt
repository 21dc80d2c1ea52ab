-- What is gathered is each module once, of too many the first.
use Rattle.std.proofs.Common.{◌≡◌, ◌+◌, ◌<◌, ◌≤◌, ℕ, List, [], ◌∷◌, ◌++◌, length, take, drop, get_or, refl, sym, ap, ◌∙◌, Bool, true, false, Option, Some, None}
use Rattle.std.specs.Prelude.{filter, if◌then◌else◌, not, ◌==◌}
use Rattle.std.specs.List.{list_any}
use Rattle.std.specs.Option.{option_to_list}
use Rattle.std.proofs.lemmas.List.{at_drop_all, at_drop_more, append_assoc}
use Rattle.hmr_types.specs.declared.analysis.Analysis.{Analysis}
use Rattle.module_semantics.specs.Analysis.{firsts}
use Rattle.module_semantics.specs.Entries.{has_name}
use Rattle.import_scan.specs.Scanning.{add_import}
use Rattle.import_scan.proofs.Firsts.{all_imports, import_firsts}
use Rattle.es_scan.specs.declared.outline.ModuleSpecifier.{ModuleSpecifier}
use Rattle.es_scan.specs.declared.outline.Outline.{Outline}
use Rattle.skeletons.specs.Following.{add_found, gathered, imports_shown, is_itself, shown, target, targets}
use Rattle.skeletons.specs.declared.following.Relation.{Relation}
use Rattle.skeletons.specs.declared.following.Relation.TheVariants as relations

gathered_both : (came ns ms : List (List ℕ)) → gathered came (ns ++ ms) ≡ gathered (gathered came ns) ms
gathered_both came [] ms = refl
gathered_both came (n ∷ ns) ms = gathered_both (add_import came n) ns ms

same : (came ns : List (List ℕ)) → gathered came ns ≡ all_imports came ns
same came [] = refl
same came (n ∷ ns) = same (add_import came n) ns

-- the modules of two lists, gathered one after the other
pub gathered_firsts : (ns ms one both : List (List ℕ)) → one ≡ gathered [] ns → both ≡ gathered one ms → both ≡ take 257 (firsts (ns ++ ms))
gathered_firsts ns ms one both first second =
    second ∙ ap (λ l. gathered l ms) first ∙ sym (gathered_both [] ns ms) ∙ same [] (ns ++ ms) ∙ import_firsts (ns ++ ms)

found_on : (came rest : List (List ℕ)) (o : Option (List ℕ)) → gathered (add_found came o) rest ≡ gathered came (option_to_list o ++ rest)
found_on came rest None = refl
found_on came rest (Some n) = refl

-- after the next specifier, what is left gathers what it gathered
pub gather_on : (r : Relation) (name text : List ℕ) (ss : List ModuleSpecifier) (n : ℕ) (d : ModuleSpecifier) (came next : List (List ℕ)) (o : Option (List ℕ)) → n < length ss
    → o ≡ target r name text (get_or ss n d) → next ≡ add_found came o → gathered next (targets r name text (drop (n + 1) ss)) ≡ gathered came (targets r name text (drop n ss))
gather_on r name text ss n d came next o inside found added =
    ap (λ l. gathered l (targets r name text (drop (n + 1) ss))) added ∙ found_on came (targets r name text (drop (n + 1) ss)) o
    ∙ ap (λ p. gathered came (option_to_list p ++ targets r name text (drop (n + 1) ss))) found
    ∙ sym (at_drop_more (λ l. gathered came (targets r name text l)) ss n d inside)

pub gather_ends : (r : Relation) (name text : List ℕ) (ss : List ModuleSpecifier) (n : ℕ) (came : List (List ℕ)) → length ss ≤ n → gathered came (targets r name text (drop n ss)) ≡ came
gather_ends r name text ss n came all = at_drop_all (λ l. gathered came (targets r name text l)) ss n all

among_step : (n : List ℕ) (done rest : List (List ℕ)) (b : Bool) → (done ++ (if b then n ∷ [] else [])) ++ rest ≡ done ++ (if b then n ∷ rest else rest)
among_step n done rest true = append_assoc done (n ∷ []) rest
among_step n done rest false = append_assoc done [] rest

-- after the next name, what was found and what is left is what it was
pub among_on : (p : List ℕ → Bool) (ns : List (List ℕ)) (i : ℕ) (n : List ℕ) (done next : List (List ℕ)) → i < length ns → n ≡ get_or ns i n → next ≡ done ++ (if p n then n ∷ [] else [])
    → next ++ filter p (drop (i + 1) ns) ≡ done ++ filter p (drop i ns)
among_on p ns i n done next inside is put =
    ap (λ l. l ++ filter p (drop (i + 1) ns)) put ∙ among_step n done (filter p (drop (i + 1) ns)) (p n)
    ∙ ap (λ x. done ++ filter p (x ∷ drop (i + 1) ns)) is
    ∙ sym (at_drop_more (λ l. done ++ filter p l) ns i n inside)

-- the names among others, of which both are known
pub among_is : (found ns others imports accepts : List (List ℕ)) → found ≡ filter (λ n. has_name n others) ns → ns ≡ imports → others ≡ accepts → found ≡ filter (λ n. has_name n accepts) imports
among_is found ns others imports accepts is same known =
    is ∙ ap (λ l. filter (λ n. has_name n others) l) same ∙ ap (λ l. filter (λ n. has_name n l) imports) known

-- an analysis by its parts
abbrev analysis : List (List ℕ) → List (List ℕ) → Bool → List (List ℕ) → Bool → Analysis
analysis imports exports own accepted declined = record {
  imports = imports;
  exports = exports;
  self_accepts = own;
  accepted = accepted;
  declined = declined;
}

-- what is shown, by its parts
pub shown_is : (name text : List ℕ) (o : Outline) (ss : List ModuleSpecifier) (imports exports accepted : List (List ℕ)) (own declined : Bool) → ss ≡ o.specifiers.items → imports ≡ imports_shown name text ss → exports ≡ []
    → accepted ≡ filter (λ n. has_name n (targets relations.Accepted name text ss)) (imports_shown name text ss) → own ≡ list_any (λ a. is_itself a.accepted) o.accepts.items → declined ≡ not (length o.declines.items == 0)
    → analysis imports exports own accepted declined ≡ shown name text o
shown_is name text o ss imports exports accepted own declined same is_i is_e is_a is_o is_d =
    ap (λ x. analysis x exports own accepted declined) (is_i ∙ ap (imports_shown name text) same)
    ∙ ap (λ x. analysis (imports_shown name text o.specifiers.items) x own accepted declined) is_e
    ∙ ap (λ x. analysis (imports_shown name text o.specifiers.items) [] x accepted declined) is_o
    ∙ ap (λ x. analysis (imports_shown name text o.specifiers.items) [] (list_any (λ a. is_itself a.accepted) o.accepts.items) x declined)
    (is_a ∙ ap (λ l. filter (λ n. has_name n (targets relations.Accepted name text l)) (imports_shown name text l)) same)
    ∙ ap (analysis (imports_shown name text o.specifiers.items) [] (list_any (λ a. is_itself a.accepted) o.accepts.items)
    (filter (λ n. has_name n (targets relations.Accepted name text o.specifiers.items)) (imports_shown name text o.specifiers.items))) is_d

-- the same of a list of names as it is
pub list_on : (ns : List (List ℕ)) (i : ℕ) (n : List ℕ) (came next : List (List ℕ)) → i < length ns → n ≡ get_or ns i n → next ≡ add_import came n
    → gathered next (drop (i + 1) ns) ≡ gathered came (drop i ns)
list_on ns i n came next inside is added =
    ap (λ l. gathered l (drop (i + 1) ns)) added
    ∙ ap (λ x. gathered came (x ∷ drop (i + 1) ns)) is
    ∙ sym (at_drop_more (λ l. gathered came l) ns i n inside)

pub list_ends : (ns : List (List ℕ)) (i : ℕ) (came : List (List ℕ)) → length ns ≤ i → gathered came (drop i ns) ≡ gathered [] ns → came ≡ take 257 (firsts ns)
list_ends ns i came all holds =
    sym (at_drop_all (λ l. gathered came l) ns i all) ∙ holds ∙ same [] ns ∙ import_firsts ns
