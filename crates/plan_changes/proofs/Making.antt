-- What the new instances of a plan are made from is what the definitions make them from.
use Rattle.std.proofs.Common.{◌≡◌, ℕ, suc, ◌+◌, Bool, true, false, List, [], ◌∷◌, ◌++◌, length, map, refl, ap, sym, ◌∙◌}
use Rattle.std.specs.Prelude.{Option, Some, None, if◌then◌else◌}
use Rattle.std.specs.List.{AllZip, cons_option}
use Rattle.std.specs.Option.{option_map, option_or}
use Rattle.std.proofs.lemmas.Bool.{false≢true}
use Rattle.std.proofs.lemmas.Option.{none-some, same_Some}
use Rattle.module_tree.specs.Tree.{module_of}
use Rattle.module_tree.specs.declared.tree.Module.{Module}
use Rattle.module_semantics.specs.ModuleText.{parsing}
use Rattle.core_model.specs.Names.{Name, at, has}
use Rattle.core_model.specs.Page.{Plan, entry_at}
use Rattle.core_model.specs.Sources.{Text}
use Rattle.core_model.specs.View.{Entry}
use Rattle.core_model.proofs.Naming.{head_has, tail_has}
use Rattle.client_model.specs.Applying.{birth_of, births}
use Rattle.client_model.specs.Instance.{live_at}
use Rattle.client_model.specs.Linking.{link_to, links_after, new_names, number_after, number_in, place_of}
use Rattle.client_model.specs.Runtime.{Runtime}
use Rattle.module_language.specs.ModuleLanguage.{module_in}
use Rattle.page_plan.specs.Numbers.{NewNumbers}
use Rattle.page_plan.specs.Plans.{IsSamePlan}
use Rattle.page_plan.proofs.Same.{entry_same}
use Rattle.page_births.specs.declared.birth.Birth.{Birth}
use Rattle.page_state.specs.declared.page.Page.{Page}
use Rattle.page_births.specs.EachBirth.{AreBirths, AreNew}
use Rattle.page_state.specs.Live.{Numbers, number_of}
use Rattle.page_state.specs.Standing.{StandsFor}
use Rattle.plan_changes.specs.Changing.{AreNumbers, IsMadeOf, links_by, number_then}
use Rattle.client_plan.specs.UnderWay.{HasTrees}
use Rattle.client_plan.proofs.Orders.{CountsFrom, Distinct}

by_number : (b : Bool) (k : ℕ) (now o : Option ℕ) → now ≡ o → option_or (if b then Some k else None) now ≡ (if b then Some k else o)
by_number true k now o e = refl
by_number false k now o e = e

has_number : (b : Bool) (k : ℕ) (o : Option ℕ) → b ≡ true → (if b then Some k else o) ≡ Some k
has_number true k o e = refl
has_number false k o e = absurd (false≢true e)

-- the names of what is made
pub names_made : (p : Plan) (view : _) (numbers : NewNumbers) (now : Numbers) (trees : List (Name × Module)) (names : List Name) (made : List Birth) → AllZip (IsMadeOf p view numbers now trees) names made → map (λ b. b.name) made ≡ names
names_made p view numbers now trees [] [] zip = refl
names_made p view numbers now trees [] (b ∷ made) zip = absurd zip
names_made p view numbers now trees (n ∷ names) [] zip = absurd zip
names_made p view numbers now trees (n ∷ names) (b ∷ made) zip = ap (λ m. m ∷ map (λ b. b.name) made) zip.0.name ∙ ap (λ ms. n ∷ ms) (names_made p view numbers now trees names made zip.1)

-- names of which none is live, each once, are new
pub are_new : (live : Numbers) (made : List Birth) → Distinct (map (λ b. b.name) made) → ((n : Name) → has (map (λ b. b.name) made) n ≡ true → number_of live n ≡ None) → AreNew live made
are_new live [] d none = tt
are_new live (b ∷ made) d none = (
  none b.name (head_has b.name (map (λ b. b.name) made)),
  (d.0, are_new live made d.1 (λ n h. none n (tail_has b.name (map (λ b. b.name) made) n h))),
)

module _ {F : Type 0} (r : Runtime) (p q : Plan) (page : Page F) (numbers : NewNumbers) (trees : List (Name × Module)) (stands : StandsFor r page) (same : IsSamePlan p q) (texts : HasTrees r trees) (are : AreNumbers r p numbers) where
  abbrev IsOne : Name → Birth → Type 0
  IsOne = IsMadeOf q r.page.view numbers page.live trees

  then_after : (n : Name) → number_then numbers page.live n ≡ number_after p r n
  then_after n = ap (λ o. option_or o (number_of page.live n)) (are n)
      ∙ by_number (has (new_names p r) n) (suc (length r.instances) + place_of (new_names p r) n) (number_of page.live n) (number_in (live_at r.instances n)) (sym (stands.instances.by_name n))

  links_same : (imports : List Name) → links_by numbers page.live imports ≡ links_after p r imports
  links_same [] = refl
  links_same (m ∷ imports) = ap (λ o. cons_option (link_to m o) (links_by numbers page.live imports)) (then_after m)
      ∙ ap (λ ls. cons_option (link_to m (number_after p r m)) ls) (links_same imports)

  -- one of the list
  module _ (n : Name) (birth : Birth) (k : ℕ) (one : IsOne n birth) (numbered : number_after p r n ≡ Some k) where
    there : entry_at p r.page.view n ≡ Some one.entry
    there = entry_same p q r.page.view same n ∙ one.there

    read : option_map (λ t. module_in (parsing t)) (at r.texts n) ≡ Some (module_of birth.tree)
    read = texts n ∙ ap (option_map module_of) one.tree

    begins : (names : List Name) (made : List Birth) (count : ℕ) → k ≡ suc count → AreBirths F (suc count) (births names p r) made → AreBirths F count (births (n ∷ names) p r) (birth ∷ made)
    begins names made count is rest = by (entry_at p r.page.view n) (at r.texts n) (number_after p r n) there read numbered
      where
        by : (e : Option Entry) (t : Option Text) (m : Option ℕ) → e ≡ Some one.entry → option_map (λ t. module_in (parsing t)) t ≡ Some (module_of birth.tree) → m ≡ Some k
            → AreBirths F count (birth_of e t m (links_after p r) n ++ births names p r) (birth ∷ made)
        by None t m a b c = absurd (none-some one.entry a)
        by (Some e) None m a b c = absurd (none-some (module_of birth.tree) b)
        by (Some e) (Some t) None a b c = absurd (none-some k c)
        by (Some e) (Some t) (Some m) a b c =
            let its : e ≡ one.entry = same_Some e one.entry a in (
              λ at_page long. record {
                number = same_Some m k c ∙ is ∙ ap suc (sym long);
                name = sym one.name;
                version = ap (λ x. x.version) its ∙ sym one.version;
                exports = ap (λ x. x.analysis.exports) its ∙ sym one.exports;
                links = ap (λ x. links_after p r x.analysis.imports) its ∙ sym (links_same one.entry.analysis.imports) ∙ sym one.links;
                tree = same_Some (module_in (parsing t)) (module_of birth.tree) b;
              },
              rest,
            )

    named : (names : List Name) → map (λ b. b.name) (births names p r) ≡ names → map (λ b. b.name) (births (n ∷ names) p r) ≡ n ∷ names
    named names rest = by (entry_at p r.page.view n) (at r.texts n) (number_after p r n) there read numbered
      where
        by : (e : Option Entry) (t : Option Text) (m : Option ℕ) → e ≡ Some one.entry → option_map (λ t. module_in (parsing t)) t ≡ Some (module_of birth.tree) → m ≡ Some k
            → map (λ b. b.name) (birth_of e t m (links_after p r) n ++ births names p r) ≡ n ∷ names
        by None t m a b c = absurd (none-some one.entry a)
        by (Some e) None m a b c = absurd (none-some (module_of birth.tree) b)
        by (Some e) (Some t) None a b c = absurd (none-some k c)
        by (Some e) (Some t) (Some m) a b c = ap (λ ns. n ∷ ns) rest

  its_number : (n : Name) → has (new_names p r) n ≡ true → number_after p r n ≡ Some (suc (length r.instances) + place_of (new_names p r) n)
  its_number n h = has_number (has (new_names p r) n) (suc (length r.instances) + place_of (new_names p r) n) (number_in (live_at r.instances n)) h

  -- the births are the definitions'
  pub all_births : (names : List Name) (made : List Birth) (count : ℕ) → ((n : Name) → has names n ≡ true → has (new_names p r) n ≡ true)
      → CountsFrom (suc count) (λ n. suc (length r.instances) + place_of (new_names p r) n) names → AllZip IsOne names made → AreBirths F count (births names p r) made
  all_births [] [] count new counts zip = tt
  all_births [] (b ∷ made) count new counts zip = absurd zip
  all_births (n ∷ names) [] count new counts zip = absurd zip
  all_births (n ∷ names) (b ∷ made) count new counts zip =
      begins n b (suc (length r.instances) + place_of (new_names p r) n) zip.0 (its_number n (new n (head_has n names))) names made count counts.0
      (all_births names made (suc count) (λ m h. new m (tail_has n names m h)) counts.1 zip.1)

  -- and have the plan's names
  pub all_named : (names : List Name) (made : List Birth) → ((n : Name) → has names n ≡ true → has (new_names p r) n ≡ true) → AllZip IsOne names made → map (λ b. b.name) (births names p r) ≡ names
  all_named [] [] new zip = refl
  all_named [] (b ∷ made) new zip = absurd zip
  all_named (n ∷ names) [] new zip = absurd zip
  all_named (n ∷ names) (b ∷ made) new zip =
      named n b (suc (length r.instances) + place_of (new_names p r) n) zip.0 (its_number n (new n (head_has n names))) names
      (all_named names made (λ m h. new m (tail_has n names m h)) zip.1)
