-- Deeds for each of the instances that the model means: those of some names, those that are replaced, and
-- all of them, whose data is given up.
use Rattle.std.proofs.Common.{◌≡◌, ℕ, Bool, true, false, List, [], ◌∷◌, ◌++◌, map, refl, ap, sym, ◌∙◌}
use Rattle.std.specs.Prelude.{◌&&◌, cond, filter, Option}
use Rattle.std.proofs.lemmas.Bool.{false≢true}
use Rattle.std.proofs.lemmas.List.{append-nil}
use Rattle.std.proofs.Math.Path.{subst}
use Rattle.output_lines.specs.declared.out_line.OutLine.{OutLine}
use Rattle.output_lines.specs.declared.words.FaultPlace.TheVariants as place
use Rattle.module_semantics.specs.Entries as entries
use Rattle.core_model.specs.Names.{Name, has}
use Rattle.client_model.specs.Applying.{live_of, replace_instance, give_up_all_bags, is_left_behind, fate_by}
use Rattle.client_model.specs.Instance.{Instance, is_live, disposes}
use Rattle.client_model.specs.Runtime.{Runtime, Did, and_then, for_each}
use Rattle.client_model.specs.Running.{run_each, drop_each, end_instance, no_arguments}
use Rattle.module_language.specs.ModuleLanguage.{module_language}
use Rattle.retained_data.specs.Bags as kept
use Rattle.page_state.specs.declared.page.Page.{Page}
use Rattle.page_state.specs.Standing.{Matches, Follows, name_at, invalidation_as}
use Rattle.page_plan.specs.Numbers.{NewNumbers, new_number}
use Rattle.handler_table.specs.Shelf.{marks_of}
use Rattle.page_ends.specs.Each.{IsReplacing}
use Rattle.page_state.proofs.Following.{follows_as}

-- live instances whose names pass the test
abbrev meant : (Name → Bool) → List Instance → List Instance
meant test is = filter (λ i. is_live i && test i.name) is

-- the same names, the same instances
pub live_of_as : (s t : Name → Bool) → ((n : Name) → s n ≡ t n) → (r : Runtime) → live_of s r ≡ live_of t r
live_of_as s t same r = by r.instances
  where
    by : (is : List Instance) → meant s is ≡ meant t is
    by [] = refl
    by (i ∷ is) = ap (λ b. cond (is_live i && b) (i ∷ meant s is) (meant s is)) (same i.name) ∙ ap (λ js. cond (is_live i && t i.name) (i ∷ js) js) (by is)

module _ (one two : Name → Option ℕ) (test : Name → Bool) (agree : (n : Name) → test n ≡ true → one n ≡ two n) where
  one_as : (i : Instance) → test i.name ≡ true → (r : Runtime) → replace_instance module_language one i r ≡ replace_instance module_language two i r
  one_as i t r = ap (λ o. and_then (and_then (run_each module_language place.Dispose no_arguments disposes i.number r) (drop_each is_left_behind i.number)) (end_instance (fate_by o) i.number i.name)) (agree i.name t)

  its : (a b : Bool) → (a && b) ≡ true → b ≡ true
  its true b t = t
  its false b t = absurd (false≢true t)

  -- numbers that are the same for the names that are replaced
  replaced_as : (is : List Instance) (r : Runtime) → for_each (replace_instance module_language one) (meant test is) r ≡ for_each (replace_instance module_language two) (meant test is) r
  replaced_as [] r = refl
  replaced_as (i ∷ is) r = by (is_live i && test i.name) refl (replaced_as is)
    where
      by : (b : Bool) → (is_live i && test i.name) ≡ b → ((r : Runtime) → for_each (replace_instance module_language one) (meant test is) r ≡ for_each (replace_instance module_language two) (meant test is) r)
          → for_each (replace_instance module_language one) (cond b (i ∷ meant test is) (meant test is)) r ≡ for_each (replace_instance module_language two) (cond b (i ∷ meant test is) (meant test is)) r
      by true t rest = ap (λ did. and_then did (for_each (replace_instance module_language one) (meant test is))) (one_as i (its (is_live i) (test i.name) t) r)
          ∙ ap {A = Did} (λ more. (more.0, (replace_instance module_language two i r).1 ++ more.1)) (rest (replace_instance module_language two i r).0)
      by false t rest = rest r

no_bag : (n : Name) → [] ≡ kept.bag_of [] n
unfolding entries.entry_at
no_bag n = refl

module _ {F : Type 0} where
  pub replacing_follows : (replaced : List Name) (numbers : NewNumbers) (p q : Page F) (number : Runtime → Name → Option ℕ) (test : Runtime → Name → Bool) (told tells : List OutLine) → IsReplacing replaced numbers p number test
      → Follows (λ r. for_each (replace_instance module_language (new_number numbers)) (live_of (has replaced) r) r) p q told tells
      → Follows (λ r. for_each (replace_instance module_language (number r)) (live_of (test r) r) r) p q told tells
  replacing_follows replaced numbers p q number test told tells is f = follows_as (λ r. for_each (replace_instance module_language (new_number numbers)) (live_of (has replaced) r) r)
      (λ r. for_each (replace_instance module_language (number r)) (live_of (test r) r) r) p q told tells
      (λ r s. replaced_as (new_number numbers) (number r) (has replaced) (λ n t. sym ((is r s n).1 t)) r.instances r
      ∙ ap (λ js. for_each (replace_instance module_language (number r)) js r) (live_of_as (has replaced) (test r) (λ n. sym ((is r s n).0)) r)) f

  -- all data is given up
  pub give_up_all_follows : (p q : Page F) (lines : List OutLine) → q ≡ record p { bags = q.bags } → q.bags ≡ [] → Follows give_up_all_bags p q lines lines
  give_up_all_follows p q lines same none = record {
    client = ap (λ x. x.client) same;
    names = λ k m e. ap (λ x. name_at x k) same ∙ e;
    elsewhere = λ r s. refl;
    stands = λ r s. record {
      client = s.client ∙ sym (ap (λ x. x.client) same);
      instances = subst (λ x. Matches r.instances x.instances.items x.live) (sym same) s.instances;
      bags = λ n. no_bag n ∙ ap (λ rows. kept.bag_of rows n) (sym none);
      unsent = s.unsent ∙ ap (λ x. map invalidation_as x.unsent.items) (sym same);
      shelf = s.shelf ∙ ap (λ x. marks_of x.shelf) (sym same);
    };
    lines = λ r s. sym (append-nil lines);
  }
