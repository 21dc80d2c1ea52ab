-- What is found where a plan is applied to a page is what the definitions make of it.
use Rattle.std.proofs.Common.{◌≡◌, ℕ, suc, ◌+◌, List, length, ap, sym, ◌∙◌}
use Rattle.std.specs.Prelude.{Some, None, if◌then◌else◌, is_some, true}
use Rattle.std.specs.List.{AllZip}
use Rattle.std.proofs.Math.Path.{subst}
use Rattle.module_tree.specs.declared.tree.Module.{Module}
use Rattle.core_model.specs.Names.{Name, at, has}
use Rattle.core_model.specs.Page.{Plan}
use Rattle.core_model.specs.View.{View}
use Rattle.client_model.specs.Linking.{new_names, place_of}
use Rattle.client_model.specs.Runtime.{Runtime}
use Rattle.page_plan.specs.Numbers.{NewNumbers, new_number}
use Rattle.page_births.specs.declared.birth.Birth.{Birth}
use Rattle.page_state.specs.declared.page.Page.{Page}
use Rattle.plan_changes.specs.Changing.{AreMade, AreNumbers, IsMadeOf}
use Rattle.plan_changes.specs.Finding.{IsPageOf, IsToApply}
use Rattle.client_plan.specs.declared.under_way.Ready.{Ready}
use Rattle.plan_changes.proofs.Making.{all_births, all_named, names_made}
use Rattle.client_plan.proofs.Orders.{CountsFrom, names_once, places_count}

-- what the new instances are made from
pub made_are : {F : Type 0} (r : Runtime) (p kept : Plan) (page : Page F) (view : View) (forced : List Name) (ready : Ready) (trees : List (Name × Module)) (pairs : List (Name × Name)) (numbers : NewNumbers) (made : List Birth) → IsPageOf r page view forced
    → IsToApply r p kept ready trees pairs → AreNumbers r p numbers → AllZip (IsMadeOf kept view numbers page.live trees) ready.names.items made → AreMade r p page made
made_are r p kept page view forced ready trees pairs numbers made s t are zip =
    let zipped : AllZip (IsMadeOf kept r.page.view numbers page.live trees) (new_names p r) made =
    subst (λ ns. AllZip (IsMadeOf kept r.page.view numbers page.live trees) ns made) t.ends.names
    (subst (λ (v : View). AllZip (IsMadeOf kept v numbers page.live trees) ready.names.items made) (sym s.viewed) zip) in
    record {
      births = all_births r p kept page numbers trees s.stands t.plan t.texts are (new_names p r) made (length page.instances.items) (λ n h. h)
          (subst (λ j. CountsFrom (suc j) (λ n. suc (length r.instances) + place_of (new_names p r) n) (new_names p r)) s.stands.instances.count (places_count (suc (length r.instances)) (new_names p r) (names_once p r)))
          zipped;
      names = names_made kept r.page.view numbers page.live trees (new_names p r) made zipped;
      named = all_named r p kept page numbers trees s.stands t.plan t.texts are (new_names p r) made (λ n h. h) zipped;
      on_page = λ n none. s.on_page n (ap (λ (v : View). at v n) (sym s.viewed) ∙ none);
      loads = λ is. s.unloaded (t.loads (t.plan.kind ∙ is));
    }

-- the numbers are the plan's
pub numbers_are : (r : Runtime) (p : Plan) (names : List Name) (made : ℕ) (numbers : NewNumbers) → names ≡ new_names p r → made ≡ length r.instances
    → ((n : Name) → new_number numbers n ≡ (if has names n then Some (suc made + place_of names n) else None)) → AreNumbers r p numbers
numbers_are r p names made numbers named count are n =
    are n ∙ ap (λ ns. if has ns n then Some (suc made + place_of ns n) else None) named
    ∙ ap (λ k. if has (new_names p r) n then Some (suc k + place_of (new_names p r) n) else None) count

-- each of the names has one
pub have_number : (names : List Name) (made : ℕ) (numbers : NewNumbers) → ((n : Name) → new_number numbers n ≡ (if has names n then Some (suc made + place_of names n) else None)) → (n : Name) → has names n ≡ true → is_some (new_number numbers n) ≡ true
have_number names made numbers are n h = ap is_some (are n ∙ ap (λ b. if b then Some (suc made + place_of names n) else None) h)
