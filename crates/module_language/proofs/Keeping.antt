-- Each bag that a client of the module language keeps is a bag, whatever came to it.
use Rattle.std.proofs.Common.{◌≡◌, Bool, true, false, List, [], ◌∷◌, refl, ap, ◌∙◌}
use Rattle.std.specs.Prelude.{reverse, Option, None, if◌then◌else◌}
use Rattle.core_model.specs.Names.{Name, same_name, at, with_row, without}
use Rattle.core_model.proofs.Tables.{at_without}
use Rattle.module_semantics.specs.Entries.{is_bag}
use Rattle.client_model.specs.Language.{Bag, Slots}
use Rattle.client_model.specs.Instance.{Deed, code, host}
use Rattle.client_model.specs.Runtime.{Runtime, Opening, Did, bag_or_empty, bag_of}
use Rattle.client_model.specs.Running.{scope_of, run_deed}
use Rattle.client_model.specs.Making.{Birth, make, evaluate}
use Rattle.client_model.specs.Linking.{new_names}
use Rattle.client_model.specs.Applying.{births, end_old, live_of}
use Rattle.client_model.specs.Past.{Past, runtime_after}
use Rattle.client_model.proofs.Acts.{IsHandled, IsWalked, by_make, handled_each, handled_hear, walked_applying, walked_pruning}
use Rattle.client_model.proofs.Bagging.{bag_put}
use Rattle.client_model.proofs.Takes.{IsTaken, met_does}
use Rattle.module_language.specs.ModuleLanguage.{module_language}
use Rattle.module_language.proofs.Leaving.{evaluated_bag, ran_bag, hosted_bag}

abbrev AreBags : Runtime → Type 0
AreBags r = (n : Name) → is_bag (bag_of r n) ≡ true

-- what is done leaves bags
abbrev Leaves : Runtime → Did → Type 0
Leaves r did = AreBags r → AreBags did.0

put_bag : (m : Name) (bag : Bag) (r : Runtime) → is_bag bag ≡ true → AreBags r → (n : Name) → is_bag (bag_or_empty (at (with_row m bag r.bags) n)) ≡ true
put_bag m bag r h are n = ap is_bag (bag_put m bag r.bags n) ∙ by (same_name m n)
  where
    by : (b : Bool) → is_bag (if b then bag else bag_of r n) ≡ true
    by true = h
    by false = are n

given_up : (m : Name) (r : Runtime) → AreBags r → (n : Name) → is_bag (bag_or_empty (at (without m r.bags) n)) ≡ true
given_up m r are n = ap (λ o. is_bag (bag_or_empty o)) (at_without m r.bags n) ∙ by (same_name m n)
  where
    by : (b : Bool) → is_bag (bag_or_empty (if b then None else at r.bags n)) ≡ true
    by true = refl
    by false = are n

deed_bag : (deed : Deed) (scope : Slots) (arguments : List (Option Slots)) (bag : Bag) → is_bag bag ≡ true → is_bag (run_deed module_language deed scope arguments bag).bag ≡ true
deed_bag (code tree) scope arguments bag h = ran_bag tree scope arguments bag h
deed_bag (host label number) scope arguments bag h = hosted_bag label number bag h

leaves_made : (b : Birth) (r : Runtime) → Leaves r (make module_language b r)
leaves_made b r = by_make (Leaves r) module_language b r (λ are. are)
    (λ are. put_bag b.name (evaluate module_language b r).bag r (evaluated_bag b.name b.text _ (bag_of r b.name) (are b.name)) are)

handled : IsHandled module_language Leaves
handled = record {
  nothing = λ r are. are;
  after = λ r did next first more are. more (first are);
  run = λ spent_at k i spot h arguments r is stands takes are. put_bag i.name (run_deed module_language h.deed (scope_of module_language r i) arguments (bag_of r i.name)).bag r (deed_bag h.deed (scope_of module_language r i) arguments (bag_of r i.name) (are i.name)) are;
  drop = λ test k r are. are;
  wrote = λ l r are. are;
}

walked : IsWalked module_language Leaves
walked = record { handled = handled; end = λ fate k m r are. are; give_up = λ m r are. given_up m r are; give_up_all = λ r are n. refl }

taken : IsTaken module_language Leaves
taken = record {
  quiet = λ r did q are n. ap (λ bags. is_bag (bag_or_empty (at bags n))) q.bags ∙ are n;
  prunes = λ names r none loaded are. walked_pruning module_language Leaves walked names r are;
  applies = λ p r e due counted are. walked_applying module_language Leaves walked p r (handled_each module_language Leaves handled (make module_language) leaves_made (births (new_names p r) p r) (end_old p.kind module_language p r).0) are;
  hears = λ n value r loaded idle are. handled_hear module_language Leaves handled n value (reverse (live_of (λ n. true) r)) r are;
}

pub bags_are_bags : (opening : Opening) (past : Past) (n : Name) → is_bag (bag_of (runtime_after module_language opening past) n) ≡ true
bags_are_bags opening [] n = refl
bags_are_bags opening (came ∷ past) n = met_does module_language Leaves taken (runtime_after module_language opening past) came (bags_are_bags opening past) n
