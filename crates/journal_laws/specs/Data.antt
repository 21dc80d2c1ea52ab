-- What of a module's data reaches which instance.
use Rattle.std.specs.Prelude.{◌≡◌, ℕ, ◌==◌, Bool, false, ◌&&◌, [], ◌∷◌, ◌++◌, fold, Option, Some, None}
use Rattle.std.specs.Prelude.{if◌then◌else◌}
use Rattle.std.specs.List.{list_any}
use Rattle.output_lines.specs.declared.words.FaultPlace.{FaultPlace}
use Rattle.output_lines.specs.declared.words.InstanceFate.{InstanceFate}
use Rattle.output_lines.specs.declared.words.InstanceFate.TheVariants.{Live, Replaced, Pruned, Reloaded}
use Rattle.core_model.specs.Names.{Name, same_name}
use Rattle.client_model.specs.Language.{Bag, Evaluated, Ran}
use Rattle.client_model.specs.Instance.{live_at}
use Rattle.client_model.specs.Journal.{Happening, Journal, made, evaluated}
use Rattle.client_model.specs.Journal.{not_run, registered, no_host, ran}
use Rattle.client_model.specs.Journal.{dropped, ended, gave_up, gave_up_all, told, bag_left}
use Rattle.client_model.specs.Runtime.{Runtime, bag_of}
use Rattle.journal_laws.specs.Counts.{is_dispose_place}

-- each evaluation of a name starts with the bag that what happened before left
abbrev pub EvaluationsStartRight : Runtime → Journal → Type 0
EvaluationsStartRight r journal =
    (front back : Journal) (k : ℕ) (n : Name) (before : Bag) (e : Evaluated) →
    journal ≡ front ++ evaluated k n before e ∷ back → before ≡ bag_left front n

-- and so does each run of a handler
abbrev pub RunsStartRight : Runtime → Journal → Type 0
RunsStartRight r journal =
    (front back : Journal) (k spot : ℕ) (n : Name) (at : FaultPlace) (before : Bag) (left : Ran) →
    journal ≡ front ++ ran k spot n at before left ∷ back → before ≡ bag_left front n

-- replaced by this number
abbrev pub is_replaced_by : ℕ → InstanceFate → Bool
is_replaced_by k Live = false
is_replaced_by k (Replaced j) = j == k
is_replaced_by k Pruned = false
is_replaced_by k Reloaded = false

-- an instance of n is replaced by instance k
abbrev pub is_succeeded_by : ℕ → Name → Happening → Bool
is_succeeded_by k n (made i) = false
is_succeeded_by k n (evaluated j m bag e) = false
is_succeeded_by k n (not_run j m) = false
is_succeeded_by k n (registered j h) = false
is_succeeded_by k n (no_host j m label) = false
is_succeeded_by k n (ran j s m at bag left) = false
is_succeeded_by k n (dropped j s) = false
is_succeeded_by k n (ended j m fate) = same_name m n && is_replaced_by k fate
is_succeeded_by k n (gave_up m) = false
is_succeeded_by k n gave_up_all = false
is_succeeded_by k n (told l) = false

-- an instance that replaces none starts with the empty bag: its name is new, or was pruned or reloaded
abbrev pub OthersInheritNothing : Runtime → Journal → Type 0
OthersInheritNothing r journal =
    (front back : Journal) (k : ℕ) (n : Name) (before : Bag) (e : Evaluated) →
    journal ≡ front ++ evaluated k n before e ∷ back → list_any (is_succeeded_by k n) front ≡ false →
    before ≡ []

-- one that replaces another starts with what was left when that one ended: what its disposer left
abbrev pub SuccessorsInherit : Runtime → Journal → Type 0
SuccessorsInherit r journal =
    (front middle back : Journal) (j k : ℕ) (n : Name) (before : Bag) (e : Evaluated) →
    journal ≡ front ++ ended j n (Replaced k) ∷ (middle ++ evaluated k n before e ∷ back) →
    before ≡ bag_left front n

-- a name without a live instance has no data
abbrev pub NoneIsLeft : Runtime → Journal → Type 0
NoneIsLeft r journal = (n : Name) → live_at r.instances n ≡ None → bag_of r n ≡ []

-- what the last run of a disposer of instance k left of the bag, after one thing more happened
abbrev pub disposed_after : ℕ → Option Bag → Happening → Option Bag
disposed_after k last (made i) = last
disposed_after k last (evaluated j n bag e) = last
disposed_after k last (not_run j n) = last
disposed_after k last (registered j h) = last
disposed_after k last (no_host j n label) = last
disposed_after k last (ran j s n at bag left) =
    if (j == k) && is_dispose_place at then Some left.bag else last
disposed_after k last (dropped j s) = last
disposed_after k last (ended j n fate) = last
disposed_after k last (gave_up n) = last
disposed_after k last gave_up_all = last
disposed_after k last (told l) = last

-- what it left after all that happened; none where no disposer of the instance ran
abbrev pub disposed_left : Journal → ℕ → Option Bag
disposed_left journal k = fold (disposed_after k) None journal

-- where a disposer of an instance ran and a later instance took its place, that one starts with what the
-- run left
abbrev pub DisposersHandOn : Runtime → Journal → Type 0
DisposersHandOn r journal =
    (front middle back : Journal) (j k : ℕ) (n : Name) (left before : Bag) (e : Evaluated) →
    journal ≡ front ++ ended j n (Replaced k) ∷ (middle ++ evaluated k n before e ∷ back) →
    disposed_left front j ≡ Some left → before ≡ left
