-- Where data is given up.
use Rattle.std.specs.Prelude.{◌≡◌, ℕ, Bool, true, false, ◌∷◌, ◌++◌}
use Rattle.std.specs.List.{list_all}
use Prim.{⊥}
use Rattle.hmr_types.specs.declared.words.PlanKind.TheVariants.{Reload}
use Rattle.output_lines.specs.declared.words.InstanceFate.TheVariants.{Pruned}
use Rattle.output_lines.specs.declared.out_line.OutLine.TheVariants as line
use Rattle.core_model.specs.Names.{Name}
use Rattle.client_model.specs.Journal.{Happening, Journal, made, evaluated}
use Rattle.client_model.specs.Journal.{not_run, registered, no_host, ran}
use Rattle.client_model.specs.Journal.{dropped, ended, gave_up, gave_up_all, told}
use Rattle.client_model.specs.Runtime.{Runtime}

-- right behind it an instance of n ends, pruned
pub record IsAtPrune (n : Name) (back : Journal) : Type 0 where
  pub number : ℕ
  pub rest : Journal
  pub ends : back ≡ ended number n Pruned ∷ rest

-- it belongs to the making of an instance
abbrev pub is_making : Happening → Bool
is_making (made i) = true
is_making (evaluated k n bag e) = true
is_making (not_run k n) = true
is_making (registered k h) = true
is_making (no_host k n label) = true
is_making (ran k spot n at bag left) = false
is_making (dropped k spot) = true
is_making (ended k n fate) = false
is_making (gave_up n) = false
is_making gave_up_all = false
is_making (told l) = false

-- behind it new instances are made, and then the line of an applied reload is written
pub record IsAtReload (back : Journal) : Type 0 where
  pub making : Journal
  pub client : ℕ
  pub rest : Journal
  pub makes : list_all is_making making ≡ true
  pub applied : back ≡ making ++ told (line.Applied client Reload) ∷ rest

-- the bag of a name is given up at its prune alone, directly before its instance ends
abbrev pub BagsGoAtPrunes : Runtime → Journal → Type 0
BagsGoAtPrunes r journal =
    (front back : Journal) (n : Name) → journal ≡ front ++ gave_up n ∷ back → IsAtPrune n back

-- all bags are given up only where a reload is applied
abbrev pub AllBagsGoAtReloads : Runtime → Journal → Type 0
AllBagsGoAtReloads r journal =
    (front back : Journal) → journal ≡ front ++ gave_up_all ∷ back → IsAtReload back

-- it can't hold
abbrev pub IsRefused : Type 0 → Type 0
IsRefused Law = Law → ⊥
