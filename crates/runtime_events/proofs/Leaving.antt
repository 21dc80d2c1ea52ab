-- What is live stays so while an event is heard, and ends where modules leave the page.
use Rattle.std.proofs.Common.{◌≡◌, Bool, true, false, List, [], ◌∷◌, refl, ap, sym, ◌∙◌, reverse}
use Rattle.std.specs.Prelude.{not, Option, Some, None, if◌then◌else◌}
use Rattle.std.proofs.lemmas.Option.{none-some}
use Rattle.hmr_types.specs.declared.value.Value.{Value}
use Rattle.output_lines.specs.declared.words.FaultPlace.TheVariants as place
use Rattle.output_lines.specs.declared.words.InstanceFate.TheVariants.{Pruned}
use Rattle.core_model.specs.Names.{Name, same_name, has, at, without_all}
use Rattle.core_model.proofs.Naming.{same_true}
use Rattle.core_model.proofs.Tables.{both_ways, filtered_row, without_step}
use Rattle.client_model.specs.Applying.{live_of, prune_instance}
use Rattle.client_model.specs.Firing.{hear_all}
use Rattle.client_model.specs.Instance.{Instance, disposes, is_held, live_at, prunes}
use Rattle.client_model.specs.Linking.{number_in}
use Rattle.client_model.specs.Running.{drop_each, end_instance, give_up_bag, no_arguments, run_each}
use Rattle.client_model.specs.Runtime.{Did, Runtime}
use Rattle.client_model.proofs.Acts.{handled_hear, handled_run_each}
use Rattle.module_language.specs.ModuleLanguage.{module_language}
use Rattle.live_instances.specs.Orderly.{without_number}
use Rattle.page_ends.proofs.Gone.{KeepsLive, Loses, drop_keeps, end_loses, handled_keeps}

-- what hears an event stays live
pub heard_live : (event : Name) (value : Value) (r : Runtime) (n : Name) → number_in (live_at (hear_all module_language event value r).0.instances n) ≡ number_in (live_at r.instances n)
heard_live event value r n =
    let keeps : KeepsLive r (hear_all module_language event value r) = handled_hear module_language KeepsLive handled_keeps event value (reverse (live_of (λ m. true) r)) r in
    keeps.live n

-- what is pruned is live no more, and all else stays so
pub prune_loses : (i : Instance) (r : Runtime) → Loses i.number r (prune_instance module_language i r)
prune_loses i r =
    let dispose : Did = run_each module_language place.Dispose no_arguments disposes i.number r in
    let prune : Did = run_each module_language place.Prune no_arguments prunes i.number dispose.0 in
    let drop : Did = drop_each is_held i.number prune.0 in
    let bag : Did = give_up_bag i.name drop.0 in
    let one : KeepsLive r dispose = handled_run_each module_language KeepsLive handled_keeps place.Dispose no_arguments (λ s h. refl) disposes i.number r in
    let two : KeepsLive dispose.0 prune = handled_run_each module_language KeepsLive handled_keeps place.Prune no_arguments (λ s h. refl) prunes i.number dispose.0 in
    let three : KeepsLive prune.0 drop = drop_keeps is_held i.number prune.0 in
    let four : Loses i.number bag.0 (end_instance Pruned i.number i.name bag.0) = end_loses Pruned refl i.number i.name bag.0 in
    record {
      order = λ o. four.order (three.order (two.order (one.order o)));
      live = λ o n. four.live (three.order (two.order (one.order o))) n ∙ ap (without_number i.number) (three.live n ∙ two.live n ∙ one.live n);
    }

module _ {X : Type 0} where
  -- the entries of other names than these, looked up
  at_rest : (names : List Name) (rows : List (Name × X)) (m : Name) → at (without_all names rows) m ≡ (if has names m then None else at rows m)
  at_rest names [] m = both_ways (has names m) None
  at_rest names (row ∷ rows) m = filtered_row (not (has names row.0)) row (without_all names rows) m
      ∙ without_step (has names row.0) (same_name row.0 m) (has names m) row.1 (at rows m) (at (without_all names rows) m) (λ e. ap (has names) (same_true row.0 m e)) (at_rest names rows m)

  some_left : (b : Bool) (o : Option X) (x : X) → (if b then None else o) ≡ Some x → o ≡ Some x
  some_left true o x e = absurd (none-some x e)
  some_left false o x e = e

  none_left : {P : Type 0} (b : Bool) (o : Option X) → (if b then None else o) ≡ None → (b ≡ true → P) → (o ≡ None → P) → P
  none_left true o e f g = f refl
  none_left false o e f g = g e

  -- what is left was there
  pub was_there : (names : List Name) (rows : List (Name × X)) (m : Name) (x : X) → at (without_all names rows) m ≡ Some x → at rows m ≡ Some x
  was_there names rows m x e = some_left (has names m) (at rows m) x (sym (at_rest names rows m) ∙ e)

  -- what isn't left is one of the names, or wasn't there
  pub not_left : {P : Type 0} (names : List Name) (rows : List (Name × X)) (m : Name) → at (without_all names rows) m ≡ None → (has names m ≡ true → P) → (at rows m ≡ None → P) → P
  not_left names rows m e f g = none_left (has names m) (at rows m) (sym (at_rest names rows m) ∙ e) f g
