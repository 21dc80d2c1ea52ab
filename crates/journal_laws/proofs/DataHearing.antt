-- An event that is fired leaves the bag of each name that has no live instance.
use Rattle.std.proofs.Common.{◌≡◌, Bool, true, false, List, sym, ◌∙◌, refl, arith}
use Rattle.std.specs.Prelude.{reverse, ◌&&◌, None}
use Rattle.std.proofs.lemmas.List.Sorted.{IsPermutation-reverse, IsPermutation-sym, Contains-permutation, list_any-IsPermutation}
use Rattle.output_lines.specs.declared.words.FaultPlace.TheVariants as place
use Rattle.hmr_types.specs.declared.value.Value.{Value}
use Rattle.core_model.specs.Names.{Name, same_name}
use Rattle.client_model.specs.Language.{Language}
use Rattle.client_model.specs.Instance.{Instance, is_live, accepts_dep}
use Rattle.client_model.specs.Runtime.{Runtime, bag_of}
use Rattle.client_model.specs.Applying.{live_of}
use Rattle.client_model.specs.Firing.{event_arguments, hear_event, hear_all}
use Rattle.world_laws.proofs.Members.{map_in}
use Rattle.world_laws.proofs.Frames.{frame, frames, live_one, none_counted, Numbered}
use Rattle.journal_laws.proofs.DataSparing.{IsOfItsName, AreNamed, some_of, named_in, names_run_each, spares_run_each, filter_in, spares_all}
use Rattle.journal_laws.proofs.DataHanding.{some_counted}

module _ (language : Language) (event : Name) (value : Value) where
  hearing : IsOfItsName (hear_event language event value)
  hearing = record {
    names = λ i r. names_run_each language place.Dep (event_arguments event value) (accepts_dep event) i.number r;
    spares = λ n i r e apart. spares_run_each language place.Dep (event_arguments event value) n (accepts_dep event) i.number i.name r e apart;
  }

  module _ (n : Name) (r : Runtime) (d : Numbered (frames r.instances)) (gone : live_one (frames r.instances) n ≡ None) where
    abbrev lives : List Instance
    lives = live_of (λ m. true) r

    named : AreNamed (frames r.instances) (reverse lives)
    named i c = named_in (frames r.instances) d (frame i) (map_in frame r.instances i (filter_in (λ j. is_live j && true) r.instances i (Contains-permutation (reverse lives) lives i (IsPermutation-sym lives (reverse lives) (IsPermutation-reverse lives)) c)).0)

    none_live : (b : Bool) → some_of n lives ≡ b → b ≡ false
    none_live true s = absurd (omega (arith, some_counted (λ m. true) n r.instances s, none_counted (frames r.instances) n gone))
    none_live false s = refl

    pub hear_spares : bag_of (hear_all language event value r).0 n ≡ bag_of r n
    hear_spares = spares_all (hear_event language event value) hearing n (reverse lives) r named (sym (list_any-IsPermutation (λ (i : Instance). same_name i.name n) lives (reverse lives) (IsPermutation-reverse lives)) ∙ none_live (some_of n lives) refl)
