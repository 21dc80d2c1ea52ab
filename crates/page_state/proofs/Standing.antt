-- A page after one instance of it changed, or the bag of one name.
use Rattle.std.proofs.Common.{◌≡◌, ℕ, suc, Bool, true, false, List, [], ◌∷◌, ◌++◌, map, refl, ap, sym, ◌∙◌}
use Rattle.std.specs.Prelude.{◌==◌, Option, Some, None, option_map, if◌then◌else◌, slice_get, slice_set, bytes_eq}
use Rattle.std.proofs.Math.Path.{subst}
use Rattle.std.proofs.lemmas.Bool.{eqb-true, eq-eqb, false≢true}
use Rattle.std.proofs.lemmas.List.{append-nil}
use Rattle.std.specs.Cmp.Lexicographic.{nat_list_eq_equiv}
use Rattle.output_lines.specs.declared.out_line.OutLine.{OutLine}
use Rattle.output_lines.specs.declared.words.InstanceFate.{InstanceFate}
use Rattle.core_model.specs.Names.{Name, same_name, at}
use Rattle.core_model.proofs.Tables.{at_without}
use Rattle.client_model.proofs.Bagging.{no_bag}
use Rattle.client_model.specs.Instance as model
use Rattle.client_model.specs.Instance.{numbered, live_at, with_change, with_dropped, places_of, is_live_fate}
use Rattle.client_model.specs.Journal.{dropped, lines_of_all, fate_lines}
use Rattle.client_model.specs.Runtime.{Runtime, bag_of, bag_or_empty}
use Rattle.client_model.specs.Running as running
use Rattle.client_model.specs.Running.{drop_each, end_instance, give_up_bag}
use Rattle.retained_data.specs.Bags as kept
use Rattle.page_instances.specs.declared.instance.Instance.{Instance}
use Rattle.page_instances.specs.Seeing.{Sees}
use Rattle.page_state.specs.declared.page.Page.{Page}
use Rattle.page_state.specs.Live.{number_of, LosesNumber}
use Rattle.page_state.specs.Settling.{kept_by, live_in, version_in}
use Rattle.page_state.specs.Standing.{BothOrNone, Matches, StandsFor, Follows, name_at, invalidation_as}
use Rattle.handler_table.specs.Shelf.{marks_of}
use Rattle.page_state.proofs.Matching.{Found, found, set_same, set_other, matches_changed, matches_ended}
use Rattle.live_instances.proofs.Order.{by_number, live_is}

-- the instance of a place was set; live numbers and bags may differ too
pub record SetAt {F : Type 0} (place : ℕ) (p q : Page F) (c d : Instance F) : Type 0 where
  pub client : q.client ≡ p.client
  pub unsent : q.unsent.items ≡ p.unsent.items
  pub shelf : q.shelf ≡ p.shelf
  pub there : slice_get p.instances.items place ≡ Some c
  pub set : q.instances.items ≡ slice_set p.instances.items place d
  pub name : d.name ≡ c.name

module _ {F : Type 0} where
  -- names stay at their places
  pub names_at : (place : ℕ) (cs : List (Instance F)) (c d : Instance F) → slice_get cs place ≡ Some c → d.name ≡ c.name
      → (k : ℕ) → option_map (λ x. x.name) (slice_get (slice_set cs place d) k) ≡ option_map (λ x. x.name) (slice_get cs k)
  names_at place cs c d there name k = by (place == k) refl
    where
      by : (b : Bool) → (place == k) ≡ b → option_map (λ x. x.name) (slice_get (slice_set cs place d) k) ≡ option_map (λ x. x.name) (slice_get cs k)
      by true e = subst (λ j. option_map (λ x. x.name) (slice_get (slice_set cs place d) j) ≡ option_map (λ x. x.name) (slice_get cs j)) (eqb-true place k e)
          (ap (option_map (λ x. x.name)) (set_same cs place d c there) ∙ ap Some name ∙ sym (ap (option_map (λ x. x.name)) there))
      by false e = ap (option_map (λ x. x.name)) (set_other cs place k d (λ same. false≢true (sym e ∙ eq-eqb place k same)))

  pub names_set : (place : ℕ) (p q : Page F) (c d : Instance F) → SetAt place p q c d → (k : ℕ) (n : Name) → name_at p k ≡ Some n → name_at q k ≡ Some n
  names_set place p q c d sets k n e = ap (λ cs. option_map (λ x. x.name) (slice_get cs k)) sets.set ∙ names_at place p.instances.items c d sets.there sets.name k ∙ e

  -- what is live under a name is seen as what the model has there
  pub live_seen : (r : Runtime) (p : Page F) → StandsFor r p → (n : Name) → BothOrNone (live_at r.instances n) (live_in p n)
  live_seen r p s n =
      subst (λ o. BothOrNone o (live_in p n)) (sym (live_is n r.instances s.instances.orderly.numbers))
      (subst (λ k. BothOrNone (by_number r.instances k) (live_in p n)) (sym (s.instances.by_name n)) (by (number_of p.live n)))
    where
      by : (k : Option ℕ) → BothOrNone (by_number r.instances k) (kept_by p.instances.items k)
      by None = tt
      by (Some k) = s.instances.by_number k

  both_versions : (o : Option model.Instance) (c : Option (Instance F)) → BothOrNone o c → running.version_in o ≡ version_in c
  both_versions None None b = refl
  both_versions None (Some c) b = absurd b
  both_versions (Some i) None b = absurd b
  both_versions (Some i) (Some c) b = b.version

  pub version_seen : (r : Runtime) (p : Page F) → StandsFor r p → (n : Name) → running.version_in (live_at r.instances n) ≡ version_in (live_in p n)
  version_seen r p s n = both_versions (live_at r.instances n) (live_in p n) (live_seen r p s n)

  -- handlers of one instance are dropped
  pub drops_follow : (test : model.Handler → Bool) (place : ℕ) (p q : Page F) (c d : Instance F) (lines : List OutLine)
      → SetAt place p q c d → q.live ≡ p.live → q.bags ≡ p.bags
      → ((i : model.Instance) → Sees i c → Sees (record i { handlers = with_dropped test i.handlers }) d)
      → Follows (drop_each test (suc place)) p q lines lines
  drops_follow test place p q c d lines sets live bags sees = record {
    client = sets.client;
    names = names_set place p q c d sets;
    elsewhere = λ r s. refl;
    stands = λ r s.
        let f : Found r.instances (suc place) c = found r.instances p.instances.items p.live place c sets.there s.instances in
        record {
          client = s.client ∙ sym sets.client;
          instances = subst (λ cs. Matches (after r.instances) cs q.live) (sym sets.set) (subst (λ l. Matches (after r.instances) (slice_set p.instances.items place d) l) (sym live)
              (matches_changed (λ i. record i { handlers = with_dropped test i.handlers }) place r.instances p.instances.items c d f.instance sets.there f.there (sees f.instance f.sees) (record { number = λ i. refl; name = λ i. refl; fate = λ i. refl }) p.live s.instances));
          bags = λ n. s.bags n ∙ ap (λ b. kept.bag_of b n) (sym bags);
          unsent = s.unsent ∙ ap (map invalidation_as) (sym sets.unsent);
          shelf = s.shelf ∙ ap marks_of (sym sets.shelf);
        };
    lines = λ r s. sym (append-nil lines) ∙ ap (λ ls. lines ++ ls) (sym (silent p.client (suc place) (places_of test (numbered r.instances (suc place)))));
  }
    where
      after : List model.Instance → List model.Instance
      after is = with_change (suc place) (λ i. record i { handlers = with_dropped test i.handlers }) is

      silent : (client k : ℕ) (places : List ℕ) → lines_of_all client (map (dropped k) places) ≡ []
      silent client k [] = refl
      silent client k (p ∷ places) = silent client k places

  -- an instance gets its fate
  pub end_follows : (fate : InstanceFate) → is_live_fate fate ≡ false → (place : ℕ) (n : Name) (p q : Page F) (c d : Instance F) (told : List OutLine)
      → SetAt place p q c d → LosesNumber c.name (suc place) p.live q.live → q.bags ≡ p.bags
      → ((i : model.Instance) → Sees i c → Sees (record i { fate = fate }) d)
      → Follows (end_instance fate (suc place) n) p q told (told ++ fate_lines p.client n fate)
  end_follows fate dead place n p q c d told sets loses bags sees = record {
    client = sets.client;
    names = names_set place p q c d sets;
    elsewhere = λ r s. refl;
    stands = λ r s.
        let f : Found r.instances (suc place) c = found r.instances p.instances.items p.live place c sets.there s.instances in
        record {
          client = s.client ∙ sym sets.client;
          instances = subst (λ cs. Matches (after r.instances) cs q.live) (sym sets.set)
              (matches_ended (λ i. record i { fate = fate }) place r.instances p.instances.items c d f.instance sets.there f.there (sees f.instance f.sees) (record { number = λ i. refl; name = λ i. refl; dead = λ i. dead }) p.live q.live f.sees.name loses s.instances);
          bags = λ m. s.bags m ∙ ap (λ b. kept.bag_of b m) (sym bags);
          unsent = s.unsent ∙ ap (map invalidation_as) (sym sets.unsent);
          shelf = s.shelf ∙ ap marks_of (sym sets.shelf);
        };
    lines = λ r s. ap (λ ls. told ++ ls) (sym (append-nil (fate_lines p.client n fate)));
  }
    where
      after : List model.Instance → List model.Instance
      after is = with_change (suc place) (λ i. record i { fate = fate }) is

  -- the bag of a name is given up
  pub give_up_follows : (n : Name) (p q : Page F) (lines : List OutLine) → q ≡ record p { bags = q.bags } → kept.HasBag n [] p.bags q.bags → Follows (give_up_bag n) p q lines lines
  give_up_follows n p q lines same has = record {
    client = ap (λ x. x.client) same;
    names = λ k m e. ap (λ x. name_at x k) same ∙ e;
    elsewhere = λ r s. refl;
    stands = λ r s. record {
      client = s.client ∙ sym (ap (λ x. x.client) same);
      instances = subst (λ x. Matches r.instances x.instances.items x.live) (sym same) s.instances;
      bags = λ m. ap bag_or_empty (at_without n r.bags m) ∙ no_bag (same_name n m) (at r.bags m) ∙ ap (λ b. if b then [] else bag_of r m) (nat_list_eq_equiv.symm n m) ∙ ap (λ b. if bytes_eq m n then [] else b) (s.bags m) ∙ sym (has m);
      unsent = s.unsent ∙ ap (λ x. map invalidation_as x.unsent.items) (sym same);
      shelf = s.shelf ∙ ap (λ x. marks_of x.shelf) (sym same);
    };
    lines = λ r s. sym (append-nil lines);
  }
