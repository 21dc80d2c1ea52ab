-- A handler is run: what its run leaves of the page is what the model says.
use Rattle.std.proofs.Common.{◌≡◌, ◌<◌, ℕ, zero, suc, Bool, true, false, List, [], ◌∷◌, ◌++◌, map, drop, length, refl, ap, sym, ◌∙◌, arith}
use Rattle.std.specs.Prelude.{◌==◌, Option, Some, None, option_map, if◌then◌else◌, slice_get, slice_set, bytes_eq}
use Rattle.std.proofs.Math.Path.{subst}
use Rattle.std.proofs.lemmas.Bool.{eqb-true, eq-eqb, false≢true}
use Rattle.std.proofs.lemmas.List.{append-nil, append_assoc, map-append}
use Rattle.std.proofs.lemmas.Option.{none-some, same_Some}
use Rattle.std.specs.Cmp.Lexicographic.{nat_list_eq_equiv}
use Rattle.output_lines.specs.declared.out_line.OutLine.{OutLine}
use Rattle.output_lines.specs.declared.words.FaultPlace.{FaultPlace}
use Rattle.core_model.specs.Names.{Name, at}
use Rattle.core_model.specs.Sources.{Text}
use Rattle.client_model.proofs.Bagging.{bag_put}
use Rattle.client_model.specs.Language.{Slots, Bag, Ran, slot_at}
use Rattle.client_model.specs.Instance as model
use Rattle.client_model.specs.Instance.{numbered, live_at, with_change, with_end, places_from, places_of, is_done_status}
use Rattle.client_model.specs.Journal.{lines_of_all, log_lines, fault_lines}
use Rattle.client_model.specs.Runtime.{Runtime, Did, nothing, and_then, for_each, bag_of}
use Rattle.client_model.specs.Running as running
use Rattle.client_model.specs.Running.{end_after, invalidation, after_run, did_run, run_deed, run_handler, run_of, run_each, scope_of, export_by, module_in, module_at}
use Rattle.module_semantics.specs.declared.evaluation.ModParam.{ModParam}
use Rattle.module_language.specs.ModuleLanguage.{module_language, ran_as, argument_of}
use Rattle.handler_table.specs.Handler.{spent}
use Rattle.handler_table.specs.Shelf.{marks_of}
use Rattle.handler_table.specs.declared.handler.Handler.{Handler}
use Rattle.handler_table.specs.declared.handler.Handler.TheVariants.{Code, Host}
use Rattle.retained_data.specs.Bags as kept
use Rattle.retained_data.specs.Runs.{ran_seen}
use Rattle.retained_data.specs.declared.ran.Ran as body
use Rattle.page_instances.specs.declared.instance.Instance.{Instance}
use Rattle.page_instances.specs.Scopes.{bound_slots, scope_in}
use Rattle.page_instances.specs.Seeing.{Sees, deed_in}
use Rattle.page_instances.specs.Taking.{TakenOff}
use Rattle.page_state.specs.declared.page.Page.{Page}
use Rattle.page_state.specs.Live.{number_of}
use Rattle.page_state.specs.Settling.{Settles, left_by, live_in, kept_by, version_in, invalidated, exports_of, own_count, own_left}
use Rattle.page_state.specs.Standing.{BothOrNone, Matches, StandsFor, StaysElsewhere, Follows, name_at, invalidation_as}
use Rattle.page_state.proofs.Following.{lines_then, elsewhere_then}
use Rattle.live_instances.proofs.Order.{changed_here}
use Rattle.page_state.proofs.Matching.{Found, found, matches_changed, set_same, set_other, set_twice}
use Rattle.page_state.proofs.Reading.{bag_back, bounds_seen}
use Rattle.page_state.proofs.Standing.{names_at, version_seen, live_seen}

-- What code reads.

module _ {F : Type 0} where
  -- the code of an instance reads what the model says
  pub scope_seen : (r : Runtime) (p : Page F) → StandsFor r p → (i : model.Instance) (c : Instance F) → Sees i c → scope_in p.instances.items c ≡ scope_of module_language r i
  scope_seen r p s i c v = ap (λ vs. vs ++ bound_slots p.instances.items c.links c.bindings) (sym v.values)
      ∙ ap (λ vs. i.values ++ vs) (ap (λ links. bound_slots p.instances.items links c.bindings) (sym v.links) ∙ bounds_seen r p s i.links c.bindings
      ∙ ap (map (λ b. (b.local, export_by (at i.links b.dependency) r.instances b.exported))) (sym v.bindings))

  -- what code is given is its scope: the variables of its own module as they were, and its imports
  pub scope_given : (instances : List (Instance F)) (c now : Instance F) (own imports : Slots) → own ≡ now.values.items → now.values ≡ c.values
      → imports ≡ bound_slots instances c.links c.bindings → own ++ imports ≡ scope_in instances c
  scope_given instances c now own imports given kept bound = ap (λ vs. vs ++ imports) (given ∙ ap (λ vs. vs.items) kept) ∙ ap (λ vs. c.values.items ++ vs) bound

  -- the run of a handler that was held is that of its deed
  deed_seen : (h : Handler F) (scope : Slots) (arguments : List (Option Slots)) (bag : Bag) → ran_as (spent h scope (map argument_of arguments) bag) ≡ run_deed module_language (deed_in h) scope arguments bag
  deed_seen (Code code) scope arguments bag = refl
  deed_seen (Host h) scope arguments bag = refl

  -- what the code ran is what the model runs
  pub right_run : (ran : body.Ran) (h : Handler F) (vars : Slots) (mods : List ModParam) (bag : Bag) (p : Page F) (c : Instance F)
      → ran_seen ran ≡ spent h vars mods bag → vars ≡ scope_in p.instances.items c → bag ≡ kept.bag_of p.bags c.name
      → (r : Runtime) → StandsFor r p → (i : model.Instance) → Sees i c → (arguments : List (Option Slots)) → mods ≡ map argument_of arguments
      → left_by ran ≡ run_deed module_language (deed_in h) (scope_of module_language r i) arguments (bag_of r i.name)
  right_run ran h vars mods bag p c is scope has r s i v arguments given =
      ap ran_as (is ∙ ap (λ ms. spent h vars ms bag) given
      ∙ ap (λ vs. spent h vs (map argument_of arguments) bag) (scope ∙ scope_seen r p s i c v)
      ∙ ap (λ b. spent h (scope_of module_language r i) (map argument_of arguments) b) (has ∙ ap (kept.bag_of p.bags) (sym v.name) ∙ sym (s.bags i.name)))
      ∙ deed_seen h (scope_of module_language r i) arguments (bag_of r i.name)

told_as : (n : Name) (version : ℕ) (messages : List Text) → map invalidation_as (invalidated n version messages) ≡ map (λ m. record { name = n; version = version; message = m }) messages
told_as n version [] = refl
told_as n version (m ∷ messages) = ap (λ is. record { name = n; version = version; message = m } ∷ is) (told_as n version messages)

-- the handlers at the spots that a list of handlers has
abbrev pub spots_in : (List model.Handler → List ℕ) → Option model.Instance → List ℕ
spots_in spots None = []
spots_in spots (Some i) = spots i.handlers

-- the handlers at these spots of the instance at a place are run
abbrev pub runs : FaultPlace → (Runtime → model.Handler → List (Option Slots)) → (List model.Handler → List ℕ) → ℕ → Runtime → Did
runs spent_at arguments spots place r = for_each (λ spot r. run_of module_language spent_at arguments (numbered r.instances (suc place)) spot r) (spots_in spots (numbered r.instances (suc place))) r

places_spots : (test : model.Handler → Bool) (o : Option model.Instance) → spots_in (places_from 0 test) o ≡ places_of test o
places_spots test None = refl
places_spots test (Some i) = refl

pub runs_each : (spent_at : FaultPlace) (arguments : Runtime → model.Handler → List (Option Slots)) (test : model.Handler → Bool) (place : ℕ) (r : Runtime)
    → runs spent_at arguments (places_from 0 test) place r ≡ run_each module_language spent_at arguments test (suc place) r
runs_each spent_at arguments test place r = ap (λ ps. for_each (λ spot r. run_of module_language spent_at arguments (numbered r.instances (suc place)) spot r) ps r) (places_spots test (numbered r.instances (suc place)))

-- The handler whose turn it is: where it stands, and what is left.
pub record Turn {F : Type 0} (spots rest : List model.Handler → List ℕ) (IsIt : model.Handler → Type 0) (i : model.Instance) (after : Instance F) : Type 0 where
  pub spot : ℕ
  pub handler : model.Handler
  pub there : slice_get i.handlers spot ≡ Some handler
  pub is : IsIt handler
  pub places : spots i.handlers ≡ spot ∷ rest (with_end spot (end_after handler.kind) i.handlers)
  pub sees : Sees (record i { handlers = with_end spot (end_after handler.kind) i.handlers }) after

-- what was taken off to be run has its turn
pub turn_of : {F : Type 0} (test : model.Handler → Bool) (h : Handler F) (i : model.Instance) (d : Instance F) → TakenOff test h i d → Turn (places_from 0 test) (places_from 0 test) (λ g. g.deed ≡ deed_in h) i d
turn_of test h i d t = record {
  spot = t.spot;
  handler = t.handler;
  there = t.there;
  is = t.does;
  places = t.places ∙ ap (λ e. t.spot ∷ places_from 0 test (with_end t.spot e i.handlers)) (sym t.ends);
  sees = subst (λ e. Sees (record i { handlers = with_end t.spot e i.handlers }) d) (sym t.ends) t.sees;
}

-- before a handler runs: it was taken off the instance c, which left d, and its name's bag was taken
pub record TakesOut {F : Type 0} (place : ℕ) (p m : Page F) (c d : Instance F) : Type 0 where
  pub client : m.client ≡ p.client
  pub live : m.live ≡ p.live
  pub unsent : m.unsent.items ≡ p.unsent.items
  pub shelf : m.shelf ≡ p.shelf
  pub there : slice_get p.instances.items place ≡ Some c
  pub set : m.instances.items ≡ slice_set p.instances.items place d
  pub rest : d ≡ record c { marks = d.marks; held = d.held }
  pub bags : kept.HasBag c.name [] p.bags m.bags

module _ {F : Type 0} (spent_at : FaultPlace) (arguments : Runtime → model.Handler → List (Option Slots)) (place : ℕ) where
  -- nothing is run where there is no spot
  pub none_follow : (spots : List model.Handler → List ℕ) (p q : Page F) (c d : Instance F) (lines : List OutLine) → slice_get p.instances.items place ≡ Some c → q ≡ record p { instances = q.instances }
      → q.instances.items ≡ slice_set p.instances.items place d → d.name ≡ c.name
      → ((i : model.Instance) → Sees i c → (spots i.handlers ≡ []) × Sees i d) → Follows (runs spent_at arguments spots place) p q lines lines
  none_follow spots p q c d lines there same set name none = record {
    client = ap (λ x. x.client) same;
    names = λ k n e. ap (λ cs. option_map (λ x. x.name) (slice_get cs k)) set ∙ names_at place p.instances.items c d there name k ∙ e;
    elsewhere = λ r s. subst (λ did. StaysElsewhere r did.0) (sym (quiet r s)) refl;
    stands = λ r s.
        let f : Found r.instances (suc place) c = found r.instances p.instances.items p.live place c there s.instances in
        subst (λ did. StandsFor did.0 q) (sym (quiet r s)) (record {
          client = s.client ∙ sym (ap (λ x. x.client) same);
          instances = subst (λ l. Matches r.instances q.instances.items l) (sym (ap (λ x. x.live) same)) (subst (λ cs. Matches r.instances cs p.live) (sym set)
              (subst (λ is. Matches is (slice_set p.instances.items place d) p.live) (unchanged (suc place) r.instances)
              (matches_changed (λ i. i) place r.instances p.instances.items c d f.instance there f.there (none f.instance f.sees).1 (record { number = λ i. refl; name = λ i. refl; fate = λ i. refl }) p.live s.instances)));
          bags = λ n. s.bags n ∙ ap (λ x. kept.bag_of x.bags n) (sym same);
          unsent = s.unsent ∙ ap (λ x. map invalidation_as x.unsent.items) (sym same);
          shelf = s.shelf ∙ ap (λ x. marks_of x.shelf) (sym same);
        });
    lines = λ r s. sym (append-nil lines) ∙ ap (λ did. lines ++ lines_of_all p.client did.1) (sym (quiet r s));
  }
    where
      unchanged : (k : ℕ) (is : List model.Instance) → with_change k (λ i. i) is ≡ is
      unchanged k [] = refl
      unchanged k (i ∷ is) = ap (λ j. j ∷ with_change k (λ i. i) is) (by (i.number == k)) ∙ ap (λ js. i ∷ js) (unchanged k is)
        where
          by : (b : Bool) → (if b then i else i) ≡ i
          by true = refl
          by false = refl

      quiet : (r : Runtime) → StandsFor r p → runs spent_at arguments spots place r ≡ nothing r
      quiet r s =
          let f : Found r.instances (suc place) c = found r.instances p.instances.items p.live place c there s.instances in
          ap (λ ps. for_each (λ spot r. run_of module_language spent_at arguments (numbered r.instances (suc place)) spot r) ps r) (ap (spots_in spots) f.there ∙ (none f.instance f.sees).0)

  -- One run, told by what the code did: the handler was taken off, its run left this, and it was settled.
  module _ (spots rest : List model.Handler → List ℕ) (IsIt : model.Handler → Type 0) (p m q : Page F) (c d : Instance F) (left : Ran) (told tells : List OutLine)
      (out : TakesOut place p m c d)
      (takes : (i : model.Instance) → Sees i c → Turn spots rest IsIt i d)
      (right : (r : Runtime) → StandsFor r p → (i : model.Instance) → Sees i c → (g : model.Handler) → IsIt g → left ≡ run_deed module_language g.deed (scope_of module_language r i) (arguments r g) (bag_of r i.name))
      (settles : Settles spent_at left place m q told tells) where
    settled_there : settles.instance ≡ d
    settled_there = same_Some _ _ (sym settles.there ∙ ap (λ cs. slice_get cs place) out.set ∙ set_same p.instances.items place d c out.there)

    -- versions are as before
    same_versions : (o : Option ℕ) → version_in (kept_by m.instances.items o) ≡ version_in (kept_by p.instances.items o)
    same_versions None = refl
    same_versions (Some zero) = refl
    same_versions (Some (suc k)) = ap (λ cs. version_in (slice_get cs k)) out.set ∙ by (place == k) refl
      where
        by : (b : Bool) → (place == k) ≡ b → version_in (slice_get (slice_set p.instances.items place d) k) ≡ version_in (slice_get p.instances.items k)
        by true e = subst (λ j. version_in (slice_get (slice_set p.instances.items place d) j) ≡ version_in (slice_get p.instances.items j)) (eqb-true place k e)
            (ap version_in (set_same p.instances.items place d c out.there) ∙ ap (λ x. x.version) out.rest ∙ sym (ap version_in out.there))
        by false e = ap version_in (set_other p.instances.items place k d (λ same. false≢true (sym e ∙ eq-eqb place k same)))

    module _ (r : Runtime) (s : StandsFor r p) (f : Found r.instances (suc place) c) (t : Turn spots rest IsIt f.instance d) where
      abbrev one : Did
      one = did_run spent_at f.instance t.spot t.handler left r

      ran_is : run_of module_language spent_at arguments (numbered r.instances (suc place)) t.spot r ≡ one
      ran_is = ap (λ o. run_of module_language spent_at arguments o t.spot r) f.there
          ∙ ap (λ o. run_handler module_language spent_at arguments f.instance t.spot o r) t.there
          ∙ ap (λ l. did_run spent_at f.instance t.spot t.handler l r) (sym (right r s f.instance f.sees t.handler t.is))

      is_there : numbered one.0.instances (suc place) ≡ Some (after_run t.spot t.handler.kind left f.instance)
      is_there = ap (λ k. numbered (with_change k (after_run t.spot t.handler.kind left) r.instances) (suc place)) f.number
          ∙ changed_here (after_run t.spot t.handler.kind left) (λ i. refl) (suc place) r.instances ∙ ap (option_map (after_run t.spot t.handler.kind left)) f.there

      unrolls : runs spent_at arguments spots place r ≡ and_then one (runs spent_at arguments rest place)
      unrolls = ap (λ ps. for_each (λ spot r. run_of module_language spent_at arguments (numbered r.instances (suc place)) spot r) ps r) (ap (spots_in spots) f.there ∙ t.places)
          ∙ ap (λ did. and_then did (for_each (λ spot r. run_of module_language spent_at arguments (numbered r.instances (suc place)) spot r) (rest (with_end t.spot (end_after t.handler.kind) f.instance.handlers)))) ran_is
          ∙ ap (λ ps. and_then one (for_each (λ spot r. run_of module_language spent_at arguments (numbered r.instances (suc place)) spot r) ps)) (sym (ap (spots_in rest) is_there))

      sees_after : Sees (after_run t.spot t.handler.kind left f.instance) settles.changed
      sees_after = settles.values (record f.instance { handlers = with_end t.spot (end_after t.handler.kind) f.instance.handlers })
          (subst (Sees (record f.instance { handlers = with_end t.spot (end_after t.handler.kind) f.instance.handlers })) (sym settled_there) t.sees)

      named : settles.instance.name ≡ f.instance.name
      named = ap (λ x. x.name) settled_there ∙ sym t.sees.name

      unsent_after : one.0.unsent ≡ map invalidation_as q.unsent.items
      unsent_after = ap (λ us. us ++ map (invalidation r f.instance.name) left.invalidations) (s.unsent ∙ ap (map invalidation_as) (sym out.unsent))
          ∙ ap (λ v. map invalidation_as m.unsent.items ++ map (λ t. record { name = f.instance.name; version = v; message = t }) left.invalidations) versions
          ∙ ap (λ is. map invalidation_as m.unsent.items ++ is) (sym (told_as f.instance.name (version_in (live_in m f.instance.name)) left.invalidations))
          ∙ ap (λ n. map invalidation_as m.unsent.items ++ map invalidation_as (invalidated n (version_in (live_in m n)) left.invalidations)) (sym named)
          ∙ sym (map-append invalidation_as m.unsent.items (invalidated settles.instance.name (version_in (live_in m settles.instance.name)) left.invalidations))
          ∙ ap (map invalidation_as) (sym settles.unsent)
        where
          versions : running.version_in (live_at r.instances f.instance.name) ≡ version_in (live_in m f.instance.name)
          versions = version_seen r p s f.instance.name ∙ sym (ap (λ l. version_in (kept_by m.instances.items (number_of l f.instance.name))) out.live ∙ same_versions (number_of p.live f.instance.name))

      stands_after : StandsFor one.0 q
      stands_after = record {
        client = s.client ∙ sym (settles.client ∙ out.client);
        instances = subst (λ k. Matches (with_change k (after_run t.spot t.handler.kind left) r.instances) q.instances.items q.live) (sym f.number)
            (subst (λ l. Matches (with_change (suc place) (after_run t.spot t.handler.kind left) r.instances) q.instances.items l) (sym (settles.live ∙ out.live))
            (subst (λ cs. Matches (with_change (suc place) (after_run t.spot t.handler.kind left) r.instances) cs p.live)
            (sym (settles.instances ∙ ap (λ cs. slice_set cs place settles.changed) out.set ∙ set_twice p.instances.items place d settles.changed))
            (matches_changed (after_run t.spot t.handler.kind left) place r.instances p.instances.items c settles.changed f.instance out.there f.there sees_after (record { number = λ i. refl; name = λ i. refl; fate = λ i. refl }) p.live s.instances)));
        bags = λ n.
            let same_name_c : c.name ≡ f.instance.name = sym f.sees.name in
            bag_put f.instance.name left.bag r.bags n ∙ ap (λ b. if b then left.bag else bag_of r n) (nat_list_eq_equiv.symm f.instance.name n) ∙ ap (λ b. if bytes_eq n f.instance.name then left.bag else b) (s.bags n)
            ∙ sym (bag_back f.instance.name left.bag p.bags m.bags q.bags (subst (λ x. kept.HasBag x [] p.bags m.bags) same_name_c out.bags) (subst (λ x. kept.HasBag x left.bag m.bags q.bags) named settles.bags) n);
        unsent = unsent_after;
        shelf = s.shelf ∙ ap marks_of (sym (settles.shelf ∙ out.shelf));
      }

      lines_after : tells ≡ told ++ lines_of_all p.client one.1
      lines_after = settles.lines
          ∙ ap (λ k. told ++ (log_lines k settles.instance.name left.lines ++ fault_lines k settles.instance.name spent_at left.fault)) out.client
          ∙ ap (λ n. told ++ (log_lines p.client n left.lines ++ fault_lines p.client n spent_at left.fault)) named
          ∙ ap (λ ls. told ++ ls) (sym (append-nil (log_lines p.client f.instance.name left.lines ++ fault_lines p.client f.instance.name spent_at left.fault)))

    -- names stay
    names_after : (k : ℕ) (n : Name) → name_at p k ≡ Some n → name_at q k ≡ Some n
    names_after k n e = ap (λ cs. option_map (λ x. x.name) (slice_get cs k)) (settles.instances ∙ ap (λ cs. slice_set cs place settles.changed) out.set ∙ set_twice p.instances.items place d settles.changed)
        ∙ names_at place p.instances.items c settles.changed out.there (ap (λ x. x.name) settles.rest ∙ ap (λ x. x.name) settled_there ∙ ap (λ x. x.name) out.rest) k ∙ e

    -- the first run, and then the others
    pub run_follows : (z : Page F) (more : List OutLine) → Follows (runs spent_at arguments rest place) q z tells more → Follows (runs spent_at arguments spots place) p z told more
    run_follows z more later = record {
      client = later.client ∙ settles.client ∙ out.client;
      names = λ k n e. later.names k n (names_after k n e);
      elsewhere = λ r s.
          let f : Found r.instances (suc place) c = found r.instances p.instances.items p.live place c out.there s.instances in
          let t : Turn spots rest IsIt f.instance d = takes f.instance f.sees in
          let one : Did = did_run spent_at f.instance t.spot t.handler left r in
          subst (λ did. StaysElsewhere r did.0) (sym (unrolls r s f t)) (elsewhere_then r one.0 (runs spent_at arguments rest place one.0).0 refl (later.elsewhere one.0 (stands_after r s f t)));
      stands = λ r s.
          let f : Found r.instances (suc place) c = found r.instances p.instances.items p.live place c out.there s.instances in
          let t : Turn spots rest IsIt f.instance d = takes f.instance f.sees in
          subst (λ did. StandsFor did.0 z) (sym (unrolls r s f t)) (later.stands (did_run spent_at f.instance t.spot t.handler left r).0 (stands_after r s f t));
      lines = λ r s.
          let f : Found r.instances (suc place) c = found r.instances p.instances.items p.live place c out.there s.instances in
          let t : Turn spots rest IsIt f.instance d = takes f.instance f.sees in
          let one : Did = did_run spent_at f.instance t.spot t.handler left r in
          later.lines one.0 (stands_after r s f t)
          ∙ ap (λ ls. ls ++ lines_of_all q.client (runs spent_at arguments rest place one.0).1) (lines_after r s f t)
          ∙ append_assoc told (lines_of_all p.client one.1) (lines_of_all q.client (runs spent_at arguments rest place one.0).1)
          ∙ ap (λ k. told ++ (lines_of_all p.client one.1 ++ lines_of_all k (runs spent_at arguments rest place one.0).1)) (settles.client ∙ out.client)
          ∙ ap (λ ls. told ++ ls) (sym (lines_then p.client one.1 (runs spent_at arguments rest place one.0).1))
          ∙ ap (λ did. told ++ lines_of_all p.client did.1) (sym (unrolls r s f t));
    }

-- The modules that callbacks are given.

module_both : {F : Type 0} (o : Option model.Instance) (c : Option (Instance F)) → BothOrNone o c → module_in o ≡ exports_of c
module_both None None b = refl
module_both None (Some c) b = absurd b
module_both (Some i) None b = absurd b
module_both (Some i) (Some c) b =
    ap (λ e. if is_done_status e then Some (map (λ x. (x, slot_at i.values x)) i.exports) else None) b.status
    ∙ ap (λ vs. if is_done_status c.status then Some (map (λ x. (x, slot_at vs x)) i.exports) else None) b.values
    ∙ ap (λ xs. if is_done_status c.status then Some (map (λ x. (x, slot_at c.values.items x)) xs) else None) b.exports

-- the live module of a name is the one that the model has
pub module_seen : {F : Type 0} (r : Runtime) (p : Page F) → StandsFor r p → (n : Name) → module_at r n ≡ exports_of (live_in p n)
module_seen r p s n = module_both (live_at r.instances n) (live_in p n) (live_seen r p s n)

-- one callback on itself fewer is held
pub fewer_own : {F : Type 0} (place : ℕ) (p q : Page F) (c d : Instance F) (h : Handler F) → slice_get p.instances.items place ≡ Some c → slice_get q.instances.items place ≡ Some d
    → slice_get c.held.own 0 ≡ Some h → d.held.own ≡ drop 1 c.held.own → own_left q place < own_left p place
fewer_own place p q c d h there after first rest =
    subst (λ o. own_left q place < own_count o) (sym there)
    (subst (λ o. own_count o < length c.held.own) (sym after) (subst (λ hs. length hs < length c.held.own) (sym rest) (by c.held.own first)))
  where
    by : (hs : List (Handler _)) → slice_get hs 0 ≡ Some h → length (drop 1 hs) < length hs
    by [] e = absurd (none-some h e)
    by (g ∷ hs) e = omega arith
