-- Callbacks on dependencies that list a name are run, one turn after another.
use Rattle.std.proofs.Common.{◌≡◌, ℕ, zero, suc, true, false, List, [], ◌∷◌, map, refl, ap, sym, ◌∙◌, ◌+◌, ◌<◌, ◌≤◌, length, get_or, arith}
use Prim.{⊥}
use Rattle.std.specs.Prelude.{Option, Some, None, option_map, if◌then◌else◌, slice_get}
use Rattle.std.proofs.Math.Path.{subst}
use Rattle.std.proofs.lemmas.Option.{none-some, same_Some, slice_get-map, slice_get_past, get_or_from_slice_get}
use Rattle.output_lines.specs.declared.out_line.OutLine.{OutLine}
use Rattle.output_lines.specs.declared.words.FaultPlace.TheVariants.{Dep}
use Rattle.module_tree.specs.Tree.{handler_of}
use Rattle.module_semantics.specs.Bodies.{body_run}
use Rattle.module_semantics.specs.declared.evaluation.ModParam.{ModParam}
use Rattle.core_model.specs.Names.{Name, same_name, has}
use Rattle.client_model.specs.Language.{Slots, Bag}
use Rattle.client_model.specs.Instance as model
use Rattle.client_model.specs.Instance.{Deed, code, numbered, places_of, accepts_dep, with_end}
use Rattle.client_model.specs.Runtime.{Runtime, for_each, bag_of}
use Rattle.client_model.specs.Running.{run_of, run_each, run_deed, scope_of}
use Rattle.module_language.specs.ModuleLanguage.{module_language, argument_of}
use Rattle.handler_table.specs.declared.dep.Dep as table
use Rattle.handler_table.specs.declared.handler.Handler.TheVariants.{Code}
use Rattle.handler_table.specs.Held.{Answers}
use Rattle.retained_data.specs.Bags as kept
use Rattle.retained_data.specs.Runs.{ran_seen}
use Rattle.retained_data.specs.declared.ran.Ran as body
use Rattle.page_instances.specs.declared.instance.Instance.{Instance}
use Rattle.page_instances.specs.Scopes.{scope_in}
use Rattle.page_instances.specs.Seeing.{Sees, dep_in, deps_of}
use Rattle.page_runs.specs.declared.given.Given.{Given}
use Rattle.page_runs.specs.declared.given.Given.TheVariants.{Live, Event}
use Rattle.page_state.specs.declared.page.Page.{Page}
use Rattle.page_state.specs.Settling.{Settles, left_by}
use Rattle.page_state.specs.Standing.{StandsFor, Follows, KeepWords}
use Rattle.page_runs.specs.Telling.{Begins, given_at, module_given, arguments_in, deps_in, deps_at, listing_from, listing_of, run_listing}
use Rattle.page_state.proofs.Following.{follows_as}
use Rattle.page_runs.proofs.Listing.{Stands, stands_next, passed_over, none_listing, listing_all}
use Rattle.page_state.proofs.Matching.{Found, found, set_same, set_self}
use Rattle.page_runs.proofs.Runs.{runs, spots_in, Turn, none_follow, run_follows, right_run, module_seen}
use Rattle.page_state.proofs.Words.{words_settled, word_at}

listing_spots : (n : Name) (passed : ℕ) (o : Option model.Instance) → spots_in (listing_from n 0 passed) o ≡ listing_of n passed o
listing_spots n passed None = refl
listing_spots n passed (Some i) = refl

all_listed : (n : Name) (o : Option model.Instance) → listing_of n zero o ≡ places_of (accepts_dep n) o
all_listed n None = refl
all_listed n (Some i) = listing_all n 0 i.handlers

-- what is given is what the model gives
arguments_seen : {F : Type 0} (n : Name) (g : Given) (r : Runtime) (p : Page F) → StandsFor r p → (h : model.Handler) → arguments_in n g r h ≡ given_at n (module_given p n g) h.deps
arguments_seen n Live r p s h = ap (λ e. map (λ d. if same_name d n then e else None) h.deps) (module_seen r p s n)
arguments_seen n (Event value) r p s h = refl

-- the table's callback of a turn, as the model has it
kept_dep : {F : Type 0} (i : model.Instance) (c : Instance F) → Sees i c → (turn : ℕ) → slice_get (deps_of i.handlers) turn ≡ option_map dep_in (slice_get c.held.deps turn)
kept_dep i c v turn = ap (λ ds. slice_get ds turn) v.held.deps ∙ slice_get-map dep_in c.held.deps turn

inside : {X : Type 0} (xs : List X) (k : ℕ) → k < length xs → slice_get xs k ≡ None → ⊥
inside [] k h e = let below : k < 0 = h in omega (arith, below)
inside (x ∷ xs) zero h e = none-some x (sym e)
inside (x ∷ xs) (suc k) h e = inside xs k (omega (arith, h)) e

module _ (n : Name) (g : Given) (place : ℕ) where
  runs_listing : (passed : ℕ) (r : Runtime) → runs Dep (arguments_in n g) (listing_from n 0 passed) place r ≡ run_listing n g passed place r
  runs_listing passed r = ap (λ ps. for_each (λ spot r. run_of module_language Dep (arguments_in n g) (numbered r.instances (suc place)) spot r) ps r) (listing_spots n passed (numbered r.instances (suc place)))

  -- with none passed it is all that list the name
  pub runs_all : (r : Runtime) → run_listing n g zero place r ≡ run_each module_language Dep (arguments_in n g) (accepts_dep n) (suc place) r
  runs_all r = ap (λ ps. for_each (λ spot r. run_of module_language Dep (arguments_in n g) (numbered r.instances (suc place)) spot r) ps r) (all_listed n (numbered r.instances (suc place)))

  module _ {F : Type 0} where
    -- a callback that doesn't list the name is passed
    pub passes : (p : Page F) (c : Instance F) (turn : ℕ) (d : table.Dep) (lines : List OutLine) → slice_get p.instances.items place ≡ Some c → slice_get c.held.deps turn ≡ Some d → has d.deps n ≡ false
        → Begins (run_listing n g turn place) (run_listing n g (suc turn) place) p p lines lines
    passes p c turn d lines there at other = λ z more f. follows_as (run_listing n g (suc turn) place) (run_listing n g turn place) p z lines more same f
      where
        same : (r : Runtime) → StandsFor r p → run_listing n g (suc turn) place r ≡ run_listing n g turn place r
        same r s =
            let f : Found r.instances (suc place) c = found r.instances p.instances.items p.live place c there s.instances in
            ap (λ ps. for_each (λ spot r. run_of module_language Dep (arguments_in n g) (numbered r.instances (suc place)) spot r) ps r)
            (ap (listing_of n (suc turn)) f.there
            ∙ sym (passed_over n d.deps (code (handler_of d.code)) other 0 turn f.instance.handlers (kept_dep f.instance c f.sees turn ∙ ap (option_map dep_in) at))
            ∙ sym (ap (listing_of n turn) f.there))

    -- past the last nothing is left
    pub past : (p : Page F) (c : Instance F) (turn : ℕ) (lines : List OutLine) → slice_get p.instances.items place ≡ Some c → slice_get c.held.deps turn ≡ None → Follows (run_listing n g turn place) p p lines lines
    past p c turn lines there at = follows_as (runs Dep (arguments_in n g) (listing_from n 0 turn) place) (run_listing n g turn place) p p lines lines (λ r s. runs_listing turn r)
        (none_follow Dep (arguments_in n g) place (listing_from n 0 turn) p p c c lines there refl (sym (set_self p.instances.items place c there)) refl
        (λ i v. (none_listing n 0 turn i.handlers (kept_dep i c v turn ∙ ap (option_map dep_in) at), v)))

    pub passes_turn : (p : Page F) (turn : ℕ) (d : table.Dep) (lines : List OutLine) → slice_get (deps_at p place) turn ≡ Some d → has d.deps n ≡ false → Begins (run_listing n g turn place) (run_listing n g (suc turn) place) p p lines lines
    passes_turn p turn d lines at other = by (slice_get p.instances.items place) refl at
      where
        by : (o : Option (Instance F)) → slice_get p.instances.items place ≡ o → slice_get (deps_in o) turn ≡ Some d → Begins (run_listing n g turn place) (run_listing n g (suc turn) place) p p lines lines
        by None there at = absurd (none-some d at)
        by (Some c) there at = passes p c turn d lines there at other

    pub past_last : (p : Page F) (turn : ℕ) (lines : List OutLine) → place < length p.instances.items → length (deps_at p place) ≤ turn → Follows (run_listing n g turn place) p p lines lines
    past_last p turn lines within last = by (slice_get p.instances.items place) refl last
      where
        by : (o : Option (Instance F)) → slice_get p.instances.items place ≡ o → length (deps_in o) ≤ turn → Follows (run_listing n g turn place) p p lines lines
        by None there last = absurd (inside p.instances.items place within there)
        by (Some c) there last = past p c turn lines there (slice_get_past c.held.deps turn last)

    -- One callback that lists the name is run: it was read from the instance c, with the bag of c's name.
    module _ (p q : Page F) (bags : kept.KeptBags) (c : Instance F) (turn : ℕ) (d : table.Dep) (ran : body.Ran) (told tells : List OutLine)
        (there : slice_get p.instances.items place ≡ Some c) (at : slice_get c.held.deps turn ≡ Some d)
        (settles : Settles Dep (left_by ran) place (record p { bags = bags }) q told tells) where
      settled : settles.instance ≡ c
      settled = same_Some _ _ (sym settles.there ∙ there)

      after : slice_get q.instances.items place ≡ Some settles.changed
      after = ap (λ cs. slice_get cs place) settles.instances ∙ set_same p.instances.items place settles.changed c there

      -- it stays held, and so do the others
      pub deps_stay : deps_at q place ≡ deps_at p place
      deps_stay = ap deps_in after ∙ ap (λ x. x.held.deps) settles.rest ∙ ap (λ x. x.held.deps) settled ∙ sym (ap deps_in there)

      pub words_stay : (answers : Answers F) → place < length p.instances.items → KeepWords answers p → KeepWords answers q
      words_stay answers within words = words_settled answers p (record p { bags = bags }) q c c Dep (left_by ran) place told tells there (sym (set_self p.instances.items place c there)) refl
          (word_at answers p place c within (read p.instances.items place there) words) words settles
        where
          read : (cs : List (Instance F)) (k : ℕ) → slice_get cs k ≡ Some c → c ≡ get_or cs k c
          read cs k e = sym (get_or_from_slice_get cs k c c e)

      module _ (vars : Slots) (mods : List ModParam) (bag : Bag) (listed : has d.deps n ≡ true) (taken : kept.HasBag c.name [] p.bags bags)
          (is : ran_seen ran ≡ body_run (handler_of d.code) vars mods bag) (scope : vars ≡ scope_in p.instances.items c)
          (are : mods ≡ map argument_of (given_at n (module_given p n g) d.deps)) (has_bag : bag ≡ kept.bag_of p.bags c.name) where
        its_turn : (i : model.Instance) → Sees i c → Turn (listing_from n 0 turn) (listing_from n 0 (suc turn)) (λ h. (h.deps ≡ d.deps) × (h.deed ≡ code (handler_of d.code))) i c
        its_turn i v =
            let st : Stands n 0 turn i.handlers d.deps (code (handler_of d.code)) = stands_next n d.deps (code (handler_of d.code)) listed 0 turn i.handlers (kept_dep i c v turn ∙ ap (option_map dep_in) at) in
            record {
              spot = st.spot;
              handler = st.handler;
              there = st.there;
              is = (st.lists, st.does);
              places = st.places ∙ ap (λ k. k ∷ listing_from n 0 (suc turn) i.handlers) (let its : st.place ≡ 0 + st.spot = st.is in omega (arith, its)) ∙ ap (λ hs. st.spot ∷ listing_from n 0 (suc turn) hs) (sym st.kept);
              sees = subst (λ hs. Sees (record i { handlers = hs }) c) (sym st.kept) v;
            }

        right : (r : Runtime) → StandsFor r p → (i : model.Instance) → Sees i c → (h : model.Handler) → (h.deps ≡ d.deps) × (h.deed ≡ code (handler_of d.code))
            → left_by ran ≡ run_deed module_language h.deed (scope_of module_language r i) (arguments_in n g r h) (bag_of r i.name)
        right r s i v h its = right_run ran (Code d.code) vars mods bag p c is scope has_bag r s i v (arguments_in n g r h)
            (are ∙ ap (map argument_of) (ap (given_at n (module_given p n g)) (sym its.0) ∙ sym (arguments_seen n g r p s h)))
            ∙ ap (λ e. run_deed module_language e (scope_of module_language r i) (arguments_in n g r h) (bag_of r i.name)) (sym its.1)

        pub begins : Begins (run_listing n g turn place) (run_listing n g (suc turn) place) p q told tells
        begins = λ z more f. follows_as (runs Dep (arguments_in n g) (listing_from n 0 turn) place) (run_listing n g turn place) p z told more (λ r s. runs_listing turn r)
            (run_follows Dep (arguments_in n g) place (listing_from n 0 turn) (listing_from n 0 (suc turn)) (λ h. (h.deps ≡ d.deps) × (h.deed ≡ code (handler_of d.code)))
            p (record p { bags = bags }) q c c (left_by ran) told tells
            (record { client = refl; live = refl; unsent = refl; shelf = refl; there = there; set = sym (set_self p.instances.items place c there); rest = refl; bags = taken })
            its_turn right settles z more
            (follows_as (run_listing n g (suc turn) place) (runs Dep (arguments_in n g) (listing_from n 0 (suc turn)) place) q z tells more (λ r s. sym (runs_listing (suc turn) r)) f))
