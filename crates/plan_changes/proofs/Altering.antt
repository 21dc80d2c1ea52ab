-- What a plan does to a page, step by step: what ends, what is made, who is told, and what is dropped.
use Rattle.std.proofs.Common.{◌≡◌, ◌+◌, ℕ, zero, suc, Bool, true, false, List, [], ◌∷◌, length, refl, ap, sym, ◌∙◌}
use Rattle.std.specs.Prelude.{◌&&◌, filter, Option, Some, None, IfSome, is_some, option_map, slice_get, if◌then◌else◌}
use Rattle.std.proofs.Math.Path.{subst}
use Rattle.std.proofs.lemmas.Bool.{false≢true}
use Rattle.std.proofs.lemmas.List.Elements.{filter_agree}
use Rattle.std.proofs.lemmas.Option.{none-some, same_Some}
use Rattle.hmr_types.specs.declared.words.PlanKind.{PlanKind}
use Rattle.hmr_types.specs.declared.words.PlanKind.TheVariants as plan_kind
use Rattle.output_lines.specs.declared.out_line.OutLine.{OutLine}
use Rattle.core_model.specs.Names.{Name, at, has}
use Rattle.core_model.specs.Page.{Plan, new_view}
use Rattle.core_model.proofs.Naming.{both_true, same_true}
use Rattle.client_model.specs.Applying.{births, live_of, reload_all, replace_instance, set_aside, tell_all, tell_boundary}
use Rattle.client_model.specs.Instance as model
use Rattle.client_model.specs.Instance.{is_held, is_live, live_at, numbered}
use Rattle.client_model.specs.Linking.{new_names, number_after, number_in, place_of}
use Rattle.client_model.specs.Making as making
use Rattle.client_model.specs.Making.{make}
use Rattle.client_model.specs.Running.{drop_each}
use Rattle.client_model.specs.Runtime.{Runtime, Did, and_then, for_each, nothing}
use Rattle.client_model.proofs.Acts.{handled_each, handled_tell_all}
use Rattle.module_language.specs.ModuleLanguage.{module_language}
use Rattle.page_plan.specs.Numbers.{new_number}
use Rattle.page_instances.specs.declared.instance.Instance.{Instance}
use Rattle.page_instances.specs.Scopes.{kept_at}
use Rattle.page_births.specs.declared.birth.Birth.{Birth}
use Rattle.page_state.specs.declared.page.Page.{Page}
use Rattle.page_ends.specs.Each.{FollowsEach, IsReplacing, StandAt}
use Rattle.page_births.specs.EachBirth.{AreBirths, FollowsBirths}
use Rattle.page_state.specs.Live.{number_of}
use Rattle.live_instances.specs.Orderly.{Orderly}
use Rattle.page_state.specs.Standing.{BothOrNone, Follows, StandsFor, name_at}
use Rattle.page_ends.specs.Tellings.{told}
use Rattle.page_ends.proofs.Each.{stand_kept}
use Rattle.page_state.proofs.Following.{follows_as, follows_nothing, follows_then}
use Rattle.live_instances.proofs.Order.{live_named, live_numbered}
use Rattle.plan_changes.specs.Changing.{AreMade, HasChanged, IsUpdate, page_done}
use Rattle.plan_changes.specs.declared.changing.Update.{Update}
use Rattle.live_instances.proofs.Applied.{HaveNumbers, SameLive, births_counted, drops_counted, made_counted, news_live, others_live, reload_counted, replaced_counted, same_live, told_all}
use Rattle.live_instances.proofs.Counting.{IsCounted}
use Rattle.live_instances.proofs.Living.{live_apart, live_there}
use Rattle.plan_changes.proofs.Making.{are_new}
use Rattle.client_plan.proofs.Orders.{Distinct, names_once}
use Rattle.client_plan.proofs.Paging.{fresh_unpaged, unpaged}
use Rattle.page_ends.proofs.Sounding.{counted_of, unsent_of, versions_of}

-- What is live is at a place of the page, and there it stays.

module _ {F : Type 0} (r : Runtime) (page : Page F) (s : StandsFor r page) where
  named_here : (o : Option model.Instance) (m : Option (Instance F)) (n : Name) → BothOrNone o m → option_map (λ c. c.name) m ≡ Some n → IfSome o (λ i. i.name ≡ n)
  named_here None None n b e = tt
  named_here None (Some c) n b e = absurd b
  named_here (Some i) None n b e = absurd b
  named_here (Some i) (Some c) n b e = b.name ∙ same_Some c.name n e

  pub at_place : (place : ℕ) (n : Name) → name_at page place ≡ Some n → IfSome (numbered r.instances (suc place)) (λ i. i.name ≡ n)
  at_place place n e = named_here (numbered r.instances (suc place)) (slice_get page.instances.items place) n (s.instances.by_number (suc place)) e

  -- a number, and the place of it
  pub record HasPlace (k : ℕ) (n : Name) : Type 0 where
    pub place : ℕ
    pub is : k ≡ suc place
    pub named : name_at page place ≡ Some n

  placed : (k : ℕ) (n : Name) (i : model.Instance) → numbered r.instances k ≡ Some i → i.name ≡ n → HasPlace k n
  placed zero n i e named = absurd (subst (λ o. BothOrNone o (kept_at page.instances.items zero)) e (s.instances.by_number zero))
  placed (suc place) n i e named = by (slice_get page.instances.items place) refl (subst (λ o. BothOrNone o (slice_get page.instances.items place)) e (s.instances.by_number (suc place)))
    where
      by : (m : Option (Instance F)) → slice_get page.instances.items place ≡ m → BothOrNone (Some i) m → HasPlace (suc place) n
      by None f b = absurd b
      by (Some c) f b = record { place = place; is = refl; named = ap (option_map (λ x. x.name)) f ∙ ap Some (sym b.name ∙ named) }

  pub live_placed : (n : Name) (k : ℕ) → number_in (live_at r.instances n) ≡ Some k → HasPlace k n
  live_placed n k h = by (live_at r.instances n) refl h
    where
      by : (o : Option model.Instance) → live_at r.instances n ≡ o → number_in o ≡ Some k → HasPlace k n
      by None e t = absurd (none-some k t)
      by (Some j) e t = placed k n j
          (subst (λ m. numbered r.instances m ≡ Some j) (same_Some j.number k t) (live_numbered n r.instances s.instances.orderly.numbers j e))
          (same_true j.name n (live_named n r.instances j e))

pub names_stay : {F : Type 0} (r t : Runtime) (a c : Page F) → StandsFor r a → StandsFor t c → ((place : ℕ) (n : Name) → name_at a place ≡ Some n → name_at c place ≡ Some n)
    → (n : Name) (k : ℕ) → number_in (live_at r.instances n) ≡ Some k → IfSome (numbered t.instances k) (λ i. i.name ≡ n)
names_stay r t a c s u names n k h =
    let here : HasPlace r a s k n = live_placed r a s n k h in
    subst (λ m. IfSome (numbered t.instances m) (λ i. i.name ≡ n)) (sym here.is) (at_place t c u here.place n (names here.place n here.named))

-- The steps.

module _ (r : Runtime) (p : Plan) where
  abbrev bs : List making.Birth
  bs = births (new_names p r) p r

  abbrev makes : Runtime → Did
  makes = for_each (make module_language) bs

  abbrev tells_of : PlanKind → Runtime → Did
  tells_of kind = tell_all kind module_language p r

  abbrev drops : PlanKind → Runtime → Did
  drops kind = for_each (λ i x. drop_each is_held i.number x) (set_aside kind p r)

  -- where none of the new names is live the new instances are made
  makes_followed : {F : Type 0} (made : List Birth) (a b c : Page F) (told tells : List OutLine) → AreMade r p a made → length b.instances.items ≡ length a.instances.items
      → ((n : Name) → has (new_names p r) n ≡ true → number_of b.live n ≡ None) → FollowsBirths made b c told tells → Follows makes b c told tells
  makes_followed {F} made a b c told tells m count none follows =
      follows (are_new b.live made (subst Distinct (sym m.names) (names_once p r)) (λ n h. none n (ap (λ ns. has ns n) (sym m.names) ∙ h))) bs
      (subst (λ k. AreBirths F k bs made) (sym count) m.births)

  module _ {F : Type 0} (kind : PlanKind) (made : List Birth) (ends : Runtime → Did) (a b c d e : Page F) (l l1 l2 l3 l4 : List OutLine) (s : StandsFor r a) (m : AreMade r p a made)
      (ended : Follows ends a b l l1) (mades : Follows makes b c l1 l2) (tolds : Follows (tells_of kind) c d l2 l3) (dropped : Follows (drops kind) d e l3 l4) where
    abbrev after_end : Runtime
    after_end = (ends r).0

    abbrev after_make : Runtime
    after_make = (makes after_end).0

    abbrev after_tell : Runtime
    after_tell = ((tells_of kind) after_make).0

    abbrev whole : Runtime → Did
    whole x = and_then (and_then (and_then (ends x) makes) (tells_of kind)) (drops kind)

    follow : Follows whole a e l l4
    follow = follows_then (λ x. and_then (and_then (ends x) makes) (tells_of kind)) (drops kind) a d e l l3 l4
        (follows_then (λ x. and_then (ends x) makes) (tells_of kind) a c d l l2 l3 (follows_then ends makes a b c l l1 l2 ended mades) tolds) dropped

    stands_end : StandsFor after_end b
    stands_end = ended.stands r s

    still_live : (n : Name) → has (new_names p r) n ≡ false → number_of e.live n ≡ number_of b.live n
    still_live n old =
        sym ((follow.stands r s).instances.by_name n)
        ∙ handled_each module_language SameLive (same_live module_language) (λ i x. drop_each is_held i.number x) (λ i x. (same_live module_language).drop is_held i.number x) (set_aside kind p r) after_tell n
        ∙ handled_tell_all module_language SameLive (same_live module_language) kind p r after_make n
        ∙ others_live module_language bs after_end n (ap (λ ns. has ns n) m.named ∙ old)
        ∙ stands_end.instances.by_name n

    has_changed : (IsCounted r → IsCounted after_end) → (IsCounted after_make → IsCounted after_tell)
        → ((n : Name) → has (new_names p r) n ≡ false → at (new_view r.roots p r.page.view) n ≡ None → number_of b.live n ≡ None) → HasChanged (whole r) r p a e l l4
    has_changed ends_counted tells_counted gone = record {
      client = follow.client;
      stands = follow.stands r s;
      elsewhere = follow.elsewhere r s;
      lines = follow.lines r s;
      counted = λ entries page.
          let c : IsCounted (whole r).0 = drops_counted is_held (set_aside kind p r) after_tell (tells_counted
          (made_counted module_language bs after_end (births_counted p r entries (new_names p r)) (ends_counted (counted_of r a s page.versions page.unsent)))) in
          record { versions = versions_of (whole r).0 e (follow.stands r s) c; unsent = unsent_of (whole r).0 e (follow.stands r s) c };
      live = λ n old none. still_live n old ∙ gone n old none;
    }

-- a load
pub loaded_changed : {F : Type 0} (r : Runtime) (p : Plan) (made : List Birth) (a c : Page F) (l l2 : List OutLine) → StandsFor r a → p.kind ≡ plan_kind.Load → AreMade r p a made
    → FollowsBirths made a c l l2 → HasChanged (page_done plan_kind.Load p r) r p a c l l2
loaded_changed r p made a c l l2 s is m follows =
    has_changed r p plan_kind.Load made nothing a a c c c l l l2 l2 l2 s m (follows_nothing a l)
    (makes_followed r p made a a c l l2 m refl (λ n h. m.loads is n) follows) (follows_nothing c l2) (follows_nothing c l2) (λ k. k) (λ k. k) (λ n old none. m.loads is n)

-- a reload
pub reloaded_changed : {F : Type 0} (r : Runtime) (p : Plan) (made : List Birth) (a b c : Page F) (l l2 : List OutLine) → StandsFor r a → AreMade r p a made
    → length b.instances.items ≡ length a.instances.items → Follows reload_all a b l l → ((n : Name) → number_of b.live n ≡ None) → FollowsBirths made b c l l2
    → HasChanged (page_done plan_kind.Reload p r) r p a c l l2
reloaded_changed r p made a b c l l2 s m count ended gone follows =
    has_changed r p plan_kind.Reload made reload_all a b c c c l l l2 l2 l2 s m ended
    (makes_followed r p made a b c l l2 m count (λ n h. gone n) follows) (follows_nothing c l2) (follows_nothing c l2) (reload_counted r) (λ k. k) (λ n old none. gone n)

-- an update
same_then : (b : Bool) (k : ℕ) (o : Option ℕ) → b ≡ true → (if b then Some k else o) ≡ (if b then Some k else None)
same_then true k o e = refl
same_then false k o e = absurd (false≢true e)

some_then : (b : Bool) (k : ℕ) (o : Option ℕ) → b ≡ true → is_some (if b then Some k else o) ≡ true
some_then true k o e = refl
some_then false k o e = absurd (false≢true e)

module _ (r : Runtime) (p : Plan) (u : Update) (is : IsUpdate r p u) where
  abbrev test : Name → Bool
  test n = has p.replaced n && has (new_names p r) n

  new_number_is : (n : Name) → test n ≡ true → number_after p r n ≡ new_number u.numbers n
  new_number_is n h =
      same_then (has (new_names p r) n) (suc (length r.instances) + place_of (new_names p r) n) (number_in (live_at r.instances n)) (both_true (has p.replaced n) (has (new_names p r) n) h).1
      ∙ sym (is.numbers n)

  pub is_replacing : {F : Type 0} (page : Page F) → IsReplacing u.replaced u.numbers page (λ x. number_after p r) (λ x. test)
  is_replacing page x s n = (sym (is.replaced n), λ h. new_number_is n (sym (is.replaced n) ∙ h))

  have_numbers : (js : List model.Instance) → HaveNumbers module_language (number_after p r) (filter (λ i. is_live i && test i.name) js)
  have_numbers [] = tt
  have_numbers (j ∷ js) = by (is_live j && test j.name) refl (have_numbers js)
    where
      by : (b : Bool) → (is_live j && test j.name) ≡ b → HaveNumbers module_language (number_after p r) (filter (λ i. is_live i && test i.name) js)
          → HaveNumbers module_language (number_after p r) (if b then j ∷ filter (λ i. is_live i && test i.name) js else filter (λ i. is_live i && test i.name) js)
      by true e rest = (
        some_then (has (new_names p r) j.name) (suc (length r.instances) + place_of (new_names p r) j.name) (number_in (live_at r.instances j.name))
            (both_true (has p.replaced j.name) (has (new_names p r) j.name) (both_true (is_live j) (test j.name) e).1).1,
        rest,
      )
      by false e rest = rest

  abbrev replaces : Runtime → Did
  replaces x = for_each (replace_instance module_language (number_after p r)) (live_of test x) x

  replaces_counted : Orderly r.instances → IsCounted r → IsCounted (replaces r).0
  replaces_counted o c = replaced_counted module_language (number_after p r) (live_of test r) r (have_numbers r.instances) (live_apart test r o) (live_there test r o) o c

  pub updated_changed : {F : Type 0} (made : List Birth) (a b c d e : Page F) (l l1 l2 l3 : List OutLine) (places : List ℕ) → StandsFor r a → AreMade r p a made
      → length b.instances.items ≡ length a.instances.items → Follows replaces a b l l1
      → ((n : Name) → has u.replaced n ≡ true → number_of b.live n ≡ None) → ((n : Name) → number_of a.live n ≡ None → number_of b.live n ≡ None)
      → StandAt a places (live_of (has u.replaced) r)
      → FollowsBirths made b c l1 l2 → Follows (for_each told u.rows.items) c d l2 l3 → FollowsEach (λ i x. drop_each is_held i.number x) places d e l3 l3
      → HasChanged (page_done plan_kind.Update p r) r p a e l l3
  updated_changed made a b c d e l l1 l2 l3 places s m count ended gone fewer stand births_follow rows_follow drops_follow =
      has_changed r p plan_kind.Update made replaces a b c d e l l1 l2 l3 l3 s m ended mades tolds
      (drops_follow.each (live_of test r) (stand_kept a d all_names places (live_of test r)
      (subst (StandAt a places) (filter_agree (λ i. is_live i && has u.replaced i.name) (λ i. is_live i && test i.name) (λ i. ap (λ t. is_live i && t) (is.replaced i.name)) r.instances) stand)))
      (replaces_counted s.instances.orderly) telling (λ n old none. fewer n (m.on_page n (unpaged p r is.kind n old none)))
    where
      none_left : (n : Name) → has (new_names p r) n ≡ true → (t : Bool) → has p.replaced n ≡ t → number_of b.live n ≡ None
      none_left n h true t = gone n (is.replaced n ∙ ap (λ x. x && has (new_names p r) n) t ∙ h)
      none_left n h false t = fewer n (m.on_page n (fresh_unpaged p r is.kind n h t))

      mades : Follows (for_each (make module_language) (births (new_names p r) p r)) b c l1 l2
      mades = makes_followed r p made a b c l1 l2 m count (λ n h. none_left n h (has p.replaced n) refl) births_follow

      tolds : Follows (for_each (tell_boundary module_language p r) r.pairs) c d l2 l3
      tolds = follows_as (for_each told u.rows.items) (for_each (tell_boundary module_language p r) r.pairs) c d l2 l3 (λ x t. is.rows x) rows_follow

      all_names : (place : ℕ) (n : Name) → name_at a place ≡ Some n → name_at d place ≡ Some n
      all_names place n h = tolds.names place n (mades.names place n (ended.names place n h))

      telling : IsCounted (for_each (make module_language) (births (new_names p r) p r) (replaces r).0).0
          → IsCounted (for_each (tell_boundary module_language p r) r.pairs (for_each (make module_language) (births (new_names p r) p r) (replaces r).0).0).0
      telling counted =
          let x : Runtime = (for_each (make module_language) (births (new_names p r) p r) (replaces r).0).0 in
          let t : StandsFor x c = mades.stands (replaces r).0 (ended.stands r s) in
          (told_all module_language p r r.pairs x (record {
            orderly = t.instances.orderly;
            counted = counted;
            fresh = λ n h. news_live module_language (births (new_names p r) p r) (replaces r).0 n (ap (λ ns. has ns n) m.named ∙ h);
            old = names_stay r x a c s t (λ place n h. mades.names place n (ended.names place n h));
          })).counted
