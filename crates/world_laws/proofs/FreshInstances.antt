-- The instances of a client, read as its page and as its stale edges: a caught-up client's live instances
-- are a fresh load, and an edge is stale exactly where a live instance holds an older number.
use Rattle.std.proofs.Common.{◌≡◌, ◌↔◌, ℕ, Bool, true, false, List, refl, ap, sym, ◌∙◌, Contains}
use Rattle.std.specs.Prelude.{◌&&◌, Option, Some, None, is_some, option_map, IfSome, if◌then◌else◌}
use Prim.{⊥}
use Rattle.std.proofs.Math.Path.{subst}
use Rattle.std.proofs.lemmas.Bool.{false≢true}
use Rattle.std.proofs.lemmas.Option.{same_Some}
use Rattle.hmr_types.specs.declared.analysis.Outcome.TheVariants.{Good}
use Rattle.core_model.specs.Names.{Name, same_name, has, at}
use Rattle.core_model.specs.Sources.{Text, Serving}
use Rattle.core_model.specs.FreshLoad.{Served, reached_by, version_in, fresh_table}
use Rattle.core_model.specs.Members.{IsLoaded}
use Rattle.core_model.specs.View.{Entry, is_in, imports_of}
use Rattle.core_model.specs.Page.{Page}
use Rattle.core_model.specs.Client.{Client}
use Rattle.core_model.specs.Core.{client_at}
use Rattle.core_model.proofs.Loading.{reached_is}
use Rattle.core_model.proofs.Membering.{loaded_is}
use Rattle.core_model.proofs.Naming.{both_true, same_true}
use Rattle.core_laws.specs.Fresh.{IsUpToDate, IsFreshLoad}
use Rattle.core_laws.specs.Given.{entry_of}
use Rattle.client_model.specs.Language.{Language}
use Rattle.client_model.specs.Instance.{Instance, is_live, live_at}
use Rattle.client_model.specs.Runtime.{Runtime, Opening}
use Rattle.client_model.specs.Past.{Past, runtime_after}
use Rattle.client_model.specs.Stale.{live_number, link_in, IsStale}
use Rattle.world_model.specs.World.{World, Step}
use Rattle.world_model.specs.Steps.{world_after}
use Rattle.world_model.specs.Ties.{TiedAt, WentOn}
use Rattle.world_model.proofs.Tying.{run_sound}
use Rattle.world_laws.specs.Fresh.{HasInstancesAt, HaveFreshInstances}
use Rattle.world_laws.specs.Instances.{IsLiveAs, HoldsOlder}
use Rattle.world_laws.specs.Stops.{IsMadeBy}
use Rattle.world_laws.specs.Taken.{Life, life_of}
use Rattle.world_laws.proofs.Members.{map_in}
use Rattle.world_laws.proofs.Frames.{Frame, frame, frames, live_one, found_in}
use Rattle.world_laws.proofs.Holding.{HoldsOf, live_is}
use Rattle.world_laws.proofs.Messages.{run_holds}
use Rattle.world_laws.proofs.Texts.{LiveFits, FitsIn}
use Rattle.world_laws.proofs.Exporting.{Right, run_right}
use Rattle.world_laws.proofs.Linked.{AllWhole, run_whole}
use Rattle.world_laws.proofs.Freshness.{core_made, fresh_in}
use Rattle.world_laws.proofs.Following.{made_run}
use Rattle.world_laws.proofs.VersionTexts.{the_live}

-- the live one of a name, with its page's module
record Lives (language : Language) (r : Runtime) (n : Name) : Type 0 where
  entry : Entry
  entry_is : at r.page.view n ≡ Some entry
  instance : Instance
  made : Contains r.instances instance
  live : is_live instance ≡ true
  name : instance.name ≡ n
  found : live_at r.instances n ≡ Some instance
  version : instance.version ≡ entry.version
  text : language.transformed n instance.text ≡ Good entry.analysis

module _ (language : Language) (r : Runtime) (h : HoldsOf r) (fits : FitsIn (Right language) r) where
  lives_by : (n : Name) (o : Option Entry) (i : Option Instance) → at r.page.view n ≡ o → live_at r.instances n ≡ i → LiveFits (Right language n) o (option_map frame i) → is_some o ≡ true → is_some i ≡ true → Lives language r n
  lives_by n None i e g l a b = absurd (false≢true a)
  lives_by n (Some o) None e g l a b = absurd (false≢true b)
  lives_by n (Some o) (Some i) e g l a b =
      let there = found_in (λ (k : Instance). is_live k && same_name k.name n) r.instances i g in
      let passes = both_true (is_live i) (same_name i.name n) there.1 in
      record { entry = o; entry_is = e; instance = i; made = there.0; live = passes.0; name = same_true i.name n passes.1; found = g; version = l.0; text = l.2 }

  some_mapped : (o : Option Instance) → is_some (option_map frame o) ≡ is_some o
  some_mapped None = refl
  some_mapped (Some i) = refl

  -- a module of the page lives
  lives : (n : Name) → is_in r.page.view n ≡ true → Lives language r n
  lives n e = lives_by n (at r.page.view n) (live_at r.instances n) refl refl (subst (LiveFits (Right language n) (at r.page.view n)) (live_is r.instances n) (fits.live n)) e
      (sym (some_mapped (live_at r.instances n)) ∙ ap is_some (sym (live_is r.instances n)) ∙ h.live n ∙ e)

  -- a live instance is of a module of the page
  live_in : (i : Instance) → Contains r.instances i → is_live i ≡ true → live_one (frames r.instances) i.name ≡ Some (frame i)
  live_in i c l = the_live (frames r.instances) (frame i) (map_in frame r.instances i c) l (h.one i.name)

  page_of : (i : Instance) → Contains r.instances i → is_live i ≡ true → is_in r.page.view i.name ≡ true
  page_of i c l = sym (h.live i.name) ∙ ap is_some (live_in i c l)

  abbrev frame_or : Frame → Option Frame → Frame
  frame_or d None = d
  frame_or d (Some f) = f

  -- and is the one that lives
  same_live : (i : Instance) → Contains r.instances i → is_live i ≡ true → (x : Lives language r i.name) → frame x.instance ≡ frame i
  same_live i c l x = ap (frame_or (frame x.instance)) (ap (option_map frame) (sym x.found) ∙ sym (live_is r.instances i.name) ∙ live_in i c l)

  -- What is loaded.

  module _ (served : Served) (entries : (n : Name) → at r.page.view n ≡ (if has (reached_by served r.roots) n then entry_of (at served n) else None)) where
    abbrev version_or : ℕ → Option Entry → ℕ
    version_or d None = d
    version_or d (Some e) = e.version

    loaded_lives : (n : Name) (v : ℕ) → IsLoaded served r.roots n v → IsLiveAs r.instances n v
    loaded_lives n v l = by_served (at served n) refl l.version
      where
        reached : at r.page.view n ≡ entry_of (at served n)
        reached = entries n ∙ ap (λ b. if b then entry_of (at served n) else None) ((reached_is served r.roots n).1 l.reached)

        by_served : (o : Option Serving) → at served n ≡ o → version_in o ≡ Some v → IsLiveAs r.instances n v
        by_served None e g = absurd (false≢true (ap is_some g))
        by_served (Some s) e g =
            let entry : at r.page.view n ≡ entry_of (Some s) = reached ∙ ap entry_of e in
            let x : Lives language r n = lives n (ap is_some entry) in
            record { instance = x.instance; made = x.made; live = x.live; name = x.name; version = x.version ∙ ap (version_or x.entry.version) (sym x.entry_is ∙ entry) ∙ same_Some s.version v g }

    live_loaded : (i : Instance) → Contains r.instances i → is_live i ≡ true → IsLoaded served r.roots i.name i.version
    live_loaded i c l = by_reached (has (reached_by served r.roots) i.name) refl
      where
        x : Lives language r i.name
        x = lives i.name (page_of i c l)

        version : x.entry.version ≡ i.version
        version = sym x.version ∙ ap (λ (f : Frame). f.version) (same_live i c l x)

        by_served : (o : Option Serving) → entry_of o ≡ Some x.entry → version_in o ≡ Some i.version
        by_served None e = absurd (false≢true (ap is_some e))
        by_served (Some s) e = ap Some (ap (version_or s.version) e ∙ version)

        by_reached : (b : Bool) → has (reached_by served r.roots) i.name ≡ b → IsLoaded served r.roots i.name i.version
        by_reached false e = absurd (false≢true (ap is_some (sym (entries i.name ∙ ap (λ b. if b then entry_of (at served i.name) else None) e) ∙ x.entry_is)))
        by_reached true e = record { reached = (reached_is served r.roots i.name).0 e; version = by_served (at served i.name) (sym (entries i.name ∙ ap (λ b. if b then entry_of (at served i.name) else None) e) ∙ x.entry_is) }

    pub table_lives : (n : Name) (v : ℕ) → Contains (fresh_table served r.roots) (n, v) ↔ IsLiveAs r.instances n v
    table_lives n v = (
      (λ c. loaded_lives n v ((loaded_is served r.roots n v).0 c)),
      (λ i. (loaded_is served r.roots n v).1 (subst (λ k. IsLoaded served r.roots n k) i.version (subst (λ m. IsLoaded served r.roots m i.instance.version) i.name (live_loaded i.instance i.made i.live)))),
    )

  -- What is stale.

  module _ (whole : AllWhole language (frames r.instances)) where
    linked_there : (n : Name) (x : Name) → (l : Lives language r n) → is_some (at l.instance.links x) ≡ has l.entry.analysis.imports x
    linked_there n x l = whole (frame l.instance) (map_in frame r.instances l.instance l.made) l.entry.analysis (subst (λ m. language.transformed m l.instance.text ≡ Good l.entry.analysis) (sym l.name) l.text) x

    stale_held : (b x : Name) → IsStale r b x → HoldsOlder r b x
    stale_held b x s = by (at l.instance.links x) refl (linked_there b x l ∙ (ap (λ o. has (imports_of o) x) (sym l.entry_is) ∙ s.importing))
      where
        l : Lives language r b
        l = lives b (sym (h.live b) ∙ ap is_some (live_is r.instances b) ∙ some_mapped (live_at r.instances b) ∙ s.live)

        by : (o : Option ℕ) → at l.instance.links x ≡ o → is_some o ≡ true → HoldsOlder r b x
        by None e t = absurd (false≢true t)
        by (Some k) e t = record { instance = l.instance; made = l.made; live = l.live; name = l.name; held = k; link = e; older = λ g. s.older (ap (λ o. link_in o x) l.found ∙ e ∙ sym g) }

    held_stale : (x : Name) (i : Instance) → Contains r.instances i → is_live i ≡ true → (k : ℕ) → at i.links x ≡ Some k → (live_number r x ≡ Some k → ⊥) → IsStale r i.name x
    held_stale x i c l k e older =
        let y : Lives language r i.name = lives i.name (page_of i c l) in
        let link : at y.instance.links x ≡ Some k = ap (λ (f : Frame). at f.links x) (same_live i c l y) ∙ e in
        record {
          live = ap is_some y.found;
          importing = ap (λ o. has (imports_of o) x) y.entry_is ∙ (sym (linked_there i.name x y) ∙ ap is_some link);
          older = λ g. older (sym g ∙ ap (λ o. link_in o x) y.found ∙ link);
        }

    pub stale_is_held : (b x : Name) → IsStale r b x ↔ HoldsOlder r b x
    stale_is_held b x = (stale_held b x, (λ o. subst (λ m. IsStale r m x) o.name (held_stale x o.instance o.made o.live o.held o.link o.older)))

pub stale_run : (language : Language) (opening : Opening) (past : Past) (b x : Name) → IsStale (runtime_after language opening past) b x ↔ HoldsOlder (runtime_after language opening past) b x
stale_run language opening past = stale_is_held language (runtime_after language opening past) (run_holds language opening past) (run_right language opening past) (run_whole language opening past)

-- Each client of the world.

instances_at : (language : Language) (w : World) (life : Life) (i : ℕ) (c : Option Client) (r : Option Runtime) → IfSome c (λ c. IsUpToDate w.core.sources c → IsFreshLoad w.core.sources c) → TiedAt i c r → IsMadeBy language life.opening life.past r → HasInstancesAt w c r
instances_at language w life i c None f t made = tt
instances_at language w life i None (Some r) f t made = tt
instances_at language w life i (Some c) (Some r) f t made = λ up.
    let served : Served = w.core.sources.served in
    let loaded : IsFreshLoad w.core.sources c = f (record { loaded = up.loaded; unchanged = up.unchanged; whole = up.whole }) in
    table_lives language r (subst HoldsOf (sym made) (run_holds language life.opening life.past)) (subst (FitsIn (Right language)) (sym made) (run_right language life.opening life.past)) served
    (λ k. ap (λ (page : Page). at page.view k) t.page ∙ loaded.entries k ∙ ap (λ roots. if has (reached_by served roots) k then entry_of (at served k) else None) (sym t.roots_are))

pub instances_run : (language : Language) (roots : List Name) (shelves : List (List (Text × ℕ))) (past : List Step) → WentOn language roots shelves past → HaveFreshInstances (world_after language roots shelves past)
instances_run language roots shelves past went i =
    let w : World = world_after language roots shelves past in
    instances_at language w (life_of language roots shelves past i) i (client_at w.core.clients i) (client_at w.clients i) (fresh_in roots w.core i (core_made language roots shelves past)) ((run_sound language roots shelves past went).tied i) (made_run language roots shelves past i went)
