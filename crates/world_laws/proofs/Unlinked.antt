-- Where a client is caught up, an import that the served dependency doesn't export is at a stale edge: the
-- importer's text is the served one, and all that it imports over a link is exported at the other end.
use Rattle.std.proofs.Common.{◌≡◌, ℕ, true, false, List, refl, ap, sym, ◌∙◌, Contains}
use Rattle.std.specs.Prelude.{filter, not, ◌&&◌, Option, Some, None, is_some, option_map, IfSome, if◌then◌else◌}
use Rattle.std.proofs.Math.Path.{subst}
use Rattle.std.proofs.lemmas.Bool.{false≢true}
use Rattle.core_model.specs.Names.{Name, same_name, has, at, sorted}
use Rattle.core_model.specs.Sources.{Text, Serving}
use Rattle.core_model.specs.FreshLoad as fresh
use Rattle.core_model.specs.FreshLoad.{Served, imports_in, reached_by, linked_from, unlinked_edge, unlinked_module, unlinked_of}
use Rattle.core_model.specs.View.{imports_of}
use Rattle.core_model.specs.Page.{Page}
use Rattle.core_model.specs.Client.{Client}
use Rattle.core_model.specs.Core.{client_at}
use Rattle.core_model.proofs.Naming.{both_true, filtered_from, has_is, same_true, sorted_has, not_true}
use Rattle.core_model.proofs.Loading.{reached_is}
use Rattle.core_model.proofs.Reaching.{reaches_on}
use Rattle.core_laws.specs.Fresh.{IsUpToDate, IsFreshLoad}
use Rattle.core_laws.specs.Given.{entry_of}
use Rattle.core_laws.specs.Written.{written}
use Rattle.client_model.specs.Language.{Language, Binding, links_of}
use Rattle.client_model.specs.Instance.{Instance, is_live, live_at}
use Rattle.client_model.specs.Linking.{number_in}
use Rattle.client_model.specs.Runtime.{Runtime}
use Rattle.client_model.specs.Stale.{live_number, link_in, link_of, IsStale}
use Rattle.world_model.specs.World.{World, Step}
use Rattle.world_model.specs.Steps.{world_after}
use Rattle.world_model.specs.Ties.{TiedAt, WentOn}
use Rattle.world_model.proofs.Tying.{run_sound}
use Rattle.world_laws.specs.Changes.{changes_in}
use Rattle.world_laws.specs.Fresh.{IsUnlinkedStale, AreUnlinkedStale}
use Rattle.world_laws.specs.Instances.{IsExporting, AreExported}
use Rattle.world_laws.specs.Stops.{IsMadeBy}
use Rattle.world_laws.specs.Taken.{Life, life_of}
use Rattle.world_laws.specs.Versions.{IsOfPage, AreOfPage, IsServedSame, AreServedSame}
use Rattle.world_laws.proofs.Members.{none_in, map_in, MadeOf, map_from, filter_from, ComesOf, flat_from}
use Rattle.world_laws.proofs.Frames.{Frame, frame, frames, found_in}
use Rattle.world_laws.proofs.Holding.{HoldsOf, live_is}
use Rattle.world_laws.proofs.Making.{same_numbered}
use Rattle.world_laws.proofs.Messages.{run_holds}
use Rattle.world_laws.proofs.Stopping.{row_in}
use Rattle.world_laws.proofs.Exporting.{exported_run}
use Rattle.world_laws.proofs.Freshness.{core_made, fresh_in}
use Rattle.world_laws.proofs.Following.{made_run}
use Rattle.world_laws.proofs.VersionTexts.{of_page_run, served_same_run}

-- n is reached and served, and its text imports x from m, which is served and doesn't export x
record Unlinked (language : Language) (roots : List Name) (served : Served) (n m x : Name) : Type 0 where
  importer : Serving
  dependency : Serving
  reached : has (reached_by served roots) n ≡ true
  importer_is : at served n ≡ Some importer
  imported : has importer.analysis.imports m ≡ true
  dependency_is : at served m ≡ Some dependency
  binding : Binding
  bound : Contains (language.bindings n importer.text) binding
  of_dependency : binding.dependency ≡ m
  of_name : binding.exported ≡ x
  missing : has dependency.analysis.exports x ≡ false

module _ (language : Language) (roots : List Name) (served : Served) where
  -- a name that a text imports from m, with its binding
  record Bound (n m x : Name) (t : Text) : Type 0 where
    binding : Binding
    there : Contains (language.bindings n t) binding
    of_dependency : binding.dependency ≡ m
    of_name : binding.exported ≡ x

  bound_from : (n m x : Name) (t : Text) → has (linked_from (links_of language n t) m) x ≡ true → Bound n m x t
  bound_from n m x t h =
      let links : List (Name × Name) = links_of language n t in
      let l : MadeOf (λ (link : Name × Name). link.1) (filter (λ link. same_name link.0 m) links) x = map_from (λ (link : Name × Name). link.1) (filter (λ link. same_name link.0 m) links) x ((has_is (linked_from links m) x).1 h) in
      let f = filter_from (λ (link : Name × Name). same_name link.0 m) links l.of l.there in
      let b : MadeOf (λ (b : Binding). (b.dependency, b.exported)) (language.bindings n t) l.of = map_from (λ (b : Binding). (b.dependency, b.exported)) (language.bindings n t) l.of f.1 in
      record {
        binding = b.of;
        there = b.there;
        of_dependency = ap (λ (link : Name × Name). link.0) b.makes ∙ same_true l.of.0 m f.0;
        of_name = ap (λ (link : Name × Name). link.1) b.makes ∙ l.makes;
      }

  edge_from : (k j : Name) (s : Serving) (o : Option Serving) (q : Name × Name × Name) → has (reached_by served roots) k ≡ true → at served k ≡ Some s → has s.analysis.imports j ≡ true → at served j ≡ o → Contains (unlinked_edge (links_of language k s.text) o k j) q → Unlinked language roots served q.0 q.1 q.2
  edge_from k j s None q reached e i f c = absurd (none_in q c)
  edge_from k j s (Some u) q reached e i f c =
      let open_names : List Name = filter (λ x. not (has u.analysis.exports x)) (linked_from (links_of language k s.text) j) in
      let x : MadeOf (λ (x : Name). (k, j, x)) (sorted open_names) q = map_from (λ (x : Name). (k, j, x)) (sorted open_names) q c in
      let p = filtered_from (λ x. not (has u.analysis.exports x)) (linked_from (links_of language k s.text) j) x.of (sym (sorted_has open_names x.of) ∙ (has_is (sorted open_names) x.of).0 x.there) in
      let b : Bound k j x.of s.text = bound_from k j x.of s.text p.1 in
      subst (λ (r : Name × Name × Name). Unlinked language roots served r.0 r.1 r.2) x.makes
      (record { importer = s; dependency = u; reached = reached; importer_is = e; imported = i; dependency_is = f; binding = b.binding; bound = b.there; of_dependency = b.of_dependency; of_name = b.of_name; missing = not_true (has u.analysis.exports x.of) p.0 })

  module_from : (k : Name) (o : Option Serving) (q : Name × Name × Name) → has (reached_by served roots) k ≡ true → at served k ≡ o → Contains (unlinked_module (links_of language) served k o) q → Unlinked language roots served q.0 q.1 q.2
  module_from k None q reached e c = absurd (none_in q c)
  module_from k (Some s) q reached e c =
      let j : ComesOf (λ m. unlinked_edge (links_of language k s.text) (at served m) k m) (sorted s.analysis.imports) q = flat_from (λ m. unlinked_edge (links_of language k s.text) (at served m) k m) (sorted s.analysis.imports) q c in
      edge_from k j.of s (at served j.of) q reached e (sym (sorted_has s.analysis.imports j.of) ∙ (has_is (sorted s.analysis.imports) j.of).0 j.there) refl j.gives

  unlinked_from : (q : Name × Name × Name) → Contains (unlinked_of (links_of language) served roots) q → Unlinked language roots served q.0 q.1 q.2
  unlinked_from q c =
      let k : ComesOf (λ n. unlinked_module (links_of language) served n (at served n)) (reached_by served roots) q = flat_from (λ n. unlinked_module (links_of language) served n (at served n)) (reached_by served roots) q c in
      module_from k.of (at served k.of) q ((has_is (reached_by served roots) k.of).0 k.there) refl k.gives

-- the live instance of a name is of what is served of it
record IsLiveServed (r : Runtime) (n : Name) (s : Serving) : Type 0 where
  instance : Instance
  found : live_at r.instances n ≡ Some instance
  made : Contains r.instances instance
  name : instance.name ≡ n
  text : s.text ≡ instance.text
  exports : instance.exports ≡ s.analysis.exports

module _ (language : Language) (roots : List Name) (served : Served) (by : Name → ℕ → Option Text) (r : Runtime) (h : HoldsOf r) (exported : AreExported language r.instances) (of_page : AreOfPage language by (Some r)) (same : AreServedSame served (Some r))
    (entries : (n : Name) → at r.page.view n ≡ (if has (reached_by served roots) n then entry_of (at served n) else None)) where
  entry_is : (n : Name) (s : Serving) → has (reached_by served roots) n ≡ true → at served n ≡ Some s → at r.page.view n ≡ entry_of (Some s)
  entry_is n s reached e = entries n ∙ ap (λ b. if b then entry_of (at served n) else None) reached ∙ ap entry_of e

  live_as : (n : Name) (s : Serving) → has (reached_by served roots) n ≡ true → at served n ≡ Some s → IsLiveServed r n s
  live_as n s reached e = by_live (live_at r.instances n) refl
    where
      entry : at r.page.view n ≡ entry_of (Some s)
      entry = entry_is n s reached e

      by_live : (o : Option Instance) → live_at r.instances n ≡ o → IsLiveServed r n s
      by_live None f = absurd (false≢true (sym (ap (λ o. is_some (option_map frame o)) f) ∙ sym (ap is_some (live_is r.instances n)) ∙ h.live n ∙ ap is_some entry))
      by_live (Some i) f =
          let there = found_in (λ (k : Instance). is_live k && same_name k.name n) r.instances i f in
          let passes = both_true (is_live i) (same_name i.name n) there.1 in
          let name : i.name ≡ n = same_true i.name n passes.1 in
          let of_module : IsOfPage language by (entry_of (Some s)) i = subst (λ o. IsOfPage language by o i) entry (subst (λ k. IsOfPage language by (at r.page.view k) i) name (of_page i there.0 passes.0)) in
          let of_served : IsServedSame (Some s) (entry_of (Some s)) i = subst (λ o. IsServedSame (Some s) o i) entry (subst (λ o. IsServedSame o (at r.page.view n) i) e (subst (λ k. IsServedSame (at served k) (at r.page.view k) i) name (same i there.0 passes.0))) in
          record { instance = i; found = f; made = there.0; name = name; text = (of_served (sym of_module.version)).0; exports = of_module.exports }

  -- the instance of a number is one
  exports_so : (j : Instance) → Contains r.instances j → (x : Name) → IsExporting r.instances j.number x → has j.exports x ≡ true
  exports_so j c x t =
      let f : frame t.instance ≡ frame j = same_numbered (frames r.instances) h.numbered (frame t.instance) (frame j) (map_in frame r.instances t.instance t.made) (map_in frame r.instances j c) t.number in
      ap (λ (g : Frame). has g.exports x) (sym f) ∙ t.exports

  stale_at : (n m x : Name) → Unlinked language roots served n m x → IsStale r n m
  stale_at n m x u = record { live = ap is_some i.found; importing = importing; older = λ e. false≢true (sym u.missing ∙ held e) }
    where
      i : IsLiveServed r n u.importer
      i = live_as n u.importer u.reached u.importer_is

      reached : has (reached_by served roots) m ≡ true
      reached = (reached_is served roots m).1 (reaches_on (fresh.imports served) roots n m ((reached_is served roots n).0 u.reached) (ap (λ o. has (imports_in o) m) u.importer_is ∙ u.imported))

      j : IsLiveServed r m u.dependency
      j = live_as m u.dependency reached u.dependency_is

      importing : has (imports_of (at r.page.view n)) m ≡ true
      importing = ap (λ o. has (imports_of o) m) (entry_is n u.importer u.reached u.importer_is) ∙ u.imported

      held : link_of r n m ≡ live_number r m → has u.dependency.analysis.exports x ≡ true
      held e =
          let number : at i.instance.links m ≡ Some j.instance.number = sym (ap (λ o. link_in o m) i.found) ∙ e ∙ ap number_in j.found in
          let link : Contains {X = Name × ℕ} i.instance.links (u.binding.dependency, j.instance.number) = subst (λ k. Contains {X = Name × ℕ} i.instance.links (k, j.instance.number)) (sym u.of_dependency) (row_in i.instance.links m j.instance.number number) in
          let bound : Contains (language.bindings i.instance.name i.instance.text) u.binding = subst (λ k. Contains (language.bindings k i.instance.text) u.binding) (sym i.name) (subst (λ t. Contains (language.bindings n t) u.binding) i.text u.bound) in
          ap (λ names. has names x) (sym j.exports) ∙ subst (λ k. has j.instance.exports k ≡ true) u.of_name (exports_so j.instance j.made u.binding.exported (exported i.instance i.made u.binding bound j.instance.number link))

-- Each client.

unlinked_by : (language : Language) (w : World) (by : Name → ℕ → Option Text) (life : Life) (i : ℕ) (c : Option Client) (r : Option Runtime) → IfSome c (λ c. IsUpToDate w.core.sources c → IsFreshLoad w.core.sources c) → TiedAt i c r
    → IsMadeBy language life.opening life.past r → AreOfPage language by r → AreServedSame w.core.sources.served r → IsUnlinkedStale language w c r
unlinked_by language w by life i c None f t made of_page same = tt
unlinked_by language w by life i None (Some r) f t made of_page same = tt
unlinked_by language w by life i (Some c) (Some r) f t made of_page same = λ up n m x unlinked.
    let loaded : IsFreshLoad w.core.sources c = f (record { loaded = up.loaded; unchanged = up.unchanged; whole = up.whole }) in
    let served : Served = w.core.sources.served in
    stale_at language r.roots served by r (subst HoldsOf (sym made) (run_holds language life.opening life.past)) (subst (λ (q : Runtime). AreExported language q.instances) (sym made) (exported_run language life.opening life.past)) of_page same
    (λ k. ap (λ (page : Page). at page.view k) t.page ∙ loaded.entries k ∙ ap (λ roots. if has (reached_by served roots) k then entry_of (at served k) else None) (sym t.roots_are)) n m x (unlinked_from language r.roots served (n, m, x) unlinked)

pub unlinked_run : (language : Language) (roots : List Name) (shelves : List (List (Text × ℕ))) (past : List Step) → WentOn language roots shelves past → AreUnlinkedStale language (world_after language roots shelves past)
unlinked_run language roots shelves past went i =
    let w : World = world_after language roots shelves past in
    unlinked_by language w (written (changes_in language roots shelves past)) (life_of language roots shelves past i) i (client_at w.core.clients i) (client_at w.clients i)
    (fresh_in roots w.core i (core_made language roots shelves past)) ((run_sound language roots shelves past went).tied i) (made_run language roots shelves past i went) (of_page_run language roots shelves past i) (served_same_run language roots shelves past i went)
