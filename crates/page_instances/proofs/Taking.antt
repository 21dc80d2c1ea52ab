-- A handler is taken off: the disposer, the prune handler, or the earliest callback on the module itself.
use Rattle.std.proofs.Common.{◌≡◌, false, List, [], ◌∷◌, refl, ap, sym, ◌∙◌, arith}
use Rattle.std.proofs.lemmas.Option.{none-some, same_Some}
use Rattle.std.specs.Prelude.{map, drop, slice_get, Some, None, ◌+◌}
use Rattle.std.proofs.Math.Path.{subst}
use Rattle.hmr_types.specs.declared.words.HandlerKind.{HandlerKind}
use Rattle.hmr_types.specs.declared.words.HandlerKind.TheVariants as kind
use Rattle.output_lines.specs.declared.words.HandlerEnd.TheVariants.{Spent}
use Rattle.client_model.specs.Instance as model
use Rattle.client_model.specs.Instance.{disposes, prunes, accepts_own, with_end, places_from}
use Rattle.client_model.specs.Running.{end_after}
use Rattle.handler_table.specs.declared.handler.Handler.{Handler}
use Rattle.page_instances.specs.declared.instance.Instance.{Instance}
use Rattle.page_instances.specs.Seeing.{Sees, Holds, deed_in, deeds_of, listed, accepts_some}
use Rattle.page_instances.specs.Marks.{is_held_of, is_kind, first_ended}
use Rattle.page_instances.specs.Taking.{TakenOff, Lacks}
use Rattle.page_instances.proofs.ByKind.{of_kind, kind_is, apart}
use Rattle.page_instances.proofs.Places.{First, first_place, no_place}

first_split : {X : Type 0} (xs : List X) (x : X) → slice_get xs 0 ≡ Some x → xs ≡ x ∷ drop 1 xs
first_split [] x e = absurd (none-some x e)
first_split (y ∷ ys) x e = ap (λ z. z ∷ ys) (same_Some y x e)

first_none : {X : Type 0} (xs : List X) → slice_get xs 0 ≡ None → xs ≡ []
first_none [] e = refl
first_none (y ∷ ys) e = absurd (none-some y (sym e))

-- the first handler of a kind
first_of_kind : (k : HandlerKind) (is : (h : model.Handler) → of_kind k (model.ended_as Spent h) ≡ false) (hs : List model.Handler) (deed : model.Deed) (deeds : List model.Deed)
    → deeds_of (of_kind k) hs ≡ deed ∷ deeds → First 0 (of_kind k) (is_held_of (is_kind k)) hs deed deeds
first_of_kind k asks hs deed deeds e = first_place (of_kind k) (is_held_of (is_kind k)) asks (λ h. refl) 0 hs deed deeds e

module _ {F : Type 0} (i : model.Instance) (c d : Instance F) (s : Sees i c) where
  -- the first of a kind was taken, and the table has the others
  taken : (k : HandlerKind) (h : Handler F) (deeds : List model.Deed) → end_after k ≡ Spent → (f : First 0 (of_kind k) (is_held_of (is_kind k)) i.handlers (deed_in h) deeds)
      → d ≡ record c { marks = d.marks; held = d.held } → d.marks.items ≡ first_ended (is_held_of (is_kind k)) Spent c.marks.items
      → Holds (with_end f.spot Spent i.handlers) d.held → TakenOff (of_kind k) h i d
  taken k h deeds ends f same marks holds = record {
    spot = f.spot;
    handler = f.handler;
    there = f.there;
    does = f.does;
    ends = ap end_after (kind_is k f.handler f.passes) ∙ ends;
    places = f.places ∙ ap (λ p. p ∷ places_from 0 (of_kind k) (with_end f.spot Spent i.handlers)) (let is : f.place ≡ 0 + f.spot = f.is in omega (arith, is));
    sees = subst (Sees (record i { handlers = with_end f.spot Spent i.handlers })) (sym same) (record {
      name = s.name;
      version = s.version;
      exports = s.exports;
      links = s.links;
      bindings = s.bindings;
      status = s.status;
      fate = s.fate;
      values = s.values;
      marks = f.marks ∙ ap (first_ended (is_held_of (is_kind k)) Spent) s.marks ∙ sym marks;
      held = holds;
    });
  }

  -- there was none
  lacks : (test : model.Handler → _) → deeds_of test i.handlers ≡ [] → d ≡ record c { held = d.held } → Holds i.handlers d.held → Lacks test i d
  lacks test none same holds = record {
    places = no_place test 0 i.handlers none;
    sees = subst (Sees i) (sym same) (record {
      name = s.name;
      version = s.version;
      exports = s.exports;
      links = s.links;
      bindings = s.bindings;
      status = s.status;
      fate = s.fate;
      values = s.values;
      marks = s.marks;
      held = holds;
    });
  }

  pub disposer_taken : (h : Handler F) → c.held.dispose ≡ Some h → d ≡ record c { marks = d.marks; held = d.held } → d.held ≡ record c.held { dispose = None }
      → d.marks.items ≡ first_ended (is_held_of (is_kind kind.Dispose)) Spent c.marks.items → TakenOff disposes h i d
  disposer_taken h was same held marks =
      let f : First 0 (of_kind kind.Dispose) (is_held_of (is_kind kind.Dispose)) i.handlers (deed_in h) [] = first_of_kind kind.Dispose (λ h. refl) i.handlers (deed_in h) [] (s.held.dispose ∙ ap (λ o. map deed_in (listed o)) was) in
      taken kind.Dispose h [] refl f same marks (subst (Holds (with_end f.spot Spent i.handlers)) (sym held) (record {
        dispose = f.left;
        prune = ap (map (λ h. h.deed)) (f.others prunes (apart kind.Dispose kind.Prune refl) (λ h. refl)) ∙ s.held.prune;
        own = ap (map (λ h. h.deed)) (f.others accepts_own (apart kind.Dispose kind.Own refl) (λ h. refl)) ∙ s.held.own;
        deps = ap (map (λ h. (h.deps, h.deed))) (f.others accepts_some (apart kind.Dispose kind.Dep refl) (λ h. refl)) ∙ s.held.deps;
      }))

  pub disposer_lacks : c.held.dispose ≡ None → d ≡ record c { held = d.held } → d.held ≡ record c.held { dispose = None } → Lacks disposes i d
  disposer_lacks was same held = lacks disposes (s.held.dispose ∙ ap (λ o. map deed_in (listed o)) was) same
      (subst (Holds i.handlers) (sym held) (record { dispose = s.held.dispose ∙ ap (λ o. map deed_in (listed o)) was; prune = s.held.prune; own = s.held.own; deps = s.held.deps }))

  pub prune_taken : (h : Handler F) → c.held.prune ≡ Some h → d ≡ record c { marks = d.marks; held = d.held } → d.held ≡ record c.held { prune = None }
      → d.marks.items ≡ first_ended (is_held_of (is_kind kind.Prune)) Spent c.marks.items → TakenOff prunes h i d
  prune_taken h was same held marks =
      let f : First 0 (of_kind kind.Prune) (is_held_of (is_kind kind.Prune)) i.handlers (deed_in h) [] = first_of_kind kind.Prune (λ h. refl) i.handlers (deed_in h) [] (s.held.prune ∙ ap (λ o. map deed_in (listed o)) was) in
      taken kind.Prune h [] refl f same marks (subst (Holds (with_end f.spot Spent i.handlers)) (sym held) (record {
        dispose = ap (map (λ h. h.deed)) (f.others disposes (apart kind.Prune kind.Dispose refl) (λ h. refl)) ∙ s.held.dispose;
        prune = f.left;
        own = ap (map (λ h. h.deed)) (f.others accepts_own (apart kind.Prune kind.Own refl) (λ h. refl)) ∙ s.held.own;
        deps = ap (map (λ h. (h.deps, h.deed))) (f.others accepts_some (apart kind.Prune kind.Dep refl) (λ h. refl)) ∙ s.held.deps;
      }))

  pub prune_lacks : c.held.prune ≡ None → d ≡ record c { held = d.held } → d.held ≡ record c.held { prune = None } → Lacks prunes i d
  prune_lacks was same held = lacks prunes (s.held.prune ∙ ap (λ o. map deed_in (listed o)) was) same
      (subst (Holds i.handlers) (sym held) (record { dispose = s.held.dispose; prune = s.held.prune ∙ ap (λ o. map deed_in (listed o)) was; own = s.held.own; deps = s.held.deps }))

  pub own_taken : (h : Handler F) → slice_get c.held.own 0 ≡ Some h → d ≡ record c { marks = d.marks; held = d.held } → d.held ≡ record c.held { own = drop 1 c.held.own }
      → d.marks.items ≡ first_ended (is_held_of (is_kind kind.Own)) Spent c.marks.items → TakenOff accepts_own h i d
  own_taken h was same held marks =
      let f : First 0 (of_kind kind.Own) (is_held_of (is_kind kind.Own)) i.handlers (deed_in h) (map deed_in (drop 1 c.held.own)) =
      first_of_kind kind.Own (λ h. refl) i.handlers (deed_in h) (map deed_in (drop 1 c.held.own)) (s.held.own ∙ ap (map deed_in) (first_split c.held.own h was)) in
      taken kind.Own h (map deed_in (drop 1 c.held.own)) refl f same marks (subst (Holds (with_end f.spot Spent i.handlers)) (sym held) (record {
        dispose = ap (map (λ h. h.deed)) (f.others disposes (apart kind.Own kind.Dispose refl) (λ h. refl)) ∙ s.held.dispose;
        prune = ap (map (λ h. h.deed)) (f.others prunes (apart kind.Own kind.Prune refl) (λ h. refl)) ∙ s.held.prune;
        own = f.left;
        deps = ap (map (λ h. (h.deps, h.deed))) (f.others accepts_some (apart kind.Own kind.Dep refl) (λ h. refl)) ∙ s.held.deps;
      }))

  pub own_lacks : slice_get c.held.own 0 ≡ None → d ≡ record c { held = d.held } → d.held ≡ record c.held { own = drop 1 c.held.own } → Lacks accepts_own i d
  own_lacks was same held = lacks accepts_own (s.held.own ∙ ap (map deed_in) (first_none c.held.own was)) same
      (subst (Holds i.handlers) (sym held) (record { dispose = s.held.dispose; prune = s.held.prune; own = s.held.own ∙ ap (map deed_in) (first_none c.held.own was ∙ sym (ap (drop 1) (first_none c.held.own was))); deps = s.held.deps }))
