-- A handler is registered: what it displaces is dropped, and it stands behind the others.
use Rattle.std.proofs.Common.{◌≡◌, Bool, true, false, List, [], ◌∷◌, ◌++◌, refl, ap, sym, ◌∙◌}
use Rattle.std.specs.Prelude.{map, filter, cond, Some}
use Rattle.std.proofs.Math.Path.{subst}
use Rattle.std.proofs.lemmas.List.{append-nil, map-append}
use Rattle.std.proofs.lemmas.Bool.{false≢true}
use Rattle.module_tree.specs.Tree.{handler_of}
use Rattle.hmr_types.specs.declared.words.HandlerKind.{HandlerKind}
use Rattle.hmr_types.specs.declared.words.HandlerKind.TheVariants as kind
use Rattle.core_model.specs.Names.{Name}
use Rattle.client_model.specs.Instance.{Handler, Deed, code, disposes, prunes, accepts_own, with_dropped, ended_as}
use Rattle.client_model.specs.Making.{is_displaced_by}
use Rattle.handler_table.specs.Handlers.{Holdings}
use Rattle.handler_table.specs.declared.dep.Dep.{Dep}
use Rattle.handler_table.specs.declared.handler.Handler as table
use Rattle.client_model.specs.Instance as model
use Rattle.page_instances.specs.declared.instance.Instance.{Instance}
use Rattle.page_instances.specs.declared.marks.Mark.{Mark}
use Rattle.page_instances.specs.Seeing.{Sees, Holds, deed_in, dep_in, accepts_some}
use Rattle.page_instances.specs.Marks.{mark_of, marks_dropped}
use Rattle.page_instances.specs.Holding.{held_handler, with_held}
use Rattle.page_instances.proofs.ByKind.{apart}
use Rattle.page_instances.proofs.Filters.{AsksHeld, none_left, same_left, marks_are}

filter_more : (test : Handler → Bool) (hs : List Handler) (h : Handler) → filter test (hs ++ h ∷ []) ≡ filter test hs ++ filter test (h ∷ [])
filter_more test [] h = refl
filter_more test (g ∷ hs) h = by (test g) (filter_more test hs h)
  where
    by : (b : Bool) → filter test (hs ++ h ∷ []) ≡ filter test hs ++ filter test (h ∷ []) → cond b (g ∷ filter test (hs ++ h ∷ [])) (filter test (hs ++ h ∷ [])) ≡ cond b (g ∷ filter test hs) (filter test hs) ++ filter test (h ∷ [])
    by true rest = ap (λ fs. g ∷ fs) rest
    by false rest = rest

-- where nothing is dropped all stay
pub none_dropped : (hs : List Handler) → with_dropped (λ h. false) hs ≡ hs
none_dropped [] = refl
none_dropped (h ∷ hs) = ap (λ gs. h ∷ gs) (none_dropped hs)

module _ (hs : List Handler) (k : HandlerKind) (new : Handler) where
  abbrev pub gained : List Handler
  gained = with_dropped (is_displaced_by k) hs ++ new ∷ []

  -- handlers that the new one neither is nor displaces are the same
  unseen : (test : Handler → Bool) → AsksHeld test → ((h : Handler) → is_displaced_by k h ≡ true → test h ≡ false) → test new ≡ false → filter test gained ≡ filter test hs
  unseen test asks others none = filter_more test (with_dropped (is_displaced_by k) hs) new
      ∙ ap (λ b. filter test (with_dropped (is_displaced_by k) hs) ++ cond b (new ∷ []) []) none
      ∙ append-nil (filter test (with_dropped (is_displaced_by k) hs)) ∙ same_left test (is_displaced_by k) asks others hs

  -- the new one is the only one where it displaces the others
  alone : (test : Handler → Bool) → AsksHeld test → ((h : Handler) → test h ≡ true → is_displaced_by k h ≡ true) → test new ≡ true → filter test gained ≡ new ∷ []
  alone test asks all one = filter_more test (with_dropped (is_displaced_by k) hs) new
      ∙ ap (λ b. filter test (with_dropped (is_displaced_by k) hs) ++ cond b (new ∷ []) []) one
      ∙ ap (λ fs. fs ++ new ∷ []) (none_left test (is_displaced_by k) asks all hs)

  -- else it stands behind them
  behind : (test : Handler → Bool) → AsksHeld test → ((h : Handler) → is_displaced_by k h ≡ true → test h ≡ false) → test new ≡ true → filter test gained ≡ filter test hs ++ new ∷ []
  behind test asks others one = filter_more test (with_dropped (is_displaced_by k) hs) new
      ∙ ap (λ b. filter test (with_dropped (is_displaced_by k) hs) ++ cond b (new ∷ []) []) one
      ∙ ap (λ fs. fs ++ new ∷ []) (same_left test (is_displaced_by k) asks others hs)

module _ {F : Type 0} (hs : List Handler) (held after : Holdings F) (holds : Holds hs held) where
  pub disposer_held : (deps : List Name) (h : table.Handler F) → after ≡ record held { dispose = Some h }
      → Holds (with_dropped (is_displaced_by kind.Dispose) hs ++ held_handler kind.Dispose deps (deed_in h) ∷ []) after
  disposer_held deps h is = subst (Holds (gained hs kind.Dispose (held_handler kind.Dispose deps (deed_in h)))) (sym is) (record {
    dispose = ap (map (λ h. h.deed)) (alone hs kind.Dispose _ disposes (λ h. refl) (λ h t. t) refl);
    prune = ap (map (λ h. h.deed)) (unseen hs kind.Dispose _ prunes (λ h. refl) (apart kind.Dispose kind.Prune refl) refl) ∙ holds.prune;
    own = ap (map (λ h. h.deed)) (unseen hs kind.Dispose _ accepts_own (λ h. refl) (apart kind.Dispose kind.Own refl) refl) ∙ holds.own;
    deps = ap (map (λ h. (h.deps, h.deed))) (unseen hs kind.Dispose _ accepts_some (λ h. refl) (apart kind.Dispose kind.Dep refl) refl) ∙ holds.deps;
  })

  pub prune_held : (deps : List Name) (h : table.Handler F) → after ≡ record held { prune = Some h }
      → Holds (with_dropped (is_displaced_by kind.Prune) hs ++ held_handler kind.Prune deps (deed_in h) ∷ []) after
  prune_held deps h is = subst (Holds (gained hs kind.Prune (held_handler kind.Prune deps (deed_in h)))) (sym is) (record {
    dispose = ap (map (λ h. h.deed)) (unseen hs kind.Prune _ disposes (λ h. refl) (apart kind.Prune kind.Dispose refl) refl) ∙ holds.dispose;
    prune = ap (map (λ h. h.deed)) (alone hs kind.Prune _ prunes (λ h. refl) (λ h t. t) refl);
    own = ap (map (λ h. h.deed)) (unseen hs kind.Prune _ accepts_own (λ h. refl) (apart kind.Prune kind.Own refl) refl) ∙ holds.own;
    deps = ap (map (λ h. (h.deps, h.deed))) (unseen hs kind.Prune _ accepts_some (λ h. refl) (apart kind.Prune kind.Dep refl) refl) ∙ holds.deps;
  })

  pub own_held : (deps : List Name) (h : table.Handler F) → after ≡ record held { own = held.own ++ h ∷ [] }
      → Holds (with_dropped (is_displaced_by kind.Own) hs ++ held_handler kind.Own deps (deed_in h) ∷ []) after
  own_held deps h is = subst (Holds (gained hs kind.Own (held_handler kind.Own deps (deed_in h)))) (sym is) (record {
    dispose = ap (map (λ h. h.deed)) (unseen hs kind.Own _ disposes (λ h. refl) (λ h t. absurd (false≢true t)) refl) ∙ holds.dispose;
    prune = ap (map (λ h. h.deed)) (unseen hs kind.Own _ prunes (λ h. refl) (λ h t. absurd (false≢true t)) refl) ∙ holds.prune;
    own = ap (map (λ h. h.deed)) (behind hs kind.Own _ accepts_own (λ h. refl) (λ h t. absurd (false≢true t)) refl)
        ∙ map-append (λ h. h.deed) (filter accepts_own hs) (held_handler kind.Own deps (deed_in h) ∷ [])
        ∙ ap (λ ds. ds ++ deed_in h ∷ []) holds.own ∙ sym (map-append deed_in held.own (h ∷ []));
    deps = ap (map (λ h. (h.deps, h.deed))) (unseen hs kind.Own _ accepts_some (λ h. refl) (λ h t. absurd (false≢true t)) refl) ∙ holds.deps;
  })

  pub dep_held : (d : Dep) → after ≡ record held { deps = held.deps ++ d ∷ [] }
      → Holds (with_dropped (is_displaced_by kind.Dep) hs ++ held_handler kind.Dep d.deps (code (handler_of d.code)) ∷ []) after
  dep_held d is = subst (Holds (gained hs kind.Dep (held_handler kind.Dep d.deps (code (handler_of d.code))))) (sym is) (record {
    dispose = ap (map (λ h. h.deed)) (unseen hs kind.Dep _ disposes (λ h. refl) (λ h t. absurd (false≢true t)) refl) ∙ holds.dispose;
    prune = ap (map (λ h. h.deed)) (unseen hs kind.Dep _ prunes (λ h. refl) (λ h t. absurd (false≢true t)) refl) ∙ holds.prune;
    own = ap (map (λ h. h.deed)) (unseen hs kind.Dep _ accepts_own (λ h. refl) (λ h t. absurd (false≢true t)) refl) ∙ holds.own;
    deps = ap (map (λ h. (h.deps, h.deed))) (behind hs kind.Dep _ accepts_some (λ h. refl) (λ h t. absurd (false≢true t)) refl)
        ∙ map-append (λ h. (h.deps, h.deed)) (filter accepts_some hs) (held_handler kind.Dep d.deps (code (handler_of d.code)) ∷ [])
        ∙ ap (λ ds. ds ++ dep_in d ∷ []) holds.deps ∙ sym (map-append dep_in held.deps (d ∷ []));
  })

-- The instance has one handler more, and what that displaces is dropped: told by its marks and its table.
pub gains : {F : Type 0} (k : HandlerKind) (deps : List Name) (deed : Deed) (marked : Mark → Bool) → ((h : Handler) → marked (mark_of h) ≡ is_displaced_by k h)
    → (i : model.Instance) (c d : Instance F) → Sees i c → d ≡ record c { marks = d.marks; held = d.held }
    → d.marks.items ≡ marks_dropped marked c.marks.items ++ mark_of (held_handler k deps deed) ∷ []
    → Holds (with_dropped (is_displaced_by k) i.handlers ++ held_handler k deps deed ∷ []) d.held
    → Sees (with_held k deps deed i) d
gains k deps deed marked ties i c d s same marks holds = subst (Sees (with_held k deps deed i)) (sym same) (record {
  name = s.name;
  version = s.version;
  exports = s.exports;
  links = s.links;
  bindings = s.bindings;
  status = s.status;
  fate = s.fate;
  values = s.values;
  marks = map-append mark_of (with_dropped (is_displaced_by k) i.handlers) (held_handler k deps deed ∷ [])
      ∙ ap (λ ms. ms ++ mark_of (held_handler k deps deed) ∷ []) (marks_are (is_displaced_by k) marked ties i.handlers ∙ ap (marks_dropped marked) s.marks)
      ∙ sym marks;
  held = holds;
})

-- no mark is dropped
pub all_marks : (ms : List Mark) → marks_dropped (λ m. false) ms ≡ ms
all_marks [] = refl
all_marks (m ∷ ms) = ap (λ ns. m ∷ ns) (all_marks ms)
