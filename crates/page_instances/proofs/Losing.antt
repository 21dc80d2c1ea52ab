-- What a table holds once handlers were dropped.
use Rattle.std.proofs.Common.{◌≡◌, Bool, true, false, List, [], refl, ap, sym, ◌∙◌}
use Rattle.std.specs.Prelude.{not, ◌&&◌, map, None}
use Rattle.std.proofs.Math.Path.{subst}
use Rattle.std.proofs.lemmas.Bool.{false≢true}
use Rattle.hmr_types.specs.declared.words.HandlerKind.TheVariants as kind
use Rattle.client_model.specs.Instance.{Handler, is_held, is_own, disposes, prunes, accepts_own, with_dropped}
use Rattle.client_model.specs.Applying.{is_left_behind}
use Rattle.handler_table.specs.Handlers.{Holdings}
use Rattle.page_instances.specs.Seeing.{Holds, accepts_some}
use Rattle.page_instances.proofs.ByKind.{of_kind, kind_is, is_held_of_kind}
use Rattle.page_instances.proofs.Filters.{none_left, same_left}

-- a handler of another kind is left behind
left : (k : _) → is_own k ≡ false → (h : Handler) → of_kind k h ≡ true → is_left_behind h ≡ true
left k other h t = ap (λ b. b && not (is_own h.kind)) (is_held_of_kind k h t) ∙ ap (λ n. not (is_own n)) (kind_is k h t) ∙ ap not other

own_stays : (h : Handler) → is_left_behind h ≡ true → accepts_own h ≡ false
own_stays h t = by (is_held h) (is_own h.kind) t
  where
    by : (b c : Bool) → (b && not c) ≡ true → (b && c) ≡ false
    by true true t = absurd (false≢true t)
    by true false t = refl
    by false c t = refl

-- all but the callbacks on the module itself are dropped
pub left_behind : {F : Type 0} (hs : List Handler) (held one two after : Holdings F) → Holds hs held → one ≡ record held { dispose = None } → two ≡ record one { prune = None } → after ≡ record two { deps = [] } → Holds (with_dropped is_left_behind hs) after
left_behind {F} hs held one two after h first second third =
    subst (Holds (with_dropped is_left_behind hs)) (sym (third ∙ ap {A = Holdings F} (λ t. record t { deps = [] }) (second ∙ ap {A = Holdings F} (λ t. record t { prune = None }) first))) are
  where
    are : Holds {F = F} (with_dropped is_left_behind hs) (record { dispose = None; prune = None; own = held.own; deps = [] })
    are = record {
      dispose = ap (map (λ h. h.deed)) (none_left disposes is_left_behind (λ h. refl) (left kind.Dispose refl) hs);
      prune = ap (map (λ h. h.deed)) (none_left prunes is_left_behind (λ h. refl) (left kind.Prune refl) hs);
      own = ap (map (λ h. h.deed)) (same_left accepts_own is_left_behind (λ h. refl) own_stays hs) ∙ h.own;
      deps = ap (map (λ h. (h.deps, h.deed))) (none_left accepts_some is_left_behind (λ h. refl) (left kind.Dep refl) hs);
    }

-- all are dropped
pub none_held : {F : Type 0} (hs : List Handler) (held one two three after : Holdings F) → one ≡ record held { dispose = None } → two ≡ record one { prune = None } → three ≡ record two { own = [] } → after ≡ record three { deps = [] } → Holds (with_dropped is_held hs) after
none_held {F} hs held one two three after first second third fourth =
    subst (Holds (with_dropped is_held hs)) (sym (fourth ∙ ap {A = Holdings F} (λ t. record t { deps = [] }) (third ∙ ap {A = Holdings F} (λ t. record t { own = [] }) (second ∙ ap {A = Holdings F} (λ t. record t { prune = None }) first)))) are
  where
    are : Holds {F = F} (with_dropped is_held hs) (record { dispose = None; prune = None; own = []; deps = [] })
    are = record {
      dispose = ap (map (λ h. h.deed)) (none_left disposes is_held (λ h. refl) (is_held_of_kind kind.Dispose) hs);
      prune = ap (map (λ h. h.deed)) (none_left prunes is_held (λ h. refl) (is_held_of_kind kind.Prune) hs);
      own = ap (map (λ h. h.deed)) (none_left accepts_own is_held (λ h. refl) (is_held_of_kind kind.Own) hs);
      deps = ap (map (λ h. (h.deps, h.deed))) (none_left accepts_some is_held (λ h. refl) (is_held_of_kind kind.Dep) hs);
    }
