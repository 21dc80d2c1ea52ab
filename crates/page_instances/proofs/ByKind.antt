-- Held handlers by their kind: one that is of a kind is of no other.
use Rattle.std.proofs.Common.{◌≡◌, Bool, true, false, refl, ap, ◌∙◌}
use Rattle.std.specs.Prelude.{◌&&◌}
use Rattle.std.proofs.lemmas.Bool.{false≢true}
use Rattle.hmr_types.specs.declared.words.HandlerKind.{HandlerKind}
use Rattle.hmr_types.specs.declared.words.HandlerKind.TheVariants as kind
use Rattle.output_lines.specs.declared.words.HandlerEnd.{HandlerEnd}
use Rattle.output_lines.specs.declared.words.HandlerEnd.TheVariants.{Held}
use Rattle.client_model.specs.Instance.{Handler, is_held, is_held_end}
use Rattle.page_instances.specs.Marks.{is_kind}

-- a held handler of a kind
abbrev pub of_kind : HandlerKind → Handler → Bool
of_kind k h = is_held h && is_kind k h.kind

-- its kind is that one
pub kind_is : (k : HandlerKind) (h : Handler) → of_kind k h ≡ true → h.kind ≡ k
kind_is k h t = by h.end k h.kind t
  where
    by : (e : HandlerEnd) (k m : HandlerKind) → (is_held_end e && is_kind k m) ≡ true → m ≡ k
    by Held kind.Dispose kind.Dispose t = refl
    by Held kind.Prune kind.Prune t = refl
    by Held kind.Own kind.Own t = refl
    by Held kind.Dep kind.Dep t = refl
    by e k m t = absurd (false≢true t)

never : (b : Bool) → (b && false) ≡ false
never true = refl
never false = refl

-- so it is of no other kind
pub apart : (k m : HandlerKind) → is_kind m k ≡ false → (h : Handler) → of_kind k h ≡ true → of_kind m h ≡ false
apart k m other h t = ap (λ n. is_held h && is_kind m n) (kind_is k h t) ∙ ap (λ b. is_held h && b) other ∙ never (is_held h)

-- and it is held
pub is_held_of_kind : (k : HandlerKind) (h : Handler) → of_kind k h ≡ true → is_held h ≡ true
is_held_of_kind k h t = by (is_held h) t
  where
    by : (b : Bool) → (b && is_kind k h.kind) ≡ true → b ≡ true
    by true t = refl
    by false t = absurd (false≢true t)
