-- Handlers that are run or dropped: which of them change, and that those which a later one displaced stay as
-- they are.
use Rattle.std.proofs.Common.{◌≡◌, Bool, true, false, List, [], ◌∷◌, ◌++◌, refl, ap, sym, ◌∙◌}
use Rattle.std.specs.Prelude.{map, ◌&&◌, ◌||◌, if◌then◌else◌, ⊤}
use Rattle.std.proofs.Math.Path.{subst}
use Rattle.std.proofs.lemmas.Bool.{false≢true}
use Rattle.hmr_types.specs.declared.words.HandlerKind.{HandlerKind}
use Rattle.hmr_types.specs.declared.words.HandlerKind.TheVariants as kind
use Rattle.output_lines.specs.declared.words.HandlerEnd.{HandlerEnd}
use Rattle.output_lines.specs.declared.words.HandlerEnd.TheVariants.{Held, Spent, Dropped}
use Rattle.core_model.specs.Names.{Name, has}
use Rattle.core_model.proofs.Naming.{both_true}
use Rattle.client_model.specs.Instance.{Handler, is_held_end, is_held, is_dep, disposes, prunes, accepts_own, accepts_dep, ended_as, with_dropped}
use Rattle.client_model.specs.Running.{end_after}
use Rattle.client_model.specs.Making.{is_displaced_by}
use Rattle.client_model.specs.Applying.{is_left_behind}
use Rattle.journal_laws.specs.Ends.{displaces, is_displaced}

-- each handler, with whether a later one displaced it
abbrev pub AllOf : (Bool → Handler → Type 0) → List Handler → Type 0
AllOf P [] = ⊤
AllOf P (h ∷ later) = P (is_displaced h.kind later) h × AllOf P later

-- the test passes held ones alone
abbrev pub OnlyHeld : (Handler → Bool) → Type 0
OnlyHeld test = (h : Handler) → test h ≡ true → is_held h ≡ true

pub held_dispose : OnlyHeld disposes
held_dispose h t = (both_true (is_held h) _ t).0

pub held_prune : OnlyHeld prunes
held_prune h t = (both_true (is_held h) _ t).0

pub held_own : OnlyHeld accepts_own
held_own h t = (both_true (is_held h) _ t).0

pub held_dep : (n : Name) → OnlyHeld (accepts_dep n)
held_dep n h t = (both_true (is_held h) (is_dep h.kind) (both_true (is_held h && is_dep h.kind) (has h.deps n) t).0).0

pub held_left : OnlyHeld is_left_behind
held_left h t = (both_true (is_held h) _ t).0

pub held_all : OnlyHeld is_held
held_all h t = t

pub held_displaced : (k : HandlerKind) → OnlyHeld (is_displaced_by k)
held_displaced kind.Dispose h t = held_dispose h t
held_displaced kind.Prune h t = held_prune h t
held_displaced kind.Own h t = absurd (false≢true t)
held_displaced kind.Dep h t = absurd (false≢true t)

module _ (test : Handler → Bool) (end : Handler → HandlerEnd) where
  abbrev pub changed : Handler → Handler
  changed h = if test h then ended_as (end h) h else h

  pub changed_kind : (h : Handler) → (changed h).kind ≡ h.kind
  changed_kind h = by (test h)
    where
      by : (b : Bool) → (if b then ended_as (end h) h else h).kind ≡ h.kind
      by true = refl
      by false = refl

  pub unheld_same : OnlyHeld test → (h : Handler) → is_held h ≡ false → changed h ≡ h
  unheld_same only h e = by (test h) refl
    where
      by : (b : Bool) → test h ≡ b → (if b then ended_as (end h) h else h) ≡ h
      by true t = absurd (false≢true (sym e ∙ only h t))
      by false t = refl

  pub changed_displaced : (k : HandlerKind) (later : List Handler) → is_displaced k (map changed later) ≡ is_displaced k later
  changed_displaced k [] = refl
  changed_displaced k (h ∷ later) = ap (λ j. displaces j k || is_displaced k (map changed later)) (changed_kind h) ∙ ap (λ b. displaces h.kind k || b) (changed_displaced k later)

  pub all_changed : (P Q : Bool → Handler → Type 0) → ((b : Bool) (h : Handler) → P b h → Q b (changed h)) → (hs : List Handler) → AllOf P hs → AllOf Q (map changed hs)
  all_changed P Q f [] a = tt
  all_changed P Q f (h ∷ later) a = (
    subst (λ b. Q b (changed h)) (sym (ap (λ k. is_displaced k (map changed later)) (changed_kind h) ∙ changed_displaced h.kind later)) (f (is_displaced h.kind later) h a.0),
    all_changed P Q f later a.1,
  )

-- a callback on dependencies stays as it is where it is run
pub dep_same : (n : Name) (h : Handler) → changed (accepts_dep n) (λ g. end_after g.kind) h ≡ h
dep_same n h = by (accepts_dep n h) refl
  where
    is_dep_kind : (k : HandlerKind) → is_dep k ≡ true → end_after k ≡ Held
    is_dep_kind kind.Dispose e = absurd (false≢true e)
    is_dep_kind kind.Prune e = absurd (false≢true e)
    is_dep_kind kind.Own e = absurd (false≢true e)
    is_dep_kind kind.Dep e = refl

    is_held_now : (e : HandlerEnd) → is_held_end e ≡ true → Held ≡ e
    is_held_now Held t = refl
    is_held_now Spent t = absurd (false≢true t)
    is_held_now Dropped t = absurd (false≢true t)

    by : (b : Bool) → accepts_dep n h ≡ b → (if b then ended_as (end_after h.kind) h else h) ≡ h
    by true t =
        let both = both_true (is_held h) (is_dep h.kind) (both_true (is_held h && is_dep h.kind) (has h.deps n) t).0 in
        ap (λ e. ended_as e h) (is_dep_kind h.kind both.1 ∙ is_held_now h.end both.0)
    by false t = refl

pub deps_same : (n : Name) (hs : List Handler) → map (changed (accepts_dep n) (λ g. end_after g.kind)) hs ≡ hs
deps_same n [] = refl
deps_same n (h ∷ hs) = ap (λ g. g ∷ map (changed (accepts_dep n) (λ g. end_after g.kind)) hs) (dep_same n h) ∙ ap (λ gs. h ∷ gs) (deps_same n hs)

-- What is registered.

pub displaced_test : (later : HandlerKind) (h : Handler) → is_displaced_by later h ≡ (is_held h && displaces later h.kind)
displaced_test later h = by later h.kind
  where
    never : (e : HandlerEnd) → false ≡ (is_held_end e && false)
    never Held = refl
    never Spent = refl
    never Dropped = refl

    by : (a b : HandlerKind) → is_displaced_by a (record h { kind = b }) ≡ (is_held_end h.end && displaces a b)
    by kind.Dispose kind.Dispose = refl
    by kind.Dispose kind.Prune = refl
    by kind.Dispose kind.Own = refl
    by kind.Dispose kind.Dep = refl
    by kind.Prune kind.Dispose = refl
    by kind.Prune kind.Prune = refl
    by kind.Prune kind.Own = refl
    by kind.Prune kind.Dep = refl
    by kind.Own b = never h.end
    by kind.Dep b = never h.end

appended_displaced : (k : HandlerKind) (later : List Handler) (h : Handler) → is_displaced k (later ++ h ∷ []) ≡ (is_displaced k later || displaces h.kind k)
appended_displaced k [] h = right (displaces h.kind k)
  where
    right : (b : Bool) → (b || false) ≡ b
    right true = refl
    right false = refl
appended_displaced k (g ∷ later) h = ap (λ b. displaces g.kind k || b) (appended_displaced k later h) ∙ regroup (displaces g.kind k)
  where
    regroup : (a : Bool) → (a || (is_displaced k later || displaces h.kind k)) ≡ ((a || is_displaced k later) || displaces h.kind k)
    regroup true = refl
    regroup false = refl

-- one more is registered after all of them, and none displaces it
pub all_registered : (P : Bool → Handler → Type 0) (h : Handler) → P false h → ((b : Bool) (g : Handler) → P b g → P (b || displaces h.kind g.kind) (changed (is_displaced_by h.kind) (λ f. Dropped) g)) → (hs : List Handler) → AllOf P hs → AllOf P (with_dropped (is_displaced_by h.kind) hs ++ h ∷ [])
all_registered P h new old [] a = (new, tt)
all_registered P h new old (g ∷ later) a = (
  subst (λ b. P b (changed (is_displaced_by h.kind) (λ f. Dropped) g))
      (sym (ap (λ k. is_displaced k (with_dropped (is_displaced_by h.kind) later ++ h ∷ [])) (changed_kind (is_displaced_by h.kind) (λ f. Dropped) g)
      ∙ appended_displaced g.kind (with_dropped (is_displaced_by h.kind) later) h
      ∙ ap (λ b. b || displaces h.kind g.kind) (changed_displaced (is_displaced_by h.kind) (λ f. Dropped) g.kind later)))
      (old (is_displaced g.kind later) g a.0),
  all_registered P h new old later a.1,
)
