-- Each handler ends by the fate of its instance: through each step of an instance's life its handlers are as
-- far as that step brings them.
use Rattle.std.proofs.Common.{◌≡◌, ℕ, Bool, true, false, List, [], ◌∷◌, ◌++◌, refl, ap, sym, ◌∙◌}
use Rattle.std.specs.Prelude.{map, ◌||◌, ◌&&◌, if◌then◌else◌, ⊤}
use Prim.{⊥}
use Rattle.std.proofs.Math.Path.{subst}
use Rattle.std.proofs.lemmas.Bool.{false≢true}
use Rattle.hmr_types.specs.declared.words.HandlerKind.{HandlerKind}
use Rattle.hmr_types.specs.declared.words.HandlerKind.TheVariants as kind
use Rattle.output_lines.specs.declared.words.HandlerEnd.{HandlerEnd}
use Rattle.output_lines.specs.declared.words.HandlerEnd.TheVariants.{Held, Spent, Dropped}
use Rattle.output_lines.specs.declared.words.InstanceFate.{InstanceFate}
use Rattle.output_lines.specs.declared.words.InstanceFate.TheVariants.{Live, Replaced, Pruned, Reloaded}
use Rattle.core_model.specs.Names.{Name}
use Rattle.client_model.specs.Language.{Language}
use Rattle.client_model.specs.Instance.{Handler, Deed, is_live_fate, is_held_end, is_held, disposes, prunes, accepts_own, ended_as, with_dropped}
use Rattle.client_model.specs.Running.{end_after}
use Rattle.client_model.specs.Making.{is_displaced_by}
use Rattle.client_model.specs.Applying.{is_left_behind}
use Rattle.client_model.specs.Runtime.{Opening}
use Rattle.client_model.specs.Past.{Past, runtime_after, journal_of}
use Rattle.journal_laws.specs.Ends.{displaces, is_displaced, EndsBy, HandlerEnds, HandlersEnd, AllEnd}
use Rattle.journal_laws.proofs.HandlerShapes.{Shape, Word}
use Rattle.journal_laws.proofs.HandlerActs.{run_in}
use Rattle.journal_laws.proofs.HandlerLives.{IsLife}
use Rattle.journal_laws.proofs.HandlerMessages.{of_each}
use Rattle.journal_laws.proofs.HandlerChanges.{AllOf, OnlyHeld, held_dispose, held_prune, held_own, held_left, held_all, held_displaced, changed, unheld_same, all_changed, deps_same, displaced_test, all_registered}

-- a displaced handler is dropped, any other of a kind is as P says
abbrev pub Stands : (HandlerKind → HandlerEnd → Type 0) → Bool → Handler → Type 0
Stands P true h = h.end ≡ Dropped
Stands P false h = P h.kind h.end

pub stands_from : (fate : InstanceFate) (hs : List Handler) → HandlersEnd fate hs → AllOf (Stands (EndsBy fate)) hs
stands_from fate [] e = tt
stands_from fate (h ∷ later) e = (by (is_displaced h.kind later) e.0, stands_from fate later e.1)
  where
    by : (b : Bool) → HandlerEnds b fate h → Stands (EndsBy fate) b h
    by true e = e
    by false e = e

pub stands_to : (fate : InstanceFate) (hs : List Handler) → AllOf (Stands (EndsBy fate)) hs → HandlersEnd fate hs
stands_to fate [] e = tt
stands_to fate (h ∷ later) e = (by (is_displaced h.kind later) e.0, stands_to fate later e.1)
  where
    by : (b : Bool) → Stands (EndsBy fate) b h → HandlerEnds b fate h
    by true e = e
    by false e = e

abbrev run_end : Handler → HandlerEnd
run_end h = end_after h.kind

abbrev drop_end : Handler → HandlerEnd
drop_end h = Dropped

-- a step, by the kind and the end of a handler that none displaced
module _ (test : Handler → Bool) (end : Handler → HandlerEnd) (Q : HandlerKind → HandlerEnd → Type 0) where
  abbrev Then : HandlerKind → List Name → Deed → HandlerEnd → Type 0
  Then k deps deed e = Stands Q false (changed test end (record { kind = k; deps = deps; deed = deed; end = e }))

  all_stand : (P : HandlerKind → HandlerEnd → Type 0) → OnlyHeld test → ((k : HandlerKind) (deps : List Name) (deed : Deed) (e : HandlerEnd) → P k e → Then k deps deed e) → (hs : List Handler) → AllOf (Stands P) hs → AllOf (Stands Q) (map (changed test end) hs)
  all_stand P only step hs a = all_changed test end (Stands P) (Stands Q) by hs a
    where
      by : (b : Bool) (h : Handler) → Stands P b h → Stands Q b (changed test end h)
      by true h e = subst (λ g. g.end ≡ Dropped) (sym (unheld_same test end only h (ap is_held_end e))) e
      by false h p = step h.kind h.deps h.deed h.end p

-- What stands once the disposer was run, then the prune handler.

abbrev pub DisposerSpent : HandlerKind → HandlerEnd → Type 0
DisposerSpent kind.Dispose e = e ≡ Spent
DisposerSpent kind.Prune e = e ≡ Held
DisposerSpent kind.Own e = e ≡ Held
DisposerSpent kind.Dep e = e ≡ Held

abbrev pub BothSpent : HandlerKind → HandlerEnd → Type 0
BothSpent kind.Dispose e = e ≡ Spent
BothSpent kind.Prune e = e ≡ Spent
BothSpent kind.Own e = e ≡ Held
BothSpent kind.Dep e = e ≡ Held

-- the callbacks on the module itself are set aside, and may have been run
abbrev pub SetAside : HandlerKind → HandlerEnd → Type 0
SetAside kind.Dispose e = e ≡ Spent
SetAside kind.Prune e = e ≡ Dropped
SetAside kind.Own e = ⊤
SetAside kind.Dep e = e ≡ Dropped

pub disposing : (hs : List Handler) → AllOf (Stands (EndsBy Live)) hs → AllOf (Stands DisposerSpent) (run_in disposes hs)
disposing = all_stand disposes run_end DisposerSpent (EndsBy Live) held_dispose (λ k deps deed e p. subst (Then disposes run_end DisposerSpent k deps deed) (sym p) (by k deps deed))
  where
    by : (k : HandlerKind) (deps : List Name) (deed : Deed) → Then disposes run_end DisposerSpent k deps deed Held
    by kind.Dispose deps deed = refl
    by kind.Prune deps deed = refl
    by kind.Own deps deed = refl
    by kind.Dep deps deed = refl

pub pruning : (hs : List Handler) → AllOf (Stands DisposerSpent) hs → AllOf (Stands BothSpent) (run_in prunes hs)
pruning = all_stand prunes run_end BothSpent DisposerSpent held_prune by
  where
    by : (k : HandlerKind) (deps : List Name) (deed : Deed) (e : HandlerEnd) → DisposerSpent k e → Then prunes run_end BothSpent k deps deed e
    by kind.Dispose deps deed e p = subst (Then prunes run_end BothSpent kind.Dispose deps deed) (sym p) refl
    by kind.Prune deps deed e p = subst (Then prunes run_end BothSpent kind.Prune deps deed) (sym p) refl
    by kind.Own deps deed e p = subst (Then prunes run_end BothSpent kind.Own deps deed) (sym p) refl
    by kind.Dep deps deed e p = subst (Then prunes run_end BothSpent kind.Dep deps deed) (sym p) refl

leaving_page : (hs : List Handler) → AllOf (Stands BothSpent) hs → AllOf (Stands (EndsBy Pruned)) (with_dropped is_held hs)
leaving_page = all_stand is_held drop_end (EndsBy Pruned) BothSpent held_all by
  where
    by : (k : HandlerKind) (deps : List Name) (deed : Deed) (e : HandlerEnd) → BothSpent k e → Then is_held drop_end (EndsBy Pruned) k deps deed e
    by kind.Dispose deps deed e p = subst (Then is_held drop_end (EndsBy Pruned) kind.Dispose deps deed) (sym p) refl
    by kind.Prune deps deed e p = subst (Then is_held drop_end (EndsBy Pruned) kind.Prune deps deed) (sym p) refl
    by kind.Own deps deed e p = subst (Then is_held drop_end (EndsBy Pruned) kind.Own deps deed) (sym p) refl
    by kind.Dep deps deed e p = subst (Then is_held drop_end (EndsBy Pruned) kind.Dep deps deed) (sym p) refl

setting_aside : (hs : List Handler) → AllOf (Stands DisposerSpent) hs → AllOf (Stands SetAside) (with_dropped is_left_behind hs)
setting_aside = all_stand is_left_behind drop_end SetAside DisposerSpent held_left by
  where
    by : (k : HandlerKind) (deps : List Name) (deed : Deed) (e : HandlerEnd) → DisposerSpent k e → Then is_left_behind drop_end SetAside k deps deed e
    by kind.Dispose deps deed e p = subst (Then is_left_behind drop_end SetAside kind.Dispose deps deed) (sym p) refl
    by kind.Prune deps deed e p = subst (Then is_left_behind drop_end SetAside kind.Prune deps deed) (sym p) refl
    by kind.Own deps deed e p = subst (Then is_left_behind drop_end SetAside kind.Own deps deed) (sym p) tt
    by kind.Dep deps deed e p = subst (Then is_left_behind drop_end SetAside kind.Dep deps deed) (sym p) refl

calling : (hs : List Handler) → AllOf (Stands SetAside) hs → AllOf (Stands SetAside) (run_in accepts_own hs)
calling = all_stand accepts_own run_end SetAside SetAside held_own by
  where
    by_own : (deps : List Name) (deed : Deed) (e : HandlerEnd) → Then accepts_own run_end SetAside kind.Own deps deed e
    by_own deps deed Held = tt
    by_own deps deed Spent = tt
    by_own deps deed Dropped = tt

    by : (k : HandlerKind) (deps : List Name) (deed : Deed) (e : HandlerEnd) → SetAside k e → Then accepts_own run_end SetAside k deps deed e
    by kind.Dispose deps deed e p = subst (Then accepts_own run_end SetAside kind.Dispose deps deed) (sym p) refl
    by kind.Prune deps deed e p = subst (Then accepts_own run_end SetAside kind.Prune deps deed) (sym p) refl
    by kind.Own deps deed e p = by_own deps deed e
    by kind.Dep deps deed e p = subst (Then accepts_own run_end SetAside kind.Dep deps deed) (sym p) refl

laying : (m : ℕ) (hs : List Handler) → AllOf (Stands SetAside) hs → AllOf (Stands (EndsBy (Replaced m))) (with_dropped is_held hs)
laying m = all_stand is_held drop_end (EndsBy (Replaced m)) SetAside held_all by
  where
    by_own : (deps : List Name) (deed : Deed) (e : HandlerEnd) → Then is_held drop_end (EndsBy (Replaced m)) kind.Own deps deed e
    by_own deps deed Held = λ q. false≢true (ap is_held_end q)
    by_own deps deed Spent = λ q. false≢true (ap is_held_end q)
    by_own deps deed Dropped = λ q. false≢true (ap is_held_end q)

    by : (k : HandlerKind) (deps : List Name) (deed : Deed) (e : HandlerEnd) → SetAside k e → Then is_held drop_end (EndsBy (Replaced m)) k deps deed e
    by kind.Dispose deps deed e p = subst (Then is_held drop_end (EndsBy (Replaced m)) kind.Dispose deps deed) (sym p) refl
    by kind.Prune deps deed e p = subst (Then is_held drop_end (EndsBy (Replaced m)) kind.Prune deps deed) (sym p) refl
    by kind.Own deps deed e p = by_own deps deed e
    by kind.Dep deps deed e p = subst (Then is_held drop_end (EndsBy (Replaced m)) kind.Dep deps deed) (sym p) refl

reloading : (hs : List Handler) → AllOf (Stands (EndsBy Live)) hs → AllOf (Stands (EndsBy Reloaded)) (with_dropped is_held hs)
reloading = all_stand is_held drop_end (EndsBy Reloaded) (EndsBy Live) held_all (λ k deps deed e p. subst (Then is_held drop_end (EndsBy Reloaded) k deps deed) (sym p) refl)

registering : (h : Handler) → h.end ≡ Held → (hs : List Handler) → AllOf (Stands (EndsBy Live)) hs → AllOf (Stands (EndsBy Live)) (with_dropped (is_displaced_by h.kind) hs ++ h ∷ [])
registering h held = all_registered (Stands (EndsBy Live)) h held by
  where
    by_test : (g : Handler) → g.end ≡ Held → (c : Bool) → Stands (EndsBy Live) c (if c then ended_as Dropped g else g)
    by_test g p true = refl
    by_test g p false = p

    by : (b : Bool) (g : Handler) → Stands (EndsBy Live) b g → Stands (EndsBy Live) (b || displaces h.kind g.kind) (changed (is_displaced_by h.kind) drop_end g)
    by true g e = subst (λ f. f.end ≡ Dropped) (sym (unheld_same (is_displaced_by h.kind) drop_end (held_displaced h.kind) g (ap is_held_end e))) e
    by false g p = subst (λ d. Stands (EndsBy Live) (displaces h.kind g.kind) (if d then ended_as Dropped g else g)) (sym (displaced_test h.kind g ∙ ap (λ b. b && displaces h.kind g.kind) (ap is_held_end p))) (by_test g p (displaces h.kind g.kind))

-- Lives.

abbrev IsReplaced : InstanceFate → Type 0
IsReplaced Live = ⊥
IsReplaced (Replaced m) = ⊤
IsReplaced Pruned = ⊥
IsReplaced Reloaded = ⊥

abbrev pub YoungEnds : List Handler → List Word → Type 0
YoungEnds hs ws = AllOf (Stands (EndsBy Live)) hs

abbrev pub WholeEnds : Shape → List Word → Type 0
WholeEnds x ws = HandlersEnd x.fate x.handlers

abbrev pub AsideEnds : Shape → List Word → Type 0
AsideEnds x ws = IsReplaced x.fate × AllOf (Stands SetAside) x.handlers

pub live_fate : (fate : InstanceFate) → is_live_fate fate ≡ true → fate ≡ Live
live_fate Live e = refl
live_fate (Replaced m) e = absurd (false≢true e)
live_fate Pruned e = absurd (false≢true e)
live_fate Reloaded e = absurd (false≢true e)

pub live_stands : (x : Shape) → is_live_fate x.fate ≡ true → HandlersEnd x.fate x.handlers → AllOf (Stands (EndsBy Live)) x.handlers
live_stands x l e = stands_from Live x.handlers (subst (λ fate. HandlersEnd fate x.handlers) (live_fate x.fate l) e)

laid_ends : (fate : InstanceFate) (hs : List Handler) → IsReplaced fate → AllOf (Stands SetAside) hs → HandlersEnd fate (with_dropped is_held hs)
laid_ends Live hs i a = absurd i
laid_ends (Replaced m) hs i a = stands_to (Replaced m) (with_dropped is_held hs) (laying m hs a)
laid_ends Pruned hs i a = absurd i
laid_ends Reloaded hs i a = absurd i

pub ends_life : IsLife YoungEnds WholeEnds AsideEnds
ends_life = record {
  unregistered = tt;
  registered = λ hs ws h held y. registering h held hs y;
  made = λ n hs ws y. stands_to Live hs y;
  reloaded = λ x ws l w. stands_to Reloaded (with_dropped is_held x.handlers) (reloading x.handlers (live_stands x l w));
  replaced = λ m x ws l w. (tt, setting_aside (run_in disposes x.handlers) (disposing x.handlers (live_stands x l w)));
  own = λ x ws a. (a.0, calling x.handlers a.1);
  dep_aside = λ n x ws a. (a.0, subst (AllOf (Stands SetAside)) (sym (deps_same n x.handlers)) a.1);
  dep = λ n x ws w. subst (HandlersEnd x.fate) (sym (deps_same n x.handlers)) w;
  laid = λ x ws a. laid_ends x.fate x.handlers a.0 a.1;
  pruned = λ x ws l w. stands_to Pruned (with_dropped is_held (run_in prunes (run_in disposes x.handlers))) (leaving_page (run_in prunes (run_in disposes x.handlers)) (pruning (run_in disposes x.handlers) (disposing x.handlers (live_stands x l w))));
}

pub all_end : (language : Language) (opening : Opening) (past : Past) → AllEnd (runtime_after language opening past) (journal_of language opening past)
all_end = of_each YoungEnds WholeEnds AsideEnds ends_life
