-- Handlers that are dropped leave the lists of those that are held, and the marks tell it.
use Rattle.std.proofs.Common.{◌≡◌, Bool, true, false, List, [], ◌∷◌, refl, ap, sym, ◌∙◌}
use Rattle.std.specs.Prelude.{map, filter, cond, if◌then◌else◌}
use Rattle.std.proofs.lemmas.Bool.{true≢false}
use Rattle.output_lines.specs.declared.words.HandlerEnd.TheVariants.{Dropped}
use Rattle.client_model.specs.Instance.{Handler, with_dropped, ended_as}
use Rattle.page_instances.specs.declared.marks.Mark.{Mark}
use Rattle.page_instances.specs.Marks.{mark_of, mark_ended, marks_dropped}

-- no handler that was dropped passes the test
abbrev pub AsksHeld : (Handler → Bool) → Type 0
AsksHeld test = (h : Handler) → test (ended_as Dropped h) ≡ false

module _ (test drop : Handler → Bool) (asks : AsksHeld test) where
  -- those that pass the test are all dropped
  pub none_left : ((h : Handler) → test h ≡ true → drop h ≡ true) → (hs : List Handler) → filter test (with_dropped drop hs) ≡ []
  none_left all [] = refl
  none_left all (h ∷ hs) = by (drop h) (test h) refl refl (none_left all hs)
    where
      by : (b c : Bool) → drop h ≡ b → test h ≡ c → filter test (with_dropped drop hs) ≡ [] → filter test ((if b then ended_as Dropped h else h) ∷ with_dropped drop hs) ≡ []
      by true c d t rest = ap (λ e. cond e (ended_as Dropped h ∷ filter test (with_dropped drop hs)) (filter test (with_dropped drop hs))) (asks h) ∙ rest
      by false true d t rest = absurd (true≢false (sym (all h t) ∙ d))
      by false false d t rest = ap (λ e. cond e (h ∷ filter test (with_dropped drop hs)) (filter test (with_dropped drop hs))) t ∙ rest

  -- none of those that pass the test is dropped
  pub same_left : ((h : Handler) → drop h ≡ true → test h ≡ false) → (hs : List Handler) → filter test (with_dropped drop hs) ≡ filter test hs
  same_left others [] = refl
  same_left others (h ∷ hs) = by (drop h) refl (same_left others hs)
    where
      by : (b : Bool) → drop h ≡ b → filter test (with_dropped drop hs) ≡ filter test hs → filter test ((if b then ended_as Dropped h else h) ∷ with_dropped drop hs) ≡ filter test (h ∷ hs)
      by true d rest = ap (λ e. cond e (ended_as Dropped h ∷ filter test (with_dropped drop hs)) (filter test (with_dropped drop hs))) (asks h) ∙ rest ∙ ap (λ e. cond e (h ∷ filter test hs) (filter test hs)) (sym (others h d))
      by false d rest = ap (λ fs. cond (test h) (h ∷ fs) fs) rest

-- the marks of handlers that are dropped
pub marks_are : (drop : Handler → Bool) (marked : Mark → Bool) → ((h : Handler) → marked (mark_of h) ≡ drop h)
    → (hs : List Handler) → map mark_of (with_dropped drop hs) ≡ marks_dropped marked (map mark_of hs)
marks_are drop marked ties [] = refl
marks_are drop marked ties (h ∷ hs) =
    by (drop h)
    ∙ ap (λ b. (if b then mark_ended Dropped (mark_of h) else mark_of h) ∷ map mark_of (with_dropped drop hs)) (sym (ties h))
    ∙ ap (λ ms. (if marked (mark_of h) then mark_ended Dropped (mark_of h) else mark_of h) ∷ ms) (marks_are drop marked ties hs)
  where
    by : (b : Bool) → mark_of (if b then ended_as Dropped h else h) ∷ map mark_of (with_dropped drop hs) ≡ (if b then mark_ended Dropped (mark_of h) else mark_of h) ∷ map mark_of (with_dropped drop hs)
    by true = refl
    by false = refl
