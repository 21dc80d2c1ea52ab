-- The first handler that passes a test: the place where it stands, and what is left once it was run.
use Rattle.std.proofs.Common.{◌≡◌, ℕ, zero, suc, ◌+◌, Bool, true, false, List, [], ◌∷◌, ◌++◌, take, drop, refl, ap, sym, ◌∙◌, arith}
use Rattle.std.specs.Prelude.{map, filter, cond, Some, if◌then◌else◌, slice_get, slice_set}
use Rattle.std.proofs.lemmas.Option.{none-some, same_Some}
use Rattle.output_lines.specs.declared.words.HandlerEnd.{HandlerEnd}
use Rattle.output_lines.specs.declared.words.HandlerEnd.TheVariants.{Spent}
use Rattle.core_model.specs.Names.{first_of}
use Rattle.client_model.specs.Instance.{Handler, Deed, ended_as, with_end, places_from}
use Rattle.page_instances.specs.declared.marks.Mark.{Mark}
use Rattle.page_instances.specs.Seeing.{deeds_of}
use Rattle.page_instances.specs.Marks.{mark_of, mark_ended, first_ended}

-- where the first stands, from place k on
pub record First (k : ℕ) (test : Handler → Bool) (marked : Mark → Bool) (hs : List Handler) (deed : Deed) (deeds : List Deed) : Type 0 where
  pub spot : ℕ
  pub place : ℕ
  pub handler : Handler
  pub is : place ≡ k + spot
  pub there : slice_get hs spot ≡ Some handler
  pub does : handler.deed ≡ deed
  pub passes : test handler ≡ true
  pub places : places_from k test hs ≡ place ∷ places_from k test (with_end spot Spent hs)
  pub left : deeds_of test (with_end spot Spent hs) ≡ deeds
  pub marks : map mark_of (with_end spot Spent hs) ≡ first_ended marked Spent (map mark_of hs)
  pub others : (other : Handler → Bool) → ((h : Handler) → test h ≡ true → other h ≡ false) → ((h : Handler) → other (ended_as Spent h) ≡ false) → filter other (with_end spot Spent hs) ≡ filter other hs

module _ (test : Handler → Bool) (marked : Mark → Bool) (asks : (h : Handler) → test (ended_as Spent h) ≡ false) (ties : (h : Handler) → marked (mark_of h) ≡ test h) where
  here : (k : ℕ) (h : Handler) (hs : List Handler) (deed : Deed) (deeds : List Deed) → test h ≡ true → deeds_of test (h ∷ hs) ≡ deed ∷ deeds → First k test marked (h ∷ hs) deed deeds
  here k h hs deed deeds t e =
      let both : map (λ g. g.deed) (h ∷ filter test hs) ≡ deed ∷ deeds = ap (λ b. map (λ g. g.deed) (cond b (h ∷ filter test hs) (filter test hs))) (sym t) ∙ e in
      record {
        spot = 0;
        place = k;
        handler = h;
        is = omega arith;
        there = refl;
        does = same_Some _ _ (ap first_of both);
        passes = t;
        places = ap (λ b. if b then k ∷ places_from (suc k) test hs else places_from (suc k) test hs) t
            ∙ ap (λ ps. k ∷ ps) (ap (λ b. if b then k ∷ places_from (suc k) test hs else places_from (suc k) test hs) (sym (asks h)));
        left = ap (λ b. map (λ g. g.deed) (cond b (ended_as Spent h ∷ filter test hs) (filter test hs))) (asks h) ∙ ap (drop 1) both;
        marks = ap (λ b. if b then mark_ended Spent (mark_of h) ∷ map mark_of hs else mark_of h ∷ first_ended marked Spent (map mark_of hs)) (sym (ties h ∙ t));
        others = λ other apart left. ap (λ b. cond b (ended_as Spent h ∷ filter other hs) (filter other hs)) (left h) ∙ ap (λ b. cond b (h ∷ filter other hs) (filter other hs)) (sym (apart h t));
      }

  later : (k : ℕ) (h : Handler) (hs : List Handler) (deed : Deed) (deeds : List Deed) → test h ≡ false → First (suc k) test marked hs deed deeds → First k test marked (h ∷ hs) deed deeds
  later k h hs deed deeds t f = record {
    spot = suc f.spot;
    place = f.place;
    handler = f.handler;
    is = let is : f.place ≡ suc k + f.spot = f.is in omega (arith, is);
    there = f.there;
    does = f.does;
    passes = f.passes;
    places = ap (λ b. if b then k ∷ places_from (suc k) test hs else places_from (suc k) test hs) t ∙ f.places
        ∙ ap (λ ps. f.place ∷ ps) (ap (λ b. if b then k ∷ places_from (suc k) test (with_end f.spot Spent hs) else places_from (suc k) test (with_end f.spot Spent hs)) (sym t));
    left = ap (λ b. map (λ g. g.deed) (cond b (h ∷ filter test (with_end f.spot Spent hs)) (filter test (with_end f.spot Spent hs)))) t ∙ f.left;
    marks = ap (λ ms. mark_of h ∷ ms) f.marks ∙ ap (λ b. if b then mark_ended Spent (mark_of h) ∷ map mark_of hs else mark_of h ∷ first_ended marked Spent (map mark_of hs)) (sym (ties h ∙ t));
    others = λ other apart left. ap (λ fs. cond (other h) (h ∷ fs) fs) (f.others other apart left);
  }

  -- there is one where some handler passes
  pub first_place : (k : ℕ) (hs : List Handler) (deed : Deed) (deeds : List Deed) → deeds_of test hs ≡ deed ∷ deeds → First k test marked hs deed deeds
  first_place k [] deed deeds e = absurd (none-some deed (ap first_of e))
  first_place k (h ∷ hs) deed deeds e = by (test h) refl (λ e. first_place (suc k) hs deed deeds e)
    where
      by : (b : Bool) → test h ≡ b → (deeds_of test hs ≡ deed ∷ deeds → First (suc k) test marked hs deed deeds) → First k test marked (h ∷ hs) deed deeds
      by true t rest = here k h hs deed deeds t e
      by false t rest = later k h hs deed deeds t (rest (ap (λ b. map (λ g. g.deed) (cond b (h ∷ filter test hs) (filter test hs))) (sym t) ∙ e))

-- no place where none passes
pub no_place : (test : Handler → Bool) (k : ℕ) (hs : List Handler) → deeds_of test hs ≡ [] → places_from k test hs ≡ []
no_place test k [] e = refl
no_place test k (h ∷ hs) e = by (test h) refl (no_place test (suc k) hs)
  where
    by : (b : Bool) → test h ≡ b → (deeds_of test hs ≡ [] → places_from (suc k) test hs ≡ []) → (if b then k ∷ places_from (suc k) test hs else places_from (suc k) test hs) ≡ []
    by true t rest = absurd (none-some _ (sym (ap first_of (ap (λ b. map (λ g. g.deed) (cond b (h ∷ filter test hs) (filter test hs))) (sym t) ∙ e))))
    by false t rest = rest (ap (λ b. map (λ g. g.deed) (cond b (h ∷ filter test hs) (filter test hs))) (sym t) ∙ e)

-- the first mark that passes the test stands here
pub first_here : (test : Mark → Bool) (end : HandlerEnd) (ms : List Mark) (p : ℕ) (m : Mark) → slice_get ms p ≡ Some m → test m ≡ true
    → take p ms ++ first_ended test end (drop p ms) ≡ slice_set ms p (mark_ended end m)
first_here test end [] p m h t = absurd (none-some m h)
first_here test end (x ∷ ms) zero m h t = ap (λ b. if b then mark_ended end x ∷ ms else x ∷ first_ended test end ms) (ap test (same_Some x m h) ∙ t) ∙ ap (λ y. mark_ended end y ∷ ms) (same_Some x m h)
first_here test end (x ∷ ms) (suc p) m h t = ap (λ ys. x ∷ ys) (first_here test end ms p m h t)
