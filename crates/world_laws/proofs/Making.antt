-- What holds of the frames of a client's instances holds of the instances.
use Rattle.std.proofs.Common.{◌≡◌, ◌↔◌, ◌⊎◌, inl, inr, ℕ, suc, ◌≤◌, Bool, true, false, List, [], ◌∷◌, length, refl, ap, sym, ◌∙◌, arith, Contains}
use Rattle.std.specs.Prelude.{filter, cond, ◌&&◌, Option, Some, None, is_some, option_map}
use Rattle.std.proofs.lemmas.List.{length-map}
use Rattle.core_model.specs.Names.{Name, same_name}
use Rattle.core_model.specs.View.{is_in}
use Rattle.client_model.specs.Language.{Language}
use Rattle.client_model.specs.Instance.{Instance, is_live, live_at}
use Rattle.client_model.specs.Applying.{live_of}
use Rattle.client_model.specs.Past.{Past, runtime_after}
use Rattle.client_model.specs.Runtime.{Opening}
use Rattle.client_model.specs.Stale.{IsStale, stale_of}
use Rattle.world_laws.specs.Instances.{AreNumbered, IsMadeOf, AreLinked, AreCounted}
use Rattle.world_laws.proofs.Members.{none_in, in_cases, map_in, MadeOf, map_from}
use Rattle.world_laws.proofs.Frames.{Frame, frame, frames, is_of, live_one, live_count, Numbered, number_low}
use Rattle.world_laws.proofs.Holding.{LeadsTo, HoldsOf, live_is}
use Rattle.world_laws.proofs.Messages.{run_holds}
use Rattle.world_laws.proofs.StaleLists.{listed_are}

pub numbered_are : (is : List Instance) → Numbered (frames is) → AreNumbered is
numbered_are [] d = tt
numbered_are (i ∷ is) d = (d.0 ∙ ap suc (length-map is frame), numbered_are is d.1)

from_one : (fs : List Frame) → Numbered fs → (f : Frame) → Contains fs f → 1 ≤ f.number
from_one [] d f c = absurd (none_in f c)
from_one (g ∷ fs) d f c = by (from_one fs d.1 f) (in_cases g fs f c)
  where
    by : (Contains fs f → 1 ≤ f.number) → (g ≡ f) ⊎ Contains fs f → 1 ≤ f.number
    by rest (inl e) = omega (arith, d.0, ap (λ (h : Frame). h.number) e)
    by rest (inr t) = rest t

-- one of each number
pub same_numbered : (fs : List Frame) → Numbered fs → (f g : Frame) → Contains fs f → Contains fs g → f.number ≡ g.number → f ≡ g
same_numbered [] d f g c k e = absurd (none_in f c)
same_numbered (h ∷ fs) d f g c k e = by (same_numbered fs d.1 f g) (in_cases h fs f c) (in_cases h fs g k)
  where
    by : (Contains fs f → Contains fs g → f.number ≡ g.number → f ≡ g) → (h ≡ f) ⊎ Contains fs f → (h ≡ g) ⊎ Contains fs g → f ≡ g
    by rest (inl a) (inl b) = sym a ∙ b
    by rest (inl a) (inr t) = absurd (omega (arith, number_low fs d.1 g t, d.0, e, ap (λ (i : Frame). i.number) a))
    by rest (inr t) (inl b) = absurd (omega (arith, number_low fs d.1 f t, d.0, e, ap (λ (i : Frame). i.number) b))
    by rest (inr t) (inr u) = rest t u e

counted_in : (is : List Instance) → Numbered (frames is) → (f : Frame) → Contains (frames is) f → (1 ≤ f.number) × (f.number ≤ length is)
counted_in is d f c = (from_one (frames is) d f c, omega (arith, number_low (frames is) d f c, length-map is frame))

-- how many are live under a name
pub one_counted : (is : List Instance) (n : Name) → length (filter (λ i. is_live i && same_name i.name n) is) ≡ live_count (frames is) n
one_counted [] n = refl
one_counted (i ∷ is) n = by (is_of n (frame i)) (one_counted is n)
  where
    by : (b : Bool) → length (filter (λ j. is_live j && same_name j.name n) is) ≡ live_count (frames is) n → length (cond b (i ∷ filter (λ j. is_live j && same_name j.name n) is) (filter (λ j. is_live j && same_name j.name n) is)) ≡ length (cond b (frame i ∷ filter (is_of n) (frames is)) (filter (is_of n) (frames is)))
    by true h = ap suc h
    by false h = h

lead_is : (is : List Instance) (x : Name) (k : ℕ) → LeadsTo (frames is) x k → IsMadeOf is x k
lead_is is x k l =
    let m : MadeOf frame is l.to = map_from frame is l.to l.there in
    record { instance = m.of; made = m.there; number = ap (λ (f : Frame). f.number) m.makes ∙ l.number; name = ap (λ (f : Frame). f.name) m.makes ∙ l.name }

some_framed : (o : Option Instance) → is_some o ≡ is_some (option_map frame o)
some_framed None = refl
some_framed (Some i) = refl

-- the links of each lead to what they import
pub linked_are : (is : List Instance) → ((f : Frame) → Contains (frames is) f → (x : Name) (k : ℕ) → Contains f.links (x, k) → LeadsTo (frames is) x k) → AreLinked is
linked_are is h i c x k l = lead_is is x k (h (frame i) (map_in frame is i c) x k l)

-- whether a name is live
pub live_framed : (is : List Instance) (n : Name) → is_some (live_at is n) ≡ is_some (live_one (frames is) n)
live_framed is n = some_framed (live_at is n) ∙ ap is_some (sym (live_is is n))

module _ (language : Language) (opening : Opening) (past : Past) where
  held : HoldsOf (runtime_after language opening past)
  held = run_holds language opening past

  pub numbered_run : AreNumbered (runtime_after language opening past).instances
  numbered_run = numbered_are (runtime_after language opening past).instances held.numbered

  pub linked_run : AreLinked (runtime_after language opening past).instances
  linked_run = linked_are (runtime_after language opening past).instances held.linked

  pub counted_run : AreCounted (runtime_after language opening past).instances
  counted_run =
      let is : List Instance = (runtime_after language opening past).instances in
      record {
        numbers = λ i c. counted_in is held.numbered (frame i) (map_in frame is i c);
        links = λ i c x k l. by x k (held.linked (frame i) (map_in frame is i c) x k l);
      }
    where
      by : (x : Name) (k : ℕ) → LeadsTo (frames (runtime_after language opening past).instances) x k → (1 ≤ k) × (k ≤ length (runtime_after language opening past).instances)
      by x k l = let b = counted_in (runtime_after language opening past).instances held.numbered l.to l.there in (omega (arith, b.0, l.number), omega (arith, b.1, l.number))

  pub one_run : (n : Name) → length (live_of (λ m. same_name m n) (runtime_after language opening past)) ≤ 1
  one_run n = omega (arith, one_counted (runtime_after language opening past).instances n, held.one n)

  pub live_run : (n : Name) → is_some (live_at (runtime_after language opening past).instances n) ≡ is_in (runtime_after language opening past).page.view n
  live_run n = live_framed (runtime_after language opening past).instances n ∙ held.live n

  pub listed_run : (b x : Name) → Contains (stale_of (runtime_after language opening past)) (b, x) ↔ IsStale (runtime_after language opening past) b x
  listed_run = listed_are (runtime_after language opening past) (λ n h. live_run n ∙ h)
