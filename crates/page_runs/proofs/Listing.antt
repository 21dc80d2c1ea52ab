-- Held callbacks on dependencies, one after another: which of them list a name, and where they stand.
use Rattle.std.proofs.Common.{◌≡◌, ℕ, zero, suc, ◌+◌, Bool, true, false, List, [], ◌∷◌, map, refl, ap, sym, ◌∙◌, arith}
use Rattle.std.specs.Prelude.{◌&&◌, cond, filter, Some, None, if◌then◌else◌, slice_get}
use Rattle.std.proofs.lemmas.Bool.{false≢true}
use Rattle.std.proofs.lemmas.Option.{none-some, same_Some}
use Rattle.hmr_types.specs.declared.words.HandlerKind.TheVariants as kind
use Rattle.output_lines.specs.declared.words.HandlerEnd.{HandlerEnd}
use Rattle.output_lines.specs.declared.words.HandlerEnd.TheVariants.{Held}
use Rattle.core_model.specs.Names.{Name, has}
use Rattle.client_model.specs.Instance.{Handler, Deed, is_held, is_held_end, is_dep, accepts_dep, with_end, places_from}
use Rattle.client_model.specs.Running.{end_after}
use Rattle.page_instances.specs.Seeing.{accepts_some, deps_of}
use Rattle.page_instances.proofs.ByKind.{kind_is, is_held_of_kind}
use Rattle.page_runs.specs.Telling.{listing_from}

-- where none was passed these are all that list the name
pub listing_all : (n : Name) (k : ℕ) (hs : List Handler) → listing_from n k zero hs ≡ places_from k (accepts_dep n) hs
listing_all n k [] = refl
listing_all n k (h ∷ hs) = by (is_held h) (is_dep h.kind) (has h.deps n) (listing_all n (suc k) hs)
  where
    by : (a b c : Bool) → listing_from n (suc k) zero hs ≡ places_from (suc k) (accepts_dep n) hs
        → (if (a && b) then (if c then k ∷ listing_from n (suc k) zero hs else listing_from n (suc k) zero hs) else listing_from n (suc k) zero hs) ≡ (if ((a && b) && c) then k ∷ places_from (suc k) (accepts_dep n) hs else places_from (suc k) (accepts_dep n) hs)
    by true true true rest = ap (λ ps. k ∷ ps) rest
    by true true false rest = rest
    by true false c rest = rest
    by false b c rest = rest

held_is : (e : HandlerEnd) → is_held_end e ≡ true → e ≡ Held
held_is Held t = refl
held_is e t = absurd (false≢true t)

-- a held callback on dependencies is held after its run
ends_held : (h : Handler) → accepts_some h ≡ true → end_after h.kind ≡ h.end
ends_held h t = ap end_after (kind_is kind.Dep h t) ∙ sym (held_is h.end (is_held_of_kind kind.Dep h t))

-- what a callback on dependencies lists and does
abbrev pub row : List Name → Deed → List Name × Deed
row deps deed = (deps, deed)

-- the callback after so many others, where it lists the name
pub record Stands (n : Name) (k passed : ℕ) (hs : List Handler) (deps : List Name) (deed : Deed) : Type 0 where
  pub spot : ℕ
  pub place : ℕ
  pub handler : Handler
  pub is : place ≡ k + spot
  pub there : slice_get hs spot ≡ Some handler
  pub lists : handler.deps ≡ deps
  pub does : handler.deed ≡ deed
  pub places : listing_from n k passed hs ≡ place ∷ listing_from n k (suc passed) hs
  pub kept : with_end spot (end_after handler.kind) hs ≡ hs

module _ (n : Name) (deps : List Name) (deed : Deed) (listed : has deps n ≡ true) where
  here : (k : ℕ) (h : Handler) (hs : List Handler) → accepts_some h ≡ true → row h.deps h.deed ≡ row deps deed → Stands n k zero (h ∷ hs) deps deed
  here k h hs t same = record {
    spot = zero;
    place = k;
    handler = h;
    is = omega arith;
    there = refl;
    lists = ap (λ x. x.0) same;
    does = ap (λ x. x.1) same;
    places = ap (λ b. if b then (if has h.deps n then k ∷ listing_from n (suc k) zero hs else listing_from n (suc k) zero hs) else listing_from n (suc k) zero hs) t
        ∙ ap (λ b. if b then k ∷ listing_from n (suc k) zero hs else listing_from n (suc k) zero hs) (ap (λ x. has x.0 n) same ∙ listed)
        ∙ ap (λ b. k ∷ (if b then listing_from n (suc k) zero hs else listing_from n (suc k) (suc zero) hs)) (sym t);
    kept = ap (λ e. record h { end = e } ∷ hs) (ends_held h t);
  }

  past : (k passed : ℕ) (h : Handler) (hs : List Handler) → accepts_some h ≡ true → Stands n (suc k) passed hs deps deed → Stands n k (suc passed) (h ∷ hs) deps deed
  past k passed h hs t s = record {
    spot = suc s.spot;
    place = s.place;
    handler = s.handler;
    is = let is : s.place ≡ suc k + s.spot = s.is in omega (arith, is);
    there = s.there;
    lists = s.lists;
    does = s.does;
    places = ap (λ b. if b then listing_from n (suc k) passed hs else listing_from n (suc k) (suc passed) hs) t ∙ s.places
        ∙ ap (λ b. s.place ∷ (if b then listing_from n (suc k) (suc passed) hs else listing_from n (suc k) (suc (suc passed)) hs)) (sym t);
    kept = ap (λ gs. h ∷ gs) s.kept;
  }

  beside : (k passed : ℕ) (h : Handler) (hs : List Handler) → accepts_some h ≡ false → Stands n (suc k) passed hs deps deed → Stands n k passed (h ∷ hs) deps deed
  beside k passed h hs t s = record {
    spot = suc s.spot;
    place = s.place;
    handler = s.handler;
    is = let is : s.place ≡ suc k + s.spot = s.is in omega (arith, is);
    there = s.there;
    lists = s.lists;
    does = s.does;
    places = by passed ∙ s.places ∙ ap (λ ps. s.place ∷ ps) (sym (by (suc passed)));
    kept = ap (λ gs. h ∷ gs) s.kept;
  }
    where
      by : (p : ℕ) → listing_from n k p (h ∷ hs) ≡ listing_from n (suc k) p hs
      by zero = ap (λ b. if b then (if has h.deps n then k ∷ listing_from n (suc k) zero hs else listing_from n (suc k) zero hs) else listing_from n (suc k) zero hs) t
      by (suc p) = ap (λ b. if b then listing_from n (suc k) p hs else listing_from n (suc k) (suc p) hs) t

  -- the callback of a place in the table that lists the name stands where the model runs it
  pub stands_next : (k passed : ℕ) (hs : List Handler) → slice_get (deps_of hs) passed ≡ Some (row deps deed) → Stands n k passed hs deps deed
  stands_next k passed [] e = absurd (none-some _ e)
  stands_next k zero (h ∷ hs) e = by (accepts_some h) refl (stands_next (suc k) zero hs) e
    where
      by : (b : Bool) → accepts_some h ≡ b → (slice_get (deps_of hs) zero ≡ Some (row deps deed) → Stands n (suc k) zero hs deps deed)
          → slice_get (map (λ g. row g.deps g.deed) (cond b (h ∷ filter accepts_some hs) (filter accepts_some hs))) zero ≡ Some (row deps deed) → Stands n k zero (h ∷ hs) deps deed
      by true t rest e = here k h hs t (same_Some _ _ e)
      by false t rest e = beside k zero h hs t (rest e)
  stands_next k (suc passed) (h ∷ hs) e = by (accepts_some h) refl (stands_next (suc k) passed hs) (stands_next (suc k) (suc passed) hs) e
    where
      by : (b : Bool) → accepts_some h ≡ b → (slice_get (deps_of hs) passed ≡ Some (row deps deed) → Stands n (suc k) passed hs deps deed)
          → (slice_get (deps_of hs) (suc passed) ≡ Some (row deps deed) → Stands n (suc k) (suc passed) hs deps deed)
          → slice_get (map (λ g. row g.deps g.deed) (cond b (h ∷ filter accepts_some hs) (filter accepts_some hs))) (suc passed) ≡ Some (row deps deed) → Stands n k (suc passed) (h ∷ hs) deps deed
      by true t rest more e = past k passed h hs t (rest e)
      by false t rest more e = beside k (suc passed) h hs t (more e)

-- a callback that doesn't list the name is passed over
pub passed_over : (n : Name) (deps : List Name) (deed : Deed) → has deps n ≡ false → (k passed : ℕ) (hs : List Handler) → slice_get (deps_of hs) passed ≡ Some (row deps deed) → listing_from n k passed hs ≡ listing_from n k (suc passed) hs
passed_over n deps deed other k passed [] e = refl
passed_over n deps deed other k zero (h ∷ hs) e = by (accepts_some h) (passed_over n deps deed other (suc k) zero hs) e
  where
    by : (b : Bool) → (slice_get (deps_of hs) zero ≡ Some (row deps deed) → listing_from n (suc k) zero hs ≡ listing_from n (suc k) (suc zero) hs)
        → slice_get (map (λ g. row g.deps g.deed) (cond b (h ∷ filter accepts_some hs) (filter accepts_some hs))) zero ≡ Some (row deps deed)
        → (if b then (if has h.deps n then k ∷ listing_from n (suc k) zero hs else listing_from n (suc k) zero hs) else listing_from n (suc k) zero hs) ≡ (if b then listing_from n (suc k) zero hs else listing_from n (suc k) (suc zero) hs)
    by true rest e = ap (λ b. if b then k ∷ listing_from n (suc k) zero hs else listing_from n (suc k) zero hs) (ap (λ x. has x.0 n) (same_Some (row h.deps h.deed) (row deps deed) e) ∙ other)
    by false rest e = rest e
passed_over n deps deed other k (suc passed) (h ∷ hs) e = by (accepts_some h) (passed_over n deps deed other (suc k) passed hs) (passed_over n deps deed other (suc k) (suc passed) hs) e
  where
    by : (b : Bool) → (slice_get (deps_of hs) passed ≡ Some (row deps deed) → listing_from n (suc k) passed hs ≡ listing_from n (suc k) (suc passed) hs)
        → (slice_get (deps_of hs) (suc passed) ≡ Some (row deps deed) → listing_from n (suc k) (suc passed) hs ≡ listing_from n (suc k) (suc (suc passed)) hs)
        → slice_get (map (λ g. row g.deps g.deed) (cond b (h ∷ filter accepts_some hs) (filter accepts_some hs))) (suc passed) ≡ Some (row deps deed)
        → (if b then listing_from n (suc k) passed hs else listing_from n (suc k) (suc passed) hs) ≡ (if b then listing_from n (suc k) (suc passed) hs else listing_from n (suc k) (suc (suc passed)) hs)
    by true rest more e = rest e
    by false rest more e = more e

-- past the last there is none
pub none_listing : (n : Name) (k passed : ℕ) (hs : List Handler) → slice_get (deps_of hs) passed ≡ None → listing_from n k passed hs ≡ []
none_listing n k passed [] e = refl
none_listing n k zero (h ∷ hs) e = by (accepts_some h) (none_listing n (suc k) zero hs) e
  where
    by : (b : Bool) → (slice_get (deps_of hs) zero ≡ None → listing_from n (suc k) zero hs ≡ [])
        → slice_get (map (λ g. row g.deps g.deed) (cond b (h ∷ filter accepts_some hs) (filter accepts_some hs))) zero ≡ None
        → (if b then (if has h.deps n then k ∷ listing_from n (suc k) zero hs else listing_from n (suc k) zero hs) else listing_from n (suc k) zero hs) ≡ []
    by true rest e = absurd (none-some (row h.deps h.deed) (sym e))
    by false rest e = rest e
none_listing n k (suc passed) (h ∷ hs) e = by (accepts_some h) (none_listing n (suc k) passed hs) (none_listing n (suc k) (suc passed) hs) e
  where
    by : (b : Bool) → (slice_get (deps_of hs) passed ≡ None → listing_from n (suc k) passed hs ≡ []) → (slice_get (deps_of hs) (suc passed) ≡ None → listing_from n (suc k) (suc passed) hs ≡ [])
        → slice_get (map (λ g. row g.deps g.deed) (cond b (h ∷ filter accepts_some hs) (filter accepts_some hs))) (suc passed) ≡ None
        → (if b then listing_from n (suc k) passed hs else listing_from n (suc k) (suc passed) hs) ≡ []
    by true rest more e = rest e
    by false rest more e = more e
