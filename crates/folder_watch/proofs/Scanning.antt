-- How a listing grows as a folder is gone through.
use Rattle.std.proofs.Common.{ℕ, List, [], ◌∷◌, ◌++◌, Bool, true, false, cond, ◌≡◌, refl, sym, ap, ◌∙◌, subst, inl, inr, Option, Some, None}
use Rattle.std.specs.Prelude.{◌||◌, ◌&&◌, not, ◌⊎◌, is_some, IfSome}
use Rattle.std.specs.Cmp.Lexicographic.{same_text}
use Rattle.std.proofs.lemmas.List.Folds.{list_any-append}
use Rattle.hmr_types.specs.ModName.{is_name, is_text, parts}
use Prim.{⊥}
use Rattle.std.specs.Global.{Vec}
use Rattle.folders.specs.declared.tree.Reading.{Reading}
use Rattle.folders.specs.declared.tree.Reading.TheVariants.{Text, Gone}
use Rattle.folders.specs.Files.{has_file, rest_after, text_at}
use Rattle.folders.specs.Readings.{HasRead}
use Rattle.folder_watch.specs.Scans.{AreOf, Covers, IsScanOf, Reaches, Takes, is_pending}
use Rattle.folder_watch.specs.Watched.{are_looked_into, ends_in_js, is_watched, watched_text}
use Rattle.folder_watch.proofs.Watching.{watched_from}

abbrev Files : Type 0
Files = List (List ℕ × List ℕ)

or_cases : (s t : Bool) → (s || t) ≡ true → (s ≡ true) ⊎ (t ≡ true)
or_cases true t h = inl refl
or_cases false t h = inr h

or_first : (s t : Bool) → s ≡ true → (s || t) ≡ true
or_first s t h = ap (λ x. x || t) h

or_second : (s t : Bool) → t ≡ true → (s || t) ≡ true
or_second true t h = refl
or_second false t h = h

module _ (files : Files) where
  -- what was gone through, and then more
  pub covers_then : (these those : List ℕ → Bool) (old : Files) (was : List (List ℕ)) (mid : Files) (then : List (List ℕ)) (new : Files) (now : List (List ℕ))
      → Covers files these old was mid then → Covers files those mid then new now → Covers files (λ path. these path || those path) old was new now
  covers_then these those old was mid then new now a b = record {
    are = λ h. b.are (a.are h);
    found = λ path h. b.found path (a.found path h);
    pending = λ path h. b.pending path (a.pending path h);
    covers = λ path w f t. by path w f (or_cases (these path) (those path) t);
  }
    where
      kept : (path : List ℕ) → (has_file mid path ≡ true) ⊎ (is_pending then path ≡ true) → (has_file new path || is_pending now path) ≡ true
      kept path (inl h) = or_first _ _ (b.found path h)
      kept path (inr h) = or_second _ _ (b.pending path h)

      by : (path : List ℕ) → is_watched path ≡ true → has_file files path ≡ true → (these path ≡ true) ⊎ (those path ≡ true) → (has_file new path || is_pending now path) ≡ true
      by path w f (inl t) = kept path (or_cases (has_file mid path) (is_pending then path) (a.covers path w f t))
      by path w f (inr t) = b.covers path w f t

  -- fewer paths
  pub covers_fewer : (these those : List ℕ → Bool) (old : Files) (was : List (List ℕ)) (new : Files) (now : List (List ℕ))
      → ((path : List ℕ) → has_file files path ≡ true → those path ≡ true → these path ≡ true) → Covers files these old was new now → Covers files those old was new now
  covers_fewer these those old was new now h a = record {
    are = a.are;
    found = a.found;
    pending = a.pending;
    covers = λ path w f t. a.covers path w f (h path f t);
  }

  -- nothing yet
  pub covers_none : (these : List ℕ → Bool) (old : Files) (was : List (List ℕ)) → ((path : List ℕ) → is_watched path ≡ true → these path ≡ false) → Covers files these old was old was
  covers_none these old was h = record {
    are = λ a. a;
    found = λ path f. f;
    pending = λ path f. f;
    covers = λ path w f t. absurd (let e : true ≡ false = sym t ∙ h path w in cc);
  }

  -- a file that was read, where it is a module
  pub covers_file : (these : List ℕ → Bool) (at : List ℕ) (old new : Files) (was : List (List ℕ)) → ((path : List ℕ) → these path ≡ true → path ≡ at)
      → Takes files at old new → Covers files these old was new was
  covers_file these at old new was h t = record {
    are = t.are;
    found = t.found;
    pending = λ path f. f;
    covers = λ path w f l. or_first _ _ (ap (has_file new) (h path l) ∙ t.taken (ap is_watched (sym (h path l)) ∙ w));
  }

  -- a folder that is still to be listed
  pub covers_folder : (these : List ℕ → Bool) (at : List ℕ) (old : Files) (was : List (List ℕ)) → ((path : List ℕ) → these path ≡ true → is_some (rest_after at path) ≡ true)
      → Covers files these old was old (was ++ at ∷ [])
  covers_folder these at old was h = record {
    are = λ a. a;
    found = λ path f. f;
    pending = λ path p. list_any-append (λ folder. is_some (rest_after folder path)) was (at ∷ []) ∙ or_first _ _ p;
    covers = λ path w f t. or_second _ _ (list_any-append (λ folder. is_some (rest_after folder path)) was (at ∷ []) ∙ or_second _ _ (or_first _ _ (h path t)));
  }

  -- at first all is left
  pub covers_first : (these left : List ℕ → Bool) (old : Files) (was : List (List ℕ))
      → ((path : List ℕ) → has_file files path ≡ true → these path ≡ true → left path ≡ true) → Covers files (λ path. these path && not (left path)) old was old was
  covers_first these left old was h = record {
    are = λ a. a;
    found = λ path f. f;
    pending = λ path p. p;
    covers = λ path w f t. by (these path) (left path) t (h path f);
  }
    where
      by : {X : Type 0} (s t : Bool) → (s && not t) ≡ true → (s ≡ true → t ≡ true) → X
      by true true a k = absurd (let e : false ≡ true = a in cc)
      by true false a k = absurd (let e : false ≡ true = k refl in cc)
      by false t a k = absurd (let e : false ≡ true = a in cc)

  -- one of what was left
  pub covers_next : (these left one rest : List ℕ → Bool) (old : Files) (was : List (List ℕ)) (mid : Files) (then : List (List ℕ)) (new : Files) (now : List (List ℕ))
      → ((path : List ℕ) → left path ≡ (one path || rest path)) → Covers files (λ path. these path && not (left path)) old was mid then
      → Covers files one mid then new now → Covers files (λ path. these path && not (rest path)) old was new now
  covers_next these left one rest old was mid then new now e a b =
      covers_fewer (λ path. (these path && not (left path)) || one path) (λ path. these path && not (rest path)) old was new now
      (λ path f t. by (these path) (left path) (one path) (rest path) (e path) t)
      (covers_then (λ path. these path && not (left path)) one old was mid then new now a b)
    where
      by : (s l o r : Bool) → l ≡ (o || r) → (s && not r) ≡ true → ((s && not l) || o) ≡ true
      by true l true true e t = absurd (let x : false ≡ true = t in cc)
      by true l true false e t = or_second _ _ refl
      by true l false true e t = absurd (let x : false ≡ true = t in cc)
      by true l false false e t = ap (λ x. not x || false) e
      by false l o r e t = absurd (let x : false ≡ true = t in cc)

  -- at last nothing is
  pub covers_last : (these left : List ℕ → Bool) (old : Files) (was : List (List ℕ)) (new : Files) (now : List (List ℕ)) → ((path : List ℕ) → left path ≡ false)
      → Covers files (λ path. these path && not (left path)) old was new now → Covers files these old was new now
  covers_last these left old was new now e a = covers_fewer (λ path. these path && not (left path)) these old was new now (λ path f t. ap (λ x. these path && not x) (e path) ∙ ap (λ x. x && true) t) a

  -- a level more
  pub reaches_then : (these : List ℕ → Bool) (found : Files) (was : List (List ℕ)) (new : Files) (now : List (List ℕ))
      → Reaches files these found was → Covers files (is_pending was) found [] new now → Reaches files these new now
  reaches_then these found was new now r c = record {
    are = c.are r.are;
    covers = λ path w f t. by path w f (or_cases (has_file found path) (is_pending was path) (r.covers path w f t));
  }
    where
      by : (path : List ℕ) → is_watched path ≡ true → has_file files path ≡ true → (has_file found path ≡ true) ⊎ (is_pending was path ≡ true) → (has_file new path || is_pending now path) ≡ true
      by path w f (inl h) = or_first _ _ (c.found path h)
      by path w f (inr h) = c.covers path w f h

  -- at first nothing is found
  pub reaches_none : (these : List ℕ → Bool) (pending : List (List ℕ)) → ((path : List ℕ) → these path ≡ true → is_pending pending path ≡ true) → Reaches files these [] pending
  reaches_none these pending h = record { are = λ path text e. absurd (cc); covers = λ path w f t. h path t }

  -- no level is left
  pub reaches_all : (these : List ℕ → Bool) (found : Files) → Reaches files these found [] → ((path : List ℕ) → is_watched path ≡ true → these path ≡ true) → IsScanOf files found
  reaches_all these found r h path = by (text_at found path) refl
    where
      untold : (w : Bool) (o : Option (List ℕ)) → is_watched path ≡ w → text_at files path ≡ o → has_file found path ≡ false → None ≡ cond w o None
      untold true None a b e = refl
      untold true (Some text) a b e = absurd (let x : true ≡ false = sym (r.covers path a (ap is_some b) (h path a)) ∙ ap (λ t. t || false) e in cc)
      untold false o a b e = refl

      by : (o : Option (List ℕ)) → text_at found path ≡ o → text_at found path ≡ watched_text files path
      by None e = e ∙ untold (is_watched path) (text_at files path) refl refl (ap is_some e)
      by (Some text) e = e ∙ sym (r.are path text e)

  taken_turn : (path other text : List ℕ) (old new : Files) (t : Bool) → is_text path other ≡ t → text_at new other ≡ cond t (Some text) (text_at old other)
      → has_file old other ≡ true → has_file new other ≡ true
  taken_turn path other text old new true e a h = ap is_some a
  taken_turn path other text old new false e a h = ap is_some a ∙ h

  are_turn : (path other text shown : List ℕ) (old new : Files) (t : Bool) → is_text path other ≡ t → text_at new other ≡ cond t (Some text) (text_at old other)
      → watched_text files path ≡ Some text → AreOf files old → text_at new other ≡ Some shown → watched_text files other ≡ Some shown
  are_turn path other text shown old new true e a w h s = ap (watched_text files) (sym (same_text path other (sym e))) ∙ w ∙ sym a ∙ s
  are_turn path other text shown old new false e a w h s = h other shown (sym a ∙ s)

  -- a module that was read
  pub takes_new : (path text : List ℕ) (old new : Files) → is_name path ≡ true → ends_in_js path ≡ true → are_looked_into (parts path) ≡ true → text_at files path ≡ Some text
      → ((other : List ℕ) → text_at new other ≡ cond (is_text path other) (Some text) (text_at old other)) → is_text path path ≡ true → Takes files path old new
  takes_new path text old new n j l is added self =
      let w : watched_text files path ≡ Some text = ap (λ t. cond t (text_at files path) None) (watched_from path n j l) ∙ is in
      record {
        are = λ h other shown s. are_turn path other text shown old new (is_text path other) refl (added other) w h s;
        found = λ other h. taken_turn path other text old new (is_text path other) refl (added other) h;
        taken = λ _. ap is_some (added path ∙ ap (λ t. cond t (Some text) (text_at old path)) self);
      }

  -- one that was found before, or a file that is no module
  pub takes_none : (path : List ℕ) (old : Files) → (is_watched path ≡ true → has_file old path ≡ true) → Takes files path old old
  takes_none path old h = record { are = λ a. a; found = λ other f. f; taken = h }

-- what was read of a file that is told
pub told_text : (told : Option Files) (files : Files) (at path : List ℕ) (limit : ℕ) (got : Reading) (text : Vec ℕ) → told ≡ Some files
    → IfSome told (λ fs. HasRead fs at limit got) → at ≡ path → got ≡ Text text → text_at files path ≡ Some text.items
told_text told files at path limit got text e h p g = ap (text_at files) (sym p) ∙ read (subst (λ o. IfSome o (λ fs. HasRead fs at limit got)) e h)
  where
    read : HasRead files at limit got → text_at files at ≡ Some text.items
    read h = subst (λ r. HasRead files at limit r) g h

-- a file that is told isn't gone
pub told_gone : {X : Type 0} (told : Option Files) (files : Files) (at : List ℕ) (limit : ℕ) (got : Reading) → told ≡ Some files
    → IfSome told (λ fs. HasRead fs at limit got) → got ≡ Gone → X
told_gone told files at limit got e h g = absurd (read (subst (λ o. IfSome o (λ fs. HasRead fs at limit got)) e h))
  where
    read : HasRead files at limit got → ⊥
    read h = subst (λ r. HasRead files at limit r) g h
