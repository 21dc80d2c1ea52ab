-- The marks of a page whose modules become others.
use Rattle.std.proofs.Common.{◌≡◌, ℕ, ◌<◌, ◌+◌, Bool, true, false, List, [], ◌∷◌, ◌++◌, length, take, get_or, refl, ap, sym, ◌∙◌, ◌⊎◌, inl, inr}
use Rattle.std.specs.Prelude.{◌||◌, filter, not, Option, Some, None, is_some, if◌then◌else◌}
use Rattle.std.proofs.lemmas.Bool.{false≢true}
use Rattle.std.proofs.lemmas.List.{take_more}
use Rattle.std.proofs.Math.Path.{subst}
use Rattle.core_model.specs.Names.{Name, same_name, has, at, names_of}
use Rattle.core_model.specs.Sources.{Serving, Sources}
use Rattle.core_model.specs.View.{View, Entry, differs, is_in}
use Rattle.core_model.proofs.Naming.{filtered_in, has_append, has_more, more_cases, false_from, or_left, or_right, same_true, true_same}
use Rattle.core_model.proofs.Tables.{named}
use Rattle.client_queue.specs.Queue.{MarkIs, Queue, is_marked, knows, mark_in, mark_where_known}
use Rattle.page_marks.specs.Marks.{AreRenewed, IsGrown, mark_on}

-- More names are known.

pub grown_none : (q : Queue) → IsGrown q q
grown_none q = record { marks = λ n. refl; known = λ n h. h; kept = refl }

pub grown_more : (old mid new : Queue) → IsGrown old mid → IsGrown mid new → IsGrown old new
grown_more old mid new f g = record {
  marks = λ n. g.marks n ∙ f.marks n;
  known = λ n h. g.known n (f.known n h);
  kept = g.kept ∙ ap (λ (q : Queue). record q { known = new.known }) f.kept;
}

entered_mark : (n m : Name) (old : Queue) (same : Bool) → (same ≡ true → n ≡ m) → mark_in (if same then Some (is_marked old n) else at old.known m) ≡ is_marked old m
entered_mark n m old true e = ap (is_marked old) (e refl)
entered_mark n m old false e = refl

entered_known : (n m : Name) (old : Queue) (same : Bool) → knows old m ≡ true → is_some (if same then Some (is_marked old n) else at old.known m) ≡ true
entered_known n m old true h = refl
entered_known n m old false h = h

-- a name is entered
pub entered : (n : Name) (old new : Queue) → MarkIs n (Some (is_marked old n)) old new → new ≡ record old { known = new.known } → IsGrown old new
entered n old new h k = record {
  marks = λ m. ap mark_in (h m) ∙ entered_mark n m old (same_name n m) (same_true n m);
  known = λ m i. ap is_some (h m) ∙ entered_known n m old (same_name n m) i;
  kept = k;
}

-- and is known
pub entered_there : (n : Name) (old new : Queue) → MarkIs n (Some (is_marked old n)) old new → knows new n ≡ true
entered_there n old new h = ap is_some (h n) ∙ ap (λ b. is_some (if b then Some (is_marked old n) else at old.known n)) (true_same n n refl)

-- some of the names are known
pub record AreEntered (names : List Name) (old new : Queue) : Type 0 where
  pub grown : IsGrown old new
  pub known : (n : Name) → has names n ≡ true → knows new n ≡ true

pub none_entered : (q : Queue) → AreEntered [] q q
none_entered q = record { grown = grown_none q; known = λ n h. absurd (false≢true h) }

-- one name more is known
pub entered_more : (names : List Name) (i : ℕ) (n : Name) (old now new : Queue) → i < length names → n ≡ get_or names i n → AreEntered (take i names) old now → IsGrown now new → knows new n ≡ true → AreEntered (take (i + 1) names) old new
entered_more names i n old now new h e f g k = record {
  grown = grown_more old now new f.grown g;
  known = λ m l. by m (more_cases (take i names) (get_or names i n) m (ap (λ xs. has xs m) (sym (take_more names i n h)) ∙ l));
}
  where
    by : (m : Name) → (has (take i names) m ≡ true) ⊎ (get_or names i n ≡ m) → knows new m ≡ true
    by m (inl l) = g.known m (f.known m l)
    by m (inr s) = ap (knows new) (sym (e ∙ s)) ∙ k

-- Marks by the versions on the page.

twice : (on mark : Bool) (o : Option Bool) → (if on then mark_where_known mark (if on then mark_where_known mark o else None) else None) ≡ (if on then mark_where_known mark o else None)
twice true mark None = refl
twice true mark (Some b) = refl
twice false mark o = refl

module _ (page : View) (s : Sources) where
  renew_step : (n m : Name) (a b : Bool) (o : Option Bool) (now : Name → Option Bool) → (b ≡ true → n ≡ m) → now m ≡ (if a then mark_on page s m o else o)
      → (if b then mark_on page s n (now n) else now m) ≡ (if a || (b || false) then mark_on page s m o else o)
  renew_step n m true true o now e h = ap (λ k. mark_on page s k (now k)) (e refl) ∙ ap (mark_on page s m) h ∙ twice (is_in page m) (differs (at page m) (at s.served m)) o
  renew_step n m false true o now e h = ap (λ k. mark_on page s k (now k)) (e refl) ∙ ap (mark_on page s m) h
  renew_step n m true false o now e h = h
  renew_step n m false false o now e h = h

  pub none_renewed : (q : Queue) → AreRenewed [] page s q q
  none_renewed q = record { known = λ n. refl; kept = refl }

  renewed_last : (names : List Name) (n : Name) (old now new : Queue) → AreRenewed names page s old now → MarkIs n (mark_on page s n (at now.known n)) now new → new ≡ record now { known = new.known } → AreRenewed (names ++ n ∷ []) page s old new
  renewed_last names n old now new f g k = record {
    known = λ m. g m ∙ renew_step n m (has names m) (same_name n m) (at old.known m) (at now.known) (same_true n m) (f.known m) ∙ ap (λ b. if b then mark_on page s m (at old.known m) else at old.known m) (sym (has_more names n m));
    kept = k ∙ ap (λ (q : Queue). record q { known = new.known }) f.kept;
  }

  -- one name more is marked
  pub renewed_more : (names : List Name) (i : ℕ) (n : Name) (old now new : Queue) → i < length names → n ≡ get_or names i n → AreRenewed (take i names) page s old now → MarkIs n (mark_on page s n (at now.known n)) now new → new ≡ record now { known = new.known } → AreRenewed (take (i + 1) names) page s old new
  renewed_more names i n old now new h e f g k = subst (λ l. AreRenewed l page s old new) (ap (λ x. take i names ++ x ∷ []) e ∙ sym (take_more names i n h)) (renewed_last (take i names) n old now new f g k)

pub on_step : (o : Option Bool) (e : Option Entry) (served : Option Serving) → is_some o ≡ true → mark_in (if is_some e then mark_where_known (differs e served) o else None) ≡ differs e served
on_step (Some b) (Some e) served h = refl
on_step (Some b) None served h = refl
on_step None e served h = absurd (false≢true h)

off_step : (e : Option Entry) (served : Option Serving) → is_some e ≡ false → differs e served ≡ false
off_step None served h = refl
off_step (Some e) served h = absurd (false≢true (sym h))

pub known_step : (o : Option Bool) (on mark : Bool) → is_some o ≡ true → on ≡ true → is_some (if on then mark_where_known mark o else None) ≡ true
known_step (Some b) true mark h i = refl
known_step (Some b) false mark h i = i
known_step None on mark h i = absurd (false≢true h)

-- the names of both pages
module _ (view made : View) (s : Sources) (names : List Name) (old mid new : Queue) (both : names ≡ names_of made ++ filter (λ n. not (is_in made n)) (names_of view)) where
  has_both : (n : Name) → has names n ≡ (has (names_of made) n || has (filter (λ m. not (is_in made m)) (names_of view)) n)
  has_both n = ap (λ l. has l n) both ∙ has_append (names_of made) (filter (λ m. not (is_in made m)) (names_of view)) n

  made_named : (n : Name) → is_in made n ≡ true → has names n ≡ true
  made_named n h = has_both n ∙ or_left (has (names_of made) n) _ (sym (named made n) ∙ h)

  old_named : (n : Name) → is_in view n ≡ true → has names n ≡ true
  old_named n h = by (is_in made n) refl
    where
      by : (b : Bool) → is_in made n ≡ b → has names n ≡ true
      by true e = made_named n e
      by false e = has_both n ∙ or_right (has (names_of made) n) _ (filtered_in (λ m. not (is_in made m)) (names_of view) n (ap not e) (sym (named view n) ∙ h))

  -- once they are entered and then marked, the marks fit what is served
  pub marks_made : ((n : Name) → is_marked old n ≡ true → is_in view n ≡ true) → IsGrown old mid → ((n : Name) → has names n ≡ true → knows mid n ≡ true) → AreRenewed names made s mid new
      → (n : Name) → is_marked new n ≡ differs (at made n) (at s.served n)
  marks_made within grown there f n = ap mark_in (f.known n) ∙ go (has names n) refl
    where
      go : (b : Bool) → has names n ≡ b → mark_in (if b then mark_on made s n (at mid.known n) else at mid.known n) ≡ differs (at made n) (at s.served n)
      go true e = on_step (at mid.known n) (at made n) (at s.served n) (there n e)
      go false e = grown.marks n ∙ false_from (is_marked old n) (λ h. false≢true (sym e ∙ old_named n (within n h)))
          ∙ sym (off_step (at made n) (at s.served n) (false_from (is_in made n) (λ h. false≢true (sym e ∙ made_named n h))))

  -- and what is on the page is known
  pub known_made : ((n : Name) → has names n ≡ true → knows mid n ≡ true) → AreRenewed names made s mid new → (n : Name) → is_in made n ≡ true → knows new n ≡ true
  known_made there f n h = ap is_some (f.known n ∙ ap (λ b. if b then mark_on made s n (at mid.known n) else at mid.known n) (made_named n h)) ∙ known_step (at mid.known n) (is_in made n) _ (there n (made_named n h)) h

marked_step : (e : Option Entry) (served : Option Serving) → differs e served ≡ true → is_some e ≡ true
marked_step None served h = absurd (false≢true h)
marked_step (Some e) served h = refl

-- what is marked is on the page
pub marked_made : (made : View) (s : Sources) (q : Queue) → ((n : Name) → is_marked q n ≡ differs (at made n) (at s.served n)) → (n : Name) → is_marked q n ≡ true → is_in made n ≡ true
marked_made made s q f n h = marked_step (at made n) (at s.served n) (sym (f n) ∙ h)
