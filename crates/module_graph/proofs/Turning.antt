-- The modules that list each name: one of them is put under names and taken away, and the others stay.
use Rattle.std.proofs.Common.{◌≡◌, ◌↔◌, Contains, ℕ, zero, suc, ◌<◌, ◌+◌, Bool, true, false, List, [], ◌∷◌, length, take, get_or, refl, ap, sym, ◌∙◌}
use Rattle.std.specs.Prelude.{◌||◌, ◌&&◌, not, cond, IsSome, Option, Some, Result, Ok, Err, OnErr, if◌then◌else◌}
use Rattle.std.specs.BTreeMap.{is_at}
use Rattle.std.specs.BTreeSet.{BTreeSet}
use Rattle.std.specs.Cmp.Lexicographic.{slice_cmp, texts_ties}
use Rattle.std.specs.HashMap.{HashMap, WritesThrough}
use Rattle.std.specs.List.{list_any}
use Rattle.std.specs.Map.{lookup}
use Rattle.std.specs.Ordering.{nat_cmp}
use Rattle.std.proofs.Math.Path.{subst}
use Rattle.std.proofs.lemmas.Bool.{false≢true}
use Rattle.core_model.specs.Names.{Name, at, same_name, has}
use Rattle.core_model.specs.View.{View, Entry}
use Rattle.core_model.proofs.Naming.{same_true, true_same, has_is}
use Rattle.module_graph.proofs.Sets.{set_has, has_take_more}
use Rattle.module_graph.specs.ReverseIndex.{Sets, names_in, under, is_under, IsTurned, Places, PlacesSome}

-- the tests of a set's keys are the tests of names
key_same : (n m : Name) → is_at (slice_cmp nat_cmp n) m ≡ same_name n m
key_same n m = sym (texts_ties n m)

-- a set after a name came into it, or went
pub updated_has : (n : Name) (b : Bool) (old new : List Name) → ((q : Name) → list_any (is_at (slice_cmp nat_cmp q)) new ≡ cond (is_at (slice_cmp nat_cmp n) q) b (list_any (is_at (slice_cmp nat_cmp q)) old)) → (m : Name) → has new m ≡ (if same_name n m then b else has old m)
updated_has n b old new u m = sym (set_has new m) ∙ u m
    ∙ ap (λ t. cond t b (list_any (is_at (slice_cmp nat_cmp m)) old)) (key_same n m)
    ∙ ap (λ h. if same_name n m then b else h) (set_has old m)

-- Where the set under one name changes.

abbrev pub ChangesAt : Name → Option (BTreeSet Name) → Sets → Sets → Type 0
ChangesAt name w old new = (q : Name) → lookup (same_name q) new ≡ cond (same_name name q) w (lookup (same_name q) old)

-- a set that is written in place
pub written : {S : Type 0} (name : Name) (s w : BTreeSet Name) (old new : HashMap Name (BTreeSet Name) S) → Some s ≡ lookup (same_name name) old.entries → WritesThrough same_name (same_name name) old w new → ChangesAt name (Some w) old.entries new.entries
written name s w old new is through = (through.3 (subst IsSome is refl)).0

chosen : (b : Bool) (w o : Option (BTreeSet Name)) (m : Name) → has (names_in (cond b w o)) m ≡ (if b then has (names_in w) m else has (names_in o) m)
chosen true w o m = refl
chosen false w o m = refl

changed : (name : Name) (w : Option (BTreeSet Name)) (old new : Sets) → ChangesAt name w old new → (n m : Name) → is_under new n m ≡ (if same_name name n then has (names_in w) m else is_under old n m)
changed name w old new u n m = ap (λ o. has (names_in o) m) (u n) ∙ chosen (same_name name n) w (lookup (same_name n) old) m

as_before : (name n m : Name) (old : Sets) (x s : Bool) → (s ≡ true → name ≡ n) → x ≡ is_under old name m → (if s then x else is_under old n m) ≡ is_under old n m
as_before name n m old x true f e = e ∙ ap (λ k. is_under old k m) (f refl)
as_before name n m old x false f e = refl

-- the set has the same names as before
pub unchanged : (name : Name) (w : Option (BTreeSet Name)) (old new : Sets) → ChangesAt name w old new → ((m : Name) → has (names_in w) m ≡ is_under old name m) → (n m : Name) → is_under new n m ≡ is_under old n m
unchanged name w old new u h n m = changed name w old new u n m ∙ as_before name n m old (has (names_in w) m) (same_name name n) (same_true name n) (h m)

-- the set has one more name, or one less
pub placed : (name lister : Name) (b : Bool) (w : Option (BTreeSet Name)) (old new : Sets) → ChangesAt name w old new → ((m : Name) → has (names_in w) m ≡ (if same_name lister m then b else is_under old name m)) → Places lister (λ n. if same_name name n then b else is_under old n lister) old new
placed name lister b w old new u h = record {
  own = λ n. changed name w old new u n lister ∙ ap (λ t. if same_name name n then t else is_under old n lister) (h lister ∙ ap (λ t. if t then b else is_under old name lister) (true_same lister lister refl));
  others = λ n m e. changed name w old new u n m ∙ as_before name n m old (has (names_in w) m) (same_name name n) (same_true name n) (h m ∙ ap (λ t. if t then b else is_under old name m) e);
}

-- One name after another.

-- what holds after a refusal
pub on_err : {X E : Type 0} (r : Result X E) (P : Type 0) → P → OnErr r P
on_err (Ok x) P p = tt
on_err (Err e) P p = p

pub places_same : (lister : Name) (p : Name → Bool) (old cur new : Sets) → Places lister p old cur → ((n m : Name) → is_under new n m ≡ is_under cur n m) → Places lister p old new
places_same lister p old cur new a e = record { own = λ n. e n lister ∙ a.own n; others = λ n m h. e n m ∙ a.others n m h }

pub places_as : (lister : Name) (p q : Name → Bool) (old new : Sets) → Places lister p old new → ((n : Name) → p n ≡ q n) → Places lister q old new
places_as lister p q old new a e = record { own = λ n. a.own n ∙ e n; others = a.others }

pub places_then : (lister : Name) (p q r : Name → Bool) (old cur new : Sets) → Places lister p old cur → Places lister q cur new → ((n : Name) → q n ≡ r n) → Places lister r old new
places_then lister p q r old cur new a b e = record { own = λ n. b.own n ∙ e n; others = λ n m h. b.others n m h ∙ a.others n m h }

more : (a b c : Bool) → (b ≡ true → c ≡ true) → (a || b) ≡ true → (a || c) ≡ true
more true b c f h = refl
more false b c f h = f h

pub has_take : (i : ℕ) (xs : List Name) (n : Name) → has (take i xs) n ≡ true → has xs n ≡ true
has_take zero xs n h = absurd (false≢true h)
has_take (suc i) [] n h = h
has_take (suc i) (x ∷ xs) n h = more (same_name x n) (has (take i xs) n) (has xs n) (has_take i xs n) h

-- a refusal at one name leaves the lister under those before
pub enters_some : (lister : Name) (xs : List Name) (i : ℕ) (old cur new : Sets) → Places lister (λ n. if has (take i xs) n then true else is_under old n lister) old cur
    → ((n m : Name) → is_under new n m ≡ is_under cur n m) → PlacesSome lister xs old new
enters_some lister xs i old cur new a e = record { some = take i xs; within = λ n h. has_take i xs n h; placed = places_same lister _ old cur new a e }

taken_step : (s h k old : Bool) → (s ≡ true → k ≡ false) → (if s then false else (if h && not k then false else old)) ≡ (if (s || h) && not k then false else old)
taken_step true h k old f = ap (λ t. if not t then false else old) (sym (f refl))
taken_step false h k old f = refl

kept_step : (s h k old : Bool) → (s ≡ true → k ≡ true) → (if h && not k then false else old) ≡ (if (s || h) && not k then false else old)
kept_step true true k old f = refl
kept_step true false k old f = ap (λ t. if not t then false else old) (sym (f refl))
kept_step false h k old f = refl

-- the lister goes from under one name more of a list, where that isn't kept
pub leaves_more : (lister : Name) (xs kept : List Name) (i : ℕ) (d : Name) (old cur new : Sets) → i < length xs → has kept (get_or xs i d) ≡ false
    → Places lister (λ n. if has (take i xs) n && not (has kept n) then false else is_under old n lister) old cur
    → Places lister (λ n. if same_name (get_or xs i d) n then false else is_under cur n lister) cur new
    → Places lister (λ n. if has (take (i + 1) xs) n && not (has kept n) then false else is_under old n lister) old new
leaves_more lister xs kept i d old cur new h k a b = places_then lister _ _ _ old cur new a b
    (λ n. ap (λ t. if same_name (get_or xs i d) n then false else t) (a.own n)
    ∙ taken_step (same_name (get_or xs i d) n) (has (take i xs) n) (has kept n) (is_under old n lister) (λ s. ap (has kept) (sym (same_true (get_or xs i d) n s)) ∙ k)
    ∙ ap (λ t. if t && not (has kept n) then false else is_under old n lister) (sym (has_take_more xs i d n h)))

pub leaves_kept : (lister : Name) (xs kept : List Name) (i : ℕ) (d : Name) (old cur : Sets) → i < length xs → has kept (get_or xs i d) ≡ true
    → Places lister (λ n. if has (take i xs) n && not (has kept n) then false else is_under old n lister) old cur
    → Places lister (λ n. if has (take (i + 1) xs) n && not (has kept n) then false else is_under old n lister) old cur
leaves_kept lister xs kept i d old cur h k a = places_as lister _ _ old cur a
    (λ n. kept_step (same_name (get_or xs i d) n) (has (take i xs) n) (has kept n) (is_under old n lister) (λ s. ap (has kept) (sym (same_true (get_or xs i d) n s)) ∙ k)
    ∙ ap (λ t. if t && not (has kept n) then false else is_under old n lister) (sym (has_take_more xs i d n h)))

-- A list of each module, turned round.

turned_step : (name n m : Name) (xs : List Name) (old new : Sets) (b : Bool) → same_name name m ≡ b → (b ≡ true → name ≡ m) → Places name (has xs) old new → is_under new n m ≡ (if b then has xs n else is_under old n m)
turned_step name n m xs old new true s f p = ap (is_under new n) (sym (f refl)) ∙ p.own n
turned_step name n m xs old new false s f p = p.others n m s

-- one module lists these names
pub turned_on : (list : Option Entry → List Name) (view next : View) (name : Name) (xs : List Name) (old new : Sets) → IsTurned list view old → Places name (has xs) old new
    → ((n m : Name) → has (list (at next m)) n ≡ (if same_name name m then has xs n else has (list (at view m)) n)) → IsTurned list next new
turned_on list view next name xs old new t p e = record { is = λ n m. turned_step name n m xs old new (same_name name m) refl (same_true name m) p ∙ ap (λ b. if same_name name m then has xs n else b) (t.is n m) ∙ sym (e n m) }

pub listers_are : (list : Option Entry → List Name) (n : Name) (view : View) (sets : Sets) (out : List Name) → IsTurned list view sets → out ≡ under sets n → (m : Name) → Contains out m ↔ (has (list (at view m)) n ≡ true)
listers_are list n view sets out t e m =
    let same : has out m ≡ has (list (at view m)) n = ap (λ l. has l m) e ∙ t.is n m in
    ((λ c. sym same ∙ (has_is out m).0 c), (λ h. (has_is out m).1 (same ∙ h)))
