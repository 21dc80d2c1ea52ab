-- What of an instance its handlers don't change: its number, its name, its version, its text, its exports,
-- its links, and whether it is live.
-- How the lists of these look once some end and others are made.
use Rattle.std.proofs.Common.{◌≡◌, ◌⊎◌, inl, inr, ℕ, suc, ◌+◌, ◌≤◌, ◌<◌, Bool, true, false, List, [], ◌∷◌, length, refl, ap, sym, ◌∙◌, arith, Contains}
use Rattle.std.specs.Prelude.{filter, map, find, cond, not, ◌&&◌, ◌||◌, ◌==◌, Option, Some, None, is_some, if◌then◌else◌, ⊤}
use Rattle.std.specs.Option.{option_or}
use Rattle.std.specs.List.{list_any}
use Prim.{⊥}
use Rattle.std.proofs.Math.Path.{subst}
use Rattle.std.proofs.lemmas.Bool.{false≢true, eqb-true, eq-eqb}
use Rattle.std.proofs.lemmas.Option.{same_Some}
use Rattle.core_model.specs.Names.{Name, same_name, has}
use Rattle.core_model.specs.Sources.{Text}
use Rattle.core_model.proofs.Naming.{same_true, and_last, or_left, or_right}
use Rattle.client_model.specs.Instance.{Instance, is_live}
use Rattle.world_laws.proofs.Members.{head_in, tail_in, in_cases, none_in}

pub record Frame : Type 0 where
  pub number : ℕ
  pub name : Name
  pub version : ℕ
  pub text : Text
  pub exports : List Name
  pub links : List (Name × ℕ)
  pub live : Bool

abbrev pub frame : Instance → Frame
frame i = record { number = i.number; name = i.name; version = i.version; text = i.text; exports = i.exports; links = i.links; live = is_live i }

abbrev pub frames : List Instance → List Frame
frames is = map frame is

-- it is live, under this name
abbrev pub is_of : Name → Frame → Bool
is_of n f = f.live && same_name f.name n

-- the live one of a name
abbrev pub live_one : List Frame → Name → Option Frame
live_one fs n = find (is_of n) fs

-- each has its place as its number, the newest first
abbrev pub Numbered : List Frame → Type 0
Numbered [] = ⊤
Numbered (f ∷ fs) = (f.number ≡ suc (length fs)) × Numbered fs

abbrev pub dead : Frame → Frame
dead f = record f { live = false }

-- those whose number passes the test are ended
abbrev pub cut : (ℕ → Bool) → List Frame → List Frame
cut ends fs = map (λ f. if ends f.number then dead f else f) fs

-- Numbers.

pub number_low : (fs : List Frame) → Numbered fs → (f : Frame) → Contains fs f → f.number ≤ length fs
number_low [] d f c = absurd (none_in f c)
number_low (g ∷ fs) d f c = by (number_low fs d.1 f) (in_cases g fs f c)
  where
    by : (Contains fs f → f.number ≤ length fs) → (g ≡ f) ⊎ Contains fs f → f.number ≤ suc (length fs)
    by rest (inl e) = omega (arith, ap (λ (h : Frame). h.number) e, d.0)
    by rest (inr t) = omega (arith, rest t)

or_none : (a b : Bool) → a ≡ false → (a || b) ≡ b
or_none true b h = absurd (false≢true (sym h))
or_none false b h = refl

pub apart : (j k : ℕ) → (j ≡ k → ⊥) → (j == k) ≡ false
apart j k f = by (j == k) refl
  where
    by : (b : Bool) → (j == k) ≡ b → b ≡ false
    by true e = absurd (f (eqb-true j k e))
    by false e = refl

none_beyond : (q : Frame → Bool) (fs : List Frame) (k : ℕ) → Numbered fs → length fs < k → list_any (λ g. q g && (g.number == k)) fs ≡ false
none_beyond q [] k d l = refl
none_beyond q (g ∷ fs) k d l = or_none _ _ (and_last (q g) (g.number == k) (apart g.number k (λ e. omega (arith, e, d.0, l)))) ∙ none_beyond q fs k d.1 (omega (arith, l))

here_only : (a b c : Bool) → b ≡ true → c ≡ false → ((a && b) || c) ≡ a
here_only true true c h e = refl
here_only false true c h e = e
here_only a false c h e = absurd (false≢true h)

-- of all that pass a test some has the number of f, where f passes it
pub any_numbered : (q : Frame → Bool) (fs : List Frame) → Numbered fs → (f : Frame) → Contains fs f → list_any (λ g. q g && (g.number == f.number)) fs ≡ q f
any_numbered q [] d f c = absurd (none_in f c)
any_numbered q (g ∷ fs) d f c = by (any_numbered q fs d.1 f) (in_cases g fs f c)
  where
    by : (Contains fs f → list_any (λ h. q h && (h.number == f.number)) fs ≡ q f) → (g ≡ f) ⊎ Contains fs f → list_any (λ h. q h && (h.number == f.number)) (g ∷ fs) ≡ q f
    by rest (inl e) = here_only (q g) (g.number == f.number) _ (eq-eqb g.number f.number (ap (λ (h : Frame). h.number) e)) (none_beyond q fs f.number d.1 (omega (arith, d.0, ap (λ (h : Frame). h.number) e))) ∙ ap q e
    by rest (inr t) = or_none _ _ (and_last (q g) (g.number == f.number) (apart g.number f.number (λ e. omega (arith, e, d.0, number_low fs d.1 f t)))) ∙ rest t

-- What is found.

pub found_in : {X : Type 0} → (p : X → Bool) (xs : List X) (x : X) → find p xs ≡ Some x → Contains xs x × (p x ≡ true)
found_in p [] x e = absurd (false≢true (ap is_some e))
found_in p (y ∷ xs) x e = by (p y) refl (found_in p xs x) e
  where
    by : (b : Bool) → p y ≡ b → (find p xs ≡ Some x → Contains xs x × (p x ≡ true)) → cond b (Some y) (find p xs) ≡ Some x → Contains (y ∷ xs) x × (p x ≡ true)
    by true h rest e = (subst (Contains (y ∷ xs)) (same_Some y x e) (head_in y xs), ap p (sym (same_Some y x e)) ∙ h)
    by false h rest e = let k = rest e in (tail_in y xs x k.0, k.1)

cond_same : {X : Type 0} → (a b : Bool) (x : X) (y z : X) → a ≡ b → y ≡ z → cond a x y ≡ cond b x z
cond_same true true x y z e h = refl
cond_same true false x y z e h = absurd (false≢true (sym e))
cond_same false true x y z e h = absurd (false≢true e)
cond_same false false x y z e h = h

pub find_same : (p q : Frame → Bool) (fs : List Frame) → ((f : Frame) → Contains fs f → p f ≡ q f) → find p fs ≡ find q fs
find_same p q [] h = refl
find_same p q (g ∷ fs) h = cond_same (p g) (q g) (Some g) (find p fs) (find q fs) (h g (head_in g fs)) (find_same p q fs (λ f c. h f (tail_in g fs f c)))

-- those that aren't ended, found
find_cut_step : (n : Name) (ends : Bool) (f : Frame) (rest more : Option Frame) → rest ≡ more → cond (is_of n (if ends then dead f else f)) (Some (if ends then dead f else f)) rest ≡ cond (is_of n f && not ends) (Some f) more
find_cut_step n true f rest more h = h ∙ cond_none (is_of n f)
  where
    cond_none : (b : Bool) → more ≡ cond (b && false) (Some f) more
    cond_none true = refl
    cond_none false = refl
find_cut_step n false f rest more h = cond_same (is_of n f) (is_of n f && true) (Some f) rest more (with_true (is_of n f)) h
  where
    with_true : (b : Bool) → b ≡ (b && true)
    with_true true = refl
    with_true false = refl

pub find_cut : (ends : ℕ → Bool) (fs : List Frame) (n : Name) → live_one (cut ends fs) n ≡ find (λ f. is_of n f && not (ends f.number)) fs
find_cut ends [] n = refl
find_cut ends (f ∷ fs) n = find_cut_step n (ends f.number) f (live_one (cut ends fs) n) _ (find_cut ends fs n)

find_none : (fs : List Frame) → find (λ f. false) fs ≡ None
find_none [] = refl
find_none (f ∷ fs) = find_none fs

-- the test of what ends, by the name
abbrev pub ended_by : (Name → Bool) → List Frame → ℕ → Bool
ended_by test fs k = list_any (λ g. (g.live && test g.name) && (g.number == k)) fs

find_const : (b : Bool) (n : Name) (fs : List Frame) → find (λ f. is_of n f && not b) fs ≡ (if b then None else live_one fs n)
find_const true n fs = find_same _ (λ f. false) fs (λ f c. never (is_of n f)) ∙ find_none fs
  where
    never : (b : Bool) → (b && false) ≡ false
    never true = refl
    never false = refl
find_const false n fs = find_same _ (is_of n) fs (λ f c. with_true (is_of n f))
  where
    with_true : (b : Bool) → (b && true) ≡ b
    with_true true = refl
    with_true false = refl

cut_test : (live same : Bool) (ends by_name by_own : Bool) → ends ≡ (live && by_own) → (same ≡ true → by_own ≡ by_name) → ((live && same) && not ends) ≡ ((live && same) && not by_name)
cut_test true true ends by_name by_own e f = ap not (e ∙ f refl)
cut_test true false ends by_name by_own e f = refl
cut_test false same ends by_name by_own e f = refl

-- the live one of a name, once those of the names that pass the test have ended
pub live_cut : (test : Name → Bool) (fs : List Frame) → Numbered fs → (n : Name) → live_one (cut (ended_by test fs) fs) n ≡ (if test n then None else live_one fs n)
live_cut test fs d n = find_cut (ended_by test fs) fs n
    ∙ find_same (λ f. is_of n f && not (ended_by test fs f.number)) (λ f. is_of n f && not (test n)) fs
    (λ f c. cut_test f.live (same_name f.name n) (ended_by test fs f.number) (test n) (test f.name) (any_numbered (λ g. g.live && test g.name) fs d f c) (λ s. ap test (same_true f.name n s)))
    ∙ find_const (test n) n fs

-- Cuts, one after another.

cut_once : (a b : Bool) (f : Frame) → (if b then dead (if a then dead f else f) else (if a then dead f else f)) ≡ (if a || b then dead f else f)
cut_once true true f = refl
cut_once true false f = refl
cut_once false true f = refl
cut_once false false f = refl

number_kept : (a : Bool) (f : Frame) → (if a then dead f else f).number ≡ f.number
number_kept true f = refl
number_kept false f = refl

pub cut_twice : (first second : ℕ → Bool) (fs : List Frame) → cut second (cut first fs) ≡ cut (λ k. first k || second k) fs
cut_twice first second [] = refl
cut_twice first second (f ∷ fs) =
    ap (λ x. x ∷ cut second (cut first fs)) (ap (λ k. if second k then dead (if first f.number then dead f else f) else (if first f.number then dead f else f)) (number_kept (first f.number) f) ∙ cut_once (first f.number) (second f.number) f)
    ∙ ap (λ xs. (if first f.number || second f.number then dead f else f) ∷ xs) (cut_twice first second fs)

pub cut_none : (fs : List Frame) → cut (λ k. false) fs ≡ fs
cut_none [] = refl
cut_none (f ∷ fs) = ap (λ xs. f ∷ xs) (cut_none fs)

pub cut_length : (ends : ℕ → Bool) (fs : List Frame) → length (cut ends fs) ≡ length fs
cut_length ends [] = refl
cut_length ends (f ∷ fs) = ap suc (cut_length ends fs)

pub cut_numbered : (ends : ℕ → Bool) (fs : List Frame) → Numbered fs → Numbered (cut ends fs)
cut_numbered ends [] d = tt
cut_numbered ends (f ∷ fs) d = (number_kept (ends f.number) f ∙ d.0 ∙ ap suc (sym (cut_length ends fs)), cut_numbered ends fs d.1)

-- Those that are made, one after another.

abbrev pub made_on : List Frame → List Frame → List Frame
made_on [] fs = fs
made_on (b ∷ bs) fs = made_on bs (b ∷ fs)

-- the names of those
abbrev pub names_in : List Frame → List Name
names_in bs = map (λ b. b.name) bs

-- each name once
abbrev pub Distinct : List Name → Type 0
Distinct [] = ⊤
Distinct (n ∷ names) = (has names n ≡ false) × Distinct names

abbrev pub AllLive : List Frame → Type 0
AllLive [] = ⊤
AllLive (b ∷ bs) = (b.live ≡ true) × AllLive bs

abbrev pub made_at : List Frame → Name → Option Frame
made_at bs n = find (λ b. same_name b.name n) bs

not_made : (bs : List Frame) (n : Name) → has (names_in bs) n ≡ false → made_at bs n ≡ None
not_made [] n h = refl
not_made (b ∷ bs) n h = by (same_name b.name n) (not_made bs n) h
  where
    by : (c : Bool) → (has (names_in bs) n ≡ false → made_at bs n ≡ None) → (c || has (names_in bs) n) ≡ false → cond c (Some b) (made_at bs n) ≡ None
    by true rest h = absurd (false≢true (sym h))
    by false rest h = rest h

made_step : (live same : Bool) (b : Frame) (made old : Option Frame) → live ≡ true → (same ≡ true → made ≡ None) → option_or made (cond (live && same) (Some b) old) ≡ option_or (cond same (Some b) made) old
made_step true true b made old l f = ap (λ o. option_or o (Some b)) (f refl)
made_step true false b made old l f = refl
made_step false same b made old l f = absurd (false≢true l)

-- the live one of a name: the one that is made of it, else the one before
pub live_made : (bs fs : List Frame) (n : Name) → Distinct (names_in bs) → AllLive bs → live_one (made_on bs fs) n ≡ option_or (made_at bs n) (live_one fs n)
live_made [] fs n d l = refl
live_made (b ∷ bs) fs n d l = live_made bs (b ∷ fs) n d.1 l.1
    ∙ made_step b.live (same_name b.name n) b (made_at bs n) (live_one fs n) l.0 (λ s. not_made bs n (ap (has (names_in bs)) (sym (same_true b.name n s)) ∙ d.0))

abbrev pub NumberedFrom : ℕ → List Frame → Type 0
NumberedFrom k [] = ⊤
NumberedFrom k (b ∷ bs) = (b.number ≡ suc k) × NumberedFrom (suc k) bs

pub made_numbered : (bs fs : List Frame) → NumberedFrom (length fs) bs → Numbered fs → Numbered (made_on bs fs)
made_numbered [] fs c d = d
made_numbered (b ∷ bs) fs c d = made_numbered bs (b ∷ fs) c.1 (c.0, d)

pub made_length : (bs fs : List Frame) → length (made_on bs fs) ≡ length bs + length fs
made_length [] fs = omega arith
made_length (b ∷ bs) fs = omega (arith, made_length bs (b ∷ fs))

pub old_in : (bs fs : List Frame) (f : Frame) → Contains fs f → Contains (made_on bs fs) f
old_in [] fs f c = c
old_in (b ∷ bs) fs f c = old_in bs (b ∷ fs) f (tail_in b fs f c)

pub new_in : (bs fs : List Frame) (f : Frame) → Contains bs f → Contains (made_on bs fs) f
new_in [] fs f c = absurd (none_in f c)
new_in (b ∷ bs) fs f c = by (new_in bs (b ∷ fs) f) (in_cases b bs f c)
  where
    by : (Contains bs f → Contains (made_on bs (b ∷ fs)) f) → (b ≡ f) ⊎ Contains bs f → Contains (made_on bs (b ∷ fs)) f
    by rest (inl e) = old_in bs (b ∷ fs) f (subst (Contains (b ∷ fs)) e (head_in b fs))
    by rest (inr t) = rest t

pub made_cases : (bs fs : List Frame) (f : Frame) → Contains (made_on bs fs) f → Contains bs f ⊎ Contains fs f
made_cases [] fs f c = inr c
made_cases (b ∷ bs) fs f c = by (made_cases bs (b ∷ fs) f c)
  where
    by_head : (b ≡ f) ⊎ Contains fs f → Contains (b ∷ bs) f ⊎ Contains fs f
    by_head (inl e) = inl (subst (Contains (b ∷ bs)) e (head_in b bs))
    by_head (inr t) = inr t

    by : Contains bs f ⊎ Contains (b ∷ fs) f → Contains (b ∷ bs) f ⊎ Contains fs f
    by (inl t) = inl (tail_in b bs f t)
    by (inr c) = by_head (in_cases b fs f c)

-- How many are live of a name.

abbrev pub live_count : List Frame → Name → ℕ
live_count fs n = length (filter (is_of n) fs)

-- a name has at most one, and none where none is found
pub none_counted : (fs : List Frame) (n : Name) → live_one fs n ≡ None → live_count fs n ≡ 0
none_counted [] n e = refl
none_counted (f ∷ fs) n e = by (is_of n f) (none_counted fs n) e
  where
    by : (b : Bool) → (live_one fs n ≡ None → live_count fs n ≡ 0) → cond b (Some f) (live_one fs n) ≡ None → length (cond b (f ∷ filter (is_of n) fs) (filter (is_of n) fs)) ≡ 0
    by true rest e = absurd (false≢true (sym (ap is_some e)))
    by false rest e = rest e

cut_count_step : (n : Name) (ends : Bool) (f : Frame) (xs ys : List Frame) → length xs ≤ length ys → length (cond (is_of n (if ends then dead f else f)) ((if ends then dead f else f) ∷ xs) xs) ≤ length (cond (is_of n f) (f ∷ ys) ys)
cut_count_step n true f xs ys h = by (is_of n f)
  where
    by : (b : Bool) → length xs ≤ length (cond b (f ∷ ys) ys)
    by true = omega (arith, h)
    by false = h
cut_count_step n false f xs ys h = by (is_of n f)
  where
    by : (b : Bool) → length (cond b (f ∷ xs) xs) ≤ length (cond b (f ∷ ys) ys)
    by true = omega (arith, h)
    by false = h

pub cut_count : (ends : ℕ → Bool) (fs : List Frame) (n : Name) → live_count (cut ends fs) n ≤ live_count fs n
cut_count ends [] n = omega arith
cut_count ends (f ∷ fs) n = cut_count_step n (ends f.number) f (filter (is_of n) (cut ends fs)) (filter (is_of n) fs) (cut_count ends fs n)

head_count : (n : Name) (live same : Bool) (b : Frame) (xs : List Frame) → length xs ≤ 1 → (same ≡ true → length xs ≡ 0) → length (cond (live && same) (b ∷ xs) xs) ≤ 1
head_count n true true b xs h f = omega (arith, f refl)
head_count n true false b xs h f = h
head_count n false same b xs h f = h

head_none : (live same : Bool) (b : Frame) (xs : List Frame) → same ≡ false → length xs ≡ 0 → length (cond (live && same) (b ∷ xs) xs) ≡ 0
head_none true true b xs e h = absurd (false≢true (sym e))
head_none true false b xs e h = h
head_none false same b xs e h = h

pub other_name : (n m : Name) (names : List Name) → has names n ≡ false → has names m ≡ true → same_name n m ≡ false
other_name n m names e h = by (same_name n m) refl
  where
    by : (b : Bool) → same_name n m ≡ b → b ≡ false
    by true s = absurd (false≢true (sym e ∙ ap (has names) (same_true n m s) ∙ h))
    by false s = refl

-- where none of the names that are made of is live before
pub made_count : (bs fs : List Frame) → Distinct (names_in bs) → ((n : Name) → has (names_in bs) n ≡ true → live_count fs n ≡ 0) → ((n : Name) → live_count fs n ≤ 1) → (n : Name) → live_count (made_on bs fs) n ≤ 1
made_count [] fs d z h n = h n
made_count (b ∷ bs) fs d z h n = made_count bs (b ∷ fs) d.1
    (λ m t. head_none b.live (same_name b.name m) b (filter (is_of m) fs) (other_name b.name m (names_in bs) d.0 t) (z m (or_right (same_name b.name m) (has (names_in bs) m) t)))
    (λ m. head_count m b.live (same_name b.name m) b (filter (is_of m) fs) (h m) (λ s. z m (or_left (same_name b.name m) (has (names_in bs) m) s))) n
