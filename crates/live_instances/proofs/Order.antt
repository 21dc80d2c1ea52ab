-- The model's instances: by number, and the live one of a name, as one of them changes.
use Rattle.std.proofs.Common.{◌≡◌, ◌≤◌, ℕ, suc, Bool, true, false, List, [], ◌∷◌, length, refl, ap, sym, ◌∙◌, arith}
use Rattle.std.specs.Prelude.{◌==◌, ◌&&◌, cond, Option, Some, None, option_map, if◌then◌else◌}
use Rattle.std.proofs.Math.Path.{subst}
use Rattle.std.proofs.lemmas.Bool.{eqb-true, eq-eqb, false≢true}
use Rattle.std.proofs.lemmas.List.{length-map}
use Rattle.std.proofs.lemmas.Option.{none-some, same_Some}
use Rattle.core_model.specs.Names.{Name, same_name}
use Rattle.core_model.proofs.Naming.{same_true}
use Rattle.client_model.specs.Instance.{Instance, is_live, is_live_fate, live_at, numbered, with_change}
use Rattle.client_model.specs.Linking.{number_in}
use Rattle.live_instances.specs.Orderly.{NumbersFall, OnlyLive, Orderly, without_number}

pub itself : (k : ℕ) → (k == k) ≡ true
itself k = eq-eqb k k refl

-- number, name and fate are kept
pub record Quiet (f : Instance → Instance) : Type 0 where
  pub number : (i : Instance) → (f i).number ≡ i.number
  pub name : (i : Instance) → (f i).name ≡ i.name
  pub fate : (i : Instance) → (f i).fate ≡ i.fate

-- number and name are kept, and it is dead afterwards
pub record Ends (f : Instance → Instance) : Type 0 where
  pub number : (i : Instance) → (f i).number ≡ i.number
  pub name : (i : Instance) → (f i).name ≡ i.name
  pub dead : (i : Instance) → is_live (f i) ≡ false

-- live under this name
abbrev pub is_live_as : Name → Instance → Bool
is_live_as n i = is_live i && same_name i.name n

-- the instance after the change of the one of number k
abbrev pub changed : ℕ → (Instance → Instance) → Instance → Instance
changed k f i = if i.number == k then f i else i

module _ (k : ℕ) (f : Instance → Instance) where
  numbers_fall : ((i : Instance) → (f i).number ≡ i.number) → (is : List Instance) → NumbersFall is → NumbersFall (with_change k f is)
  numbers_fall same [] h = h
  numbers_fall same (i ∷ is) h = (by (i.number == k) ∙ h.0 ∙ ap suc (sym (length-map is (changed k f))), numbers_fall same is h.1)
    where
      by : (b : Bool) → (if b then f i else i).number ≡ i.number
      by true = same i
      by false = refl

  -- what is the only live one stays it where nothing comes to life
  only_kept : ((i : Instance) → (f i).number ≡ i.number) → (n : Name) → ((i : Instance) → is_live_as n (f i) ≡ true → is_live_as n i ≡ true) → (m : ℕ) (is : List Instance) → OnlyLive m n is → OnlyLive m n (with_change k f is)
  only_kept same n lives m [] h = h
  only_kept same n lives m (i ∷ is) h = (by (i.number == k), only_kept same n lives m is h.1)
    where
      by : (b : Bool) → is_live_as n (if b then f i else i) ≡ true → ((if b then f i else i).number == m) ≡ true
      by true t = ap (λ j. j == m) (same i) ∙ h.0 (lives i t)
      by false t = h.0 t

  module _ (q : Quiet f) where
    same_live : (n : Name) (i : Instance) → is_live_as n (f i) ≡ is_live_as n i
    same_live n i = ap (λ e. is_live_fate e && same_name (f i).name n) (q.fate i) ∙ ap (λ m. is_live i && same_name m n) (q.name i)

    pub quiet_number : (n : Name) (is : List Instance) → number_in (live_at (with_change k f is) n) ≡ number_in (live_at is n)
    quiet_number n [] = refl
    quiet_number n (i ∷ is) = ap (λ c. number_in (cond c (Some (changed k f i)) (live_at (with_change k f is) n))) (same (i.number == k)) ∙ by (is_live_as n i) (quiet_number n is)
      where
        same : (b : Bool) → is_live_as n (if b then f i else i) ≡ is_live_as n i
        same true = same_live n i
        same false = refl

        its : (b : Bool) → (if b then f i else i).number ≡ i.number
        its true = q.number i
        its false = refl

        by : (c : Bool) → number_in (live_at (with_change k f is) n) ≡ number_in (live_at is n)
            → number_in (cond c (Some (changed k f i)) (live_at (with_change k f is) n)) ≡ number_in (cond c (Some i) (live_at is n))
        by true rest = ap Some (its (i.number == k))
        by false rest = rest

    pub quiet_order : (is : List Instance) → Orderly is → Orderly (with_change k f is)
    quiet_order is o = record {
      numbers = numbers_fall q.number is o.numbers;
      single = λ n m e. only_kept q.number n (λ i t. sym (same_live n i) ∙ t) m is (o.single n m (sym (quiet_number n is) ∙ e));
    }

  module _ (ends : Ends f) where
    never_live : (n : Name) (i : Instance) → is_live_as n (f i) ≡ false
    never_live n i = ap (λ l. l && same_name (f i).name n) (ends.dead i)

    -- an end of the only live one leaves none
    none_after : (n : Name) (is : List Instance) → OnlyLive k n is → live_at (with_change k f is) n ≡ None
    none_after n [] only = refl
    none_after n (i ∷ is) only = ap (λ c. cond c (Some (changed k f i)) (live_at (with_change k f is) n)) (by (i.number == k) (is_live_as n i) refl refl) ∙ none_after n is only.1
      where
        by : (b c : Bool) → (i.number == k) ≡ b → is_live_as n i ≡ c → is_live_as n (if b then f i else i) ≡ false
        by true c e t = never_live n i
        by false true e t = absurd (false≢true (sym e ∙ only.0 t))
        by false false e t = t

    -- a name loses the number of the one that ends
    pub ended_number : (n : Name) (is : List Instance) → ((m : ℕ) → number_in (live_at is n) ≡ Some m → OnlyLive m n is) → number_in (live_at (with_change k f is) n) ≡ without_number k (number_in (live_at is n))
    ended_number n [] single = refl
    ended_number n (i ∷ is) single = by (is_live_as n i) refl single (ended_number n is)
      where
        dead : (b : Bool) → is_live_as n i ≡ false → is_live_as n (if b then f i else i) ≡ false
        dead true t = never_live n i
        dead false t = t

        here : (b : Bool) → (i.number == k) ≡ b → is_live_as n i ≡ true → OnlyLive i.number n is
            → number_in (cond (is_live_as n (if b then f i else i)) (Some (if b then f i else i)) (live_at (with_change k f is) n)) ≡ (if b then None else Some i.number)
        here true e t only = ap (λ c. number_in (cond c (Some (f i)) (live_at (with_change k f is) n))) (never_live n i)
            ∙ ap number_in (none_after n is (only_is only))
          where
            only_is : OnlyLive i.number n is → OnlyLive k n is
            only_is h = subst (λ m. OnlyLive m n is) (eqb-true i.number k e) h
        here false e t only = ap (λ c. number_in (cond c (Some i) (live_at (with_change k f is) n))) t

        by : (c : Bool) → is_live_as n i ≡ c → ((m : ℕ) → number_in (cond c (Some i) (live_at is n)) ≡ Some m → OnlyLive m n (i ∷ is))
            → (((m : ℕ) → number_in (live_at is n) ≡ Some m → OnlyLive m n is) → number_in (live_at (with_change k f is) n) ≡ without_number k (number_in (live_at is n)))
            → number_in (live_at (with_change k f (i ∷ is)) n) ≡ without_number k (number_in (cond c (Some i) (live_at is n)))
        by true t only rest = here (i.number == k) refl t (only i.number refl).1
        by false t only rest = ap (λ c. number_in (cond c (Some (changed k f i)) (live_at (with_change k f is) n))) (dead (i.number == k) t) ∙ rest (λ m e. (only m e).1)

    pub ended_order : (is : List Instance) → Orderly is → Orderly (with_change k f is)
    ended_order is o = record {
      numbers = numbers_fall ends.number is o.numbers;
      single = λ n m e. only_kept ends.number n (λ i t. absurd (false≢true (sym (never_live n i) ∙ t))) m is (o.single n m (had n m (number_in (live_at is n)) (sym (ended_number n is (λ m. o.single n m)) ∙ e)));
    }
      where
        had : (n : Name) (m : ℕ) (o : Option ℕ) → without_number k o ≡ Some m → o ≡ Some m
        had n m None e = absurd (none-some m e)
        had n m (Some j) e = by (j == k) e
          where
            by : (b : Bool) → (if b then None else Some j) ≡ Some m → Some j ≡ Some m
            by true e = absurd (none-some m e)
            by false e = e

-- Numbers fall, so a number tells the place.

numbered_within : (is : List Instance) → NumbersFall is → (k : ℕ) (j : Instance) → numbered is k ≡ Some j → k ≤ length is
numbered_within [] h k j e = absurd (none-some j e)
numbered_within (i ∷ is) h k j e = by (i.number == k) refl (numbered_within is h.1 k j) e
  where
    by : (b : Bool) → (i.number == k) ≡ b → (numbered is k ≡ Some j → k ≤ length is) → cond b (Some i) (numbered is k) ≡ Some j → k ≤ suc (length is)
    by true t rest e = let same : i.number ≡ k = eqb-true i.number k t in let is_last : i.number ≡ suc (length is) = h.0 in omega (arith, same, is_last)
    by false t rest e = let below : k ≤ length is = rest e in omega (arith, below)

-- what is live under a name is the one of its number
pub live_numbered : (n : Name) (is : List Instance) → NumbersFall is → (j : Instance) → live_at is n ≡ Some j → numbered is j.number ≡ Some j
live_numbered n [] h j e = absurd (none-some j e)
live_numbered n (i ∷ is) h j e = by (is_live_as n i) (live_numbered n is h.1 j) e
  where
    other : (b : Bool) → (i.number == j.number) ≡ b → numbered is j.number ≡ Some j → cond b (Some i) (numbered is j.number) ≡ Some j
    other true t found =
        let same : i.number ≡ j.number = eqb-true i.number j.number t in
        let last : i.number ≡ suc (length is) = h.0 in
        let within : j.number ≤ length is = numbered_within is h.1 j.number j found in
        absurd (omega (arith, same, last, within))
    other false t found = found

    by : (c : Bool) → (live_at is n ≡ Some j → numbered is j.number ≡ Some j) → cond c (Some i) (live_at is n) ≡ Some j → numbered (i ∷ is) j.number ≡ Some j
    by true rest e = ap (λ x. numbered (i ∷ is) x.number) (sym (same_Some i j e)) ∙ ap (λ b. cond b (Some i) (numbered is i.number)) (itself i.number) ∙ e
    by false rest e = other (i.number == j.number) refl (rest e)

-- and it has that name
pub live_named : (n : Name) (is : List Instance) (j : Instance) → live_at is n ≡ Some j → same_name j.name n ≡ true
live_named n [] j e = absurd (none-some j e)
live_named n (i ∷ is) j e = by (is_live_as n i) refl (live_named n is j) e
  where
    named : (b : Bool) → (b && same_name i.name n) ≡ true → same_name i.name n ≡ true
    named true t = t
    named false t = absurd (false≢true t)

    by : (c : Bool) → is_live_as n i ≡ c → (live_at is n ≡ Some j → same_name j.name n ≡ true) → cond c (Some i) (live_at is n) ≡ Some j → same_name j.name n ≡ true
    by true t rest e = ap (λ x. same_name x.name n) (sym (same_Some i j e)) ∙ named (is_live i) t
    by false t rest e = rest e

-- by the number of a name, none where it has none
abbrev pub by_number : List Instance → Option ℕ → Option Instance
by_number is None = None
by_number is (Some k) = numbered is k

pub live_is : (n : Name) (is : List Instance) → NumbersFall is → live_at is n ≡ by_number is (number_in (live_at is n))
live_is n is h = by (live_at is n) refl
  where
    by : (o : Option Instance) → live_at is n ≡ o → o ≡ by_number is (number_in o)
    by None e = refl
    by (Some j) e = sym (live_numbered n is h j e)

-- A new one is live under its name, where none was.
none_live : (n : Name) (m : ℕ) (is : List Instance) → live_at is n ≡ None → OnlyLive m n is
none_live n m [] e = tt
none_live n m (i ∷ is) e = by (is_live_as n i) refl (none_live n m is) e
  where
    by : (c : Bool) → is_live_as n i ≡ c → (live_at is n ≡ None → OnlyLive m n is) → cond c (Some i) (live_at is n) ≡ None → OnlyLive m n (i ∷ is)
    by true t rest e = absurd (none-some i (sym e))
    by false t rest e = ((λ l. absurd (false≢true (sym t ∙ l))), rest e)

none_there : (o : Option Instance) → number_in o ≡ None → o ≡ None
none_there None e = refl
none_there (Some i) e = absurd (none-some i.number (sym e))

pub born_order : (i : Instance) (is : List Instance) → i.number ≡ suc (length is) → is_live i ≡ true → number_in (live_at is i.name) ≡ None → Orderly is → Orderly (i ∷ is)
born_order i is number lives none o = record {
  numbers = (number, o.numbers);
  single = λ n m e. by n m (same_name i.name n) refl (ap (λ l. number_in (cond (l && same_name i.name n) (Some i) (live_at is n))) (sym lives) ∙ e);
}
  where
    by : (n : Name) (m : ℕ) (b : Bool) → same_name i.name n ≡ b → number_in (cond (same_name i.name n) (Some i) (live_at is n)) ≡ Some m → OnlyLive m n (i ∷ is)
    by n m true t e =
        let same : i.number ≡ m = same_Some _ _ (sym (ap (λ b. number_in (cond b (Some i) (live_at is n))) t) ∙ e) in
        ((λ l. eq-eqb i.number m same), none_live n m is (none_there (live_at is n) (ap (λ x. number_in (live_at is x)) (sym (same_true i.name n t)) ∙ none)))
    by n m false t e = ((λ l. absurd (false≢true (sym (not_live (is_live i)) ∙ l))), o.single n m (sym (ap (λ b. number_in (cond b (Some i) (live_at is n))) t) ∙ e))
      where
        not_live : (b : Bool) → (b && same_name i.name n) ≡ false
        not_live true = t
        not_live false = refl

-- The instance of a number, as one of them changes.

module _ (f : Instance → Instance) (same : (i : Instance) → (f i).number ≡ i.number) (k : ℕ) where
  pub changed_here : (is : List Instance) → numbered (with_change k f is) k ≡ option_map f (numbered is k)
  changed_here [] = refl
  changed_here (i ∷ is) = by (i.number == k) refl (changed_here is)
    where
      by : (b : Bool) → (i.number == k) ≡ b → numbered (with_change k f is) k ≡ option_map f (numbered is k)
          → cond ((if b then f i else i).number == k) (Some (if b then f i else i)) (numbered (with_change k f is) k) ≡ option_map f (cond b (Some i) (numbered is k))
      by true e rest = ap (λ c. cond c (Some (f i)) (numbered (with_change k f is) k)) (ap (λ j. j == k) (same i) ∙ e)
      by false e rest = ap (λ c. cond c (Some i) (numbered (with_change k f is) k)) e ∙ rest

  pub changed_elsewhere : (m : ℕ) → (m == k) ≡ false → (is : List Instance) → numbered (with_change m f is) k ≡ numbered is k
  changed_elsewhere m other [] = refl
  changed_elsewhere m other (i ∷ is) = by (i.number == m) refl (changed_elsewhere m other is)
    where
      by : (b : Bool) → (i.number == m) ≡ b → numbered (with_change m f is) k ≡ numbered is k
          → cond ((if b then f i else i).number == k) (Some (if b then f i else i)) (numbered (with_change m f is) k) ≡ cond (i.number == k) (Some i) (numbered is k)
      by true e rest =
          let apart : (i.number == k) ≡ false = ap (λ j. j == k) (eqb-true i.number m e) ∙ other in
          ap (λ c. cond c (Some (f i)) (numbered (with_change m f is) k)) (ap (λ j. j == k) (same i) ∙ apart) ∙ rest ∙ ap (λ c. cond c (Some i) (numbered is k)) (sym apart)
      by false e rest = ap (cond (i.number == k) (Some i)) rest
