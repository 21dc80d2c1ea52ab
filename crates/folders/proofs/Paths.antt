-- Paths that lead through a folder, and what the words of std on texts say of them.
use Rattle.std.proofs.Common.{ℕ, List, [], ◌∷◌, ◌++◌, length, ◌<◌, Bool, true, false, cond, ◌≡◌, refl, sym, ap, ◌∙◌, arith, Option, Some, None, Bor}
use Rattle.std.specs.Prelude.{◌==◌, ◌≢◌, MatchOption, All}
use Rattle.std.specs.Option.{option_copied}
use Rattle.std.specs.List.{position_or_len, before_first, after_first}
use Rattle.std.proofs.lemmas.Grind.{common_steps}
use Rattle.std.proofs.lemmas.Bool.{eqb-true, eq-eqb}
use Rattle.std.proofs.lemmas.List.{take_all}
use Rattle.std.proofs.lemmas.List.Folds.{list_any_none}
use Rattle.std.proofs.lemmas.List.Sums.{split_at_first, fails_before_first, passes_at_first}
use Rattle.hmr_types.specs.ModName.{slash}
use Rattle.folders.specs.Files.{below, rest_after}
use Rattle.folders.specs.Entries.{has_slash}

-- a path below a folder leads through it
pub rest-below : (folder rest : List ℕ) → rest_after folder (below folder rest) ≡ Some rest
rest-below [] rest = refl
rest-below (c ∷ folder) rest = rw (eq-eqb c c refl) (rest-below folder rest)

rest_turn : (c b : ℕ) (folder path rest : List ℕ) (t : Bool) → (c == b) ≡ t → cond t (rest_after folder path) None ≡ Some rest
    → (rest_after folder path ≡ Some rest → path ≡ below folder rest) → b ∷ path ≡ c ∷ below folder rest
rest_turn c b folder path rest true e k h = ap (λ x. x ∷ path) (sym (eqb-true c b e)) ∙ ap (λ l. c ∷ l) (h k)
rest_turn c b folder path rest false e k h = absurd (cc)

rest_first : (b : ℕ) (path rest : List ℕ) (t : Bool) → (b == slash) ≡ t → cond t (Some path) None ≡ Some rest → b ∷ path ≡ slash ∷ rest
rest_first b path rest true e k = let same : path ≡ rest = cc in ap (λ x. x ∷ path) (eqb-true b slash e) ∙ ap (λ l. slash ∷ l) same
rest_first b path rest false e k = absurd (cc)

-- a path that leads through a folder is below it
pub rest-is : (folder path rest : List ℕ) → rest_after folder path ≡ Some rest → path ≡ below folder rest
rest-is folder [] rest h = absurd (cc)
rest-is [] (b ∷ path) rest h = rest_first b path rest (b == slash) refl h
rest-is (c ∷ folder) (b ∷ path) rest h = rest_turn c b folder path rest (c == b) refl h (rest-is folder path rest)

-- and one that isn't below it doesn't
pub rest-none : (folder path : List ℕ) → ((rest : List ℕ) → path ≢ below folder rest) → rest_after folder path ≡ None
rest-none folder path h = by (rest_after folder path) refl
  where
    by : (o : Option (List ℕ)) → rest_after folder path ≡ o → o ≡ None
    by None e = refl
    by (Some rest) e = absurd (h rest (rest-is folder path rest e))

append_rest : (folder rest rest' : List ℕ) → folder ++ rest ≡ folder ++ rest' → rest ≡ rest'
append_rest [] rest rest' e = e
append_rest (c ∷ folder) rest rest' e = append_rest folder rest rest' (cc)

-- what is left without the folder and then without a slash
pub rest-stripped : (folder path rest : List ℕ) (r : Option (Bor (List ℕ))) → path ≡ folder ++ rest
    → MatchOption r ((more : List ℕ) → rest ≢ slash ∷ more) (λ x. rest ≡ slash ∷ x.now) → option_copied r ≡ rest_after folder path
rest-stripped folder path rest None e m = sym (rest-none folder path (λ more l. m more (append_rest folder rest (slash ∷ more) (sym e ∙ l))))
rest-stripped folder path rest (Some x) e m = sym (ap (rest_after folder) (e ∙ ap (λ l. folder ++ l) m) ∙ rest-below folder x.now)

-- the part before the first slash has none
pub no_slash-before : (text : List ℕ) → has_slash (before_first (λ b. b == slash) text) ≡ false
no_slash-before text =
    let front : All (λ b. (b == slash) ≡ false) (before_first (λ b. b == slash) text) = λ k d lt. let h = fails_before_first (λ b. b == slash) text k d (grind (arith, common_steps)) in grind (arith, common_steps) in
    list_any_none (λ b. b == slash) (before_first (λ b. b == slash) text) front

-- and where none is found there is none
pub no_slash-in : (text : List ℕ) → position_or_len (λ b. b == slash) text ≡ length text → has_slash text ≡ false
no_slash-in text e = ap has_slash (sym (take_all (position_or_len (λ b. b == slash) text) text (omega (arith, e)))) ∙ no_slash-before text

-- what stands before the first slash, the slash, and what stands after it
pub rest-split : (rest name : List ℕ) → name ≡ before_first (λ b. b == slash) rest → position_or_len (λ b. b == slash) rest < length rest
    → rest ≡ name ++ slash ∷ after_first (λ b. b == slash) rest
rest-split rest name n lt =
    split_at_first (λ b. b == slash) rest 0 lt
    ∙ ap (λ b. before_first (λ b. b == slash) rest ++ b ∷ after_first (λ b. b == slash) rest) (eqb-true _ slash (passes_at_first (λ b. b == slash) rest 0 lt))
    ∙ ap (λ l. l ++ slash ∷ after_first (λ b. b == slash) rest) (sym n)
