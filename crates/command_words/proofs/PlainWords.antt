-- Plain words, by computation: clap's walk over words that are known, or that begin with a slash.
use Rattle.std.proofs.Common.{ℕ, List, [], ◌∷◌, true, ◌≡◌, refl, sym, subst, ◌∙◌, codes}
use Rattle.std.proofs.lemmas.Bool.{and_parts, eqb-true}
use Rattle.std.specs.List.{list_all}
use Rattle.std.specs.Prelude.{None, ◌&&◌, ◌==◌, nat_le, length}
use Rattle.clap.proofs.OnLiterals.{clap_on_literals}
use Rattle.hmr_types.specs.ModName.{is_name, is_segment, parts, slash}
use Rattle.command_words.specs.Words.{IsCommand, checking, command_of, faults_of, found_in, word_of}
use Rattle.command_words.specs.declared.command.Command.TheVariants.{Play, Check}

pub play_is : IsCommand (codes "play" ∷ []) Play
unfolding faults_of clap_on_literals
play_is = refl

pub check_alone : command_of (codes "check" ∷ []) ≡ None
unfolding faults_of clap_on_literals
check_alone = refl

-- what stands behind `check` begins with a slash, and is checked as it stands
check_of_slash : (bs : List ℕ) → command_of (codes "check" ∷ (47 ∷ bs) ∷ []) ≡ checking (47 ∷ bs)
unfolding faults_of found_in word_of clap_on_literals
check_of_slash bs = refl

slash_of : (b : ℕ) (bs : List ℕ) → is_name (b ∷ bs) ≡ true → b ≡ 47
slash_of b bs h =
    let first = and_parts ((b == slash) && nat_le (length (b ∷ bs)) 255) (list_all is_segment (parts bs)) h in
    let begins = and_parts (b == slash) (nat_le (length (b ∷ bs)) 255) first.0 in
    eqb-true b 47 begins.0

named : (bs : List ℕ) → is_name (47 ∷ bs) ≡ true
    → IsCommand (codes "check" ∷ (47 ∷ bs) ∷ []) (Check (47 ∷ bs))
named bs h =
    check_of_slash bs ∙ rw h refl

pub check_is : (name : List ℕ) → is_name name ≡ true → IsCommand (codes "check" ∷ name ∷ []) (Check name)
check_is [] h = absurd (cc)
check_is (b ∷ bs) h =
    let e = slash_of b bs h in
    subst (λ (c : ℕ). IsCommand (codes "check" ∷ (c ∷ bs) ∷ []) (Check (c ∷ bs))) (sym e)
    (named bs (subst (λ (c : ℕ). is_name (c ∷ bs) ≡ true) e h))
