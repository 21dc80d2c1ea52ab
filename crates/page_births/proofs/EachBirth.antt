-- New instances are made one after another: the names that are left stay new.
use Rattle.std.proofs.Common.{◌≡◌, ℕ, suc, Bool, true, false, List, [], ◌∷◌, length, map, refl, ap, sym, ◌∙◌, arith}
use Rattle.std.specs.Prelude.{◌||◌, Some, None, Option, if◌then◌else◌}
use Rattle.std.proofs.Math.Path.{subst}
use Rattle.std.proofs.lemmas.Bool.{false≢true}
use Rattle.output_lines.specs.declared.out_line.OutLine.{OutLine}
use Rattle.core_model.specs.Names.{Name, same_name, has}
use Rattle.client_model.specs.Making as model
use Rattle.client_model.specs.Making.{make}
use Rattle.module_language.specs.ModuleLanguage.{module_language}
use Rattle.page_births.specs.declared.birth.Birth.{Birth}
use Rattle.page_state.specs.declared.page.Page.{Page}
use Rattle.page_births.specs.Births.{IsBirth}
use Rattle.page_births.specs.EachBirth.{AreBirths, AreNew, FollowsBirths, BirthsBegin}
use Rattle.page_state.specs.Live.{Numbers, number_of, HasNumber}
use Rattle.page_state.specs.Standing.{Follows}
use Rattle.page_state.proofs.Following.{follows_nothing, follows_more}

neither : (a b : Bool) → (a || b) ≡ false → (a ≡ false) × (b ≡ false)
neither true b e = absurd (false≢true (sym e))
neither false b e = (refl, e)

still_new : (n : Name) (k : Option ℕ) (before after : Numbers) → HasNumber n k before after → (births : List Birth) → has (map (λ b. b.name) births) n ≡ false → AreNew before births → AreNew after births
still_new n k before after live [] other new = tt
still_new n k before after live (birth ∷ births) other new =
    let apart : (same_name birth.name n ≡ false) × (has (map (λ b. b.name) births) n ≡ false) = neither (same_name birth.name n) (has (map (λ b. b.name) births) n) other in (
      live birth.name ∙ ap (λ b. if b then k else number_of before birth.name) apart.0 ∙ new.0,
      (new.1.0, still_new n k before after live births apart.1 new.1.1),
    )

module _ {F : Type 0} where
  births_nothing : (p : Page F) (told : List OutLine) → FollowsBirths [] p p told told
  births_nothing p told new [] are = follows_nothing p told
  births_nothing p told new (b ∷ bs) are = absurd are

  births_more : (birth : Birth) (births : List Birth) (a b c : Page F) (told tells more : List OutLine)
      → length b.instances.items ≡ suc (length a.instances.items)
      → HasNumber birth.name (Some (suc (length a.instances.items))) a.live b.live
      → ((d : model.Birth) → IsBirth d birth a → number_of a.live birth.name ≡ None → Follows (make module_language d) a b told tells)
      → FollowsBirths births b c tells more → FollowsBirths (birth ∷ births) a c told more
  births_more birth births a b c told tells more count live one later new [] are = absurd are
  births_more birth births a b c told tells more count live one later new (d ∷ ds) are =
      follows_more (make module_language) d ds a b c told tells more (one d (are.0 a refl) new.0)
      (later (still_new birth.name (Some (suc (length a.instances.items))) a.live b.live live births new.1.0 new.1.1) ds
      (subst (λ k. AreBirths F k ds births) (sym count) are.1))

  -- one more is made
  pub next_begins : (whole now next : List Birth) (birth : Birth) (before a b : Page F) (first_told told tells : List OutLine) → now ≡ birth ∷ next
      → length b.instances.items ≡ suc (length a.instances.items)
      → HasNumber birth.name (Some (suc (length a.instances.items))) a.live b.live
      → ((d : model.Birth) → IsBirth d birth a → number_of a.live birth.name ≡ None → Follows (make module_language d) a b told tells)
      → BirthsBegin whole now before a first_told told → BirthsBegin whole next before b first_told tells
  next_begins whole now next birth before a b first_told told tells is count live one so_far = λ z more later. so_far z more
      (subst (λ births. FollowsBirths births a z told more) (sym is) (births_more birth next a b z told tells more count live one later))

  -- none is left
  pub all_begun : (whole rest : List Birth) (a b : Page F) (told tells : List OutLine) → length rest ≡ 0 → BirthsBegin whole rest a b told tells → FollowsBirths whole a b told tells
  all_begun whole rest a b told tells none begun = begun b tells (subst (λ births. FollowsBirths births b b tells tells) (sym (empty rest none)) (births_nothing b tells))
    where
      empty : (births : List Birth) → length births ≡ 0 → births ≡ []
      empty [] e = refl
      empty (birth ∷ births) e = absurd (omega (arith, e))
