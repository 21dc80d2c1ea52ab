-- A page that is added behind the changes that are shown.
use Rattle.std.proofs.Common.{◌≡◌, ◌∙◌, ◌++◌, ◌∷◌, [], ℕ, Bool, List, ap, false, length, refl, subst, take, true}
use Rattle.std.specs.List.{AllZip}
use Rattle.std.proofs.Math.Seq.{take-append_seam}
use Rattle.std.proofs.lemmas.Bool.{false≢true}
use Rattle.live_folder.specs.Pages.{Makes, ShownAs, ShowsChanges, ShowsPage}
use Rattle.live_folder.specs.declared.look.Change.{Change}
use Rattle.live_folder.specs.declared.look.Look.{Look}

pub shows_added : (page text : List ℕ) (adds : Bool) (changes front shown : List Change) (one : Change)
    → adds ≡ true → shown ≡ front ++ one ∷ [] → AllZip (ShownAs page text) changes front → Makes page text one
    → ShowsChanges page text adds changes shown
shows_added page text false changes front shown one a w o m = absurd (false≢true a)
shows_added page text true changes front shown one a w o m = record {
  front = front;
  more = one ∷ [];
  whole = w;
  others = o;
  made = (one, refl, m);
}

-- those that are shown stand before what is added
pub shown_before : (n : ℕ) (front rest more shown : List Change) → n ≡ length front
    → shown ≡ take n (front ++ rest) ++ more → shown ≡ front ++ more
shown_before n front rest more shown long is =
    is ∙ ap (λ xs. xs ++ more) (ap (λ k. take k (front ++ rest)) long ∙ take-append_seam front rest)

-- a page of the same name and text, due at the same time
pub shows_same : (page page' text text' : List ℕ) (due due' : Bool) (look shown : Look)
    → page' ≡ page → text' ≡ text → due' ≡ due
    → ShowsPage page' text' due' look shown → ShowsPage page text due look shown
shows_same page page' text text' due due' look shown p t d s =
    subst (λ n. ShowsPage n text due look shown) p
    (subst (λ n. ShowsPage page' n due look shown) t (subst (λ n. ShowsPage page' text' n look shown) d s))
