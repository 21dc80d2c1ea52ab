-- New instances are made one after another.
use Rattle.std.specs.Prelude.{◌≡◌, ℕ, suc, false, List, [], ◌∷◌, length, map, None, ⊤}
use Prim.{⊥}
use Rattle.output_lines.specs.declared.out_line.OutLine.{OutLine}
use Rattle.core_model.specs.Names.{has}
use Rattle.client_model.specs.Making as model
use Rattle.client_model.specs.Making.{make}
use Rattle.client_model.specs.Runtime.{for_each}
use Rattle.module_language.specs.ModuleLanguage.{module_language}
use Rattle.page_births.specs.declared.birth.Birth.{Birth}
use Rattle.page_state.specs.declared.page.Page.{Page}
use Rattle.page_births.specs.Births.{IsBirth}
use Rattle.page_state.specs.Live.{Numbers, number_of}
use Rattle.page_state.specs.Standing.{Follows}

-- the model's births are the code's, one by one, on a page with so many instances
abbrev pub AreBirths : (F : Type 0) → ℕ → List model.Birth → List Birth → Type 0
AreBirths F made [] [] = ⊤
AreBirths F made [] (birth ∷ births) = ⊥
AreBirths F made (b ∷ bs) [] = ⊥
AreBirths F made (b ∷ bs) (birth ∷ births) =
    ((p : Page F) → length p.instances.items ≡ made → IsBirth b birth p) × AreBirths F (suc made) bs births

-- none of the names is live, and no two are the same
abbrev pub AreNew : Numbers → List Birth → Type 0
AreNew live [] = ⊤
AreNew live (birth ∷ births) =
    (number_of live birth.name ≡ None)
    × ((has (map (λ b. b.name) births) birth.name ≡ false) × AreNew live births)

-- where the names are new, the making of all of them follows the model's of their births
abbrev pub FollowsBirths : {F : Type 0} → List Birth → (before after : Page F) → (told tells : List OutLine)
    → Type 0
FollowsBirths {F} births before after told tells = AreNew before.live births → (bs : List model.Birth)
    → AreBirths F (length before.instances.items) bs births
    → Follows (for_each (make module_language) bs) before after told tells

-- the first of them were made, and the rest are left
abbrev pub BirthsBegin : {F : Type 0} → (whole rest : List Birth) → (before after : Page F)
    → (told tells : List OutLine) → Type 0
BirthsBegin {F} whole rest before after told tells = (z : Page F) (more : List OutLine)
    → FollowsBirths rest after z tells more → FollowsBirths whole before z told more
