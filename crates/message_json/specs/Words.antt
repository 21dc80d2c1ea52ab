-- The words of messages as they are read: causes, and the kinds of fault.
use Rattle.std.specs.Prelude.{[], ◌∷◌}
use Rattle.std.specs.Prelude.{ℕ, List, Bool, true, false, if◌then◌else◌, Option, Some, None, option_and_then}
use Rattle.std.specs.Str.{bytes_eq}
use Rattle.serde_json.specs.Data.{Data}
use Rattle.serde_json.specs.Find.{as_str}
use Rattle.hmr_types.specs.declared.analysis.FaultWord.{FaultWord}
use Rattle.hmr_types.specs.declared.analysis.FaultWord.TheVariants as faults
use Rattle.hmr_types.specs.declared.words.ReloadCause.{ReloadCause}
use Rattle.hmr_types.specs.declared.words.ReloadCause.TheVariants.{Root, Declined}
use Rattle.update_msgs.specs.declared.message.AbortCause.{AbortCause}
use Rattle.update_msgs.specs.declared.message.AbortCause.TheVariants.{Missing, Broken, Link}

-- whether an importer's link is the cause
abbrev pub is_link : AbortCause → Bool
is_link Missing = false
is_link Broken = false
is_link Link = true

-- the first of the list whose word the text is
unfoldable pub spelled : {X : Type 0} → (X → List ℕ) → List X → List ℕ → Option X
spelled word [] s = None
spelled word (x ∷ xs) s = if bytes_eq s (word x) then Some x else spelled word xs s

-- the value is the word of one of the list
unfoldable pub word_in : {X : Type 0} → (X → List ℕ) → List X → Data → Option X
word_in word xs d = option_and_then (spelled word xs) (as_str d)

-- the causes for which a plan is given up
abbrev pub abort_causes : List AbortCause
abort_causes = Missing ∷ Broken ∷ Link ∷ []

-- the causes of a reload
abbrev pub reload_causes : List ReloadCause
reload_causes = Root ∷ Declined ∷ []

-- the kinds of fault of a text
abbrev pub fault_kinds : List FaultWord
fault_kinds =
    faults.BadByte ∷ faults.OpenString ∷ faults.OpenComment ∷ faults.BadEscape ∷ faults.NumberTooLarge ∷
    faults.TooManyTokens ∷ faults.Unexpected ∷ faults.TooDeep ∷ faults.DuplicateName ∷ faults.NotUtf8 ∷
    faults.NotAssignable ∷ faults.SpecifierBare ∷ faults.SpecifierClimbs ∷ faults.SpecifierEmpty ∷
    faults.SpecifierTooLong ∷ faults.SpecifierBadSegment ∷ faults.TooManyImports ∷ []
