-- What besides an import lets a change pass, and what a reason is seen as.
use Rattle.std.specs.Prelude.{Bool, false, not, ◌&&◌, ◌||◌, List, [], ◌∷◌}
use Rattle.hmr_types.specs.declared.words.ReloadCause.{ReloadCause}
use Rattle.hmr_types.specs.declared.words.ReloadCause.TheVariants as causes
use Rattle.core_model.specs.Names.{Name, has}
use Rattle.core_model.specs.View.{View, accepts, self_accepts, declines}
use Rattle.propagate.specs.declared.outcome.Reason.{Reason}
use Rattle.propagate.specs.declared.outcome.Reason.TheVariants.{Root, Declined}

-- m, which imports n, doesn't accept it, and n doesn't accept itself or is forced
abbrev pub lets_pass : View → List Name → Name → Name → Bool
lets_pass view forced n m = not (accepts view m n) && (not (self_accepts view n) || has forced n)

-- the path of a reason
abbrev pub path_of : Reason → List Name
path_of (Root path) = path
path_of (Declined path) = path

-- where the path of a reason ends
abbrev pub cause_in : Reason → ReloadCause
cause_in (Root path) = causes.Root
cause_in (Declined path) = causes.Declined

-- the last name of the path declines
abbrev pub ends_declining : View → List Name → Bool
ends_declining view [] = false
ends_declining view (n ∷ []) = declines view n
ends_declining view (n ∷ (m ∷ path)) = ends_declining view (m ∷ path)
