-- One entry more, and one that was recorded.
use Rattle.std.proofs.Common.{◌≡◌, ℕ, List, [], ◌∷◌, ◌++◌, Bool, true, false, Option, refl, subst}
use Rattle.std.specs.Prelude.{IsSome}
use Rattle.std.proofs.lemmas.Bool.{false≢true}
use Rattle.turn_tests.specs.declared.tally.Ask.TheVariants.{the_data, Add}
use Rattle.turn_tests.specs.Totals.{IsReply, after, total_of}

pub total_more : (start : ℕ) (es : List (ℕ × the_data)) (by : ℕ) (entry : the_data)
    → total_of start (es ++ (by, entry) ∷ []) ≡ after (total_of start es) entry
total_more start [] by entry = refl
total_more start (e ∷ es) by entry = total_more (after start e.1) es by entry

-- a reply with a total tells that the addition was recorded
pub recorded_where_told : (r : Option ℕ) (recorded : Bool) (total n : ℕ) → IsReply total (Add n) r recorded
    → IsSome r → recorded ≡ true
recorded_where_told r true total n e some = λ i. true
recorded_where_told r false total n e some = absurd (false≢true (subst (λ o. IsSome o) e some))
