-- An event that is fired is heard, or leaves the client as it was.
use Rattle.std.proofs.Common.{◌≡◌, Bool, true, false, [], refl}
use Rattle.std.specs.Prelude.{not, ◌||◌, Option, Some, None, is_some, if◌then◌else◌}
use Rattle.std.proofs.lemmas.Bool.{true≢false}
use Rattle.hmr_types.specs.declared.value.Value.{Value}
use Rattle.core_model.specs.Names.{Name}
use Rattle.core_model.proofs.Naming.{not_false}
use Rattle.client_model.specs.Language.{Language}
use Rattle.client_model.specs.Runtime.{Runtime, Did}
use Rattle.client_model.specs.Firing.{Firing, busy, unheard, did_hear, hear_all, fire}
use Rattle.client_model.specs.Firing as fires

if_heard : (Q : Did → Type 0) (stopped unfit : Bool) (first second third : Firing) → Q (first.after, first.journal) → Q (second.after, second.journal) → (unfit ≡ false → Q (third.after, third.journal))
    → let chosen : Firing = if stopped then first else (if unfit then second else third) in Q (chosen.after, chosen.journal)
if_heard Q true unfit first second third a b c = a
if_heard Q false true first second third a b c = b
if_heard Q false false first second third a b c = c refl

both_false : (a b : Bool) → (a || b) ≡ false → (a ≡ false) × (b ≡ false)
both_false true b e = absurd (true≢false e)
both_false false b e = (refl, e)

none_if : {X : Type 0} (o : Option X) → is_some o ≡ false → o ≡ None
none_if None e = refl
none_if (Some x) e = absurd (true≢false e)

-- what holds of a client as it is, and of one that heard the event, holds once it is fired
pub fire_by : (language : Language) (r : Runtime) (n : Name) (value : Value) (Q : Did → Type 0) → Q (r, []) → (r.page.loaded ≡ true → r.page.plan ≡ None → Q (hear_all language n value r)) → Q ((fire language n value r).after, (fire language n value r).journal)
fire_by language r n value Q same heard = if_heard Q r.stopped (not r.page.loaded || is_some r.page.plan) (unheard fires.is_stopped r) (unheard busy r) (did_hear (hear_all language n value r)) same same
    (λ e. let apart = both_false (not r.page.loaded) (is_some r.page.plan) e in heard (not_false _ apart.0) (none_if r.page.plan apart.1))
