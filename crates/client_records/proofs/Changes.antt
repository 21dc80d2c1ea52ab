-- What changed on a page, by look-up; and when nothing is to be done.
use Rattle.std.proofs.Common.{◌≡◌, Bool, true, false, List, [], ◌∷◌, refl, ap, sym, ◌∙◌}
use Rattle.std.specs.Prelude.{◌&&◌, Option, Some, None, is_some, is_none}
use Rattle.std.proofs.lemmas.Bool.{false≢true}
use Rattle.core_model.specs.Names.{Name, has, at, names_of}
use Rattle.core_model.specs.Sources.{Serving, Sources}
use Rattle.core_model.specs.FreshLoad.{Served}
use Rattle.core_model.specs.Page.{Plan}
use Rattle.core_model.specs.View.{View, Entry, differs, changed_of}
use Rattle.core_model.specs.Client.{Client, changed, dropped}
use Rattle.core_model.proofs.Naming.{filtered_has, head_has}
use Rattle.core_model.proofs.Tables.{named}
use Rattle.client_queue.specs.Queue.{is_clear, is_marked, is_none_left, marked_of}
use Rattle.client_records.specs.Record.{Kept, IsPlan, IsRecord, is_at_rest}

and_true : (b : Bool) → (b && true) ≡ b
and_true true = refl
and_true false = refl

there_step : (e : Option Entry) (served : Option Serving) → (differs e served && is_some e) ≡ differs e served
there_step None served = refl
there_step (Some e) served = and_true (differs (Some e) served)

-- a changed name is one whose version isn't the served one
pub changed_has : (served : Served) (view : View) (n : Name) → has (changed_of served view) n ≡ differs (at view n) (at served n)
changed_has served view n = filtered_has (λ m. differs (at view m) (at served m)) (names_of view) n ∙ ap (λ b. differs (at view n) (at served n) && b) (sym (named view n)) ∙ there_step (at view n) (at served n)

-- of two lists that have the same names neither or both are empty
pub none_same : (xs ys : List Name) → ((n : Name) → has xs n ≡ has ys n) → is_none_left xs ≡ is_none_left ys
none_same [] [] h = refl
none_same [] (y ∷ ys) h = absurd (false≢true (h y ∙ head_has y ys))
none_same (x ∷ xs) [] h = absurd (false≢true (sym (h x) ∙ head_has x xs))
none_same (x ∷ xs) (y ∷ ys) h = refl

none_named : {X : Type 0} (rows : List (Name × X)) → is_none_left rows ≡ is_none_left (names_of rows)
none_named [] = refl
none_named (row ∷ rows) = refl

rows_same : {X : Type 0} (rows more : List (Name × X)) → ((n : Name) → at rows n ≡ at more n) → is_none_left rows ≡ is_none_left more
rows_same rows more h = none_named rows ∙ none_same (names_of rows) (names_of more) (λ n. sym (named rows n) ∙ ap is_some (h n) ∙ named more n) ∙ sym (none_named more)

plan_same : (p q : Option Plan) → IsPlan p q → is_none q ≡ is_none p
plan_same None None h = refl
plan_same None (Some q) h = absurd h
plan_same (Some p) None h = absurd h
plan_same (Some p) (Some q) h = refl

regroup : (loaded planless unchanged unforced undropped untold : Bool) → (loaded && planless && undropped && (unforced && untold && unchanged)) ≡ (loaded && planless && unchanged && unforced && undropped && untold)
regroup false planless unchanged unforced undropped untold = refl
regroup true false unchanged unforced undropped untold = refl
regroup true true false unforced false untold = refl
regroup true true false false true untold = refl
regroup true true false true true false = refl
regroup true true false true true true = refl
regroup true true true false false untold = refl
regroup true true true false true untold = refl
regroup true true true true false untold = refl
regroup true true true true true false = refl
regroup true true true true true true = refl

-- the tests of what is kept are those of the definition
pub rests : (s : Sources) (c : Client) (k : Kept) → IsRecord s c k → ((n : Name) → has (marked_of k.queue.known) n ≡ is_marked k.queue n)
    → (k.loaded && is_none k.plan && is_none_left k.dropped && is_clear k.queue) ≡ is_at_rest s c
rests s c k h marks = regroup k.loaded (is_none k.plan) (is_none_left (marked_of k.queue.known)) (is_none_left k.queue.forced) (is_none_left k.dropped) (is_none_left k.queue.notices)
    ∙ ap (λ b. b && is_none k.plan && is_none_left (marked_of k.queue.known) && is_none_left k.queue.forced && is_none_left k.dropped && is_none_left k.queue.notices) h.loaded
    ∙ ap (λ b. c.page.loaded && b && is_none_left (marked_of k.queue.known) && is_none_left k.queue.forced && is_none_left k.dropped && is_none_left k.queue.notices) (plan_same c.page.plan k.plan h.plan)
    ∙ ap (λ b. c.page.loaded && is_none c.page.plan && b && is_none_left k.queue.forced && is_none_left k.dropped && is_none_left k.queue.notices) (none_same (marked_of k.queue.known) (changed s c) (λ n. marks n ∙ h.marks n ∙ sym (changed_has s.served c.page.view n)))
    ∙ ap (λ l. c.page.loaded && is_none c.page.plan && is_none_left (changed s c) && is_none_left l && is_none_left k.dropped && is_none_left k.queue.notices) h.forced
    ∙ ap (λ l. c.page.loaded && is_none c.page.plan && is_none_left (changed s c) && is_none_left c.page.forced && is_none_left l && is_none_left k.queue.notices) h.dropped
    ∙ ap (λ b. c.page.loaded && is_none c.page.plan && is_none_left (changed s c) && is_none_left c.page.forced && is_none_left (dropped c) && b) (rows_same k.queue.notices c.notices h.notices)

pub rests_so : (s : Sources) (c : Client) (k : Kept) (answer idle undropped clear : Bool) → IsRecord s c k → ((n : Name) → has (marked_of k.queue.known) n ≡ is_marked k.queue n)
    → answer ≡ (k.loaded && idle && undropped && clear) → idle ≡ is_none k.plan → undropped ≡ is_none_left k.dropped → clear ≡ is_clear k.queue → answer ≡ is_at_rest s c
rests_so s c k answer idle undropped clear h marks e i u l = e
    ∙ ap (λ b. k.loaded && b && undropped && clear) i ∙ ap (λ b. k.loaded && is_none k.plan && b && clear) u ∙ ap (λ b. k.loaded && is_none k.plan && is_none_left k.dropped && b) l ∙ rests s c k h marks
