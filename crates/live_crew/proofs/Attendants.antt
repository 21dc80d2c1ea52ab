-- What is kept of an attendant.
use Rattle.std.proofs.Common.{◌≡◌, ℕ, Bool, true, false, List, [], ◌∷◌, ◌++◌, refl, ap, sym, subst, ◌∙◌}
use Rattle.std.specs.Prelude.{◌||◌, not, is_some, Option, Some, None, Err}
use Rattle.std.specs.Option.{option_map}
use Rattle.std.proofs.lemmas.Bool.{false≢true}
use Rattle.hmr_hub.specs.declared.pass.Pass.{Pass}
use Rattle.hmr_hub.specs.Passes.{number_of}
use Rattle.session_desks.specs.Desks.{Left, SameDesk}
use Rattle.live_desk.specs.declared.desk.LiveDesk.{LiveDesk}
use Rattle.live_desk.specs.Desks.{GoesOn, told_by}
use Rattle.live_desk.specs.Sessions.{HasDealt, Session}
use Rattle.live_desk.proofs.Sessions.{dealt_none, session_held}
use Rattle.transport.specs.Told.{told_and}
use Rattle.sessions.specs.Course.{Comes, Course}
use Rattle.sessions.specs.declared.ended.Ended.{Ended}
use Rattle.live_crew.specs.Held.{HasHeld, IsServed}
use Rattle.live_crew.proofs.Held.{held_one, held_then}
use Rattle.live_crew.specs.Attendants.{HasHeldTo, SameAttendant, is_done}
use Rattle.live_crew.specs.declared.attendant.HubAttendant.{HubAttendant}

-- where one of two has a pass, the other has one, if the numbers are the same
some_as : {A B : Type 0} (f : A → B) (x y : Option A) → option_map f y ≡ option_map f x → is_some x ≡ true → is_some y ≡ true
some_as f x (Some b) e h = refl
some_as f (Some a) None e h = absurd (cc)
some_as f None None e h = h

not_none : (full has : Bool) → (full || not has) ≡ false → has ≡ true
not_none true has h = absurd (false≢true (sym h))
not_none false true h = refl
not_none false false h = absurd (false≢true (sym h))

-- one session more was held with a pass
held_more : (p x y : Pass) → HasHeldTo p (Some x) → (s : Session) × HasHeld x y (s ∷ []) → HasHeldTo p (Some y)
held_more p x y h one = (h.0 ++ one.0 ∷ [], held_then p x y h.0 (one.0 ∷ []) h.1 one.1)

some_same : {X : Type 0} (x y : X) → Some x ≡ Some y → x ≡ y
some_same x y e = cc

-- what a desk tells that told nothing before
all_told : {X : Type 0} (a b deals : List X) → a ≡ [] → Some b ≡ told_and (Some a) deals → b ≡ deals
all_told a b deals nothing e = some_same b (a ++ deals) e ∙ ap (λ xs. xs ++ deals) nothing

module _ {R F : Type 0} where
  -- one that is not done has its pass
  pub going_has : (x : HubAttendant R F) → is_done x ≡ false → is_some x.pass ≡ true
  going_has x h = not_none x.full (is_some x.pass) h

  pub same_has : (x y : HubAttendant R F) → SameAttendant x y → is_done x ≡ false → is_some y.pass ≡ true
  same_has x y same h = some_as number_of x.pass y.pass same.number (going_has x h)

  pub same_self : (x : HubAttendant R F) → SameAttendant x x
  same_self x = record { hub = refl; number = refl; held = λ p so_far. so_far }

  -- only its visits were counted, before
  pub same_counted : (w x y : HubAttendant R F) → x.hub ≡ w.hub → x.pass ≡ w.pass → SameAttendant x y → SameAttendant w y
  same_counted w x y hub pass same = record {
    hub = same.hub ∙ hub;
    number = same.number ∙ ap (option_map number_of) pass;
    held = λ p so_far. same.held p (subst (λ o. HasHeldTo p o) (sym pass) so_far);
  }

  pub only_counted : (x y : HubAttendant R F) → y.hub ≡ x.hub → y.pass ≡ x.pass → SameAttendant x y
  only_counted x y hub pass = same_counted x y y hub pass (same_self y)

  -- a session was held at a desk
  session_over : (a b c : LiveDesk R F) (ended : Ended) (left left' sent sent' : Option (List (List ℕ))) → a.desk.client ≡ 0 → told_by a ≡ [] → GoesOn a b
      → Course 1 left left' sent sent' (Some (told_by a)) (Some (told_by b)) (Err ended) → Left b.desk c.desk → (s : Session) × HasHeld a.desk.pass c.desk.pass (s ∷ [])
  session_over a b c ended left left' sent sent' nobody nothing served course gone =
      let dealt : HasDealt a.desk b.desk [] (told_by b) =
      served.dealt a.desk [] (subst (λ deals. HasDealt a.desk a.desk [] deals) (sym nothing) (dealt_none a.desk [])) in
      let s = session_held a.desk b.desk c.desk (told_by b) nobody dealt gone in
      let is : IsServed s.0 = record {
        session = s.1;
        ended = ended;
        takes = course.takes;
        sends = course.sends;
        left = left';
        comes =
            subst (λ deals. Comes (Err ended) 1 course.takes course.sends deals left')
            (sym (s.2 ∙ all_told (told_by a) (told_by b) course.deals nothing course.told_is)) course.comes;
      } in
      (s.0, held_one a.desk.pass c.desk.pass s.0 is s.3)

  -- a session was held with its pass, which came back
  pub held : (x y : HubAttendant R F) (p : Pass) (a b c : LiveDesk R F) (ended : Ended) (left left' sent sent' : Option (List (List ℕ)))
      → x.pass ≡ Some p → a.desk.pass ≡ p → a.desk.client ≡ 0 → told_by a ≡ [] → GoesOn a b
      → Course 1 left left' sent sent' (Some (told_by a)) (Some (told_by b)) (Err ended)
      → Left b.desk c.desk → SameDesk b.desk c.desk → y.hub ≡ x.hub → y.pass ≡ Some c.desk.pass → SameAttendant x y
  held x y p a b c ended left left' sent sent' has began nobody nothing served course gone same hub back =
      let one : (s : Session) × HasHeld p c.desk.pass (s ∷ []) =
      subst (λ q. (s : Session) × HasHeld q c.desk.pass (s ∷ [])) began (session_over a b c ended left left' sent sent' nobody nothing served course gone) in
      record {
        hub = hub;
        number = ap (option_map number_of) back ∙ (ap Some (same.number ∙ (served.number ∙ ap number_of began)) ∙ sym (ap (option_map number_of) has));
        held = λ q so_far.
            subst (λ o. HasHeldTo q o) (sym back) (held_more q p c.desk.pass (subst (λ o. HasHeldTo q o) has so_far) one);
      }
