-- Told lists: with nothing before or behind, and with one part after another.
use Rattle.std.proofs.Common.{◌≡◌, ℕ, List, [], ◌∷◌, ◌++◌, Option, Some, None, refl, sym, ap, append_assoc}
use Rattle.std.specs.Prelude.{Result, Ok, Err}
use Rattle.std.proofs.lemmas.List.{append-nil}
use Rattle.transport.specs.Told.{told_and, told_front}
use Rattle.update_msgs.specs.Desk.{told_after}
use Rattle.update_msgs.specs.declared.desk.HubStop.{HubStop}
use Rattle.update_msgs.specs.declared.message.ClientMsg.{ClientMsg}
use Rattle.update_msgs.specs.declared.message.ServerMsg.{ServerMsg}

pub front_none : {X : Type 0} (l : Option (List X)) → l ≡ told_front [] l
front_none None = refl
front_none (Some xs) = refl

pub and_none : {X : Type 0} (l : Option (List X)) → l ≡ told_and l []
and_none None = refl
and_none (Some xs) = ap Some (sym (append-nil xs))

pub front_more : {X : Type 0} (xs ys : List X) (l : Option (List X)) → told_front xs (told_front ys l) ≡ told_front (xs ++ ys) l
front_more xs ys None = refl
front_more xs ys (Some l) = ap Some (sym (append_assoc xs ys l))

pub and_more : {X : Type 0} (l : Option (List X)) (xs ys : List X) → told_and (told_and l xs) ys ≡ told_and l (xs ++ ys)
and_more None xs ys = refl
and_more (Some l) xs ys = ap Some (append_assoc l xs ys)

-- an answer of a desk is told behind those before
pub after_answer : (told : Option (List (ClientMsg × ServerMsg))) (m : ClientMsg) (answer : ServerMsg) → told_after told m (Ok answer) ≡ told_and told ((m, answer) ∷ [])
after_answer None m answer = refl
after_answer (Some told) m answer = refl

-- without an answer nothing is told
pub after_stop : (told : Option (List (ClientMsg × ServerMsg))) (m : ClientMsg) (stop : HubStop) → told_after told m (Err stop) ≡ told
after_stop None m stop = refl
after_stop (Some told) m stop = refl
