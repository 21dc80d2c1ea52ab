-- What one turn does: bytes are taken, an answer is found and written.
use Rattle.std.proofs.Common.{◌≡◌, ℕ, List, [], ◌++◌, length, length-append, take, drop, false, true, Some, None, inl, inr, refl, sym, ap, subst, ◌∙◌, arith, append_assoc}
use Rattle.std.specs.Io.KnownBytes.{Appends, Consumes, IsAtEnd}
use Rattle.std.proofs.KnownBytes.{Appends-nil, Consumes-trans}
use Rattle.std.proofs.lemmas.List.{append-nil, drop-append-le, take-append-le}
use Rattle.hmr_base.specs.Fronts.{WritesFront}
use Rattle.http_heads.specs.Asks.{Ask, Asks}
use Rattle.http_heads.specs.Cutting.{Cuts, NoEndWithin}
use Rattle.http_heads.specs.declared.cutting.Cut.{Cut}
use Rattle.http_heads.specs.declared.cutting.Cut.TheVariants as cut
use Rattle.http_heads.proofs.Ends.{ends_more, ends_within, none_more}
use Rattle.http_exchange.specs.Replies.{answer_of, answer_text, answer_to, refusal}
use Rattle.http_exchange.specs.declared.reply.Reply.{Reply}
use Rattle.http_exchange.specs.declared.reply.Status.TheVariants as status
use Rattle.http_exchange.specs.declared.next.Turn.TheVariants as turns
use Rattle.http_exchange.specs.Serving.{Bodies, Bytes, GaveAt, Moves, NextAnswer, StoppedAt, TurnedAt, to_head, to_long, to_part}

-- more bytes are taken
pub moves_more : (l0 l1 l2 : Bytes) (h0 h1 h2 bs : List ℕ) → Moves l0 l1 h0 h1 → Consumes l1 l2 bs → h2 ≡ h1 ++ bs → Moves l0 l2 h0 h2
moves_more l0 l1 l2 h0 h1 h2 bs m c e = record {
  taken = m.taken ++ bs;
  consumed = Consumes-trans l0 l1 l2 m.taken bs m.consumed c;
  held_is = e ∙ (ap (λ x. x ++ bs) m.held_is ∙ append_assoc h0 m.taken bs);
}

-- no head ends within what was searched, whatever was read behind it
pub none_after : (found : Cut) (now items new bs : List ℕ) (n size : ℕ) → found ≡ cut.Partial → now ≡ items → Cuts now found
    → new ≡ items ++ bs → length now ≡ size → n ≡ size → NoEndWithin new n
none_after found now items new bs n size is value cuts grown len count =
    let told = subst (Cuts now) is cuts in
    let same : n ≡ length items = count ∙ (sym len ∙ ap length value) in
    let none : NoEndWithin items n =
    subst (λ k. NoEndWithin items k) (sym same) (subst (λ x. NoEndWithin x (length items)) value
    (subst (λ k. NoEndWithin now k) (ap length value) told.1)) in
    subst (λ x. NoEndWithin x n) (sym grown) (none_more items bs n (omega (arith, same)) none)

-- the held bytes and those that are left stay the same together
together : (held held1 taken x y : List ℕ) → held1 ≡ held ++ taken → x ≡ taken ++ y → held1 ++ y ≡ held ++ x
together held held1 taken x y e c = ap (λ z. z ++ y) e ∙ (append_assoc held taken y ∙ ap (λ z. held ++ z) (sym c))

-- an answer to a head
pub gave_head : (bodies : Bodies) (l l' : Bytes) (held held1 held2 now : List ℕ) (found : Cut) (end : ℕ) (reply : Reply)
    → Moves l l' held held1 → found ≡ cut.Head end → Cuts held1 found → now ≡ held1
    → ((ask : Ask) × Asks (take end now) ask × (answer_of reply ≡ answer_to bodies ask)) → held2 ≡ drop end held1
    → GaveAt bodies l l' held held2 (Some reply)
gave_head bodies None l' held held1 held2 now found end reply m is cuts value asks rest = tt
gave_head bodies (Some x) None held held1 held2 now found end reply m is cuts value asks rest = absurd m.consumed
gave_head bodies (Some x) (Some y) held held1 held2 now found end reply m is cuts value asks rest =
    let told = subst (Cuts held1) is cuts in
    let within = ends_within held1 end told.1 in
    let asked : Asks (take end (held1 ++ y)) asks.0 =
    subst (λ z. Asks z asks.0) (ap (take end) value ∙ sym (take-append-le end held1 y within)) asks.1 in
    let next : NextAnswer bodies (held1 ++ y) (answer_to bodies asks.0) (drop end (held1 ++ y)) =
    to_head end asks.0 (told.0, ends_more held1 y end told.1) asked in
    let left : drop end (held1 ++ y) ≡ held2 ++ y = drop-append-le end held1 y within ∙ ap (λ z. z ++ y) (sym rest) in
    subst (λ b. NextAnswer bodies b (answer_of reply) (held2 ++ y)) (together held held1 m.taken x y m.held_is m.consumed)
    (subst (λ a. NextAnswer bodies (held1 ++ y) a (held2 ++ y)) (sym asks.2)
    (subst (λ r. NextAnswer bodies (held1 ++ y) (answer_to bodies asks.0) r) left next))

-- the answer to bytes that are too many for a head
pub gave_long : (bodies : Bodies) (l l' : Bytes) (held held1 : List ℕ) (found : Cut) (reply : Reply)
    → Moves l l' held held1 → found ≡ cut.TooLong → Cuts held1 found
    → answer_of reply ≡ refusal status.FieldsTooLarge false true → GaveAt bodies l l' held held1 (Some reply)
gave_long bodies None l' held held1 found reply m is cuts a = tt
gave_long bodies (Some x) None held held1 found reply m is cuts a = absurd m.consumed
gave_long bodies (Some x) (Some y) held held1 found reply m is cuts a =
    let told = subst (Cuts held1) is cuts in
    let many = told.0 in
    let next : NextAnswer bodies (held1 ++ y) (refusal status.FieldsTooLarge false true) (held1 ++ y) =
    to_long (held1 ++ y) (rw (length-append held1 y) (omega (arith, many)), none_more held1 y _ many told.1) in
    subst (λ b. NextAnswer bodies b (answer_of reply) (held1 ++ y)) (together held held1 m.taken x y m.held_is m.consumed)
    (subst (λ z. NextAnswer bodies (held1 ++ y) z (held1 ++ y)) (sym a) next)

-- the answer to the input's end within a head
pub gave_part : (bodies : Bodies) (l l' : Bytes) (held held1 : List ℕ) (found : Cut) (reply : Reply)
    → Moves l l' held held1 → found ≡ cut.Partial → Cuts held1 found → (found ≡ cut.Partial → IsAtEnd l')
    → ¬ (held1 ≡ []) → answer_of reply ≡ refusal status.BadRequest false true → GaveAt bodies l l' held held1 (Some reply)
gave_part bodies None l' held held1 found reply m is cuts end some a = tt
gave_part bodies (Some x) None held held1 found reply m is cuts end some a = absurd m.consumed
gave_part bodies (Some x) (Some y) held held1 found reply m is cuts end some a =
    let told = subst (Cuts held1) is cuts in
    let all : held1 ≡ held ++ x =
    sym (append-nil held1) ∙ (ap (λ z. held1 ++ z) (sym (end is)) ∙ together held held1 m.taken x y m.held_is m.consumed) in
    let next : NextAnswer bodies held1 (refusal status.BadRequest false true) (held1 ++ y) =
    to_part (held1 ++ y) some told in
    subst (λ b. NextAnswer bodies b (answer_of reply) (held1 ++ y)) all
    (subst (λ z. NextAnswer bodies held1 z (held1 ++ y)) (sym a) next)

-- nothing is left to answer, and nothing was written
pub turned_ended : (bodies : Bodies) (l l' : Bytes) (held held1 : List ℕ) (w : Bytes) → GaveAt bodies l l' held held1 None
    → TurnedAt bodies l l' held held1 w w turns.Ended
turned_ended bodies None l' held held1 w g = tt
turned_ended bodies (Some x) None held held1 w g = g
turned_ended bodies (Some x) (Some y) held held1 w g = (g, Appends-nil w)

-- the answer was written
pub turned_on : (bodies : Bodies) (l l' : Bytes) (held held1 text : List ℕ) (reply : Reply) (w w' : Bytes)
    → GaveAt bodies l l' held held1 (Some reply) → text ≡ answer_text (answer_of reply) → Appends w w' text
    → TurnedAt bodies l l' held held1 w w' (turns.Answered reply.closes)
turned_on bodies None l' held held1 text reply w w' g e a = tt
turned_on bodies (Some x) None held held1 text reply w w' g e a = g
turned_on bodies (Some x) (Some y) held held1 text reply w w' g e a =
    record { answer = answer_of reply; is_next = g; closes_is = refl; written = subst (Appends w w') e a }

-- nothing was written
pub stopped_silent : (bodies : Bodies) (l : Bytes) (held : List ℕ) (w : Bytes) → StoppedAt bodies l held w w
stopped_silent bodies None held w = tt
stopped_silent bodies (Some x) held w = inl (Appends-nil w)

-- a front of the answer was written
pub stopped_front : (bodies : Bodies) (l l' : Bytes) (held held1 text : List ℕ) (reply : Reply) (w w' : Bytes)
    → GaveAt bodies l l' held held1 (Some reply) → text ≡ answer_text (answer_of reply) → WritesFront w w' text
    → StoppedAt bodies l held w w'
stopped_front bodies None l' held held1 text reply w w' g e f = tt
stopped_front bodies (Some x) None held held1 text reply w w' g e f = absurd g
stopped_front bodies (Some x) (Some y) held held1 text reply w w' g e f =
    inr (record { answer = answer_of reply; rest = held1 ++ y; is_next = g; front = subst (WritesFront w w') e f })
