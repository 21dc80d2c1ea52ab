-- Answers, turn by turn.
use Rattle.std.proofs.Common.{◌≡◌, ◌≤◌, ◌+◌, ℕ, suc, List, [], ◌++◌, length, take, drop, Bool, true, false, Some, None, inl, inr, refl, sym, ap, subst, ◌∙◌, arith, append_assoc}
use Rattle.std.proofs.lemmas.List.{append-nil}
use Rattle.http_heads.specs.Asks.{Ask, Asks}
use Rattle.http_heads.specs.declared.cutting.Cut.TheVariants as cut
use Rattle.http_heads.proofs.Ends.{ends_within, one_cut}
use Rattle.http_heads.specs.declared.cutting.Cut.{Cut}
use Rattle.http_heads.specs.declared.cutting.TheConstants.{HEAD_BYTES}
use Rattle.http_heads.proofs.OneAsk.{one_ask}
use Rattle.http_exchange.specs.Replies.{Answer, answer_text, answer_to}
use Rattle.std.proofs.Common.{◌<◌, ◌⊎◌, IfSome}
use Rattle.std.specs.Prelude.{⊤}
use Rattle.std.specs.Io.KnownBytes.{Appends}
use Rattle.std.proofs.KnownBytes.{Appends-nil, Appends-trans}
use Rattle.hmr_base.specs.Fronts.{WritesFront}
use Rattle.hmr_base.proofs.Fronts.{front_all, front_more}
use Rattle.http_exchange.specs.Ends.{end_at}
use Rattle.http_exchange.specs.declared.stop.Stop.{Stop}
use Rattle.http_exchange.specs.declared.stop.Stop.TheVariants as stops
use Rattle.http_exchange.specs.declared.next.Turn.{Turn}
use Rattle.http_exchange.specs.declared.next.Turn.TheVariants as turns
use Rattle.http_exchange.specs.declared.exchange.HttpEnd.{HttpEnd}
use Rattle.http_exchange.specs.declared.exchange.HttpEnd.TheVariants as ends
use Rattle.http_exchange.specs.declared.exchange.TheConstants.{TURNS}
use Rattle.http_exchange.specs.Serving.{Answered, CutShort, Serves, StoppedAt, TurnedAt}
use Rattle.http_exchange.specs.Serving.{Answers, Bodies, Bytes, NextAnswer, to_head, to_long, to_part, at_end, closing, going_on}

-- the ways in which bytes are cut differ
head_is_not_long : (end : ℕ) → ¬ (cut.Head end ≡ cut.TooLong)
head_is_not_long end e = absurd (cc)

head_is_not_part : (end : ℕ) → ¬ (cut.Head end ≡ cut.Partial)
head_is_not_part end e = absurd (cc)

long_is_not_part : ¬ (cut.TooLong ≡ cut.Partial)
long_is_not_part e = absurd (cc)

abbrev end_of_cut : Cut → ℕ
end_of_cut (cut.Head end) = end
end_of_cut cut.TooLong = 0
end_of_cut cut.Partial = 0

both_flags : (b : Bool) → b ≡ false → ¬ (b ≡ true)
both_flags b low high = absurd (cc)

none_so_long : (bytes : List ℕ) (end : ℕ) → bytes ≡ [] → 4 ≤ end → ¬ (end ≤ length bytes)
none_so_long bytes end none long within =
    let nothing : length bytes ≡ 0 = ap length none in
    absurd (omega (arith, nothing, long, within))

none_so_many : (bytes : List ℕ) → bytes ≡ [] → ¬ (HEAD_BYTES ≤ length bytes)
none_so_many bytes none many =
    let nothing : length bytes ≡ 0 = ap length none in
    absurd (omega (arith, nothing, many))

heads_agree : (bodies : Bodies) (bytes : List ℕ) (end end' : ℕ) (ask ask' : Ask) → cut.Head end ≡ cut.Head end'
    → Asks (take end bytes) ask → Asks (take end' bytes) ask'
    → (answer_to bodies ask ≡ answer_to bodies ask')
    × ((answer_to bodies ask).closes ≡ false → drop end bytes ≡ drop end' bytes)
heads_agree bodies bytes end end' ask ask' same asks asks' =
    let e : end ≡ end' = ap end_of_cut same in
    let one : ask ≡ ask' = one_ask (take end bytes) ask ask' asks
    (subst (λ n. Asks (take n bytes) ask') (sym e) asks') in
    (ap (answer_to bodies) one, λ _. ap (λ n. drop n bytes) e)

-- what comes behind so many answers
pub record Followed (bodies : Bodies) (count n : ℕ) (rest text all : List ℕ) : Type 0 where
  pub number : ℕ
  pub more : List ℕ
  pub answers : Answers bodies rest number more
  pub count_is : n ≡ count + number
  pub all_is : all ≡ text ++ more

-- the first head of bytes has one answer; what is left behind it counts where the answer doesn't close
pub one_next : (bodies : Bodies) (bytes rest rest' : List ℕ) (a b : Answer) → NextAnswer bodies bytes a rest
    → NextAnswer bodies bytes b rest' → (a ≡ b) × (a.closes ≡ false → rest ≡ rest')
one_next bodies bytes _ _ _ _ (to_head end ask cuts asks) (to_head end' ask' cuts' asks') =
    heads_agree bodies bytes end end' ask ask' (one_cut bytes (cut.Head end) (cut.Head end') cuts cuts') asks asks'
one_next bodies bytes _ _ _ _ (to_head end ask cuts asks) (to_long rest cuts') =
    absurd (head_is_not_long end (one_cut bytes (cut.Head end) cut.TooLong cuts cuts'))
one_next bodies bytes _ _ _ _ (to_head end ask cuts asks) (to_part rest some cuts') =
    absurd (head_is_not_part end (one_cut bytes (cut.Head end) cut.Partial cuts cuts'))
one_next bodies bytes _ _ _ _ (to_long rest cuts) (to_head end ask cuts' asks) =
    absurd (head_is_not_long end (one_cut bytes (cut.Head end) cut.TooLong cuts' cuts))
one_next bodies bytes _ _ _ _ (to_long rest cuts) (to_long rest' cuts') = (refl, λ stays. absurd (cc))
one_next bodies bytes _ _ _ _ (to_long rest cuts) (to_part rest' some cuts') =
    absurd (long_is_not_part (one_cut bytes cut.TooLong cut.Partial cuts cuts'))
one_next bodies bytes _ _ _ _ (to_part rest some cuts) (to_head end ask cuts' asks) =
    absurd (head_is_not_part end (one_cut bytes (cut.Head end) cut.Partial cuts' cuts))
one_next bodies bytes _ _ _ _ (to_part rest some cuts) (to_long rest' cuts') =
    absurd (long_is_not_part (one_cut bytes cut.TooLong cut.Partial cuts' cuts))
one_next bodies bytes _ _ _ _ (to_part rest some cuts) (to_part rest' some' cuts') = (refl, λ stays. absurd (cc))

-- nothing comes next of no bytes
pub no_next : {P : Type 0} (bodies : Bodies) (bytes rest : List ℕ) (a : Answer) → bytes ≡ []
    → NextAnswer bodies bytes a rest → P
no_next bodies bytes _ _ none (to_head end ask cuts asks) =
    let long = cuts.1.long in
    let within = ends_within bytes end cuts.1 in
    absurd (none_so_long bytes end none long within)
no_next bodies bytes rest _ none (to_long _ cuts) =
    let many = cuts.0 in
    absurd (none_so_many bytes none many)
no_next bodies bytes rest _ none (to_part _ some cuts) = absurd (some none)

-- so many answers lead from bytes to the rest: what answers the rest, behind the text so far, answers the
-- bytes, and nothing else does
pub record Goes (bodies : Bodies) (count : ℕ) (bytes rest text : List ℕ) : Type 0 where
  pub forth : (n : ℕ) (more : List ℕ) → Answers bodies rest n more → Answers bodies bytes (count + n) (text ++ more)
  pub back : (n : ℕ) (all : List ℕ) → Answers bodies bytes n all → Followed bodies count n rest text all

zero_more : (n : ℕ) → n ≡ 0 + n
zero_more n = omega arith

pub goes_none : (bodies : Bodies) (bytes : List ℕ) → Goes bodies 0 bytes bytes []
goes_none bodies bytes = record {
  forth = λ n more h. subst (λ k. Answers bodies bytes k more) (zero_more n) h;
  back = λ n all h. record { number = n; more = all; answers = h; count_is = zero_more n; all_is = refl };
}

-- what an answer that doesn't close leads to
after_open : (bodies : Bodies) (bytes rest : List ℕ) (a : Answer) (n : ℕ) (all : List ℕ) → NextAnswer bodies bytes a rest
    → a.closes ≡ false → Answers bodies bytes n all → Followed bodies 1 n rest (answer_text a) all
after_open bodies _ rest a _ _ next stays at_end = no_next bodies [] rest a refl next
after_open bodies bytes rest a _ _ next stays (closing _ rest' b next' closed) =
    let same = one_next bodies bytes rest rest' a b next next' in
    absurd (both_flags _ stays (ap (λ x. x.closes) same.0 ∙ closed))
after_open bodies bytes rest a _ _ next stays (going_on _ rest' text count b next' stays' more) =
    let same = one_next bodies bytes rest rest' a b next next' in
    record {
      number = count;
      more = text;
      answers = subst (λ l. Answers bodies l count text) (sym (same.1 stays)) more;
      count_is = omega arith;
      all_is = ap (λ x. answer_text x ++ text) (sym same.0);
    }

-- one answer more
pub goes_on : (bodies : Bodies) (count : ℕ) (bytes rest rest' text : List ℕ) (a : Answer) → Goes bodies count bytes rest text
    → NextAnswer bodies rest a rest' → a.closes ≡ false
    → Goes bodies (count + 1) bytes rest' (text ++ answer_text a)
goes_on bodies count bytes rest rest' text a goes next stays = record {
  forth = λ n more h.
      subst (λ k. Answers bodies bytes k ((text ++ answer_text a) ++ more)) (omega arith)
      (subst (Answers bodies bytes (count + suc n)) (sym (append_assoc text (answer_text a) more))
      (goes.forth (suc n) (answer_text a ++ more) (going_on rest rest' more n a next stays h)));
  back = λ n all h.
      let first = goes.back n all h in
      let second = after_open bodies rest rest' a first.number first.more next stays first.answers in
      let k = first.count_is in
      let l = second.count_is in
      record {
        number = second.number;
        more = second.more;
        answers = second.answers;
        count_is = omega (arith, k, l);
        all_is = first.all_is ∙ (ap (λ x. text ++ x) second.all_is ∙ sym (append_assoc text (answer_text a) second.more));
      };
}

-- the answers to bytes are one list
pub one_list : (bodies : Bodies) (bytes a b : List ℕ) (n m : ℕ) → Answers bodies bytes n a → Answers bodies bytes m b
    → (n ≡ m) × (a ≡ b)
one_list bodies _ _ _ _ _ at_end at_end = (refl, refl)
one_list bodies _ _ _ _ _ at_end (closing _ rest b next closed) = no_next bodies [] rest b refl next
one_list bodies _ _ _ _ _ at_end (going_on _ rest text count b next stays more) = no_next bodies [] rest b refl next
one_list bodies _ _ _ _ _ (closing _ rest a next closed) at_end = no_next bodies [] rest a refl next
one_list bodies bytes _ _ _ _ (closing _ rest a next closed) (closing _ rest' b next' closed') =
    (refl, ap answer_text (one_next bodies bytes rest rest' a b next next').0)
one_list bodies bytes _ _ _ _ (closing _ rest a next closed) (going_on _ rest' text count b next' stays more) =
    let same = one_next bodies bytes rest rest' a b next next' in
    absurd (both_flags _ stays (ap (λ x. x.closes) (sym same.0) ∙ closed))
one_list bodies bytes _ b _ m (going_on _ rest text count a next stays more) other =
    let behind = after_open bodies bytes rest a m b next stays other in
    let later = one_list bodies rest text behind.more count behind.number more behind.answers in
    let same = later.0 in
    let counted = behind.count_is in
    (omega (arith, same, counted), ap (λ x. answer_text a ++ x) later.1 ∙ sym behind.all_is)

-- the answers to bytes begin with the next one
next_front : (bodies : Bodies) (bytes rest : List ℕ) (a : Answer) (n : ℕ) (all : List ℕ) → NextAnswer bodies bytes a rest
    → Answers bodies bytes n all → (tail : List ℕ) × (answer_text a ++ tail ≡ all)
next_front bodies _ rest a _ _ next at_end = no_next bodies [] rest a refl next
next_front bodies bytes rest a _ _ next (closing _ rest' b next' closed) =
    ([], append-nil (answer_text a) ∙ ap answer_text (one_next bodies bytes rest rest' a b next next').0)
next_front bodies bytes rest a _ _ next (going_on _ rest' text count b next' stays more) =
    (text, ap (λ x. answer_text x ++ text) (one_next bodies bytes rest rest' a b next next').0)

-- so many answers were written, and these bytes are left
pub record StandsSo (bodies : Bodies) (count : ℕ) (bytes rest : List ℕ) (old new : Bytes) : Type 0 where
  pub text : List ℕ
  pub goes : Goes bodies count bytes rest text
  pub written : Appends old new text

-- the same where the source tells its bytes
abbrev pub Stands : Bodies → ℕ → Bytes → Bytes → List ℕ → Bytes → Bytes → Type 0
Stands bodies count None left held old new = ⊤
Stands bodies count (Some bytes) None held old new = ⊥
Stands bodies count (Some bytes) (Some left) held old new = StandsSo bodies count bytes (held ++ left) old new

pub stands_none : (bodies : Bodies) (left old : Bytes) → Stands bodies 0 left left [] old old
stands_none bodies None old = tt
stands_none bodies (Some bytes) old =
    record { text = []; goes = goes_none bodies bytes; written = Appends-nil old }

stands_more : (bodies : Bodies) (count : ℕ) (bytes rest rest' : List ℕ) (a b c : Bytes) → StandsSo bodies count bytes rest a b
    → Answered bodies rest rest' b c false → StandsSo bodies (count + 1) bytes rest' a c
stands_more bodies count bytes rest rest' a b c s t = record {
  text = s.text ++ answer_text t.answer;
  goes = goes_on bodies count bytes rest rest' s.text t.answer s.goes t.is_next t.closes_is;
  written = Appends-trans a b c s.text (answer_text t.answer) s.written t.written;
}

-- one turn more
pub stands_on : (bodies : Bodies) (count : ℕ) (first left left' : Bytes) (held held' : List ℕ) (a b c : Bytes)
    → Stands bodies count first left held a b → TurnedAt bodies left left' held held' b c (turns.Answered false)
    → Stands bodies (count + 1) first left' held' a c
stands_on bodies count None left left' held held' a b c s t = tt
stands_on bodies count (Some bytes) None left' held held' a b c s t = absurd s
stands_on bodies count (Some bytes) (Some l) None held held' a b c s t = absurd t
stands_on bodies count (Some bytes) (Some l) (Some l') held held' a b c s t =
    stands_more bodies count bytes (held ++ l) (held' ++ l') a b c s t

-- all answers were written
served_all : (bodies : Bodies) (bytes : List ℕ) (n : ℕ) (all : List ℕ) (a b : Bytes) → Answers bodies bytes n all
    → n ≤ TURNS → Appends a b all → Serves bodies bytes a b ends.Closed
served_all bodies bytes n all a b answers few written = record {
  whole = λ _. (n, all, answers, few, written);
  front = λ m text other.
      front_all a b text (subst (Appends a b) (one_list bodies bytes all text n m answers other).1 written);
  turns = λ e. absurd (cc);
}

-- the last answer closes
pub serves_closed : (bodies : Bodies) (count : ℕ) (first left left' : Bytes) (held held' : List ℕ) (a b c : Bytes)
    → count < TURNS → Stands bodies count first left held a b
    → TurnedAt bodies left left' held held' b c (turns.Answered true)
    → IfSome first (λ bytes. Serves bodies bytes a c ends.Closed)
serves_closed bodies count None left left' held held' a b c few s t = tt
serves_closed bodies count (Some bytes) None left' held held' a b c few s t = absurd s
serves_closed bodies count (Some bytes) (Some l) None held held' a b c few s t = absurd t
serves_closed bodies count (Some bytes) (Some l) (Some l') held held' a b c few s t =
    served_all bodies bytes (count + 1) (s.text ++ answer_text t.answer) a c
    (s.goes.forth 1 (answer_text t.answer) (closing (held ++ l) (held' ++ l') t.answer t.is_next t.closes_is))
    (omega (arith, few))
    (Appends-trans a b c s.text (answer_text t.answer) s.written t.written)

-- the input ended
pub serves_ended : (bodies : Bodies) (count : ℕ) (first left left' : Bytes) (held held' : List ℕ) (a b c : Bytes)
    → count < TURNS → Stands bodies count first left held a b → TurnedAt bodies left left' held held' b c turns.Ended
    → IfSome first (λ bytes. Serves bodies bytes a c ends.Closed)
serves_ended bodies count None left left' held held' a b c few s t = tt
serves_ended bodies count (Some bytes) None left' held held' a b c few s t = absurd s
serves_ended bodies count (Some bytes) (Some l) None held held' a b c few s t = absurd t
serves_ended bodies count (Some bytes) (Some l) (Some l') held held' a b c few s t =
    served_all bodies bytes (count + 0) (s.text ++ []) a c
    (s.goes.forth 0 [] (subst (λ x. Answers bodies x 0 []) (sym t.0) at_end))
    (omega (arith, few))
    (Appends-trans a b c s.text [] s.written t.1)

-- a front of the answers was written
cut_front : (bodies : Bodies) (count : ℕ) (bytes rest : List ℕ) (a b c : Bytes) → StandsSo bodies count bytes rest a b
    → Appends b c [] ⊎ CutShort bodies rest b c → (n : ℕ) (all : List ℕ) → Answers bodies bytes n all
    → WritesFront a c all
cut_front bodies count bytes rest a b c s (inl nothing) = λ n all answers.
    let behind = s.goes.back n all answers in
    record {
      front = s.text ++ [];
      rest = behind.more;
      whole = ap (λ x. x ++ behind.more) (append-nil s.text) ∙ sym behind.all_is;
      out = Appends-trans a b c s.text [] s.written nothing;
    }
cut_front bodies count bytes rest a b c s (inr cut_short) = λ n all answers.
    let behind = s.goes.back n all answers in
    let tail = next_front bodies rest cut_short.rest cut_short.answer behind.number behind.more cut_short.is_next behind.answers in
    front_more a b c s.text (answer_text cut_short.answer) tail.0 all s.written cut_short.front
    (ap (λ x. s.text ++ x) tail.1 ∙ sym behind.all_is)

not_closed : (stop : Stop) → ¬ (end_at stop ≡ ends.Closed)
not_closed stops.ReadFault e = absurd (cc)
not_closed stops.WriteFault e = absurd (cc)
not_closed stops.NoMemory e = absurd (cc)

not_full : (stop : Stop) → ¬ (end_at stop ≡ ends.Turns)
not_full stops.ReadFault e = absurd (cc)
not_full stops.WriteFault e = absurd (cc)
not_full stops.NoMemory e = absurd (cc)

-- it stopped
pub serves_stopped : (bodies : Bodies) (count : ℕ) (first left : Bytes) (held : List ℕ) (a b c : Bytes) (stop : Stop)
    → Stands bodies count first left held a b → StoppedAt bodies left held b c
    → IfSome first (λ bytes. Serves bodies bytes a c (end_at stop))
serves_stopped bodies count None left held a b c stop s t = tt
serves_stopped bodies count (Some bytes) None held a b c stop s t = absurd s
serves_stopped bodies count (Some bytes) (Some l) held a b c stop s t = record {
  whole = λ e. absurd (not_closed stop e);
  front = cut_front bodies count bytes (held ++ l) a b c s t;
  turns = λ e. absurd (not_full stop e);
}

-- the limit was met
pub serves_full : (bodies : Bodies) (count : ℕ) (first left : Bytes) (held : List ℕ) (a b : Bytes)
    → count ≡ TURNS → Stands bodies count first left held a b
    → IfSome first (λ bytes. Serves bodies bytes a b ends.Turns)
serves_full bodies count None left held a b full s = tt
serves_full bodies count (Some bytes) None held a b full s = absurd s
serves_full bodies count (Some bytes) (Some l) held a b full s = record {
  whole = λ e. absurd (cc);
  front = cut_front bodies count bytes (held ++ l) a b b s (inl (Appends-nil b));
  turns = λ _ n all answers.
      let behind = s.goes.back n all answers in
      let counted = behind.count_is in
      omega (arith, counted, full);
}

-- the same by what a turn came to
pub on_open : (bodies : Bodies) (count : ℕ) (first left left' : Bytes) (held held' : List ℕ) (a b c : Bytes) (t : Turn) (flag : Bool)
    → t ≡ turns.Answered flag → flag ≡ false → Stands bodies count first left held a b
    → TurnedAt bodies left left' held held' b c t → Stands bodies (count + 1) first left' held' a c
on_open bodies count first left left' held held' a b c t flag is low s turned =
    stands_on bodies count first left left' held held' a b c s
    (subst (λ x. TurnedAt bodies left left' held held' b c x) (is ∙ ap turns.Answered low) turned)

pub on_closing : (bodies : Bodies) (count : ℕ) (first left left' : Bytes) (held held' : List ℕ) (a b c : Bytes) (t : Turn) (flag : Bool)
    → t ≡ turns.Answered flag → flag ≡ true → count < TURNS → Stands bodies count first left held a b
    → TurnedAt bodies left left' held held' b c t → IfSome first (λ bytes. Serves bodies bytes a c ends.Closed)
on_closing bodies count first left left' held held' a b c t flag is high few s turned =
    serves_closed bodies count first left left' held held' a b c few s
    (subst (λ x. TurnedAt bodies left left' held held' b c x) (is ∙ ap turns.Answered high) turned)

pub on_end : (bodies : Bodies) (count : ℕ) (first left left' : Bytes) (held held' : List ℕ) (a b c : Bytes) (t : Turn)
    → t ≡ turns.Ended → count < TURNS → Stands bodies count first left held a b
    → TurnedAt bodies left left' held held' b c t → IfSome first (λ bytes. Serves bodies bytes a c ends.Closed)
on_end bodies count first left left' held held' a b c t is few s turned =
    serves_ended bodies count first left left' held held' a b c few s
    (subst (λ x. TurnedAt bodies left left' held held' b c x) is turned)

pub on_stop : (bodies : Bodies) (count : ℕ) (first left : Bytes) (held : List ℕ) (a b c : Bytes) (stop : Stop) (end : HttpEnd)
    → end ≡ end_at stop → Stands bodies count first left held a b → StoppedAt bodies left held b c
    → IfSome first (λ bytes. Serves bodies bytes a c end)
on_stop bodies count first left held a b c stop end is s t =
    subst (λ e. IfSome first (λ bytes. Serves bodies bytes a c e)) (sym is)
    (serves_stopped bodies count first left held a b c stop s t)
