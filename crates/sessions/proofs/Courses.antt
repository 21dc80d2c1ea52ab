-- Courses of a session: of one message, and of one after another.
use Rattle.std.proofs.Common.{◌≡◌, ◌≢◌, ◌⊎◌, ◌↔◌, Bool, true, false, inl, inr, ℕ, List, [], ◌∷◌, ◌++◌, Option, Some, None, refl, sym, ap, ◌∙◌, append_assoc, subst, rules}
use Rattle.std.specs.Prelude.{Result, Ok, Err, IsErrAnd}
use Rattle.serde_json.specs.Data.{Data}
use Rattle.std.specs.List.{AllZip}
use Rattle.std.proofs.lemmas.List.Elements.{All-append, All-cons, All-nil}
use Rattle.transport.specs.Told.{told_and, told_front, IsNoneLeft}
use Rattle.hmr_base.specs.declared.out_fault.OutFault.{OutFault}
use Rattle.hmr_base.specs.declared.out_fault.OutFault.TheVariants.{Failed, NoMemory as OutOfMemory}
use Rattle.update_msgs.specs.declared.message.ClientMsg.{ClientMsg}
use Rattle.update_msgs.specs.declared.message.ClientMsg.TheVariants.{Bye}
use Rattle.update_msgs.specs.declared.message.ServerMsg.{ServerMsg}
use Rattle.update_msgs.specs.Desk.{told_after}
use Rattle.update_msgs.specs.declared.desk.HubStop.{HubStop}
use Rattle.update_msgs.specs.declared.desk.HubStop.TheVariants.{TranscriptFull, NoMemory as NoRoom}
use Rattle.message_text.specs.Values.{HasReading}
use Rattle.message_text.specs.ClientText.{say}
use Rattle.message_text.specs.ServerText.{server_text}
use Rattle.message_json.specs.declared.fault.MsgFault.{MsgFault}
use Rattle.message_json.specs.declared.fault.MsgFault.TheVariants as faults
use Rattle.message_json.specs.Reading.{Gives, Fails}
use Rattle.message_json.specs.ClientReading.{client_of}
use Rattle.sessions.specs.declared.ended.Ended.{Ended}
use Rattle.sessions.specs.declared.ended.Ended.TheVariants.{Closed, LinkFault, BadMessage, Stopped, NoMemory, Unexpected, InstancesFull}
use Rattle.sessions.specs.Course.{Course, Comes, Deals, AllSent, AllButLastSent, HasNoBye, LastUnsent, OneMore, EndsInBye, IsMessage, IsRefused, ReadAs, Reads, format_after, last_format, texts}
use Rattle.sessions.specs.Endings.{ended_at, ended_by, ended_for}
use Rattle.sessions.proofs.Told.{front_none, and_none, front_more, and_more, after_answer, after_stop}

abbrev Words : Type 0
Words = Option (List (List ℕ))

-- Byes.

abbrev IsNoBye : ClientMsg × ServerMsg → Type 0
IsNoBye deal = deal.0 ≢ Bye

none_bye : HasNoBye []
none_bye = All-nil IsNoBye

one_no_bye : (msg : ClientMsg) (answer : ServerMsg) → msg ≢ Bye → HasNoBye ((msg, answer) ∷ [])
one_no_bye msg answer h = All-cons IsNoBye (msg, answer) [] h (All-nil IsNoBye)

no_bye_both : (ds es : Deals) → HasNoBye ds → HasNoBye es → HasNoBye (ds ++ es)
no_bye_both ds es h k = All-append IsNoBye ds es h k

-- Nothing was taken.

none_sent : (format : ℕ) → AllSent format [] [] []
none_sent format = record { reads = tt; sent_is = refl }

nothing : (format : ℕ) (l l' s s' : Words) (t : Option Deals) (r : Result ℕ Ended) → l' ≡ l → s' ≡ s → Comes r format [] [] [] l' → Course format l l' s s' t t r
nothing format l l' s s' t r hl hs comes = record {
  takes = [];
  sends = [];
  deals = [];
  left_is = sym hl ∙ front_none l';
  sent_is = hs ∙ and_none s;
  told_is = and_none t;
  comes = comes;
}

-- a session that has done nothing yet
pub begins : (format : ℕ) (l s : Words) (t : Option Deals) → Course format l l s s t t (Ok format)
begins format l s t = nothing format l l s s t (Ok format) refl refl (none_sent format, refl, none_bye)

-- the peer closed
pub closed : (format : ℕ) (l l' s s' : Words) (t : Option Deals) → IsNoneLeft l × (l' ≡ l) → s' ≡ s → Course format l l' s s' t t (Err Closed)
closed format l l' s s' t (none, hl) hs = nothing format l l' s s' t (Err Closed) hl hs (none_sent format, inr (none_bye, subst IsNoneLeft (sym hl) none))

comes_to_fault : (fault : OutFault) (e : Ended) (format : ℕ) (takes sends : List (List ℕ)) (deals : Deals) (left : Words) → e ≡ ended_at fault → AllButLastSent format takes sends deals → Comes (Err e) format takes sends deals left
comes_to_fault Failed e format takes sends deals left he h = subst (λ x. Comes (Err x) format takes sends deals left) (sym he) h
comes_to_fault OutOfMemory e format takes sends deals left he h = subst (λ x. Comes (Err x) format takes sends deals left) (sym he) (inl h)

-- the link failed before a message came
pub unopened : (fault : OutFault) (e : Ended) (format : ℕ) (l l' s s' : Words) (t : Option Deals) → e ≡ ended_at fault → l' ≡ l → s' ≡ s → Course format l l' s s' t t (Err e)
unopened fault e format l l' s s' t he hl hs = nothing format l l' s s' t (Err e) hl hs (comes_to_fault fault e format [] [] [] l' he (record { reads = tt; sent_are = inl (refl, none_bye) }))

pub unreceived : (fault : OutFault) (r : Result ℕ Ended) (format : ℕ) (l l' s s' : Words) (t : Option Deals) → IsErrAnd r (λ e. e ≡ ended_at fault) → l' ≡ l → s' ≡ s → Course format l l' s s' t t r
unreceived fault (Ok now) format l l' s s' t he hl hs = absurd he
unreceived fault (Err e) format l l' s s' t he hl hs = unopened fault e format l l' s s' t he hl hs

-- the bytes that were decoded are those that were taken
pub reads_of : (b m : List ℕ) (msg : ClientMsg) → b ≡ m → HasReading b (say msg) → ((d : Data) → HasReading b d → Gives (Ok msg) (client_of d)) → Reads m msg
reads_of b m msg e h k = subst (λ x. Reads x msg) e (record { reading = h; message = k (say msg) h })

-- One message was taken, and not answered.

first_more : (Last : List ℕ → Type 0) (format : ℕ) (m : List ℕ) → Last m → OneMore Last format (m ∷ []) [] []
first_more Last format m h = record { front = []; last = m; taken_are = refl; last_is = h; before = none_sent format; no_bye = none_bye }

taken : (format : ℕ) (l l' s s' : Words) (t t' : Option Deals) (e : Ended) (m : List ℕ) → l ≡ told_front (m ∷ []) l' → s' ≡ s → t' ≡ t → Comes (Err e) format (m ∷ []) [] [] l' → Course format l l' s s' t t' (Err e)
taken format l l' s s' t t' e m hl hs ht comes = record {
  takes = m ∷ [];
  sends = [];
  deals = [];
  left_is = hl;
  sent_is = hs ∙ and_none s;
  told_is = ht ∙ and_none t;
  comes = comes;
}

-- there was no memory to read it, or to answer it
unanswered : (format : ℕ) (l l' s s' : Words) (t t' : Option Deals) (m : List ℕ) → l ≡ told_front (m ∷ []) l' → s' ≡ s → t' ≡ t → Course format l l' s s' t t' (Err NoMemory)
unanswered format l l' s s' t t' m hl hs ht = taken format l l' s s' t t' NoMemory m hl hs ht (inr (first_more _ format m tt))

refused_so : (fault : MsgFault) (format : ℕ) (l l' s s' : Words) (t : Option Deals) (m : List ℕ) → l ≡ told_front (m ∷ []) l' → s' ≡ s → IsRefused m fault → Course format l l' s s' t t (Err (BadMessage fault))
refused_so fault format l l' s s' t m hl hs h = taken format l l' s s' t t (BadMessage fault) m hl hs refl (first_more _ format m h)

refused_by : (fault : MsgFault) (format : ℕ) (l l' s s' : Words) (t : Option Deals) (m : List ℕ) → l ≡ told_front (m ∷ []) l' → s' ≡ s → ((d : Data) → HasReading m d → Fails fault (client_of d)) → Course format l l' s s' t t (Err (ended_by fault))
refused_by faults.NotJson format l l' s s' t m hl hs h = refused_so _ format l l' s s' t m hl hs (record { fails = h; known = λ e. cc })
refused_by faults.NoType format l l' s s' t m hl hs h = refused_so _ format l l' s s' t m hl hs (record { fails = h; known = λ e. cc })
refused_by (faults.BadField key) format l l' s s' t m hl hs h = refused_so _ format l l' s s' t m hl hs (record { fails = h; known = λ e. cc })
refused_by (faults.ExtraField key) format l l' s s' t m hl hs h = refused_so _ format l l' s s' t m hl hs (record { fails = h; known = λ e. cc })
refused_by faults.NoMemory format l l' s s' t m hl hs h = unanswered format l l' s s' t t m hl hs refl

-- it reads as no message, or there was no memory to read it
pub refused : (fault : MsgFault) (r : Result ℕ Ended) (format : ℕ) (l l' s s' : Words) (t : Option Deals) (m : List ℕ) → IsErrAnd r (λ e. e ≡ ended_by fault) → l ≡ told_front (m ∷ []) l' → s' ≡ s → ((d : Data) → HasReading m d → Fails fault (client_of d)) → Course format l l' s s' t t r
refused fault (Ok now) format l l' s s' t m he hl hs h = absurd he
refused fault (Err e) format l l' s s' t m he hl hs h = subst (λ x. Course format l l' s s' t t (Err x)) (sym he) (refused_by fault format l l' s s' t m hl hs h)

stopped_by : (stop : HubStop) (format : ℕ) (l l' s s' : Words) (t t' : Option Deals) (m : List ℕ) (msg : ClientMsg) → l ≡ told_front (m ∷ []) l' → s' ≡ s → t' ≡ t → Reads m msg → Course format l l' s s' t t' (Err (ended_for stop))
stopped_by TranscriptFull format l l' s s' t t' m msg hl hs ht h = taken format l l' s s' t t' Stopped m hl hs ht (first_more _ format m (msg, h))
stopped_by NoRoom format l l' s s' t t' m msg hl hs ht h = unanswered format l l' s s' t t' m hl hs ht

-- the desk gave no answer
pub stopped : (stop : HubStop) (r : Result ℕ Ended) (format : ℕ) (l l' s s' : Words) (t t' : Option Deals) (m : List ℕ) (msg : ClientMsg) → IsErrAnd r (λ e. e ≡ ended_for stop) → l ≡ told_front (m ∷ []) l' → s' ≡ s → t' ≡ told_after t msg (Err stop) → Reads m msg → Course format l l' s s' t t' r
stopped stop (Ok now) format l l' s s' t t' m msg he hl hs ht h = absurd he
stopped stop (Err e) format l l' s s' t t' m msg he hl hs ht h = subst (λ x. Course format l l' s s' t t' (Err x)) (sym he) (stopped_by stop format l l' s s' t t' m msg hl hs (ht ∙ after_stop t msg stop) h)

-- One message was taken and answered.

unsent_so : (fault : OutFault) (e : Ended) (format : ℕ) (l l' s s' : Words) (t t' : Option Deals) (m : List ℕ) (msg : ClientMsg) (answer : ServerMsg) → e ≡ ended_at fault → l ≡ told_front (m ∷ []) l' → s' ≡ s → t' ≡ told_after t msg (Ok answer) → Reads m msg → Course format l l' s s' t t' (Err e)
unsent_so fault e format l l' s s' t t' m msg answer he hl hs ht h = record {
  takes = m ∷ [];
  sends = [];
  deals = (msg, answer) ∷ [];
  left_is = hl;
  sent_is = hs ∙ and_none s;
  told_is = ht ∙ after_answer t msg answer;
  comes = comes_to_fault fault e format (m ∷ []) [] ((msg, answer) ∷ []) l' he (record { reads = (h, tt); sent_are = inr (record { front = []; last = (msg, answer); deals_are = refl; sent_are = refl; no_bye = none_bye }) });
}

-- the answer wasn't sent
pub unsent : (fault : OutFault) (r : Result ℕ Ended) (format : ℕ) (l l' s s' : Words) (t t' : Option Deals) (m : List ℕ) (msg : ClientMsg) (answer : ServerMsg) → IsErrAnd r (λ e. e ≡ ended_at fault) → l ≡ told_front (m ∷ []) l' → s' ≡ s → t' ≡ told_after t msg (Ok answer) → Reads m msg → Course format l l' s s' t t' r
unsent fault (Ok now) format l l' s s' t t' m msg answer he hl hs ht h = absurd he
unsent fault (Err e) format l l' s s' t t' m msg answer he hl hs ht h = unsent_so fault e format l l' s s' t t' m msg answer he hl hs ht h

sent_one : (format : ℕ) (m : List ℕ) (msg : ClientMsg) (answer : ServerMsg) (text : List ℕ) → text ≡ server_text (format_after format msg) answer → Reads m msg → AllSent format (m ∷ []) (text ∷ []) ((msg, answer) ∷ [])
sent_one format m msg answer text ht h = record { reads = (h, tt); sent_is = ap (λ x. x ∷ []) ht }

-- the session goes on
pub answered : (format now : ℕ) (l l' s s' : Words) (t t' : Option Deals) (m : List ℕ) (msg : ClientMsg) (answer : ServerMsg) (text : List ℕ) → msg ≢ Bye → now ≡ format_after format msg → l ≡ told_front (m ∷ []) l' → text ≡ server_text now answer → s' ≡ told_and s (text ∷ []) → t' ≡ told_after t msg (Ok answer) → Reads m msg → Course format l l' s s' t t' (Ok now)
answered format now l l' s s' t t' m msg answer text other hn hl hx hs ht h = record {
  takes = m ∷ [];
  sends = text ∷ [];
  deals = (msg, answer) ∷ [];
  left_is = hl;
  sent_is = hs;
  told_is = ht ∙ after_answer t msg answer;
  comes = (sent_one format m msg answer text (hx ∙ ap (λ x. server_text x answer) hn) h, hn, one_no_bye msg answer other);
}

-- it was the last
pub answered_bye : (format now : ℕ) (l l' s s' : Words) (t t' : Option Deals) (m : List ℕ) (msg : ClientMsg) (answer : ServerMsg) (text : List ℕ) → msg ≡ Bye → now ≡ format_after format msg → l ≡ told_front (m ∷ []) l' → text ≡ server_text now answer → s' ≡ told_and s (text ∷ []) → t' ≡ told_after t msg (Ok answer) → Reads m msg → Course format l l' s s' t t' (Err Closed)
answered_bye format now l l' s s' t t' m msg answer text bye hn hl hx hs ht h = record {
  takes = m ∷ [];
  sends = text ∷ [];
  deals = (msg, answer) ∷ [];
  left_is = hl;
  sent_is = hs;
  told_is = ht ∙ after_answer t msg answer;
  comes = (sent_one format m msg answer text (hx ∙ ap (λ x. server_text x answer) hn) h, inl (record { front = []; answer = answer; deals_are = ap (λ x. (x, answer) ∷ []) bye; no_bye = none_bye }));
}

-- One part after another.

texts_more : (format : ℕ) (ds es : Deals) → texts format (ds ++ es) ≡ texts format ds ++ texts (last_format format ds) es
texts_more format [] es = refl
texts_more format (d ∷ ds) es = ap (λ x. server_text (format_after format d.0) d.1 ∷ x) (texts_more (format_after format d.0) ds es)

last_more : (format : ℕ) (ds es : Deals) → last_format format (ds ++ es) ≡ last_format (last_format format ds) es
last_more format [] es = refl
last_more format (d ∷ ds) es = last_more (format_after format d.0) ds es

reads_more : (ts us : List (List ℕ)) (ds es : Deals) → ReadAs ts ds → ReadAs us es → ReadAs (ts ++ us) (ds ++ es)
reads_more [] us [] es h k = k
reads_more [] us (d ∷ ds) es h k = absurd h
reads_more (t ∷ ts) us [] es h k = absurd h
reads_more (t ∷ ts) us (d ∷ ds) es (h, hs) k = (h, reads_more ts us ds es hs k)

sent_more : (format : ℕ) (ss vs : List (List ℕ)) (ds es : Deals) → ss ≡ texts format ds → vs ≡ texts (last_format format ds) es → ss ++ vs ≡ texts format (ds ++ es)
sent_more format ss vs ds es h k = ap (λ x. x ++ vs) h ∙ (ap (λ x. texts format ds ++ x) k ∙ sym (texts_more format ds es))

all_more : (format : ℕ) (ts us ss vs : List (List ℕ)) (ds es : Deals) → AllSent format ts ss ds → AllSent (last_format format ds) us vs es → AllSent format (ts ++ us) (ss ++ vs) (ds ++ es)
all_more format ts us ss vs ds es h k = record {
  reads = reads_more ts us ds es h.reads k.reads;
  sent_is = sent_more format ss vs ds es h.sent_is k.sent_is;
}

unsent_more : (format : ℕ) (ss vs : List (List ℕ)) (ds es : Deals) → ss ≡ texts format ds → HasNoBye ds → LastUnsent (last_format format ds) vs es → LastUnsent format (ss ++ vs) (ds ++ es)
unsent_more format ss vs ds es h n k = record {
  front = ds ++ k.front;
  last = k.last;
  deals_are = ap (λ x. ds ++ x) k.deals_are ∙ sym (append_assoc ds k.front (k.last ∷ []));
  sent_are = sent_more format ss vs ds k.front h k.sent_are;
  no_bye = no_bye_both ds k.front n k.no_bye;
}

but_last_sent_more : (format : ℕ) (ss vs : List (List ℕ)) (ds es : Deals) → ss ≡ texts format ds → HasNoBye ds → ((vs ≡ texts (last_format format ds) es) × HasNoBye es) ⊎ LastUnsent (last_format format ds) vs es
    → ((ss ++ vs ≡ texts format (ds ++ es)) × HasNoBye (ds ++ es)) ⊎ LastUnsent format (ss ++ vs) (ds ++ es)
but_last_sent_more format ss vs ds es h n (inl (k, none)) = inl (sent_more format ss vs ds es h k, no_bye_both ds es n none)
but_last_sent_more format ss vs ds es h n (inr k) = inr (unsent_more format ss vs ds es h n k)

but_last_more : (format : ℕ) (ts us ss vs : List (List ℕ)) (ds es : Deals) → AllSent format ts ss ds → HasNoBye ds → AllButLastSent (last_format format ds) us vs es → AllButLastSent format (ts ++ us) (ss ++ vs) (ds ++ es)
but_last_more format ts us ss vs ds es h n k = record {
  reads = reads_more ts us ds es h.reads k.reads;
  sent_are = but_last_sent_more format ss vs ds es h.sent_is n k.sent_are;
}

one_more_more : (Last : List ℕ → Type 0) (format : ℕ) (ts us ss vs : List (List ℕ)) (ds es : Deals) → AllSent format ts ss ds → HasNoBye ds → OneMore Last (last_format format ds) us vs es → OneMore Last format (ts ++ us) (ss ++ vs) (ds ++ es)
one_more_more Last format ts us ss vs ds es h n k = record {
  front = ts ++ k.front;
  last = k.last;
  taken_are = ap (λ x. ts ++ x) k.taken_are ∙ sym (append_assoc ts k.front (k.last ∷ []));
  last_is = k.last_is;
  before = all_more format ts k.front ss vs ds es h k.before;
  no_bye = no_bye_both ds es n k.no_bye;
}

bye_more : (ds es : Deals) → HasNoBye ds → EndsInBye es → EndsInBye (ds ++ es)
bye_more ds es n k = record {
  front = ds ++ k.front;
  answer = k.answer;
  deals_are = ap (λ x. ds ++ x) k.deals_are ∙ sym (append_assoc ds k.front ((Bye, k.answer) ∷ []));
  no_bye = no_bye_both ds k.front n k.no_bye;
}

comes_more : (r : Result ℕ Ended) (format : ℕ) (ts us ss vs : List (List ℕ)) (ds es : Deals) (left : Words) → AllSent format ts ss ds → HasNoBye ds → Comes r (last_format format ds) us vs es left → Comes r format (ts ++ us) (ss ++ vs) (ds ++ es) left
comes_more (Ok now) format ts us ss vs ds es left h n (k, e, none) = (all_more format ts us ss vs ds es h k, e ∙ sym (last_more format ds es), no_bye_both ds es n none)
comes_more (Err Closed) format ts us ss vs ds es left h n (k, inl bye) = (all_more format ts us ss vs ds es h k, inl (bye_more ds es n bye))
comes_more (Err Closed) format ts us ss vs ds es left h n (k, inr (none, gone)) = (all_more format ts us ss vs ds es h k, inr (no_bye_both ds es n none, gone))
comes_more (Err LinkFault) format ts us ss vs ds es left h n k = but_last_more format ts us ss vs ds es h n k
comes_more (Err (BadMessage fault)) format ts us ss vs ds es left h n k = one_more_more _ format ts us ss vs ds es h n k
comes_more (Err Stopped) format ts us ss vs ds es left h n k = one_more_more _ format ts us ss vs ds es h n k
comes_more (Err NoMemory) format ts us ss vs ds es left h n (inl k) = inl (but_last_more format ts us ss vs ds es h n k)
comes_more (Err NoMemory) format ts us ss vs ds es left h n (inr k) = inr (one_more_more _ format ts us ss vs ds es h n k)
comes_more (Err (Unexpected wanted got)) format ts us ss vs ds es left h n k = k
comes_more (Err InstancesFull) format ts us ss vs ds es left h n k = k

-- a course from where another came to
pub after : (format now : ℕ) (l m n s t u : Words) (d b c : Option Deals) (r : Result ℕ Ended) → Course format l m s t d b (Ok now) → Course now m n t u b c r → Course format l n s u d c r
after format now l m n s t u d b c r h k = record {
  takes = h.takes ++ k.takes;
  sends = h.sends ++ k.sends;
  deals = h.deals ++ k.deals;
  left_is = h.left_is ∙ (ap (λ x. told_front h.takes x) k.left_is ∙ front_more h.takes k.takes n);
  sent_is = k.sent_is ∙ (ap (λ x. told_and x k.sends) h.sent_is ∙ and_more s h.sends k.sends);
  told_is = k.told_is ∙ (ap (λ x. told_and x k.deals) h.told_is ∙ and_more d h.deals k.deals);
  comes = comes_more r format h.takes k.takes h.sends k.sends h.deals k.deals n h.comes.0 h.comes.2 (subst (λ x. Comes r x k.takes k.sends k.deals n) h.comes.1 k.comes);
}

-- the same course, where the link was only opened before and closed after
pub course_on : (format : ℕ) (l k l' k' s t s' t' : Words) (d d' : Option Deals) (r : Result ℕ Ended) → k ≡ l → t ≡ s → k' ≡ l' → t' ≡ s' → Course format k l' t s' d d' r → Course format l k' s t' d d' r
course_on format l k l' k' s t s' t' d d' r hl hs hl' hs' h =
    let a : Course format k k' t t' d d' r = subst (λ x. Course format k x t t' d d' r) (sym hl') (subst (λ x. Course format k l' t x d d' r) (sym hs') h) in
    subst (λ x. Course format x k' s t' d d' r) hl (subst (λ x. Course format k k' x t' d d' r) hs a)

-- Room on the desk.

not_true : (b : Bool) → ¬ (b ≡ true) → b ≡ false
not_true true h = absurd (h refl)
not_true false h = refl

-- a session that goes on leaves room
pub room_left : (r : Result ℕ Ended) (now : ℕ) (b : Bool) → r ≡ Ok now → (r ≡ Err Stopped ↔ b ≡ true) → b ≡ false
room_left r now b e h = not_true b (λ t. let x : r ≡ Err Stopped = h.1 t in let y : Ok now ≡ Err Stopped = sym e ∙ x in cc)
