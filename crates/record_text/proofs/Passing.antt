-- The lines of a record lead, from each to the next, to the record that they are the lines of.
use Rattle.std.proofs.Common.{ℕ, ◌+◌, List, [], ◌∷◌, ◌++◌, Bool, true, false, cond, map, ◌≡◌, refl, sym, ap, subst, ◌∙◌, arith, append_assoc, Option, Some, None}
use Rattle.std.specs.Prelude.{◌&&◌, codes, option_and_then}
use Rattle.std.specs.List.{flat_map, list_all}
use Rattle.std.proofs.lemmas.Bool.{and_parts}
use Rattle.std.proofs.lemmas.Bool.Decides.{nat_tests}
use Rattle.std.proofs.lemmas.List.{append-nil, map-append}
use Rattle.hmr_types.specs.Results.{◌>>=◌}
use Rattle.hmr_types.specs.ModName.{is_name}
use Rattle.play_script.specs.Script.{Line, cut_line, is_empty, is_line_end, lines_from}
use Rattle.play_script.specs.Texts.{spaced, spaced_number}
use Rattle.play_script.proofs.SpelledTexts.{ended}
use Rattle.record_text.specs.declared.draft.Draft.{Draft}
use Rattle.record_text.specs.declared.next.Next.{Next}
use Rattle.record_text.specs.declared.record.Record.{Record}
use Rattle.record_text.specs.declared.record.RecordEvent.{RecordEvent}
use Rattle.record_text.specs.declared.record.RecordEvent.TheVariants as events
use Rattle.record_text.specs.declared.record.RecordLine.{RecordLine}
use Rattle.record_text.specs.declared.record.RecordLine.TheVariants as lines
use Rattle.record_text.specs.declared.said.Said.{Said}
use Rattle.record_text.specs.declared.said.Said.TheVariants as says
use Rattle.record_text.specs.Fit.{HasText, are_behind_entries, fits_event, fits_line, is_client, is_one_line, is_page}
use Rattle.record_text.specs.Lines.{piece_of, said_of}
use Rattle.record_text.specs.Order.{after_event, after_last, after_reply, after_rest, after_root, after_text}
use Rattle.record_text.specs.Reading.{all_read, beginning, line_read, or_bad, placed, with_piece}
use Rattle.record_text.specs.Replies.{is_reply}
use Rattle.record_text.specs.Texts.{rows_text}
use Rattle.record_text.proofs.LineForms.{bare, event_line, event_said, reply_said_so, rest_said, root_said}

abbrev of : Next → Option RecordEvent → List (List ℕ) → List RecordLine → Draft
of next event roots ls = record { next = next; event = event; roots = roots; lines = ls }

-- lines that lead from one draft to another, wherever they stand and whatever follows
abbrev pub Leads : Draft → List (List ℕ) → Draft → Type 0
Leads d ls e = (n : ℕ) (more : List Line) → (k : ℕ) × (all_read d n (map ended ls ++ more) ≡ all_read e k more)

stays : (d : Draft) → Leads d [] d
stays d = λ n more. (n, refl)

by_line : (d next e : Draft) (line : List ℕ) (ls : List (List ℕ)) → line_read d line true ≡ Some next → Leads next ls e → Leads d (line ∷ ls) e
by_line d next e line ls read leads = λ n more.
    let below = leads (n + 1) more in
    (below.0, ap (λ r. or_bad n r >>= λ x. all_read x (n + 1) (map ended ls ++ more)) read ∙ below.1)

by_both : (d e f : Draft) (xs ys : List (List ℕ)) → Leads d xs e → Leads e ys f → Leads d (xs ++ ys) f
by_both d e f xs ys first second = λ n more.
    let a = first n (map ended ys ++ more) in
    let b = second a.0 more in
    (b.0, ap (λ l. all_read d n (l ++ more)) (map-append ended xs ys) ∙ (ap (all_read d n) (append_assoc (map ended xs) (map ended ys) more) ∙ (a.1 ∙ b.1)))

read_of : (d e : Draft) (line : List ℕ) (s : Said) → said_of line ≡ Some s → placed d s ≡ Some e → line_read d line true ≡ Some e
read_of d e line s h p = ap (λ o. option_and_then (placed d) o) h ∙ p

-- ---- roots

abbrev pub root_line : List ℕ → List ℕ
root_line name = codes "root" ++ spaced name

more_roots : (rs before : List (List ℕ)) → list_all is_name rs ≡ true → Leads (of after_root None before []) (map root_line rs) (of after_root None (before ++ rs) [])
more_roots [] before h = subst (λ b. Leads (of after_root None before []) [] (of after_root None b [])) (sym (append-nil before)) (stays (of after_root None before []))
more_roots (r ∷ rs) before h =
    let here = and_parts (is_name r) (list_all is_name rs) h in
    let d = of after_root None before [] in
    let next = of after_root None (before ++ r ∷ []) [] in
    by_line d next (of after_root None (before ++ r ∷ rs) []) (root_line r) (map root_line rs) (read_of d next (root_line r) (says.Root r) (root_said r here.0) refl)
    (subst (λ b. Leads next (map root_line rs) (of after_root None b [])) (append_assoc before (r ∷ []) rs) (more_roots rs (before ++ r ∷ []) here.1))

roots_lead : (rs : List (List ℕ)) → is_empty rs ≡ false → list_all is_name rs ≡ true → Leads beginning (map root_line rs) (of after_root None rs [])
roots_lead [] some h = absurd (cc)
roots_lead (r ∷ rs) some h =
    let here = and_parts (is_name r) (list_all is_name rs) h in
    let next = of after_root None (r ∷ []) [] in
    by_line beginning next (of after_root None (r ∷ rs) []) (root_line r) (map root_line rs) (read_of beginning next (root_line r) (says.Root r) (root_said r here.0) refl)
    (more_roots rs (r ∷ []) here.1)

-- ---- the text of an event

abbrev pub piece_line : Line → List ℕ
piece_line l = cond l.ended (codes "|") (codes "~") ++ l.bytes

pub with_two : (e : RecordEvent) (p q : List ℕ) → with_piece q (with_piece p e) ≡ with_piece (p ++ q) e
with_two (events.Edit name text) p q = ap (λ t. events.Edit name t) (append_assoc text p q)
with_two (events.Remove name) p q = refl
with_two (events.Settle name text v) p q = ap (λ t. events.Settle name t v) (append_assoc text p q)
with_two (events.Connect names) p q = refl
with_two (events.Ask c) p q = refl
with_two (events.Fetch c name) p q = refl
with_two (events.Applied c t) p q = refl
with_two (events.Aborted c) p q = refl
with_two (events.Invalidate c name v) p q = refl
with_two (events.Disconnect c) p q = refl

with_none : (e : RecordEvent) → with_piece [] e ≡ e
with_none (events.Edit name text) = ap (λ t. events.Edit name t) (append-nil text)
with_none (events.Remove name) = refl
with_none (events.Settle name text v) = ap (λ t. events.Settle name t v) (append-nil text)
with_none (events.Connect names) = refl
with_none (events.Ask c) = refl
with_none (events.Fetch c name) = refl
with_none (events.Applied c t) = refl
with_none (events.Aborted c) = refl
with_none (events.Invalidate c name v) = refl
with_none (events.Disconnect c) = refl

-- the event is whole behind these lines, and its reply may come
abbrev IsToldBy : Draft → List (List ℕ) → RecordEvent → List (List ℕ) → List RecordLine → Type 0
IsToldBy d ls e roots done = (next : Next) × (next.reply ≡ true) × Leads d ls (of next (Some e) roots done)

abbrev Pieces : List (List ℕ) → List RecordLine → RecordEvent → List Line → List ℕ → Type 0
Pieces roots done e ls text = IsToldBy (of after_text (Some e) roots done) (map piece_line ls) (with_piece text e) roots done

cut_pieces : (roots : List (List ℕ)) (done : List RecordLine) (e : RecordEvent) (acc : List ℕ) → Pieces roots done e (cut_line acc) acc
cut_pieces roots done e [] =
    let d = of after_text (Some e) roots done in
    (after_text, refl, subst (λ x. Leads d [] (of after_text (Some x) roots done)) (sym (with_none e)) (stays d))
cut_pieces roots done e (b ∷ bs) =
    let d = of after_text (Some e) roots done in
    let next = of after_last (Some (with_piece (b ∷ bs) e)) roots done in
    (after_last, refl, by_line d next next (126 ∷ b ∷ bs) [] (read_of d next (126 ∷ b ∷ bs) (says.Last (b ∷ bs)) refl refl) (stays next))

-- one line more
with_line : (roots : List (List ℕ)) (done : List RecordLine) (e : RecordEvent) (acc text : List ℕ) (ls : List Line)
    → Pieces roots done (with_piece (piece_of acc) e) ls text → Pieces roots done e (ended acc ∷ ls) (piece_of acc ++ text)
with_line roots done e acc text ls h =
    let d = of after_text (Some e) roots done in
    let mid = with_piece (piece_of acc) e in
    let next = of after_text (Some mid) roots done in
    let last = of h.0 (Some (with_piece text mid)) roots done in
    let leads = by_line d next last (124 ∷ acc) (map piece_line ls) (read_of d next (124 ∷ acc) (says.Text (piece_of acc)) refl refl) h.2 in
    (h.0, h.1, subst (λ x. Leads d ((124 ∷ acc) ∷ map piece_line ls) (of h.0 (Some x) roots done)) (with_two e (piece_of acc) text) leads)

line_end : (b : ℕ) → is_line_end b ≡ true → b ≡ 10
line_end b h = grind (arith, nat_tests)

abbrev Below : List (List ℕ) → List RecordLine → List ℕ → Type 0
Below roots done bs = (acc : List ℕ) (e : RecordEvent) → Pieces roots done e (lines_from acc bs) (acc ++ bs)

at_byte : (roots : List (List ℕ)) (done : List RecordLine) (e : RecordEvent) (b : ℕ) (bs acc : List ℕ) (t : Bool) → is_line_end b ≡ t → Below roots done bs
    → Pieces roots done e (cond t (ended acc ∷ lines_from [] bs) (lines_from (acc ++ b ∷ []) bs)) (acc ++ b ∷ bs)
at_byte roots done e b bs acc true h below =
    let same : piece_of acc ++ bs ≡ acc ++ b ∷ bs = append_assoc acc (codes "\n") bs ∙ ap (λ x. acc ++ x ∷ bs) (sym (line_end b h)) in
    subst (λ t. Pieces roots done e (ended acc ∷ lines_from [] bs) t) same (with_line roots done e acc bs (lines_from [] bs) (below [] (with_piece (piece_of acc) e)))
at_byte roots done e b bs acc false h below =
    subst (λ t. Pieces roots done e (lines_from (acc ++ b ∷ []) bs) t) (append_assoc acc (b ∷ []) bs) (below (acc ++ b ∷ []) e)

pieces_lead : (roots : List (List ℕ)) (done : List RecordLine) (bs : List ℕ) → Below roots done bs
pieces_lead roots done [] = λ acc e. subst (λ t. Pieces roots done e (cut_line acc) t) (sym (append-nil acc)) (cut_pieces roots done e acc)
pieces_lead roots done (b ∷ bs) = λ acc e. at_byte roots done e b bs acc (is_line_end b) refl (pieces_lead roots done bs)

-- ---- entries

-- the lines of an event's text
abbrev pub event_pieces : RecordEvent → List (List ℕ)
event_pieces (events.Edit name text) = map piece_line (lines_from [] text)
event_pieces (events.Remove name) = []
event_pieces (events.Settle name text version) = map piece_line (lines_from [] text)
event_pieces (events.Connect names) = []
event_pieces (events.Ask client) = []
event_pieces (events.Fetch client name) = []
event_pieces (events.Applied client table) = []
event_pieces (events.Aborted client) = []
event_pieces (events.Invalidate client name version) = []
event_pieces (events.Disconnect client) = []

abbrev Told : List (List ℕ) → List RecordLine → RecordEvent → Type 0
Told roots done e = IsToldBy (of (after_event (bare e)) (Some (bare e)) roots done) (event_pieces e) e roots done

told : (roots : List (List ℕ)) (done : List RecordLine) (e : RecordEvent) → Told roots done e
told roots done (events.Edit name text) = pieces_lead roots done text [] (events.Edit name [])
told roots done (events.Remove name) = (after_last, refl, stays (of after_last (Some (events.Remove name)) roots done))
told roots done (events.Settle name text v) = pieces_lead roots done text [] (events.Settle name [] v)
told roots done (events.Connect names) = (after_last, refl, stays (of after_last (Some (events.Connect names)) roots done))
told roots done (events.Ask c) = (after_last, refl, stays (of after_last (Some (events.Ask c)) roots done))
told roots done (events.Fetch c name) = (after_last, refl, stays (of after_last (Some (events.Fetch c name)) roots done))
told roots done (events.Applied c t) = (after_last, refl, stays (of after_last (Some (events.Applied c t)) roots done))
told roots done (events.Aborted c) = (after_last, refl, stays (of after_last (Some (events.Aborted c)) roots done))
told roots done (events.Invalidate c name v) = (after_last, refl, stays (of after_last (Some (events.Invalidate c name v)) roots done))
told roots done (events.Disconnect c) = (after_last, refl, stays (of after_last (Some (events.Disconnect c)) roots done))

-- the lines of an entry, or of a client at rest
abbrev pub line_lines : RecordLine → List (List ℕ)
line_lines (lines.Entry event reply) = event_line event ∷ (event_pieces event ++ (codes "= " ++ reply) ∷ [])
line_lines (lines.Rest client table) = (codes "rest" ++ spaced_number client ++ rows_text table) ∷ []

event_placed : (next : Next) (e : RecordEvent) (roots : List (List ℕ)) (done : List RecordLine) → next.event ≡ true → placed (of next None roots done) (says.Event e) ≡ Some (of (after_event e) (Some e) roots done)
event_placed next e roots done h = rw h refl

reply_placed : (next : Next) (e : RecordEvent) (reply : List ℕ) (roots : List (List ℕ)) (done : List RecordLine) → next.reply ≡ true
    → placed (of next (Some e) roots done) (says.Reply reply) ≡ Some (of after_reply None roots (done ++ lines.Entry e reply ∷ []))
reply_placed next e reply roots done h = rw h refl

rest_placed : (next : Next) (c : ℕ) (t : List (List ℕ × ℕ)) (roots : List (List ℕ)) (done : List RecordLine) → next.rest ≡ true
    → placed (of next None roots done) (says.Rest c t) ≡ Some (of after_rest None roots (done ++ lines.Rest c t ∷ []))
rest_placed next c t roots done h = rw h refl

entry_leads : (next : Next) (e : RecordEvent) (reply : List ℕ) (roots : List (List ℕ)) (done : List RecordLine) → next.event ≡ true → fits_event e ≡ true → is_reply reply ≡ true
    → Leads (of next None roots done) (line_lines (lines.Entry e reply)) (of after_reply None roots (done ++ lines.Entry e reply ∷ []))
entry_leads next e reply roots done may h r =
    let first = of next None roots done in
    let begun = of (after_event (bare e)) (Some (bare e)) roots done in
    let whole = told roots done e in
    let second = of whole.0 (Some e) roots done in
    let last = of after_reply None roots (done ++ lines.Entry e reply ∷ []) in
    let line = codes "= " ++ reply in
    by_line first begun last (event_line e) (event_pieces e ++ line ∷ []) (read_of first begun (event_line e) (says.Event (bare e)) (event_said e h) (event_placed next (bare e) roots done may))
    (by_both begun second last (event_pieces e) (line ∷ []) whole.2
    (by_line second last last line [] (read_of second last line (says.Reply reply) (reply_said_so reply r) (reply_placed whole.0 e reply roots done whole.1)) (stays last)))

rest_leads : (next : Next) (c : ℕ) (t : List (List ℕ × ℕ)) (roots : List (List ℕ)) (done : List RecordLine) → next.rest ≡ true → is_client c ≡ true → is_page t ≡ true
    → Leads (of next None roots done) (line_lines (lines.Rest c t)) (of after_rest None roots (done ++ lines.Rest c t ∷ []))
rest_leads next c t roots done may h p =
    let d = of next None roots done in
    let e = of after_rest None roots (done ++ lines.Rest c t ∷ []) in
    let line = codes "rest" ++ spaced_number c ++ rows_text t in
    by_line d e e line [] (read_of d e line (says.Rest c t) (rest_said c t h p) (rest_placed next c t roots done may)) (stays e)

-- the lines lead to a draft that may end, with these lines behind those before
abbrev Ends : Next → List (List ℕ) → List RecordLine → List RecordLine → Type 0
Ends next roots done ls = (last : Next) × (last.event ≡ true) × Leads (of next None roots done) (flat_map line_lines ls) (of last None roots (done ++ ls))

then_ends : (next mid : Next) (roots : List (List ℕ)) (done : List RecordLine) (l : RecordLine) (ls : List RecordLine)
    → Leads (of next None roots done) (line_lines l) (of mid None roots (done ++ l ∷ [])) → Ends mid roots (done ++ l ∷ []) ls → Ends next roots done (l ∷ ls)
then_ends next mid roots done l ls first rest =
    let d = of next None roots done in
    let m = of mid None roots (done ++ l ∷ []) in
    let e = of rest.0 None roots ((done ++ l ∷ []) ++ ls) in
    (rest.0, rest.1, subst (λ x. Leads d (flat_map line_lines (l ∷ ls)) (of rest.0 None roots x)) (append_assoc done (l ∷ []) ls) (by_both d m e (line_lines l) (flat_map line_lines ls) first rest.2))

lines_lead : (ls : List RecordLine) (next : Next) (roots : List (List ℕ)) (done : List RecordLine) → next.event ≡ true → list_all fits_line ls ≡ true → are_behind_entries next.rest ls ≡ true → Ends next roots done ls
lines_lead [] next roots done may h order = (next, may, subst (λ x. Leads (of next None roots done) [] (of next None roots x)) (sym (append-nil done)) (stays (of next None roots done)))
lines_lead (lines.Entry e reply ∷ ls) next roots done may h order =
    let all = and_parts (fits_event e && (is_reply reply && is_one_line reply)) (list_all fits_line ls) h in
    let here = and_parts (fits_event e) (is_reply reply && is_one_line reply) all.0 in
    let form = (and_parts (is_reply reply) (is_one_line reply) here.1).0 in
    let l = lines.Entry e reply in
    then_ends next after_reply roots done l ls (entry_leads next e reply roots done may here.0 form) (lines_lead ls after_reply roots (done ++ l ∷ []) refl all.1 order)
lines_lead (lines.Rest c t ∷ ls) next roots done may h order =
    let all = and_parts (is_client c && is_page t) (list_all fits_line ls) h in
    let here = and_parts (is_client c) (is_page t) all.0 in
    let both = and_parts next.rest (are_behind_entries false ls) order in
    let l = lines.Rest c t in
    then_ends next after_rest roots done l ls (rest_leads next c t roots done both.0 here.0 here.1) (lines_lead ls after_rest roots (done ++ l ∷ []) refl all.1 both.1)

-- the lines of a record
abbrev pub record_lines : Record → List (List ℕ)
record_lines r = map root_line r.roots ++ flat_map line_lines r.lines

-- the lines of a record lead to a draft of it that may end
pub record_leads : (r : Record) → HasText r → (last : Next) × (last.event ≡ true) × Leads beginning (record_lines r) (of last None r.roots r.lines)
record_leads r h =
    let rest = lines_lead r.lines after_root r.roots [] refl h.lines h.order in
    (rest.0, rest.1, by_both beginning (of after_root None r.roots []) (of rest.0 None r.roots r.lines) (map root_line r.roots) (flat_map line_lines r.lines) (roots_lead r.roots h.some h.roots) rest.2)
