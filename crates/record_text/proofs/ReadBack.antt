-- What is written of a record is read as that record.
use Rattle.std.proofs.Common.{ℕ, List, [], ◌∷◌, ◌++◌, Bool, true, false, cond, map, ◌≡◌, refl, sym, ap, ◌∙◌, arith, append_assoc, None, Ok}
use Rattle.std.specs.Prelude.{◌&&◌, codes, decimal, not, Result}
use Rattle.std.specs.List.{flat_map, list_all}
use Rattle.std.proofs.lemmas.Bool.{and_from, and_parts}
use Rattle.std.proofs.lemmas.List.{append-nil}
use Rattle.std.proofs.lemmas.List.Folds.{list_all-append}
use Rattle.hmr_types.specs.Results.{◌>>=◌}
use Rattle.hmr_types.specs.ModName.{is_name}
use Rattle.play_script.specs.Script.{Line, is_line_end, lines_from}
use Rattle.play_script.specs.Spelling.{ended_by_lf}
use Rattle.play_script.specs.Texts.{names_text, spaced, spaced_number}
use Rattle.play_script.proofs.SpelledNames.{has_no_lf, has_no_lf-name}
use Rattle.play_script.proofs.SpelledNumbers.{has_no_lf-decimal}
use Rattle.play_script.proofs.SpelledTexts.{are_lines, ended, lines-ended_by_lf, lines_no_lf}
use Rattle.record_text.specs.declared.record.Record.{Record}
use Rattle.record_text.specs.declared.record.RecordEvent.{RecordEvent}
use Rattle.record_text.specs.declared.record.RecordEvent.TheVariants as events
use Rattle.record_text.specs.declared.record.RecordLine.{RecordLine}
use Rattle.record_text.specs.declared.record.RecordLine.TheVariants as lines
use Rattle.record_text.specs.Fit.{HasText, fits_event, fits_line, is_client, is_count, is_one_line, is_page}
use Rattle.record_text.specs.Reading.{all_read, beginning, of_draft, record_of, whole}
use Rattle.record_text.specs.Replies.{is_reply}
use Rattle.record_text.specs.Texts.{event_text, line_text, record_text, reply_line, roots_text, rows_text, text_line, text_lines}
use Rattle.record_text.proofs.LineForms.{Rows, client_small, count_small, event_line, page_parts, row_parts, version_parts}
use Rattle.record_text.proofs.Passing.{event_pieces, line_lines, piece_line, record_leads, record_lines, root_line}

-- ---- no LF stands in a line

abbrev is_other : ℕ → Bool
is_other b = not (is_line_end b)

both_no_lf : (v w : List ℕ) → has_no_lf v ≡ true → has_no_lf w ≡ true → has_no_lf (v ++ w) ≡ true
both_no_lf v w a b = list_all-append is_other v w ∙ and_from _ _ a b

client_no_lf : (c : ℕ) → is_client c ≡ true → has_no_lf (decimal c) ≡ true
client_no_lf c h = has_no_lf-decimal c (omega (arith, client_small c h))

count_no_lf : (v : ℕ) → is_count v ≡ true → has_no_lf (decimal v) ≡ true
count_no_lf v h = has_no_lf-decimal v (omega (arith, count_small v h))

names_no_lf : (names : List (List ℕ)) → list_all is_name names ≡ true → has_no_lf (names_text names) ≡ true
names_no_lf [] h = refl
names_no_lf (n ∷ ns) h =
    let here = and_parts (is_name n) (list_all is_name ns) h in
    both_no_lf (spaced n) (names_text ns) (has_no_lf-name n here.0) (names_no_lf ns here.1)

rows_no_lf : (rows : List (List ℕ × ℕ)) → Rows rows → has_no_lf (rows_text rows) ≡ true
rows_no_lf [] h = refl
rows_no_lf (r ∷ rs) h =
    let here = row_parts r rs h in
    let number = has_no_lf-decimal r.1 (omega (arith, (version_parts r.1 here.1).1)) in
    both_no_lf (spaced r.0 ++ spaced_number r.1) (rows_text rs) (both_no_lf (spaced r.0) (spaced_number r.1) (has_no_lf-name r.0 here.0) number) (rows_no_lf rs here.2)

table_no_lf : (c : ℕ) (t : List (List ℕ × ℕ)) → is_client c ≡ true → is_page t ≡ true → has_no_lf (decimal c ++ rows_text t) ≡ true
table_no_lf c t h p = both_no_lf (decimal c) (rows_text t) (client_no_lf c h) (rows_no_lf t (page_parts t p).1)

event_no_lf : (e : RecordEvent) → fits_event e ≡ true → has_no_lf (event_line e) ≡ true
event_no_lf (events.Edit name text) h = has_no_lf-name name h
event_no_lf (events.Remove name) h = has_no_lf-name name h
event_no_lf (events.Settle name text v) h =
    let both = and_parts (is_name name) (is_count v) h in
    both_no_lf name (spaced_number v) (has_no_lf-name name both.0) (count_no_lf v both.1)
event_no_lf (events.Connect names) h = names_no_lf names h
event_no_lf (events.Ask c) h = client_no_lf c h
event_no_lf (events.Fetch c name) h =
    let both = and_parts (is_client c) (is_name name) h in
    both_no_lf (decimal c) (spaced name) (client_no_lf c both.0) (has_no_lf-name name both.1)
event_no_lf (events.Applied c t) h = let both = and_parts (is_client c) (is_page t) h in table_no_lf c t both.0 both.1
event_no_lf (events.Aborted c) h = client_no_lf c h
event_no_lf (events.Invalidate c name v) h =
    let all = and_parts (is_client c && is_name name) (is_count v) h in
    let both = and_parts (is_client c) (is_name name) all.0 in
    both_no_lf (decimal c ++ spaced name) (spaced_number v) (both_no_lf (decimal c) (spaced name) (client_no_lf c both.0) (has_no_lf-name name both.1)) (count_no_lf v all.1)
event_no_lf (events.Disconnect c) h = client_no_lf c h

mark_no_lf : (t : Bool) (bytes : List ℕ) → has_no_lf bytes ≡ true → has_no_lf (cond t (codes "|") (codes "~") ++ bytes) ≡ true
mark_no_lf true bytes h = h
mark_no_lf false bytes h = h

marked_no_lf : (ls : List Line) → are_lines ls ≡ true → list_all has_no_lf (map piece_line ls) ≡ true
marked_no_lf [] h = refl
marked_no_lf (l ∷ ls) h =
    let here = and_parts (has_no_lf l.bytes) (are_lines ls) h in
    and_from _ _ (mark_no_lf l.ended l.bytes here.0) (marked_no_lf ls here.1)

pieces_no_lf : (e : RecordEvent) → list_all has_no_lf (event_pieces e) ≡ true
pieces_no_lf (events.Edit name text) = marked_no_lf (lines_from [] text) (lines_no_lf text [] refl)
pieces_no_lf (events.Remove name) = refl
pieces_no_lf (events.Settle name text v) = marked_no_lf (lines_from [] text) (lines_no_lf text [] refl)
pieces_no_lf (events.Connect names) = refl
pieces_no_lf (events.Ask c) = refl
pieces_no_lf (events.Fetch c name) = refl
pieces_no_lf (events.Applied c t) = refl
pieces_no_lf (events.Aborted c) = refl
pieces_no_lf (events.Invalidate c name v) = refl
pieces_no_lf (events.Disconnect c) = refl

line_no_lf : (l : RecordLine) → fits_line l ≡ true → list_all has_no_lf (line_lines l) ≡ true
line_no_lf (lines.Entry e reply) h =
    let here = and_parts (fits_event e) (is_reply reply && is_one_line reply) h in
    let one = (and_parts (is_reply reply) (is_one_line reply) here.1).1 in
    and_from _ _ (event_no_lf e here.0) (list_all-append has_no_lf (event_pieces e) ((codes "= " ++ reply) ∷ []) ∙ and_from _ _ (pieces_no_lf e) (and_from _ _ one refl))
line_no_lf (lines.Rest c t) h = let here = and_parts (is_client c) (is_page t) h in and_from _ _ (table_no_lf c t here.0 here.1) refl

lines_have_no_lf : (ls : List RecordLine) → list_all fits_line ls ≡ true → list_all has_no_lf (flat_map line_lines ls) ≡ true
lines_have_no_lf [] h = refl
lines_have_no_lf (l ∷ ls) h =
    let here = and_parts (fits_line l) (list_all fits_line ls) h in
    list_all-append has_no_lf (line_lines l) (flat_map line_lines ls) ∙ and_from _ _ (line_no_lf l here.0) (lines_have_no_lf ls here.1)

roots_have_no_lf : (rs : List (List ℕ)) → list_all is_name rs ≡ true → list_all has_no_lf (map root_line rs) ≡ true
roots_have_no_lf [] h = refl
roots_have_no_lf (r ∷ rs) h = let here = and_parts (is_name r) (list_all is_name rs) h in and_from _ _ (has_no_lf-name r here.0) (roots_have_no_lf rs here.1)

record_no_lf : (r : Record) → HasText r → list_all has_no_lf (record_lines r) ≡ true
record_no_lf r h = list_all-append has_no_lf (map root_line r.roots) (flat_map line_lines r.lines) ∙ and_from _ _ (roots_have_no_lf r.roots h.roots) (lines_have_no_lf r.lines h.lines)

-- ---- the text is its lines, each with LF

more_ended : (xs ys : List (List ℕ)) → ended_by_lf (xs ++ ys) ≡ ended_by_lf xs ++ ended_by_lf ys
more_ended [] ys = refl
more_ended (x ∷ xs) ys =
    ap (λ more. x ++ (codes "\n" ++ more)) (more_ended xs ys)
    ∙ (ap (λ more. x ++ more) (sym (append_assoc (codes "\n") (ended_by_lf xs) (ended_by_lf ys)))
    ∙ sym (append_assoc x (codes "\n" ++ ended_by_lf xs) (ended_by_lf ys)))

-- a line and what stands below it
above : (line : List ℕ) (ls : List (List ℕ)) (text : List ℕ) → ended_by_lf ls ≡ text → ended_by_lf (line ∷ ls) ≡ (line ++ codes "\n") ++ text
above line ls text h = ap (λ more. line ++ (codes "\n" ++ more)) h ∙ sym (append_assoc line (codes "\n") text)

one_ended : (line : List ℕ) → ended_by_lf (line ∷ []) ≡ line ++ codes "\n"
one_ended line = refl

pieces_ended : (ls : List Line) → ended_by_lf (map piece_line ls) ≡ flat_map text_line ls
pieces_ended [] = refl
pieces_ended (l ∷ ls) = above (piece_line l) (map piece_line ls) (flat_map text_line ls) (pieces_ended ls)

event_ended : (e : RecordEvent) → ended_by_lf (event_line e ∷ event_pieces e) ≡ event_text e
event_ended (events.Edit name text) = above (event_line (events.Edit name text)) (map piece_line (lines_from [] text)) (text_lines text) (pieces_ended (lines_from [] text))
event_ended (events.Remove name) = refl
event_ended (events.Settle name text v) = above (event_line (events.Settle name text v)) (map piece_line (lines_from [] text)) (text_lines text) (pieces_ended (lines_from [] text))
event_ended (events.Connect names) = refl
event_ended (events.Ask c) = refl
event_ended (events.Fetch c name) = refl
event_ended (events.Applied c t) = refl
event_ended (events.Aborted c) = refl
event_ended (events.Invalidate c name v) = refl
event_ended (events.Disconnect c) = refl

line_ended : (l : RecordLine) → ended_by_lf (line_lines l) ≡ line_text l
line_ended (lines.Entry e reply) =
    more_ended (event_line e ∷ event_pieces e) ((codes "= " ++ reply) ∷ []) ∙ ap (λ text. text ++ reply_line reply) (event_ended e)
line_ended (lines.Rest c t) = refl

lines_ended : (ls : List RecordLine) → ended_by_lf (flat_map line_lines ls) ≡ flat_map line_text ls
lines_ended [] = refl
lines_ended (l ∷ ls) =
    more_ended (line_lines l) (flat_map line_lines ls)
    ∙ (ap (λ text. text ++ ended_by_lf (flat_map line_lines ls)) (line_ended l) ∙ ap (λ text. line_text l ++ text) (lines_ended ls))

roots_ended : (rs : List (List ℕ)) → ended_by_lf (map root_line rs) ≡ roots_text rs
roots_ended [] = refl
roots_ended (r ∷ rs) = above (root_line r) (map root_line rs) (roots_text rs) (roots_ended rs)

record_ended : (r : Record) → ended_by_lf (record_lines r) ≡ record_text r
record_ended r =
    more_ended (map root_line r.roots) (flat_map line_lines r.lines)
    ∙ (ap (λ text. text ++ ended_by_lf (flat_map line_lines r.lines)) (roots_ended r.roots) ∙ ap (λ text. roots_text r.roots ++ text) (lines_ended r.lines))

-- ---- the law

pub text_is_read : (r : Record) → HasText r → record_of (record_text r) ≡ Ok r
text_is_read r h =
    let split : lines_from [] (record_text r) ≡ map ended (record_lines r) = ap (lines_from []) (sym (record_ended r)) ∙ lines-ended_by_lf (record_lines r) (record_no_lf r h) in
    let leads = record_leads r h in
    let at_end = leads.2 1 [] in
    let may = leads.1 in
    let last : whole at_end.0 (record { next = leads.0; event = None; roots = r.roots; lines = r.lines }) ≡ Ok (record { next = leads.0; event = None; roots = r.roots; lines = r.lines }) = rw may refl in
    ap (λ ls. all_read beginning 1 ls >>= λ draft. Ok (of_draft draft)) (split ∙ sym (append-nil (map ended (record_lines r))))
    ∙ ap (λ x. x >>= λ draft. Ok (of_draft draft)) (at_end.1 ∙ last)

same_record : {E : Type 0} (x : Result Record E) (r s : Record) → x ≡ Ok r → x ≡ Ok s → r ≡ s
same_record x r s h k = cc

-- records with one text are one
pub text_is_of_one : (r s : Record) → HasText r → HasText s → record_text r ≡ record_text s → r ≡ s
text_is_of_one r s h k e = same_record (record_of (record_text r)) r s (text_is_read r h) (ap record_of e ∙ text_is_read s k)
