-- What is read as a record is what is written of it.
use Rattle.std.proofs.Common.{ℕ, ◌+◌, List, [], ◌∷◌, ◌++◌, Bool, true, false, cond, ◌≡◌, refl, sym, ap, subst, ◌∙◌, arith, append_assoc, Option, Some, None, Result, Ok, Err}
use Rattle.std.specs.Prelude.{codes, not, option_and_then}
use Rattle.std.specs.List.{flat_map}
use Rattle.std.specs.Option.{option_map}
use Rattle.std.proofs.lemmas.Bool.{and_parts, false≢true}
use Rattle.std.proofs.lemmas.Bool.Decides.{nat_tests}
use Rattle.std.proofs.lemmas.List.{append-nil}
use Rattle.std.proofs.lemmas.Option.{same_Some}
use Rattle.hmr_types.specs.Results.{◌>>=◌}
use Rattle.play_script.specs.Script.{Line, cut_line, is_line_end, lines_from}
use Rattle.play_script.specs.Texts.{spaced, spaced_number}
use Rattle.play_script.proofs.SpelledNames.{has_no_lf}
use Rattle.play_script.proofs.SpelledTexts.{are_lines, ended, lines_no_lf}
use Rattle.record_text.specs.declared.draft.Draft.{Draft}
use Rattle.record_text.specs.declared.record.Record.{Record}
use Rattle.record_text.specs.declared.record.RecordEvent.{RecordEvent}
use Rattle.record_text.specs.declared.record.RecordEvent.TheVariants as events
use Rattle.record_text.specs.declared.record.RecordLine.{RecordLine}
use Rattle.record_text.specs.declared.record.RecordLine.TheVariants as lines
use Rattle.record_text.specs.declared.said.Said.{Said}
use Rattle.record_text.specs.declared.said.Said.TheVariants as says
use Rattle.record_text.specs.Lines.{piece_of, said_of}
use Rattle.record_text.specs.Order.{has_text, may_stand}
use Rattle.record_text.specs.Reading.{all_read, beginning, line_read, of_draft, or_bad, entries, placed, record_of, with_piece, with_said}
use Rattle.record_text.specs.Texts.{event_text, line_text, named_line, record_text, reply_line, roots_text, rows_text, table_line, text_line, text_lines}
use Rattle.record_text.proofs.LineForms.{bare, event_line}
use Rattle.record_text.proofs.LinesBack.{Written, said_back}
use Rattle.record_text.proofs.Passing.{with_two}

-- ---- a text and its lines

other_byte : (b : ℕ) → not (is_line_end b) ≡ true → is_line_end b ≡ false
other_byte b h = grind (arith, nat_tests, h)

goes_on : (acc : List ℕ) (b : ℕ) (rest : List ℕ) → is_line_end b ≡ false → lines_from acc (b ∷ rest) ≡ lines_from (acc ++ b ∷ []) rest
goes_on acc b rest h = rw h refl

next_line : (xs acc rest : List ℕ) → has_no_lf xs ≡ true → lines_from acc (xs ++ 10 ∷ rest) ≡ ended (acc ++ xs) ∷ lines_from [] rest
next_line [] acc rest h = ap (λ line. ended line ∷ lines_from [] rest) (sym (append-nil acc))
next_line (x ∷ xs) acc rest h =
    let here = and_parts (not (is_line_end x)) (has_no_lf xs) h in
    goes_on acc x (xs ++ 10 ∷ rest) (other_byte x here.0) ∙ (next_line xs (acc ++ x ∷ []) rest here.1 ∙ ap (λ line. ended line ∷ lines_from [] rest) (append_assoc acc (x ∷ []) xs))

no_line : (xs acc : List ℕ) → has_no_lf xs ≡ true → lines_from acc xs ≡ cut_line (acc ++ xs)
no_line [] acc h = ap cut_line (sym (append-nil acc))
no_line (x ∷ xs) acc h =
    let here = and_parts (not (is_line_end x)) (has_no_lf xs) h in
    goes_on acc x xs (other_byte x here.0) ∙ (no_line xs (acc ++ x ∷ []) here.1 ∙ ap cut_line (append_assoc acc (x ∷ []) xs))

-- what lines are the lines of
abbrev line_end : Bool → List ℕ
line_end t = cond t (codes "\n") []

abbrev raw : List Line → List ℕ
raw [] = []
raw (l ∷ ls) = (l.bytes ++ line_end l.ended) ++ raw ls

raw_cut : (acc : List ℕ) → raw (cut_line acc) ≡ acc
raw_cut [] = refl
raw_cut (b ∷ bs) = append-nil ((b ∷ bs) ++ []) ∙ append-nil (b ∷ bs)

raw_at : (b : ℕ) (bs acc : List ℕ) (t : Bool) → is_line_end b ≡ t → ((next : List ℕ) → raw (lines_from next bs) ≡ next ++ bs)
    → raw (cond t (ended acc ∷ lines_from [] bs) (lines_from (acc ++ b ∷ []) bs)) ≡ acc ++ b ∷ bs
raw_at b bs acc true e below =
    let is : 10 ≡ b = grind (arith, nat_tests, e) in
    ap (λ x. (acc ++ codes "\n") ++ x) (below []) ∙ (append_assoc acc (codes "\n") bs ∙ ap (λ x. acc ++ x ∷ bs) is)
raw_at b bs acc false e below = below (acc ++ b ∷ []) ∙ append_assoc acc (b ∷ []) bs

raw_lines : (bs acc : List ℕ) → raw (lines_from acc bs) ≡ acc ++ bs
raw_lines [] acc = raw_cut acc ∙ sym (append-nil acc)
raw_lines (b ∷ bs) acc = raw_at b bs acc (is_line_end b) refl (raw_lines bs)

-- ---- the text of an event, piece by piece

piece_lines : (b p : List ℕ) → has_no_lf b ≡ true → text_lines (piece_of b ++ p) ≡ (codes "|" ++ b ++ codes "\n") ++ text_lines p
piece_lines b p h =
    ap (λ x. flat_map text_line (lines_from [] x)) (append_assoc b (codes "\n") p)
    ∙ ap (λ ls. flat_map text_line ls) (next_line b [] p h)

one_piece : (b : List ℕ) → has_no_lf b ≡ true → text_lines (piece_of b) ≡ codes "|" ++ b ++ codes "\n"
one_piece b h =
    ap text_lines (sym (append-nil (piece_of b))) ∙ (piece_lines b [] h ∙ append-nil (codes "|" ++ b ++ codes "\n"))

last_piece_lines : (b : ℕ) (bs : List ℕ) → has_no_lf (b ∷ bs) ≡ true → text_lines (b ∷ bs) ≡ codes "~" ++ (b ∷ bs) ++ codes "\n"
last_piece_lines b bs h = ap (λ ls. flat_map text_line ls) (no_line (b ∷ bs) [] h) ∙ append-nil (codes "~" ++ (b ∷ bs) ++ codes "\n")

-- a text that stands behind the event's own is written behind it
abbrev IsOpen : RecordEvent → Type 0
IsOpen e = (p : List ℕ) → event_text (with_piece p e) ≡ event_text e ++ text_lines p

edit_none : (name text : List ℕ) → events.Edit name [] ≡ events.Edit name text → [] ≡ text
edit_none name text h = cc

settle_none : (name text : List ℕ) (v : ℕ) → events.Settle name [] v ≡ events.Settle name text v → [] ≡ text
settle_none name text v h = cc

begun_open : (e : RecordEvent) → has_text e ≡ true → bare e ≡ e → IsOpen e
begun_open (events.Edit name text) h b = λ p.
    let none : [] ≡ text = edit_none name text b in
    subst (λ t. event_text (events.Edit name (t ++ p)) ≡ event_text (events.Edit name t) ++ text_lines p) none (ap (λ x. x ++ text_lines p) (sym (append-nil (named_line (codes "edit") name))))
begun_open (events.Settle name text v) h b = λ p.
    let none : [] ≡ text = settle_none name text v b in
    subst (λ t. event_text (events.Settle name (t ++ p) v) ≡ event_text (events.Settle name t v) ++ text_lines p) none
    (ap (λ x. x ++ text_lines p) (sym (append-nil (codes "settle" ++ spaced name ++ spaced_number v ++ codes "\n"))))
begun_open (events.Remove name) h b = absurd (false≢true h)
begun_open (events.Connect names) h b = absurd (false≢true h)
begun_open (events.Ask c) h b = absurd (false≢true h)
begun_open (events.Fetch c name) h b = absurd (false≢true h)
begun_open (events.Applied c t) h b = absurd (false≢true h)
begun_open (events.Aborted c) h b = absurd (false≢true h)
begun_open (events.Invalidate c name v) h b = absurd (false≢true h)
begun_open (events.Disconnect c) h b = absurd (false≢true h)

still_open : (e : RecordEvent) (b : List ℕ) → has_no_lf b ≡ true → IsOpen e → IsOpen (with_piece (piece_of b) e)
still_open e b h opened = λ p.
    ap event_text (with_two e (piece_of b) p)
    ∙ (opened (piece_of b ++ p)
    ∙ (ap (λ x. event_text e ++ x) (piece_lines b p h ∙ ap (λ x. x ++ text_lines p) (sym (one_piece b h)))
    ∙ (sym (append_assoc (event_text e) (text_lines (piece_of b)) (text_lines p)) ∙ ap (λ x. x ++ text_lines p) (sym (opened (piece_of b))))))

-- ---- the text of what was read so far

abbrev event_part : Option RecordEvent → List ℕ
event_part None = []
event_part (Some e) = event_text e

abbrev draft_text : Draft → List ℕ
draft_text d = (roots_text d.roots ++ flat_map line_text d.lines) ++ event_part d.event

-- what is known of a draft by what may come next
record IsKept (d : Draft) : Type 0 where
  alone : d.next.root ≡ true → (d.lines ≡ []) × (d.event ≡ None)
  done : d.next.event ≡ true → d.event ≡ None
  opened : d.next.text ≡ true → (e : RecordEvent) × (d.event ≡ Some e) × IsOpen e
  told : d.next.reply ≡ true → (e : RecordEvent) × (d.event ≡ Some e)
  rest : d.next.rest ≡ true → d.event ≡ None

abbrev Goes : Draft → Draft → List ℕ → Type 0
Goes d e line = IsKept e × (draft_text e ≡ draft_text d ++ (line ++ codes "\n"))

more_flat : {X : Type 0} (f : X → List ℕ) (xs : List X) (x : X) → flat_map f (xs ++ x ∷ []) ≡ flat_map f xs ++ f x
more_flat f [] x = append-nil (f x)
more_flat f (y ∷ ys) x = ap (λ z. f y ++ z) (more_flat f ys x) ∙ sym (append_assoc (f y) (flat_map f ys) (f x))

-- the line of an event without text is all that is written of it
bare_text : (e : RecordEvent) → bare e ≡ e → event_text e ≡ event_line e ++ codes "\n"
bare_text (events.Edit name text) b =
    subst (λ t. event_text (events.Edit name t) ≡ event_line (events.Edit name t) ++ codes "\n") (edit_none name text b) (append-nil (named_line (codes "edit") name))
bare_text (events.Settle name text v) b =
    subst (λ t. event_text (events.Settle name t v) ≡ event_line (events.Settle name t v) ++ codes "\n") (settle_none name text v b)
    (append-nil (codes "settle" ++ spaced name ++ spaced_number v ++ codes "\n"))
bare_text (events.Remove name) b = refl
bare_text (events.Connect names) b = refl
bare_text (events.Ask c) b = refl
bare_text (events.Fetch c name) b = refl
bare_text (events.Applied c t) b = refl
bare_text (events.Aborted c) b = refl
bare_text (events.Invalidate c name v) b = refl
bare_text (events.Disconnect c) b = refl

-- ---- one line more

root_plain : (roots : List (List ℕ)) (n : List ℕ) → (roots_text (roots ++ n ∷ []) ++ []) ++ [] ≡ ((roots_text roots ++ []) ++ []) ++ named_line (codes "root") n
root_plain roots n =
    let root = named_line (codes "root") n in
    append-nil (roots_text (roots ++ n ∷ []) ++ [])
    ∙ (append-nil (roots_text (roots ++ n ∷ []))
    ∙ (more_flat (named_line (codes "root")) roots n
    ∙ ap (λ x. x ++ root) (sym (append-nil (roots_text roots ++ []) ∙ append-nil (roots_text roots)))))

root_text : (roots : List (List ℕ)) (ls : List RecordLine) (o : Option RecordEvent) (n : List ℕ) → ls ≡ [] → o ≡ None
    → (roots_text (roots ++ n ∷ []) ++ flat_map line_text ls) ++ event_part o ≡ ((roots_text roots ++ flat_map line_text ls) ++ event_part o) ++ named_line (codes "root") n
root_text roots ls o n l e = rw (l, e) (root_plain roots n)

event_step : (a : List ℕ) (o : Option RecordEvent) (e : RecordEvent) (line : List ℕ) → o ≡ None → event_text e ≡ line ++ codes "\n" → a ++ event_text e ≡ (a ++ event_part o) ++ (line ++ codes "\n")
event_step a None e line n h = ap (λ x. a ++ x) h ∙ ap (λ x. x ++ (line ++ codes "\n")) (sym (append-nil a))
event_step a (Some x) e line n h = absurd (cc)

piece_step : (a : List ℕ) (o : Option RecordEvent) (e : RecordEvent) (p line : List ℕ) → o ≡ Some e → event_text (with_piece p e) ≡ event_text e ++ (line ++ codes "\n")
    → a ++ event_part (option_map (with_piece p) o) ≡ (a ++ event_part o) ++ (line ++ codes "\n")
piece_step a o e p line s h = rw s (ap (λ x. a ++ x) h ∙ sym (append_assoc a (event_text e) (line ++ codes "\n")))

reply_step : (r : List ℕ) (ls : List RecordLine) (o : Option RecordEvent) (e : RecordEvent) (reply : List ℕ) → o ≡ Some e
    → (r ++ flat_map line_text (ls ++ entries o reply)) ++ [] ≡ ((r ++ flat_map line_text ls) ++ event_part o) ++ reply_line reply
reply_step r ls o e reply s =
    let entry = lines.Entry e reply in
    rw s
    (append-nil (r ++ flat_map line_text (ls ++ entry ∷ []))
    ∙ (ap (λ x. r ++ x) (more_flat line_text ls entry)
    ∙ (sym (append_assoc r (flat_map line_text ls) (event_text e ++ reply_line reply))
    ∙ sym (append_assoc (r ++ flat_map line_text ls) (event_text e) (reply_line reply)))))

rest_step : (r : List ℕ) (ls : List RecordLine) (o : Option RecordEvent) (c : ℕ) (t : List (List ℕ × ℕ)) → o ≡ None
    → (r ++ flat_map line_text (ls ++ lines.Rest c t ∷ [])) ++ event_part o ≡ ((r ++ flat_map line_text ls) ++ event_part o) ++ table_line (codes "rest") c t
rest_step r ls o c t n =
    let line = lines.Rest c t in
    rw n
    (append-nil (r ++ flat_map line_text (ls ++ line ∷ []))
    ∙ (ap (λ x. r ++ x) (more_flat line_text ls line)
    ∙ (sym (append_assoc r (flat_map line_text ls) (line_text line))
    ∙ ap (λ x. x ++ line_text line) (sym (append-nil (r ++ flat_map line_text ls))))))

never : {A : Type 0} → false ≡ true → A
never h = absurd (false≢true h)

goes_root : (d : Draft) (n line : List ℕ) → IsKept d → d.next.root ≡ true → line ≡ codes "root" ++ spaced n → Goes d (with_said d (says.Root n)) line
goes_root d n line k may w =
    let first = k.alone may in (
      record {
        alone = λ h. first;
        done = λ h. first.1;
        opened = λ h. never h;
        told = λ h. never h;
        rest = λ h. never h;
      },
      root_text d.roots d.lines d.event n first.0 first.1 ∙ ap (λ x. draft_text d ++ (x ++ codes "\n")) (sym w),
    )

goes_event : (d : Draft) (e : RecordEvent) (line : List ℕ) → IsKept d → d.next.event ≡ true → line ≡ event_line e → bare e ≡ e → Goes d (with_said d (says.Event e)) line
goes_event d e line k may w b = (
  record {
    alone = λ h. never h;
    done = λ h. never h;
    opened = λ h. (e, refl, begun_open e h b);
    told = λ h. (e, refl);
    rest = λ h. never h;
  },
  event_step (roots_text d.roots ++ flat_map line_text d.lines) d.event e line (k.done may) (bare_text e b ∙ ap (λ x. x ++ codes "\n") (sym w)),
)

goes_text : (d : Draft) (p bytes line : List ℕ) → IsKept d → d.next.text ≡ true → has_no_lf bytes ≡ true → p ≡ piece_of bytes → line ≡ 124 ∷ bytes → Goes d (with_said d (says.Text p)) line
goes_text d p bytes line k may no_lf is w =
    let event = k.opened may in
    let e = event.0 in
    let grown : option_map (with_piece p) d.event ≡ Some (with_piece p e) = ap (option_map (with_piece p)) event.1 in
    let opened = subst (λ x. IsOpen (with_piece x e)) (sym is) (still_open e bytes no_lf event.2) in
    let written : text_lines p ≡ line ++ codes "\n" = ap text_lines is ∙ (one_piece bytes no_lf ∙ ap (λ x. x ++ codes "\n") (sym w)) in (
      record {
        alone = λ h. never h;
        done = λ h. never h;
        opened = λ h. (with_piece p e, grown, opened);
        told = λ h. (with_piece p e, grown);
        rest = λ h. never h;
      },
      piece_step (roots_text d.roots ++ flat_map line_text d.lines) d.event e p line event.1 (event.2 p ∙ ap (λ x. event_text e ++ x) written),
    )

goes_last : (d : Draft) (b : ℕ) (bs p line : List ℕ) → IsKept d → d.next.text ≡ true → has_no_lf (b ∷ bs) ≡ true → p ≡ b ∷ bs → line ≡ 126 ∷ p → Goes d (with_said d (says.Last p)) line
goes_last d b bs p line k may no_lf is w =
    let event = k.opened may in
    let e = event.0 in
    let grown : option_map (with_piece p) d.event ≡ Some (with_piece p e) = ap (option_map (with_piece p)) event.1 in
    let written : text_lines p ≡ line ++ codes "\n" =
    ap text_lines is ∙ (last_piece_lines b bs no_lf ∙ (ap (λ x. (126 ∷ x) ++ codes "\n") (sym is) ∙ ap (λ x. x ++ codes "\n") (sym w))) in (
      record {
        alone = λ h. never h;
        done = λ h. never h;
        opened = λ h. never h;
        told = λ h. (with_piece p e, grown);
        rest = λ h. never h;
      },
      piece_step (roots_text d.roots ++ flat_map line_text d.lines) d.event e p line event.1 (event.2 p ∙ ap (λ x. event_text e ++ x) written),
    )

goes_reply : (d : Draft) (r line : List ℕ) → IsKept d → d.next.reply ≡ true → line ≡ codes "= " ++ r → Goes d (with_said d (says.Reply r)) line
goes_reply d r line k may w =
    let event = k.told may in (
      record {
        alone = λ h. never h;
        done = λ h. refl;
        opened = λ h. never h;
        told = λ h. never h;
        rest = λ h. refl;
      },
      reply_step (roots_text d.roots) d.lines d.event event.0 r event.1 ∙ ap (λ x. draft_text d ++ (x ++ codes "\n")) (sym w),
    )

goes_rest : (d : Draft) (c : ℕ) (t : List (List ℕ × ℕ)) (line : List ℕ) → IsKept d → d.next.rest ≡ true → line ≡ codes "rest" ++ spaced_number c ++ rows_text t → Goes d (with_said d (says.Rest c t)) line
goes_rest d c t line k may w =
    let none = k.rest may in (
      record {
        alone = λ h. never h;
        done = λ h. none;
        opened = λ h. never h;
        told = λ h. never h;
        rest = λ h. never h;
      },
      rest_step (roots_text d.roots) d.lines d.event c t none ∙ ap (λ x. draft_text d ++ (x ++ codes "\n")) (sym w),
    )

goes : (d : Draft) (s : Said) (line : List ℕ) → IsKept d → has_no_lf line ≡ true → Written line s → may_stand s d.next ≡ true → Goes d (with_said d s) line
goes d (says.Root n) line k no_lf w may = goes_root d n line k may w.0
goes d (says.Event e) line k no_lf w may = goes_event d e line k may w.0 w.1
goes d (says.Text p) line k no_lf w may = goes_text d p w.0 line k may (subst (λ x. has_no_lf x ≡ true) w.2 no_lf) w.1 w.2
goes d (says.Last p) line k no_lf w may = goes_last d w.0 w.1 p line k may (subst (λ x. has_no_lf x ≡ true) w.2 (subst (λ x. has_no_lf x ≡ true) w.3 no_lf)) w.2 w.3
goes d (says.Reply r) line k no_lf w may = goes_reply d r line k may w.0
goes d (says.Rest c t) line k no_lf w may = goes_rest d c t line k may w.0

placed_at : (d e : Draft) (s : Said) (t : Bool) → may_stand s d.next ≡ t → cond t (Some (with_said d s)) None ≡ Some e → (may_stand s d.next ≡ true) × (with_said d s ≡ e)
placed_at d e s true h p = (h, same_Some (with_said d s) e p)
placed_at d e s false h p = absurd (cc)

said_goes : (d e : Draft) (line : List ℕ) (o : Option Said) → said_of line ≡ o → IsKept d → has_no_lf line ≡ true → option_and_then (placed d) o ≡ Some e → Goes d e line
said_goes d e line None h k no_lf p = absurd (cc)
said_goes d e line (Some s) h k no_lf p =
    let here = placed_at d e s (may_stand s d.next) refl p in
    subst (λ x. Goes d x line) here.1 (goes d s line k no_lf (said_back line s h) here.0)

-- a line is read only where LF ends it
line_goes : (d e : Draft) (l : Line) (t : Bool) → l.ended ≡ t → IsKept d → has_no_lf l.bytes ≡ true → line_read d l.bytes t ≡ Some e → IsKept e × (draft_text e ≡ draft_text d ++ (l.bytes ++ line_end l.ended))
line_goes d e l true h k no_lf r = let g = said_goes d e l.bytes (said_of l.bytes) refl k no_lf r in rw h g
line_goes d e l false h k no_lf r = absurd (cc)

-- ---- all lines

abbrev Ends : Draft → Draft → List Line → Type 0
Ends d e ls = (e.event ≡ None) × (draft_text e ≡ draft_text d ++ raw ls)

ends_at : (d e : Draft) (n : ℕ) (t : Bool) → d.next.event ≡ t → IsKept d → cond t (Ok d) (Err n) ≡ Ok e → Ends d e []
ends_at d e n true h k r = let same : d ≡ e = cc in subst (λ x. Ends d x []) same (k.done h, sym (append-nil (draft_text d)))
ends_at d e n false h k r = absurd (cc)

abbrev Below : List Line → ℕ → Draft → Type 0
Below ls n e = (d : Draft) → IsKept d → all_read d n ls ≡ Ok e → Ends d e ls

after_line : (l : Line) (ls : List Line) (n : ℕ) (d e : Draft) (o : Option Draft) → line_read d l.bytes l.ended ≡ o → has_no_lf l.bytes ≡ true → IsKept d → Below ls (n + 1) e
    → (or_bad n o >>= λ next. all_read next (n + 1) ls) ≡ Ok e → Ends d e (l ∷ ls)
after_line l ls n d e None h no_lf k below r = absurd (cc)
after_line l ls n d e (Some next) h no_lf k below r =
    let here = line_goes d next l l.ended refl k no_lf h in
    let rest = below next here.0 r in
    (rest.0, rest.1 ∙ (ap (λ x. x ++ raw ls) here.1 ∙ append_assoc (draft_text d) (l.bytes ++ line_end l.ended) (raw ls)))

all_go : (ls : List Line) (n : ℕ) (d e : Draft) → are_lines ls ≡ true → IsKept d → all_read d n ls ≡ Ok e → Ends d e ls
all_go [] n d e all k r = ends_at d e n d.next.event refl k r
all_go (l ∷ ls) n d e all k r =
    let here = and_parts (has_no_lf l.bytes) (are_lines ls) all in
    after_line l ls n d e (line_read d l.bytes l.ended) refl here.0 k (λ next kept read. all_go ls (n + 1) next e here.1 kept read) r

-- ---- the law

begins : IsKept beginning
begins = record {
  alone = λ h. (refl, refl);
  done = λ h. refl;
  opened = λ h. never h;
  told = λ h. never h;
  rest = λ h. refl;
}

of_end : (d : Draft) (text : List ℕ) → d.event ≡ None → draft_text d ≡ text → record_text (of_draft d) ≡ text
of_end d text none h = sym (append-nil (record_text (of_draft d))) ∙ (ap (λ o. record_text (of_draft d) ++ event_part o) (sym none) ∙ h)

read_end : (text : List ℕ) (r : Record) (x : Result Draft ℕ) → all_read beginning 1 (lines_from [] text) ≡ x → (x >>= λ draft. Ok (of_draft draft)) ≡ Ok r → record_text r ≡ text
read_end text r (Ok d) h e =
    let same : of_draft d ≡ r = cc in
    let ends = all_go (lines_from [] text) 1 beginning d (lines_no_lf text [] refl) begins h in
    subst (λ x. record_text x ≡ text) same (of_end d text ends.0 (ends.1 ∙ raw_lines text []))
read_end text r (Err n) h e = absurd (cc)

-- what is read as a record is the text of that record
pub read_is_text : (text : List ℕ) (r : Record) → record_of text ≡ Ok r → record_text r ≡ text
read_is_text text r h = read_end text r (all_read beginning 1 (lines_from [] text)) refl h
