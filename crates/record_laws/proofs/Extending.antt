-- What is read goes on from a draft: its lines stay, the event whose reply is to come gets a reply, and behind
-- the first event the roots stay.
use Rattle.std.proofs.Common.{ℕ, ◌+◌, ◌≤◌, List, [], ◌∷◌, ◌++◌, Bool, true, false, ◌≡◌, refl, sym, ap, subst, ◌∙◌, arith, append_assoc, Option, Some, None, Result, Ok, Err}
use Rattle.std.specs.Prelude.{option_and_then, ⊤}
use Rattle.std.specs.Option.{option_map}
use Rattle.std.proofs.lemmas.Bool.{false≢true}
use Rattle.std.proofs.lemmas.List.{append-nil, length-append}
use Rattle.hmr_types.specs.Results.{◌>>=◌}
use Rattle.play_script.specs.Script.{Line}
use Rattle.core_model.specs.Transcript.{event_bytes}
use Rattle.record_text.specs.Lines.{said_of}
use Rattle.record_text.specs.Order.{may_stand}
use Rattle.record_text.specs.Reading.{all_read, entries, line_read, or_bad, placed, whole, with_piece, with_said}
use Rattle.record_text.specs.declared.draft.Draft.{Draft}
use Rattle.record_text.specs.declared.next.Next.{Next}
use Rattle.record_text.specs.declared.record.RecordEvent.{RecordEvent}
use Rattle.record_text.specs.declared.record.RecordEvent.TheVariants as events
use Rattle.record_text.specs.declared.record.RecordLine.{RecordLine}
use Rattle.record_text.specs.declared.record.RecordLine.TheVariants as lines
use Rattle.record_text.specs.declared.said.Said.{Said}
use Rattle.record_text.specs.declared.said.Said.TheVariants as says
use Rattle.record_laws.specs.Events.{event_in}

-- ---- an event with more of its text

abbrev pub bytes_of : RecordEvent → ℕ
bytes_of event = event_bytes (event_in event)

pub piece_grows : (piece : List ℕ) (event : RecordEvent) → bytes_of event ≤ bytes_of (with_piece piece event)
piece_grows piece (events.Edit name text) = let e = length-append text piece in omega arith
piece_grows piece (events.Remove name) = omega arith
piece_grows piece (events.Settle name text v) = let e = length-append text piece in omega arith
piece_grows piece (events.Connect names) = omega arith
piece_grows piece (events.Ask c) = omega arith
piece_grows piece (events.Fetch c name) = omega arith
piece_grows piece (events.Applied c t) = omega arith
piece_grows piece (events.Aborted c) = omega arith
piece_grows piece (events.Invalidate c name v) = omega arith
piece_grows piece (events.Disconnect c) = omega arith

-- ---- what a draft waits for

-- behind an event only its text and its reply may come
abbrev pub Waits : Option RecordEvent → Next → Type 0
Waits None next = ⊤
Waits (Some event) next = (next.root ≡ false) × (next.event ≡ false) × (next.rest ≡ false)

-- the lines go on so, where an event waits for its reply or none does
abbrev pub GoOn : Option RecordEvent → List RecordLine → List RecordLine → Type 0
GoOn None done ls = (tail : List RecordLine) × (ls ≡ done ++ tail)
GoOn (Some event) done ls =
    (whole : RecordEvent) × (reply : List ℕ) × (tail : List RecordLine) × (ls ≡ done ++ lines.Entry whole reply ∷ tail) × (bytes_of event ≤ bytes_of whole)

pub record Extends (d f : Draft) : Type 0 where
  pub on : GoOn d.event d.lines f.lines
  pub roots : d.next.root ≡ false → f.roots ≡ d.roots

-- a line that may stand keeps what is waited for
waits_on : (d : Draft) (s : Said) → Waits d.event d.next → may_stand s d.next ≡ true → Waits (with_said d s).event (with_said d s).next
waits_on d (says.Root name) w may = waits_root d.event d.next w may
  where
    waits_root : (o : Option RecordEvent) (next : Next) → Waits o next → next.root ≡ true → Waits o (record { root = true; event = true; text = false; reply = false; rest = false })
    waits_root None next w may = tt
    waits_root (Some e) next w may = absurd (false≢true (sym w.0 ∙ may))
waits_on d (says.Event event) w may = (refl, refl, refl)
waits_on d (says.Text piece) w may = waits_text d.event
  where
    waits_text : (o : Option RecordEvent) → Waits (option_map (with_piece piece) o) (record { root = false; event = false; text = true; reply = true; rest = false })
    waits_text None = tt
    waits_text (Some e) = (refl, refl, refl)
waits_on d (says.Last piece) w may = waits_last d.event
  where
    waits_last : (o : Option RecordEvent) → Waits (option_map (with_piece piece) o) (record { root = false; event = false; text = false; reply = true; rest = false })
    waits_last None = tt
    waits_last (Some e) = (refl, refl, refl)
waits_on d (says.Reply reply) w may = tt
waits_on d (says.Rest client table) w may = waits_rest d.event d.next w may
  where
    waits_rest : (o : Option RecordEvent) (next : Next) → Waits o next → next.rest ≡ true → Waits o (record { root = false; event = true; text = false; reply = false; rest = false })
    waits_rest None next w may = tt
    waits_rest (Some e) next w may = absurd (false≢true (sym w.2 ∙ may))

-- ---- one line

go_event : (o : Option RecordEvent) (next : Next) (event : RecordEvent) (done ls : List RecordLine) → Waits o next → next.event ≡ true → GoOn (Some event) done ls → GoOn o done ls
go_event None next event done ls w may g = (lines.Entry g.0 g.1 ∷ g.2, g.3)
go_event (Some e) next event done ls w may g = absurd (false≢true (sym w.1 ∙ may))

go_piece : (o : Option RecordEvent) (piece : List ℕ) (done ls : List RecordLine) → GoOn (option_map (with_piece piece) o) done ls → GoOn o done ls
go_piece None piece done ls g = g
go_piece (Some e) piece done ls g = let grows = piece_grows piece e in let most = g.4 in (g.0, g.1, g.2, g.3, omega arith)

go_reply : (o : Option RecordEvent) (reply : List ℕ) (done ls : List RecordLine) → GoOn None (done ++ entries o reply) ls → GoOn o done ls
go_reply None reply done ls g = (g.0, g.1 ∙ ap (λ xs. xs ++ g.0) (append-nil done))
go_reply (Some e) reply done ls g = (e, reply, g.0, g.1 ∙ append_assoc done (lines.Entry e reply ∷ []) g.0, omega arith)

go_rest : (o : Option RecordEvent) (next : Next) (client : ℕ) (table : List (List ℕ × ℕ)) (done ls : List RecordLine) → Waits o next → next.rest ≡ true → GoOn o (done ++ lines.Rest client table ∷ []) ls → GoOn o done ls
go_rest None next client table done ls w may g = (lines.Rest client table ∷ g.0, g.1 ∙ append_assoc done (lines.Rest client table ∷ []) g.0)
go_rest (Some e) next client table done ls w may g = absurd (false≢true (sym w.2 ∙ may))

before_line : (d f : Draft) (s : Said) → Waits d.event d.next → may_stand s d.next ≡ true → Extends (with_said d s) f → Extends d f
before_line d f (says.Root name) w may e = record { on = e.on; roots = λ no_root. absurd (false≢true (sym no_root ∙ may)) }
before_line d f (says.Event event) w may e = record { on = go_event d.event d.next event d.lines f.lines w may e.on; roots = λ no_root. e.roots refl }
before_line d f (says.Text piece) w may e = record { on = go_piece d.event piece d.lines f.lines e.on; roots = λ no_root. e.roots refl }
before_line d f (says.Last piece) w may e = record { on = go_piece d.event piece d.lines f.lines e.on; roots = λ no_root. e.roots refl }
before_line d f (says.Reply reply) w may e = record { on = go_reply d.event reply d.lines f.lines e.on; roots = λ no_root. e.roots refl }
before_line d f (says.Rest client table) w may e = record { on = go_rest d.event d.next client table d.lines f.lines w may e.on; roots = λ no_root. e.roots refl }

-- ---- all lines

-- a line says something that may stand, and the lines below are read behind it
pub record LineReads (d : Draft) (line : List ℕ) (ended : Bool) (next : Draft) : Type 0 where
  pub is_ended : ended ≡ true
  pub what : Said
  pub says : said_of line ≡ Some what
  pub may : may_stand what d.next ≡ true
  pub is : with_said d what ≡ next

some_placed : (d : Draft) (s : Said) (next : Draft) (b : Bool) → may_stand s d.next ≡ b → placed d s ≡ Some next → (may_stand s d.next ≡ true) × (with_said d s ≡ next)
some_placed d s next true e h = let is : Some (with_said d s) ≡ Some next = sym (rw e refl) ∙ h in (e, cc)
some_placed d s next false e h = let is : None ≡ Some next = sym (rw e refl) ∙ h in absurd (cc)

some_read : (d : Draft) (line : List ℕ) (next : Draft) (o : Option Said) → said_of line ≡ o → option_and_then (placed d) o ≡ Some next → LineReads d line true next
some_read d line next None e h = absurd (cc)
some_read d line next (Some s) e h = let p = some_placed d s next (may_stand s d.next) refl h in record { is_ended = refl; what = s; says = e; may = p.0; is = p.1 }

pub line_reads : (d : Draft) (line : List ℕ) (ended : Bool) (next : Draft) → line_read d line ended ≡ Some next → LineReads d line ended next
line_reads d line true next h = some_read d line next (said_of line) refl h
line_reads d line false next h = absurd (cc)

-- all lines are read: the first, and those below
pub record AllReads (d : Draft) (n : ℕ) (line : Line) (more : List Line) (f : Draft) : Type 0 where
  pub next : Draft
  pub first : LineReads d line.bytes line.ended next
  pub below : all_read next (n + 1) more ≡ Ok f

all_from : (d : Draft) (n : ℕ) (line : Line) (more : List Line) (f : Draft) (o : Option Draft) → line_read d line.bytes line.ended ≡ o → (or_bad n o >>= λ next. all_read next (n + 1) more) ≡ Ok f → AllReads d n line more f
all_from d n line more f None e h = absurd (cc)
all_from d n line more f (Some next) e h = record { next = next; first = line_reads d line.bytes line.ended next e; below = h }

pub all_reads : (d : Draft) (n : ℕ) (line : Line) (more : List Line) (f : Draft) → all_read d n (line ∷ more) ≡ Ok f → AllReads d n line more f
all_reads d n line more f h = all_from d n line more f (line_read d line.bytes line.ended) refl h

abbrev ok_of : Draft → Result Draft ℕ
ok_of d = Ok d

abbrev err_of : ℕ → Result Draft ℕ
err_of n = Err n

pub record EndReads (d f : Draft) : Type 0 where
  pub may : d.next.event ≡ true
  pub is : d ≡ f

pub end_reads : (d : Draft) (n : ℕ) (f : Draft) (b : Bool) → d.next.event ≡ b → whole n d ≡ Ok f → EndReads d f
end_reads d n f true e h = let is : ok_of d ≡ Ok f = sym (rw e refl) ∙ h in record { may = e; is = cc }
end_reads d n f false e h = let is : err_of n ≡ Ok f = sym (rw e refl) ∙ h in absurd (cc)

go_end : (o : Option RecordEvent) (next : Next) (done : List RecordLine) → Waits o next → next.event ≡ true → GoOn o done done
go_end None next done w may = ([], sym (append-nil done))
go_end (Some e) next done w may = absurd (false≢true (sym w.1 ∙ may))

at_last : (d f : Draft) → Waits d.event d.next → EndReads d f → Extends d f
at_last d f w e = subst (λ x. Extends d x) e.is (record { on = go_end d.event d.next d.lines w e.may; roots = λ no_root. refl })

pub waits_behind : (d next : Draft) (line : List ℕ) (ended : Bool) → Waits d.event d.next → LineReads d line ended next → Waits next.event next.next
waits_behind d next line ended w r = subst (λ (x : Draft). Waits x.event x.next) r.is (waits_on d r.what w r.may)

-- what all lines make of a draft extends it
pub extends : (d : Draft) (n : ℕ) (ls : List Line) (f : Draft) → Waits d.event d.next → all_read d n ls ≡ Ok f → Extends d f
extends d n [] f w h = at_last d f w (end_reads d n f d.next.event refl h)
extends d n (line ∷ more) f w h =
    let r = all_reads d n line more f h in
    let below = extends r.next (n + 1) more f (waits_behind d r.next line.bytes line.ended w r.first) r.below in
    before_line d f r.first.what w r.first.may (subst (λ x. Extends x f) (sym r.first.is) below)
