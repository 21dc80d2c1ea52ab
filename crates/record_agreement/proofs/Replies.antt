-- The text of what a core answers has the form of a reply, on one line.
use Rattle.std.proofs.Common.{◌≡◌, ℕ, ◌+◌, ◌%◌, ◌^◌, ◌<◌, ◌≤◌, List, [], ◌∷◌, ◌++◌, true, false, refl, ap, ◌∙◌, arith, append_assoc}
use Rattle.std.specs.Prelude.{◌==◌, codes, decimal}
use Rattle.std.specs.List.{All, list_all}
use Rattle.std.proofs.lemmas.Bool.{and_from, and_parts}
use Rattle.std.proofs.lemmas.Bool.Decides.{nat_tests}
use Rattle.std.proofs.lemmas.Fmt.{decimal_by_steps}
use Rattle.std.proofs.lemmas.List.Elements.{All-append, All-cons}
use Rattle.std.proofs.lemmas.List.Folds.{list_all-append}
use Rattle.std.proofs.lemmas.List.Splits.{slice_split_at, slice_split_none}
use Rattle.hmr_types.specs.declared.limits.TheConstants.{LARGEST_CLIENT, LARGEST_NUMBER}
use Rattle.hmr_types.specs.declared.analysis.FaultWord.{FaultWord}
use Rattle.hmr_types.specs.declared.analysis.FaultWord.TheVariants as faults
use Rattle.hmr_types.specs.declared.analysis.TextFault.{TextFault}
use Rattle.hmr_types.specs.declared.words.EditRefusal.{EditRefusal}
use Rattle.hmr_types.specs.declared.words.EditRefusal.TheVariants as edit_refusals
use Rattle.core_model.specs.Exchange.{refusal_message}
use Rattle.core_model.specs.Requests.{Reply, edited, settled, to_client, refused, gone}
use Rattle.core_model.specs.Sources.{EditAnswer, job, same, removed, edit_refused, ResultAnswer, serve, refuse, late}
use Rattle.core_laws.specs.Ranges.{IsWritableReply}
use Rattle.play_script.specs.Script.{is_digit, words}
use Rattle.play_script.proofs.SpelledNames.{has_no_lf}
use Rattle.play_script.proofs.SpelledNumbers.{has_no_lf-decimal, no_space-decimal}
use Rattle.play_text.specs.Lines.{text_fault}
use Rattle.word_texts.specs.Words.{fault_word, refusal_word}
use Rattle.events_and_replies.specs.Said.{said}
use Rattle.record_text.specs.Fit.{is_one_line}
use Rattle.record_text.specs.Numbers.{largest_count}
use Rattle.record_text.specs.Replies.{is_fault_word, is_line_column, is_reply, is_word_reply, place_parts}
use Rattle.record_text.specs.Told.{counted_text, refused_text, reply_text}
use Rattle.record_text.proofs.Counts.{count_of-decimal}
use Rattle.record_laws.specs.Answers.{reply_told}
use Rattle.record_agreement.proofs.Bytes.{no_lf_both}
use Rattle.record_agreement.proofs.Messages.{message_line, message_reply}
use Rattle.record_agreement.proofs.Named.{ReplyNamed}
use Rattle.record_agreement.proofs.Places.{EditFits, ResultFits}

-- ---- digits

one_digit : (n : ℕ) → n < 10 → list_all is_digit ((48 + n) ∷ []) ≡ true
one_digit n h = grind (arith, nat_tests)

more_digits : (n : ℕ) (ds : List ℕ) → 10 ≤ n → list_all is_digit ds ≡ true → list_all is_digit (ds ++ ((48 + n % 10) ∷ [])) ≡ true
more_digits n ds h w =
    let last : is_digit (48 + n % 10) ≡ true = grind (arith, nat_tests) in
    list_all-append is_digit ds ((48 + n % 10) ∷ []) ∙ and_from _ _ w (and_from _ _ last refl)

all_digits : (n : ℕ) → n < 2 ^ 64 → list_all is_digit (decimal n) ≡ true
all_digits = decimal_by_steps (λ n ds. list_all is_digit ds ≡ true) one_digit more_digits

no_colon : (ds : List ℕ) → list_all is_digit ds ≡ true → All (λ b. (b == 58) ≡ false) ds
no_colon [] h = λ k d lt. absurd (omega arith)
no_colon (b ∷ bs) h =
    let here = and_parts (is_digit b) (list_all is_digit bs) h in
    All-cons (λ x. (x == 58) ≡ false) b bs (grind (arith, nat_tests)) (no_colon bs here.1)

alone : (w : List ℕ) → All (λ b. (b == 32) ≡ false) w → words w ≡ w ∷ []
alone w h = slice_split_none (λ b. b == 32) w h

-- ---- replies of words

abbrev Form : List ℕ → Type 0
Form text = (is_reply text ≡ true) × (is_one_line text ≡ true)

job_form : (v : ℕ) → v ≤ LARGEST_NUMBER → Form (counted_text (codes "job") v)
unfolding is_reply
job_form v h =
    let counted = count_of-decimal largest_count v (omega arith) (omega (arith, h)) in
    let last : is_word_reply (codes "job" ∷ decimal v ∷ []) ≡ true = rw counted refl in
    (ap (λ ws. is_word_reply (codes "job" ∷ ws)) (alone (decimal v) (no_space-decimal v (omega (arith, h)))) ∙ last, has_no_lf-decimal v (omega (arith, h)))

removed_form : (v : ℕ) → v ≤ LARGEST_NUMBER → Form (counted_text (codes "removed") v)
unfolding is_reply
removed_form v h =
    let counted = count_of-decimal largest_count v (omega arith) (omega (arith, h)) in
    let last : is_word_reply (codes "removed" ∷ decimal v ∷ []) ≡ true = rw counted refl in
    (ap (λ ws. is_word_reply (codes "removed" ∷ ws)) (alone (decimal v) (no_space-decimal v (omega (arith, h)))) ∙ last, has_no_lf-decimal v (omega (arith, h)))

refusal_form : (w : EditRefusal) → Form (refusal_word w)
unfolding is_reply
refusal_form edit_refusals.TextTooLong = (refl, refl)
refusal_form edit_refusals.TooManyNames = (refl, refl)
refusal_form edit_refusals.SourceTotal = (refl, refl)
refusal_form edit_refusals.NumbersSpent = (refl, refl)

pub record KindForm (w : List ℕ) : Type 0 where
  pub alone : words w ≡ w ∷ []
  pub known : is_fault_word w ≡ true
  pub line : has_no_lf w ≡ true

kind_form : (w : FaultWord) → KindForm (fault_word w)
kind_form faults.BadByte = record { alone = refl; known = refl; line = refl }
kind_form faults.OpenString = record { alone = refl; known = refl; line = refl }
kind_form faults.OpenComment = record { alone = refl; known = refl; line = refl }
kind_form faults.BadEscape = record { alone = refl; known = refl; line = refl }
kind_form faults.NumberTooLarge = record { alone = refl; known = refl; line = refl }
kind_form faults.TooManyTokens = record { alone = refl; known = refl; line = refl }
kind_form faults.Unexpected = record { alone = refl; known = refl; line = refl }
kind_form faults.TooDeep = record { alone = refl; known = refl; line = refl }
kind_form faults.DuplicateName = record { alone = refl; known = refl; line = refl }
kind_form faults.NotUtf8 = record { alone = refl; known = refl; line = refl }
kind_form faults.NotAssignable = record { alone = refl; known = refl; line = refl }
kind_form faults.SpecifierBare = record { alone = refl; known = refl; line = refl }
kind_form faults.SpecifierClimbs = record { alone = refl; known = refl; line = refl }
kind_form faults.SpecifierEmpty = record { alone = refl; known = refl; line = refl }
kind_form faults.SpecifierTooLong = record { alone = refl; known = refl; line = refl }
kind_form faults.SpecifierBadSegment = record { alone = refl; known = refl; line = refl }
kind_form faults.TooManyImports = record { alone = refl; known = refl; line = refl }

module _ (f : TextFault) (row : f.line ≤ LARGEST_CLIENT) (place : f.col ≤ LARGEST_CLIENT) where
  abbrev place_text : List ℕ
  place_text = decimal f.line ++ 58 ∷ decimal f.col

  place_words : words (place_text ++ 32 ∷ fault_word f.word) ≡ place_text ∷ fault_word f.word ∷ []
  place_words =
      slice_split_at (λ b. b == 32) place_text 32 (fault_word f.word)
      (All-append (λ b. (b == 32) ≡ false) (decimal f.line) (58 ∷ decimal f.col) (no_space-decimal f.line (omega (arith, row)))
      (All-cons (λ b. (b == 32) ≡ false) 58 (decimal f.col) refl (no_space-decimal f.col (omega (arith, place))))) refl
      ∙ ap (λ ws. place_text ∷ ws) (kind_form f.word).alone

  place_columns : place_parts place_text ≡ decimal f.line ∷ decimal f.col ∷ []
  place_columns =
      slice_split_at (λ b. b == 58) (decimal f.line) 58 (decimal f.col) (no_colon (decimal f.line) (all_digits f.line (omega (arith, row)))) refl
      ∙ ap (λ ws. decimal f.line ∷ ws) (slice_split_none (λ b. b == 58) (decimal f.col) (no_colon (decimal f.col) (all_digits f.col (omega (arith, place)))))

  columns_are : is_line_column (place_parts place_text) ≡ true
  columns_are =
      let line = count_of-decimal LARGEST_CLIENT f.line (omega arith) row in
      let column = count_of-decimal LARGEST_CLIENT f.col (omega arith) place in
      let both : is_line_column (decimal f.line ∷ decimal f.col ∷ []) ≡ true = rw (line, column) refl in
      ap is_line_column place_columns ∙ both

  abbrev whole : List ℕ
  whole = place_text ++ 32 ∷ fault_word f.word

  fault_text : text_fault f ≡ whole
  fault_text = ap (λ t. t ++ 32 ∷ fault_word f.word) (append_assoc (decimal f.line) (58 ∷ []) (decimal f.col))

  whole_reply : is_reply (codes "refused " ++ whole) ≡ true
  unfolding is_reply
  whole_reply =
      let columns = columns_are in
      let known = (kind_form f.word).known in
      let last : is_word_reply (codes "refused" ∷ place_text ∷ fault_word f.word ∷ []) ≡ true = and_from _ _ columns known in
      ap (λ ws. is_word_reply (codes "refused" ∷ ws)) place_words ∙ last

  whole_line : has_no_lf (codes "refused " ++ whole) ≡ true
  whole_line =
      no_lf_both place_text (32 ∷ fault_word f.word)
      (no_lf_both (decimal f.line) (58 ∷ decimal f.col) (has_no_lf-decimal f.line (omega (arith, row))) (has_no_lf-decimal f.col (omega (arith, place))))
      (kind_form f.word).line

  refused_form : Form (refused_text f)
  refused_form = (
    ap (λ t. is_reply (codes "refused " ++ t)) fault_text ∙ whole_reply,
    ap (λ t. has_no_lf (codes "refused " ++ t)) fault_text ∙ whole_line,
  )

-- ---- every reply

abbrev pub text_of : Reply → List ℕ
text_of r = reply_text (reply_told (said r))

edit_form : (a : EditAnswer) → EditFits a → Form (text_of (edited a))
unfolding is_reply
edit_form (job v) h = job_form v h
edit_form same h = (refl, refl)
edit_form (removed v) h = removed_form v h
edit_form (edit_refused w) h = refusal_form w

result_form : (a : ResultAnswer) → ResultFits a → Form (text_of (settled a))
unfolding is_reply
result_form (serve a) h = (refl, refl)
result_form (refuse f) h = refused_form f h.0 h.1
result_form late h = (refl, refl)

-- what is answered so can stand in a record
pub reply_form : (r : Reply) → ReplyNamed r → IsWritableReply r → Form (text_of r)
unfolding is_reply
reply_form (edited a) n w = edit_form a n
reply_form (settled a) n w = result_form a n
reply_form (to_client m) n w = (message_reply m n (w 2), message_line m n (w 2))
reply_form (refused r) n w = (message_reply (refusal_message r) n (w 2), message_line (refusal_message r) n (w 2))
reply_form gone n w = (refl, refl)
