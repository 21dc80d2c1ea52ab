-- What the end of a command says of its words, its input and its output, by what was known before its line was written.
use Rattle.std.proofs.Common.{◌≡◌, ℕ, true, List, arith, refl, ◌∙◌, inl, inr}
use Rattle.std.specs.Prelude.{◌≤◌, Option, Some, None, IfErr, IfSome, OnOk, Result, Ok, Err}
use Prim.{⊥}
use Rattle.std.specs.Io.KnownBytes.{Appends, IsAtEnd, Keeps}
use Rattle.std.proofs.Math.Path.{subst}
use Rattle.hmr_base.specs.Causes.{Rose}
use Rattle.hmr_base.specs.Fronts.{WritesFront}
use Rattle.hmr_base.proofs.Fronts.{front_all}
use Rattle.command_ends.specs.Ends.{number}
use Rattle.command_words.specs.declared.command.Command.{Command}
use Rattle.command_words.specs.Words.{usage_line}
use Rattle.text_commands.specs.declared.stop.Stop.{Stop}
use Rattle.text_commands.specs.declared.stop.Stop.TheVariants.{NotACommand, TooLong, TextTooLong, RecordTooLong, Faulty, Unread, Unwritten, TranscriptFull, InstancesFull, NoMemory}
use Rattle.text_commands.specs.Ends.{EndsAtWords, EndsBefore, Finishes, IsSilent, StopsAt, last_of, status_of}
use Rattle.text_commands.specs.Outputs.{Output, whole}
use Rattle.text_commands.specs.Inputs.{reads_input}
use Rattle.text_commands.specs.Runs.{AnswersWords, IsComplete, ReadsInput, WritesOutput}
use Rattle.text_commands.proofs.Answering.{behind_by, front_by, whole_by}

abbrev End : Type 0
End = Result (Unit {0}) Stop

-- nothing is said of an output that isn't given
pub nothing_written : (a c : Option (List ℕ)) (before now status : ℕ) → WritesOutput None a c before now status
nothing_written a c before now status = record {
  front = tt;
  done = λ s. tt;
  played = λ s. tt;
  no_script = λ s. tt;
  fault_whole = λ s well. tt;
  limit = λ s. tt;
  limit_last = λ s. tt;
  limit_whole = λ s well. tt;
}

pub nothing_complete : (status : ℕ) → IsComplete None status
nothing_complete status = record { done = tt; faults = tt; limits = tt }

-- all of an output without a last line is written
writes_all : (o : Output) (a b c : Option (List ℕ)) (before now : ℕ) → Finishes o a b → b ≡ c
    → WritesOutput (Some o) a c before now 0
writes_all o a b c before now h same =
    let out = subst (λ x. Appends a x (whole o)) same h.out in
    record {
      front = front_all a c (whole o) out;
      done = λ s. out;
      played = λ s. h.status_is;
      no_script = λ s. absurd (omega (arith, s));
      fault_whole = λ s well. absurd (omega (arith, s));
      limit = λ s. absurd (omega (arith, s));
      limit_last = λ s. absurd (omega (arith, s));
      limit_whole = λ s well. absurd (omega (arith, s));
    }

-- the last line is written behind all before it
writes_last : (o : Output) (status : ℕ) (last : List ℕ) (a b c : Option (List ℕ)) (before between now : ℕ)
    → (status ≡ 0 → ⊥) → EndsBefore o status last a b → WritesFront b c last
    → ((Rose between now → ⊥) → Appends b c last) → before ≤ between
    → WritesOutput (Some o) a c before now status
writes_last o status last a b c before between now not_zero h front all later =
    let out : (Rose before now → ⊥) → Appends a c (whole o) =
    λ well. whole_by o status last a b c h (all (λ rose. well (omega (arith, rose, later)))) in
    record {
      front = front_by o status last a b c h front;
      done = λ s. absurd (not_zero s);
      played = λ s. absurd (not_zero s);
      no_script = λ s. h.status_is ∙ s;
      fault_whole = λ s well. out well;
      limit = λ s. h.status_is ∙ s;
      limit_last = λ s. behind_by o status last a b c h front;
      limit_whole = λ s well. out well;
    }

-- a front of the output is written, and the status says no more
writes_front : (o : Output) (status : ℕ) (a b c : Option (List ℕ)) (before now : ℕ)
    → (status ≡ 0 → ⊥) → (status ≡ 3 → ⊥) → (status ≡ 8 → ⊥) → WritesFront a b (whole o) → b ≡ c
    → WritesOutput (Some o) a c before now status
writes_front o status a b c before now zero three eight front same = record {
  front = subst (λ x. WritesFront a x (whole o)) same front;
  done = λ s. absurd (zero s);
  played = λ s. absurd (zero s);
  no_script = λ s. absurd (three s);
  fault_whole = λ s well. absurd (three s);
  limit = λ s. absurd (eight s);
  limit_last = λ s. absurd (eight s);
  limit_whole = λ s well. absurd (eight s);
}

output_by : (o : Output) (a b c : Option (List ℕ)) (before between now : ℕ) (ended : End)
    → OnOk ended (Finishes o a b) → WritesFront a b (whole o) → IfErr ended (StopsAt o a b)
    → WritesFront b c (last_of ended) → ((Rose between now → ⊥) → Appends b c (last_of ended))
    → (IsSilent ended → b ≡ c) → before ≤ between
    → WritesOutput (Some o) a c before now (number (status_of ended))
output_by o a b c before between now (Ok u) done front stops line all silent later =
    writes_all o a b c before now done (silent tt)
output_by o a b c before between now (Err NotACommand) done front stops line all silent later =
    writes_last o 2 _ a b c before between now (λ s. omega (arith, s)) stops line all later
output_by o a b c before between now (Err TooLong) done front stops line all silent later =
    writes_last o 8 _ a b c before between now (λ s. omega (arith, s)) stops line all later
output_by o a b c before between now (Err TextTooLong) done front stops line all silent later =
    writes_last o 8 _ a b c before between now (λ s. omega (arith, s)) stops line all later
output_by o a b c before between now (Err RecordTooLong) done front stops line all silent later =
    writes_last o 8 _ a b c before between now (λ s. omega (arith, s)) stops line all later
output_by o a b c before between now (Err (Faulty text)) done front stops line all silent later =
    writes_last o 3 _ a b c before between now (λ s. omega (arith, s)) stops line all later
output_by o a b c before between now (Err Unread) done front stops line all silent later =
    writes_front o 4 a b c before now (λ s. omega (arith, s)) (λ s. omega (arith, s)) (λ s. omega (arith, s)) front (silent tt)
output_by o a b c before between now (Err Unwritten) done front stops line all silent later =
    writes_front o 5 a b c before now (λ s. omega (arith, s)) (λ s. omega (arith, s)) (λ s. omega (arith, s)) front (silent tt)
output_by o a b c before between now (Err TranscriptFull) done front stops line all silent later =
    writes_last o 8 _ a b c before between now (λ s. omega (arith, s)) stops line all later
output_by o a b c before between now (Err InstancesFull) done front stops line all silent later =
    writes_last o 8 _ a b c before between now (λ s. omega (arith, s)) stops line all later
output_by o a b c before between now (Err NoMemory) done front stops line all silent later =
    writes_front o 9 a b c before now (λ s. omega (arith, s)) (λ s. omega (arith, s)) (λ s. omega (arith, s)) front (silent tt)

-- how much of the output is written at an end
pub writes_output : (told : Option Output) (a b c : Option (List ℕ)) (before between now : ℕ) (ended : End)
    → OnOk ended (IfSome told (λ o. Finishes o a b)) → IfSome told (λ o. WritesFront a b (whole o))
    → IfErr ended (λ stop. IfSome told (λ o. StopsAt o a b stop))
    → WritesFront b c (last_of ended) → ((Rose between now → ⊥) → Appends b c (last_of ended))
    → (IsSilent ended → b ≡ c) → before ≤ between
    → WritesOutput told a c before now (number (status_of ended))
writes_output None a b c before between now ended done front stops line all silent later =
    nothing_written a c before now (number (status_of ended))
writes_output (Some o) a b c before between now ended done front stops line all silent later =
    output_by o a b c before between now ended done front stops line all silent later

complete_by : (o : Output) (a b : Option (List ℕ)) (ended : End) → OnOk ended (Finishes o a b)
    → IfErr ended (StopsAt o a b) → IsComplete (Some o) (number (status_of ended))
complete_by o a b (Ok u) done stops = record {
  done = λ e. inl refl;
  faults = λ e. absurd (omega (arith, e, done.status_is));
  limits = λ e. absurd (omega (arith, e, done.status_is));
}
complete_by o a b (Err NotACommand) done stops = record {
  done = λ e. absurd (omega (arith, e, stops.status_is));
  faults = λ e. absurd (omega (arith, e, stops.status_is));
  limits = λ e. absurd (omega (arith, e, stops.status_is));
}
complete_by o a b (Err TooLong) done stops = record {
  done = λ e. absurd (omega (arith, e, stops.status_is));
  faults = λ e. absurd (omega (arith, e, stops.status_is));
  limits = λ e. inl refl;
}
complete_by o a b (Err TextTooLong) done stops = record {
  done = λ e. absurd (omega (arith, e, stops.status_is));
  faults = λ e. absurd (omega (arith, e, stops.status_is));
  limits = λ e. inl refl;
}
complete_by o a b (Err RecordTooLong) done stops = record {
  done = λ e. absurd (omega (arith, e, stops.status_is));
  faults = λ e. absurd (omega (arith, e, stops.status_is));
  limits = λ e. inl refl;
}
complete_by o a b (Err (Faulty text)) done stops = record {
  done = λ e. absurd (omega (arith, e, stops.status_is));
  faults = λ e. inl refl;
  limits = λ e. absurd (omega (arith, e, stops.status_is));
}
complete_by o a b (Err Unread) done stops = record {
  done = λ e. inr (inl refl);
  faults = λ e. inr (inl refl);
  limits = λ e. inr (inl refl);
}
complete_by o a b (Err Unwritten) done stops = record {
  done = λ e. inr (inr (inl refl));
  faults = λ e. absurd (stops.1 e);
  limits = λ e. inr (inr (inl refl));
}
complete_by o a b (Err TranscriptFull) done stops = record {
  done = λ e. absurd (omega (arith, e, stops.status_is));
  faults = λ e. absurd (omega (arith, e, stops.status_is));
  limits = λ e. inl refl;
}
complete_by o a b (Err InstancesFull) done stops = record {
  done = λ e. absurd (omega (arith, e, stops.status_is));
  faults = λ e. absurd (omega (arith, e, stops.status_is));
  limits = λ e. inl refl;
}
complete_by o a b (Err NoMemory) done stops = record {
  done = λ e. inr (inr (inr refl));
  faults = λ e. inr (inr refl);
  limits = λ e. inr (inr (inr refl));
}

-- which status an output has
pub is_complete : (told : Option Output) (a b : Option (List ℕ)) (ended : End)
    → OnOk ended (IfSome told (λ o. Finishes o a b))
    → IfErr ended (λ stop. IfSome told (λ o. StopsAt o a b stop)) → IsComplete told (number (status_of ended))
is_complete None a b ended done stops = nothing_complete (number (status_of ended))
is_complete (Some o) a b ended done stops = complete_by o a b ended done stops

-- the words are a command, or there is no memory for them
words_else : (command : Option Command) (status : ℕ) (a c : Option (List ℕ)) (before now : ℕ)
    → (status ≡ 2 → ⊥) → (command ≡ None → status ≡ 9) → AnswersWords command a c before now status
words_else command status a c before now never none = record {
  words = λ two. absurd (never two);
  no_command = λ is. inr (none is);
  usage = λ two. absurd (never two);
  usage_whole = λ two well. absurd (never two);
}

-- what an end says of the words
pub answers_words : (command : Option Command) (a b c : Option (List ℕ)) (before between now : ℕ) (ended : End)
    → (ended ≡ Err NotACommand → command ≡ None) → (command ≡ None → EndsAtWords ended)
    → (ended ≡ Err NotACommand → b ≡ a) → WritesFront b c (last_of ended)
    → ((Rose between now → ⊥) → Appends b c (last_of ended)) → before ≤ between
    → AnswersWords command a c before now (number (status_of ended))
answers_words command a b c before between now (Ok u) words none same line all later =
    words_else command 0 a c before now (λ s. omega (arith, s)) (λ is. absurd (none is))
answers_words command a b c before between now (Err NotACommand) words none same line all later = record {
  words = λ two. words refl;
  no_command = λ is. inl refl;
  usage = λ two. subst (λ x. WritesFront x c usage_line) (same refl) line;
  usage_whole = λ two well. subst (λ x. Appends x c usage_line) (same refl) (all (λ rose. well (omega (arith, rose, later))));
}
answers_words command a b c before between now (Err TooLong) words none same line all later =
    words_else command 8 a c before now (λ s. omega (arith, s)) (λ is. absurd (none is))
answers_words command a b c before between now (Err TextTooLong) words none same line all later =
    words_else command 8 a c before now (λ s. omega (arith, s)) (λ is. absurd (none is))
answers_words command a b c before between now (Err RecordTooLong) words none same line all later =
    words_else command 8 a c before now (λ s. omega (arith, s)) (λ is. absurd (none is))
answers_words command a b c before between now (Err (Faulty text)) words none same line all later =
    words_else command 3 a c before now (λ s. omega (arith, s)) (λ is. absurd (none is))
answers_words command a b c before between now (Err Unread) words none same line all later =
    words_else command 4 a c before now (λ s. omega (arith, s)) (λ is. absurd (none is))
answers_words command a b c before between now (Err Unwritten) words none same line all later =
    words_else command 5 a c before now (λ s. omega (arith, s)) (λ is. absurd (none is))
answers_words command a b c before between now (Err TranscriptFull) words none same line all later =
    words_else command 8 a c before now (λ s. omega (arith, s)) (λ is. absurd (none is))
answers_words command a b c before between now (Err InstancesFull) words none same line all later =
    words_else command 8 a c before now (λ s. omega (arith, s)) (λ is. absurd (none is))
answers_words command a b c before between now (Err NoMemory) words none same line all later =
    words_else command 9 a c before now (λ s. omega (arith, s)) (λ is. refl)

-- it isn't of the input
reads_else : (command : Option Command) (status : ℕ) (left : Option (List ℕ)) (before now : ℕ)
    (a c : Option (List ℕ)) → (status ≡ 4 → ⊥) → (status ≡ 0 → reads_input command ≡ true → IsAtEnd left)
    → ReadsInput command left before now a c status
reads_else command status left before now a c never end = record {
  end = end;
  unread = λ four. absurd (never four);
  unread_silent = λ four page. absurd (never four);
  unread_reads = λ four page. absurd (never four);
}

-- what an end says of the input
pub reads_input_so : (command : Option Command) (left : Option (List ℕ)) (before now : ℕ)
    (a b c : Option (List ℕ)) (ended : End)
    → OnOk ended (reads_input command ≡ true → IsAtEnd left) → (ended ≡ Err Unread → Rose before now)
    → (ended ≡ Err Unread → Keeps a b) → (ended ≡ Err Unread → reads_input command ≡ true)
    → (IsSilent ended → b ≡ c) → ReadsInput command left before now a c (number (status_of ended))
reads_input_so command left before now a b c (Ok u) end unread keeps reads silent =
    reads_else command 0 left before now a c (λ s. omega (arith, s)) (λ s. end)
reads_input_so command left before now a b c (Err NotACommand) end unread keeps reads silent =
    reads_else command 2 left before now a c (λ s. omega (arith, s)) (λ s. absurd (omega (arith, s)))
reads_input_so command left before now a b c (Err TooLong) end unread keeps reads silent =
    reads_else command 8 left before now a c (λ s. omega (arith, s)) (λ s. absurd (omega (arith, s)))
reads_input_so command left before now a b c (Err TextTooLong) end unread keeps reads silent =
    reads_else command 8 left before now a c (λ s. omega (arith, s)) (λ s. absurd (omega (arith, s)))
reads_input_so command left before now a b c (Err RecordTooLong) end unread keeps reads silent =
    reads_else command 8 left before now a c (λ s. omega (arith, s)) (λ s. absurd (omega (arith, s)))
reads_input_so command left before now a b c (Err (Faulty text)) end unread keeps reads silent =
    reads_else command 3 left before now a c (λ s. omega (arith, s)) (λ s. absurd (omega (arith, s)))
reads_input_so command left before now a b c (Err Unread) end unread keeps reads silent = record {
  end = λ s. absurd (omega (arith, s));
  unread = λ four. unread refl;
  unread_silent = λ four page. subst (Keeps a) (silent tt) (keeps refl);
  unread_reads = λ four page. reads refl;
}
reads_input_so command left before now a b c (Err Unwritten) end unread keeps reads silent =
    reads_else command 5 left before now a c (λ s. omega (arith, s)) (λ s. absurd (omega (arith, s)))
reads_input_so command left before now a b c (Err TranscriptFull) end unread keeps reads silent =
    reads_else command 8 left before now a c (λ s. omega (arith, s)) (λ s. absurd (omega (arith, s)))
reads_input_so command left before now a b c (Err InstancesFull) end unread keeps reads silent =
    reads_else command 8 left before now a c (λ s. omega (arith, s)) (λ s. absurd (omega (arith, s)))
reads_input_so command left before now a b c (Err NoMemory) end unread keeps reads silent =
    reads_else command 9 left before now a c (λ s. omega (arith, s)) (λ s. absurd (omega (arith, s)))
