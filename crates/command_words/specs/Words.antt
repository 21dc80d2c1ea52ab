-- Which words of the command line are a command, and which command they are.
use Rattle.std.specs.Prelude.{◌≡◌, ◌≤◌, ◌<◌, ◌^◌, ◌&&◌, ◌++◌, ℕ, pos, Bool, true, false, not, List}
use Rattle.std.specs.Prelude.{[], ◌∷◌, Option, Some, None, Result, Ok, Err, codes, if◌then◌else◌}
use Rattle.std.specs.Prelude.{option_and_then, option_map, unwrap_or}
use Rattle.std.specs.List.{list_all}
use Rattle.std.specs.Str.Parse.{digits_value, without_leading_plus}
use Rattle.clap.specs.Words.{App, Rule, Row, Text, new_rule, new_app, with_rule, fault_of, first_of}
use Rattle.clap.specs.Words.{all_of, one_of, one_text, matches_of, without_minus, IsSignedIn}
use Rattle.clap.specs.Simple.{on_top}
use Rattle.clap.specs.Kinds.{Kinds}
use Rattle.clap.specs.declared.parser.matches.Found.{Found}
use Rattle.clap.specs.declared.builder.action.ArgAction.TheVariants.{Append, Set, SetTrue}
use Rattle.clap.specs.declared.builder.value_parser.ValueParser.TheVariants as vp
use Rattle.hmr_types.specs.ModName.{is_name, is_text}
use Rattle.core_model.specs.Roots.{AreRoots, are_bad}
use Rattle.command_words.specs.declared.command.Command.{Command}
use Rattle.command_words.specs.declared.command.Command.TheVariants.{Play, Check, Make, Serve, Join, Page}
use Rattle.command_words.specs.declared.command.Command.TheVariants.{Record, Audit}
use Rattle.command_words.specs.declared.command.ServePlan.{ServePlan}
use Rattle.command_words.specs.declared.command.WordsFault.{WordsFault}
use Rattle.command_words.specs.declared.command.WordsFault.TheVariants.{NotACommand, NoMemory}

-- the line for words that are no command
abbrev pub usage_line : List ℕ
usage_line =
    codes "usage: hmr play | check NAME | make N SEED | serve FOLDER ROOT.. | join PORT [ROOT..] | page FOLDER"
    ++ codes " | record | audit\n"

-- a command without help and version, of whose words the first is no name of a program
abbrev pub bare : Text → App
bare name =
    on_top (λ s. record s {
      no_binary_name = true;
      disable_help_flag = true;
      disable_version_flag = true;
    }) (new_app name)

-- a word that has to stand there
abbrev pub wanted : Text → Rule
wanted id = record (new_rule id) { action = Some Set; required = true }

-- the name of a module
abbrev pub name_rule : Rule
name_rule = wanted (codes "NAME")

-- how many modules
abbrev pub count_rule : Rule
count_rule = record (wanted (codes "N")) { parser = Some (vp.Signed (pos 1) (pos 4096)) }

-- the seed
abbrev pub seed_rule : Rule
seed_rule = record (wanted (codes "SEED")) { parser = Some (vp.Signed (pos 0) (pos 2147483647)) }

-- a word that may come more than once
abbrev pub repeated : Text → Rule
repeated id = record (new_rule id) { action = Some Append }

-- an option that takes a number
abbrev pub numbered : Text → ℕ → ℕ → Rule
numbered id least most = record (new_rule id) {
  long = Some id;
  action = Some Set;
  parser = Some (vp.Signed (pos least) (pos most));
}

-- the folder of `serve` and `page`, the roots of `serve` and its options
abbrev pub folder_rule : Rule
folder_rule = wanted (codes "FOLDER")

abbrev pub roots_rule : Rule
roots_rule = record (repeated (codes "ROOT")) { required = true }

abbrev pub port_rule : Rule
port_rule = numbered (codes "port") 0 65535

abbrev pub clients_rule : Rule
clients_rule = numbered (codes "clients") 0 32

abbrev pub outside_rule : Rule
outside_rule = numbered (codes "outside") 0 32

abbrev pub turns_rule : Rule
turns_rule = numbered (codes "turns") 0 400000

abbrev pub workers_rule : Rule
workers_rule = numbered (codes "workers") 1 16

abbrev pub rounds_rule : Rule
rounds_rule = numbered (codes "rounds") 0 1000

-- an option that takes no word
abbrev pub flag : Text → Rule
flag id = record (new_rule id) { long = Some id; action = Some SetTrue }

abbrev pub edits_rule : Rule
edits_rule = flag (codes "edits")

abbrev pub record_rule : Rule
record_rule = flag (codes "record")

-- the port of `join`, and the roots of its page
abbrev pub join_port_rule : Rule
join_port_rule = record (wanted (codes "PORT")) { parser = Some (vp.Signed (pos 1) (pos 65535)) }

abbrev pub join_roots_rule : Rule
join_roots_rule = repeated (codes "ROOT")

-- the commands
abbrev pub play_app : App
play_app = bare (codes "play")

abbrev pub check_app : App
check_app = with_rule (bare (codes "check")) name_rule

abbrev pub make_app : App
make_app = with_rule (with_rule (bare (codes "make")) count_rule) seed_rule

abbrev pub with_rules : App → List Rule → App
with_rules app [] = app
with_rules app (rule ∷ rules) = with_rules (with_rule app rule) rules

abbrev pub serve_app : App
serve_app = with_rules (bare (codes "serve"))
    (folder_rule ∷ roots_rule ∷ port_rule ∷ clients_rule ∷ outside_rule ∷ turns_rule
    ∷ workers_rule ∷ rounds_rule ∷ edits_rule ∷ record_rule ∷ [])

abbrev pub join_app : App
join_app = with_rules (bare (codes "join")) (join_port_rule ∷ join_roots_rule ∷ turns_rule ∷ [])

abbrev pub page_app : App
page_app = with_rule (bare (codes "page")) folder_rule

abbrev pub record_app : App
record_app = bare (codes "record")

abbrev pub audit_app : App
audit_app = bare (codes "audit")

-- what is wrong with the words of a command, and what is found in them, by clap's meaning of a simple
-- command
unfoldable pub faults_of : App → List Text → Kinds
faults_of app words = fault_of app words

unfoldable pub found_in : App → List Text → List Row
found_in app words = matches_of app words

-- the word that was found for an argument
unfoldable pub word_of : Text → List Row → Option Text
word_of id rows = first_of id rows

-- the words that were found for an argument that may come more than once
unfoldable pub words_of : Text → List Row → Option (List Text)
words_of id rows = all_of id rows

-- a value, where nothing is wrong
abbrev pub unless : {X : Type 0} → Kinds → Option X → Option X
unless [] found = found
unless (k ∷ more) found = None

-- the command that checks the module of this name, where it is one
abbrev pub checking : Text → Option Command
checking name = if is_name name then Some (Check name) else None

-- the number that a word writes
abbrev pub number : Text → ℕ
number word = digits_value 10 (without_leading_plus word)

-- the number that was found for an argument
unfoldable pub number_of : Text → List Row → Option ℕ
number_of id rows = option_map number (one_of id rows)

-- the command that makes so many modules from a seed
abbrev pub making : Option ℕ → Option ℕ → Option Command
making (Some count) (Some seed) = Some (Make count seed)
making (Some count) None = None
making None seed = None

-- the number of an option, or the one that stands for it where it isn't there
abbrev pub number_or : ℕ → Text → List Row → ℕ
number_or standard id rows = unwrap_or (number_of id rows) standard

-- whether the word that was found for a flag says that it is there
abbrev pub says_true : Option Text → Bool
says_true (Some word) = is_text word (codes "true")
says_true None = false

abbrev pub flag_of : Text → List Row → Bool
flag_of id rows = says_true (word_of id rows)

-- the roots that words are: names, 16 at most, no two equal
abbrev pub roots_of : List Text → Option (List Text)
roots_of words = if list_all is_name words && not (are_bad words) then Some words else None

-- the roots that were found, one at least
abbrev pub some_roots : Option (List Text) → Option (List Text)
some_roots (Some (word ∷ words)) = roots_of (word ∷ words)
some_roots (Some []) = None
some_roots None = None

-- the roots that were found, where there are any
abbrev pub any_roots : Option (List Text) → Option (List Text)
any_roots (Some words) = roots_of words
any_roots None = Some []

-- the plan for a folder and roots, with the options that were found
abbrev pub plan_of : List Row → Text → List Text → ServePlan
plan_of rows folder roots = record {
  folder = folder;
  roots = roots;
  port = number_or 0 (codes "port") rows;
  clients = number_or 0 (codes "clients") rows;
  outside = number_or 0 (codes "outside") rows;
  turns = number_or 1000 (codes "turns") rows;
  workers = number_or 2 (codes "workers") rows;
  rounds = number_or 0 (codes "rounds") rows;
  edits = flag_of (codes "edits") rows;
  recorded = flag_of (codes "record") rows;
}

-- the command that serves a folder to pages with roots
abbrev pub serving : List Row → Option Text → Option (List Text) → Option Command
serving rows (Some folder) (Some roots) = Some (Serve (plan_of rows folder roots))
serving rows (Some folder) None = None
serving rows None roots = None

-- the command that joins a server
abbrev pub joining : List Row → Option ℕ → Option (List Text) → Option Command
joining rows (Some port) (Some roots) = Some (Join port roots (number_or 1000 (codes "turns") rows))
joining rows (Some port) None = None
joining rows None roots = None

-- the command that answers requests for the modules of a folder
abbrev pub paging : Option Text → Option Command
paging (Some folder) = Some (Page folder)
paging None = None

-- the command of the words behind each name
abbrev pub play_of : List Text → Option Command
play_of words = unless (faults_of play_app words) (Some Play)

abbrev pub check_of : List Text → Option Command
check_of words =
    let rows = found_in check_app words in
    unless (faults_of check_app words) (option_and_then checking (word_of (codes "NAME") rows))

abbrev pub make_of : List Text → Option Command
make_of words =
    let rows = found_in make_app words in
    unless (faults_of make_app words) (making (number_of (codes "N") rows) (number_of (codes "SEED") rows))

abbrev pub serve_of : List Text → Option Command
serve_of words =
    let rows = found_in serve_app words in
    unless (faults_of serve_app words)
    (serving rows (word_of (codes "FOLDER") rows) (some_roots (words_of (codes "ROOT") rows)))

abbrev pub join_of : List Text → Option Command
join_of words =
    let rows = found_in join_app words in
    unless (faults_of join_app words)
    (joining rows (number_of (codes "PORT") rows) (any_roots (words_of (codes "ROOT") rows)))

abbrev pub page_of : List Text → Option Command
page_of words =
    let rows = found_in page_app words in
    unless (faults_of page_app words) (paging (word_of (codes "FOLDER") rows))

abbrev pub record_of : List Text → Option Command
record_of words = unless (faults_of record_app words) (Some Record)

abbrev pub audit_of : List Text → Option Command
audit_of words = unless (faults_of audit_app words) (Some Audit)

-- the command of a name and the words behind it
abbrev pub named_command : Text → List Text → Option Command
named_command name words =
    if is_text name (codes "play") then play_of words
    else if is_text name (codes "check") then check_of words
    else if is_text name (codes "make") then make_of words
    else if is_text name (codes "serve") then serve_of words
    else if is_text name (codes "join") then join_of words
    else if is_text name (codes "page") then page_of words
    else if is_text name (codes "record") then record_of words
    else if is_text name (codes "audit") then audit_of words
    else None

-- the command that words are, where they are one
abbrev pub command_of : List Text → Option Command
command_of [] = None
command_of (name ∷ words) = named_command name words

-- the words are this command
abbrev pub IsCommand : List Text → Command → Type 0
IsCommand words command = command_of words ≡ Some command

-- the roots of a plan are those of a page, and its numbers lie in their ranges
pub record IsServable (plan : ServePlan) : Type 0 where
  pub roots : AreRoots plan.roots
  pub port : plan.port ≤ 65535
  pub clients : plan.clients ≤ 32
  pub outside : plan.outside ≤ 32
  pub turns : plan.turns ≤ 400000
  pub some_workers : 1 ≤ plan.workers
  pub few_workers : plan.workers ≤ 16
  pub rounds : plan.rounds ≤ 1000

-- the roots that a page names may be named, and the port and the turns lie in their ranges
pub record IsJoinable (at : ℕ) (names : List Text) (requests : ℕ) : Type 0 where
  pub some_port : 1 ≤ at
  pub port : at ≤ 65535
  pub roots : are_bad names ≡ false
  pub turns : requests ≤ 400000

-- the roots and the numbers of a command lie in their ranges
abbrev pub HasRanges : Command → Type 0
HasRanges Play = Unit {0}
HasRanges (Check name) = is_name name ≡ true
HasRanges (Make count seed) = (1 ≤ count) × (count ≤ 4096) × (seed < 2 ^ 31)
HasRanges (Serve plan) = IsServable plan
HasRanges (Join port roots turns) = IsJoinable port roots turns
HasRanges (Page folder) = Unit {0}
HasRanges Record = Unit {0}
HasRanges Audit = Unit {0}

-- the text that was found is that of a word which writes a number in a range
pub record Writes (least most : ℕ) (text : Text) : Type 0 where
  pub word : Text
  pub is : text ≡ without_minus word
  pub within : IsSignedIn (pos least) (pos most) word

-- where the argument of this id is there, it has a number in a range
abbrev pub IsWithin : ℕ → ℕ → Found → Text → Type 0
IsWithin least most found id = (text : Text) → one_text found id ≡ Some text → Writes least most text

-- and the range is one of numbers of so many bits
pub record Fits (bits : ℕ) (found : Found) (id : Text) : Type 0 where
  pub least : ℕ
  pub most : ℕ
  pub small : most < 2 ^ bits
  pub within : IsWithin least most found id

-- the numbers of each command
pub record HasMakeNumbers (found : Found) : Type 0 where
  pub count : IsWithin 1 4096 found (codes "N")
  pub seed : IsWithin 0 2147483647 found (codes "SEED")

pub record HasServeNumbers (found : Found) : Type 0 where
  pub port : IsWithin 0 65535 found (codes "port")
  pub clients : IsWithin 0 32 found (codes "clients")
  pub outside : IsWithin 0 32 found (codes "outside")
  pub turns : IsWithin 0 400000 found (codes "turns")
  pub workers : IsWithin 1 16 found (codes "workers")
  pub rounds : IsWithin 0 1000 found (codes "rounds")

pub record HasJoinNumbers (found : Found) : Type 0 where
  pub port : IsWithin 1 65535 found (codes "PORT")
  pub turns : IsWithin 0 400000 found (codes "turns")

-- the number lies between two
abbrev pub Between : ℕ → ℕ → ℕ → Type 0
Between least most n = (least ≤ n) × (n ≤ most)

-- what was read is what the words are, or memory ran out
abbrev pub Gives : {X : Type 0} → Result X WordsFault → Option X → Type 0
Gives (Ok x) meant = meant ≡ Some x
Gives (Err NotACommand) meant = meant ≡ None
Gives (Err NoMemory) meant = Unit {0}
