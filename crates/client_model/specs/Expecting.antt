-- Which messages answer which request.
use Rattle.std.specs.Prelude.{ℕ, ◌==◌, ◌||◌, Bool, true, false, not}
use Rattle.update_msgs.specs.declared.message.ClientMsg.{ClientMsg}
use Rattle.update_msgs.specs.declared.message.ClientMsg.TheVariants as request_is
use Rattle.update_msgs.specs.declared.message.ServerMsg.{ServerMsg}
use Rattle.update_msgs.specs.declared.message.ServerMsg.TheVariants as msg
use Rattle.core_model.specs.Names.{Name, same_name}

-- a client number; or that there is none left, that this client has one, or that its roots are bad
abbrev pub answers_hello : ServerMsg → Bool
answers_hello (msg.Connected client roots) = true
answers_hello (msg.Update replaced updates batch triggered) = false
answers_hello (msg.Prune paths) = false
answers_hello (msg.FullReload cause path batch triggered) = false
answers_hello (msg.Error n row column word) = false
answers_hello (msg.Broken n row column word) = false
answers_hello msg.Idle = false
answers_hello msg.Done = false
answers_hello (msg.Text n v t) = false
answers_hello (msg.Missing n) = false
answers_hello (msg.NotYet n) = false
answers_hello (msg.Refused code n told kept) = code == 2 || (code == 3 || code == 7)

-- a page that isn't loaded has nothing to prune, to reload or to update, and a loaded one isn't connected
abbrev pub answers_ask : Bool → ServerMsg → Bool
answers_ask loaded (msg.Connected client roots) = not loaded
answers_ask loaded (msg.Update replaced updates batch triggered) = loaded
answers_ask loaded (msg.Prune paths) = loaded
answers_ask loaded (msg.FullReload cause path batch triggered) = loaded
answers_ask loaded (msg.Error n row column word) = true
answers_ask loaded (msg.Broken n row column word) = false
answers_ask loaded msg.Idle = true
answers_ask loaded msg.Done = false
answers_ask loaded (msg.Text n v t) = false
answers_ask loaded (msg.Missing n) = false
answers_ask loaded (msg.NotYet n) = false
answers_ask loaded (msg.Refused code n told kept) = false

-- each of them names the module that was asked for
abbrev pub answers_fetch : Name → ServerMsg → Bool
answers_fetch m (msg.Connected client roots) = false
answers_fetch m (msg.Update replaced updates batch triggered) = false
answers_fetch m (msg.Prune paths) = false
answers_fetch m (msg.FullReload cause path batch triggered) = false
answers_fetch m (msg.Error n row column word) = false
answers_fetch m (msg.Broken n row column word) = same_name m n
answers_fetch m msg.Idle = false
answers_fetch m msg.Done = false
answers_fetch m (msg.Text n v t) = same_name m n
answers_fetch m (msg.Missing n) = same_name m n
answers_fetch m (msg.NotYet n) = same_name m n
answers_fetch m (msg.Refused code n told kept) = false

-- `done`; or, where it may be refused, refused by that number
abbrev pub answers_told : (ℕ → Bool) → ServerMsg → Bool
answers_told may_be_refused (msg.Connected client roots) = false
answers_told may_be_refused (msg.Update replaced updates batch triggered) = false
answers_told may_be_refused (msg.Prune paths) = false
answers_told may_be_refused (msg.FullReload cause path batch triggered) = false
answers_told may_be_refused (msg.Error n row column word) = false
answers_told may_be_refused (msg.Broken n row column word) = false
answers_told may_be_refused msg.Idle = false
answers_told may_be_refused msg.Done = true
answers_told may_be_refused (msg.Text n v t) = false
answers_told may_be_refused (msg.Missing n) = false
answers_told may_be_refused (msg.NotYet n) = false
answers_told may_be_refused (msg.Refused code n told kept) = may_be_refused code

-- the message answers the request, of a page that is loaded or not
abbrev pub is_answer : Bool → ClientMsg → ServerMsg → Bool
is_answer loaded (request_is.Hello format roots) m = answers_hello m
is_answer loaded request_is.Ask m = answers_ask loaded m
is_answer loaded (request_is.Fetch n) m = answers_fetch n m
is_answer loaded (request_is.Applied table) m = answers_told (λ code. false) m
is_answer loaded (request_is.Aborted cause n from x) m = answers_told (λ code. false) m
is_answer loaded (request_is.Invalidate n v message) m = answers_told (λ code. code == 6) m
is_answer loaded request_is.Bye m = answers_told (λ code. false) m

-- the place of a request in the table of requests, from 1
abbrev pub request_place : ClientMsg → ℕ
request_place (request_is.Hello format roots) = 1
request_place request_is.Ask = 2
request_place (request_is.Fetch n) = 3
request_place (request_is.Applied table) = 4
request_place (request_is.Aborted cause n from x) = 5
request_place (request_is.Invalidate n v message) = 6
request_place request_is.Bye = 7

-- the place of an answer in the table of answers, from 1
abbrev pub answer_place : ServerMsg → ℕ
answer_place (msg.Connected client roots) = 1
answer_place (msg.Update replaced updates batch triggered) = 2
answer_place (msg.Prune paths) = 3
answer_place (msg.FullReload cause path batch triggered) = 4
answer_place (msg.Error n row column word) = 5
answer_place (msg.Broken n row column word) = 6
answer_place msg.Idle = 7
answer_place msg.Done = 8
answer_place (msg.Text n v t) = 9
answer_place (msg.Missing n) = 10
answer_place (msg.NotYet n) = 11
answer_place (msg.Refused code n told kept) = 12
