-- The replies of the five questions and of the reading of typed text as numbers, and what a number tells.
-- refusal_number, reply_number: a refusal, a reply; bytes_number, list_number, right_number: answers; Room: what a number has room for; X_number, XTold: the reply to X, and the number of one that keeps its promise.
use Rattle.std.specs.Prelude.{◌≡◌, Bool, true, false, List, ℕ, ◌+◌, ◌-◌, ◌*◌, ◌^◌, ◌<◌, min, Option, Some, None, Result, Ok, Err}
use Rattle.refusals.specs.declared.Refusal.{Refusal}
use Rattle.refusals.specs.Numbers.{number_of}
use Rattle.building.specs.Promise.{MarksPromise}
use Rattle.equating.specs.Promise.{EquatePromise}
use Rattle.checking.specs.Promise.{CheckPromise}
use Rattle.reducing.specs.Promise.{ReducePromise}
use Rattle.running.specs.Promise.{RunPromise}
use Rattle.grammar.specs.Text.{TextReply}
use Rattle.typing.specs.Reply.{Refused, Written}

-- A refusal: its number, and its place below 2 ^ 32.
abbrev pub refusal_number : ℕ → ℕ → ℕ
refusal_number number place = number * 2 ^ 32 + place

-- A reply: a refusal, or the number of its answer.
abbrev pub reply_number : {A : Type 0} → (A → ℕ) → Result A Refusal → ℕ
reply_number answer (Err e) = refusal_number (number_of e.fault) e.place
reply_number answer (Ok a) = answer a

-- The places of refusals are below 2 ^ 32, and so are the numbers of answers.
abbrev pub Room : {A : Type 0} → (A → ℕ) → Result A Refusal → Type 0
Room answer (Err e) = e.place < 2 ^ 32
Room answer (Ok a) = answer a < 2 ^ 32

-- The answer that so many bytes are written.
abbrev pub bytes_number : ℕ → ℕ
bytes_number n = n + 1

-- The answer "no", or that a list of so many bytes is written.
abbrev pub list_number : Option ℕ → ℕ
list_number None = 0
list_number (Some n) = n + 1

-- The answer "right" or "wrong".
abbrev pub right_number : Bool → ℕ
right_number false = 0
right_number true = 1

-- Equating.
abbrev pub equate_number : Result (Option ℕ) Refusal → ℕ
equate_number reply = reply_number list_number reply

-- The number r is that of a reply that keeps the promise of equating.
abbrev pub EquateTold : List ℕ → ℕ → ℕ → List ℕ → ℕ → List ℕ → Type 0
EquateTold file a b before r after = (reply : Result (Option ℕ) Refusal) × EquatePromise file a b before reply after × (r ≡ equate_number reply)

-- Build marks.
abbrev pub marks_number : Result ℕ Refusal → ℕ
marks_number reply = reply_number bytes_number reply

-- The number r is that of a reply that keeps the promise of build marks.
abbrev pub MarksTold : List ℕ → List ℕ → ℕ → List ℕ → Type 0
MarksTold file before r after = (reply : Result ℕ Refusal) × MarksPromise file before reply after × (r ≡ marks_number reply)

-- Run.
abbrev pub run_number : Result (Option ℕ) Refusal → ℕ
run_number reply = reply_number list_number reply

-- The number r is that of a reply that keeps the promise of a run.
abbrev pub RunTold : List ℕ → List ℕ → ℕ → List ℕ → Type 0
RunTold file before r after = (reply : Result (Option ℕ) Refusal) × RunPromise file before reply after × (r ≡ run_number reply)

-- List check.
abbrev pub check_number : Result Bool Refusal → ℕ
check_number reply = reply_number right_number reply

-- The number r is that of a reply that keeps the promise of the list check.
abbrev pub CheckTold : List ℕ → List ℕ → ℕ → Type 0
CheckTold file list r = (reply : Result Bool Refusal) × CheckPromise file list reply × (r ≡ check_number reply)

-- Reducing.
abbrev pub reduce_number : Result ℕ Refusal → ℕ
reduce_number reply = reply_number bytes_number reply

-- The number r is that of a reply that keeps the promise of reducing.
abbrev pub ReduceTold : List ℕ → List ℕ → ℕ → List ℕ → Type 0
ReduceTold file before r after = (reply : Result ℕ Refusal) × ReducePromise file before reply after × (r ≡ reduce_number reply)

-- A place in a text as it is told: if it is 2 ^ 32 - 1 or more, as that.
abbrev pub told_place : ℕ → ℕ
told_place place = min place (2 ^ 32 - 1)

abbrev pub told_refusal : Refusal → Refusal
told_refusal e = record { fault = e.fault; place = told_place e.place }

-- Typed text.
abbrev pub text_number : Result ℕ Refusal → ℕ
text_number (Err e) = refusal_number (number_of e.fault) (told_place e.place)
text_number (Ok n) = n + 1

-- The number r is that of a reply that keeps the promise of typed text.
abbrev pub TextTold : List ℕ → List ℕ → ℕ → List ℕ → Type 0
TextTold text before r after = (reply : Result ℕ Refusal) × TextReply Refused Written text before reply after × (r ≡ text_number reply)
