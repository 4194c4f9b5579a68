-- The main theorems of the exported face: a number tells its reply, two numbers for one input are equal, and the list check calls a run's list right.
use mathlib.Core.Path.{◌≡◌, sym, ◌∙◌, ap}
use mathlib.Core.Logic.{◌⊎◌}
use mathlib.Core.List.{List}
use Prim.Native.Nat.{ℕ, ◌-◌, ◌^◌, ◌≤◌, ◌<◌}
use lib.ListN.{length, take}
use Rattle.model.specs.Replies.{EquatedBy, RightListed, SameButList}
use Rattle.building.specs.Promise.{MarksPromise}
use Rattle.building.proofs.Theorems.{build_marks_settled}
use Rattle.equating.specs.Promise.{EquatePromise}
use Rattle.equating.proofs.Theorems.{equate_settled}
use Rattle.checking.specs.Promise.{CheckPromise}
use Rattle.checking.proofs.Theorems.{check_settled}
use Rattle.reducing.specs.Promise.{ReducePromise}
use Rattle.reducing.proofs.Theorems.{reduce_settled}
use Rattle.running.specs.Promise.{RunPromise}
use Rattle.running.proofs.Theorems.{run_settled}
use Rattle.grammar.specs.Text.{TextReply}
use Rattle.grammar.proofs.Theorems.{reply_settled}
use Rattle.std.specs.Prelude.{Bool, true, Option, Some, Result, Ok}
use Rattle.refusals.specs.declared.Refusal.{Refusal}
use Rattle.typing.specs.Reply.{Refused, Written}
use Rattle.prismfleece.specs.Numbers.{bytes_number, list_number, right_number, equate_number, EquateTold, run_number, RunTold, check_number, CheckTold, marks_number, MarksTold, reduce_number, ReduceTold, text_number, TextTold}
use Rattle.prismfleece.proofs.Told.{tells, bytes_one, list_one, right_one}
use Rattle.prismfleece.proofs.EquateLaws.{equate_fits}
use Rattle.prismfleece.proofs.RunLaws.{run_fits, shown_checked}
use Rattle.prismfleece.proofs.CheckLaws.{check_fits}
use Rattle.prismfleece.proofs.MarksLaws.{marks_fits}
use Rattle.prismfleece.proofs.ReduceLaws.{reduce_fits}
use Rattle.prismfleece.proofs.TextLaws.{text_tells, text_exact}

-- ---- a number tells its reply: replies to whatever inputs that have one number are one

pub equate_number_one : {file file' : List ℕ} {a a' b b' : ℕ} {before before' after after' : List ℕ} {r r' : Result (Option ℕ) Refusal} →
    EquatePromise file a b before r after → EquatePromise file' a' b' before' r' after' → equate_number r ≡ equate_number r' → r ≡ r'
equate_number_one {r = r} {r' = r'} p p' = tells list_number list_one r r' (equate_fits _ _ _ _ r _ p) (equate_fits _ _ _ _ r' _ p')

pub run_number_one : {file file' before before' after after' : List ℕ} {r r' : Result (Option ℕ) Refusal} → RunPromise file before r after → RunPromise file' before' r' after' → run_number r ≡ run_number r' → r ≡ r'
run_number_one {r = r} {r' = r'} p p' = tells list_number list_one r r' (run_fits _ _ r _ p) (run_fits _ _ r' _ p')

pub check_number_one : {file file' list list' : List ℕ} {r r' : Result Bool Refusal} → CheckPromise file list r → CheckPromise file' list' r' → check_number r ≡ check_number r' → r ≡ r'
check_number_one {r = r} {r' = r'} p p' = tells right_number right_one r r' (check_fits _ _ r p) (check_fits _ _ r' p')

pub marks_number_one : {file file' before before' after after' : List ℕ} {r r' : Result ℕ Refusal} → MarksPromise file before r after → MarksPromise file' before' r' after' → marks_number r ≡ marks_number r' → r ≡ r'
marks_number_one {r = r} {r' = r'} p p' = tells bytes_number bytes_one r r' (marks_fits _ _ r _ p) (marks_fits _ _ r' _ p')

pub reduce_number_one : {file file' before before' after after' : List ℕ} {r r' : Result ℕ Refusal} → ReducePromise file before r after → ReducePromise file' before' r' after' → reduce_number r ≡ reduce_number r' → r ≡ r'
reduce_number_one {r = r} {r' = r'} p p' = tells bytes_number bytes_one r r' (reduce_fits _ _ r _ p) (reduce_fits _ _ r' _ p')

-- Of a typed text but for places of 2 ^ 32 - 1 or more,
pub text_number_one : {text text' before before' after after' : List ℕ} {r r' : Result ℕ Refusal} →
    TextReply Refused Written text before r after → TextReply Refused Written text' before' r' after' → text_number r ≡ text_number r' →
    (r ≡ r') ⊎ ((n : ℕ) × (p : ℕ) × (q : ℕ) × (r ≡ Refused n p) × (r' ≡ Refused n q) × (2 ^ 32 - 1 ≤ p) × (2 ^ 32 - 1 ≤ q))
text_number_one {text = text} {text' = text'} {r = r} {r' = r'} p p' = text_tells text text' r r' p p'

-- which no text of fewer bytes has.
pub text_number_exact : {text text' before before' after after' : List ℕ} {r r' : Result ℕ Refusal} →
    TextReply Refused Written text before r after → TextReply Refused Written text' before' r' after' → length text < 2 ^ 32 - 1 → text_number r ≡ text_number r' → r ≡ r'
text_number_exact {text = text} {text' = text'} {r = r} {r' = r'} p p' = text_exact text text' r r' p p'

-- ---- two numbers that are told for one input are equal, and so are the buffers, but for which list is shown

pub equate_number_settled : {file : List ℕ} {a b : ℕ} {before after after' : List ℕ} {n n' : ℕ} → EquateTold file a b before n after → EquateTold file a b before n' after' →
    (n ≡ n') × SameButList (λ f. EquatedBy f a b) file before after after'
equate_number_settled (r, p, e) (r', p', e') = let (i, s) = equate_settled _ _ _ _ r r' _ _ p p' in (e ∙ (ap equate_number i ∙ sym e'), s)

pub run_number_settled : {file before after after' : List ℕ} {n n' : ℕ} → RunTold file before n after → RunTold file before n' after' → (n ≡ n') × SameButList RightListed file before after after'
run_number_settled (r, p, e) (r', p', e') = let (i, s) = run_settled _ _ r r' _ _ p p' in (e ∙ (ap run_number i ∙ sym e'), s)

pub check_number_settled : {file list : List ℕ} {n n' : ℕ} → CheckTold file list n → CheckTold file list n' → n ≡ n'
check_number_settled (r, p, e) (r', p', e') = e ∙ (ap check_number (check_settled _ _ r r' p p') ∙ sym e')

pub marks_number_settled : {file before after after' : List ℕ} {n n' : ℕ} → MarksTold file before n after → MarksTold file before n' after' → (n ≡ n') × (after ≡ after')
marks_number_settled (r, p, e) (r', p', e') = let (i, s) = build_marks_settled p p' in (e ∙ (ap marks_number i ∙ sym e'), s)

pub reduce_number_settled : {file before after after' : List ℕ} {n n' : ℕ} → ReduceTold file before n after → ReduceTold file before n' after' → (n ≡ n') × (after ≡ after')
reduce_number_settled (r, p, e) (r', p', e') = let (i, s) = reduce_settled p p' in (e ∙ (ap reduce_number i ∙ sym e'), s)

pub text_number_settled : {text before after after' : List ℕ} {n n' : ℕ} → TextTold text before n after → TextTold text before n' after' → (n ≡ n') × (after ≡ after')
text_number_settled (r, p, e) (r', p', e') = let (i, s) = reply_settled Refused Written _ _ r r' _ _ p p' in (e ∙ (ap text_number i ∙ sym e'), s)

-- ---- the run and the list check

-- The list that a run shows is called right by the list check.
pub run_list_checked : {file before after : List ℕ} {n : ℕ} {judged : Result Bool Refusal} → RunPromise file before (Ok (Some n)) after → CheckPromise file (take n after) judged → judged ≡ Ok true
run_list_checked = shown_checked
