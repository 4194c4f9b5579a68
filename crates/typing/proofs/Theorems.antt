-- The main theorems of this crate, each with its full statement.
use mathlib.Core.Path.{◌≡◌, refl, ◌∙◌, ap}
use mathlib.Core.List.{List, [], ◌++◌}
use Rattle.std.specs.Prelude.{Result}
use Prim.Native.Nat.{ℕ}
use lib.ListN.{length, take, drop}
use lib.Seq.{take_at}
use Rattle.model.specs.Format.{read_file, accepted, file_bytes}
use Rattle.model.proofs.Read.{clash}
use Rattle.grammar.specs.Typed.{Entry}
use Rattle.grammar.specs.Filed.{file_of}
use Rattle.grammar.specs.Text as text
use Rattle.grammar.specs.Text.{said, Told, Replied, refusal, short, written, TextReply}
use Rattle.grammar.proofs.Theorems as grammar
use Rattle.refusals.specs.declared.Refusal.{Refusal}
use Rattle.typing.specs.Reply.{Refused, Written}

-- Two replies to a text, with their buffers, that keep the promise are equal; there is no exception.
pub reply_settled : (s before : List ℕ) (r r' : Result ℕ Refusal) (after after' : List ℕ) → TextReply Refused Written s before r after → TextReply Refused Written s before r' after' →
    (r ≡ r') × (after ≡ after')
reply_settled = grammar.reply_settled Refused Written

-- What is written is the file of the entries that the text says, and the reader of case files accepts it.
pub written_accepted : (s before after : List ℕ) (n : ℕ) → TextReply Refused Written s before (Written n) after →
    (es : List Entry) × Told [] 0 s (said es) × (take n after ≡ file_bytes (file_of es)) × (read_file (take n after) ≡ accepted (file_of es))
written_accepted s before after n p = go p.told p.replied refl
  where
    go : {o : text.Outcome} {r : Result ℕ Refusal} {after : List ℕ} → Told [] 0 s o → Replied Refused Written before o r after → r ≡ Written n →
        (es : List Entry) × Told [] 0 s (said es) × (take n after ≡ file_bytes (file_of es)) × (read_file (take n after) ≡ accepted (file_of es))
    go t (refusal number place) e = clash (cc)
    go t (short es h) e = clash (cc)
    go t (written es h) e =
        let file = file_bytes (file_of es) in
        let front : take n (file ++ drop (length file) before) ≡ file = take_at file (drop (length file) before) n (cc) in
        (es, t, front, ap read_file front ∙ grammar.file_accepted s es t)

-- A refusal leaves the buffer untouched.
pub refused_untouched : (s before after : List ℕ) (n place : ℕ) → TextReply Refused Written s before (Refused n place) after → after ≡ before
refused_untouched s before after n place p = go p.replied refl
  where
    go : {o : text.Outcome} {r : Result ℕ Refusal} {after : List ℕ} → Replied Refused Written before o r after → r ≡ Refused n place → after ≡ before
    go (refusal number place) e = refl
    go (short es h) e = refl
    go (written es h) e = clash (cc)
