-- What reading came to.
-- AllRead: the bytes in the buffer are the next of the input's.
use Rattle.std.specs.Prelude.{List, ℕ, ◌<◌, length, take}
use Rattle.std.specs.Io.KnownBytes.{Consumes, IsAtEnd}
use Rattle.std.specs.declared.option.Option.{Option}

-- The first n bytes of the buffer are the next of the bytes that a reader has left, where these are known; and the buffer is full unless that was all.
abbrev pub AllRead : Option (List ℕ) → Option (List ℕ) → List ℕ → ℕ → Type 0
AllRead left left' start n = Consumes left left' (take n start) × (n < length start → IsAtEnd left')
