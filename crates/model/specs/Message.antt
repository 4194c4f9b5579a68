-- Messages, and what the intruder can build.
-- One, Two: the kinds by their number of parts; Message; pair, seal, app: short names; Bounded: names and functions of the format; Made, Opens: the steps; Built: what he
-- can build.
use Rattle.std.specs.Prelude.{ℕ, ◌<◌}

-- The kinds of messages with one part: an application of the function f, 0 to 255.
pub data One : Type 0 where
  App : ℕ → One

-- The kinds of messages with two parts: a pair of messages, and a seal of a body under a key.
pub data Two : Type 0 where
  Pair Seal : Two

-- A message is a finite tree: an atom with its name, 0 to 65,535, or of a kind with one part or with two. The name 0 is the intruder's own.
pub data Message : Type 0 where
  atom : ℕ → Message
  one : One → Message → Message
  two : Two → Message → Message → Message

-- The pair of a and b.
abbrev pub pair : Message → Message → Message
pair a b = two Pair a b

-- The body b sealed under the key k.
abbrev pub seal : Message → Message → Message
seal b k = two Seal b k

-- The function f applied to a.
abbrev pub app : ℕ → Message → Message
app f a = one (App f) a

-- The names of x are below 65,536 and its functions below 256. The definitions bound neither; that nothing hangs on those beyond is proved (`same_bounded`).
abbrev pub Bounded : Message → Type 0
Bounded (atom n) = n < 65536
Bounded (one (App f) a) = (f < 256) × Bounded a
Bounded (two h a b) = Bounded a × Bounded b

-- The steps that compose. `Made x a b`: a and b, built, give x; an application has one part, which stands for both.
pub data Made : Message → Message → Message → Type 0 where
  -- two built messages give their pair
  pairs : {a b : Message} → Made (pair a b) a b
  -- a built body and a built key give the seal
  seals : {b k : Message} → Made (seal b k) b k
  -- a built argument gives the application of any function to it
  apps : {f : ℕ} {a : Message} → Made (app f a) a a

-- The steps that take apart. `Opens x k y`: x and k, built, give y; a pair wants nothing beside itself.
pub data Opens : Message → Message → Message → Type 0 where
  -- a built pair gives both parts
  lefts : {a b : Message} → Opens (pair a b) (pair a b) a
  rights : {a b : Message} → Opens (pair a b) (pair a b) b
  -- a built seal with its built key gives its body
  bodies : {b k : Message} → Opens (seal b k) k b

-- `Built K x`: from the messages of K he can build x. The least set that holds name 0, holds the messages of K, and is closed under the steps.
pub data Built (K : Message → Type 0) : Message → Type 0 where
  own : Built K (atom 0)
  known : {x : Message} → K x → Built K x
  makes : {x a b : Message} → Made x a b → Built K a → Built K b → Built K x
  opens : {x k y : Message} → Opens x k y → Built K x → Built K k → Built K y

-- `Held y x`: y is a part of x.
pub data Held : Message → Message → Type 0 where
  arg : {g : One} {a : Message} → Held a (one g a)
  left : {h : Two} {a b : Message} → Held a (two h a b)
  right : {h : Two} {a b : Message} → Held b (two h a b)
