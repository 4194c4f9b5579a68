-- What he can see and build before a position of the run, told by the classes of the cells alone.
-- A free class counts as built: whatever it will be, he chooses it. No message is looked at.
use Rattle.std.specs.Prelude.{◌≡◌, ℕ}
use Rattle.model.specs.Message.{One, Two, Seal}
use Rattle.model.specs.Case.{Cell, AT, VA, ONE, TWO, Table, Run, Part, Learnt}
use Rattle.theory.specs.Cells.{Makes, Opening}

-- `Shut h`: a message of the kind h does not give its parts by itself.
pub data Shut : Two → Type 0 where
  seals : Shut Seal

-- Cells of one kind that has parts and does not give them by itself.
pub data Kin : Cell → Cell → Type 0 where
  ones : {g : One} {a a' : ℕ} → Kin (ONE g a) (ONE g a')
  twos : {h : Two} {l r l' r' : ℕ} → Shut h → Kin (TWO h l r) (TWO h l' r')

-- The two kinds of marks.
pub data Side : Type 0 where
  seen : Side
  built : Side

-- `Occ T rep y c`: the class of y is the class of c, or stands in a part of it.
pub data Occ (T : Table) (rep : ℕ → ℕ) (y : ℕ) : ℕ → Type 0 where
  here : {c : ℕ} → rep c ≡ rep y → Occ T rep y c
  down : {c d : ℕ} → Part (T (rep c)) d → Occ T rep y d → Occ T rep y c

module _ (T : Table) (rep : ℕ → ℕ) (ev : Run) (p : ℕ) where
  -- `Mark seen c`: he sees the cell c before position p: it was learnt, or comes to light by taking apart what is seen.
  -- `Mark built c`: he can build c.
  -- What is seen and can be put together from its parts is no more than these: they are seen in its place (`parts`).
  pub data Mark : Side → ℕ → Type 0 where
    learnt : {c : ℕ} → Learnt ev p c → Mark seen c
    same : {c d : ℕ} → rep c ≡ rep d → Mark seen c → Mark seen d
    opens : {c k d : ℕ} → Opening (λ c. T (rep c)) c k d → Mark seen c → Mark built k → Mark seen d
    parts : {c a b d : ℕ} → Makes (T (rep c)) a b → Part (T (rep c)) d → Mark seen c → Mark built a → Mark built b → Mark seen d
    free : {c : ℕ} → T (rep c) ≡ VA → Mark built c
    zero : {c : ℕ} → T (rep c) ≡ AT 0 → Mark built c
    had : {c : ℕ} → Mark seen c → Mark built c
    makes : {c a b : ℕ} → Makes (T (rep c)) a b → Mark built a → Mark built b → Mark built c
