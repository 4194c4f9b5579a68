-- Readings: the computed messages are the one reading; a reading's message tells its cell; right values may be said of readings.
use mathlib.Core.Path.{◌≡◌, refl, sym, ◌∙◌, subst, fun_ext}
use mathlib.Core.Logic.{◌⊎◌, inl, inr}
use Prim.Native.Nat.{ℕ, zero, suc, ◌<◌}
use native.Mathlib.Omega.{arith}
use Rattle.model.specs.Message.{Message, atom, one, two, Held}
use Rattle.model.specs.Case.{Cell, AT, VA, ONE, TWO, Table, Run, look, Reads, shown, message, Part, in_arg, in_left, in_right, Lower, Right}
use Rattle.model.specs.Values.{RightValues, RightList}

-- Strong induction.
below : (P : ℕ → Type 0) → ((c : ℕ) → ((d : ℕ) → d < c → P d) → P c) → (n c : ℕ) → c < n → P c
below P step zero c h = absurd (omega arith)
below P step (suc n) c h = step c (λ d i. below P step n d (omega arith))

pub strong : (P : ℕ → Type 0) → ((c : ℕ) → ((d : ℕ) → d < c → P d) → P c) → (c : ℕ) → P c
strong P step c = below P step (suc c) c (omega arith)

-- What a cell shows depends on the messages of its parts.
-- What a cell that is no variable shows does not depend on a variable's value.
pub look_solid : (v w : Message) (m : ℕ → Message) (k : Cell) → (k ≡ VA → ⊥) → look v m k ≡ look w m k
look_solid v w m (AT n) s = refl
look_solid v w m VA s = absurd (s refl)
look_solid v w m (ONE g a) s = refl
look_solid v w m (TWO h l r) s = refl

pub look_same : (v : Message) (m m' : ℕ → Message) (k : Cell) → ((d : ℕ) → Part k d → m d ≡ m' d) → look v m k ≡ look v m' k
look_same v m m' (AT n) h = refl
look_same v m m' VA h = refl
look_same v m m' (ONE g a) h = cc (h a in_arg)
look_same v m m' (TWO t l r) h = cc (h l in_left, h r in_right)

-- The computed messages do not depend on the steps, if they are enough.
shown_enough : (T : Table) (ρ : ℕ → Message) → Lower T → (n n' c : ℕ) → c < n → c < n' → shown T ρ n c ≡ shown T ρ n' c
unfolding shown
shown_enough T ρ low zero n' c h h' = absurd (omega arith)
shown_enough T ρ low (suc n) zero c h h' = absurd (omega arith)
shown_enough T ρ low (suc n) (suc n') c h h' =
    look_same (ρ c) (shown T ρ n) (shown T ρ n') (T c)
    (λ d i. let l = low c d i in shown_enough T ρ low n n' d (omega arith) (omega arith))

pub message_reads : (T : Table) (ρ : ℕ → Message) → Lower T → Reads T ρ (message T ρ)
unfolding shown
message_reads T ρ low c =
    look_same (ρ c) (shown T ρ c) (message T ρ) (T c)
    (λ d i. let l = low c d i in shown_enough T ρ low c (suc d) d (omega arith) (omega arith))

-- What values make the cells show is a reading of its own.
pub message_self : (T : Table) (ρ : ℕ → Message) → Lower T → Reads T (message T ρ) (message T ρ)
message_self T ρ low c = self (T c) (message_reads T ρ low c)
  where
    self : (k : Cell) → message T ρ c ≡ look (ρ c) (message T ρ) k → message T ρ c ≡ look (message T ρ c) (message T ρ) k
    self (AT n) e = e
    self VA e = refl
    self (ONE g a) e = e
    self (TWO h l r) e = e

-- Two readings under the same values are the same.
pub reads_one : (T : Table) (ρ m m' : ℕ → Message) → Lower T → Reads T ρ m → Reads T ρ m' → (c : ℕ) → m c ≡ m' c
reads_one T ρ m m' low r r' =
    strong (λ c. m c ≡ m' c) (λ c ih. r c ∙ (look_same (ρ c) m m' (T c) (λ d i. ih d (low c d i)) ∙ sym (r' c)))

-- The message of a cell that is no variable tells the cell.
pub clash {ℓ} : {A : Type ℓ} → ◌≡◌ {A = ℕ} 0 1 → A
clash z = absurd (omega arith)

pub var? : (k : Cell) → (k ≡ VA) ⊎ (k ≡ VA → ⊥)
var? (AT n) = inr (λ e. clash (cc))
var? VA = inl refl
var? (ONE g a) = inr (λ e. clash (cc))
var? (TWO h l r) = inr (λ e. clash (cc))

-- `Is m k x`: the cell k, no variable, shows x, its parts showing what m says.
abbrev pub Is : (ℕ → Message) → Cell → Message → Type 0
Is m k (atom n) = k ≡ AT n
Is m k (one g a) = (i : ℕ) × (k ≡ ONE g i) × (m i ≡ a)
Is m k (two h a b) = (l : ℕ) × (r : ℕ) × (k ≡ TWO h l r) × (m l ≡ a) × (m r ≡ b)

is : (v : Message) (m : ℕ → Message) (k : Cell) → (k ≡ VA → ⊥) → Is m k (look v m k)
is v m (AT n) s = refl
is v m VA s = absurd (s refl)
is v m (ONE g a) s = (a, refl, refl)
is v m (TWO h l r) s = (l, r, refl, refl, refl)

pub look_is : (v : Message) (m : ℕ → Message) (k : Cell) {x : Message} → (k ≡ VA → ⊥) → look v m k ≡ x → Is m k x
look_is v m k s e = subst (Is m k) e (is v m k s)

-- A part of a cell shows a part of its message.
pub part_held : (v : Message) (m : ℕ → Message) {k : Cell} {d : ℕ} → Part k d → Held (m d) (look v m k)
part_held v m in_arg = Held.arg
part_held v m in_left = Held.left
part_held v m in_right = Held.right

-- A reading is the message of each cell under some values, its own at the variables; so "there are right values" may be said of readings.
pub right_values : (T : Table) (ev : Run) → Lower T → (m : ℕ → Message) → Reads T m m → Right ev m → RightValues T ev m
right_values T ev low m mr = subst (Right ev) (fun_ext (reads_one T m m (message T m) low mr (message_reads T m low)))

pub values_right : (T : Table) (ev : Run) → Lower T → (ρ : ℕ → Message) → RightValues T ev ρ → (m : ℕ → Message) × Reads T m m × Right ev m
values_right T ev low ρ r = (message T ρ, message_self T ρ low, r)

-- A right list comes with right values.
pub list_values : (T : Table) (ev : Run) (L : ℕ → ℕ) → Lower T → RightList T ev L → (ρ : ℕ → Message) × RightValues T ev ρ
list_values T ev L low (m, reads, equal, right) = (m, right_values T ev low m reads right)
