-- Reduced files are equal exactly if the same can be built, and reducing again gives the file back.
use mathlib.Core.Path.{◌≡◌, refl, sym, ◌∙◌, ap, ap₂, subst}
use mathlib.Core.Logic.{◌↔◌, ◌⊎◌, inl, inr}
use mathlib.Core.List.{List, [], ◌∷◌, map, Memᴰ}
use mathlib.Core.Option.{some}
use Prim.Native.Nat.{ℕ, zero, suc, ◌+◌, ◌*◌, ◌≤◌, ◌<◌}
use native.Mathlib.Omega.{arith}
use native.Mathlib.Decide.{dec_lt}
use lib.ListN.{length, length-map}
use lib.Seq.{ext_get_or}
use Rattle.model.specs.Message.{Message, Built}
use Rattle.model.specs.Case.{AT, VA, LN, Event, File, table_of, run_of}
use Rattle.model.specs.Stored.{aim}
use Rattle.model.specs.Format.{accepted, read_file, file_bytes}
use Rattle.model.specs.Reduce.{Rest, Reduces, Rising}
use Rattle.model.specs.Replies.{messages_of, HeardOf}
use Rattle.model.proofs.Accepted.{Accepted}
use Rattle.model.proofs.Read.{clash}
use Rattle.model.proofs.Rows.{past_cells}
use Rattle.model.proofs.Sizes.{written_length}
use Rattle.model.proofs.Steps.{built_more}
use Rattle.model.proofs.Written.{written_read}
use Rattle.theory.proofs.Reduce.{reduces_one}

-- The events that learn the cells of a list.
learns_at : (l : List ℕ) (p c : ℕ) → run_of (map LN l) p ≡ some (LN c) → Memᴰ c l
learns_at [] p c e = clash (cc)
learns_at (x ∷ l) zero c e = (let i : c ≡ x = cc in Memᴰ.head i)
learns_at (x ∷ l) (suc p) c e = Memᴰ.tail (learns_at l p c e)

at_learns : {c : ℕ} {l : List ℕ} → Memᴰ c l → (p : ℕ) × (run_of (map LN l) p ≡ some (LN c))
at_learns (Memᴰ.head e) = (0, ap (λ x. some (LN x)) (sym e))
at_learns (Memᴰ.tail m) = (let (p, e) = at_learns m in (suc p, e))

learns_only : (l : List ℕ) (p : ℕ) (e : Event) → run_of (map LN l) p ≡ some e → (c : ℕ) × (e ≡ LN c)
learns_only [] p e i = clash (cc)
learns_only (x ∷ l) zero e i = (x, cc)
learns_only (x ∷ l) (suc p) e i = learns_only l p e i

-- A rising list of numbers from a up to n has at most n - a of them.
rising_short : {l : List ℕ} → Rising l → (a n : ℕ) → ((c : ℕ) → Memᴰ c l → (a ≤ c) × (c < n)) → length l + a ≤ n ⊎ (length l ≡ 0)
rising_short Rising.none a n h = inr refl
rising_short (Rising.more {c = c} {l = l} below r) a n h =
    let (p, q) = h c (Memᴰ.head refl) in
    elim (rising_short r (suc c) n (λ d m. (below d m, (h d (Memᴰ.tail m)).1))) [
      | inl s ↦ inl (omega arith)
      | inr z ↦ inl (omega arith)
    ]

-- The file g with learnt cells is the reduced file of what K lets him build, and has no more cells than a file may have.
pub record Reduction (K : Message → Type 0) (g : File) (learnt : List ℕ) : Type 0 where
  pub events : g.events ≡ map LN learnt
  pub reduces : Reduces K (table_of g.cells) (messages_of g) (length g.cells) learnt
  pub few : length g.cells ≤ 128

module _ (K : Message → Type 0) (g : File) (learnt : List ℕ) (r : Reduction K g learnt) where
  -- It learns exactly what it lists.
  pub reduced_hears : (x : Message) → HeardOf g x ↔ Rest K x
  reduced_hears x = (hears, listed)
    where
      hears : HeardOf g x → Rest K x
      hears (c, p, e, i) =
          let m = learns_at learnt p c (subst (λ l. run_of l p ≡ some (LN c)) r.events e) in
          subst (Rest K) (sym i) ((r.reduces.names c).0 m).1

      listed : Rest K x → HeardOf g x
      listed h =
          let (c, lt, i) = r.reduces.cells.all x (x, h, Rattle.model.specs.Reduce.whole) in
          let (p, e) = at_learns ((r.reduces.names c).1 (lt, subst (Rest K) (sym i) h)) in
          (c, p, subst (λ l. run_of l p ≡ some (LN c)) (sym r.events) e, sym i)

  pub reduced_builds : (x : Message) → Built (HeardOf g) x ↔ Built (Rest K) x
  reduced_builds x = (built_more (λ y. (reduced_hears y).0), built_more (λ y. (reduced_hears y).1))

  -- It has no variables,
  pub reduced_solid : (c : ℕ) → table_of g.cells c ≡ VA → ⊥
  reduced_solid c v = elim (dec_lt c (length g.cells)) [
    | yes h ↦ r.reduces.cells.solid c h v
    | no h ↦ clash (cc (past_cells g.cells c (omega arith)))
  ]

  few_events_lem : length g.events ≤ 128
  few_events_lem =
      let e : length g.events ≡ length learnt = ap length r.events ∙ length-map learnt LN in
      let f = r.few in
      elim (rising_short r.reduces.rises 0 (length g.cells) (λ c m. (omega arith, ((r.reduces.names c).0 m).0))) [ inl s ↦ omega arith | inr z ↦ omega arith ]

  -- and is accepted.
  pub reduced_accepted : Accepted g
  reduced_accepted = record {
    few_cells = r.few;
    few_events = few_events_lem;
    lower = r.reduces.cells.lower;
    inside = inside;
    formed = λ p c v e i w. absurd (reduced_solid v i);
  }
    where
      inside : (p : ℕ) (e : Event) → run_of g.events p ≡ some e → aim e < length g.cells
      inside p e i =
          let j = subst (λ l. run_of l p ≡ some e) r.events i in
          let (c, k) = learns_only learnt p e j in
          let m = learns_at learnt p c (j ∙ ap some k) in
          subst (λ e. aim e < length g.cells) (sym k) ((r.reduces.names c).0 m).0

  pub reduced_read : read_file (file_bytes g) ≡ accepted g
  reduced_read = written_read g reduced_accepted

  pub reduced_length : length (file_bytes g) ≡ 4 * length g.cells + 3 * length g.events + 2
  reduced_length = written_length g reduced_solid

  pub reduced_fits : length (file_bytes g) ≤ 898
  reduced_fits = let l = reduced_length in let f = r.few in let e = few_events_lem in omega arith

-- Two files that let him build the same have one reduced file,
pub reduced_one : (K L : Message → Type 0) (g g' : File) (l l' : List ℕ) → Reduction K g l → Reduction L g' l' → ((x : Message) → Built K x ↔ Built L x) → file_bytes g ≡ file_bytes g'
reduced_one K L g g' l l' r r' same =
    let (n, rows, k) = reduces_one K L (table_of g.cells) (table_of g'.cells) (messages_of g) (messages_of g') (length g.cells) (length g'.cells) l l' same r.reduces r'.reduces in
    ap₂ (λ cells events. file_bytes (record { cells = cells; events = events })) (ext_get_or (AT 0) g.cells g'.cells n rows) (r.events ∙ (ap (map LN) k ∙ sym r'.events))

-- and files with one reduced file let him build the same, where each builds what its reduced file builds.
pub one_reduced : (K L : Message → Type 0) (g g' : File) (l l' : List ℕ) → Reduction K g l → Reduction L g' l' → ((x : Message) → Built (HeardOf g) x ↔ Built K x) → ((x : Message) → Built (HeardOf g') x ↔ Built L x) →
    file_bytes g ≡ file_bytes g' → (x : Message) → Built K x ↔ Built L x
one_reduced K L g g' l l' r r' same same' e x =
    let i : g ≡ g' = file_one (sym (reduced_read K g l r) ∙ (ap read_file e ∙ reduced_read L g' l' r')) in
    (λ b. (same' x).0 (subst (λ h. Built (HeardOf h) x) i ((same x).1 b)), λ b. (same x).0 (subst (λ h. Built (HeardOf h) x) (sym i) ((same' x).1 b)))
  where
    file_one : accepted g ≡ accepted g' → g ≡ g'
    file_one j = cc
