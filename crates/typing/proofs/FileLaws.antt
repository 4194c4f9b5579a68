-- The bytes of records, written one after another, and the file of the entries kept.
use mathlib.Core.Path.{◌≡◌, refl, sym, ◌∙◌, ap, subst}
use mathlib.Core.List.{List, [], ◌∷◌, ◌++◌, map}
use Prim.Native.Nat.{ℕ, zero, suc, ◌+◌, ◌*◌, ◌≤◌, ◌<◌}
use native.Mathlib.Omega.{arith}
use native.Mathlib.Decide.{dec_lt}
use native.Mathlib.Numerals.{add-one}
use lib.ListN.{length, get_or, take, length-append}
use lib.Seq.{sets, take-suc, take-length}
use Rattle.model.specs.Message.{App, Two}
use Rattle.model.specs.Case as case
use Rattle.model.specs.Case.{AT, VA, ONE, TWO, MK, LN}
use Rattle.model.specs.Format.{Kind, mark, cell_bytes, event_bytes, joined, file_bytes}
use Rattle.model.specs.Stored.{table_in, event_in, aim}
use Rattle.model.proofs.Listed.{elem_get_d, place_member, sets_append, sets_front}
use Rattle.model.proofs.Rows.{event_word_lem}
use Rattle.model.specs.Replies.{laid}
use Rattle.records.proofs.Rows.{joined_last}
use Rattle.grammar.specs.Typed.{name, Entry, tree_of}
use Rattle.grammar.specs.Filed.{trees_of, cell_of, event_of, file_of}
use Rattle.grammar.specs.Text.{said, Replied, short, written}
use Rattle.grammar.proofs.Trees.{place_in, tree_in}
use Rattle.typing.specs.declared.line.Lines.{Lines}
use Rattle.typing.specs.Store.{In}
use Rattle.typing.specs.Lines.{Kept}
use Rattle.typing.specs.File.{up_to, events_in}
use Rattle.typing.specs.Reply.{Refused, Written}
use Rattle.typing.proofs.TakeLaws.{cells_length, events_length, words_show}

-- ---- one record
pub cell_size : (k : case.Cell) → length (cell_bytes k) ≤ 4
cell_size (AT n) = omega arith
cell_size VA = omega arith
cell_size (ONE (App f) a) = omega arith
cell_size (TWO Two.Pair l r) = omega arith
cell_size (TWO Two.Seal b s) = omega arith

-- ---- records in a row

module _ {A : Type 0} (bytes : A → List ℕ) (f : ℕ → A) where
  -- The records of the first n.
  abbrev pub row : ℕ → List ℕ
  row n = joined bytes (up_to f n)

  pub row_none : row 0 ≡ []
  unfolding up_to joined
  row_none = refl

  pub row_next : (n : ℕ) → row (n + 1) ≡ row n ++ bytes (f n)
  unfolding up_to
  row_next n = ap (λ k. joined bytes (up_to f k)) (add-one n) ∙ joined_last bytes (up_to f n) (f n)

  pub row_length : (n : ℕ) → length (row (n + 1)) ≡ length (row n) + length (bytes (f n))
  row_length n = ap length (row_next n) ∙ length-append (row n) (bytes (f n))

  pub row_grows : (i n : ℕ) → i ≤ n → length (row i) ≤ length (row n)
  row_grows i zero h = (let z : i ≡ 0 = omega arith in subst (λ k. length (row i) ≤ length (row k)) z (omega arith))
  row_grows i (suc n) h = elim (dec_lt n i) [
    | yes l ↦ (let z : i ≡ suc n = omega arith in subst (λ k. length (row i) ≤ length (row k)) z (omega arith))
    | no l ↦ (let a = row_grows i n (omega arith) in let b = row_length n in subst (λ k. length (row i) ≤ length (row k)) (add-one n) (omega arith))
  ]

  -- The next record behind those before it.
  pub row_put : (l out after : List ℕ) (start at i : ℕ) → at ≡ start + length (row i) → out ≡ sets l start (row i) → after ≡ sets out at (bytes (f i)) → after ≡ sets l start (row (i + 1))
  row_put l out after start at i z e g =
      g ∙ (ap (λ o. sets o at (bytes (f i))) e ∙ (sets_append (row i) l (bytes (f i)) start at z ∙ ap (sets l start) (sym (row_next i))))

pub events_row : (f : ℕ → case.Event) (n : ℕ) → length (row event_bytes f n) ≡ 3 * n
events_row f zero = ap length (row_none event_bytes f)
events_row f (suc n) = (let h = events_row f n in let k = row_length event_bytes f n in let z = event_size (f n) in subst (λ x. length (row event_bytes f x) ≡ 3 * x) (add-one n) (omega arith))
  where
    event_size : (e : case.Event) → length (event_bytes e) ≡ 3
    event_size (MK c) = refl
    event_size (LN c) = refl

-- The end behind the events.
pub events_end : (f : ℕ → case.Event) (l out after : List ℕ) (start n : ℕ) → out ≡ sets l start (row event_bytes f n) → after ≡ sets out (start + 3 * n) (69 ∷ 78 ∷ []) →
    after ≡ sets l start (row event_bytes f n ++ mark Kind.End)
events_end f l out after start n e g =
    g ∙ (ap (λ o. sets o (start + 3 * n) (69 ∷ 78 ∷ [])) e ∙ sets_append (row event_bytes f n) l (69 ∷ 78 ∷ []) start (start + 3 * n) (omega (arith, events_row f n)))

-- ---- the file

-- A list by its elements.
module _ {A : Type 0} (f : ℕ → A) (l : List A) (d : A) (h : (i : ℕ) → i < length l → f i ≡ get_or l i d) where
  up_to_take : (n : ℕ) → n ≤ length l → up_to f n ≡ take n l
  unfolding up_to
  up_to_take zero k = refl
  up_to_take (suc n) k = (let e = up_to_take n (omega arith) in let g = h n (omega arith) in cc) ∙ sym (take-suc l n d (omega arith))

  up_to_list : (n : ℕ) → n ≡ length l → up_to f n ≡ l
  up_to_list n e = up_to_take n (omega arith) ∙ (ap (λ k. take k l) e ∙ take-length l)

map_at : {A B : Type 0} (f : A → B) (l : List A) (d : A) (b : B) (p : ℕ) → p < length l → get_or (map f l) p b ≡ f (get_or l p d)
map_at f [] d b p h = absurd (omega arith)
map_at f (x ∷ l) d b zero h = refl
map_at f (x ∷ l) d b (suc p) h = map_at f l d b p (omega arith)

module _ (es : List Entry) (lines : Lines) (k : Kept es lines) where
  abbrev table : ℕ → case.Cell
  table = table_in lines.store.words

  abbrev run : ℕ → case.Event
  run = events_in lines.run

  cells_kept : up_to table lines.store.count ≡ (file_of es).cells
  cells_kept =
      up_to_list table (file_of es).cells (AT 0)
      (λ c h. let i : c < length (trees_of es) = omega (arith, cells_length es) in
      words_show (trees_of es) lines.store.words lines.store.count k.sound k.cells c i ∙ sym (map_at (cell_of (trees_of es)) (trees_of es) (name 0) (AT 0) c i))
      lines.store.count (k.cells.counts ∙ sym (cells_length es))

  event_small : (p : ℕ) → p < length es → aim (get_or (file_of es).events p (MK 0)) < 256
  event_small p h =
      let e = get_or es p (Entry.make (name 0)) in
      subst (λ e. aim e < 256) (sym (map_at (event_of (trees_of es)) es (Entry.make (name 0)) (MK 0) p h)) (low e (tree_in es e (place_member es p e (elem_get_d es p (Entry.make (name 0)) h))))
    where
      low : (e : Entry) → In (trees_of es) (tree_of e) → aim (event_of (trees_of es) e) < 256
      low (Entry.learn t) m = (let z = (place_in (trees_of es) t m).0 in omega (arith, k.cells.room))
      low (Entry.make t) m = (let z = (place_in (trees_of es) t m).0 in omega (arith, k.cells.room))

  events_kept : up_to run lines.events ≡ (file_of es).events
  events_kept =
      up_to_list run (file_of es).events (MK 0)
      (λ p h. let i : p < length es = omega (arith, events_length es) in ap event_in (k.run p i) ∙ event_word_lem (get_or (file_of es).events p (MK 0)) (event_small p i))
      lines.events (k.counts ∙ sym (events_length es))

  abbrev cell_row : List ℕ
  cell_row = row cell_bytes table lines.store.count

  abbrev event_row : List ℕ
  event_row = row event_bytes run lines.events

  file_kept : cell_row ++ (event_row ++ mark Kind.End) ≡ file_bytes (file_of es)
  file_kept = (let e = ap (joined cell_bytes) cells_kept in let f = ap (joined event_bytes) events_kept in cc)

  file_length : (size : ℕ) → size ≡ length cell_row → size + 3 * lines.events + 2 ≡ length (file_bytes (file_of es))
  file_length size e =
      let a = length-append cell_row (event_row ++ mark Kind.End) in
      let b = length-append event_row (mark Kind.End) in
      let c = events_row run lines.events in
      let d = ap length file_kept in
      omega arith

  -- ---- the reply

  pub write_short : (out : List ℕ) (size : ℕ) → size ≡ length cell_row → length out < size + 3 * lines.events + 2 →
      Replied Refused Written out (said es) (Refused 9 (size + 3 * lines.events + 2)) out
  write_short out size e h =
      let z = file_length size e in
      subst (λ n. Replied Refused Written out (said es) (Refused 9 n) out) (sym z) (short es (omega arith))

  pub write_done : (out middle after : List ℕ) (size : ℕ) → size ≡ length cell_row → size + 3 * lines.events + 2 ≤ length out → middle ≡ sets out 0 cell_row →
      after ≡ sets middle size (event_row ++ mark Kind.End) → Replied Refused Written out (said es) (Written (size + 3 * lines.events + 2)) after
  write_done out middle after size e h f g =
      let z = file_length size e in
      let w : after ≡ sets out 0 (cell_row ++ (event_row ++ mark Kind.End)) = g ∙ (ap (λ o. sets o size (event_row ++ mark Kind.End)) f ∙ sets_append cell_row out (event_row ++ mark Kind.End) 0 size (omega arith)) in
      let v : after ≡ laid (file_bytes (file_of es)) out = w ∙ (ap (sets out 0) file_kept ∙ sets_front (file_bytes (file_of es)) out (omega arith)) in
      subst (λ n. Replied Refused Written out (said es) (Written n) after) (sym z) (subst (λ a. Replied Refused Written out (said es) (Written (length (file_bytes (file_of es)))) a) (sym v) (written es (omega arith)))
