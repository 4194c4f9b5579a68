-- What a message completes, entered part by part; a list's messages one by one, then its pairs.
use mathlib.Core.Path.{◌≡◌, refl, sym, ◌∙◌, ap, subst}
use mathlib.Core.Logic.{inl, inr}
use mathlib.Core.Bool.{Bool, true, false, cond}
use mathlib.Core.List.Memᴰ
use mathlib.Core.List.{List, [], ◌∷◌, ◌++◌}
use Prim.Native.Nat.{ℕ, ◌+◌, ◌≤◌, ◌<◌}
use native.Mathlib.Omega.{arith}
use lib.Dec.{ltb}
use lib.ListN.{length, get_or, set, length-set}
use lib.Seq.{get_or-set_same, get_or-set_other}
use borrow.Author.Tests.{ltb-true, ltb-false}
use Rattle.model.specs.Message.{App, Pair, Seal}
use Rattle.model.specs.Case.{AT, VA, SE, AP}
use Rattle.model.specs.Stored.{word_of}
use Rattle.model.proofs.Listed.{true_false, length_snoc}
use Rattle.grammar.specs.Typed.{Typed, name, variable, one, two}
use Rattle.grammar.specs.Filed.{entered, completed, place}
use Rattle.grammar.proofs.Entering.{all_completed, SmallTree, AllSmall, all_completed_snoc, entered_list}
use Rattle.grammar.proofs.Entering as entering
use Rattle.grammar.proofs.Trees.{entered_append, completed_one, completed_two}
use Rattle.grammar.proofs.Filed.{at_in, Where, old, where_at}
use Rattle.typing.specs.declared.store.Store.{Store}
use Rattle.typing.specs.declared.store.Items.{Items}
use Rattle.typing.specs.Store.{In, Sound, Stored, fits, over, Put, PutAt, Enters, no_items, with_item, Listed, whole, many, right_of, pairs_of, AllIn, PairsUp}
use Rattle.typing.specs.Readers.{Completes}
use Rattle.typing.proofs.Trees.{entered_grows, grows_in, grows_place, entered_sound}
use Rattle.typing.proofs.StoreLaws.{stored_full, full_entered}

-- ---- messages
module _ (s : Store) (n word : ℕ) (h : n ≤ 65535) (p : Put) (put : Enters s word p) where
  pub completes_name : word ≡ word_of (AT n) → Completes s (name n) p.store p.cell
  unfolding completed entered
  completes_name e trees sound stored = put trees (name n) sound h stored (λ f. e ∙ (omega arith))

  pub completes_variable : word ≡ word_of VA + n → Completes s (variable n) p.store p.cell
  unfolding completed entered
  completes_variable e trees sound stored = put trees (variable n) sound h stored (λ f. e)

-- A table that is not full now was not full before.
pub not_full : (trees ts : List Typed) (s : Store) → Stored trees s → {after : Store} → Stored (entered trees ts) after → after.full ≡ false → s.full ≡ false
not_full trees ts s (fits f h) later e = f
not_full trees ts s (over f h) later e = true_false (stored_full later (full_entered trees ts h)) e

pub completes_one : (s : Store) (t : Typed) (after : Store) (cell f word : ℕ) (p : Put) → SmallTree t → f ≤ 255 → Completes s t after cell → word ≡ word_of (AP f cell) → Enters after word p →
    Completes s (one (App f) t) p.store p.cell
completes_one s t after cell f word p small h part e put trees sound stored =
    let q = part trees sound stored in
    let (i, j) = entered_sound t small trees sound in
    let l = entered trees (completed t) in
    rw (completed_one trees (App f) t)
    (put l (one (App f) t) i (h, j) q.stored (λ g. e ∙ (let z = q.cell g in (omega arith))))

pub completes_seal : (s : Store) (t u : Typed) (mid after : Store) (body cell word : ℕ) (p : Put) → SmallTree t → SmallTree u → Completes s t mid body → Completes mid u after cell →
    word ≡ word_of (SE body cell) → Enters after word p → Completes s (two Seal t u) p.store p.cell
completes_seal s t u mid after body cell word p small small' first second e put trees sound stored =
    let l = entered trees (completed t) in
    let k = entered l (completed u) in
    let q = first trees sound stored in
    let (i, j) = entered_sound t small trees sound in
    let r = second l i q.stored in
    let (m, n) = entered_sound u small' l i in
    let g = entered_grows l (completed u) in
    rw (completed_two trees Seal t u)
    (put k (two Seal t u) m (grows_in g t j, n) r.stored
    (λ f. let x = q.cell (not_full l (completed u) mid q.stored r.stored f) in let y = r.cell f in let z = grows_place g t j in e ∙ (omega arith)))

-- ---- lists

pub right_same : (us : List Typed) (t : Typed) → entering.right_of us t ≡ right_of us t
right_same [] t = refl
right_same (u ∷ us) t = ap (two Pair u) (right_same us t)

pairs_same : (us : List Typed) (t : Typed) → entering.pairs_of us t ≡ pairs_of us t
pairs_same [] t = refl
pairs_same (u ∷ us) t = (let e = pairs_same us t in let f = right_same us t in cc)

entered_pairs : (trees us : List Typed) (t : Typed) → entered trees (completed (right_of us t)) ≡ entered (entered (entered trees (all_completed us)) (completed t)) (pairs_of us t)
entered_pairs trees us t =
    ap (λ x. entered trees (completed x)) (sym (right_same us t)) ∙ (entered_list trees us t ∙ ap (entered (entered (entered trees (all_completed us)) (completed t))) (pairs_same us t))

-- The messages before the last comma are entered, and the items are their cells.
pub record SoFar (s : Store) (us : List Typed) (after : Store) (items : Items) : Type 0 where
  pub small : AllSmall us
  pub few : items.count ≤ 128
  pub counted : items.count ≤ length us
  pub many : items.more ≡ true → 128 < length us
  pub stored : (trees : List Typed) → Sound trees → Stored trees s → Stored (entered trees (all_completed us)) after
  pub listed : (trees : List Typed) → Sound trees → Stored trees s → after.full ≡ false → Listed (entered trees (all_completed us)) us items

pub sofar_none : (s : Store) → SoFar s [] s no_items
unfolding entered
sofar_none s = record { small = λ u m. absurd (Memᴰ.not-nil m); few = omega arith; counted = omega arith; many = λ e. true_false e refl; stored = λ trees sound st. st; listed = λ trees sound st f. whole refl refl (omega arith) refl (λ c h. absurd (omega arith)) }

all_sound : (us : List Typed) → AllSmall us → (trees : List Typed) → Sound trees → Sound (entered trees (all_completed us)) × AllIn (entered trees (all_completed us)) us
unfolding entered
all_sound [] h trees s = (s, λ u m. absurd (Memᴰ.not-nil m))
all_sound (u ∷ us) small trees s =
    let l = entered trees (completed u) in
    let (i, j) = entered_sound u (small u (Memᴰ.head refl)) trees s in
    let (k, a) = all_sound us (λ x m. small x (Memᴰ.tail m)) l i in
    rw (entered_append trees (completed u) (all_completed us)) (k, at (entered l (all_completed us)) (grows_in (entered_grows l (all_completed us)) u j) a)
  where
    at : (l : List Typed) → In l u → AllIn l us → AllIn l (u ∷ us)
    at l i a x m = elim (Memᴰ.cases_cons m) [ inl e ↦ subst (In l) (sym e) i | inr n ↦ a x n ]

module _ (s : Store) (us : List Typed) (before : Store) (items : Items) (so : SoFar s us before items) (t : Typed) (small : SmallTree t) (after : Store) (cell : ℕ) (c : Completes before t after cell) where
  module _ (trees : List Typed) (sound : Sound trees) (stored : Stored trees s) where
    abbrev l : List Typed
    l = entered trees (all_completed us)

    put : PutAt (entered l (completed t)) t (record { store = after; cell = cell })
    put = c l (all_sound us so.small trees sound).0 (so.stored trees sound stored)

    all_in : AllIn (entered l (completed t)) us
    all_in u m = grows_in (entered_grows l (completed t)) u ((all_sound us so.small trees sound).1 u m)

    -- The items keep their cells.
    still : after.full ≡ false → Listed (entered l (completed t)) us items
    still f = go (so.listed trees sound stored (not_full l (completed t) before (so.stored trees sound stored) put.stored f))
      where
        go : Listed l us items → Listed (entered l (completed t)) us items
        go (many m x y) = many m x y
        go (whole m x y z cells) = whole m x y z (λ k h. cells k h ∙ sym (grows_place (entered_grows l (completed t)) (get_or us k (name 0)) ((all_sound us so.small trees sound).1 (get_or us k (name 0)) (at_in us k h))))

  -- The list ends: its pairs are entered.
  pub completes_list : (p : Put) → PairsUp after items cell p → Completes s (right_of us t) p.store p.cell
  completes_list p pairs trees sound stored =
      rw (entered_pairs trees us t)
      (pairs (entered (l trees sound stored) (completed t)) us t (entered_sound t small (l trees sound stored) (all_sound us so.small trees sound).0).0 (all_in trees sound stored)
      (entered_sound t small (l trees sound stored) (all_sound us so.small trees sound).0).1 (put trees sound stored).stored (λ f. ((put trees sound stored).cell f, still trees sound stored f)) so.many)

  -- One more item.
  pub sofar_more : SoFar s (us ++ (t ∷ [])) after (with_item items cell)
  sofar_more = record {
    small = small_all;
    few = few_item (ltb items.count 128) refl;
    counted = counted_item (ltb items.count 128) refl;
    many = many_item (ltb items.count 128) refl;
    stored = λ trees sound stored. subst (λ k. Stored k after) (sym (snoc trees)) (put trees sound stored).stored;
    listed = λ trees sound stored f. subst (λ k. Listed k (us ++ (t ∷ [])) (with_item items cell)) (sym (snoc trees)) (item trees sound stored f (still trees sound stored f) (ltb items.count 128) refl);
  }
    where
      size : length (us ++ (t ∷ [])) ≡ length us + 1
      size = length_snoc us t

      snoc : (trees : List Typed) → entered trees (all_completed (us ++ (t ∷ []))) ≡ entered (entered trees (all_completed us)) (completed t)
      snoc trees = ap (entered trees) (all_completed_snoc us t) ∙ entered_append trees (all_completed us) (completed t)

      small_all : AllSmall (us ++ (t ∷ []))
      small_all u m = elim (Memᴰ.append_cases us m) [ inl n ↦ so.small u n | inr n ↦ subst SmallTree (sym (Memᴰ.eq_of_singleton n)) small ]

      more : Items
      more = record { cells = set items.cells items.count cell; count = items.count + 1; more = items.more }

      past : Items
      past = record { cells = items.cells; count = items.count; more = true }

      few_item : (b : Bool) → ltb items.count 128 ≡ b → (cond b more past).count ≤ 128
      few_item true e = (let h = ltb-true items.count 128 e in omega arith)
      few_item false e = so.few

      counted_item : (b : Bool) → ltb items.count 128 ≡ b → (cond b more past).count ≤ length (us ++ (t ∷ []))
      counted_item true e = omega (arith, size, so.counted)
      counted_item false e = omega (arith, size, so.counted)

      many_item : (b : Bool) → ltb items.count 128 ≡ b → (cond b more past).more ≡ true → 128 < length (us ++ (t ∷ []))
      many_item true e m = (let h = so.many m in omega (arith, size))
      many_item false e m = (let h = ltb-false items.count 128 e in omega (arith, size, so.counted))

      item : (trees : List Typed) (sound : Sound trees) (stored : Stored trees s) → after.full ≡ false → Listed (entered (l trees sound stored) (completed t)) us items →
          (b : Bool) → ltb items.count 128 ≡ b → Listed (entered (l trees sound stored) (completed t)) (us ++ (t ∷ [])) (cond b more past)
      item trees sound stored f (many m x y) true e = many m (omega (arith, size)) (let h = ltb-true items.count 128 e in omega arith)
      item trees sound stored f (many m x y) false e = many refl (omega (arith, size)) y
      item trees sound stored f (whole m x y z cells) false e = many refl (let h = ltb-false items.count 128 e in omega (arith, size)) so.few
      item trees sound stored f (whole m x y z cells) true e =
          whole m (omega (arith, size)) (let h = ltb-true items.count 128 e in omega (arith, size)) (length-set items.cells items.count cell ∙ z)
          (λ k h. elim (where_at us t k) [
            | old i w ↦ (let n : k ≡ items.count → ⊥ = λ w. absurd (omega arith) in
                get_or-set_other items.cells items.count k cell 0 n ∙ (cells k i ∙ ap (place (entered (l trees sound stored) (completed t))) (sym w)))
            | Where.new i w ↦ (let n : k ≡ items.count = omega arith in
                ap (λ j. get_or (set items.cells items.count cell) j 0) n ∙ (get_or-set_same items.cells items.count cell 0 (let r = ltb-true items.count 128 e in omega arith) ∙
                ((put trees sound stored).cell f ∙ ap (place (entered (l trees sound stored) (completed t))) (sym w))))
            | Where.past w i ↦ absurd (omega (arith, size))
          ])
