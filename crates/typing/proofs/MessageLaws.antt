-- What the readers of messages and lists find, return by return.
use mathlib.Core.Path.{◌≡◌, refl, sym, ◌∙◌, ap, subst}
use mathlib.Core.List.{List, [], ◌∷◌, ◌++◌, map}
use Rattle.std.specs.Prelude.{Some, None, Ok, Err}
use Prim.Native.Nat.{ℕ, suc, ◌+◌, ◌-◌, ◌≤◌, ◌<◌}
use native.Mathlib.Omega.{arith}
use native.Mathlib.Decide.{dec_lt}
use lib.ListN.{length, get_or}
use Rattle.model.specs.Case.{AT, VA, SE, AP}
use Rattle.model.specs.Stored.{word_of}
use Rattle.grammar.specs.Grammar.{Message, atom, variable, apply, seal, group, last, message_says, list_says}
use Rattle.grammar.specs.Reader.{Phrase, Finds, read, wrong, deep, message, list, joins}
use Rattle.grammar.proofs.Phrases.{Has, Misses, has_byte, misses_past, misses_other}
use Rattle.grammar.proofs.ReadMessages.{an_atom, a_variable, an_application, a_seal, a_group, message_none, message_deep, atom_reads, atom_wrong, variable_reads, variable_wrong, group_wrong, group_deep, group_open, group_reads, apply_number, apply_bare, apply_wrong, apply_deep, apply_open, apply_reads, seal_bare, seal_wrong, seal_deep, seal_open, seal_half, seal_key_wrong, seal_key_deep, seal_reads}
use Rattle.grammar.proofs.ReadLists.{list_wrong, list_deep, list_last, Listing, listing_none, listing_more}
use Rattle.grammar.proofs.Entering.{message_small, list_small, joins_says, last_says}
use Rattle.refusals.specs.declared.Fault.TheVariants.{TooDeep}
use Rattle.refusals.specs.declared.Refusal.{Refusal}
use Rattle.typing.specs.declared.store.Store.{Store}
use Rattle.typing.specs.declared.store.Items.{Items}
use Rattle.typing.specs.declared.message.Lead.{Lead}
use Rattle.typing.specs.declared.message.Lead.TheVariants as lead
use Rattle.typing.specs.Store.{Put, put, Enters, no_items, with_item, right_of, PairsUp}
use Rattle.typing.specs.Readers.{wrong_at, Misread, wrong_byte, too_deep, NumberRead, PastByte, LeadAt, Completes, MessageRead, ListRead}
use Rattle.typing.proofs.Completing.{completes_name, completes_variable, completes_one, completes_seal, right_same, SoFar, sofar_none, sofar_more, completes_list}

-- ---- bytes and replies

-- The byte c stands at i.
abbrev pub Byte : List ℕ → ℕ → ℕ → Type 0
Byte s i c = (i < length s) × (get_or s i 0 ≡ c)

pub byte_has : (s : List ℕ) (i c : ℕ) → Byte s i c → Has s i c
byte_has s i c (h, e) = has_byte s i c h e

pub byte_misses : (s : List ℕ) (i c : ℕ) → (Byte s i c → ⊥) → Misses s i c
byte_misses s i c n = elim (dec_lt i (length s)) [ yes h ↦ misses_other s i c (λ e. n (h, e)) | no h ↦ misses_past s i c (omega arith) ]

module _ (P : Phrase) (s : List ℕ) (at : ℕ) where
  pub misread_wrong : (p : ℕ) (r : Refusal) → r ≡ wrong_at p → Finds P s at (wrong p) → Misread P s at r
  misread_wrong p r e f = subst (Misread P s at) (sym e) (wrong_byte p f)

  -- A part that was not read: the fault is the whole's.
  pub misread_part : (Q : Phrase) (i : ℕ) (r : Refusal) → Misread Q s i r → ((p : ℕ) → Finds Q s i (wrong p) → Finds P s at (wrong p)) → ((p : ℕ) → Finds Q s i (deep p) → Finds P s at (deep p)) →
      Misread P s at r
  misread_part Q i _ (wrong_byte p f) w d = wrong_byte p (w p f)
  misread_part Q i _ (too_deep p f) w d = too_deep p (d p f)

-- ---- atoms and variables

module _ (s : List ℕ) (at d : ℕ) (h : d ≤ 16) where
  pub atom_none : Byte s at 97 → (r : Refusal) → NumberRead s (at + 1) 65535 (Err r) → Misread (message d) s at r
  atom_none b r (e, f) = misread_wrong (message d) s at r.place r e (atom_wrong s at d h r.place (byte_has s at 97 b) (f d h))

  pub atom_done : Byte s at 97 → (before : Store) (v to word : ℕ) (p : Put) → NumberRead s (at + 1) 65535 (Ok (v, to)) → Enters before word p → word ≡ word_of (AT v) → MessageRead s at d before (Ok (to, p.cell)) p.store
  unfolding message_says
  atom_done b before v to word p (k, g) put w = (atom v k, atom_reads s at d h v k to (byte_has s at 97 b) (g d h), completes_name before v word k p put w)

  pub variable_none : Byte s at 88 → (r : Refusal) → NumberRead s (at + 1) 65535 (Err r) → Misread (message d) s at r
  variable_none b r (e, f) = misread_wrong (message d) s at r.place r e (variable_wrong s at d h r.place (byte_has s at 88 b) (f d h))

  pub variable_done : Byte s at 88 → (before : Store) (v to word : ℕ) (p : Put) → NumberRead s (at + 1) 65535 (Ok (v, to)) → Enters before (word + v) p → word ≡ word_of VA → MessageRead s at d before (Ok (to, p.cell)) p.store
  unfolding message_says
  variable_done b before v to word p (k, g) put w = (variable v k, variable_reads s at d h v k to (byte_has s at 88 b) (g d h), completes_variable before v (word + v) k p put (ap (λ x. x + v) w))

-- With so much nesting still allowed, the nesting here and that of a part.
module _ (s : List ℕ) (at left : ℕ) (some : 0 < left) (most : left ≤ 17) where
  abbrev d : ℕ
  d = 17 - left

  abbrev k : ℕ
  k = 17 - (left - 1)

  h : d ≤ 16
  h = omega arith

  z : k ≡ suc d
  z = omega arith

  -- The same of what is found one deeper, at its place.
  list_at : (i j : ℕ) → i ≡ j → (r : Refusal) → Misread (list k) s i r → Misread (list (suc d)) s j r
  list_at i j e r m = subst (λ x. Misread (list x) s j r) z (subst (λ x. Misread (list k) s x r) e m)

  list_is : (i j : ℕ) → i ≡ j → (before : Store) (to cell : ℕ) (after : Store) → ListRead s i k before (Ok (to, cell)) after → ListRead s j (suc d) before (Ok (to, cell)) after
  list_is i j e before to cell after m = subst (λ x. ListRead s j x before (Ok (to, cell)) after) z (subst (λ x. ListRead s x k before (Ok (to, cell)) after) e m)

  -- ---- groups

  module _ (here : Byte s at 40) where
    pub group_else : (r : Refusal) → Misread (list k) s (at + 1) r → Misread (message d) s at r
    group_else r m =
        misread_part (message d) s at (list (suc d)) (at + 1) r (list_at (at + 1) (at + 1) refl r m) (λ p. group_wrong s at d h (byte_has s at 40 here) p) (λ p. group_deep s at d h (byte_has s at 40 here) p)

    module _ (before after : Store) (to cell : ℕ) (inner : ListRead s (at + 1) k before (Ok (to, cell)) after) where
      got : ListRead s (at + 1) (suc d) before (Ok (to, cell)) after
      got = list_is (at + 1) (at + 1) refl before to cell after inner

      pub group_stuck : (r : Refusal) → PastByte s to 41 (Err r) → Misread (message d) s at r
      group_stuck r (n, e) = misread_wrong (message d) s at to r e (group_open s at d h (byte_has s at 40 here) to got.0 got.1 (byte_misses s to 41 n))

      pub group_done : (end : ℕ) → PastByte s to 41 (Ok end) → MessageRead s at d before (Ok (end, cell)) after
      unfolding message_says
      group_done end (i, y, w) = subst (λ x. MessageRead s at d before (Ok (x, cell)) after) (sym w) (group got.0, group_reads s at d h (byte_has s at 40 here) to got.0 got.1 (byte_has s to 41 (i, y)), got.2)

  -- ---- applications

  module _ (here : Byte s at 102) where
    pub apply_none : (r : Refusal) → NumberRead s (at + 1) 255 (Err r) → Misread (message d) s at r
    apply_none r (e, f) = misread_wrong (message d) s at r.place r e (apply_number s at d h (byte_has s at 102 here) r.place (f d h))

    module _ (g spot : ℕ) (number_is : NumberRead s (at + 1) 255 (Ok (g, spot))) where
      pub apply_unopened : (r : Refusal) → PastByte s spot 40 (Err r) → Misread (message d) s at r
      apply_unopened r (n, e) = misread_wrong (message d) s at spot r e (apply_bare s at d h (byte_has s at 102 here) spot g number_is.0 (number_is.1 d h) (byte_misses s spot 40 n))

      module _ (inner_at : ℕ) (b : PastByte s spot 40 (Ok inner_at)) where
        pub apply_else : (r : Refusal) → Misread (list k) s inner_at r → Misread (message d) s at r
        apply_else r m =
            misread_part (message d) s at (list (suc d)) (spot + 1) r (list_at inner_at (spot + 1) b.2 r m)
            (λ p. apply_wrong s at d h (byte_has s at 102 here) spot g number_is.0 (number_is.1 d h) (byte_has s spot 40 (b.0, b.1)) p)
            (λ p. apply_deep s at d h (byte_has s at 102 here) spot g number_is.0 (number_is.1 d h) (byte_has s spot 40 (b.0, b.1)) p)

        module _ (before after : Store) (to cell : ℕ) (inner : ListRead s inner_at k before (Ok (to, cell)) after) where
          argument : ListRead s (spot + 1) (suc d) before (Ok (to, cell)) after
          argument = list_is inner_at (spot + 1) b.2 before to cell after inner

          pub apply_stuck : (r : Refusal) → PastByte s to 41 (Err r) → Misread (message d) s at r
          apply_stuck r (n, e) =
              misread_wrong (message d) s at to r e
              (apply_open s at d h (byte_has s at 102 here) spot g number_is.0 (number_is.1 d h) (byte_has s spot 40 (b.0, b.1)) to argument.0 argument.1 (byte_misses s to 41 n))

          pub apply_done : (end word : ℕ) (p : Put) → PastByte s to 41 (Ok end) → Enters after word p → word ≡ word_of (AP g cell) → MessageRead s at d before (Ok (end, p.cell)) p.store
          unfolding message_says
          apply_done end word p (i, y, w) put v =
              subst (λ x. MessageRead s at d before (Ok (x, p.cell)) p.store) (sym w) (
                apply g number_is.0 argument.0,
                apply_reads s at d h (byte_has s at 102 here) spot g number_is.0 (number_is.1 d h) (byte_has s spot 40 (b.0, b.1)) to argument.0 argument.1 (byte_has s to 41 (i, y)),
                completes_one before (list_says argument.0) after cell g word p (list_small argument.0) number_is.0 argument.2 v put,
              )

  -- ---- seals

  module _ (here : Byte s at 123) where
    pub seal_unopened : (r : Refusal) → PastByte s (at + 1) 124 (Err r) → Misread (message d) s at r
    seal_unopened r (n, e) = misread_wrong (message d) s at (at + 1) r e (seal_bare s at d h (byte_has s at 123 here) (byte_misses s (at + 1) 124 n))

    module _ (inner_at : ℕ) (b : PastByte s (at + 1) 124 (Ok inner_at)) where
      inside : inner_at ≡ at + 2
      inside = omega (arith, b.2)

      bar_is : Has s (at + 1) 124
      bar_is = byte_has s (at + 1) 124 (b.0, b.1)

      pub seal_else : (r : Refusal) → Misread (list k) s inner_at r → Misread (message d) s at r
      seal_else r m =
          misread_part (message d) s at (list (suc d)) (at + 2) r (list_at inner_at (at + 2) inside r m)
          (λ p. seal_wrong s at d h (byte_has s at 123 here) bar_is p) (λ p. seal_deep s at d h (byte_has s at 123 here) bar_is p)

      module _ (before mid : Store) (to body : ℕ) (inner : ListRead s inner_at k before (Ok (to, body)) mid) where
        sealed_list : ListRead s (at + 2) (suc d) before (Ok (to, body)) mid
        sealed_list = list_is inner_at (at + 2) inside before to body mid inner

        pub seal_stuck : (r : Refusal) → PastByte s to 124 (Err r) → Misread (message d) s at r
        seal_stuck r (n, e) =
            misread_wrong (message d) s at to r e
            (seal_open s at d h (byte_has s at 123 here) bar_is to sealed_list.0 sealed_list.1 (byte_misses s to 124 n))

        module _ (bar : ℕ) (c : PastByte s to 124 (Ok bar)) where
          pub seal_halved : (r : Refusal) → PastByte s bar 125 (Err r) → Misread (message d) s at r
          seal_halved r (n, e) =
              misread_wrong (message d) s at (to + 1) r (e ∙ ap wrong_at c.2)
              (seal_half s at d h (byte_has s at 123 here) bar_is to sealed_list.0 sealed_list.1 (byte_has s to 124 (c.0, c.1)) (byte_misses s (to + 1) 125 (subst (λ x. Byte s x 125 → ⊥) c.2 n)))

          module _ (brace : ℕ) (y : PastByte s bar 125 (Ok brace)) where
            closed : Has s (to + 1) 125
            closed = byte_has s (to + 1) 125 (subst (λ x. Byte s x 125) c.2 (y.0, y.1))

            behind : brace ≡ to + 2
            behind = omega (arith, y.2, c.2)

            pub seal_unkeyed : (r : Refusal) → Misread (message k) s brace r → Misread (message d) s at r
            seal_unkeyed r m =
                misread_part (message d) s at (message (suc d)) (to + 2) r (subst (λ x. Misread (message x) s (to + 2) r) z (subst (λ x. Misread (message k) s x r) behind m))
                (λ p. seal_key_wrong s at d h (byte_has s at 123 here) bar_is to sealed_list.0 sealed_list.1 (byte_has s to 124 (c.0, c.1)) closed p)
                (λ p. seal_key_deep s at d h (byte_has s at 123 here) bar_is to sealed_list.0 sealed_list.1 (byte_has s to 124 (c.0, c.1)) closed p)

            pub seal_done : (end key word : ℕ) (after : Store) (p : Put) → MessageRead s brace k mid (Ok (end, key)) after → Enters after word p → word ≡ word_of (SE body key) →
                MessageRead s at d before (Ok (end, p.cell)) p.store
            unfolding message_says
            seal_done end key word after p q put v =
                let (m, f, comp) = subst (λ x. MessageRead s (to + 2) x mid (Ok (end, key)) after) z (subst (λ x. MessageRead s x k mid (Ok (end, key)) after) behind q) in (
                  seal sealed_list.0 m,
                  seal_reads s at d h (byte_has s at 123 here) bar_is to sealed_list.0 sealed_list.1 (byte_has s to 124 (c.0, c.1)) closed end m f,
                  completes_seal before (list_says sealed_list.0) (message_says m) mid after body key word p (list_small sealed_list.0) (message_small m) sealed_list.2 comp v put,
                )

-- ---- by the first byte

module _ (s : List ℕ) (at d : ℕ) where
  pub lead_none : LeadAt s at None → (r : Refusal) → r ≡ wrong_at at → Misread (message d) s at r
  lead_none n r w =
      misread_wrong (message d) s at at r w
      (message_none s at d (byte_misses s at 97 (λ b. (n b.0).0 b.1)) (byte_misses s at 88 (λ b. (n b.0).1 b.1)) (byte_misses s at 102 (λ b. (n b.0).2 b.1))
      (byte_misses s at 123 (λ b. (n b.0).3 b.1)) (byte_misses s at 40 (λ b. (n b.0).4 b.1)))

  -- A message may begin there, one deeper than 16.
  pub lead_deep : (l : Lead) → LeadAt s at (Some l) → 16 < d → Misread (message d) s at (record { fault = TooDeep; place = at })
  lead_deep lead.Atom b h = too_deep at (message_deep s at d an_atom h (byte_has s at 97 b))
  lead_deep lead.Variable b h = too_deep at (message_deep s at d a_variable h (byte_has s at 88 b))
  lead_deep lead.Apply b h = too_deep at (message_deep s at d an_application h (byte_has s at 102 b))
  lead_deep lead.Seal b h = too_deep at (message_deep s at d a_seal h (byte_has s at 123 b))
  lead_deep lead.Group b h = too_deep at (message_deep s at d a_group h (byte_has s at 40 b))

-- ---- lists

-- The messages before i are read and entered.
pub record ListAt (s : List ℕ) (at d : ℕ) (before : Store) (i : ℕ) (now : Store) (items : Items) : Type 0 where
  pub messages : List Message
  pub listing : Listing d s at i messages
  pub sofar : SoFar before (map message_says messages) now items
  pub within : i ≤ length s

pub list_start : (s : List ℕ) (at d : ℕ) (before : Store) (items : Items) → items ≡ no_items → at ≤ length s → ListAt s at d before at before items
list_start s at d before items e h = record { messages = []; listing = listing_none d s at; sofar = subst (SoFar before [] before) (sym e) (sofar_none before); within = h }

map_snoc : (ms : List Message) (m : Message) → map message_says (ms ++ (m ∷ [])) ≡ map message_says ms ++ (message_says m ∷ [])
map_snoc [] m = refl
map_snoc (n ∷ ms) m = ap (λ l. message_says n ∷ l) (map_snoc ms m)

module _ (s : List ℕ) (at d : ℕ) (before : Store) (i : ℕ) (cells : Store) (items : Items) (a : ListAt s at d before i cells items) where
  pub list_else : (r : Refusal) → Misread (message d) s i r → Misread (list d) s at r
  list_else r m = misread_part (list d) s at (message d) i r m (λ p f. a.listing (wrong p) (list_wrong s d i p f)) (λ p f. a.listing (deep p) (list_deep s d i p f))

  module _ (to cell : ℕ) (after : Store) (item : MessageRead s i d cells (Ok (to, cell)) after) where
    pub list_done : (p : Put) → PairsUp after items cell p → (Byte s to 44 → ⊥) → ListRead s at d before (Ok (to, p.cell)) p.store
    list_done p pairs n = (
      joins a.messages (last item.0),
      a.listing (read (last item.0) to) (list_last s d i to item.0 item.1 (byte_misses s to 44 n)),
      subst (λ t. Completes before t p.store p.cell) says
          (completes_list before (map message_says a.messages) cells items a.sofar (message_says item.0) (message_small item.0) after cell item.2 p pairs),
    )
      where
        says : right_of (map message_says a.messages) (message_says item.0) ≡ list_says (joins a.messages (last item.0))
        says = sym (joins_says a.messages (last item.0) ∙ (right_same (map message_says a.messages) (list_says (last item.0)) ∙ ap (right_of (map message_says a.messages)) (last_says item.0)))

    pub list_next : (next : Items) → next ≡ with_item items cell → Byte s to 44 → ListAt s at d before (to + 1) after next
    list_next next w b = record {
      messages = a.messages ++ (item.0 ∷ []);
      listing = listing_more d s at i to a.messages item.0 a.listing item.1 (byte_has s to 44 b);
      sofar = subst (SoFar before (map message_says (a.messages ++ (item.0 ∷ []))) after) (sym w) (subst (λ us. SoFar before us after (with_item items cell)) (sym (map_snoc a.messages item.0))
          (sofar_more before (map message_says a.messages) cells items a.sofar (message_says item.0) (message_small item.0) after cell item.2));
      within = omega (arith, b.0);
    }
