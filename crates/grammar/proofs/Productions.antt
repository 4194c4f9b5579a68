-- The productions of a message as phrases behind phrases, each with its first byte; what messages and lists begin with, and what follows lists.
use mathlib.Core.Path.{◌≡◌, refl}
use mathlib.Core.Logic.{inl, inr}
use mathlib.Core.List.{List, [], ◌∷◌, ◌++◌, head-eq_of_cons-eq}
use Prim.Native.Nat.{ℕ, suc}
use native.Mathlib.Omega.{arith}
use borrow.Author.Tests.{eqb-false}
use Rattle.grammar.specs.Grammar.{decimal, Message, atom, variable, apply, seal, group, Messages, last, more, bytes_of, nested, message_text, list_text}
use Rattle.grammar.specs.Reader.{Phrase, NoDigit, MessageEnds, number, message, list, token, then}
use Rattle.grammar.proofs.Apart.{list_ends, message_apart, list_apart}
use Rattle.grammar.proofs.Phrases.{Unique, Begins, Follows, Starts, begins_append}

pub message_unique : (d : ℕ) → Unique (message d)
message_unique d a a' x y X Y h k = elim (message_apart a a' d x y X Y h k) [ inl (t, u) ↦ inl t | inr p ↦ inr p ]

pub list_unique : (d : ℕ) → Unique (list d)
list_unique d a a' x y X Y h k = elim (list_apart a a' d x y X Y h k) [ inl (t, u) ↦ inl t | inr p ↦ inr p ]

-- ---- first bytes, and what follows a list

pub message_begins : (d : ℕ) → Begins (message d)
unfolding message_text
message_begins d (atom n h) = ((97, d), nested d (decimal n), refl)
message_begins d (variable n h) = ((88, d), nested d (decimal n), refl)
message_begins d (apply f h l) = ((102, d), _, refl)
message_begins d (seal l k) = ((123, d), _, refl)
message_begins d (group l) = ((40, d), _, refl)

pub list_begins : (d : ℕ) → Begins (list d)
unfolding message_text
list_begins d (last m) = message_begins d m
list_begins d (more m l) = begins_append (message_text m d) ((44, d) ∷ list_text l d) (message_begins d m)

-- What begins with a byte that ends every list.
pub follows_list : (d c e : ℕ) (l : List ℕ) (B : Phrase) → NoDigit c → (c ≡ 44 → ⊥) → Follows (list d) (then (token e (c ∷ l)) B)
follows_list d c e l B h n a b = ((c, e), nested e l ++ B.text b.1, refl, list_ends a c h n)

abbrev pub some_message : Message
some_message = atom 0 (omega arith)

abbrev pub some_list : Messages
some_list = last some_message

pub follows_close : (d c e : ℕ) (l : List ℕ) → NoDigit c → (c ≡ 44 → ⊥) → Follows (list d) (token e (c ∷ l))
follows_close d c e l h n a b = ((c, e), nested e l, refl, list_ends a c h n)

-- ---- messages, by their first byte

module _ (d : ℕ) where
  -- The productions.
  abbrev pub atoms : Phrase
  atoms = then (token d (97 ∷ [])) (number 65535 d)

  abbrev pub variables : Phrase
  variables = then (token d (88 ∷ [])) (number 65535 d)

  abbrev pub applys : Phrase
  applys = then (token d (102 ∷ [])) (then (number 255 d) (then (token d (40 ∷ [])) (then (list (suc d)) (token d (41 ∷ [])))))

  abbrev pub seals : Phrase
  seals = then (token d (123 ∷ [])) (then (token d (124 ∷ [])) (then (list (suc d)) (then (token d (124 ∷ [])) (then (token d (125 ∷ [])) (message (suc d))))))

  abbrev pub groups : Phrase
  groups = then (token d (40 ∷ [])) (then (list (suc d)) (token d (41 ∷ [])))

  abbrev pub atom_of : atoms.Of → Message
  atom_of q = atom q.1.0 q.1.1

  pub starts_atom : Starts atoms (message d) atom_of 97
  unfolding message_text
  starts_atom = record { text = λ q. refl; ends = λ q c h. h; back = back }
    where
      back : (p : Message) (c : ℕ) (beh rest : List ℕ) → MessageEnds p c → bytes_of (message_text p d) ++ (c ∷ beh) ≡ 97 ∷ rest →
          (q : atoms.Of) × (message_text p d ≡ atoms.text q) × atoms.Ends q c
      back (atom n k) c beh rest h e = ((tt, (n, k)), refl, h)
      back (variable n k) c beh rest h e = absurd (eqb-false 88 97 refl (head-eq_of_cons-eq e))
      back (apply f k l) c beh rest h e = absurd (eqb-false 102 97 refl (head-eq_of_cons-eq e))
      back (seal l k) c beh rest h e = absurd (eqb-false 123 97 refl (head-eq_of_cons-eq e))
      back (group l) c beh rest h e = absurd (eqb-false 40 97 refl (head-eq_of_cons-eq e))

  abbrev pub variable_of : variables.Of → Message
  variable_of q = variable q.1.0 q.1.1

  pub starts_variable : Starts variables (message d) variable_of 88
  unfolding message_text
  starts_variable = record { text = λ q. refl; ends = λ q c h. h; back = back }
    where
      back : (p : Message) (c : ℕ) (beh rest : List ℕ) → MessageEnds p c → bytes_of (message_text p d) ++ (c ∷ beh) ≡ 88 ∷ rest →
          (q : variables.Of) × (message_text p d ≡ variables.text q) × variables.Ends q c
      back (atom n k) c beh rest h e = absurd (eqb-false 97 88 refl (head-eq_of_cons-eq e))
      back (variable n k) c beh rest h e = ((tt, (n, k)), refl, h)
      back (apply f k l) c beh rest h e = absurd (eqb-false 102 88 refl (head-eq_of_cons-eq e))
      back (seal l k) c beh rest h e = absurd (eqb-false 123 88 refl (head-eq_of_cons-eq e))
      back (group l) c beh rest h e = absurd (eqb-false 40 88 refl (head-eq_of_cons-eq e))

  abbrev pub apply_of : applys.Of → Message
  apply_of q = apply q.1.0.0 q.1.0.1 q.1.1.1.0

  pub starts_apply : Starts applys (message d) apply_of 102
  unfolding message_text
  starts_apply = record { text = λ q. refl; ends = λ q c h. tt; back = back }
    where
      back : (p : Message) (c : ℕ) (beh rest : List ℕ) → MessageEnds p c → bytes_of (message_text p d) ++ (c ∷ beh) ≡ 102 ∷ rest →
          (q : applys.Of) × (message_text p d ≡ applys.text q) × applys.Ends q c
      back (atom n k) c beh rest h e = absurd (eqb-false 97 102 refl (head-eq_of_cons-eq e))
      back (variable n k) c beh rest h e = absurd (eqb-false 88 102 refl (head-eq_of_cons-eq e))
      back (apply f k l) c beh rest h e = ((tt, ((f, k), (tt, (l, tt)))), refl, tt)
      back (seal l k) c beh rest h e = absurd (eqb-false 123 102 refl (head-eq_of_cons-eq e))
      back (group l) c beh rest h e = absurd (eqb-false 40 102 refl (head-eq_of_cons-eq e))

  abbrev pub seal_of : seals.Of → Message
  seal_of q = seal q.1.1.0 q.1.1.1.1.1

  pub starts_seal : Starts seals (message d) seal_of 123
  unfolding message_text
  starts_seal = record { text = λ q. refl; ends = λ q c h. h; back = back }
    where
      back : (p : Message) (c : ℕ) (beh rest : List ℕ) → MessageEnds p c → bytes_of (message_text p d) ++ (c ∷ beh) ≡ 123 ∷ rest →
          (q : seals.Of) × (message_text p d ≡ seals.text q) × seals.Ends q c
      back (atom n k) c beh rest h e = absurd (eqb-false 97 123 refl (head-eq_of_cons-eq e))
      back (variable n k) c beh rest h e = absurd (eqb-false 88 123 refl (head-eq_of_cons-eq e))
      back (apply f k l) c beh rest h e = absurd (eqb-false 102 123 refl (head-eq_of_cons-eq e))
      back (seal l k) c beh rest h e = ((tt, (tt, (l, (tt, (tt, k))))), refl, h)
      back (group l) c beh rest h e = absurd (eqb-false 40 123 refl (head-eq_of_cons-eq e))

  abbrev pub group_of : groups.Of → Message
  group_of q = group q.1.0

  pub starts_group : Starts groups (message d) group_of 40
  unfolding message_text
  starts_group = record { text = λ q. refl; ends = λ q c h. tt; back = back }
    where
      back : (p : Message) (c : ℕ) (beh rest : List ℕ) → MessageEnds p c → bytes_of (message_text p d) ++ (c ∷ beh) ≡ 40 ∷ rest →
          (q : groups.Of) × (message_text p d ≡ groups.text q) × groups.Ends q c
      back (atom n k) c beh rest h e = absurd (eqb-false 97 40 refl (head-eq_of_cons-eq e))
      back (variable n k) c beh rest h e = absurd (eqb-false 88 40 refl (head-eq_of_cons-eq e))
      back (apply f k l) c beh rest h e = absurd (eqb-false 102 40 refl (head-eq_of_cons-eq e))
      back (seal l k) c beh rest h e = absurd (eqb-false 123 40 refl (head-eq_of_cons-eq e))
      back (group l) c beh rest h e = ((tt, (l, tt)), refl, tt)
