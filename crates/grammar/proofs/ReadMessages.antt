-- What the readers of numbers, messages, lists and lines find, case by case: a law for each return of a reader. All positions are those of the text s.
--
-- The reader of a message of the nesting d at i returns o with `Finds (message d) s i o`:
--   `read m j`   the bytes from i to j are those of m, none nested deeper than 16, and the byte at j does not go on with m; what it is, is for the caller to judge;
--   `wrong j`    byte j is at fault, or the text ends there: some message begins with the bytes before it, none with it;
--   `deep j`     byte j is the first nested deeper than 16, and some message begins with the bytes up to it.
-- The same holds of `list d`, of `line`, and of `number bound d`.
-- Tests of a byte: `has_byte`, `misses_past`, `misses_other` of Phrases turn `i < s.len()`, `s[i] == c`, `s[i] != c` into `Has s i c` and `Misses s i c`.
-- A number (ReadNumbers): `number_misses`, then `digits_first`, `digits_more`, and `number_stuck` or `number_reads`.
-- A message: `message_none`, `message_deep`; below 17 the laws that begin with atom-, variable-, apply-, seal-, group-.
-- A list (ReadLists): `list_wrong`, `list_deep`, `list_last`, `list_more`. For a loop `Listing d s i k ms`: what is found from k on is found from i on, with the messages ms before it.
-- A line and a text: ReadLines. What is entered into the table: Entering.
use mathlib.Core.Path.{◌≡◌, refl, sym, subst}
use mathlib.Core.List.{List, [], ◌∷◌, head-eq_of_cons-eq}
use Prim.Native.Nat.{ℕ, suc, ◌+◌, ◌≤◌, ◌<◌}
use native.Mathlib.Omega.{arith}
use lib.ListN.{drop}
use borrow.Author.Tests.{eqb-false}
use Rattle.model.proofs.Read.{clash}
use Rattle.grammar.specs.Grammar.{Message, atom, variable, apply, seal, group, Messages, message_text}
use Rattle.grammar.specs.Reader.{Phrase, number, message, list, token, then, Found, read, wrong, deep, Fails, Finds, fails, sinks}
use Rattle.grammar.proofs.Apart.{opening, closing, bar}
use Rattle.grammar.proofs.Phrases.{runs_none, behind, Begins, Follows, then_wrong, then_deep, then_found, begins_token, begins_then, follows_token}
use Rattle.grammar.proofs.Phrases.{Has, Misses, token_reads, token_misses, token_unique, found_as, starts_found}
use Rattle.grammar.proofs.ReadNumbers.{number_unique, number_begins}
use Rattle.grammar.proofs.Productions.{list_unique, message_begins, list_begins, follows_list, follows_close, some_message, some_list}
use Rattle.grammar.proofs.Productions.{atoms, variables, applys, seals, groups, atom_of, variable_of, apply_of, seal_of, group_of}
use Rattle.grammar.proofs.Productions.{starts_atom, starts_variable, starts_apply, starts_seal, starts_group}

-- The bytes that a message may begin with.
pub data Starter : ℕ → Type 0 where
  an_atom : Starter 97
  a_variable : Starter 88
  an_application : Starter 102
  a_seal : Starter 123
  a_group : Starter 40

module _ (s : List ℕ) (i d : ℕ) where
  pub message_none : Misses s i 97 → Misses s i 88 → Misses s i 102 → Misses s i 123 → Misses s i 40 → Finds (message d) s i (wrong i)
  unfolding message_text
  message_none a x f o g =
      fails i some_message [] (message_text some_message d) refl (runs_none s i) (λ e n. let (y, Y, t) = message_begins d some_message in clash (cc)) none
    where
      none : (b : ℕ) (t : List ℕ) → drop i s ≡ b ∷ t → Fails (message d) (b ∷ [])
      none b t e (atom n k) c beh rest h q = a b t e (sym (head-eq_of_cons-eq q))
      none b t e (variable n k) c beh rest h q = x b t e (sym (head-eq_of_cons-eq q))
      none b t e (apply n k l) c beh rest h q = f b t e (sym (head-eq_of_cons-eq q))
      none b t e (seal l k) c beh rest h q = o b t e (sym (head-eq_of_cons-eq q))
      none b t e (group l) c beh rest h q = g b t e (sym (head-eq_of_cons-eq q))

  -- Too deep, whatever follows.
  pub message_deep : {c : ℕ} → Starter c → 16 < d → Has s i c → Finds (message d) s i (deep i)
  unfolding message_text
  message_deep an_atom h e = sinks i some_message [] 97 d _ (drop (i + 1) s) refl (runs_none s i) h e
  message_deep a_variable h e = sinks i (variable 0 (omega arith)) [] 88 d _ (drop (i + 1) s) refl (runs_none s i) h e
  message_deep an_application h e = sinks i (apply 0 (omega arith) some_list) [] 102 d _ (drop (i + 1) s) refl (runs_none s i) h e
  message_deep a_seal h e = sinks i (seal some_list some_message) [] 123 d _ (drop (i + 1) s) refl (runs_none s i) h e
  message_deep a_group h e = sinks i (group some_list) [] 40 d _ (drop (i + 1) s) refl (runs_none s i) h e

  module _ (h : d ≤ 16) where
    -- Behind a token that was read.
    past : (c : ℕ) (B : Phrase) → Begins B → B.Of → (k : ℕ) (o : Found B.Of) → Has s k c → Finds B s (k + 1) o → Finds (then (token d (c ∷ [])) B) s k (behind tt o)
    past c B begins some k o e f =
        then_found (token d (c ∷ [])) B (follows_token d (c ∷ []) B begins) some (token_unique d (c ∷ [])) s k (k + 1) tt o (token_reads s k c d h e) f

    -- A token that is missing.
    missing : (c : ℕ) (B : Phrase) → Begins B → B.Of → (k : ℕ) → Misses s k c → Finds (then (token d (c ∷ [])) B) s k (wrong k)
    missing c B begins some k m = then_wrong (token d (c ∷ [])) B (follows_token d (c ∷ []) B begins) some s k k (token_misses s k c d m)

    -- ---- atoms and variables

    pub atom_reads : (n : ℕ) (k : n ≤ 65535) (j : ℕ) → Has s i 97 → Finds (number 65535 d) s (i + 1) (read (n, k) j) → Finds (message d) s i (read (atom n k) j)
    atom_reads n k j e f =
        starts_found (atoms d) (message d) (atom_of d) 97 (starts_atom d) s i (read (tt, (n, k)) j) e (past 97 (number 65535 d) (number_begins 65535 d) (0, omega arith) i (read (n, k) j) e f)

    pub atom_wrong : (j : ℕ) → Has s i 97 → Finds (number 65535 d) s (i + 1) (wrong j) → Finds (message d) s i (wrong j)
    atom_wrong j e f =
        starts_found (atoms d) (message d) (atom_of d) 97 (starts_atom d) s i (wrong j) e (past 97 (number 65535 d) (number_begins 65535 d) (0, omega arith) i (wrong j) e f)

    pub variable_reads : (n : ℕ) (k : n ≤ 65535) (j : ℕ) → Has s i 88 → Finds (number 65535 d) s (i + 1) (read (n, k) j) → Finds (message d) s i (read (variable n k) j)
    variable_reads n k j e f =
        starts_found (variables d) (message d) (variable_of d) 88 (starts_variable d) s i (read (tt, (n, k)) j) e
        (past 88 (number 65535 d) (number_begins 65535 d) (0, omega arith) i (read (n, k) j) e f)

    pub variable_wrong : (j : ℕ) → Has s i 88 → Finds (number 65535 d) s (i + 1) (wrong j) → Finds (message d) s i (wrong j)
    variable_wrong j e f =
        starts_found (variables d) (message d) (variable_of d) 88 (starts_variable d) s i (wrong j) e (past 88 (number 65535 d) (number_begins 65535 d) (0, omega arith) i (wrong j) e f)

    -- ---- a list and its closing bracket, from k on

    abbrev Inside : Phrase
    Inside = then (list (suc d)) (token d (41 ∷ []))

    inside_wrong : (k j : ℕ) → Finds (list (suc d)) s k (wrong j) → Finds Inside s k (wrong j)
    inside_wrong k j f = then_wrong (list (suc d)) (token d (41 ∷ [])) (follows_close (suc d) 41 d [] closing (eqb-false 41 44 refl)) tt s k j f

    inside_deep : (k j : ℕ) → Finds (list (suc d)) s k (deep j) → Finds Inside s k (deep j)
    inside_deep k j f = then_deep (list (suc d)) (token d (41 ∷ [])) (follows_close (suc d) 41 d [] closing (eqb-false 41 44 refl)) tt s k j f

    inside_found : (k j : ℕ) (l : Messages) (o : Found Unit) → Finds (list (suc d)) s k (read l j) → Finds (token d (41 ∷ [])) s j o → Finds Inside s k (behind l o)
    inside_found k j l o f g = then_found (list (suc d)) (token d (41 ∷ [])) (follows_close (suc d) 41 d [] closing (eqb-false 41 44 refl)) tt (list_unique (suc d)) s k j l o f g

    inside_open : (k j : ℕ) (l : Messages) → Finds (list (suc d)) s k (read l j) → Misses s j 41 → Finds Inside s k (wrong j)
    inside_open k j l f m = inside_found k j l (wrong j) f (token_misses s j 41 d m)

    inside_reads : (k j : ℕ) (l : Messages) → Finds (list (suc d)) s k (read l j) → Has s j 41 → Finds Inside s k (read (l, tt) (j + 1))
    inside_reads k j l f e = inside_found k j l (read tt (j + 1)) f (token_reads s j 41 d h e)

    -- ---- groups

    module _ (e : Has s i 40) where
      group_found : (o : Found Inside.Of) → Finds Inside s (i + 1) o → Finds (message d) s i (found_as (group_of d) (behind tt o))
      group_found o f =
          starts_found (groups d) (message d) (group_of d) 40 (starts_group d) s i (behind tt o) e
          (past 40 Inside (begins_then (list (suc d)) (token d (41 ∷ [])) (list_begins (suc d))) (some_list, tt) i o e f)

      pub group_wrong : (j : ℕ) → Finds (list (suc d)) s (i + 1) (wrong j) → Finds (message d) s i (wrong j)
      group_wrong j f = group_found (wrong j) (inside_wrong (i + 1) j f)

      pub group_deep : (j : ℕ) → Finds (list (suc d)) s (i + 1) (deep j) → Finds (message d) s i (deep j)
      group_deep j f = group_found (deep j) (inside_deep (i + 1) j f)

      pub group_open : (j : ℕ) (l : Messages) → Finds (list (suc d)) s (i + 1) (read l j) → Misses s j 41 → Finds (message d) s i (wrong j)
      group_open j l f m = group_found (wrong j) (inside_open (i + 1) j l f m)

      pub group_reads : (j : ℕ) (l : Messages) → Finds (list (suc d)) s (i + 1) (read l j) → Has s j 41 → Finds (message d) s i (read (group l) (j + 1))
      group_reads j l f c = group_found (read (l, tt) (j + 1)) (inside_reads (i + 1) j l f c)

    -- ---- applications

    module _ (e : Has s i 102) where
      abbrev Argument : Phrase
      Argument = then (token d (40 ∷ [])) Inside

      begins_inside : Begins Inside
      begins_inside = begins_then (list (suc d)) (token d (41 ∷ [])) (list_begins (suc d))

      follows_number : Follows (number 255 d) Argument
      follows_number a b = ((40, d), Inside.text b.1, refl, opening)

      apply_found : (o : Found (then (number 255 d) Argument).Of) → Finds (then (number 255 d) Argument) s (i + 1) o → Finds (message d) s i (found_as (apply_of d) (behind tt o))
      apply_found o f =
          starts_found (applys d) (message d) (apply_of d) 102 (starts_apply d) s i (behind tt o) e
          (past 102 (then (number 255 d) Argument) (begins_then (number 255 d) Argument (number_begins 255 d)) ((0, omega arith), (tt, (some_list, tt))) i o e f)

      pub apply_number : (j : ℕ) → Finds (number 255 d) s (i + 1) (wrong j) → Finds (message d) s i (wrong j)
      apply_number j f = apply_found (wrong j) (then_wrong (number 255 d) Argument follows_number (tt, (some_list, tt)) s (i + 1) j f)

      module _ (j n : ℕ) (k : n ≤ 255) (f : Finds (number 255 d) s (i + 1) (read (n, k) j)) where
        apply_argument : (o : Found Argument.Of) → Finds Argument s j o → Finds (message d) s i (found_as (apply_of d) (behind tt (behind (n, k) o)))
        apply_argument o g = apply_found (behind (n, k) o) (then_found (number 255 d) Argument follows_number (tt, (some_list, tt)) (number_unique 255 d) s (i + 1) j (n, k) o f g)

        pub apply_bare : Misses s j 40 → Finds (message d) s i (wrong j)
        apply_bare m = apply_argument (wrong j) (missing 40 Inside begins_inside (some_list, tt) j m)

        module _ (b : Has s j 40) where
          apply_inside : (o : Found Inside.Of) → Finds Inside s (j + 1) o → Finds (message d) s i (found_as (apply_of d) (behind tt (behind (n, k) (behind tt o))))
          apply_inside o g = apply_argument (behind tt o) (past 40 Inside begins_inside (some_list, tt) j o b g)

          pub apply_wrong : (p : ℕ) → Finds (list (suc d)) s (j + 1) (wrong p) → Finds (message d) s i (wrong p)
          apply_wrong p g = apply_inside (wrong p) (inside_wrong (j + 1) p g)

          pub apply_deep : (p : ℕ) → Finds (list (suc d)) s (j + 1) (deep p) → Finds (message d) s i (deep p)
          apply_deep p g = apply_inside (deep p) (inside_deep (j + 1) p g)

          pub apply_open : (p : ℕ) (l : Messages) → Finds (list (suc d)) s (j + 1) (read l p) → Misses s p 41 → Finds (message d) s i (wrong p)
          apply_open p l g m = apply_inside (wrong p) (inside_open (j + 1) p l g m)

          pub apply_reads : (p : ℕ) (l : Messages) → Finds (list (suc d)) s (j + 1) (read l p) → Has s p 41 → Finds (message d) s i (read (apply n k l) (p + 1))
          apply_reads p l g c = apply_inside (read (l, tt) (p + 1)) (inside_reads (j + 1) p l g c)

    -- ---- seals

    module _ (e : Has s i 123) where
      abbrev Key : Phrase
      Key = then (token d (125 ∷ [])) (message (suc d))

      abbrev Lid : Phrase
      Lid = then (token d (124 ∷ [])) Key

      abbrev Body : Phrase
      Body = then (list (suc d)) Lid

      begins_key : Begins Key
      begins_key = begins_then (token d (125 ∷ [])) (message (suc d)) (begins_token d 125 [])

      begins_body : Begins Body
      begins_body = begins_then (list (suc d)) Lid (list_begins (suc d))

      follows_body : Follows (list (suc d)) Lid
      follows_body = follows_list (suc d) 124 d [] Key bar (eqb-false 124 44 refl)

      two : (k : ℕ) → k + 1 + 1 ≡ k + 2
      two k = omega arith

      seal_found : (o : Found (then (token d (124 ∷ [])) Body).Of) → Finds (then (token d (124 ∷ [])) Body) s (i + 1) o → Finds (message d) s i (found_as (seal_of d) (behind tt o))
      seal_found o f =
          starts_found (seals d) (message d) (seal_of d) 123 (starts_seal d) s i (behind tt o) e
          (past 123 (then (token d (124 ∷ [])) Body) (begins_then (token d (124 ∷ [])) Body (begins_token d 124 [])) (tt, (some_list, (tt, (tt, some_message)))) i o e f)

      pub seal_bare : Misses s (i + 1) 124 → Finds (message d) s i (wrong (i + 1))
      seal_bare m = seal_found (wrong (i + 1)) (missing 124 Body begins_body (some_list, (tt, (tt, some_message))) (i + 1) m)

      module _ (b : Has s (i + 1) 124) where
        seal_body : (o : Found Body.Of) → Finds Body s (i + 2) o → Finds (message d) s i (found_as (seal_of d) (behind tt (behind tt o)))
        seal_body o f = seal_found (behind tt o) (past 124 Body begins_body (some_list, (tt, (tt, some_message))) (i + 1) o b (subst (λ k. Finds Body s k o) (sym (two i)) f))

        pub seal_wrong : (j : ℕ) → Finds (list (suc d)) s (i + 2) (wrong j) → Finds (message d) s i (wrong j)
        seal_wrong j f = seal_body (wrong j) (then_wrong (list (suc d)) Lid follows_body (tt, (tt, some_message)) s (i + 2) j f)

        pub seal_deep : (j : ℕ) → Finds (list (suc d)) s (i + 2) (deep j) → Finds (message d) s i (deep j)
        seal_deep j f = seal_body (deep j) (then_deep (list (suc d)) Lid follows_body (tt, (tt, some_message)) s (i + 2) j f)

        module _ (j : ℕ) (l : Messages) (f : Finds (list (suc d)) s (i + 2) (read l j)) where
          seal_lid : (o : Found Lid.Of) → Finds Lid s j o → Finds (message d) s i (found_as (seal_of d) (behind tt (behind tt (behind l o))))
          seal_lid o g = seal_body (behind l o) (then_found (list (suc d)) Lid follows_body (tt, (tt, some_message)) (list_unique (suc d)) s (i + 2) j l o f g)

          pub seal_open : Misses s j 124 → Finds (message d) s i (wrong j)
          seal_open m = seal_lid (wrong j) (missing 124 Key begins_key (tt, some_message) j m)

          module _ (c : Has s j 124) where
            seal_end : (o : Found Key.Of) → Finds Key s (j + 1) o → Finds (message d) s i (found_as (seal_of d) (behind tt (behind tt (behind l (behind tt o)))))
            seal_end o g = seal_lid (behind tt o) (past 124 Key begins_key (tt, some_message) j o c g)

            pub seal_half : Misses s (j + 1) 125 → Finds (message d) s i (wrong (j + 1))
            seal_half m = seal_end (wrong (j + 1)) (missing 125 (message (suc d)) (message_begins (suc d)) some_message (j + 1) m)

            module _ (z : Has s (j + 1) 125) where
              seal_key : (o : Found Message) → Finds (message (suc d)) s (j + 2) o → Finds (message d) s i (found_as (seal_of d) (behind tt (behind tt (behind l (behind tt (behind tt o))))))
              seal_key o g =
                  seal_end (behind tt o)
                  (past 125 (message (suc d)) (message_begins (suc d)) some_message (j + 1) o z (subst (λ k. Finds (message (suc d)) s k o) (sym (two j)) g))

              pub seal_key_wrong : (p : ℕ) → Finds (message (suc d)) s (j + 2) (wrong p) → Finds (message d) s i (wrong p)
              seal_key_wrong p g = seal_key (wrong p) g

              pub seal_key_deep : (p : ℕ) → Finds (message (suc d)) s (j + 2) (deep p) → Finds (message d) s i (deep p)
              seal_key_deep p g = seal_key (deep p) g

              pub seal_reads : (p : ℕ) (k : Message) → Finds (message (suc d)) s (j + 2) (read k p) → Finds (message d) s i (read (seal l k) p)
              seal_reads p k g = seal_key (read k p) g
