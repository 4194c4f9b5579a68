-- From what is read of the bytes and what the classes say to the promise; and that the promise settles the reply.
use mathlib.Core.Path.{◌≡◌, refl, sym, ◌∙◌, ap, subst}
use mathlib.Core.List.{List}
use mathlib.Core.Logic.{◌⊎◌, inl, inr}
use Prim.Native.Nat.{ℕ, ◌≤◌, ◌<◌}
use native.Mathlib.Decide.{dec_lt}
use native.Mathlib.Omega.{arith}
use lib.ListN.{length, take, drop}
use Rattle.model.specs.Message.{Message}
use Rattle.model.specs.Case.{File, Table, table_of, message}
use Rattle.model.specs.Values.{EquatingList}
use Rattle.model.specs.Format.{read_file, Reading, refused, accepted}
use Rattle.model.specs.Stored.{table_in}
use Rattle.model.specs.Replies.{EquatedBy, NeverEqual, laid, SameButList}
use Rattle.model.proofs.Read.{clash}
use Rattle.model.proofs.Accepted.{Bytes, accepted_file}
use Rattle.model.proofs.Stored.{laid_front, laid_beyond}
use Rattle.model.proofs.Settled.{NoOrList, refusals_alike, answers_alike}
use Rattle.casefile.specs.declared.Case.{Case}
use Rattle.casefile.proofs.CaseFile.{CaseFile, case_words, case_count, case_table}
use Rattle.theory.specs.Cells.{class_at}
use Rattle.classes.specs.Kept.{Never}
use Rattle.classes.specs.Settle.{Unified}
use Rattle.classes.specs.Twins.{Start}
use Rattle.std.specs.Prelude.{Option, Some, None, Result, Ok}
use Rattle.refusals.specs.declared.Refusal.{Refusal}
use Rattle.equating.specs.Entries.{list_of}
use Rattle.equating.specs.Promise.{Asked, Answered, EquatePromise}
use Rattle.equating.proofs.ClassLaws.{classes_never, classes_list}
use Rattle.equating.proofs.EndsLaws.{equates_values}

-- ---- the promise

module _ (file : List ℕ) (a b : ℕ) (before : List ℕ) where
  module _ (f : File) (r : read_file file ≡ accepted f) where
    -- The bytes are read as one file.
    one : {g : File} → read_file file ≡ accepted g → f ≡ g
    one {g} e = let z : accepted f ≡ accepted g = sym r ∙ e in cc

    one_length : {g : File} → read_file file ≡ accepted g → length f.cells ≡ length g.cells
    one_length e = ap (λ (g : File). length g.cells) (one e)

    abbrev Outside : Type 0
    Outside = (length f.cells ≤ a) ⊎ (length f.cells ≤ b)

    module _ (inside : Outside → ⊥) where
      not_outside : {A : Type 0} {g : File} → read_file file ≡ accepted g → (length g.cells ≤ a) ⊎ (length g.cells ≤ b) → A
      not_outside e o = absurd (inside (subst (λ (n : ℕ). (n ≤ a) ⊎ (n ≤ b)) (sym (one_length e)) o))

      module _ (room : length f.cells ≤ length before) where
        pub promise_no : NeverEqual f a b → EquatePromise file a b before (Ok None) before
        promise_no never = record {
          refused = λ n p e. clash (cc);
          outside = λ g e o. not_outside e o;
          short = λ g q s. absurd (omega (arith, one_length q.read));
          replied = λ g q. inl refl;
          no = λ g q _. (subst (λ g. NeverEqual g a b) (one q.asked.read) never, refl);
          listed = λ g q i. clash (cc);
        }

        pub promise_listed : (list after : List ℕ) → EquatedBy f a b list → after ≡ laid list before → EquatePromise file a b before (Ok (Some (length f.cells))) after
        promise_listed list after w k = record {
          refused = λ n p e. clash (cc);
          outside = λ g e o. not_outside e o;
          short = λ g q s. absurd (omega (arith, one_length q.read));
          replied = λ g q. inr (ap (λ (n : ℕ). Ok (Some n)) (one_length q.asked.read));
          no = λ g q i. clash (cc);
          listed = λ g q _. (list, subst (λ g. EquatedBy g a b list) (one q.asked.read) w, k);
        }

-- ---- the promise, of the words that were read

module _ {file : List ℕ} {r : Case} (w : CaseFile file r) (a b : ℕ) (before : List ℕ) where
  abbrev Off : ℕ → Type 0
  Off n = (n ≤ a) ⊎ (n ≤ b)

  module _ (inside : (r.table.count ≤ a) ⊎ (r.table.count ≤ b) → ⊥) where
    pub case_inside : (a < r.table.count) × (b < r.table.count)
    case_inside = (below a (λ h. inside (inl h)), below b (λ h. inside (inr h)))
      where
        below : (c : ℕ) → (r.table.count ≤ c → ⊥) → c < r.table.count
        below c far = elim (dec_lt c r.table.count) [ yes h ↦ h | no h ↦ absurd (far (omega arith)) ]

    file_inside : Off (length w.f.cells) → ⊥
    file_inside o = inside (subst Off (sym (case_count w)) o)

    module _ (room : r.table.count ≤ length before) (bytes : Bytes file) (first : List ℕ) (start : Start r.table.count (table_in r.table.words) first) where
      enough : length w.f.cells ≤ length before
      enough = omega (arith, case_count w)

      never : Never (table_in r.table.words) (class_at first) a b → NeverEqual w.f a b
      never e =
          subst (λ (T : Table). (ρ : ℕ → Message) → message T ρ a ≡ message T ρ b → ⊥) (case_table w bytes)
          (classes_never r.table.count r.table.words (case_words w bytes) first start a b e)

      pub reply_no : Never (table_in r.table.words) (class_at first) a b → EquatePromise file a b before (Ok None) before
      reply_no e = promise_no file a b before w.f w.read file_inside enough (never e)

      abbrev list : List ℕ → List ℕ
      list rep = list_of (table_in r.table.words) rep r.table.count

      equated : (rep : List ℕ) → Unified r.table.count (table_in r.table.words) first a b rep → EquatedBy w.f a b (list rep)
      equated rep u =
          subst (λ (n : ℕ). EquatingList (table_of w.f.cells) n a b (list rep)) (case_count w)
          (subst (λ (T : Table). EquatingList T r.table.count a b (list rep)) (case_table w bytes)
          (classes_list r.table.count r.table.words (case_words w bytes) first start a b rep u))

      pub reply_listed : (rep : List ℕ) → Unified r.table.count (table_in r.table.words) first a b rep → (after : List ℕ) → after ≡ laid (list_of (table_in r.table.words) rep r.table.count) before →
          EquatePromise file a b before (Ok (Some r.table.count)) after
      reply_listed rep u after k =
          subst (λ (n : ℕ). EquatePromise file a b before (Ok (Some n)) after) (sym (case_count w))
          (promise_listed file a b before w.f w.read file_inside enough (list rep) after (equated rep u) k)

-- ---- "no" and a list exclude each other

-- A list that equates two cells comes with values that make them equal.
pub equated_values : (file : List ℕ) (f : File) (a b : ℕ) (list : List ℕ) → read_file file ≡ accepted f → EquatedBy f a b list →
    (ρ : ℕ → Message) × (message (table_of f.cells) ρ a ≡ message (table_of f.cells) ρ b)
equated_values file f a b _ read w = equates_values (table_of f.cells) a b _ (accepted_file file f read).lower w.equates

pub never_equated : (file : List ℕ) (f : File) (a b : ℕ) (list : List ℕ) → read_file file ≡ accepted f → NeverEqual f a b → EquatedBy f a b list → ⊥
never_equated file f a b list read never w = let (ρ, e) = equated_values file f a b list read w in never ρ e

-- ---- the list as it stands in the buffer

module _ (file : List ℕ) (a b : ℕ) (before : List ℕ) (reply : Result (Option ℕ) Refusal) (after : List ℕ) (p : EquatePromise file a b before reply after) (f : File) (q : Answered file a b before f) where
  pub listed_front : reply ≡ Ok (Some (length f.cells)) → EquatedBy f a b (take (length f.cells) after) × (drop (length f.cells) after ≡ drop (length f.cells) before)
  listed_front e =
      let (list, w, k) = p.listed f q e in
      let n = length f.cells in
      (subst (EquatedBy f a b) (sym (ap (take n) k ∙ laid_front list before n w.size)) w, ap (drop n) k ∙ laid_beyond list before n w.size)

  -- The reply is "no" if no values make the two cells equal.
  pub no_of_never : NeverEqual f a b → reply ≡ Ok None
  no_of_never never = elim (p.replied f q) [
    | inl e ↦ e
    | inr e ↦ (let (list, w, k) = p.listed f q e in absurd (never_equated file f a b list q.asked.read never w))
  ]

-- ---- the promise settles the reply

module _ (file : List ℕ) (a b : ℕ) (before : List ℕ) (r r' : Result (Option ℕ) Refusal) (after after' : List ℕ)
    (p : EquatePromise file a b before r after) (p' : EquatePromise file a b before r' after') where
  pub settled : (r ≡ r') × SameButList (λ f. EquatedBy f a b) file before after after'
  settled = go (read_file file) refl
    where
      alike : {x : Result (Option ℕ) Refusal} → (r ≡ x) × (after ≡ before) → (r' ≡ x) × (after' ≡ before) → (r ≡ r') × SameButList (λ f. EquatedBy f a b) file before after after'
      alike = refusals_alike (λ f. EquatedBy f a b) file before

      replies : (f : File) → Answered file a b before f → {r : Result (Option ℕ) Refusal} {after : List ℕ} → EquatePromise file a b before r after →
          NoOrList (Ok None) (Ok (Some (length f.cells))) (NeverEqual f a b) (EquatedBy f a b) before r after
      replies f q p = record { replied = p.replied f q; never = p.no f q; listed = p.listed f q }

      asked : (f : File) → Asked file a b f → (r ≡ r') × SameButList (λ f. EquatedBy f a b) file before after after'
      asked f q = elim (dec_lt (length before) (length f.cells)) [
        | yes s ↦ alike (p.short f q s) (p'.short f q s)
        | no s ↦
            (let room : Answered file a b before f = record { asked = q; room = omega arith } in
            answers_alike (λ f. EquatedBy f a b) file before f q.read (λ list w. w.size) (λ never list w. never_equated file f a b list q.read never w)
            (replies f room p) (replies f room p'))
      ]

      go : (x : Reading) → read_file file ≡ x → (r ≡ r') × SameButList (λ f. EquatedBy f a b) file before after after'
      go (refused n at) e = alike (p.refused n at e) (p'.refused n at e)
      go (accepted f) e = elim (dec_lt a (length f.cells)) [
        | no o ↦ alike (p.outside f e (inl (omega arith))) (p'.outside f e (inl (omega arith)))
        | yes h ↦ elim (dec_lt b (length f.cells)) [
          | no o ↦ alike (p.outside f e (inr (omega arith))) (p'.outside f e (inr (omega arith)))
          | yes k ↦ asked f (record { read = e; first = h; second = k })
        ]
      ]
