-- When a reply keeps the promise: a law for each of the replies; and that the form of a list is decided.
use mathlib.Core.Path.{Path, ◌≡◌, refl, sym, ap, subst}
use mathlib.Core.List.{List}
use Rattle.std.specs.Prelude.{Bool, true, false, Result, Ok, Err}
use mathlib.Core.Logic.{◌⊎◌, inl, inr}
use Prim.Native.Nat.{ℕ, ◌<◌}
use native.Mathlib.Omega.{arith}
use native.Mathlib.Decide.{dec_lt}
use lib.ListN.{length, get_or}
use Rattle.model.specs.Case.{VA, File, Table, table_of}
use Rattle.model.specs.Values.{Entry, bound, own, itself}
use Rattle.model.specs.Format.{Reading, read_file}
use Rattle.model.proofs.Finite.{eq?, least}
use Rattle.model.proofs.Read.{clash, var?}
use Rattle.model.specs.Replies.{FormOf, RightOf}
use Rattle.refusals.specs.declared.Refusal.{Refusal}
use Rattle.refusals.specs.Refused.{Refused}
use Rattle.checking.specs.Promise.{EntryOf, CheckPromise}

not_both : (x : Reading) (number place : ℕ) (f : File) → x ≡ Reading.refused number place → x ≡ Reading.accepted f → ⊥
not_both x number place f e i = clash (cc)

same_file : (x : Reading) (f g : File) → x ≡ Reading.accepted f → x ≡ Reading.accepted g → f ≡ g
same_file x f g e i = cc

-- The replies are of one type; no refusal is an answer, and "right" is not "wrong".
abbrev Reply : Type 0
Reply = Result Bool Refusal

refused_not : (e : Refusal) (b : Bool) → Path Reply (Err e) (Ok b) → ⊥
refused_not e b i = clash (cc)

right_wrong : Path Reply (Ok true) (Ok false) → ⊥
right_wrong e = clash (cc)

module _ (file list : List ℕ) (f : File) (e : read_file file ≡ Reading.accepted f) where
  on : (number place : ℕ) → read_file file ≡ Reading.refused number place → ⊥
  on number place i = not_both (read_file file) number place f i e

  same : (g : File) → read_file file ≡ Reading.accepted g → f ≡ g
  same g i = same_file (read_file file) f g e i

  -- The entry c is the first of bad form.
  pub promise_form : length list ≡ length f.cells → (c : ℕ) → c < length f.cells → ((d : ℕ) → d < c → EntryOf f list d) → (EntryOf f list c → ⊥) → CheckPromise file list (Refused 10 c)
  promise_form l c h below bad = record {
    refused = λ n p i. absurd (on n p i);
    size = λ g i ne. absurd (ne (subst (λ (x : File). length list ≡ length x.cells) (same g i) l));
    form = λ g i k d hd good worse. ap (Refused 10) (first d (subst (λ (x : File). (j : ℕ) → j < d → EntryOf x list j) (sym (same g i)) good) (λ z. worse (subst (λ (x : File). EntryOf x list d) (same g i) z)));
    right = λ g i r. absurd (at g i r.0);
    wrong = λ g i r. absurd (at g i r);
    right_only = λ g i k. absurd (refused_not _ _ k);
    wrong_only = λ g i k. absurd (refused_not _ _ k);
  }
    where
      first : (d : ℕ) → ((j : ℕ) → j < d → EntryOf f list j) → (EntryOf f list d → ⊥) → c ≡ d
      first d good worse = elim (dec_lt c d) [
        | yes a ↦ absurd (bad (good c a))
        | no a ↦ elim (dec_lt d c) [ yes b ↦ absurd (worse (below d b)) | no b ↦ omega arith ]
      ]

      at : (g : File) → read_file file ≡ Reading.accepted g → FormOf g list → ⊥
      at g i w = bad ((subst (λ (x : File). FormOf x list) (sym (same g i)) w).entries c h)

  module _ (w : FormOf f list) where
    whole : (g : File) → read_file file ≡ Reading.accepted g → FormOf g list
    whole g i = subst (λ (x : File). FormOf x list) (same g i) w

    -- The list is right.
    pub promise_right : RightOf f list → CheckPromise file list (Ok true)
    promise_right r = record {
      refused = λ n p i. absurd (on n p i);
      size = λ g i ne. absurd (ne (whole g i).size);
      form = λ g i l c h below bad. absurd (bad ((whole g i).entries c h));
      right = λ g i _. refl;
      wrong = λ g i _ no-right. absurd (no-right (here g i));
      right_only = λ g i _. (whole g i, here g i);
      wrong_only = λ g i k. absurd (right_wrong k);
    }
      where
        here : (g : File) → read_file file ≡ Reading.accepted g → RightOf g list
        here g i = subst (λ (x : File). RightOf x list) (same g i) r

    -- It is not.
    pub promise_wrong : (RightOf f list → ⊥) → CheckPromise file list (Ok false)
    promise_wrong none = record {
      refused = λ n p i. absurd (on n p i);
      size = λ g i ne. absurd (ne (whole g i).size);
      form = λ g i l c h below bad. absurd (bad ((whole g i).entries c h));
      right = λ g i r. absurd (here g i r.1);
      wrong = λ g i _ _. refl;
      right_only = λ g i k. absurd (right_wrong (sym k));
      wrong_only = λ g i _. (whole g i, here g i);
    }
      where
        here : (g : File) → read_file file ≡ Reading.accepted g → RightOf g list → ⊥
        here g i r = none (subst (λ (x : File). RightOf x list) (sym (same g i)) r)

-- ---- the form is decided

no_entry : {T : Table} {n c x : ℕ} → T c ≡ VA → (x ≡ 255 → ⊥) → (x < n → (T x ≡ VA → ⊥) → ⊥) → Entry T n c x → ⊥
no_entry v ne far (bound i l s) = far l s
no_entry v ne far (own i e) = ne e
no_entry v ne far (itself s e) = s v

no_other : {T : Table} {n c x : ℕ} → (T c ≡ VA → ⊥) → (x ≡ c → ⊥) → Entry T n c x → ⊥
no_other s ne (bound i l t) = s i
no_other s ne (own i e) = s i
no_other s ne (itself t e) = ne e

entry? : (T : Table) (n c x : ℕ) → Entry T n c x ⊎ (Entry T n c x → ⊥)
entry? T n c x = elim (var? (T c)) [
  | inr s ↦ elim (eq? x c) [ inl e ↦ inl (itself s e) | inr ne ↦ inr (no_other s ne) ]
  | inl v ↦ elim (eq? x 255) [
    | inl e ↦ inl (own v e)
    | inr ne ↦ elim (dec_lt x n) [
      | no far ↦ inr (no_entry v ne (λ l t. far l))
      | yes l ↦ elim (var? (T x)) [ inr s ↦ inl (bound v l s) | inl w ↦ inr (no_entry v ne (λ _ t. t w)) ]
    ]
  ]
]

-- A list of the right length has a first entry of bad form, or the form.
abbrev pub Bad : File → List ℕ → Type 0
Bad f list = (c : ℕ) × (c < length f.cells) × ((d : ℕ) → d < c → EntryOf f list d) × (EntryOf f list c → ⊥)

pub form? : (f : File) (list : List ℕ) → length list ≡ length f.cells → Bad f list ⊎ FormOf f list
form? f list l = elim (least Off off? (λ c. c) (length f.cells)) [
  | inl (c, (h, bad), first) ↦ inl (c, h, λ d g. elim (at d) [ inl y ↦ y | inr z ↦ (let k = first d (omega arith) (omega arith, z) in absurd (omega arith)) ], bad)
  | inr none ↦ inr (record { size = l; entries = λ c h. elim (at c) [ inl y ↦ y | inr z ↦ absurd (none c h (h, z)) ] })
]
  where
    at : (c : ℕ) → EntryOf f list c ⊎ (EntryOf f list c → ⊥)
    at c = entry? (table_of f.cells) (length f.cells) c (get_or list c 0)

    Off : ℕ → Type 0
    Off c = (c < length f.cells) × (EntryOf f list c → ⊥)

    off? : (c : ℕ) → Off c ⊎ (Off c → ⊥)
    off? c = elim (dec_lt c (length f.cells)) [
      | no far ↦ inr (λ (h, _). far h)
      | yes h ↦ elim (at c) [ inl y ↦ inr (λ (_, z). z y) | inr z ↦ inl (h, z) ]
    ]
