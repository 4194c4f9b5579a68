-- Records in a row, and the length of a buffer that they are written into.
use mathlib.Core.Path.{◌≡◌, refl, sym, ◌∙◌, ap}
use mathlib.Core.List.{List, [], ◌∷◌, ◌++◌, append-nil, append_assoc}
use Prim.Native.Nat.{ℕ}
use lib.ListN.{length}
use lib.Seq.{sets, length-sets}
use Rattle.model.specs.Format.{joined}

joined_append : {A : Type 0} (bytes : A → List ℕ) (l k : List A) → joined bytes (l ++ k) ≡ joined bytes l ++ joined bytes k
unfolding joined
joined_append bytes [] k = refl
joined_append bytes (x ∷ l) k = ap (λ r. bytes x ++ r) (joined_append bytes l k) ∙ sym (append_assoc (bytes x) (joined bytes l) (joined bytes k))

pub joined_last : {A : Type 0} (bytes : A → List ℕ) (l : List A) (x : A) → joined bytes (l ++ (x ∷ [])) ≡ joined bytes l ++ bytes x
unfolding joined
joined_last bytes l x = joined_append bytes l (x ∷ []) ∙ ap (λ r. joined bytes l ++ r) (append-nil (bytes x))

pub sets_kept : (n : ℕ) (out after : List ℕ) (at : ℕ) (vs : List ℕ) → length out ≡ n → after ≡ sets out at vs → length after ≡ n
sets_kept n out after at vs h e = ap length e ∙ (length-sets out at vs ∙ h)
