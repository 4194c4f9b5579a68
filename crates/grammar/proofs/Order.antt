-- The messages of the cells are those that the entries complete, in order of first completion.
use mathlib.Core.Path.{◌≡◌, sym, ◌∙◌, ap, subst}
use mathlib.Core.Logic.{◌⊎◌, inl, inr}
use mathlib.Core.List.Memᴰ
use mathlib.Core.List.{List, [], ◌∷◌, ◌++◌, append-nil}
use Prim.Native.Nat.{ℕ, ◌<◌}
use native.Mathlib.Omega.{arith}
use lib.ListN.{length}
use lib.Seq.{append_snoc}
use Rattle.model.proofs.Listed.{length_snoc}
use Rattle.grammar.specs.Typed.{Typed, Entry}
use Rattle.grammar.specs.Filed.{completions, enter, entered, trees_of, place}
use Rattle.grammar.proofs.Trees.{In, in?, tree_at, place_in, place_append, place_new, enter_old, enter_new}
use Rattle.grammar.proofs.Filed.{Where, old, new, past, where_at, at_in}

-- The trees are the messages of ts, in order of their first places.
pub record Firsts (ts trees : List Typed) : Type 0 where
  pub only : (t : Typed) → In trees t → In ts t
  pub all : (t : Typed) → In ts t → In trees t
  pub order : (c d : ℕ) → c < d → d < length trees → place ts (tree_at trees c) < place ts (tree_at trees d)

firsts_none : Firsts [] []
firsts_none = record { only = λ t m. m; all = λ t m. m; order = λ c d h k. absurd (omega arith) }

-- A message that is there already changes nothing.
firsts_old : (ts trees : List Typed) (t : Typed) → Firsts ts trees → In trees t → Firsts (ts ++ (t ∷ [])) trees
firsts_old ts trees t f m = record {
  only = λ u n. Memᴰ.append_left (t ∷ []) (f.only u n);
  all = λ u n. elim (Memᴰ.append_cases ts n) [ inl o ↦ f.all u o | inr o ↦ subst (In trees) (sym (Memᴰ.eq_of_singleton o)) m ];
  order = λ c d h k. let x = kept c (omega arith) in let y = kept d k in let z = f.order c d h k in omega arith;
}
  where
    kept : (c : ℕ) → c < length trees → place (ts ++ (t ∷ [])) (tree_at trees c) ≡ place ts (tree_at trees c)
    kept c h = place_append ts (t ∷ []) (tree_at trees c) (f.only (tree_at trees c) (at_in trees c h))

-- A new one stands behind the others.
firsts_new : (ts trees : List Typed) (t : Typed) → Firsts ts trees → (In trees t → ⊥) → Firsts (ts ++ (t ∷ [])) (trees ++ (t ∷ []))
firsts_new ts trees t f n = record {
  only = λ u m. elim (Memᴰ.append_cases trees m) [ inl o ↦ Memᴰ.append_left (t ∷ []) (f.only u o) | inr o ↦ Memᴰ.append_right ts o ];
  all = λ u m. elim (Memᴰ.append_cases ts m) [ inl o ↦ Memᴰ.append_left (t ∷ []) (f.all u o) | inr o ↦ Memᴰ.append_right trees o ];
  order = λ c d h k. by c d h k (where_at trees t c) (where_at trees t d);
}
  where
    kept : (c : ℕ) → c < length trees → tree_at (trees ++ (t ∷ [])) c ≡ tree_at trees c →
        (place (ts ++ (t ∷ [])) (tree_at (trees ++ (t ∷ [])) c) ≡ place ts (tree_at trees c)) × (place ts (tree_at trees c) < length ts)
    kept c h e =
        let m = f.only (tree_at trees c) (at_in trees c h) in
        (ap (place (ts ++ (t ∷ []))) e ∙ place_append ts (t ∷ []) (tree_at trees c) m, (place_in ts (tree_at trees c) m).0)

    last : (d : ℕ) → tree_at (trees ++ (t ∷ [])) d ≡ t → place (ts ++ (t ∷ [])) (tree_at (trees ++ (t ∷ [])) d) ≡ length ts
    last d e = ap (place (ts ++ (t ∷ []))) e ∙ place_new ts t (λ m. n (f.all t m))

    by : (c d : ℕ) → c < d → d < length (trees ++ (t ∷ [])) → Where trees t c → Where trees t d →
        place (ts ++ (t ∷ [])) (tree_at (trees ++ (t ∷ [])) c) < place (ts ++ (t ∷ [])) (tree_at (trees ++ (t ∷ [])) d)
    by c d h k (old a e) (old b z) = (let (x, p) = kept c a e in let (y, q) = kept d b z in let r = f.order c d h b in omega arith)
    by c d h k (old a e) (new b z) = (let (x, p) = kept c a e in let y = last d z in omega arith)
    by c d h k (old a e) (past z b) = absurd (let s = length_snoc trees t in omega arith)
    by c d h k (new a e) (old b z) = absurd (omega arith)
    by c d h k (new a e) (new b z) = absurd (omega arith)
    by c d h k (new a e) (past z b) = absurd (let s = length_snoc trees t in omega arith)
    by c d h k (past e a) w = absurd (let s = length_snoc trees t in omega arith)

firsts_entered : (us ts trees : List Typed) → Firsts ts trees → Firsts (ts ++ us) (entered trees us)
unfolding entered
firsts_entered [] ts trees f = subst (λ l. Firsts l trees) (sym (append-nil ts)) f
firsts_entered (u ∷ us) ts trees f = subst (λ l. Firsts l (entered (enter trees u) us)) (append_snoc ts u us) (firsts_entered us (ts ++ (u ∷ [])) (enter trees u) (one (in? trees u)))
  where
    one : In trees u ⊎ (In trees u → ⊥) → Firsts (ts ++ (u ∷ [])) (enter trees u)
    one (inl m) = subst (Firsts (ts ++ (u ∷ []))) (sym (enter_old trees u m)) (firsts_old ts trees u f m)
    one (inr n) = subst (Firsts (ts ++ (u ∷ []))) (sym (enter_new trees u n)) (firsts_new ts trees u f n)

-- The messages of the cells are exactly what the entries complete, in order of first completion.
pub trees_firsts : (es : List Entry) → Firsts (completions es) (trees_of es)
trees_firsts es = firsts_entered (completions es) [] [] firsts_none
