-- Where each class shows one message and free classes his own name, the marks are exactly what he can build.
use mathlib.Core.Path.{◌≡◌, sym, ◌∙◌, ap, subst}
use mathlib.Core.Logic.Iff
use mathlib.Core.Logic.{◌↔◌, ◌⊎◌, inl, inr}
use mathlib.Core.Option.{some}
use mathlib.Core.List.{List}
use Prim.Native.Nat.{ℕ, ◌<◌}
use Rattle.model.specs.Message.{Message, atom, Built}
use Rattle.model.specs.Case.{VA, LN, Table, Run, Part, look, Reads, Ground, Known, Heard}
use Rattle.model.proofs.Steps.{Comp, built_more}
use Rattle.model.proofs.Read.{var?, look_is, look_solid}
use Rattle.model.proofs.Rows.{no_part}
use Rattle.theory.specs.Cells.{Opening, Formed, class_at, On}
use Rattle.theory.specs.Classes.{Sat}
use Rattle.theory.specs.Level.{built, Mark}
use Rattle.theory.specs.Marks.{Marks}
use Rattle.theory.proofs.Parts.{keys, makes_only, opening_part}
use Rattle.theory.proofs.Classes.{part_solid}
use Rattle.theory.proofs.Level.{class_reads, mark_sound}
use Rattle.theory.proofs.Sweep.{mark_same}
use Rattle.theory.proofs.Local.{marked}
use Rattle.classes.proofs.TwinLaws.{ground_reads}
use Rattle.knowledge.specs.declared.Marks.{Marks as MarkRows}
use Rattle.knowledge.specs.Knowledge.{ClassRow, Starts, Opened}

-- ---- the marks by the messages

-- m shows one message for each class, his own name for the free ones; only that may be shown by several classes.
module _ (T : Table) (rep : ℕ → ℕ) (ev : Run) (p : ℕ) (ok : Formed T) (idem : (c : ℕ) → rep (rep c) ≡ rep c) (m : ℕ → Message) (reads : Reads T m m) (sat : Sat rep m)
    (free : (c : ℕ) → T (rep c) ≡ VA → m c ≡ atom 0) (apart : (c d : ℕ) → m c ≡ m d → (rep c ≡ rep d) ⊎ (m c ≡ atom 0)) where
  ground : Ground (λ c. T (rep c)) m
  ground c = elim (var? (T (rep c))) [
    | inl v ↦ free c v ∙ ap (look (atom 0) m) (sym v)
    | inr s ↦ class_reads T rep m reads sat c ∙ look_solid (m c) (atom 0) m (T (rep c)) s
  ]

  -- What shows his own name is built.
  own_marked : (c : ℕ) → m c ≡ atom 0 → Mark T rep ev p built c
  own_marked c e = elim (var? (T (rep c))) [ inl v ↦ Mark.free v | inr s ↦ Mark.zero (look_is (atom 0) m (T (rep c)) s (sym (ground c) ∙ e)) ]

  -- A built cell is seen, or its parts are built: so built cells are closed under taking apart.
  opens_built : {c k d : ℕ} → Opening (λ c. T (rep c)) c k d → Mark T rep ev p built c → Mark T rep ev p built k → Mark T rep ev p built d
  opens_built o (Mark.free e) y = absurd (part_solid (opening_part o) e)
  opens_built {d = d} o (Mark.zero e) y = absurd (no_part (subst (λ k. Part k d) e (opening_part o)))
  opens_built o (Mark.had h) y = Mark.had (Mark.opens o h y)
  opens_built o (Mark.makes s g g') y = elim (makes_only s (opening_part o)) [
    | inl e ↦ subst (λ x. Mark T rep ev p built x) (sym e) g
    | inr e ↦ subst (λ x. Mark T rep ev p built x) (sym e) g'
  ]

  marks : Marks (λ c. T (rep c)) m (Known ev m p) (λ c. Mark T rep ev p built c)
  marks = record {
    closes = record { free = λ c e. Mark.free e; zero = λ c e. Mark.zero e; makes = λ c a b s x y. Mark.makes s x y; opens = λ c k d o x y. opens_built o x y };
    knows = λ x (c, h, e). (c, Mark.had (Mark.learnt h), e);
    sound = λ c h. mark_sound T rep ev ok m reads sat (λ d v. subst (Comp (λ y. ⊥)) (sym (free d v)) Comp.own) h;
    same = λ c d e h. elim (apart c d e) [ inl q ↦ mark_same T rep ev p idem q h | inr z ↦ own_marked d (sym e ∙ z) ];
  }

  -- The marked cells are exactly those that can be built from what is known before p.
  pub mark_iff_built : (c : ℕ) → Mark T rep ev p built c ↔ Built (Known ev m p) (m c)
  mark_iff_built c =
      let x = marked (λ c. T (rep c)) m ground (keys (λ c. T (rep c)) (λ c. atom 0) m ground) (Known ev m p) (λ c. Mark T rep ev p built c) marks c in
      (x.1, x.0)

-- ---- the marks that are found

-- Of a table without variables, whose classes are the cells of one message, after its last event.
module _ {T : Table} {rep start : List ℕ} {r : MarkRows} (o : Opened T rep start r) (ev : Run) (p : ℕ) (st : Starts T rep ev p start) {n : ℕ} (w : ClassRow n rep) (ok : Formed T)
    (solid : (c : ℕ) → T c ≡ VA → ⊥) (m : ℕ → Message) (g : Ground T m) (exact : (c d : ℕ) → (m c ≡ m d) ↔ (class_at rep c ≡ class_at rep d)) (late : (q c : ℕ) → ev q ≡ some (LN c) → q < p) where
  heard_known : {x : Message} → Built (Known ev m p) x ↔ Built (Heard ev m) x
  heard_known = (built_more (λ x (c, (q, lt, e), i). (c, q, e, i)), built_more (λ x (c, q, e, i). (c, (q, late q c e, e), i)))

  pub built_iff_heard : (c : ℕ) → On r.built (class_at rep c) ↔ Built (Heard ev m) (m c)
  built_iff_heard c = Iff.trans (Iff.trans (o.built ev p st c) (mark_iff_built T (class_at rep) ev p ok w.idem m (ground_reads T m solid g)
      (λ d. (exact d (class_at rep d)).1 (sym (w.idem d))) (λ d v. absurd (solid (class_at rep d) v)) (λ d e i. inl ((exact d e).0 i)) c)) heard_known
