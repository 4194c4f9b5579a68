-- Two cases with the same fields are the same: each fact that a table or a case keeps has one proof.
use mathlib.Core.Path.{◌≡◌}
use mathlib.Core.HLevel.{is_prop→PathP}
use mathlib.Core.List.{List}
use Prim.Native.Nat.{ℕ}
use Rattle.std.proofs.Props.{props}
use Rattle.theory.specs.Cells.{TableWords, RunWords}
use Rattle.cells.specs.declared.table.Table.{Table}
use Rattle.casefile.specs.declared.case.Case.{Case}

TableWords-prop : (n : ℕ) (words : List ℕ) → IsProp (TableWords n words)
TableWords-prop n words = hlevel props

RunWords-prop : (n : ℕ) (words : List ℕ) (m : ℕ) → IsProp (RunWords n words m)
RunWords-prop n words m = hlevel props

pub same_table : (t u : Table) → t.words ≡ u.words → t.count ≡ u.count → t ≡ u
same_table t u e k = λ i. record { words = e i; count = k i; formed = is_prop→PathP (λ i. TableWords (k i) (e i)) (λ i. TableWords-prop (k i) (e i)) t.formed u.formed i }

pub same_case : (c d : Case) → c.table ≡ d.table → c.run ≡ d.run → c.variable ≡ d.variable → c ≡ d
same_case c d t r v = λ i. record {
  table = t i;
  run = r i;
  variable = v i;
  listed = is_prop→PathP (λ i. RunWords (t i).count (r i).words (r i).count) (λ i. RunWords-prop (t i).count (r i).words (r i).count) c.listed d.listed i;
}
