-- The loop's invariant: his own name is put for the entries 255 below c.
use Rattle.model.specs.Stored.{table_in}
use Rattle.checking.proofs.FormLaws.{Owning}
use Rattle.checking.proofs.form.put_own.Given as goal

abbrev pub invariant-loop-c : goal.invariant-loop-c
invariant-loop-c l = Owning (table_in l.words) l.list (table_in l.out) l.c
