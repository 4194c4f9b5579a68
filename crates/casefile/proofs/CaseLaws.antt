-- From the cell records and the event records to the reply.
use mathlib.Core.Path.{◌≡◌, refl, sym, ◌∙◌, ap, subst}
use mathlib.Core.List.{List}
use Prim.Native.Nat.{ℕ, ◌+◌, ◌-◌}
use native.Mathlib.Omega.{arith}
use lib.ListN.{length, take, drop, length-drop}
use lib.Seq.{take_all}
use Rattle.std.specs.Prelude.{Result, Ok, Err}
use Rattle.model.specs.Stored.{table_in}
use Rattle.model.specs.Format.{Reading, read_file}
use Rattle.theory.specs.Cells.{RunWords}
use Rattle.theory.proofs.Rows.{accepted_events}
use Rattle.cells.specs.declared.table.Table.{Table}
use Rattle.casefile.specs.declared.Row.{Row}
use Rattle.casefile.specs.declared.case.Case.{Case}
use Rattle.refusals.specs.declared.Refusal.{Refusal}
use Rattle.refusals.specs.Numbers.{number_of}
use Rattle.casefile.specs.Cells.{Cut, Begun}
use Rattle.casefile.specs.Events.{read_as, EventsRead}
use Rattle.casefile.specs.Case.{Reads, VariableFound}
use Rattle.casefile.proofs.VariableLaws.{variable_found}

-- A refusal of the reading is that of the reply.
pub refused_as : (file : List ℕ) (e : Refusal) → read_file file ≡ Reading.refused (number_of e.fault) e.place → Reads (read_file file) (Err e)
refused_as file e h = subst (λ x. Reads x (Err e)) (sym h) (refl, refl)

module _ (file : List ℕ) (at : ℕ) (t : Table) (cut : Cut file at t) where
  -- The part of the file that begins where the cell records end.
  abbrev pub part : List ℕ
  part = take (length file - at) (drop at file)

  part_all : part ≡ drop at file
  part_all = take_all (length file - at) (drop at file) (omega (arith, length-drop at file))

  pub part_length : at + length part ≡ length file
  part_length = let p = cut.place in let e : length part ≡ length (drop at file) = ap length part_all in omega (arith, length-drop at file)

  module _ (r : Result Row Refusal) (read : EventsRead part at t r) where
    reply : read_as r cut.list (read_file file)
    reply = read file cut.list (record { part = part_all; count = cut.count; shown = cut.shown; begun = subst Begun (sym part_all) cut.begun; whole = cut.rest })

  pub reply_refused : (e : Refusal) → EventsRead part at t (Err e) → Reads (read_file file) (Err e)
  reply_refused e read = refused_as file e (reply (Err e) read)

  module _ (run : Row) (read : EventsRead part at t (Ok run)) where
    pub reply_listed : RunWords t.count run.words run.count
    reply_listed =
        let (events, same, reading) = reply (Ok run) read in
        subst (λ n. RunWords n run.words run.count) (sym cut.count)
        (subst (λ r. RunWords (length cut.list) r.words r.count) (sym same) (accepted_events file _ reading))

    pub reply_accepted : (case : Case) → case.table ≡ t → case.run ≡ run → VariableFound (table_in t.words) t.count case.variable → Reads (read_file file) (Ok case)
    reply_accepted case e i found =
        let (events, same, reading) = reply (Ok run) read in
        subst (λ x. Reads x (Ok case)) (sym reading) (record {
          words = ap (λ u. u.words) e ∙ cut.words;
          count = ap (λ u. u.count) e ∙ cut.count;
          run = i ∙ same;
          variable = variable_found cut.list (table_in t.words) t.count case.variable cut.shown cut.count found;
        })
