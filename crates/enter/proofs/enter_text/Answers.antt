-- The outcome of the text is sent.
use mathlib.Core.Path.{subst}
use Rattle.std.proofs.lemmas.Result.{on_ok_weaker}
use Rattle.std.proofs.KnownBytes.{Keeps-refl}
use Rattle.std.specs.Io.KnownBytes.{Appends}
use Rattle.grammar.specs.Text.{refused, said}
use Rattle.enter.proofs.EnterLaws.{refused_told, said_told}
use Rattle.enter.proofs.enter_text.Goals as goal

pub returns-in-Err : goal.returns-in-Err
returns-in-Err g c =
    let t = refused_told c.args.text.now _ _ c.in-Err.refusal c.in-Err.ensures in
    on_ok_weaker c.tell_refusal.result (λ a. (refused _ _, t, (Keeps-refl _, a))) c.tell_refusal.ensures

pub returns-in-Ok-write_all : goal.returns-in-Ok-write_all
returns-in-Ok-write_all g c =
    let (es, t, z) = said_told c.args.text.now _ _ c.in-Ok.size c.in-Ok.ensures in
    (said es, t, (subst (Appends _ _) z c.in-Ok-write_all.ensures.bytes, Keeps-refl _))
