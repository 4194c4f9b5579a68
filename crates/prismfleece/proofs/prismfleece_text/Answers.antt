-- A number has room for each reply, since a refusal's place is told below 2 ^ 32.
use Rattle.prismfleece.proofs.TextLaws.{text_fits, cut_room}
use Rattle.prismfleece.proofs.prismfleece_text.Goals as goal

pub written-requires : goal.written-requires
written-requires c = cut_room c.read_text.result c.map_err.result c.map_err.ensures.cases (text_fits _ c.read_text.result c.read_text.ensures)
