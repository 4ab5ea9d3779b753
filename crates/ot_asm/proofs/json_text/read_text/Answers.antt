use Rattle.std.proofs.lemmas.Str.{is_utf8-from_IsUtf8}
use Rattle.ot_asm.proofs.Texts.{not_utf8}
use Rattle.ot_asm.proofs.json_text.read_text.Goals as goal

pub returns-in-Ok-clause-some : goal.returns-in-Ok-clause-some
returns-in-Ok-clause-some c = (c.in-Ok.ensures.cases.0, is_utf8-from_IsUtf8 _ c.in-Ok.ensures.cases.1)

pub returns-in-Err-clause-none : goal.returns-in-Err-clause-none
returns-in-Err-clause-none c e = not_utf8 _ c.in-Err.ensures.cases.0
