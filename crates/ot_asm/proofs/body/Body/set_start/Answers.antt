use Rattle.std.proofs.Common.{◌≡◌, length, inr, rules, arith, ap, ◌∙◌, refl}
use Rattle.std.specs.Str.{chars}
use Rattle.std.proofs.lemmas.Str.{chars_from_encodes}
use Rattle.ot_isa.specs.Program.{Program}
use Rattle.ot_asm.specs.Stepping.{drafted}
use Rattle.ot_asm.specs.declared.section.Section.TheVariants.{InBody}
use Rattle.ot_asm.proofs.Starts.{start_long, start_short}
use Rattle.ot_asm.proofs.body.Body.set_start.Goals as goal

pub returns-then-count-gt-START_LIMIT-clause-err :
    goal.returns-then-count-gt-START_LIMIT-clause-err
returns-then-count-gt-START_LIMIT-clause-err c =
    let count : c.count.result ≡ length (chars c.args.text.now) = search (rules, chars_from_encodes) in
    inr (start_long c.args.self.now.program (chars c.args.text.now) (omega arith))

pub returns-in-Err-clause-memory : goal.returns-in-Err-clause-memory
returns-in-Err-clause-memory c is =
    let count : c.count.result ≡ length (chars c.args.text.now) = search (rules, chars_from_encodes) in
    rw (start_short c.args.self.now.program (chars c.args.text.now) (omega arith)) refl

pub returns-in-Ok-with_present-clause-ok : goal.returns-in-Ok-with_present-clause-ok
returns-in-Ok-with_present-clause-ok c =
    let count : c.count.result ≡ length (chars c.args.text.now) = search (rules, chars_from_encodes) in
    let got : c.in-Ok.start.items ≡ chars c.args.text.now = search (rules, chars_from_encodes) in
    let start : c.as_slice.result.now ≡ chars c.args.text.now = c.as_slice.ensures.value ∙ got in
    start_short c.args.self.now.program (chars c.args.text.now) (omega arith)
    ∙ ap (λ (p : Program). drafted InBody p) (rw (c.in-Ok-with_present.ensures.ok, start) (search rules))

pub returns-clause-memory : goal.returns-clause-memory
returns-clause-memory c is =
    let count : c.count.result ≡ length (chars c.args.text.now) = search (rules, chars_from_encodes) in
    rw (start_short c.args.self.now.program (chars c.args.text.now) (omega arith)) refl
