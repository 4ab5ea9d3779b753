use Rattle.std.proofs.Common.{◌-◌, length, set, ap, sym, ◌∙◌, arith}
use Rattle.ot_codes.specs.declared.code.Code.{Code}
use Rattle.ot_codes.specs.Codes.{length_of}
use Rattle.ot_codes.proofs.Put.{goes_behind, longer_before, within_total}
use Rattle.ot_codes.proofs.build.insert_before_delete.Goals as goal

pub new-requires : goal.new-requires
new-requires c =
    let cs = c.args.codes.now in
    let within = within_total cs (length cs - 2) c.in-Some.before (omega (arith, c.in-Some.ensures.0)) c.in-Some.ensures.1 in
    omega (arith, within, c.requires.short, ap length_of c.in-Insert.ensures.is)

pub put_before-requires-in_default : goal.put_before-requires-in_default
put_before-requires-in_default c =
    let cs = c.args.codes.now in
    record {
      filled = c.requires.filled;
      total = c.requires.total;
      normal = c.requires.normal;
      short = c.requires.short;
      at_delete = c.requires.at_delete;
      may = λ front n form.
          goes_behind c.args.codes.now front n c.args.count form c.requires.filled c.requires.normal (length c.args.codes.now - 2) c.in-Some.before
          (omega (arith, c.in-Some.ensures.0)) c.in-Some.ensures.1 (λ m is. c.in_default.not-Insert m (c.code.ensures.is ∙ is));
    }

pub returns-in-Insert-clause-ok : goal.returns-in-Insert-clause-ok
returns-in-Insert-clause-ok c =
    let e = c.requires.at_delete in
    let cs = c.args.codes.now in
    longer_before cs e.0 e.1 c.args.count e.2 c.requires.filled c.requires.normal c.set_last_but_one.new.self
    (length cs - 2) c.in-Insert.length c.in-Some.before (omega (arith, c.in-Some.ensures.0)) c.in-Some.ensures.1 (sym c.in-Insert.ensures.is)
    (c.set_last_but_one.ensures ∙ ap (λ (x : Code). set cs (length cs - 2) x) c.new.ensures)
