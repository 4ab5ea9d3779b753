use Rattle.std.proofs.Common.{◌≡◌, ◌∷◌, [], ap, sym, ◌∙◌, arith, length-append}
use Rattle.std.proofs.lemmas.Result.{err_from_is_err_and}
use Rattle.ot_isa.specs.Program.{Program, with_instr}
use Rattle.ot_image.specs.Reading.{push_instr}
use Rattle.ot_image.specs.Views.{seen}
use Rattle.ot_image.proofs.Loop.{goes_on, goes_past, ends, is_done}
use Rattle.ot_image.proofs.Onward.{push_instr_onward}
use Rattle.ot_image.proofs.Past.{instr_past}
use Rattle.ot_image.proofs.Fields.{instr_pushed, instr_refused}
use Rattle.ot_image.proofs.loading.instrs_of.Goals as goal

pub returns-in_err-instr : goal.returns-in_err-instr
returns-in_err-instr c =
    let p = err_from_is_err_and c.from_residual.result c.from_residual.ensures.1 in
    let fails = rw c.loop.invariant.clients at c.in_err-instr.ensures.read in
    rw (p.1, p.2) (ends (push_instr c.args.version) (push_instr_onward c.args.version) c.in_err-instr.field-0.0 c.args.count c.loop.counter c.loop.builder.program (seen c.loop.rest) _ c.loop-test.true (instr_refused c.args.version c.loop.builder.program (seen c.loop.rest) c.in_err-instr.field-0.0 fails) c.loop.invariant.read)

pub returns-in-Err-Memory-default : goal.returns-in-Err-Memory-default
returns-in-Err-Memory-default c =
    let old = c.loop.builder.program in
    let instr = c.in_ok-instr.instr in
    let read = rw c.loop.invariant.clients at c.in_ok-instr.ensures.read in
    goes_past (push_instr c.args.version) (push_instr_onward c.args.version) c.args.count c.loop.counter old (seen c.loop.rest) (with_instr old instr) (seen c.in_ok-instr.after) _ c.loop-test.true
    (instr_pushed c.args.version old (seen c.loop.rest) instr _ read) (instr_past c.args.version old.clients (seen c.loop.rest) instr (seen c.in_ok-instr.after) read) c.loop.invariant.read

pub loop-preserved : goal.loop-preserved
loop-preserved c =
    let old = c.loop.builder.program in
    let instr = c.in_ok-instr.instr in
    let read = rw c.loop.invariant.clients at c.in_ok-instr.ensures.read in
    let new : c.push.new.self.program ≡ with_instr old instr = c.in-Ok.ensures.ok in
    record {
      read = rw new (goes_on (push_instr c.args.version) c.args.count c.loop.counter old (seen c.loop.rest) (with_instr old instr) (seen c.in_ok-instr.after) _ c.loop-test.true (instr_pushed c.args.version old (seen c.loop.rest) instr _ read) c.loop.invariant.read);
      clients = c.loop.invariant.clients ∙ sym (ap (λ (p : Program). p.clients) new);
      made = rw new (omega (arith, length-append old.instrs (instr ∷ []), c.loop.invariant.made));
    }

pub returns : goal.returns
returns c = is_done (push_instr c.args.version) c.args.count c.loop.counter c.loop.builder.program (seen c.loop.rest) _ c.loop-test.false c.loop.invariant.read
