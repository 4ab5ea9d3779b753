use Rattle.std.proofs.Common.{◌++◌, ◌∷◌, ◌-◌, [], List, length, ap, subst, sym, ◌∙◌, arith}
use Rattle.std.proofs.lemmas.Result.{on_ok_weaker}
use Rattle.ot_operation.specs.Run.{Extends}
use Rattle.ot_operation.specs.Steps.{appended}
use Rattle.ot_codes.specs.declared.code.Code.{Code}
use Rattle.ot_codes.specs.Codes.{length_of, run_of, runs_of, joined, stands_before}
use Rattle.ot_codes.proofs.Counting.{count_most}
use Rattle.ot_codes.proofs.Put.{joined_extends, later_pushed, within_total}
use Rattle.ot_codes.proofs.build.add.Goals as goal

pub joined-requires : goal.joined-requires
joined-requires c =
    let cs = c.args.codes.now in
    let within = within_total cs (length cs - 1) c.in-Some.last (omega (arith, c.in-Some.ensures.0)) c.in-Some.ensures.1 in
    omega (arith, within, c.requires.short, ap length_of c.new-packed.ensures)

pub returns-in-Some-joined-clause-ok : goal.returns-in-Some-joined-clause-ok
returns-in-Some-joined-clause-ok c =
    let cs = c.args.codes.now in
    subst (λ (m : List Code). Extends (runs_of cs) (runs_of m) (λ op. appended op (run_of c.args.code))) (sym c.set_last.ensures)
    (joined_extends cs (length cs - 1) c.in-Some.last c.args.code c.in-Some-joined.both (omega (arith, c.in-Some.ensures.0)) c.in-Some.ensures.1
    (ap (joined c.in-Some.last) (sym c.new-packed.ensures) ∙ sym c.in-Some-joined.ensures) c.requires.filled c.requires.normal)

pub push-requires-2-clause-small : goal.push-requires-2-clause-small
push-requires-2-clause-small c = omega (arith, count_most c.args.codes.now c.requires.normal, c.requires.short)

pub returns-clause-ok : goal.returns-clause-ok
returns-clause-ok c =
    let cs = c.args.codes.now in
    on_ok_weaker c.push-2.result
    (λ pushed.
    later_pushed cs c.push-2.new.self (length cs - 1) c.in-Some.last c.args.code (omega (arith, c.in-Some.ensures.0)) c.in-Some.ensures.1
    (ap (joined c.in-Some.last) (sym c.new-packed.ensures) ∙ sym c.joined.ensures ∙ c.in_default-joined.is)
    (ap (λ (x : Code). stands_before x c.in-Some.last) (sym c.new-packed.ensures) ∙ sym c.stands_before.ensures ∙ c.if-stands_before.false)
    (pushed ∙ ap (λ (x : Code). cs ++ x ∷ []) c.new-packed.ensures) c.requires.filled c.requires.normal)
    c.push-2.ensures.ok
