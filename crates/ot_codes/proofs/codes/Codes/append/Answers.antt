use Rattle.std.proofs.Common.{◌≡◌, ◌+◌, ℕ, suc, take, drop, ap, subst, sym, ◌∙◌, arith}
use Rattle.ot_operation.specs.Operation.{Operation, IsTooLong}
use Rattle.ot_operation.specs.Steps.{with_runs, appended}
use Rattle.ot_operation.proofs.KeptRuns.{with_runs-none}
use Rattle.ot_codes.specs.declared.code.Sum.{Sum}
use Rattle.ot_codes.specs.Codes.{HasPart, lessened, run_of, runs_of, sum_of}
use Rattle.ot_codes.proofs.Appending.{appended_rest, normal_rest, rest_of, short_next, with_next}
use Rattle.ot_codes.proofs.Summing.{has_next, less_next}
use Rattle.ot_codes.proofs.codes.Codes.append.Goals as goal

pub loop-place-init : goal.loop-place-init
loop-place-init c = record { written = sym (with_runs-none c.args.self.now); left_is = c.requires.sum }

pub extend-requires-clause-normal : goal.extend-requires-clause-normal
extend-requires-clause-normal c = normal_rest c.args.codes.now c.loop-place.place c.requires.normal

pub extend-requires-clause-short : goal.extend-requires-clause-short
extend-requires-clause-short c =
    subst (λ (op : Operation (Unit {0})). IsTooLong op → ⊥) (sym (appended_rest c.args.self.now c.loop-place.self c.args.codes.now c.loop-place.place c.loop-place.invariant.written)) c.requires.short

pub extend-requires-clause-sum : goal.extend-requires-clause-sum
extend-requires-clause-sum c = c.loop-place.invariant.left_is ∙ ap sum_of (sym (rest_of c.args.codes.now c.loop-place.place))

pub less-left-requires : goal.less-left-requires
less-left-requires c =
    subst (λ (s : Sum). HasPart s c.code-code.result) (sym c.loop-place.invariant.left_is)
    (has_next c.args.codes.now c.loop-place.place c.index-codes-place.result c.code-code.result (omega (arith, c.loop-place-test.true)) (c.code-code.ensures.is ∙ c.index-codes-place.is))

pub returns-then-branch : goal.returns-then-branch
returns-then-branch c =
    c.in_ok-extend.ensures.yes c.if-branch.true ∙ appended_rest c.args.self.now c.loop-place.self c.args.codes.now c.loop-place.place c.loop-place.invariant.written

pub put-requires : goal.put-requires
put-requires c =
    subst (λ (op : Operation (Unit {0})). IsTooLong (appended op (run_of c.code-code.result)) → ⊥) (sym (c.in_ok-extend.ensures.no c.if-branch.false ∙ c.loop-place.invariant.written))
    (short_next c.args.self.now c.args.codes.now c.loop-place.place c.index-codes-place.result c.code-code.result (omega (arith, c.loop-place-test.true)) (c.code-code.ensures.is ∙ c.index-codes-place.is) c.requires.short)

pub loop-place-preserved : goal.loop-place-preserved
loop-place-preserved c =
    let next : suc c.loop-place.place ≡ c.loop-place.place + 1 = omega arith in
    let code_is = c.code-code.ensures.is ∙ c.index-codes-place.is in
    record {
      written = c.in_ok-put.ensures.ok
          ∙ ap (λ (op : Operation (Unit {0})). appended op (run_of c.code-code.result)) (c.in_ok-extend.ensures.no c.if-branch.false ∙ c.loop-place.invariant.written)
          ∙ sym (with_next c.args.self.now c.args.codes.now c.loop-place.place c.index-codes-place.result c.code-code.result (omega (arith, c.loop-place-test.true)) (c.code-code.ensures.is ∙ c.index-codes-place.is))
          ∙ ap (λ (k : ℕ). with_runs c.args.self.now (runs_of (take k c.args.codes.now))) next;
      left_is = c.less-left.ensures ∙ ap (λ (s : Sum). lessened s c.code-code.result) c.loop-place.invariant.left_is
          ∙ less_next c.args.codes.now c.loop-place.place c.index-codes-place.result c.code-code.result (omega (arith, c.loop-place-test.true)) code_is
          ∙ ap (λ (k : ℕ). sum_of (drop k c.args.codes.now)) next;
    }
