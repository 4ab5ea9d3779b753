use Rattle.std.proofs.Common.{◌≡◌, ◌+◌, ◌++◌, List, ℕ, suc, take, arith, sym, ap, ◌∙◌}
use Rattle.std.specs.Prelude.{replicate}
use Rattle.ot_report.specs.Authors.{inserted_by, inserters}
use Rattle.ot_report.proofs.Inserters.{one_instr_more}
use Rattle.ot_report.proofs.authors.inserters_of.Goals as goal

pub loop-place-preserved : goal.loop-place-preserved
loop-place-preserved c =
    let place = c.loop-place.place in
    let client = c.args.client in
    let instrs = c.args.schedule.now.instrs in
    let instr = c.in-Some.instr.now in
    let next : suc place ≡ place + 1 = omega arith in
    let here : 0 + place ≡ place = omega arith in
    c.in_ok-push_times.ensures
    ∙ ap (λ (numbers : List ℕ). numbers ++ replicate (c.inserted_by.result) place) c.loop-place.invariant
    ∙ ap (λ (times : ℕ). inserters client 0 (take place instrs) ++ replicate times place) c.inserted_by.ensures
    ∙ ap (λ (number : ℕ). inserters client 0 (take place instrs) ++ replicate (inserted_by client instr) number) (sym here)
    ∙ sym (one_instr_more client 0 place instrs instr c.in-Some.ensures.some)
    ∙ ap (λ (n : ℕ). inserters client 0 (take n instrs)) next
