use Rattle.std.proofs.Common.{◌≡◌, ◌++◌, ◌∷◌, ◌-◌, [], List, length, set, ap, ◌∙◌, arith}
use Rattle.ot_codes.specs.declared.code.Code.{Code}
use Rattle.ot_codes.specs.declared.code.Code.TheVariants.{Delete}
use Rattle.ot_codes.specs.Codes.{length_of, total_of}
use Rattle.ot_codes.proofs.Counting.{count_most}
use Rattle.ot_codes.proofs.Put.{put_before}
use Rattle.ot_codes.proofs.Summing.{total-append}
use Rattle.ot_codes.proofs.build.put_before.Goals as goal

pub new-requires : goal.new-requires
new-requires c =
    let e = c.requires.at_delete in
    omega (arith, c.requires.short, ap length_of e.3, ap total_of e.2, total-append e.0 (Delete e.1 ∷ []))

pub push-requires-clause-small : goal.push-requires-clause-small
push-requires-clause-small c = omega (arith, count_most c.args.codes.now c.requires.normal, c.requires.short)

pub returns-clause-ok : goal.returns-clause-ok
returns-clause-ok c =
    let e = c.requires.at_delete in
    let cs = c.args.codes.now in
    let pushed : c.push.new.self ≡ cs ++ Delete e.1 ∷ [] =
    c.in_ok-push.ensures.ok ∙ ap (λ (x : Code). c.args.codes.now ++ x ∷ []) (c.new.ensures ∙ e.3) in
    put_before cs e.0 e.1 c.args.count e.2 c.requires.filled c.requires.normal c.set_last_but_one.new.self
    (c.set_last_but_one.ensures ∙ ap (λ (xs : List Code). set xs (length xs - 2) c.new-2.result) pushed
    ∙ ap (λ (x : Code). set (cs ++ Delete e.1 ∷ []) (length (cs ++ Delete e.1 ∷ []) - 2) x) c.new-2.ensures)
    (c.requires.may e.0 e.1 e.2)
