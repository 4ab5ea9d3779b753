use Rattle.std.proofs.Common.{◌≡◌, ◌∙◌, ◌==◌, not, false, length, sym}
use Rattle.std.proofs.lemmas.Result.{IfOk-weaker}
use Rattle.ot_asm.proofs.ByNumber.{begun_naming, nobody_named}
use Rattle.ot_asm.proofs.naming.named.Goals as goal

pub returns-then-not-has_names : goal.returns-then-not-has_names
returns-then-not-has_names c =
    let names = c.args.comments.now.names in
    let none : not (length names == 0) ≡ false = sym c.has_names.ensures ∙ c.if-not-has_names.true in
    IfOk-weaker c.from_slice.result _ _ (λ v e. nobody_named names c.args.text.now v.items none e) c.from_slice.ensures.items

pub loop-front-init : goal.loop-front-init
loop-front-init c = begun_naming c.args.comments.now.names c.args.text.now c.in_ok-shown.shown.items c.in_ok-shown.ensures.items
