use Rattle.std.proofs.Common.{◌∙◌, ap, length}
use Rattle.std.proofs.lemmas.Result.{IfOk-weaker}
use Rattle.ot_operation.specs.Operation.{news}
use Rattle.ot_codes.specs.Shape.{filled}
use Rattle.ot_codes.proofs.Filled.{filled-shape}
use Rattle.ot_text.proofs.Parts.{length-news-shape}
use Rattle.ot_text.proofs.TextOp.copy.Goals as goal

pub with_codes-requires : goal.with_codes-requires
with_codes-requires g c = ap (λ o. length (news o.image)) (c.in_ok-codes.ensures ∙ c.codes.ensures.value) ∙ length-news-shape c.args.self.now

pub returns : goal.returns
returns g c =
    IfOk-weaker c.with_codes.result _ _ (λ op e. e ∙ ap (λ o. filled o (news c.args.self.now.image)) (c.in_ok-codes.ensures ∙ c.codes.ensures.value) ∙ filled-shape c.args.self.now) c.with_codes.ensures
