use Rattle.std.proofs.Common.{◌≡◌, length}
use Rattle.std.proofs.lemmas.Result.{IfOk-weaker}
use Rattle.ot_operation.specs.Operation.{news}
use Rattle.ot_operation.specs.Merge.{first_after}
use Rattle.ot_codes.specs.Shape.{filled, shape}
use Rattle.ot_client.proofs.Exchanged.{codes_fit, codes_filled}
use Rattle.ot_client.proofs.transformed.transformed_in_place.Goals as goal

pub returns-clause-text : goal.returns-clause-text
returns-clause-text g c =
    IfOk-weaker c.transform_codes_in_place.result (λ first. first ≡ shape (first_after c.args.a.now c.args.b.now)) (λ first. length (news first.image) ≡ length (news c.args.a.now.image))
    (codes_fit c.args.a.now c.args.b.now c.base_len-operation.ensures.operation c.base_len-operation-2.ensures.operation c.requires.base)
    c.transform_codes_in_place.ensures.codes

pub returns-clause-codes : goal.returns-clause-codes
returns-clause-codes g c =
    IfOk-weaker c.transform_codes_in_place.result (λ first. first ≡ shape (first_after c.args.a.now c.args.b.now)) (λ first. filled first (news c.args.a.now.image) ≡ first_after c.args.a.now c.args.b.now)
    (codes_filled c.args.a.now c.args.b.now c.base_len-operation.ensures.operation c.base_len-operation-2.ensures.operation c.requires.base)
    c.transform_codes_in_place.ensures.codes
