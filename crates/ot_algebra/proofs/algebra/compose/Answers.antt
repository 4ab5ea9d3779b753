use Rattle.std.proofs.Common.{◌∙◌, ap}
use Rattle.ot_codes.specs.Cuts.{assembled}
use Rattle.ot_text.proofs.Parts.{AreParts, as_long, joined}
use Rattle.ot_algebra.proofs.Pairs.{cuts_within, composed_parts}
use Rattle.ot_algebra.proofs.algebra.compose.Goals as goal

pub assemble-requires : goal.assemble-requires
assemble-requires g c =
    let parts_a : AreParts c.codes.result.now c.text.result.now c.args.a.now = record { codes_are = c.codes.ensures.value; text_is = c.text.ensures } in
    let parts_b : AreParts c.codes-2.result.now c.text-2.result.now c.args.b.now = record { codes_are = c.codes-2.ensures.value; text_is = c.text-2.ensures } in
    rw c.as_slice.ensures.value
    (cuts_within c.args.a.now c.args.b.now c.codes.result.now c.codes-2.result.now c.text.result.now c.text-2.result.now parts_a parts_b
    c.in_ok-composed.composed.cuts.items c.in_ok-composed.ensures.cuts)

pub from_parts-requires : goal.from_parts-requires
from_parts-requires g c =
    let parts_a : AreParts c.codes.result.now c.text.result.now c.args.a.now = record { codes_are = c.codes.ensures.value; text_is = c.text.ensures } in
    let parts_b : AreParts c.codes-2.result.now c.text-2.result.now c.args.b.now = record { codes_are = c.codes-2.ensures.value; text_is = c.text-2.ensures } in
    as_long
    (composed_parts c.args.a.now c.args.b.now c.codes.result.now c.codes-2.result.now c.text.result.now c.text-2.result.now parts_a parts_b
    c.in_ok-composed.composed.cuts.items c.in_ok-composed.composed.codes c.in_ok-text.text.items c.in_ok-composed.ensures.cuts c.in_ok-composed.ensures.codes
    (c.in_ok-text.ensures ∙ ap (λ cuts. assembled cuts c.text.result.now c.text-2.result.now) c.as_slice.ensures.value))

pub returns : goal.returns
returns g c =
    let parts_a : AreParts c.codes.result.now c.text.result.now c.args.a.now = record { codes_are = c.codes.ensures.value; text_is = c.text.ensures } in
    let parts_b : AreParts c.codes-2.result.now c.text-2.result.now c.args.b.now = record { codes_are = c.codes-2.ensures.value; text_is = c.text-2.ensures } in
    c.from_parts.ensures
    ∙ joined
    (composed_parts c.args.a.now c.args.b.now c.codes.result.now c.codes-2.result.now c.text.result.now c.text-2.result.now parts_a parts_b
    c.in_ok-composed.composed.cuts.items c.in_ok-composed.composed.codes c.in_ok-text.text.items c.in_ok-composed.ensures.cuts c.in_ok-composed.ensures.codes
    (c.in_ok-text.ensures ∙ ap (λ cuts. assembled cuts c.text.result.now c.text-2.result.now) c.as_slice.ensures.value))
