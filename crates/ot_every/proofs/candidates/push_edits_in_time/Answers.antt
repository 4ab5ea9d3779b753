use Rattle.std.proofs.Common.{◌≡◌, ◌∙◌, ◌++◌, List, Some, ap, arith, drop, length, map, refl, sym, ℕ, false}
use Rattle.std.specs.Prelude.{slice_get, vec_items}
use Rattle.std.specs.Option.{option_map}
use Rattle.std.proofs.lemmas.List.{length-map}
use Rattle.std.proofs.lemmas.Option.{slice_get_read, slice_get-map}
use Rattle.ot_isa.specs.declared.instruction.Instr.TheVariants.{Edit}
use Rattle.ot_every.specs.Forms.{forms}
use Rattle.ot_every.specs.Walking.{is_late}
use Rattle.ot_every.proofs.Late.{late_edits, no_edits, some_edits}
use Rattle.ot_every.proofs.Short.{document_short, edit_within, text_short}
use Rattle.ot_every.proofs.candidates.push_edits_in_time.Goals as goal

pub returns-then-made-texts : goal.returns-then-made-texts
returns-then-made-texts c path are =
    let many = length-map c.args.texts.now vec_items in
    no_edits c.args.machine.now c.args.client c.args.inserts c.args.made c.args.next.now.items (map vec_items c.args.texts.now) (is_late c.args.client false false path) c.requires.client
    (omega (arith, c.if-made-texts.true, many))

pub returns-then-is_late : goal.returns-then-is_late
returns-then-is_late c path are =
    late_edits c.args.machine.now c.args.client c.args.inserts c.args.next.now.items (drop c.args.made (map vec_items c.args.texts.now)) (is_late c.args.client false false path) c.requires.client
    (sym (c.is_late.ensures path are) ∙ c.if-is_late.true)

pub returns : goal.returns
returns c path are =
    let at = slice_get_read c.args.texts.now (length c.args.texts.now) c.args.made c.index-texts-made.result refl (omega (arith, c.if-made-texts.false)) c.index-texts-made.is in
    let text : slice_get (map vec_items c.args.texts.now) c.args.made ≡ Some c.index-texts-made.result.items =
    slice_get-map vec_items c.args.texts.now c.args.made ∙ ap (option_map vec_items) at in
    some_edits c.args.machine.now c.args.client c.args.inserts c.args.made c.len-count.result c.args.next.now.items c.push_edits.new.next.items (map vec_items c.args.texts.now)
    c.index-texts-made.result.items c.document.result.now (is_late c.args.client false false path)
    (sym (c.is_late.ensures path are) ∙ c.if-is_late.false) text c.document.ensures c.len-count.ensures.value
    (c.in_ok-push_edits.ensures ∙ ap (λ (t : List ℕ). c.args.next.now.items ++ map (λ x. Edit c.args.client x) (forms t c.args.inserts c.len-count.result)) c.as_slice.ensures.value)

pub push_edits-requires : goal.push_edits-requires
push_edits-requires c =
    let many = length-map c.args.texts.now vec_items in
    let at = slice_get_read c.args.texts.now (length c.args.texts.now) c.args.made c.index-texts-made.result refl (omega (arith, c.if-made-texts.false)) c.index-texts-made.is in
    let text : slice_get (map vec_items c.args.texts.now) c.args.made ≡ Some c.index-texts-made.result.items =
    slice_get-map vec_items c.args.texts.now c.args.made ∙ ap (option_map vec_items) at in
    let short = text_short (map vec_items c.args.texts.now) c.args.made c.index-texts-made.result.items c.requires.short text in
    let same = ap length c.as_slice.ensures.value in
    let document = document_short c.args.machine.now c.args.client c.document.result.now c.clients-sound.ensures.sound c.requires.few.0 c.document.ensures in
    edit_within c.len-count.result c.args.inserts (length c.as_slice.result.now) (omega (arith, document, c.len-count.ensures.value)) c.requires.few.1 (omega (arith, short, same))
