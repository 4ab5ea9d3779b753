use Rattle.std.proofs.Common.{◌∙◌, ◌++◌, ap, string_bytes, List, ℕ}
use Rattle.std.specs.Char.{encode_utf8}
use Rattle.ot_text.specs.Components.{run_of}
use Rattle.ot_steps.proofs.Arrays.{all_written, gathered_more, none_gathered, on_push}
use Rattle.ot_steps.proofs.operations.push_later.Goals as goal

pub loop-component-init : goal.loop-component-init
loop-component-init g c =
    none_gathered g.T.Letter.code c.args.components c.into_iter-component-iterator.result (string_bytes c.args.text.now) _ c.into_iter-component-iterator.ensures.into_iter_gives c.requires

pub loop-component-preserved : goal.loop-component-preserved
loop-component-preserved g c =
    gathered_more g.T.Letter.code c.args.components c.loop-component.component-iterator c.next.new.self (run_of c.in-Some.component)
    (string_bytes c.args.text.now) (string_bytes c.loop-component.text) (string_bytes c.make_room.new.text) (string_bytes c.push_item.new.text)
    c.loop-component.bytes c.push_item.new.bytes c.loop-component.gathered c.in_ok-room.room c.in_ok-gathered.gathered
    c.in-Some.ensures.steps c.in_ok-room.ensures.same c.in_ok-gathered.ensures.item c.in_ok-gathered.ensures.ascii c.in_ok-gathered.ensures.within c.loop-component.invariant

pub returns : goal.returns
unfolding encode_utf8
returns g c =
    on_push c.push.result (string_bytes c.push.new.self) _ _ c.push.ensures.bytes
    (λ pushed.
    all_written g.T.Letter.code c.args.components c.loop-component.component-iterator (string_bytes c.args.text.now) (string_bytes c.loop-component.text)
    (string_bytes c.push_str.new.self) (string_bytes c.push.new.self) c.loop-component.bytes c.loop-component.gathered
    c.in-None.ensures.steps.0 (c.in_ok-push_str.ensures.bytes ∙ ap (λ (t : List ℕ). string_bytes c.loop-component.text ++ t) c.ascii_text.ensures) pushed c.loop-component.invariant)
