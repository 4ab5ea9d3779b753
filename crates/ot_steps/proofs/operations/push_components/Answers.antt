use Rattle.std.proofs.Common.{◌≡◌, ◌++◌, sym, subst, string_bytes}
use Rattle.std.specs.Char.{encode_utf8}
use Rattle.ot_text.specs.Components.{run_of}
use Rattle.ot_steps.specs.Lettered.{array_text}
use Rattle.ot_steps.proofs.Texts.{on_ok}
use Rattle.ot_steps.proofs.Arrays.{first_and_others}
use Rattle.ot_steps.proofs.operations.push_components.Goals as goal

pub returns : goal.returns
unfolding encode_utf8
returns g c =
    let code = g.T.Letter.code in
    let old = string_bytes c.args.text.now in
    on_ok c.push_later.result
    (λ others.
    subst (λ rs. string_bytes c.push_later.new.text ≡ old ++ array_text code rs) (sym c.in-Some.ensures.steps)
    (first_and_others code (run_of c.in-Some.first) c.next.new.self old (string_bytes c.push.new.self) (string_bytes c.push_component.new.text) (string_bytes c.push_later.new.text)
    c.in_ok-push.ensures.bytes c.in_ok-push_component.ensures others))
    c.push_later.ensures
