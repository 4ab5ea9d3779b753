use Rattle.ot_json.proofs.PlainText.{string_text}
use Rattle.ot_json.proofs.plain.plain_part.Goals as goal

pub returns-in-Some-plain_string-clause-text : goal.returns-in-Some-plain_string-clause-text
returns-in-Some-plain_string-clause-text c =
    let found = c.in-Some-plain_string in
    (string_text c.args.bytes.now c.in-Some.below.now found.behind.now found.text.now c.in-Some.first.now c.in-Some.ensures.cases.0 c.in-34.is found.ensures.text found.ensures.utf8).0

pub returns-in-Some-plain_string-clause-form : goal.returns-in-Some-plain_string-clause-form
returns-in-Some-plain_string-clause-form c =
    let found = c.in-Some-plain_string in
    (string_text c.args.bytes.now c.in-Some.below.now found.behind.now found.text.now c.in-Some.first.now c.in-Some.ensures.cases.0 c.in-34.is found.ensures.text found.ensures.utf8).1
