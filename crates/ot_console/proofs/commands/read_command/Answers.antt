use Rattle.std.proofs.Common.{sym, ◌∙◌}
use Rattle.ot_console.proofs.Splitting.{of_one, of_two, of_three, of_more}
use Rattle.ot_console.proofs.commands.read_command.Goals as goal

pub returns-then-is_empty : goal.returns-then-is_empty
returns-then-is_empty c =
    of_one c.args.line.now c.trimmed.result.now c.split_word.result.0.now c.split_word.result.1.now c.bare_command.result c.trimmed.ensures
    (record { word_is = c.split_word.ensures.word; rest_is = c.split_word.ensures.rest })
    (sym c.is_empty.ensures ∙ c.if-is_empty.true)
    c.bare_command.ensures

pub returns-then-is_empty-2 : goal.returns-then-is_empty-2
returns-then-is_empty-2 c =
    of_two c.args.line.now c.trimmed.result.now c.split_word.result.0.now c.split_word.result.1.now c.split_word-2.result.0.now c.split_word-2.result.1.now c.two_words.result c.trimmed.ensures
    (record { word_is = c.split_word.ensures.word; rest_is = c.split_word.ensures.rest })
    (sym c.is_empty.ensures ∙ c.if-is_empty.false)
    (record { word_is = c.split_word-2.ensures.word; rest_is = c.split_word-2.ensures.rest })
    (sym c.is_empty-2.ensures ∙ c.if-is_empty-2.true)
    c.two_words.ensures

pub returns-then-is_empty-3 : goal.returns-then-is_empty-3
returns-then-is_empty-3 c =
    of_three c.args.line.now c.trimmed.result.now c.split_word.result.0.now c.split_word.result.1.now c.split_word-2.result.0.now c.split_word-2.result.1.now c.split_word-3.result.0.now c.split_word-3.result.1.now c.three_words.result c.trimmed.ensures
    (record { word_is = c.split_word.ensures.word; rest_is = c.split_word.ensures.rest })
    (sym c.is_empty.ensures ∙ c.if-is_empty.false)
    (record { word_is = c.split_word-2.ensures.word; rest_is = c.split_word-2.ensures.rest })
    (sym c.is_empty-2.ensures ∙ c.if-is_empty-2.false)
    (record { word_is = c.split_word-3.ensures.word; rest_is = c.split_word-3.ensures.rest })
    (sym c.is_empty-3.ensures ∙ c.if-is_empty-3.true)
    c.three_words.ensures

pub returns : goal.returns
returns c =
    of_more c.args.line.now c.trimmed.result.now c.split_word.result.0.now c.split_word.result.1.now c.split_word-2.result.0.now c.split_word-2.result.1.now c.split_word-3.result.0.now c.split_word-3.result.1.now c.trimmed.ensures
    (record { word_is = c.split_word.ensures.word; rest_is = c.split_word.ensures.rest })
    (sym c.is_empty.ensures ∙ c.if-is_empty.false)
    (record { word_is = c.split_word-2.ensures.word; rest_is = c.split_word-2.ensures.rest })
    (sym c.is_empty-2.ensures ∙ c.if-is_empty-2.false)
    (record { word_is = c.split_word-3.ensures.word; rest_is = c.split_word-3.ensures.rest })
    (sym c.is_empty-3.ensures ∙ c.if-is_empty-3.false)
