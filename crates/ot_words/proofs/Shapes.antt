-- The shapes of commands and arguments that are made step by step, over plain variables: a proof that cites a step does not write out the shape.
use Rattle.std.proofs.Common.{◌≡◌, ◌&&◌, Bool, Some, true, false, not, refl}
use Rattle.std.specs.Borrow.{Bor}
use Rattle.clap.specs.Words.{App, Rule, Text, new_rule, rule_of, with_rule}
use Rattle.clap.specs.declared.builder.action.ArgAction.{ArgAction}
use Rattle.clap.specs.declared.builder.action.ArgAction.TheVariants.{Set, SetTrue}
use Rattle.clap.specs.declared.builder.arg.Arg.{Arg}
use Rattle.clap.specs.declared.builder.texts.Texts.TheVariants.{One}
use Rattle.ot_words.specs.Requests.{flag_rule, option_rule}

abbrev pub plain_of : App → Bool
plain_of app = app.top.is_plain

-- of what all holds, the third does not
pub third_not : (a b c rest : Bool) → (a && (not b && (not c && rest))) ≡ true → c ≡ false
third_not a b false rest all = refl
third_not true false true rest all = absurd cc
third_not true true true rest all = absurd cc
third_not false b true rest all = absurd cc

-- what each setter makes of an argument's rule, and that it leaves whether the argument is one of the subcommands too
pub longed : (a b : Arg) (name : Bor Text) → b ≡ record a { long = Some name } → (rule_of b ≡ record (rule_of a) { long = Some name.now }) × (b.global ≡ a.global)
longed a b name is = rw is (refl, refl)

pub named : (a b : Arg) (name : Bor Text) → b ≡ record a { val_names = One name } → (rule_of b ≡ record (rule_of a) { value_names = 1 }) × (b.global ≡ a.global)
named a b name is = rw is (refl, refl)

pub acted : (a b : Arg) (action : ArgAction) → b ≡ record a { action = Some action } → (rule_of b ≡ record (rule_of a) { action = Some action }) × (b.global ≡ a.global)
acted a b action is = rw is (refl, refl)

pub helped : (a b : Arg) (help : Bor Text) → b ≡ record a { help = Some help } → (rule_of b ≡ rule_of a) × (b.global ≡ a.global)
helped a b help is = rw is (refl, refl)

-- the rules of a flag and of an option, from their setters' parts
pub flag_made : (new long action help : Rule) (flag : Text) → new ≡ new_rule flag → long ≡ record new { long = Some flag } → action ≡ record long { action = Some SetTrue } → help ≡ action
    → help ≡ flag_rule flag
flag_made new long action help flag is longs acts helps = rw (helps, acts, longs, is)

pub option_made : (new long value action help : Rule) (option : Text) → new ≡ new_rule option → long ≡ record new { long = Some option } → value ≡ record long { value_names = 1 }
    → action ≡ record value { action = Some Set } → help ≡ action → help ≡ option_rule option
option_made new long value action help option is longs names acts helps = rw (helps, acts, names, longs, is)

-- a command with a rule more, by another name of the rule
pub ruled : (before after : App) (made rule : Rule) → after ≡ with_rule before made → made ≡ rule → after ≡ with_rule before rule
ruled before after made rule adds is = rw (← is) adds
