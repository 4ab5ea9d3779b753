-- What an option gives, by the rows of the matches.
use Rattle.std.proofs.Common.{◌≡◌, sym, ◌∙◌, Some, None}
use Rattle.clap.proofs.WalkLemmas.{first_value-rows}
use Rattle.clap.specs.Words.{Text, first_of, first_value, rows_of}
use Rattle.clap.specs.declared.parser.matches.Found.{Found}

pub given : (f : Found) (id t : Text) → Some t ≡ first_value f id → first_of id (rows_of f) ≡ Some t
given f id t is = sym (first_value-rows f id) ∙ sym is

pub missing : (f : Found) (id : Text) → None ≡ first_value f id → first_of id (rows_of f) ≡ None
missing f id is = sym (first_value-rows f id) ∙ sym is
