-- Codes in order, few or many.
use Rattle.std.specs.Prelude.{List}
use Rattle.ot_codes.specs.declared.code.Code.{Code}
use Rattle.ot_codes.specs.declared.code_list.Held.{Held}
use Rattle.ot_codes.specs.declared.code_list.Held.TheVariants.{Few, Many}

-- the codes that are held
abbrev pub held_codes : Held → List Code
held_codes (Few few) = few
held_codes (Many blocks) = blocks.value
